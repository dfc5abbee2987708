-- The heading of a WAV file as the bench tools take it: `RIFF`, a length, `WAVE`, then chunks up to the one of the sound, `data`.
-- Numbers have their low octet first. The format is PCM (1), 1 channel, 8,000 Hz, 16 bits. Other chunks are skipped.
use Rattle.std.specs.Prelude.{ℕ, zero, suc, ◌+◌, ◌-◌, ◌*◌, ◌/◌, ◌%◌, Bool, true, false, cond, ◌&&◌}
use Rattle.std.specs.Prelude.{List, [], ◌∷◌, eqb, ltb, length, get_or, Result, Ok, Err}
use Rattle.tool_sound.specs.declared.wave.Heading.{Heading}
use Rattle.tool_sound.specs.declared.wave.Heading.TheVariants.{More, Sound}
use Rattle.tool_sound.specs.declared.wave.Wrong.{Wrong}
use Rattle.tool_sound.specs.declared.wave.Wrong.TheVariants.{NotWave, Format, Channels, Rate, Bits, ShortFormat, NoFormat, OddSound}
use Rattle.tool_sound.specs.declared.wave.Wrong.TheVariants.{ManyChunks}
use Rattle.tool_sound.specs.declared.wave.Step.{Step}
use Rattle.tool_sound.specs.declared.wave.Step.TheVariants.{On, Ends}

-- two octets, and four, at a place
unfoldable pub half_at : List ℕ → ℕ → ℕ
half_at l at = get_or l at 0 + 256 * get_or l (at + 1) 0

unfoldable pub word_at : List ℕ → ℕ → ℕ
word_at l at = half_at l at + 65536 * half_at l (at + 2)

-- the names as numbers: `RIFF`, `WAVE`, `fmt `, `data`
abbrev pub riff_name : ℕ
riff_name = 0x46464952

abbrev pub wave_name : ℕ
wave_name = 0x45564157

abbrev pub format_name : ℕ
format_name = 0x20746D66

abbrev pub data_name : ℕ
data_name = 0x61746164

-- the format that begins at a place, in a chunk of this size: the heading goes on, or it is refused with what it is
abbrev pub format_at : List ℕ → ℕ → ℕ → Result Step Wrong
format_at l at size =
    cond (eqb (half_at l at) 1)
    (cond (eqb (half_at l (at + 2)) 1)
    (cond (eqb (word_at l (at + 4)) 8000)
    (cond (eqb (half_at l (at + 14)) 16) (Ok (On size true)) (Err (Bits (half_at l (at + 14)))))
    (Err (Rate (word_at l (at + 4)))))
    (Err (Channels (half_at l (at + 2)))))
    (Err (Format (half_at l at)))

-- the sound of so many octets, after a format and of whole samples
abbrev pub sound_of : Bool → ℕ → Result Heading Wrong
sound_of seen size = cond seen (cond (eqb (size % 2) 0) (Ok (Sound size)) (Err (OddSound size))) (Err NoFormat)

-- the format's chunk: the format is in its first 16 octets
abbrev pub format_in : List ℕ → ℕ → ℕ → Result Step Wrong
format_in l at size =
    cond (ltb size 16) (Err (ShortFormat size))
    (cond (ltb (length l) (at + 24)) (Ok (Ends (More (at + 24 - length l)))) (format_at l (at + 8) size))

abbrev pub ended : Result Heading Wrong → Result Step Wrong
ended (Ok h) = Ok (Ends h)
ended (Err why) = Err why

-- a chunk that begins at a place: the sound, the format, or one to skip
abbrev pub step_at : List ℕ → ℕ → Bool → Result Step Wrong
step_at l at seen =
    cond (ltb (length l) (at + 8)) (Ok (Ends (More (at + 8 - length l))))
    (cond (eqb (word_at l at) data_name) (ended (sound_of seen (word_at l (at + 4))))
    (cond (eqb (word_at l at) format_name) (format_in l at (word_at l (at + 4)))
    (Ok (On (word_at l (at + 4)) seen))))

-- where the chunk after one of this size begins: a chunk of an odd size has an octet more
abbrev pub after : ℕ → ℕ → ℕ
after at size = at + 8 + size + size % 2

abbrev pub onward : ℕ → Result Step Wrong → (ℕ → Bool → Result Heading Wrong) → Result Heading Wrong
onward at (Ok (On size seen)) f = f (after at size) seen
onward at (Ok (Ends h)) f = Ok h
onward at (Err why) f = Err why

-- so many chunks at most
unfoldable pub chunks_from : ℕ → List ℕ → ℕ → Bool → Result Heading Wrong
chunks_from zero l at seen = Err ManyChunks
chunks_from (suc left) l at seen = onward at (step_at l at seen) (chunks_from left l)

abbrev pub most_chunks : ℕ
most_chunks = 32

-- the heading at the start of these octets; `More` where it needs so many octets more to be told
abbrev pub heading_of : List ℕ → Result Heading Wrong
heading_of l =
    cond (ltb (length l) 12) (Ok (More (12 - length l)))
    (cond (eqb (word_at l 0) riff_name && eqb (word_at l 8) wave_name) (chunks_from most_chunks l 12 false) (Err NotWave))

-- a number as four octets, and before others
abbrev pub word_then : ℕ → List ℕ → List ℕ
word_then n rest = n % 256 ∷ n / 256 % 256 ∷ n / 256 / 256 % 256 ∷ n / 256 / 256 / 256 % 256 ∷ rest

-- the 44 octets that are written before a sound of so many octets
abbrev pub heading_for : ℕ → List ℕ
heading_for n =
    word_then riff_name
    (word_then (n + 36)
    (word_then wave_name
    (word_then format_name
    (word_then 16
    (1 ∷ 0 ∷ 1 ∷ 0 ∷
    word_then 8000
    (word_then 16000
    (2 ∷ 0 ∷ 16 ∷ 0 ∷
    word_then data_name
    (word_then n []))))))))
