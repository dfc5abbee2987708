-- Document 01, "Marked cases": P1 to P16 as one list, and what each says. Their claim is proved in proofs/Marked.
-- Mu-law; set 127 unless said; the room is 320 for a reader and 321 for a writer.
use Rattle.std.specs.Prelude.{ℕ, zero, suc, ◌≡◌, List, [], ◌∷◌, ◌++◌, length, replicate}
use Rattle.rules.specs.Refusals.{number_of}
use Rattle.rules.specs.Bits.{pack}
use Rattle.rules.specs.Frame.{read_one}
use Rattle.rules.specs.Chooses.{rice_bits, octets_of_form, write_one}
use Rattle.rules.specs.Calls.{read_end, read_samples, read_octets, read_bits, read_tool, write_end, written_bits, write_tool}

-- what a reading reports: number, samples, octets, bits, tool
pub record Report : Type 0 where
  pub number : ℕ
  pub samples : List ℕ
  pub octets : ℕ
  pub bits : ℕ
  pub tool : ℕ

abbrev pub reported : List ℕ → Report
reported octets =
    let r = read_one octets 1 127 320 in
    record { number = number_of (read_end r); samples = read_samples r; octets = read_octets r; bits = read_bits r; tool = read_tool r }

-- a refusal reports its number, and the tool that it names
abbrev pub refusal : ℕ → ℕ → Report
refusal n t = record { number = n; samples = []; octets = 0; bits = 0; tool = t }

abbrev pub found : ℕ → List ℕ → ℕ → ℕ → Report
found t s o b = record { number = 0; samples = s; octets = o; bits = b; tool = t }

pub data Case : Type 0 where
  -- octets, and what reading them reports
  reads : List ℕ → Report → Case
  -- a frame and a writer's set; the octets written, the bits, the tool. The octets are read back too
  writes : List ℕ → ℕ → List ℕ → ℕ → ℕ → Case
  -- a frame, a tool, and the octets that the tool would need
  needs : List ℕ → ℕ → ℕ → Case
  -- a frame of more plus zeros, S, and the bits of S code and runs
  takes : List ℕ → ℕ → ℕ → Case

-- n plus zeros, n minus zeros, and plus and minus zeros in turn, n of each
abbrev pub plus : ℕ → List ℕ
plus n = replicate n 0xFF

abbrev pub minus : ℕ → List ℕ
minus n = replicate n 0x7F

abbrev pub in_turn : ℕ → List ℕ
in_turn zero = []
in_turn (suc n) = 0xFF ∷ 0x7F ∷ in_turn n

-- what a case says
abbrev pub Says : Case → Type 0
Says (reads octets r) = reported octets ≡ r
Says (writes s set octets b t) =
    let w = write_one (length s) s 1 set 321 in
    (number_of (write_end w) ≡ 0) × (pack (written_bits w) ≡ octets) × (length (written_bits w) ≡ b) × (write_tool w ≡ t)
    × (reported octets ≡ found t s (length octets) b)
Says (needs s t octets) = octets_of_form 0x7F s t ≡ octets
Says (takes s p b) = rice_bits 0x7F 0 s p ≡ b

abbrev pub All : List Case → Type 0
All [] = Unit {0}
All (c ∷ cs) = Says c × All cs

abbrev pub marked : List Case
marked =
    -- P1
    reads (0x41 ∷ []) (found 2 (plus 40) 1 8)
    -- P2
    ∷ reads (0x22 ∷ []) (found 3 (minus 240) 1 8)
    -- P3
    ∷ reads (0x00 ∷ []) (found 0 [] 1 8)
    -- P4
    ∷ reads [] (refusal 1 0)
    -- P5
    ∷ reads (0x46 ∷ []) (refusal 2 0)
    -- P6
    ∷ writes (in_turn 20) 127 (0x44 ∷ 0x55 ∷ 0x55 ∷ 0x55 ∷ 0x55 ∷ 0x55 ∷ []) 48 5
    ∷ needs (in_turn 20) 6 6
    -- P7
    ∷ writes (plus 39 ++ minus 1) 127 (0x56 ∷ 0x0F ∷ []) 16 6
    ∷ takes (plus 39 ++ minus 1) 3 11
    ∷ takes (plus 39 ++ minus 1) 4 11
    ∷ takes (plus 39 ++ minus 1) 5 11
    -- P8
    ∷ writes (plus 40) 33 (0x57 ∷ 0x18 ∷ []) 16 6
    -- P9
    ∷ reads (0x57 ∷ 0x19 ∷ []) (refusal 7 0)
    -- P10
    ∷ writes (0xFE ∷ plus 79) 127 (0x86 ∷ 0xFC ∷ 0x00 ∷ []) 23 7
    -- P11
    ∷ reads (0x86 ∷ 0xFC ∷ 0x01 ∷ []) (refusal 9 0)
    -- P12
    ∷ reads (0x86 ∷ 0xDC ∷ []) (refusal 5 0)
    -- P13
    ∷ reads (0x86 ∷ 0xF8 ∷ []) (refusal 6 0)
    -- P14
    ∷ reads (0x86 ∷ 0xFC ∷ 0xFE ∷ []) (refusal 8 0)
    -- P15
    ∷ reads (0x28 ∷ 0x00 ∷ []) (refusal 3 8)
    -- P16
    ∷ reads (0x28 ∷ []) (refusal 1 0)
    ∷ []
