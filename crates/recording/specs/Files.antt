-- Document 02, R-1: a file written, from frames and losses. "What is written reads back as the same list of frames and losses."
use Rattle.std.specs.Prelude.{ℕ, ◌-◌, List, [], ◌∷◌, ◌++◌, Bool, cond, ◌&&◌, ◌||◌, length, take, drop, replicate, eqb, leb, ltb}
use Rattle.rules.specs.declared.Refusal.TheVariants as rules
use Rattle.rules.specs.Judged.{ask, bar, judged}
use Rattle.rules.specs.Tools.{writer_asks, is_length}
use Rattle.rules.specs.Bits.{pack}
use Rattle.rules.specs.Samples.{mask_of}
use Rattle.rules.specs.Chooses.{chosen}
use Rattle.rules.specs.Walk.{longest}
use Rattle.recording.specs.declared.Refusal.{Refusal}
use Rattle.recording.specs.declared.Refusal.TheVariants.{Frame}
use Rattle.recording.specs.Remembered.{heading_of, lost_octet, plus_plus}
use Rattle.recording.specs.Items.{loss_from}

-- what is to be written: a frame, or a loss with its length, 0 where it is not known
pub data Entry : Type 0 where
  frame : List ℕ → Entry
  loss : ℕ → Entry

-- "A loss of N samples is written as the writer's chosen form of N times 0++, a loss of unknown length as 01."
abbrev pub entry_octets : ℕ → ℕ → Entry → List ℕ
entry_octets mask set (frame s) = pack (chosen mask set s).bits
entry_octets mask set (loss n) = cond (eqb n 0) (lost_octet ∷ []) (pack (chosen mask set (replicate n (plus_plus mask))).bits)

unfoldable pub entries_octets : ℕ → ℕ → List Entry → List ℕ
entries_octets mask set [] = []
entries_octets mask set (e ∷ es) = entry_octets mask set e ++ entries_octets mask set es

abbrev pub file_octets : ℕ → ℕ → List Entry → List ℕ
file_octets law set es = heading_of law ++ entries_octets (mask_of law) set es

-- the entries that numbers of 16 bits and samples are, or that they are none: "an item that is neither a length nor 32768 plus one of the
-- six lengths, or frames whose samples together are not exactly the samples given"
pub data Given : Type 0 where
  given : List Entry → Given
  wrong : Given

abbrev pub six_lengths : ℕ → Bool
six_lengths n = eqb n 0 || is_length n

abbrev pub with_entry : Entry → Given → Given
with_entry e (given es) = given (e ∷ es)
with_entry e wrong = wrong

unfoldable pub given_by : List ℕ → List ℕ → Given
given_by [] [] = given []
given_by [] (x ∷ samples) = wrong
given_by (c ∷ cells) samples =
    cond (six_lengths c) (cond (ltb (length samples) c) wrong (with_entry (frame (take c samples)) (given_by cells (drop c samples))))
    (cond (leb loss_from c && six_lengths (c - loss_from)) (with_entry (loss (c - loss_from)) (given_by cells samples)) wrong)

-- what is written, or why not
pub data Filed : Type 0 where
  filed : List ℕ → Filed
  declined : Refusal → Filed

abbrev pub sized : List ℕ → ℕ → ℕ → Filed
sized octets after room =
    judged (ask (Frame rules.Long) (leb after longest) ∷ bar (Frame rules.Room) (ltb room (length octets)) ∷ []) declined (filed octets)

abbrev pub file_given : ℕ → ℕ → Given → ℕ → Filed
file_given law set wrong room = declined (Frame rules.Length)
file_given law set (given es) room = sized (file_octets law set es) (length (entries_octets (mask_of law) set es)) room

-- "LAW, SET, LENGTH .., LONG, ROOM (heading and all)"
unfoldable pub write_file : List ℕ → List ℕ → ℕ → ℕ → ℕ → Filed
write_file samples cells law set room =
    judged (writer_asks law set) (λ why. declined (Frame why)) (file_given law set (given_by cells samples) room)
