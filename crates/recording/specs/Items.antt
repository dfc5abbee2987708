-- Document 02, R-1: a file read. "heading with version and law, frames, and the RFC's mark for a lost frame"; "A lost frame is handed on as
-- lost, never as silence"; "LONG count[s] from the end of the heading"; "HEAD (14) for a wrong or cut heading, after SET and before LONG".
use Rattle.std.specs.Prelude.{ℕ, zero, suc, ◌+◌, ◌-◌, List, [], ◌∷◌, ◌++◌, cond, length, get_or, drop, eqb, leb}
use Rattle.rules.specs.declared.Refusal.TheVariants as rules
use Rattle.rules.specs.Judged.{ask, judged}
use Rattle.rules.specs.Tools.{is_set}
use Rattle.rules.specs.Samples.{mask_of}
use Rattle.rules.specs.Reading.{Read, whole, refuse}
use Rattle.rules.specs.Frame.{Found, octets_used, read_one}
use Rattle.rules.specs.Walk.{longest}
use Rattle.recording.specs.declared.Refusal.{Refusal}
use Rattle.recording.specs.declared.Refusal.TheVariants.{Head, Frame}
use Rattle.recording.specs.Endings.{Ending}
use Rattle.std.specs.Prelude.{Ok, Err}
use Rattle.recording.specs.Remembered.{Headed, heading, no_heading, headed, heading_length, lost_octet, erased}

-- a frame, or a loss with its length, 0 where it is not known
pub data Item : Type 0 where
  sound : Found → Item
  lost : ℕ → Item

-- the items delivered, how it ended, the place of the refused item (of a clean end the octets), counted from the heading's end, and its bit
pub record Recorded : Type 0 where
  pub items : List Item
  pub end : Ending
  pub place : ℕ
  pub bit : ℕ

abbrev pub stopped : Ending → ℕ → ℕ → Recorded
stopped end place bit = record { items = []; end = end; place = place; bit = bit }

abbrev pub before : Item → Recorded → Recorded
before i r = record { items = i ∷ r.items; end = r.end; place = r.place; bit = r.bit }

-- what a frame is in a file, and the room that it takes: a loss is no sound
abbrev pub item_of : ℕ → Found → Item
item_of mask f = cond (erased mask f.samples) (lost (length f.samples)) (sound f)

abbrev pub room_taken : ℕ → Found → ℕ
room_taken mask f = cond (erased mask f.samples) 0 (length f.samples)

abbrev pub after_read : Read Found → ℕ → (Found → Recorded) → Recorded
after_read (whole f i) at next = next f
after_read (refuse w bit) at next = stopped (Err (Frame w)) at bit

-- Item after item from place `at` on, as in `walk_from`: room for so many samples, and for so many items, "judged before that item is
-- looked at".
unfoldable pub items_from : ℕ → List ℕ → ℕ → ℕ → ℕ → ℕ → ℕ → Recorded
items_from zero octets law set at room places = stopped (Ok tt) at 0
items_from (suc more) octets law set at room places =
    cond (leb (length octets) at) (stopped (Ok tt) at 0)
    (cond (eqb places 0) (stopped (Err (Frame rules.Room)) at 0)
    (cond (eqb (get_or octets at 0) lost_octet)
    (before (lost 0) (items_from more octets law set (at + 1) room (places - 1)))
    (after_read (read_one (drop at octets) law set room) at
    (λ f. before (item_of (mask_of law) f)
    (items_from more octets law set (at + octets_used f) (room - room_taken (mask_of law) f) (places - 1))))))

-- a file: its law, 0 where there is none, and what was read
pub record File : Type 0 where
  pub law : ℕ
  pub read : Recorded

abbrev pub nothing : Refusal → ℕ → File
nothing why law = record { law = law; read = stopped (Err why) 0 0 }

abbrev pub by_heading : Headed → File → (ℕ → File) → File
by_heading no_heading none next = none
by_heading (heading law) none next = next law

-- "SET, HEAD, LONG (octets after the heading above the walk's limit), then item by item"
unfoldable pub read_file : List ℕ → ℕ → ℕ → ℕ → File
read_file octets set room places =
    judged (ask (Frame rules.Set) (is_set set) ∷ []) (λ why. nothing why 0)
    (by_heading (headed octets) (nothing Head 0) (λ law.
    judged (ask (Frame rules.Long) (leb (length octets - heading_length) longest) ∷ []) (λ why. nothing why law)
    (record { law = law; read = items_from (suc (length octets - heading_length)) (drop heading_length octets) law set 0 room places })))

-- the sound of a file: "Nothing is written to the output for a loss"
abbrev pub sound_of : Item → List ℕ
sound_of (sound f) = f.samples
sound_of (lost n) = []

unfoldable pub sound_in : List Item → List ℕ
sound_in [] = []
sound_in (i ∷ is) = sound_of i ++ sound_in is

-- an item as a number of 16 bits: a frame is its number of samples, a loss 32768 + its length
abbrev pub loss_from : ℕ
loss_from = 32768

abbrev pub cell_of : Item → ℕ
cell_of (sound f) = length f.samples
cell_of (lost n) = loss_from + n
