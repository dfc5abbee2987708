-- Item by item it is g7110_file_read's list. Main statements: `items` (calls one after another, each lent the room left, are the reading of
-- the items from a place on, refusals and their places too), `whole-file` (so of a whole file, and its sound), `one-output` (the same output
-- of 320 octets or more, lent to every call, serves as well).
use Prim.Native.Nat.{ℕ, zero, suc, ◌+◌, ◌*◌, ◌-◌, ◌≤◌}
use native.Mathlib.Omega.{arith}
use mathlib.Core.Path.{◌≡◌, refl, sym, ap, ◌∙◌}
use mathlib.Core.List.{List}
use mathlib.Core.Bool.{Bool, true, false, cond}
use lib.ListN.{length, get_or, drop, length-drop}
use lib.Dec.{eqb, leb}
use borrow.Author.Tests.{leb-true, leb-false, le-leb}
use Rattle.rules.specs.declared.Refusal.TheVariants as rule
use Rattle.std.proofs.Common.{Ok}
use Rattle.rules.specs.Refusals.{verdict}
use Rattle.rules.specs.Samples.{mask_of}
use Rattle.rules.specs.Tools.{all_tools}
use Rattle.rules.specs.Reading.{Read}
use Rattle.rules.specs.Frame.{Found}
use Rattle.rules.specs.Walk.{longest, walk_asks}
use Rattle.rules.proofs.Room.{read-room}
use Rattle.recording.specs.declared.Refusal.TheVariants.{Frame}
use Rattle.recording.specs.Remembered.{heading, headed, heading_length, lost_octet}
use Rattle.recording.specs.Items.{Item, lost, Recorded, stopped, before, items_from, read_file, sound_of}
use Rattle.recording_read.specs.Turns.{Step, takes, stops, item_step}
use Rattle.recording_read.proofs.Steps.{by_step, rest_from, items-ended, items-step}
use Rattle.recording_read.proofs.Whole.{headed-law, file-whole}
use Rattle.recording_next.specs.Next.{Piece, found, refused, piece_of, item_here, next_of}
use Rattle.recording_next.specs.Followed.{by_piece, followed, played}
use Rattle.recording_next.proofs.Pieces.{next-short, next_here, piece-step, Least, least-here}

module _ (octets : List ℕ) (law set : ℕ) (ok : verdict (walk_asks law set (length octets)) ≡ Ok tt) where
  -- "item by item it is g7110_file_read's list"
  pub items : (n at room places : ℕ) → n ≤ places → followed n octets law set at room ≡ items_from n octets law set at room places
  unfolding followed items_from
  items zero at room places h = refl
  items (suc n) at room places h = go (leb (length octets) at) refl (λ a r. items n a r (places - 1) (omega arith))
    where
      Later : Type 0
      Later = (a r : ℕ) → followed n octets law set a r ≡ items_from n octets law set a r (places - 1)

      both : (s : Step) → Later → by_step s at (λ i used. before i (followed n octets law set (at + used) (room - length (sound_of i))))
          ≡ by_step s at (rest_from octets law set n at room places)
      both (takes i used) later = ap (before i) (later (at + used) (room - length (sound_of i)))
      both (stops w bit) later = refl

      go : (b : Bool) → leb (length octets) at ≡ b → Later → cond b (stopped (Ok tt) at 0) (by_piece (next_of octets at law set room) at
          (λ i used. before i (followed n octets law set (at + used) (room - length (sound_of i)))))
          ≡ items_from (suc n) octets law set at room places
      go true e later = sym (items-ended octets law set (suc n) at room places (leb-true (length octets) at e))
      go false e later =
          let l = leb-false (length octets) at e in
          rw (← (next_here octets at law set room ok l)) (piece-step octets law set at room _
          ∙ both (item_step octets law set at room) later ∙ sym (items-step octets law set (suc n) n at room places refl l (omega arith)))

  -- every room of 320 or more tells the same of an item
  pub next-roomy : (at room : ℕ) → 320 ≤ room → next_of octets at law set room ≡ next_of octets at law set 320
  next-roomy at room h = go (leb (length octets) at) refl
    where
      go : (b : Bool) → leb (length octets) at ≡ b → next_of octets at law set room ≡ next_of octets at law set 320
      go true e =
          let l = leb-true (length octets) at e in
          sym (next-short octets at law set room ok l) ∙ next-short octets at law set 320 ok l
      go false e =
          let l = leb-false (length octets) at e in
          sym (next_here octets at law set room ok l) ∙ ap (λ (m : Read Found). cond (eqb (get_or octets at 0) lost_octet) (found (lost 0) 1 0)
          (piece_of (mask_of law) m)) (read-room (drop at octets) law set room h) ∙ next_here octets at law set 320 ok l

  -- an item's sound is at most 320 samples
  few-sound : (at room : ℕ) {i : Item} {used t : ℕ} → next_of octets at law set room ≡ found i used t → length (sound_of i) ≤ 320
  few-sound at room {i} {used} {t} e = go (leb (length octets) at) refl
    where
      of : (p : Piece) → Least p → p ≡ found i used t → length (sound_of i) ≤ 320
      of (found j k u) h q = let same : j ≡ i = cc in rw (← same) h
      of (refused w bit) h q = let z : ◌≡◌ {A = ℕ} 0 1 = cc in absurd (omega arith)

      go : (b : Bool) → leb (length octets) at ≡ b → length (sound_of i) ≤ 320
      go true q =
          of (refused (Frame rule.Short) 0) tt (next-short octets at law set room ok (leb-true (length octets) at q) ∙ e)
      go false q =
          of (item_here octets law set at room) (least-here octets law set at room)
          (next_here octets at law set room ok (leb-false (length octets) at q) ∙ e)

  -- one output for all calls, of 320 octets or more, as long as the list has room for all
  pub one-output : (n at room more : ℕ) → 320 ≤ room → 320 * n ≤ more → played n octets law set at room ≡ followed n octets law set at more
  unfolding played followed
  one-output zero at room more h k = refl
  one-output (suc n) at room more h k = go (leb (length octets) at) (λ a m l. one-output n a room m h l)
    where
      Later : Type 0
      Later = (a m : ℕ) → 320 * n ≤ m → played n octets law set a room ≡ followed n octets law set a m

      here : next_of octets at law set room ≡ next_of octets at law set more
      here = next-roomy at room h ∙ sym (next-roomy at more (omega arith))

      rest : (p : Piece) → next_of octets at law set more ≡ p → Later
          → by_piece p at (λ i used. before i (played n octets law set (at + used) room))
          ≡ by_piece p at (λ i used. before i (followed n octets law set (at + used) (more - length (sound_of i))))
      rest (found i used t) e later =
          ap (before i) (later (at + used) (more - length (sound_of i)) (omega (arith, few-sound at more e)))
      rest (refused w bit) e later = refl

      go : (b : Bool) → Later → cond b (stopped (Ok tt) at 0) (by_piece (next_of octets at law set room) at
          (λ i used. before i (played n octets law set (at + used) room)))
          ≡ cond b (stopped (Ok tt) at 0) (by_piece (next_of octets at law set more) at
          (λ i used. before i (followed n octets law set (at + used) (more - length (sound_of i)))))
      go true later = refl
      go false later = rw here (rest (next_of octets at law set more) refl later)

-- a whole file: what g7110_file_read reads is what the calls behind its heading tell, one after another
pub whole-file : (file : List ℕ) (law set room places : ℕ) → set ≤ all_tools → headed file ≡ heading law
    → length file - heading_length ≤ longest → suc (length file - heading_length) ≤ places
    → read_file file set room places
    ≡ record { law = law; read = followed (suc (length file - heading_length)) (drop heading_length file) law set 0 room }
whole-file file law set room places s e h p =
    let d : length (drop heading_length file) ≡ length file - heading_length = length-drop heading_length file in
    let ok : verdict (walk_asks law set (length (drop heading_length file))) ≡ Ok tt
    = rw (d, headed-law file e, le-leb set all_tools s, le-leb (length file - heading_length) longest h) refl in
    file-whole file set room places s law e h
    ∙ ap (λ (r : Recorded). record { law = law; read = r })
    (sym (items (drop heading_length file) law set ok (suc (length file - heading_length)) 0 room places p))
