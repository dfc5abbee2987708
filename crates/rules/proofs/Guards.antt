-- What a guard's verdict says of every call that asks the same: `verdict-refused`, `verdict-done`; and that all is so where nothing
-- refuses: `all-met`. Of the three calls: `read-refused`, `read-allowed`, `walk_refused`, `walk-allowed`, `write-refused`, `write_allowed`.
use Prim.Native.Nat.{ℕ, suc}
use mathlib.Core.Path.{◌≡◌, ap}
use mathlib.Core.List.{List}
use mathlib.Core.Bool.{cond, not, ◌||◌}
use native.Mathlib.Omega.{arith}
use lib.ListN.{length, take}
use lib.Dec.{eqb, ltb}
use Rattle.rules.specs.declared.Refusal.{Refusal}
use Rattle.rules.specs.declared.Refusal.TheVariants.{Length, Room}
use Rattle.std.proofs.Common.{Ok, Err}
use Rattle.rules.specs.Refusals.{Asked, Ending, judged, verdict}
use Rattle.rules.specs.Tools.{is_length, reader_asks, writer_asks}
use Rattle.rules.specs.Bits.{bits_of, octets_for}
use Rattle.rules.specs.Samples.{mask_of}
use Rattle.rules.specs.Reading.{Reader, refuse, fail}
use Rattle.rules.specs.Frame.{Found, frame, read_one}
use Rattle.rules.specs.Chooses.{wrote, declined, chosen, write_one}
use Rattle.rules.specs.Walk.{stopped, walk_from, walk_asks, walk_all}
use Rattle.rules.proofs.Judged.{AllMet, judged-met, judged-first, Apart, judged-passes, judged-refuses}

-- how a call ends: done, or with a refusal
pub endings : Apart {W = Refusal} {A = Ending} Err (Ok tt)
endings = record {
  other = λ w e. let z : ◌≡◌ {A = ℕ} 0 1 = cc in omega arith;
  same = λ v w e. cc;
}

module _ {A : Type 0} (refused : Refusal → A) (next : A) where
  pub verdict-refused : (asked : List Asked) {why : Refusal} → verdict asked ≡ Err why → judged asked refused next ≡ refused why
  verdict-refused asked {why} e = judged-first refused next asked ((judged-refuses endings asked why).0 e)

  pub verdict-done : (asked : List Asked) → verdict asked ≡ Ok tt → judged asked refused next ≡ next
  verdict-done asked e = judged-met refused next asked ((judged-passes endings asked).0 e)

pub all-met : (asked : List Asked) → verdict asked ≡ Ok tt → AllMet asked
all-met asked e = (judged-passes endings asked).0 e

module _ (octets : List ℕ) (law set room : ℕ) where
  pub read-refused : {why : Refusal} → verdict (reader_asks law set) ≡ Err why → read_one octets law set room ≡ refuse why 0
  unfolding read_one
  read-refused e =
      ap (λ (r : Reader Found). r (bits_of octets) 0)
      (verdict-refused (λ why. fail why 0) (frame (mask_of law) set room) (reader_asks law set) e)

  pub read-allowed : verdict (reader_asks law set) ≡ Ok tt → read_one octets law set room ≡ frame (mask_of law) set room (bits_of octets) 0
  unfolding read_one
  read-allowed e =
      ap (λ (r : Reader Found). r (bits_of octets) 0) (verdict-done (λ why. fail why 0) (frame (mask_of law) set room) (reader_asks law set) e)

  pub walk_refused : {why : Refusal} → verdict (walk_asks law set (length octets)) ≡ Err why
      → walk_all octets law set room ≡ stopped (Err why) 0 0
  unfolding walk_all
  walk_refused e = verdict-refused (λ why. stopped (Err why) 0 0) _ (walk_asks law set (length octets)) e

  pub walk-allowed : verdict (walk_asks law set (length octets)) ≡ Ok tt
      → walk_all octets law set room ≡ walk_from (suc (length octets)) octets law set 0 room
  unfolding walk_all
  walk-allowed e = verdict-done (λ why. stopped (Err why) 0 0) _ (walk_asks law set (length octets)) e

module _ (n : ℕ) (samples : List ℕ) (law set room : ℕ) where
  pub write-refused : {why : Refusal} → verdict (writer_asks law set) ≡ Err why → write_one n samples law set room ≡ declined why
  unfolding write_one
  write-refused e = verdict-refused declined _ (writer_asks law set) e

  -- LENGTH and ROOM are left
  pub write_allowed : verdict (writer_asks law set) ≡ Ok tt → write_one n samples law set room
      ≡ cond (not (eqb n 0 || is_length n)) (declined Length)
      (cond (ltb room (octets_for (length (chosen (mask_of law) set (take n samples)).bits))) (declined Room)
      (wrote (chosen (mask_of law) set (take n samples))))
  unfolding write_one
  write_allowed e = verdict-done declined _ (writer_asks law set) e
