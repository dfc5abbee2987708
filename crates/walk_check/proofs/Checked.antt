-- A check is the walk with room for 320 samples an octet, or more (`check-walks`).
-- As the code goes: `check-refused`, `check-allowed`. No second answer: `only-check`.
use Prim.Native.Nat.{ℕ, suc, ◌*◌, ◌≤◌}
use native.Mathlib.Omega.{arith}
use mathlib.Core.Path.{◌≡◌, refl, sym, ◌∙◌}
use mathlib.Core.List.{List}
use lib.ListN.{length}
use Rattle.rules.specs.declared.Refusal.{Refusal}
use Rattle.rules.specs.Refusals.{Ending}
use Rattle.std.proofs.Common.{Ok, Err}
use Rattle.rules.specs.Refusals.{verdict}
use Rattle.rules.specs.declared.WalkAnswer.{WalkAnswer}
use Rattle.rules.specs.Walk.{Walked, stopped, walk_from, walk_asks, walk_all, octets_kept, samples_kept}
use Rattle.rules.proofs.Guards.{walk_refused, walk-allowed}
use Rattle.rules.proofs.Walk.{walk-fuel, walk-roomy}
use Rattle.walk.specs.Counting.{Counts}
use Rattle.walk_check.specs.Check.{room_for, check_of}

module _ (octets : List ℕ) (law set : ℕ) where
  pub check-refused : {why : Refusal} → verdict (walk_asks law set (length octets)) ≡ Err why → check_of octets law set ≡ stopped (Err why) 0 0
  unfolding check_of
  check-refused e = walk_refused octets law set (room_for octets) e

  -- as many frames as there are octets
  pub check-allowed : verdict (walk_asks law set (length octets)) ≡ Ok tt
      → check_of octets law set ≡ walk_from (length octets) octets law set 0 (320 * length octets)
  unfolding check_of
  check-allowed e =
      walk-allowed octets law set (room_for octets) e
      ∙ walk-fuel octets law set (suc (length octets)) (length octets) 0 (room_for octets) (omega arith) (omega arith)

  -- enough room is enough
  pub check-walks : (room : ℕ) → 320 * length octets ≤ room → walk_all octets law set room ≡ check_of octets law set
  unfolding check_of
  check-walks room h = go (verdict (walk_asks law set (length octets))) refl
    where
      go : (e : Ending) → verdict (walk_asks law set (length octets)) ≡ e → walk_all octets law set room ≡ walk_all octets law set (room_for octets)
      go (Ok tt) e =
          walk-allowed octets law set room e
          ∙ walk-roomy octets law set (suc (length octets)) 0 room (room_for octets) (omega arith) (omega arith)
          ∙ sym (walk-allowed octets law set (room_for octets) e)
      go (Err why) e = walk_refused octets law set room e ∙ sym (walk_refused octets law set (room_for octets) e)

-- nothing is counted of a stream that is refused before any frame
pub counts-none : (why : Refusal)
    → Counts (stopped (Err why) 0 0) (record { end = Err why; frames = 0; octets = 0; samples = 0; place = 0; bit = 0 })
unfolding octets_kept samples_kept
counts-none why = record { end = refl; frames = refl; octets = refl; samples = refl; place = refl; bit = refl }

-- nothing else fits a check's contract
pub only-check : {w : Walked} {r s : WalkAnswer} → Counts w r → Counts w s → r ≡ s
only-check {r = r} {s = s} a b =
    same (a.end ∙ sym b.end) (a.frames ∙ sym b.frames) (a.octets ∙ sym b.octets) (a.samples ∙ sym b.samples)
    (a.place ∙ sym b.place) (a.bit ∙ sym b.bit)
  where
    same : r.end ≡ s.end → r.frames ≡ s.frames → r.octets ≡ s.octets → r.samples ≡ s.samples → r.place ≡ s.place
        → r.bit ≡ s.bit → r ≡ s
    same e f o n p t = λ i. record { end = e i; frames = f i; octets = o i; samples = n i; place = p i; bit = t i }
