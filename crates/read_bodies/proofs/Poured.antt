-- Lent samples whose first are overwritten with those of a list, and how a body's reading ends.
use Prim.Native.Nat.{ℕ, ◌≤◌, ◌<◌, zero-le}
use mathlib.Core.Path.{◌≡◌, refl, sym, ap, subst, ◌∙◌}
use mathlib.Core.List.{List}
use native.Mathlib.Omega.{arith}
use native.Mathlib.Nat.{zero-add}
use lib.ListN.{length, take, drop, length-take, length-drop}
use Rattle.rules.specs.declared.Refusal.{Refusal}
use Rattle.rules.specs.Reading.{Read, whole, refuse}
use Rattle.read_bits.specs.Outcomes.{Outcome, got, stop}
use Rattle.read_runs.specs.Flagged.{Put}
use Rattle.read_bodies.specs.Bodied.{FillsBody}

-- a list put in at the start
pub fills-put : {l old new : List ℕ} → Put old 0 l new → {found : Read (List ℕ)} {far n next : ℕ} → found ≡ whole l next
    → length l ≡ n → n ≤ 320 → next ≤ far → FillsBody found far old new (got n next)
fills-put {l} {old} p {next = next} e s h k =
    rw e (record { end = ap (λ (x : ℕ). got x next) (sym s); next = k; samples = (p.made ∙ rw zero-add, rw s h) })

-- a refusal passed on, and an answer
pub fills-refused : {found : Read (List ℕ)} {far : ℕ} {old new : List ℕ} {w : Refusal} {at : ℕ} → found ≡ refuse w at → length new ≡ 320
    → FillsBody found far old new (stop w at)
fills-refused e h = rw e (record { end = refl; next = zero-le; samples = h })

pub fills-as : {found other : Read (List ℕ)} {near far : ℕ} {old new : List ℕ} {r : Outcome} → FillsBody other near old new r
    → found ≡ other → near ≤ far → FillsBody found far old new r
fills-as {far = far} {old = old} {new = new} {r = r} t e k =
    subst (λ (m : Read (List ℕ)). FillsBody m far old new r) (sym e)
    (record { end = t.end; next = let n = t.next in omega arith; samples = t.samples })

-- n octets behind the first one
pub part_length : (s : List ℕ) (n : ℕ) → n < length s → length (take n (drop 1 s)) ≡ n
part_length s n h = simp (length-take, length-drop) (omega arith)
