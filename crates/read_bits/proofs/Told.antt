-- What a reader's answer tells a caller, once it is known which of the two it is.
use Prim.Native.Nat.{ℕ, ◌≤◌, zero-le}
use mathlib.Core.Path.{◌≡◌, sym, ◌∙◌, ap}
use Rattle.std.specs.Result.{IsErrAnd}
use Rattle.std.proofs.Common.{Result, Ok, Err}
use Rattle.std.proofs.lemmas.Result.{err_from_is_err_and}
use Rattle.rules.specs.Reading.{Read, whole, refuse}
use Rattle.read_bits.specs.declared.Stop.{Stop}
use Rattle.read_bits.specs.Outcomes.{Outcome, as_read, value_of, next_of, Reads}

pub record ReadAs (found : Read ℕ) (most far v j : ℕ) : Type 0 where
  pub says : found ≡ whole v j
  pub value : v ≤ most
  pub next : j ≤ far

module _ {found : Read ℕ} {most far : ℕ} {r : Outcome} (t : Reads found most far r) where
  pub told : {p : ℕ × ℕ} → r ≡ Ok p → ReadAs found most far p.0 p.1
  told e =
      record {
        says = sym t.says ∙ ap as_read e;
        value = rw (ap value_of e) at t.value;
        next = rw (ap next_of e) at t.next;
      }

  pub refused : {s : Stop} → r ≡ Err s → found ≡ refuse s.why s.bit
  refused e = sym t.says ∙ ap as_read e

-- the answer of a refused reading
pub stopped : {found : Read ℕ} {most far : ℕ} {s : Stop} → found ≡ refuse s.why s.bit → Reads found most far (Err s)
stopped e = record { says = sym e; value = zero-le; next = zero-le }

-- a `?` hands the refusal on as it is
pub handed_on : {A : Type 0} (r : Result A Stop) {s : Stop} → IsErrAnd r (λ y. y ≡ s) → r ≡ Err s
handed_on r h = let p = err_from_is_err_and r h in rw (p.1, p.2)
