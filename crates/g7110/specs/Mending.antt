-- What mending a greeting reports (document 02, R-12): the number; octets of the result, frames kept, octets kept, samples filled.
use Rattle.std.specs.Prelude.{ℕ, ◌≡◌, List, [], ◌∷◌, length}
use Rattle.rules.specs.Calls.{at_start}
use Rattle.mending.specs.Mend.{Mend}
use Rattle.mending.specs.Calls.{mend_number_of, mend_end, result_of, frames_kept, kept_of, filled_of}

-- the result at the start of the output, the rest as lent; refused, four zeros and all of it as lent
pub record MendReported (m : Mend) (out out' four : List ℕ) (r : ℕ) : Type 0 where
  pub number : r ≡ mend_number_of (mend_end m)
  pub report : four ≡ length (result_of m) ∷ frames_kept m ∷ kept_of m ∷ filled_of m ∷ []
  pub lent : out' ≡ at_start (result_of m) out
