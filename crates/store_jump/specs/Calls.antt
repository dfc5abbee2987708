-- The contract of the public call, for any block and table at all: a lent table is judged first, TABLE where it is not what calls leave.
use Rattle.std.specs.Prelude.{ℕ, ◌≡◌, List, [], ◌∷◌}
use Rattle.std.specs.Prelude.{Ok, Err}
use Rattle.rules.specs.Refusals.{numbered}
use Rattle.rules.specs.Judged.{Asked, ask, judged}
use Rattle.store_rows.specs.Limits.{size_of}
use Rattle.store_rows.specs.Cells.{rows_of}
use Rattle.store_notes.specs.Cells.{notes_of}
use Rattle.store_notes.specs.Sane.{sane_store}
use Rattle.store_jump.specs.declared.jumping.Refusal.{Refusal}
use Rattle.store_jump.specs.declared.jumping.Refusal.TheVariants.{Number, Absent, Bad, Beyond, Table}
use Rattle.store_jump.specs.declared.jumping.Told.{Told}
pub use Rattle.store_jump.specs.Jump.{Answer, told_by}
use Rattle.store_jump.specs.Jump.{find_asks, jump_among}

-- the paper's number of a refusal; an accepted call has 0
abbrev pub refusal_number : Refusal → ℕ
refusal_number Number = 15
refusal_number Absent = 17
refusal_number Bad = 18
refusal_number Beyond = 21
refusal_number Table = 26

-- no refusal has the number 0
pub refusal-not-zero : (w : Refusal) → refusal_number w ≡ 0 → ⊥
refusal-not-zero Number e = cc
refusal-not-zero Absent e = cc
refusal-not-zero Bad e = cc
refusal-not-zero Beyond e = cc
refusal-not-zero Table e = cc

abbrev pub number_of : Answer → ℕ
number_of = numbered refusal_number

-- what an accepted call tells; a refused one reports zeros
abbrev pub told_of : Answer → Told
told_of (Ok told) = told
told_of (Err w) = told_by 0 0 0 0

-- "Refusals, in order": TABLE first, then those of finding the greeting; BEYOND and BAD are told in it
abbrev pub find_order : List ℕ → List ℕ → ℕ → List (Asked Refusal)
find_order b t number = ask Table (sane_store (size_of b) t) ∷ find_asks (rows_of t) number

abbrev pub jump_of : List ℕ → List ℕ → ℕ → ℕ → Answer
jump_of b t number sample =
    judged (ask Table (sane_store (size_of b) t) ∷ []) Err (jump_among b (rows_of t) (notes_of t) number sample)

abbrev pub Jump : ℕ → ℕ → List ℕ → List ℕ → Answer → Type 0
Jump number sample b t r = r ≡ jump_of b t number sample
