-- Laws of looking up a revision (specs/Revisions, look_up): among the kept ones as among all rows, but for number 0, which is none.
-- And adding in the code's steps: `is-spent`, `is-added`.
use Rattle.std.specs.Prelude.{Some, None}
use Prim.Native.Nat.{ℕ, ◌+◌, ◌-◌, ◌≤◌, ◌<◌}
use mathlib.Core.Path.{◌≡◌, refl, sym, ◌∙◌}
use mathlib.Core.List.{List, [], ◌∷◌}
use mathlib.Core.Bool.{Bool, true, false, cond}
use native.Mathlib.Omega.{arith}
use lib.Dec.{eqb}
use borrow.Author.Tests.{lt-ltb, le-ltb, eq-eqb, ne_eqb, eqb-true}
use Rattle.settings.specs.declared.Revision.{Revision}
use Rattle.settings.specs.declared.Settings.{Settings}
use Rattle.std.specs.Prelude.{Ok, Err}
use Rattle.settings.specs.declared.Refusal.TheVariants.{Spent}
use Rattle.settings.specs.Revisions.{Box, look_up, added, add_to, most_number}
use Rattle.settings.specs.Calls.{Adds}
use Rattle.settings.specs.State.{row_at, rows_at, kept_of, laid}
use Rattle.settings.proofs.State.{rows_next}

-- a kept revision's number is not 0
pub zero-gone : (rs : List Revision) → look_up 0 (kept_of rs) ≡ None
unfolding kept_of look_up
zero-gone [] = refl
zero-gone (r ∷ rs) = go (eqb r.number 0) refl (zero-gone rs)
  where
    go : (t : Bool) → eqb r.number 0 ≡ t → look_up 0 (kept_of rs) ≡ None → look_up 0 (cond t (kept_of rs) (r ∷ kept_of rs)) ≡ None
    go true e ih = ih
    go false e ih = rw e ih

pub kept-looked : (n : ℕ) → (n ≡ 0 → ⊥) → (rs : List Revision) → look_up n (kept_of rs) ≡ look_up n rs
unfolding kept_of look_up
kept-looked n h [] = refl
kept-looked n h (r ∷ rs) = go (eqb r.number 0) refl (kept-looked n h rs)
  where
    go : (t : Bool) → eqb r.number 0 ≡ t → look_up n (kept_of rs) ≡ look_up n rs
        → look_up n (cond t (kept_of rs) (r ∷ kept_of rs)) ≡ cond (eqb r.number n) (Some r.values) (look_up n rs)
    go true e ih =
        let z = eqb-true r.number 0 e in
        rw (ne_eqb r.number n (λ p. h (sym p ∙ z))) ih
    go false e ih = rw ih

-- row by row
module _ (cells : List ℕ) (n k : ℕ) where
  pub looked-here : k < 8 → (row_at cells k).number ≡ n → look_up n (rows_at cells (8 - k) k) ≡ Some (row_at cells k).values
  unfolding look_up
  looked-here h e = rw (rows_next cells k h, eq-eqb _ _ e)

  pub looked-on : k < 8 → ((row_at cells k).number ≡ n → ⊥)
      → look_up n (rows_at cells (8 - k) k) ≡ look_up n (rows_at cells (8 - (k + 1)) (k + 1))
  unfolding look_up
  looked-on h e = rw (rows_next cells k h, ne_eqb _ _ e)

  pub looked-through : 8 ≤ k → look_up n (rows_at cells (8 - k) k) ≡ None
  unfolding look_up rows_at
  looked-through h = let e : 8 - k ≡ 0 = omega arith in rw e

module _ (b : Box) (v : Settings) (cells : List ℕ) where
  pub is-spent : b.last ≡ most_number → Adds (add_to b v) cells cells (Err Spent)
  unfolding add_to
  is-spent e =
      let t = lt-ltb most_number (b.last + 1) (omega arith) in
      record { answer = rw t; state = rw t }

  pub is-added : b.last < most_number → {cells' : List ℕ} → cells' ≡ laid (added b v) → Adds (add_to b v) cells cells' (Ok (b.last + 1))
  unfolding add_to added
  is-added h e =
      let t = le-ltb most_number (b.last + 1) (omega arith) in
      record { answer = rw t; state = rw t e }
