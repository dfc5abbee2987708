-- Empty cells: how many there are, and what is laid into them.
use Prim.Native.Nat.{ℕ, zero, suc, ◌+◌, ◌≤◌, ◌<◌}
use mathlib.Core.Path.{◌≡◌, refl, sym, ap, ◌∙◌}
use mathlib.Core.List.{List, [], ◌∷◌, ◌++◌}
use mathlib.Core.Bool.{Bool, true, false, cond}
use native.Mathlib.Omega.{arith}
use native.Mathlib.Numerals.{add-one}
use lib.Dec.{eqb}
use lib.ListN.{length, get_or, drop, replicate, drop_of_length-le}
use lib.Seq.{drop-cons}
use borrow.Author.Tests.{eq-eqb}
use Rattle.rules.specs.Located.{empty_in, lay}
use Rattle.read_runs.specs.Flagged.{kind_of, kinds}
use Rattle.read_located.specs.Valued.{fill_in}

-- where all cells are empty, the flags' kinds are the cells
lay-kinds : (z x : ℕ) (flags : List ℕ) (p k : ℕ) → p + k ≡ length flags → lay z x flags p (replicate k z) ≡ kinds z x (drop p flags)
unfolding lay
lay-kinds z x flags p zero h = rw (drop_of_length-le flags {i = p} (omega arith))
lay-kinds z x flags p (suc k) h =
    let e : drop p flags ≡ get_or flags p 0 ∷ drop (p + 1) flags = rw (add-one p) (drop-cons flags p 0 (omega arith)) in
    rw (eq-eqb z z refl) (ap (λ (l : List ℕ). kind_of z x (get_or flags p 0) ∷ l) (lay-kinds z x flags (p + 1) k (omega arith))
    ∙ sym (ap (kinds z x) e))

pub lay-first : (z x n : ℕ) (flags : List ℕ) → length flags ≡ n → lay z x flags 0 (replicate n z) ≡ kinds z x flags
lay-first z x n flags h = lay-kinds z x flags 0 n (omega arith)

-- the mark of a flag
mark-at : (z x : ℕ) (flags rest : List ℕ) (p : ℕ) → p < length flags → get_or (kinds z x flags ++ rest) p 0 ≡ kind_of z x (get_or flags p 0)
mark-at z x [] rest p h = absurd (omega arith)
mark-at z x (f ∷ flags) rest zero h = refl
mark-at z x (f ∷ flags) rest (suc p) h = mark-at z x flags rest p (omega arith)

-- marks put into the empty cells are x laid by their flags
pub fill-lay : (z x : ℕ) (flags rest : List ℕ) (p : ℕ) (cells : List ℕ) → p + empty_in z cells ≤ length flags
    → fill_in z (kinds z x flags ++ rest) p cells ≡ lay z x flags p cells
unfolding lay empty_in fill_in
fill-lay z x flags rest p [] h = refl
fill-lay z x flags rest p (y ∷ cells) h = go (eqb y z) h (fill-lay z x flags rest (p + 1) cells) (fill-lay z x flags rest p cells)
  where
    go : (b : Bool) → p + (cond b 1 0 + empty_in z cells) ≤ length flags
        → (p + 1 + empty_in z cells ≤ length flags → fill_in z (kinds z x flags ++ rest) (p + 1) cells ≡ lay z x flags (p + 1) cells)
        → (p + empty_in z cells ≤ length flags → fill_in z (kinds z x flags ++ rest) p cells ≡ lay z x flags p cells)
        → ◌≡◌ {A = List ℕ} (cond b (get_or (kinds z x flags ++ rest) p 0) y ∷ fill_in z (kinds z x flags ++ rest) (cond b (p + 1) p) cells)
        (cond b (cond (eqb (get_or flags p 0) 1) x z) y ∷ lay z x flags (cond b (p + 1) p) cells)
    go true k i j = rw (mark-at z x flags rest p (omega arith), i (omega arith))
    go false k i j = rw (j (omega arith))
