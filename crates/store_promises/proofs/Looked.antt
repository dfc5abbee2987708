-- What is read under a number: one greeting put in (`look-put`, `look-other`), one taken out, one got.
use Prim.Native.Nat.{ℕ}
use mathlib.Core.Path.{◌≡◌, refl, sym, ap, ◌∙◌}
use mathlib.Core.List.{List, [], ◌∷◌, ◌++◌}
use mathlib.Core.Bool.{Bool, true, false, cond}
use lib.ListN.{take, drop, take-append-drop}
use lib.Dec.{eqb}
use borrow.Author.Tests.{eq-eqb, ne_eqb}
use Rattle.store_rows.specs.declared.rows.Row.{Row}
use Rattle.store_rows.specs.Rows.{Kept, contents}
use Rattle.store_promises.specs.Kept.{Octets, here, missing, look_up}
use Rattle.store_promises.proofs.Numbers.{Fresh}
use Rattle.store_promises.proofs.Contents.{kept, contents-append}

-- the first of two lists has it, or the second
abbrev or_else : Octets → Octets → Octets
or_else (here o) g = here o
or_else missing g = g

look-append : (x : ℕ) (a c : List Kept) → look_up x (a ++ c) ≡ or_else (look_up x a) (look_up x c)
unfolding look_up
look-append x [] c = refl
look-append x (k ∷ a) c = go (eqb k.number x) (look-append x a c)
  where
    go : (t : Bool) → look_up x (a ++ c) ≡ or_else (look_up x a) (look_up x c)
        → cond t (here k.octets) (look_up x (a ++ c)) ≡ or_else (cond t (here k.octets) (look_up x a)) (look_up x c)
    go true e = refl
    go false e = e

look-here : (x : ℕ) (o : List ℕ) (c : List Kept) → look_up x (kept x o ∷ c) ≡ here o
unfolding look_up kept
look-here x o c = rw (eq-eqb x x refl)

look-past : (x n : ℕ) (o : List ℕ) (c : List Kept) → (n ≡ x → ⊥) → look_up x (kept n o ∷ c) ≡ look_up x c
unfolding look_up kept
look-past x n o c h = rw (ne_eqb n x h)

pub fresh-missing : (x : ℕ) (b : List ℕ) (rows : List Row) → Fresh x rows → look_up x (contents b rows) ≡ missing
unfolding Fresh look_up contents
fresh-missing x b [] f = refl
fresh-missing x b (r ∷ rows) f = rw (ne_eqb r.number x f.0) (fresh-missing x b rows f.1)

-- a greeting among others
pub look-put : (x : ℕ) (o : List ℕ) (a c : List Kept) → look_up x a ≡ missing → look_up x (a ++ (kept x o ∷ c)) ≡ here o
look-put x o a c e = look-append x a (kept x o ∷ c) ∙ rw (e, look-here x o c)

pub look-other : (x n : ℕ) (o : List ℕ) (a c : List Kept) → (n ≡ x → ⊥) → look_up x (a ++ (kept n o ∷ c)) ≡ look_up x (a ++ c)
look-other x n o a c h = look-append x a (kept n o ∷ c) ∙ rw (look-past x n o c h) (sym (look-append x a c))

pub look_none : (x : ℕ) (a c : List Kept) → look_up x a ≡ missing → look_up x c ≡ missing → look_up x (a ++ c) ≡ missing
look_none x a c e f = look-append x a c ∙ rw (e, f)

pub contents-split : (b : List ℕ) (i : ℕ) (rows : List Row) → contents b (take i rows) ++ contents b (drop i rows) ≡ contents b rows
contents-split b i rows = sym (contents-append b (take i rows) (drop i rows)) ∙ ap (contents b) (take-append-drop i rows)
