-- Numbers from 1 to 65,535, each used once: `Distinct`, with one put in, with one taken out, closed up. A number found among them
-- (`find-split`).
use Prim.Native.Nat.{ℕ, ◌+◌, ◌≤◌}
use mathlib.Core.Path.{◌≡◌, refl, sym, ap, ◌∙◌}
use mathlib.Core.List.{List, [], ◌∷◌, ◌++◌}
use mathlib.Core.Bool.{Bool, true, false}
use native.Mathlib.Omega.{arith}
use lib.ListN.{length, take, drop, take-append-drop}
use lib.Dec.{ltb, eqb}
use borrow.Author.Tests.{le-ltb, ltb-false, eqb-true, eqb-false, ne_eqb}
use Rattle.store_rows.specs.declared.rows.Row.{Row}
use Rattle.store_rows.specs.Limits.{most_number}
use Rattle.store_rows.specs.Finding.{absent, find_from}
use Rattle.store_rows.specs.Sane.{numbered}
use Rattle.store_rows.specs.Changed.{insert_at}
use Rattle.store_rows.specs.Closing.{closed_rows}
use Rattle.store_rows.proofs.Lists.{passed, both}

unfoldable pub Fresh : ℕ → List Row → Type 0
Fresh x [] = Unit {0}
Fresh x (r ∷ rs) = (r.number ≡ x → ⊥) × Fresh x rs

unfoldable pub Distinct : List Row → Type 0
Distinct [] = Unit {0}
Distinct (r ∷ rs) = (1 ≤ r.number) × (r.number ≤ most_number) × Fresh r.number rs × Distinct rs

pub fresh-of : (x : ℕ) (rows : List Row) → absent x rows ≡ true → Fresh x rows
unfolding Fresh absent
fresh-of x [] e = tt
fresh-of x (r ∷ rows) e =
    let p = passed (eqb r.number x) (absent x rows) e in
    (eqb-false r.number x p.0, fresh-of x rows p.1)

pub absent-of : (x : ℕ) (rows : List Row) → Fresh x rows → absent x rows ≡ true
unfolding Fresh absent
absent-of x [] f = refl
absent-of x (r ∷ rows) f = rw (ne_eqb r.number x f.0) (absent-of x rows f.1)

pub distinct_of : (rows : List Row) → numbered rows ≡ true → Distinct rows
unfolding numbered Distinct
distinct_of [] e = tt
distinct_of (r ∷ rows) e =
    let a = passed (ltb r.number 1) _ e in
    let b = passed (ltb most_number r.number) _ a.1 in
    let c = both (absent r.number rows) (numbered rows) b.1 in
    (ltb-false _ _ a.0, ltb-false _ _ b.0, fresh-of r.number rows c.0, distinct_of rows c.1)

pub numbered_of : (rows : List Row) → Distinct rows → numbered rows ≡ true
unfolding numbered Distinct
numbered_of [] d = refl
numbered_of (r ∷ rows) d =
    rw (le-ltb r.number 1 d.0, le-ltb most_number r.number d.1, absent-of r.number rows d.2) (numbered_of rows d.3)

fresh-insert : (x : ℕ) (a : List Row) (r : Row) (c : List Row) → (r.number ≡ x → ⊥) → Fresh x (a ++ c) → Fresh x (a ++ (r ∷ c))
unfolding Fresh
fresh-insert x [] r c n f = (n, f)
fresh-insert x (y ∷ a) r c n f = (f.0, fresh-insert x a r c n f.1)

distinct-insert : (a : List Row) (r : Row) (c : List Row) → 1 ≤ r.number → r.number ≤ most_number → Fresh r.number (a ++ c)
    → Distinct (a ++ c) → Distinct (a ++ (r ∷ c))
unfolding Distinct Fresh
distinct-insert [] r c l h f d = (l, h, f, d)
distinct-insert (y ∷ a) r c l h f d =
    (d.0, d.1, fresh-insert y.number a r c (λ e. f.0 (sym e)) d.2, distinct-insert a r c l h f.1 d.3)

fresh-remove : (x : ℕ) (a : List Row) (r : Row) (c : List Row) → Fresh x (a ++ (r ∷ c)) → Fresh x (a ++ c)
unfolding Fresh
fresh-remove x [] r c f = f.1
fresh-remove x (y ∷ a) r c f = (f.0, fresh-remove x a r c f.1)

pub distinct_remove : (a : List Row) (r : Row) (c : List Row) → Distinct (a ++ (r ∷ c)) → Distinct (a ++ c)
unfolding Distinct
distinct_remove [] r c d = d.3
distinct_remove (y ∷ a) r c d = (d.0, d.1, fresh-remove y.number a r c d.2, distinct_remove a r c d.3)

pub fresh-closed : (x at : ℕ) (rows : List Row) → Fresh x rows → Fresh x (closed_rows at rows)
unfolding Fresh closed_rows
fresh-closed x at [] f = tt
fresh-closed x at (r ∷ rows) f = (f.0, fresh-closed x (at + r.octets) rows f.1)

pub distinct-closed : (at : ℕ) (rows : List Row) → Distinct rows → Distinct (closed_rows at rows)
unfolding Distinct closed_rows
distinct-closed at [] d = tt
distinct-closed at (r ∷ rows) d =
    (d.0, d.1, fresh-closed r.number (at + r.octets) rows d.2, distinct-closed (at + r.octets) rows d.3)

pub inserted-distinct : (i : ℕ) (r : Row) (rows : List Row) → 1 ≤ r.number → r.number ≤ most_number → Fresh r.number rows
    → Distinct rows → Distinct (insert_at i r rows)
inserted-distinct i r rows l h f d =
    let e = take-append-drop i rows in
    distinct-insert (take i rows) r (drop i rows) l h (rw e f) (rw e d)

pub fresh-append : (x : ℕ) (a c : List Row) → Fresh x (a ++ c) → Fresh x a × Fresh x c
unfolding Fresh
fresh-append x [] c f = (tt, f)
fresh-append x (y ∷ a) c f = let g = fresh-append x a c f.1 in ((f.0, g.0), g.1)

pub fresh-join : (x : ℕ) (a c : List Row) → Fresh x a → Fresh x c → Fresh x (a ++ c)
unfolding Fresh
fresh-join x [] c f g = g
fresh-join x (y ∷ a) c f g = (f.0, fresh-join x a c f.1 g)

-- those behind a greeting have other numbers
pub distinct-behind : (a : List Row) (r : Row) (c : List Row) → Distinct (a ++ (r ∷ c)) → Fresh r.number a × Fresh r.number c
unfolding Distinct Fresh
distinct-behind [] r c d = (tt, d.2)
distinct-behind (y ∷ a) r c d =
    let g = distinct-behind a r c d.3 in
    let f = (fresh-append y.number a (r ∷ c) d.2).1 in
    ((λ e. f.0 (sym e), g.0), g.1)

-- a number that is not absent, and the greetings before and behind it
pub record FoundAt (x i : ℕ) (rows : List Row) : Type 0 where
  pub before : List Row
  pub row : Row
  pub behind : List Row
  pub is : rows ≡ before ++ (row ∷ behind)
  pub place : find_from x i rows ≡ i + length before
  pub number : row.number ≡ x

find-here : (x i : ℕ) (r : Row) (rows : List Row) → eqb r.number x ≡ true → find_from x i (r ∷ rows) ≡ i + 0
unfolding find_from
find-here x i r rows p = rw p (omega arith)

find-on : (x i : ℕ) (r : Row) (rows : List Row) → eqb r.number x ≡ false → find_from x i (r ∷ rows) ≡ find_from x (i + 1) rows
unfolding find_from
find-on x i r rows p = rw p

absent-on : (x : ℕ) (r : Row) (rows : List Row) → eqb r.number x ≡ false → absent x (r ∷ rows) ≡ absent x rows
unfolding absent
absent-on x r rows p = rw p

found-later : {x i : ℕ} {r : Row} {rows : List Row} → eqb r.number x ≡ false → FoundAt x (i + 1) rows → FoundAt x i (r ∷ rows)
found-later {x} {i} {r} {rows} p f =
    record {
      before = r ∷ f.before;
      row = f.row;
      behind = f.behind;
      is = ap (λ (l : List Row). r ∷ l) f.is;
      place = find-on x i r rows p ∙ f.place ∙ omega arith;
      number = f.number;
    }

pub find-split : (x i : ℕ) (rows : List Row) → absent x rows ≡ false → FoundAt x i rows
unfolding absent
find-split x i [] e = let z : ◌≡◌ {A = ℕ} 0 1 = cc in absurd (omega arith)
find-split x i (r ∷ rows) e = go (eqb r.number x) refl (find-split x (i + 1) rows)
  where
    go : (t : Bool) → eqb r.number x ≡ t → (absent x rows ≡ false → FoundAt x (i + 1) rows) → FoundAt x i (r ∷ rows)
    go true p ih = record
        { before = []; row = r; behind = rows; is = refl; place = find-here x i r rows p; number = eqb-true r.number x p }
    go false p ih = found-later p (ih (sym (absent-on x r rows p) ∙ e))
