-- Rows in lent cells (specs/State, specs/Gathers): put, gathered, and the state once a revision is added (`laid-added`).
-- What is laid is read back as the same list: `box-laid`.
use Prim.Native.Nat.{ℕ, zero, suc, ◌+◌, ◌*◌, ◌-◌, ◌≤◌, ◌<◌}
use mathlib.Core.Path.{◌≡◌, refl, sym, ap, ◌∙◌}
use mathlib.Core.List.{List, [], ◌∷◌, ◌++◌, append_assoc, append-nil}
use mathlib.Core.Bool.{Bool, true, false, cond}
use native.Mathlib.Omega.{arith}
use lib.ListN.{length, get_or, take, drop, set, replicate, length-append, length-replicate, length-drop, length-take, drop_of_length-le, take-append-drop}
use lib.Seq.{sets-eq, drop-nil, take_at, drop-append-add, take-append-add, drop-append-le}
use borrow.Rule.Slice.PartMut.{put_mid}
use lib.Dec.{eqb}
use borrow.Author.Tests.{eq-eqb, ne_eqb}
use Rattle.settings.specs.declared.Settings.{Settings}
use Rattle.settings.specs.declared.Revision.{Revision}
use Rattle.settings.specs.Revisions.{last_eight, added}
use Rattle.settings.specs.State.{row_at, rows_at, kept_of, box_of, cells_of, laid}
use Rattle.settings.specs.Gathers.{KeepsRow, Gathers}

-- five numbers stored one after another
pub five-put : (l : List ℕ) (i : ℕ) (r : Revision) → i + 5 ≤ length l
    → set (set (set (set (set l i r.number) (i + 1) r.values.law) (i + 2) r.values.set) (i + 3) r.values.block)
    (i + 4) r.values.greeting
    ≡ take i l ++ (cells_of (r ∷ []) ++ drop (i + 5) l)
unfolding cells_of
five-put l i r h =
    let a : suc i ≡ i + 1 = omega arith in
    let b : suc (i + 1) ≡ i + 2 = omega arith in
    let c : suc (i + 2) ≡ i + 3 = omega arith in
    let d : suc (i + 3) ≡ i + 4 = omega arith in
    let five = r.number ∷ r.values.law ∷ r.values.set ∷ r.values.block ∷ r.values.greeting ∷ [] in
    rw (a, b, c, d) at (sets-eq five l i h) ∙ append_assoc (take i l) five (drop (i + 5) l)

-- cells of rows one after another
pub cells-append : (a b : List Revision) → cells_of (a ++ b) ≡ cells_of a ++ cells_of b
unfolding cells_of
cells-append [] b = refl
cells-append (r ∷ a) b = rw (cells-append a b)

pub cells-length : (a : List Revision) → length (cells_of a) ≡ 5 * length a
unfolding cells_of
cells-length [] = refl
cells-length (r ∷ a) = omega (arith, cells-length a)

pub cells-drop : (n : ℕ) (a : List Revision) → drop (5 * n) (cells_of a) ≡ cells_of (drop n a)
unfolding cells_of
cells-drop zero a = refl
cells-drop (suc n) [] = drop-nil (5 * suc n)
cells-drop (suc n) (r ∷ a) =
    let e : 5 * suc n ≡ suc (suc (suc (suc (suc (5 * n))))) = omega arith in
    rw e (cells-drop n a)

-- zeros after zeros
pub zeros-drop : (k n : ℕ) → k ≤ n → drop {A = ℕ} k (replicate n 0) ≡ replicate (n - k) 0
zeros-drop zero n h = let e : n - 0 ≡ n = omega arith in rw e
zeros-drop (suc k) zero h = absurd (omega arith)
zeros-drop (suc k) (suc n) h = let e : suc n - suc k ≡ n - k = omega arith in rw e (zeros-drop k n (omega arith))

pub zeros-take : (k n : ℕ) → k ≤ n → take {A = ℕ} k (replicate n 0) ≡ replicate k 0
zeros-take zero n h = refl
zeros-take (suc k) zero h = absurd (omega arith)
zeros-take (suc k) (suc n) h = ap (λ (l : List ℕ). 0 ∷ l) (zeros-take k n (omega arith))

-- one row of those kept, and the others
pub kept_cons : (r : Revision) (rs : List Revision) → kept_of (r ∷ rs) ≡ kept_of (r ∷ []) ++ kept_of rs
unfolding kept_of
kept_cons r rs = go (eqb r.number 0)
  where
    go : (t : Bool) → cond t (kept_of rs) (r ∷ kept_of rs) ≡ cond t [] (r ∷ []) ++ kept_of rs
    go true = refl
    go false = refl

kept-one : (r : Revision) → length (kept_of (r ∷ [])) ≤ 1
unfolding kept_of
kept-one r = go (eqb r.number 0)
  where
    go : (t : Bool) → length (cond t [] (r ∷ [])) ≤ 1
    go true = omega arith
    go false = omega arith

module _ (r : Revision) (k : ℕ) (rows : List ℕ) where
  pub not-kept : r.number ≡ 0 → KeepsRow r k rows rows k
  unfolding kept_of cells_of
  not-kept e = record { count = rw (eq-eqb _ _ e) (omega arith); says = rw (eq-eqb _ _ e) (sym (take-append-drop (5 * k) rows)) }

  pub is-kept : (r.number ≡ 0 → ⊥) → {rows' : List ℕ} → rows' ≡ take (5 * k) rows ++ (cells_of (r ∷ []) ++ drop (5 * k + 5) rows)
      → KeepsRow r k rows rows' (k + 1)
  unfolding kept_of
  is-kept e p =
      let n : 5 * (k + 1) ≡ 5 * k + 5 = omega arith in
      record { count = rw (ne_eqb _ _ e); says = p ∙ rw (ne_eqb _ _ e, n) }

-- i rows were looked at, and those that are kept stand in `rows`
pub record Gathering (cells rows : List ℕ) (k i : ℕ) : Type 0 where
  pub kept : List Revision
  pub all : kept ++ kept_of (rows_at cells (8 - i) i) ≡ kept_of (rows_at cells 8 0)
  pub count : k ≡ length kept
  pub few : k ≤ i
  pub most : i ≤ 8
  pub says : rows ≡ cells_of kept ++ replicate (45 - 5 * k) 0

pub gathering-size : {cells rows : List ℕ} {k i : ℕ} → Gathering cells rows k i → length rows ≡ 45
gathering-size {cells} {rows} {k} {i} g =
    let n = cells-length g.kept in
    ap length g.says ∙ length-append (cells_of g.kept) (replicate (45 - 5 * k) 0)
    ∙ rw length-replicate (omega (arith, g.count, g.few, g.most))

pub gathering-start : (cells rows : List ℕ) → rows ≡ replicate 45 0 → Gathering cells rows 0 0
unfolding cells_of
gathering-start cells rows e = record { kept = []; all = refl; count = refl; few = omega arith; most = omega arith; says = e }

pub rows_next : (cells : List ℕ) (i : ℕ) → i < 8 → rows_at cells (8 - i) i ≡ row_at cells i ∷ rows_at cells (8 - (i + 1)) (i + 1)
unfolding rows_at
rows_next cells i h = let e : 8 - i ≡ suc (8 - (i + 1)) = omega arith in rw e

pub gathering-turn : {cells rows rows' : List ℕ} {k i n : ℕ} → Gathering cells rows k i → i < 8 → KeepsRow (row_at cells i) k rows rows' n
    → Gathering cells rows' n (i + 1)
gathering-turn {cells} {rows} {rows'} {k} {i} {n} g h p =
    let r = row_at cells i in
    let one = kept_of (r ∷ []) in
    let m = cells-length g.kept in
    let c = p.count in
    let o = kept-one r in
    let head : take (5 * k) rows ≡ cells_of g.kept =
    ap (take (5 * k)) g.says ∙ take_at (cells_of g.kept) (replicate (45 - 5 * k) 0) (5 * k) (omega (arith, g.count)) in
    let z : 5 * n ≡ length (cells_of g.kept) + 5 * length one = omega (arith, g.count) in
    let y : 45 - 5 * k - 5 * length one ≡ 45 - 5 * n = omega (arith, g.count) in
    let tail : drop (5 * n) rows ≡ replicate (45 - 5 * n) 0 =
    ap (drop (5 * n)) g.says ∙ ap (λ (j : ℕ). drop j (cells_of g.kept ++ replicate (45 - 5 * k) 0)) z
    ∙ drop-append-add (cells_of g.kept) (replicate (45 - 5 * k) 0) (5 * length one)
    ∙ zeros-drop (5 * length one) (45 - 5 * k) (omega (arith, g.few)) ∙ ap (λ (j : ℕ). replicate j 0) y in
    record {
      kept = g.kept ++ one;
      all = append_assoc g.kept one (kept_of (rows_at cells (8 - (i + 1)) (i + 1))) ∙ ap (λ (l : List Revision). g.kept ++ l)
          (sym (kept_cons r (rows_at cells (8 - (i + 1)) (i + 1))) ∙ ap kept_of (sym (rows_next cells i h))) ∙ g.all;
      count = omega (arith, g.count, length-append g.kept one);
      few = omega (arith, g.few);
      most = omega arith;
      says = p.says ∙ rw (head, tail, cells-append g.kept one)
          (sym (append_assoc (cells_of g.kept) (cells_of one) (replicate (45 - 5 * n) 0)));
    }

pub gathering-end : {cells rows : List ℕ} {k i : ℕ} → Gathering cells rows k i → 8 ≤ i → Gathers (kept_of (rows_at cells 8 0)) rows k
unfolding rows_at kept_of
gathering-end {cells} {rows} {k} {i} g h =
    let e : 8 - i ≡ 0 = omega (arith, g.most) in
    let a : g.kept ≡ kept_of (rows_at cells 8 0) = sym (append-nil g.kept) ∙ rw e at g.all in
    record {
      count = g.count ∙ ap length a;
      few = omega (arith, g.few, g.most);
      says = g.says ∙ ap (λ (l : List Revision). cells_of l ++ replicate (45 - 5 * k) 0) a;
    }

-- the eight that stay, of the rows once one is put after k others
module _ {revisions : List Revision} {rows rows' : List ℕ} {k : ℕ} (new : Revision) (g : Gathers revisions rows k)
    (p : rows' ≡ take (5 * k) rows ++ (cells_of (new ∷ []) ++ drop (5 * k + 5) rows)) where
  abbrev all : List Revision
  all = revisions ++ (new ∷ [])

  all-length : length all ≡ k + 1
  all-length = length-append revisions (new ∷ []) ∙ ap (λ (n : ℕ). n + 1) (sym g.count)

  rows_all : rows' ≡ cells_of all ++ replicate (40 - 5 * k) 0
  rows_all =
      let n = cells-length revisions in
      let head : take (5 * k) rows ≡ cells_of revisions =
      ap (take (5 * k)) g.says ∙ take_at (cells_of revisions) (replicate (45 - 5 * k) 0) (5 * k) (omega (arith, g.count)) in
      let z : 5 * k + 5 ≡ length (cells_of revisions) + 5 = omega (arith, g.count) in
      let y : 45 - 5 * k - 5 ≡ 40 - 5 * k = omega arith in
      let tail : drop (5 * k + 5) rows ≡ replicate (40 - 5 * k) 0 =
      ap (drop (5 * k + 5)) g.says ∙ ap (λ (j : ℕ). drop j (cells_of revisions ++ replicate (45 - 5 * k) 0)) z
      ∙ drop-append-add (cells_of revisions) (replicate (45 - 5 * k) 0) 5 ∙ zeros-drop 5 (45 - 5 * k) (omega (arith, g.few))
      ∙ ap (λ (j : ℕ). replicate j 0) y in
      p ∙ rw (head, tail, cells-append revisions (new ∷ []))
      (sym (append_assoc (cells_of revisions) (cells_of (new ∷ [])) (replicate (40 - 5 * k) 0)))

  pub rows-size : length rows' ≡ 45
  rows-size =
      ap length rows_all ∙ length-append (cells_of all) (replicate (40 - 5 * k) 0)
      ∙ rw length-replicate (omega (arith, cells-length all, all-length, g.few))

  pub eight-stay : {from : ℕ} → from ≡ 5 * (k + 1 - 8)
      → take 40 (drop from rows') ≡ cells_of (last_eight all) ++ replicate (40 - 5 * length (last_eight all)) 0
  eight-stay {from} e =
      let n = cells-length all in
      let m : from ≡ 5 * (length all - 8) = omega (arith, all-length) in
      let l : length (last_eight all) ≡ length all - (length all - 8) = length-drop (length all - 8) all in
      let q : 40 ≡ length (cells_of (last_eight all)) + (40 - 5 * length (last_eight all)) =
      omega (arith, cells-length (last_eight all), all-length, g.few) in
      let left : drop from rows' ≡ cells_of (last_eight all) ++ replicate (40 - 5 * k) 0 =
      ap (drop from) rows_all ∙ drop-append-le from (cells_of all) (replicate (40 - 5 * k) 0) (omega (arith, all-length, g.few))
      ∙ ap (λ (l : List ℕ). l ++ replicate (40 - 5 * k) 0) (ap (λ (j : ℕ). drop j (cells_of all)) m ∙ cells-drop (length all - 8) all) in
      ap (take 40) left ∙ ap (λ (j : ℕ). take j (cells_of (last_eight all) ++ replicate (40 - 5 * k) 0)) q
      ∙ take-append-add (cells_of (last_eight all)) (replicate (40 - 5 * k) 0) (40 - 5 * length (last_eight all))
      ∙ ap (λ (l : List ℕ). cells_of (last_eight all) ++ l)
      (zeros-take (40 - 5 * length (last_eight all)) (40 - 5 * k) (omega (arith, all-length)))

-- the numbers once values are added: the last number, and the rows that stay
pub laid-added : (cells : List ℕ) (v : Settings) {rows rows' kept : List ℕ} {k from : ℕ} → Gathers (box_of cells).revisions rows k
    → rows' ≡ take (5 * k) rows ++ (cells_of (record { number = get_or cells 0 0 + 1; values = v } ∷ []) ++ drop (5 * k + 5) rows)
    → from ≡ 5 * (k + 1 - 8) → kept ≡ take (from + 40 - from) (drop from rows')
    → ◌≡◌ {A = List ℕ} ((get_or cells 0 0 + 1) ∷ (kept ++ [])) (laid (added (box_of cells) v))
unfolding added
laid-added cells v {rows} {rows'} {kept} {k} {from} g p e c =
    let n : from + 40 - from ≡ 40 = omega arith in
    let s = eight-stay (record { number = get_or cells 0 0 + 1; values = v }) g p e in
    ap (λ (l : List ℕ). (get_or cells 0 0 + 1) ∷ l) (append-nil kept ∙ c ∙ ap (λ (j : ℕ). take j (drop from rows')) n ∙ s)

-- the numbers after a wipe
pub laid-wiped : (cells zeros : List ℕ) → length cells ≡ 41 → zeros ≡ replicate (length (take 40 (drop 1 cells))) 0
    → put_mid 1 40 cells zeros ≡ get_or cells 0 0 ∷ replicate 40 0
laid-wiped [] zeros h e = absurd (omega (arith, h))
laid-wiped (x ∷ cells) zeros h e =
    let n : length (take 40 cells) ≡ 40 = omega (arith, length-take 40 cells, h) in
    let past : drop 40 cells ≡ [] = drop_of_length-le cells {i = 40} (omega (arith, h)) in
    rw (e, n, past) refl
