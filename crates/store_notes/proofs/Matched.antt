-- Tables that calls leave, in the code's order: `matched-law`, `matched-many`, `matched-turn`; `sane-short`, `sane-not`,
-- `sane-other`, `sane-rest`; `sane-noted` (what calls' steps rest on). `marks-fit`: the marks of all greetings are at most their octets /
-- 64 and one for each, so there is always room for them (`room_for`, `room-more`).
use Prim.Native.Nat.{ℕ, zero, suc, ◌+◌, ◌*◌, ◌^◌, ◌≤◌, ◌<◌}
use mathlib.Core.Path.{◌≡◌, refl, sym, ap, subst, ◌∙◌}
use mathlib.Core.List.{List, [], ◌∷◌}
use mathlib.Core.Bool.{Bool, true, false}
use native.Mathlib.Omega.{arith}
use native.Mathlib.Numerals.{add-one}
use lib.ListN.{length, get_or, drop}
use lib.Seq.{get_or-drop}
use lib.Dec.{ltb, eqb}
use borrow.Author.Tests.{lt-ltb, le-ltb, eq-eqb, ne_eqb, ltb-false, eqb-true}
use Rattle.store_rows.specs.declared.rows.Row.{Row}
use Rattle.store_rows.specs.Limits.{largest_block}
use Rattle.store_rows.specs.Rows.{held}
use Rattle.store_rows.specs.Cells.{row_at, rows_at, rows_of}
use Rattle.store_rows.specs.Sane.{sane_of, Ordered}
use Rattle.store_rows.proofs.Lists.{passed, both}
use Rattle.store_rows.proofs.Left.{left, left_step}
use Rattle.store_rows.proofs.Finding.{held-turn}
use Rattle.store_rows.proofs.Judged.{sane-ordered, row_next}
use Rattle.store_rows.proofs.Cells.{length-rows, row_is}
use Rattle.store_greeting.specs.Marks.{most_marks}
use Rattle.store_notes.specs.Cells.{heads_of, marks_held}
use Rattle.store_notes.specs.Sane.{store_cells, matched, sane_store, Noted}

-- the second list's rows
pub head-is : (t : List ℕ) (i : ℕ) → row_at t (98 + 3 * i) ≡ row_at (drop 97 t) (1 + 3 * i)
head-is t i =
    let a : 97 + (1 + 3 * i) ≡ 98 + 3 * i = omega arith in
    let b : 97 + (1 + 3 * i + 1) ≡ 98 + 3 * i + 1 = omega arith in
    let c : 97 + (1 + 3 * i + 2) ≡ 98 + 3 * i + 2 = omega arith in
    let cell : (j k : ℕ) → 97 + j ≡ k → get_or t k 0 ≡ get_or (drop 97 t) j 0 =
    λ j k e. sym (get_or-drop 97 t j 0 ∙ ap (λ (x : ℕ). get_or t x 0) e) in
    row_is (drop 97 t) (1 + 3 * i) (cell _ _ a) (cell _ _ b) (cell _ _ c)

-- greetings and their second list, in the code's order
module _ (u : List ℕ) (n i : ℕ) (r : Row) (rs : List Row) {h : Row} (g : h ≡ row_at u (1 + 3 * i)) (f : i < n) where
  pub matched-law : 1 < h.number → matched (r ∷ rs) (left u n i) ≡ false
  unfolding matched
  matched-law a = rw (left_step u n i g f, lt-ltb 1 h.number a)

  pub matched-many : h.number ≤ 1 → most_marks r.octets < h.octets → matched (r ∷ rs) (left u n i) ≡ false
  unfolding matched
  matched-many a b = rw (left_step u n i g f, le-ltb 1 h.number a, lt-ltb (most_marks r.octets) h.octets b)

  pub matched-turn : h.number ≤ 1 → h.octets ≤ most_marks r.octets → matched (r ∷ rs) (left u n i) ≡ matched rs (left u n (i + 1))
  unfolding matched
  matched-turn a b = rw (left_step u n i g f, le-ltb 1 h.number a, le-ltb (most_marks r.octets) h.octets b)

-- a lent table
module _ (size : ℕ) (t : List ℕ) where
  pub sane-short : length t < store_cells size → false ≡ sane_store size t
  unfolding sane_store
  sane-short h = rw (lt-ltb (length t) (store_cells size) h)

  module _ (h : store_cells size ≤ length t) {s : Bool} (e : s ≡ sane_of size t) where
    pub sane-not : s ≡ false → false ≡ sane_store size t
    unfolding sane_store
    sane-not f = rw (le-ltb (length t) (store_cells size) h, ← e, f)

    module _ (f : s ≡ true) {n m : ℕ} (c : n ≡ get_or t 0 0) (d : m ≡ get_or t 97 0) where
      pub sane-other : (m ≡ n → ⊥) → false ≡ sane_store size t
      unfolding sane_store
      sane-other g = rw (le-ltb (length t) (store_cells size) h, ← e, f, ← c, ← d, ne_eqb m n g)

      pub sane-rest : {b : Bool} → m ≡ n → b ≡ matched (rows_at t n 1) (rows_at (drop 97 t) n 1) → b ≡ sane_store size t
      unfolding sane_store
      sane-rest g k =
          let first : get_or (drop 97 t) 0 0 ≡ n = get_or-drop 97 t 0 0 ∙ sym d ∙ g in
          rw (le-ltb (length t) (store_cells size) h, ← e, f, ← c, ← d, eq-eqb m n g, first) k

  pub sane-noted : sane_store size t ≡ true → Noted size t
  unfolding sane_store
  sane-noted s =
      let a = passed (ltb (length t) (store_cells size)) _ s in
      let b = both (sane_of size t) _ a.1 in
      let c = both (eqb (get_or t 97 0) (get_or t 0 0)) _ b.1 in
      record { order = sane-ordered size t b.0; cells = ltb-false _ _ a.0; count = eqb-true _ _ c.0; fits = c.1 }

-- the marks of all greetings
pub marks-fit : (rows hs : List Row) → length hs ≡ length rows → matched rows hs ≡ true → 64 * marks_held hs ≤ held rows + 64 * length rows
unfolding matched held
marks-fit [] [] e m = omega arith
marks-fit [] (h ∷ hs) e m = absurd (omega (arith, e))
marks-fit (r ∷ rows) [] e m = absurd (omega (arith, e))
marks-fit (r ∷ rows) (h ∷ hs) e m =
    let a = passed (ltb 1 h.number) _ m in
    let b = passed (ltb (most_marks r.octets) h.octets) _ a.1 in
    let few = ltb-false (most_marks r.octets) h.octets b.0 in
    let rest = marks-fit rows hs (omega (arith, e)) b.1 in
    omega (arith, few, rest)

-- cells are below 2^32
pub held_small : (t : List ℕ) → ((j : ℕ) → get_or t j 0 < 2 ^ 32) → (n k : ℕ) → held (rows_at t n k) ≤ n * 2 ^ 32
unfolding rows_at held
held_small t f zero k = omega arith
held_small t f (suc n) k = omega (arith, f (k + 2), held_small t f n (k + 3))

-- the octets held by an ordered table lie inside the block
held_none : (size : ℕ) (t : List ℕ) → held (rows_at t 0 1) ≤ size
unfolding rows_at held
held_none size t = omega arith

held-inside : (size : ℕ) (t : List ℕ) (n : ℕ) → Ordered size t → n ≡ get_or t 0 0 → held (rows_at t n 1) ≤ size
held-inside size t zero o e = held_none size t
held-inside size t (suc i) o e =
    let next = row_next (suc i) i {r = row_at t (1 + 3 * i)} o e refl (omega arith) in
    let sum : held (rows_at t i 1) + (row_at t (1 + 3 * i)).octets ≡ held (rows_at t (i + 1) 1) =
    held-turn t i refl refl in
    subst (λ (k : ℕ). held (rows_at t k 1) ≤ size) (add-one i) (omega (arith, sum, next.above, next.inside))

-- there is room for the marks of such a table, and for those of a greeting that fits besides
module _ {size : ℕ} {t : List ℕ} (k : Noted size t) (z : size ≤ largest_block) where
  all-marks : 64 * marks_held (heads_of t) ≤ held (rows_of t) + 64 * get_or t 0 0
  all-marks =
      let a = length-rows t (get_or t 0 0) 1 in
      let b = length-rows (drop 97 t) (get_or (drop 97 t) 0 0) 1 in
      let c = get_or-drop 97 t 0 0 in
      let m = marks-fit (rows_of t) (heads_of t) (omega (arith, a, b, c, k.count)) k.fits in
      omega (arith, m, a)

  pub room-more : (octets m : ℕ) → get_or t 0 0 < 32 → held (rows_of t) + octets ≤ size → m ≤ most_marks octets
      → 194 + 2 * (marks_held (heads_of t) + m) ≤ length t
  room-more octets m f g h = omega (arith, all-marks, k.cells)

  pub room_for : 194 + 2 * marks_held (heads_of t) ≤ length t
  room_for = omega (arith, all-marks, k.cells, k.order.few, held-inside size t (get_or t 0 0) k.order refl)
