-- What the calls tell, from what their steps do: a greeting by its row and the head of its note (`tell-is`); by its number, as a get finds
-- it (`info-refused`, `info-met`, `info-place`, `info-within`, `info-found`); by its place (`at_table`, `at-absent`,
-- `at-found`); the largest gap as the loop goes (`largest-start`, `largest-turn`, `largest-end`); all together
-- (`totals-table`, `totals-are`, `sums-are`).
use Prim.Native.Nat.{ℕ, ◌+◌, ◌*◌, ◌-◌, ◌≤◌, ◌<◌, max}
use mathlib.Core.Path.{◌≡◌, refl, sym, ap, ◌∙◌}
use mathlib.Core.List.{List, [], ◌∷◌}
use mathlib.Core.Bool.{Bool, true, false}
use native.Mathlib.Omega.{arith}
use lib.ListN.{length, get_or}
use borrow.Author.Tests.{lt-ltb, le-ltb, ltb-true, not-false}
use Rattle.std.proofs.Common.{Ok, Err, rules}
use Rattle.std.specs.Ordering.{ord_max, nat_cmp}
use Rattle.rules.proofs.Judged.{AllMet, judged-met, judged-first}
use Rattle.store_rows.specs.declared.rows.Row.{Row}
use Rattle.store_rows.specs.Limits.{size_of}
use Rattle.store_rows.specs.Rows.{held}
use Rattle.store_rows.specs.Finding.{find_from}
use Rattle.store_rows.specs.Cells.{row_at, rows_at, rows_of}
use Rattle.store_rows.specs.Changed.{nth}
use Rattle.store_rows.specs.Sane.{rising, Ordered}
use Rattle.store_notes.specs.declared.Head.{Head}
use Rattle.store_notes.specs.Notes.{nth_note}
use Rattle.store_notes.specs.Cells.{head_of, head_at, note_by, notes_of}
use Rattle.store_notes.specs.Sane.{sane_store}
use Rattle.store.specs.declared.Refusal.{Refusal}
use Rattle.store.specs.declared.Refusal.TheVariants.{Absent, Table}
use Rattle.store.specs.Store.{After, Outcome, leaves, refused, get_in}
use Rattle.store.specs.Calls.{find_order, answer_of, get_of}
use Rattle.store_tell.specs.declared.Entry.{Entry}
use Rattle.store_tell.specs.declared.Sums.{Sums}
use Rattle.store_tell.specs.Tells.{tell_of, tell_at, largest_from, largest_gap, totals_of}
use Rattle.store_tell.specs.Calls.{info_of, at_of, totals_for}
use Rattle.store_rows.proofs.Cells.{length-rows, nth-rows}
use Rattle.store_rows.proofs.Rising.{Next, rising-head}
use Rattle.store_rows.proofs.Finding.{find_absent}
use Rattle.store_notes.proofs.Noting.{length-marks}
use Rattle.store_notes.proofs.Stored.{note-at}
use Rattle.store.proofs.Only.{outcome-leaves, get_refused}

-- ---- a greeting, by its place

head-by : (h : Head) (cells : List ℕ) → head_of (note_by h cells) ≡ h
head-by h cells = rw (length-marks h.marks cells)

pub tell-is : (t : List ℕ) (i : ℕ) {r : Row} {h : Head} → i < get_or t 0 0 → get_or t 97 0 ≡ get_or t 0 0 → r ≡ row_at t (1 + 3 * i)
    → h ≡ head_at t i → tell_of r h ≡ tell_at (rows_of t) (notes_of t) i
tell-is t i {r} {h} g c e f =
    let row : r ≡ nth i (rows_of t) = e ∙ sym (nth-rows t (get_or t 0 0) 1 i g) in
    let note : h ≡ head_of (nth_note i (notes_of t)) =
    f ∙ sym (ap head_of (note-at t (get_or t 97 0) i refl (omega arith)) ∙ head-by (head_at t i) _) in
    ap (λ (x : Row). tell_of x h) row ∙ ap (λ (x : Head). tell_of (nth i (rows_of t)) x) note

-- ---- by its number

answer-refused : (o : Outcome) {w : Refusal} → Err w ≡ answer_of o → o ≡ refused w
answer-refused (leaves a) e = let z : ◌≡◌ {A = ℕ} 0 1 = cc in absurd (omega arith)
answer-refused (refused v) {w} e = let z : v ≡ w = cc in ap refused z

pub record Leaves (o : Outcome) : Type 0 where
  pub after : After
  pub is : o ≡ leaves after

answer-done : (o : Outcome) {p : ℕ × ℕ} → Ok p ≡ answer_of o → Leaves o
answer-done (leaves a) e = record { after = a; is = refl }
answer-done (refused v) e = let z : ◌≡◌ {A = ℕ} 0 1 = cc in absurd (omega arith)

module _ (b t : List ℕ) (x : ℕ) where
  abbrev found : ℕ
  found = find_from x 0 (rows_of t)

  abbrev told : Entry
  told = tell_at (rows_of t) (notes_of t) found

  pub info-refused : {w : Refusal} → Err w ≡ answer_of (get_of b t x) → Err w ≡ info_of b t x
  unfolding info_of
  info-refused {w} e =
      sym (judged-first Err (Ok told) (find_order b t x) ((get_refused b t x w).0 (answer-refused (get_of b t x) e)))

  pub info-met : {p : ℕ × ℕ} → Ok p ≡ answer_of (get_of b t x) → AllMet (find_order b t x)
  unfolding get_in
  info-met e = (outcome-leaves (find_order b t x) _ (answer-done (get_of b t x) e).is).0

  module _ (m : AllMet (find_order b t x)) {f : ℕ} (place : f ≡ find_from x 0 (rows_of t)) where
    pub info-within : f < get_or t 0 0
    info-within =
        let a = sym (find_absent x 0 (rows_of t)) ∙ m.1.1.0 in
        omega (arith, place, ltb-true found (0 + length (rows_of t)) (not-false _ a), length-rows t (get_or t 0 0) 1)

    pub info-found : {e : Entry} → e ≡ tell_at (rows_of t) (notes_of t) f → Ok e ≡ info_of b t x
    unfolding info_of
    info-found q =
        ap Ok (q ∙ ap (λ (i : ℕ). tell_at (rows_of t) (notes_of t) i) place) ∙ sym (judged-met Err (Ok told) (find_order b t x) m)

-- ---- TABLE first

module _ {size : ℕ} {s : Bool} (b t : List ℕ) (e : size ≡ size_of b) (f : s ≡ sane_store size t) where
  sane-is : sane_store (size_of b) t ≡ s
  sane-is = ap (λ (x : ℕ). sane_store x t) (sym e) ∙ sym f

  pub at_table : (i : ℕ) → s ≡ false → Err Table ≡ at_of b t i
  unfolding at_of
  at_table i g = rw (sane-is ∙ g)

  pub totals-table : s ≡ false → Err Table ≡ totals_for b t
  unfolding totals_for
  totals-table g = rw (sane-is ∙ g)

  module _ (g : s ≡ true) where
    pub at-absent : (i : ℕ) → get_or t 0 0 ≤ i → Err Absent ≡ at_of b t i
    unfolding at_of
    at-absent i h = rw (sane-is ∙ g, length-rows t (get_or t 0 0) 1, le-ltb i (get_or t 0 0) h)

    pub at-found : (i : ℕ) {r : Entry} → i < get_or t 0 0 → r ≡ tell_at (rows_of t) (notes_of t) i → Ok r ≡ at_of b t i
    unfolding at_of
    at-found i h q = rw (sane-is ∙ g, length-rows t (get_or t 0 0) 1, lt-ltb i (get_or t 0 0) h) (ap Ok q)

    pub totals-are : {r : Sums} → r ≡ totals_of size (rows_of t) → Ok r ≡ totals_for b t
    unfolding totals_for
    totals-are q = rw (sane-is ∙ g) (ap Ok (q ∙ ap (λ (x : ℕ). totals_of x (rows_of t)) e))

-- ---- the largest gap

pub greater : (a b : ℕ) → ord_max nat_cmp a b ≡ max a b
greater a b = search rules

-- what is found of it so far, and the rows that are left to be seen
pub record Seeing (rows : List Row) (size at best : ℕ) (rest : List Row) : Type 0 where
  pub largest : max best (largest_from size at rest) ≡ largest_gap size rows
  pub rises : rising 1 at size rest ≡ true
  pub inside : at ≤ size

module _ (t : List ℕ) (n size : ℕ) where
  pub largest-start : {rest : List Row} → n ≡ get_or t 0 0 → Ordered size t → rest ≡ rows_at t n 1 → Seeing (rows_of t) size 0 0 rest
  largest-start c o e =
      let all = e ∙ ap (λ (k : ℕ). rows_at t k 1) c in
      record {
        largest = omega (arith, ap (λ (r : List Row). largest_from size 0 r) all);
        rises = ap (λ (r : List Row). rising 1 0 size r) all ∙ o.rises;
        inside = omega arith;
      }

module _ {rows : List Row} {size at best : ℕ} {rest : List Row} (s : Seeing rows size at best rest) where
  pub largest-next : {r : Row} {rs : List Row} → rest ≡ r ∷ rs → Next 1 at size r × (rising 1 (r.start + r.octets) size rs ≡ true)
  largest-next {r} {rs} e = rising-head 1 at size r rs (rw e at s.rises)

  pub largest-turn : {r : Row} {rs : List Row} {m : ℕ} → rest ≡ r ∷ rs → m ≡ max best (r.start - at)
      → Seeing rows size (r.start + r.octets) m rs
  unfolding largest_from
  largest-turn e q =
      let x = largest-next e in
      let l = rw e at s.largest in
      record { largest = omega (arith, q, l); rises = x.1; inside = x.0.inside }

  pub largest-end : {m : ℕ} → rest ≡ [] → m ≡ max best (size - at) → m ≡ largest_gap size rows
  unfolding largest_from
  largest-end e q = q ∙ (rw e at s.largest)

-- ---- all together

pub sums-are : (t : List ℕ) (size : ℕ) {n h g : ℕ} → n ≡ get_or t 0 0 → h ≡ held (rows_of t) → g ≡ largest_gap size (rows_of t)
    → ◌≡◌ {A = Sums} (record { greetings = n; held = h; free = size - h; gap = g }) (totals_of size (rows_of t))
sums-are t size c e f = rw (c, e, f, length-rows t (get_or t 0 0) 1)
