-- The steps of a jump, in the code's order: `from-behind`, `from_on`; `in-beyond`, `in-none`, `in-from`; `row-at`; `among-low`,
-- `among-high`, `among-absent`, `among-found`; `jump-table`, `jump-on`.
use Prim.Native.Nat.{ℕ, ◌+◌, ◌*◌, ◌-◌, ◌≤◌, ◌<◌}
use mathlib.Core.Path.{◌≡◌, refl, sym, ap, ◌∙◌}
use mathlib.Core.List.{List}
use mathlib.Core.Bool.{Bool, true, false}
use native.Mathlib.Omega.{arith}
use lib.ListN.{length, get_or, take, drop}
use borrow.Author.Tests.{lt-ltb, le-ltb, le-leb, lt-leb, eq-eqb, ne_eqb}
use Rattle.std.proofs.Common.{Err}
use Rattle.store_rows.specs.declared.rows.Row.{Row}
use Rattle.store_rows.specs.Limits.{size_of, largest_block, is_number}
use Rattle.store_rows.specs.Rows.{greeting}
use Rattle.store_rows.specs.Finding.{absent, find_from}
use Rattle.store_rows.specs.Cells.{row_at, rows_at, rows_of}
use Rattle.store_rows.specs.Changed.{nth}
use Rattle.store_rows.proofs.Cells.{nth-rows}
use Rattle.store_rows.proofs.Judged.{row_next}
use Rattle.rules.proofs.Lent.{from_on as part-on}
use Rattle.rules.proofs.Walk.{walk-told}
use Rattle.store_greeting.specs.Bad.{store_set}
use Rattle.store_greeting.specs.Marks.{Note, mark_of}
use Rattle.store_notes.specs.Notes.{nth_note}
use Rattle.store_notes.specs.declared.Head.{Head}
use Rattle.store_notes.specs.Cells.{head_at, marks_in, note_by, notes_of, marks_held}
use Rattle.store_notes.specs.Sane.{sane_store, Noted}
use Rattle.store_notes.proofs.Noting.{length-marks}
use Rattle.store_notes.proofs.Matched.{room_for}
use Rattle.store_notes.proofs.Stored.{note-at, marks-next, held_all}
use Rattle.store_jump.specs.Seeking.{Sought, seek, from_mark, last_mark}
use Rattle.store_jump.proofs.Halving.{mark-at}
use Rattle.store_jump.proofs.Sought.{counted-named}
use Rattle.store_jump.specs.declared.jumping.Refusal.TheVariants.{Number, Absent, Bad, Beyond, Table}
use Rattle.store_jump.specs.Jump.{Answer, counted, jump_from, jump_in, jump_among}
use Rattle.store_jump.specs.Calls.{Jump}

module _ (law : ℕ) (xs : List ℕ) (k at before sample : ℕ) where
  pub from-behind : sample < before → Err Bad ≡ jump_from law xs k (mark_of at before) sample
  unfolding jump_from
  from-behind h = rw (lt-ltb sample before h)

  pub from_on : before ≤ sample → {s : Sought} {r : Answer} → s ≡ seek sample (64 * k) before (from_mark law xs at).frames → r ≡ counted s
      → r ≡ jump_from law xs k (mark_of at before) sample
  unfolding jump_from
  from_on h e f =
      rw (le-ltb sample before h)
      (f ∙ ap counted e ∙ counted-named sample k before (from_mark law xs at).frames (walk-told xs law store_set 64 at 20480).few)

module _ (head : Head) (xs cells : List ℕ) (sample : ℕ) where
  abbrev m : ℕ
  m = head.marks

  pub in-beyond : head.samples ≤ sample → Err Beyond ≡ jump_in xs (note_by head cells) sample
  unfolding jump_in
  in-beyond h = rw (le-leb head.samples sample h)

  module _ (h : sample < head.samples) where
    pub in-none : m < 1 → Err Bad ≡ jump_in xs (note_by head cells) sample
    unfolding jump_in
    in-none g = rw (lt-leb head.samples sample h, eq-eqb (length (marks_in m cells)) 0 (omega (arith, length-marks m cells)))

    pub in-from : 1 ≤ m → {k at before : ℕ} {r : Answer} → k ≡ last_mark (marks_in m cells) sample → k < m → at ≡ get_or cells (2 * k) 0
        → before ≡ get_or cells (2 * k + 1) 0 → r ≡ jump_from head.law xs k (mark_of at before) sample
        → r ≡ jump_in xs (note_by head cells) sample
    unfolding jump_in
    in-from g {k} e l a b f =
        rw (
          lt-leb head.samples sample h,
          ne_eqb (length (marks_in m cells)) 0
              (λ z. absurd (omega (arith, z, length-marks m cells))),
          ← e,
          mark-at m k cells l,
          ← a,
          ← b,
        ) f

-- a greeting of a table that calls leave, and its note: it lies inside the block, its marks inside the cells
module _ {size : ℕ} {t : List ℕ} (k : Noted size t) (z : size ≤ largest_block) {i : ℕ} (h : i < get_or t 0 0) where
  pub row-few : i < 32
  row-few = omega (arith, k.order.few)

  pub row_inside : {r : Row} → r ≡ row_at t (1 + 3 * i) → r.start + r.octets ≤ size
  row_inside {r} e = (row_next {t = t} (get_or t 0 0) i {r = r} k.order refl e h).inside

  pub marks-inside : {m : ℕ} → m ≡ (head_at t i).marks → 194 + 2 * marks_held (rows_at (drop 97 t) i 1) + 2 * m ≤ length t
  marks-inside e =
      let room = room_for k z in
      let n = get_or t 0 0 in
      omega (arith, e, marks-next t n i (sym k.count) h room, held_all t n i (sym k.count) (omega arith) room, room)

  -- in the greeting at place i
  pub row-at : (b : List ℕ) (sample : ℕ) {r : Row} {head : Head} {first : ℕ} {a : Answer} → r ≡ row_at t (1 + 3 * i)
      → head ≡ head_at t i → first ≡ 194 + 2 * marks_held (rows_at (drop 97 t) i 1)
      → a ≡ jump_in (take (r.start + r.octets - r.start) (drop r.start b))
      (note_by head (take (length t - first) (drop first t))) sample
      → a ≡ jump_in (greeting b (nth i (rows_of t))) (nth_note i (notes_of t)) sample
  row-at b sample {r} {head} {first} p q f e =
      let n = get_or t 0 0 in
      let o : r.start + r.octets - r.start ≡ r.octets = omega arith in
      let row : nth i (rows_of t) ≡ r = nth-rows t n 1 i h ∙ sym p in
      let note : nth_note i (notes_of t) ≡ note_by head (drop first t) =
      note-at t n i (sym k.count) h
      ∙ ap (λ (x : Head). note_by x (drop (194 + 2 * marks_held (rows_at (drop 97 t) i 1)) t)) (sym q)
      ∙ ap (λ (x : ℕ). note_by head (drop x t)) (sym f)
      in
      e ∙ ap (λ (x : ℕ). jump_in (take x (drop r.start b)) (note_by head (take (length t - first) (drop first t))) sample) o
      ∙ ap (λ (x : List ℕ). jump_in (greeting b r) (note_by head x) sample) (part-on t first)
      ∙ ap (λ (x : Row). jump_in (greeting b x) (note_by head (drop first t)) sample) (sym row)
      ∙ ap (λ (x : Note). jump_in (greeting b (nth i (rows_of t))) x sample) (sym note)

-- the number, among the greetings of a table
module _ (b t : List ℕ) (x sample : ℕ) where
  pub among-none : is_number x ≡ false → Err Number ≡ jump_among b (rows_of t) (notes_of t) x sample
  unfolding jump_among
  among-none h = rw h

  module _ (high : is_number x ≡ true) where
    pub among-absent : absent x (rows_of t) ≡ true → Err Absent ≡ jump_among b (rows_of t) (notes_of t) x sample
    unfolding jump_among
    among-absent h = rw (high, h)

    pub among-found : {i : ℕ} {a : Answer} → absent x (rows_of t) ≡ false → i ≡ find_from x 0 (rows_of t)
        → a ≡ jump_in (greeting b (nth i (rows_of t))) (nth_note i (notes_of t)) sample
        → a ≡ jump_among b (rows_of t) (notes_of t) x sample
    unfolding jump_among
    among-found h place e = rw (high, h, ← place) e

-- TABLE, or what follows
module _ (b t : List ℕ) (x sample : ℕ) {size : ℕ} (z : size ≡ size_of b) {sane : Bool} (e : sane ≡ sane_store size t) where
  judged : sane_store (size_of b) t ≡ sane
  judged = sym (e ∙ ap (λ (y : ℕ). sane_store y t) z)

  pub jump-table : sane ≡ false → Jump x sample b t (Err Table)
  jump-table f = rw (judged, f)

  pub jump-on : {r : Answer} → sane ≡ true → r ≡ jump_among b (rows_of t) (notes_of t) x sample → Jump x sample b t r
  jump-on f g = rw (judged, f) g
