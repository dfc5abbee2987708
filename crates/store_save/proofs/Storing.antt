-- The notes of all greetings laid into a table one after another: `storing-first`, `storing-turn`, `storing-end`.
use Prim.Native.Nat.{ℕ, suc, ◌+◌, ◌*◌, ◌/◌, ◌≤◌, ◌<◌, min}
use mathlib.Core.Path.{◌≡◌, refl, sym, ap, ◌∙◌}
use mathlib.Core.List.{List, [], ◌∷◌, ◌++◌}
use mathlib.Core.Bool.{false}
use native.Mathlib.Omega.{arith}
use lib.ListN.{length, get_or, drop, set, length-set, length-append, length-take}
use lib.Seq.{drop-drop, get_or-drop, take-length, drop-length}
use Rattle.store_rows.specs.declared.rows.Row.{Row}
use Rattle.store_rows.specs.Limits.{largest_block}
use Rattle.store_rows.specs.Rows.{greeting, held}
use Rattle.store_rows.specs.Cells.{row_at, rows_at}
use Rattle.store_rows.proofs.Left.{left, left-all, left_step}
use Rattle.store_rows.proofs.Cells.{rows_snoc, length-rows, held-snoc}
use Rattle.store_rows.proofs.Rising.{rising-next}
use Rattle.store_greeting.specs.Bad.{is_bad}
use Rattle.store_greeting.specs.Marks.{Note, note_of, most_marks}
use Rattle.store_notes.specs.Notes.{insert_note}
use Rattle.store_notes.specs.Cells.{head_row, heads, heads_of, notes_of, marks_held, all_cells, notes_laid}
use Rattle.store_notes.proofs.Noting.{heads-append, all_append, length-all}
use Rattle.store_notes.proofs.Held.{notes-again, heads-of, count_of, notes-of, length-of, none-laid}
use Rattle.store_save.specs.Steps.{bad_by, notes_by, OneMore, AllNotes}
use Rattle.store_save.proofs.Bad.{law-at}
use Rattle.store_greeting.proofs.Count.{note-few}
use Rattle.store_save.proofs.Compared.{bad-split}

-- the notes of one greeting more
notes-snoc : (b : List ℕ) (rows : List Row) (r : Row) (laws : List ℕ)
    → notes_by b (rows ++ (r ∷ [])) laws ≡ notes_by b rows laws ++ (note_of (get_or laws (length rows) 0) (greeting b r) ∷ [])
unfolding notes_by
notes-snoc b [] r laws = refl
notes-snoc b (x ∷ rows) r laws =
    let e : get_or (drop 1 laws) (length rows) 0 ≡ get_or laws (suc (length rows)) 0 = get_or-drop 1 laws (length rows) 0
    ∙ ap (λ (k : ℕ). get_or laws k 0)
    (omega arith) in
    ap (λ (l : List Note). note_of (get_or laws 0 0) (greeting b x) ∷ l)
    (notes-snoc b rows r (drop 1 laws) ∙ ap (λ (k : ℕ). notes_by b rows (drop 1 laws) ++ (note_of k (greeting b r) ∷ [])) e)

length-by : (b : List ℕ) (rows : List Row) (laws : List ℕ) → length (notes_by b rows laws) ≡ length rows
unfolding notes_by
length-by b [] laws = refl
length-by b (r ∷ rows) laws = ap suc (length-by b rows (drop 1 laws))

abbrev by : List ℕ → List ℕ → List ℕ → ℕ → List Note
by b cells laws i = notes_by b (rows_at cells i 1) laws

length-i : (b cells laws : List ℕ) (i : ℕ) → length (by b cells laws i) ≡ i
length-i b cells laws i = length-by b (rows_at cells i 1) laws ∙ length-rows cells i 1

by_next : (b cells laws : List ℕ) (i : ℕ)
    → by b cells laws (i + 1) ≡ by b cells laws i ++ (note_of (get_or laws i 0) (greeting b (row_at cells (1 + 3 * i))) ∷ [])
by_next b cells laws i =
    ap (λ (l : List Row). notes_by b l laws) (rows_snoc cells i 1) ∙ notes-snoc b (rows_at cells i 1) (row_at cells (1 + 3 * i)) laws
    ∙ ap (λ (k : ℕ). by b cells laws i ++ (note_of (get_or laws k 0) (greeting b (row_at cells (1 + 3 * i))) ∷ [])) (length-rows cells i 1)

held-heads : (notes : List Note) (n : Note) → marks_held (heads (notes ++ (n ∷ []))) ≡ marks_held (heads notes) + length n.marks
unfolding heads
held-heads notes n = ap marks_held (heads-append notes (n ∷ [])) ∙ held-snoc (heads notes) (head_row n)

inserted : {notes x : List Note} {y note : Note} {i : ℕ} → notes ≡ x → y ≡ note → length x ≡ i → insert_note i y notes ≡ x ++ (note ∷ [])
inserted {notes} {x} {y} {note} {i} p q l = rw (p, q, ← l, take-length x, drop-length x)

few-marks : (b : List ℕ) (law : ℕ) {r q : Row} → r ≡ q → length (note_of law (greeting b r)).marks ≤ most_marks (length (greeting b r))
    → length (greeting b r) ≤ r.octets → length (note_of law (greeting b q)).marks ≤ most_marks q.octets
few-marks b law e f g = rw (← e) (omega arith)

-- where the storing stands
pub record Storing (b cells laws : List ℕ) (n size : ℕ) (t₀ t : List ℕ) (i : ℕ) : Type 0 where
  pub among : i ≤ n
  pub is : t ≡ notes_laid (by b cells laws i) t₀
  pub fine : bad_by b (left cells n i) (drop i laws) ≡ false
  pub few : 64 * marks_held (heads (by b cells laws i)) ≤ held (rows_at cells i 1) + 64 * i

by-none : (b cells laws : List ℕ) → by b cells laws 0 ≡ []
unfolding rows_at notes_by
by-none b cells laws = refl

none-held : (b cells laws : List ℕ) → 64 * marks_held (heads (by b cells laws 0)) ≤ held (rows_at cells 0 1) + 64 * 0
unfolding rows_at notes_by heads held
none-held b cells laws = omega arith

module _ {b cells laws : List ℕ} {n size : ℕ} {t₀ : List ℕ} (k : AllNotes b cells laws n size t₀) where
  wide : 194 + 2 * (size / 64 + 32) ≤ length t₀
  wide = let z : min size largest_block ≡ size = omega (arith, k.small) in rw z at k.room

  module _ {t : List ℕ} {i : ℕ} (s : Storing b cells laws n size t₀ t i) where
    -- the marks so far fit
    fits : length (all_cells (by b cells laws i)) ≡ 2 * marks_held (heads (by b cells laws i))
    fits = length-all (by b cells laws i)

    inside-so-far : i < n → held (rows_at cells i 1) + (row_at cells (1 + 3 * i)).octets ≤ size
    inside-so-far h = let r = rising-next cells 0 size 0 n 1 i h k.rises in omega (arith, r.above, r.inside)

    module _ (h : i < n) {r : Row} (e : r ≡ row_at cells (1 + 3 * i)) where
      so_far : 64 * marks_held (heads (by b cells laws i)) + r.octets ≤ size + 64 * i
      so_far = let z = ap (λ (q : Row). q.octets) e in omega (arith, s.few, inside-so-far h, z)

      before-end : 194 + length (all_cells (by b cells laws i)) ≤ length t₀
      before-end = omega (arith, so_far, fits, wide, k.few)

      pub storing-length : length t ≡ length t₀
      storing-length =
          ap length s.is ∙ length-of t₀ (omega (arith, wide)) (by b cells laws i)
          (omega (arith, length-i b cells laws i, k.few)) before-end

      bad-here : is_bad (get_or laws i 0) (greeting b r) ≡ false
      unfolding bad_by
      bad-here =
          let f = rw (left_step cells n i e h, law-at laws i) at s.fine in
          (bad-split (is_bad (get_or laws i 0) (greeting b r)) _ f).0

      pub storing-one : {xs : List ℕ} → xs ≡ greeting b r → OneMore (get_or laws i 0) xs t i
      storing-one q =
          let few32 : length (by b cells laws i) ≤ 32 = omega (arith, length-i b cells laws i, k.few) in
          let c = ap (λ (l : List ℕ). get_or l 97 0) s.is ∙ count_of t₀ (omega (arith, wide)) (by b cells laws i) few32 in
          let m = ap marks_held (ap heads_of s.is ∙ heads-of t₀ (omega (arith, wide)) (by b cells laws i) few32) in
          let z = length-take r.octets (drop r.start b) in
          rw q (record {
            fine = bad-here;
            small = omega (arith, so_far, z, k.small, inside-so-far h, ap (λ (q : Row). q.octets) e);
            count = sym (length-i b cells laws i) ∙ sym c;
            few = omega (arith, k.few);
            room = omega (arith, storing-length, m, so_far, wide, z, k.few);
          })

      pub storing-turn : {xs t' : List ℕ} → xs ≡ greeting b r → t' ≡ notes_laid (insert_note i (note_of (get_or laws i 0) xs) (notes_of t)) t
          → Storing b cells laws n size t₀ t' (i + 1)
      unfolding bad_by
      storing-turn {xs} {t'} q g =
          let w : 194 ≤ length t₀ = omega (arith, wide) in
          let x = by b cells laws i in
          let note = note_of (get_or laws i 0) (greeting b (row_at cells (1 + 3 * i))) in
          let lx = length-i b cells laws i in
          let next : by b cells laws (i + 1) ≡ x ++ (note ∷ []) = by_next b cells laws i in
          let ns : notes_of t ≡ x = ap notes_of s.is ∙ notes-of t₀ w x (omega (arith, lx, k.few)) in
          let qe : note_of (get_or laws i 0) xs ≡ note = ap (λ (l : List ℕ). note_of (get_or laws i 0) l) (q ∙ ap (greeting b) e) in
          let ins : insert_note i (note_of (get_or laws i 0) xs) (notes_of t) ≡ x ++ (note ∷ []) = inserted ns qe lx in
          let a = ap length next ∙ length-append x (note ∷ []) in
          let ca = ap (λ (l : List Note). length (all_cells l)) next ∙ ap length (all_append x (note ∷ [])) ∙ length-append (all_cells x)
          (all_cells (note ∷ [])) in
          let hh = ap (λ (l : List Note). marks_held (heads l)) next ∙ held-heads x note in
          let hr = ap held (rows_snoc cells i 1) ∙ held-snoc (rows_at cells i 1) (row_at cells (1 + 3 * i)) in
          let o = storing-one refl in
          let ft = note-few (get_or laws i 0) (greeting b r) in
          let fr : length note.marks ≤ most_marks (row_at cells (1 + 3 * i)).octets =
          few-marks b (get_or laws i 0) e ft (omega (arith, length-take r.octets (drop r.start b))) in
          record {
            among = omega arith;
            is =
                g ∙ ap (λ (l : List Note). notes_laid l t) (ins ∙ sym next) ∙ ap (notes_laid (by b cells laws (i + 1))) s.is
                ∙ notes-again t₀ w (by b cells laws (i + 1)) x (omega (arith, length-i b cells laws (i + 1), k.few)) (omega arith)
                (omega (arith, ca));
            fine =
                let f = rw (left_step cells n i e h, drop-drop 1 i laws) at s.fine in
                (bad-split (is_bad (get_or (drop i laws) 0 0) (greeting b r)) _ f).1;
            few = omega (arith, s.few, hh, hr, fr);
          }

    end_is : n ≤ i → t ≡ notes_laid (notes_by b (rows_at cells n 1) laws) t₀
    end_is h = let e : i ≡ n = omega (arith, s.among) in s.is ∙ ap (λ (j : ℕ). notes_laid (by b cells laws j) t₀) e

-- from the second list made empty
module _ {b cells laws : List ℕ} {n size : ℕ} {t : List ℕ} (k : AllNotes b cells laws n size t) where
  start : 194 ≤ length t
  start = omega (arith, wide k)

  pub all_set : AllNotes b cells laws n size (set t 97 0)
  all_set = record {
    few = k.few;
    cells-room = k.cells-room;
    laws-room = k.laws-room;
    inside = k.inside;
    small = k.small;
    rises = k.rises;
    fine = k.fine;
    room = rw (length-set t 97 0) k.room;
  }

  over_none : (x : List Note) → length x ≤ 32 → notes_laid x (set t 97 0) ≡ notes_laid x t
  unfolding all_cells
  over_none x h = ap (notes_laid x) (none-laid t start) ∙ notes-again t start x [] h (omega arith) (omega arith)

  pub storing-first : Storing b cells laws n size (set t 97 0) (set t 97 0) 0
  storing-first =
      record {
        among = omega arith;
        is = none-laid t start ∙ sym (over_none [] (omega arith))
            ∙ ap (λ (l : List Note). notes_laid l (set t 97 0)) (sym (by-none b cells laws));
        fine = rw (← (left-all cells n)) k.fine;
        few = none-held b cells laws;
      }

  pub storing-end : {t' : List ℕ} {i : ℕ} → Storing b cells laws n size (set t 97 0) t' i → n ≤ i
      → t' ≡ notes_laid (notes_by b (rows_at cells n 1) laws) t
  storing-end s h = end_is all_set s h ∙ over_none (by b cells laws n) (omega (arith, length-i b cells laws n, k.few))
