-- The three parts of a table lie apart: greetings laid leave the notes as they are (`notes-kept`, `heads-kept`, `count_kept`).
-- `note-put`, `note-out`: a note put in and taken out, from what the steps do; `stored_more`, `stored-less`: the same after its greeting.
-- `note-at`: one note of a table, in its cells.
use Prim.Native.Nat.{ℕ, ◌+◌, ◌*◌, ◌-◌, ◌≤◌, ◌<◌}
use mathlib.Core.Path.{◌≡◌, refl, sym, ap, ◌∙◌}
use mathlib.Core.List.{List, ◌∷◌, ◌++◌}
use native.Mathlib.Omega.{arith}
use lib.ListN.{length, get_or, take, drop, length-append, length-take, length-drop, take-append-drop}
use lib.Seq.{drop_at, drop-drop, length-take-le, get_or-drop}
use Rattle.store_rows.specs.declared.rows.Row.{Row}
use Rattle.store_rows.specs.Cells.{row_at, rows_at, rows_of, cells_of, laid}
use Rattle.store_rows.specs.Changed.{nth, insert_at, remove_at}
use Rattle.store_rows.proofs.Cells.{length-cells as length-row-cells, length-rows, take-rows, nth-rows}
use Rattle.store_rows.proofs.Finding.{held-turn}
use Rattle.rules.proofs.Lent.{from_on, back_on}
use Rattle.store_greeting.proofs.Marked.{length-cells}
use Rattle.store_greeting.specs.Marks.{Note, mark_cells}
use Rattle.store_notes.specs.Notes.{insert_note, remove_note, nth_note}
use Rattle.store_notes.specs.Cells.{head_in, head_row, heads, heads_of, head_at, note_by, notes_of, marks_held, all_cells, all_laid}
use Rattle.store_notes.specs.Cells.{anew_from, notes_laid, stored}
use Rattle.store_notes.specs.Changed.{opened, shut}
use Rattle.store_notes.proofs.Noting.{heads-notes, cells-notes, length-all, heads-take}
use Rattle.store_notes.proofs.Noting.{nth-heads, length-heads, heads-insert, heads-remove}
use Rattle.store_notes.proofs.Noting.{note-added, all_append, note-dropped, nth-note}

-- a list of up to 32 lies in 97 cells
pub laid-within : (rows : List Row) (t : List ℕ) → length rows ≤ 32 → drop 97 (laid rows t) ≡ drop 97 t
unfolding laid
laid-within rows t h =
    let head = length rows ∷ cells_of rows in
    let far = 1 + 3 * length rows in
    let more = 97 - far in
    let f : 97 ≡ far + more = omega arith in
    ap (λ (x : ℕ). drop x (head ++ drop far t)) f ∙ sym (drop-drop more far (head ++ drop far t))
    ∙ ap (λ (x : List ℕ). drop more x) (drop_at head (drop far t) far (omega (arith, length-row-cells rows)))
    ∙ drop-drop more far t ∙ ap (λ (x : ℕ). drop x t) (sym f)

-- the cells from place k on made anew
pub anew-behind : (k : ℕ) (f : List ℕ → List ℕ) (t : List ℕ) → k ≤ length t → drop k (anew_from k f t) ≡ f (drop k t)
anew-behind k f t h = drop_at (take k t) (f (drop k t)) k (length-take-le k t h)

-- the second list laid, seen from the marks
pub marks-behind : (hs : List Row) (t : List ℕ) → length hs ≤ 32 → 97 ≤ length t → drop 194 (anew_from 97 (laid hs) t) ≡ drop 194 t
marks-behind hs t h g =
    sym (drop-drop 97 97 (anew_from 97 (laid hs) t)) ∙ ap (λ (x : List ℕ). drop 97 x) (anew-behind 97 (laid hs) t g)
    ∙ laid-within hs (drop 97 t) h ∙ drop-drop 97 97 t

-- greetings laid leave the notes as they are
pub notes-kept : (rows : List Row) (t : List ℕ) → length rows ≤ 32 → notes_of (laid rows t) ≡ notes_of t
notes-kept rows t h =
    let d = laid-within rows t h in
    let e : drop 194 (laid rows t) ≡ drop 194 t = sym (drop-drop 97 97 (laid rows t)) ∙ ap (λ (x : List ℕ). drop 97 x) d
    ∙ drop-drop 97 97 t in
    rw (d, e)

-- a part that is lent from place k on
pub part-made : (k : ℕ) (f : List ℕ → List ℕ) (t : List ℕ) {last t' : List ℕ} → last ≡ f (take (length t - k) (drop k t))
    → t' ≡ take k t ++ (last ++ drop (length t - k) (drop k t)) → t' ≡ anew_from k f t
part-made k f t {last} e g =
    g ∙ ap (λ (x : List ℕ). take k t ++ x) (back_on t k last ∙ e ∙ ap f (from_on t k))

module _ (t : List ℕ) (n i : ℕ) (e : n ≡ get_or t 97 0) (h : i ≤ n) (room : 194 + 2 * marks_held (heads_of t) ≤ length t) where
  count : get_or (drop 97 t) 0 0 ≡ n
  count = get_or-drop 97 t 0 0 ∙ sym e

  all-heads : heads_of t ≡ rows_at (drop 97 t) n 1
  all-heads = ap (λ (k : ℕ). rows_at (drop 97 t) k 1) count

  pub length-notes : length (notes_of t) ≡ n
  length-notes =
      sym (length-heads (notes_of t)) ∙ ap length (heads-notes (heads_of t) (drop 194 t) ∙ all-heads) ∙ length-rows (drop 97 t) n 1

  -- where the marks of greeting i begin, and where all end
  pub marks-at : 2 * marks_held (rows_at (drop 97 t) i 1) ≡ length (all_cells (take i (notes_of t)))
  marks-at =
      let first : heads (take i (notes_of t)) ≡ rows_at (drop 97 t) i 1 =
      heads-take i (notes_of t) ∙ ap (λ (x : List Row). take i x) (heads-notes (heads_of t) (drop 194 t) ∙ all-heads)
      ∙ take-rows (drop 97 t) n 1 i h
      in
      sym (length-all (take i (notes_of t)) ∙ ap (λ (x : List Row). 2 * marks_held x) first)

  pub marks-end : 2 * marks_held (rows_at (drop 97 t) n 1) ≡ length (all_cells (notes_of t))
  marks-end = sym (length-all (notes_of t) ∙ ap (λ (x : List Row). 2 * marks_held x) (heads-notes (heads_of t) (drop 194 t) ∙ all-heads))

  -- those of greeting i begin before all end
  pub marks-order : 2 * marks_held (rows_at (drop 97 t) i 1) ≤ 2 * marks_held (rows_at (drop 97 t) n 1)
  marks-order =
      let notes = notes_of t in
      let parts = ap all_cells (sym (take-append-drop i notes)) ∙ all_append (take i notes) (drop i notes) in
      omega (arith, marks-at, marks-end, ap length parts, length-append (all_cells (take i notes)) (all_cells (drop i notes)))

  pub held_all : marks_held (heads_of t) ≡ marks_held (rows_at (drop 97 t) n 1)
  held_all = ap marks_held all-heads

  -- the cells of the marks, once the second list is made anew
  pub part_length : (hs : List Row) {t₁ : List ℕ} → length hs ≤ 32 → t₁ ≡ anew_from 97 (laid hs) t
      → length (take (length t₁ - 194) (drop 194 t₁)) ≡ length t - 194
  part_length hs {t₁} few p =
      ap length (from_on t₁ 194) ∙ ap (λ (x : List ℕ). length (drop 194 x)) p ∙ ap length (marks-behind hs t few (omega arith))
      ∙ length-drop 194 t

  pub heads-more : (r : Row) → n ≤ 31 → length (insert_at i r (heads_of t)) ≤ 32
  heads-more r few =
      let hs = heads_of t in
      omega (
        arith,
        length-append (take i hs) (r ∷ drop i hs),
        length-take i hs,
        length-drop i hs,
        ap length all-heads,
        length-rows (drop 97 t) n 1,
      )

  pub heads-less : n ≤ 32 → length (remove_at i (heads_of t)) ≤ 32
  heads-less few =
      let hs = heads_of t in
      let l = ap length all-heads ∙ length-rows (drop 97 t) n 1 in
      omega (arith, length-append (take i hs) (drop (i + 1) hs), length-take i hs, length-drop (i + 1) hs, l)

  marks-are : take (2 * marks_held (rows_at (drop 97 t) n 1)) (drop 194 t) ≡ all_cells (notes_of t)
  marks-are =
      ap (λ (x : List Row). take (2 * marks_held x) (drop 194 t)) (sym all-heads)
      ∙ sym (cells-notes (heads_of t) (drop 194 t) (omega (arith, length-drop 194 t)))

  -- the second list made anew, and then the marks
  made : (notes : List Note) (hs : List Row) {t₁ t₂ : List ℕ} (f : List ℕ → List ℕ) → hs ≡ heads notes → length notes ≤ 32
      → t₁ ≡ anew_from 97 (laid hs) t → t₂ ≡ anew_from 194 f t₁ → f (drop 194 t) ≡ all_laid notes (drop 194 t) → t₂ ≡ notes_laid notes t
  unfolding notes_laid
  made notes hs {t₁} {t₂} f s few p q g =
      let first : t₁ ≡ anew_from 97 (laid (heads notes)) t = p ∙ ap (λ (x : List Row). anew_from 97 (laid x) t) s in
      let same = marks-behind (heads notes) t (omega (arith, length-heads notes)) (omega arith) in
      let behind : f (drop 194 t₁) ≡ all_laid notes (drop 194 (anew_from 97 (laid (heads notes)) t)) =
      ap (λ (x : List ℕ). f (drop 194 x)) first ∙ ap f same ∙ g ∙ ap (all_laid notes) (sym same)
      in
      q ∙ ap (λ (x : List ℕ). take 194 t₁ ++ x) behind
      ∙ ap (λ (x : List ℕ). take 194 x ++ all_laid notes (drop 194 (anew_from 97 (laid (heads notes)) t))) first

  pub note-put : (note : Note) (r : Row) (new : List ℕ) {at used : ℕ} {t₁ t₂ : List ℕ} → n ≤ 31 → r ≡ head_row note
      → new ≡ mark_cells note.marks → at ≡ 2 * marks_held (rows_at (drop 97 t) i 1) → used ≡ 2 * marks_held (rows_at (drop 97 t) n 1)
      → t₁ ≡ anew_from 97 (λ (u : List ℕ). laid (insert_at i r (rows_of u)) u) t
      → t₂ ≡ anew_from 194 (λ (u : List ℕ). opened u at used new) t₁ → t₂ ≡ notes_laid (insert_note i note (notes_of t)) t
  note-put note r new {at} {used} few z f a u p q =
      let notes = notes_of t in
      let lengths : length (insert_note i note notes) ≤ 32 =
      omega (arith, length-append (take i notes) (note ∷ drop i notes), length-take i notes, length-drop i notes, length-notes)
      in
      let hs : insert_at i r (heads_of t) ≡ heads (insert_note i note notes) =
      sym (heads-insert i note notes ∙ rw (heads-notes (heads_of t) (drop 194 t), ← z))
      in
      made (insert_note i note notes) (insert_at i r (heads_of t)) (λ (x : List ℕ). opened x at used new) hs lengths p q
      (note-added notes i note (drop 194 t) new f (a ∙ marks-at) (u ∙ marks-end) (ap (λ (k : ℕ). take k (drop 194 t)) u ∙ marks-are))

  pub note-out : {at used by : ℕ} {t₁ t₂ : List ℕ} → n ≤ 32 → i < n → by ≡ 2 * (head_at t i).marks
      → at ≡ 2 * marks_held (rows_at (drop 97 t) i 1) → used ≡ 2 * marks_held (rows_at (drop 97 t) n 1)
      → t₁ ≡ anew_from 97 (λ (u : List ℕ). laid (remove_at i (rows_of u)) u) t → t₂ ≡ anew_from 194 (λ (u : List ℕ). shut u at used by) t₁
      → t₂ ≡ notes_laid (remove_note i (notes_of t)) t
  note-out {at} {used} {by} few inside b a u p q =
      let notes = notes_of t in
      let lengths : length (remove_note i notes) ≤ 32 =
      omega (arith, length-append (take i notes) (drop (i + 1) notes), length-take i notes, length-drop (i + 1) notes, length-notes)
      in
      let hs : remove_at i (heads_of t) ≡ heads (remove_note i notes) =
      sym (heads-remove i notes ∙ ap (λ (x : List Row). remove_at i x) (heads-notes (heads_of t) (drop 194 t)))
      in
      let mine : length (nth_note i notes).marks ≡ (head_at t i).marks =
      ap (λ (r : Row). r.octets)
      (sym (nth-heads i notes (omega (arith, length-notes)))
      ∙ ap (λ (x : List Row). nth i x) (heads-notes (heads_of t) (drop 194 t) ∙ all-heads) ∙ nth-rows (drop 97 t) n 1 i inside)
      in
      made (remove_note i notes) (remove_at i (heads_of t)) (λ (x : List ℕ). shut x at used by) hs lengths p q
      (note-dropped notes i (drop 194 t) (omega (arith, length-notes))
      (b ∙ ap (λ (k : ℕ). 2 * k) (sym mine) ∙ sym (length-cells (nth_note i notes).marks)) (a ∙ marks-at) (u ∙ marks-end)
      (ap (λ (k : ℕ). take k (drop 194 t)) u ∙ marks-are))

-- the marks of greeting i end before all do
pub marks-next : (t : List ℕ) (n i : ℕ) → n ≡ get_or t 97 0 → i < n → 194 + 2 * marks_held (heads_of t) ≤ length t
    → 2 * marks_held (rows_at (drop 97 t) i 1) + 2 * (head_at t i).marks ≤ 2 * marks_held (rows_at (drop 97 t) n 1)
marks-next t n i e h room =
    let o = marks-order t n (i + 1) e (omega arith) room in
    let sum : marks_held (rows_at (drop 97 t) i 1) + (head_at t i).marks ≡ marks_held (rows_at (drop 97 t) (i + 1) 1) =
    held-turn (drop 97 t) i refl refl
    in
    omega (arith, o, sum)

-- note i of a table: law, samples and how many marks in the second list, its marks behind those of the greetings before it
pub note-at : (t : List ℕ) (n i : ℕ) → n ≡ get_or t 97 0 → i < n
    → nth_note i (notes_of t) ≡ note_by (head_at t i) (drop (194 + 2 * marks_held (rows_at (drop 97 t) i 1)) t)
note-at t n i e h =
    let u = drop 97 t in
    let hs = heads_of t in
    let count : get_or u 0 0 ≡ n = get_or-drop 97 t 0 0 ∙ sym e in
    let many : hs ≡ rows_at u n 1 = ap (λ (k : ℕ). rows_at u k 1) count in
    let mine : nth i hs ≡ row_at u (1 + 3 * i) = ap (nth i) many ∙ nth-rows u n 1 i h in
    let before : take i hs ≡ rows_at u i 1 = ap (take i) many ∙ take-rows u n 1 i (omega arith) in
    nth-note hs (drop 194 t) i (omega (arith, ap length many, length-rows u n 1))
    ∙ ap (λ (r : Row). note_by (head_in r) (drop (2 * marks_held (take i hs)) (drop 194 t))) mine
    ∙ ap (λ (rs : List Row). note_by (head_at t i) (drop (2 * marks_held rs) (drop 194 t))) before
    ∙ ap (note_by (head_at t i)) (drop-drop (2 * marks_held (rows_at u i 1)) 194 t)

-- greetings laid leave the second list as it is
module _ (rows : List Row) (t : List ℕ) {t₁ : List ℕ} (few : length rows ≤ 32) (e : t₁ ≡ laid rows t) where
  behind : drop 97 t₁ ≡ drop 97 t
  behind = ap (λ (x : List ℕ). drop 97 x) e ∙ laid-within rows t few

  pub heads-kept : heads_of t₁ ≡ heads_of t
  heads-kept = ap (λ (x : List ℕ). rows_of x) behind

  pub count_kept : get_or t₁ 97 0 ≡ get_or t 97 0
  count_kept = sym (get_or-drop 97 t₁ 0 0) ∙ ap (λ (x : List ℕ). get_or x 0 0) behind ∙ get_or-drop 97 t 0 0

  -- a note put in after its greeting, and taken out after it
  pub stored_more : (i : ℕ) (note : Note) {t' : List ℕ} → t' ≡ notes_laid (insert_note i note (notes_of t₁)) t₁
      → t' ≡ stored rows (insert_note i note (notes_of t)) t
  stored_more i note g =
      g ∙ ap (λ (u : List ℕ). notes_laid (insert_note i note (notes_of u)) u) e
      ∙ ap (λ (ns : List Note). notes_laid (insert_note i note ns) (laid rows t)) (notes-kept rows t few)

  pub stored-less : (i : ℕ) {t' : List ℕ} → t' ≡ notes_laid (remove_note i (notes_of t₁)) t₁ → t' ≡ stored rows (remove_note i (notes_of t)) t
  stored-less i g =
      g ∙ ap (λ (u : List ℕ). notes_laid (remove_note i (notes_of u)) u) e
      ∙ ap (λ (ns : List Note). notes_laid (remove_note i ns) (laid rows t)) (notes-kept rows t few)
