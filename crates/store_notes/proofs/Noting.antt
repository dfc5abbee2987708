-- Notes and the cells that they lie in: `heads-notes`, `cells-notes` (the cells of notes are those they are read from), `notes-back` (laid,
-- they read back), `nth-note` (one of them); a note put in (`note-added`) and taken out (`note-dropped`).
use Prim.Native.Nat.{ℕ, zero, suc, ◌+◌, ◌*◌, ◌-◌, ◌≤◌, ◌<◌}
use mathlib.Core.Path.{◌≡◌, refl, sym, ap, ◌∙◌}
use mathlib.Core.List.{List, [], ◌∷◌, ◌++◌, append_assoc}
use native.Mathlib.Omega.{arith}
use lib.ListN.{length, get_or, take, drop, length-append, length-drop, take-append-drop}
use lib.Seq.{take_at, drop_at, drop-drop, split_at, take-add}
use Rattle.store_rows.specs.declared.rows.Row.{Row}
use Rattle.store_rows.specs.Rows.{held}
use Rattle.store_rows.specs.Changed.{nth, insert_at, remove_at}
use Rattle.store_greeting.specs.Marks.{Mark, Note, mark_cells}
use Rattle.store_greeting.proofs.Marked.{length-cells}
use Rattle.store_notes.specs.Notes.{no_note, nth_note, insert_note, remove_note}
use Rattle.store_notes.specs.Cells.{head_in, head_row, heads, marks_in, note_by, notes_in, marks_held, all_cells, all_laid}
use Rattle.store_notes.specs.Changed.{opened, shut}

-- so many marks
pub length-marks : (n : ℕ) (cells : List ℕ) → length (marks_in n cells) ≡ n
unfolding marks_in
length-marks zero cells = refl
length-marks (suc n) cells = ap suc (length-marks n (drop 2 cells))

-- the marks' cells are those that they are read from
two_cells : (cells : List ℕ) → 2 ≤ length cells → get_or cells 0 0 ∷ get_or cells 1 0 ∷ drop 2 cells ≡ cells
two_cells [] h = absurd (omega arith)
two_cells (a ∷ []) h = absurd (omega arith)
two_cells (a ∷ (b ∷ cells)) h = refl

pub cells-marks : (n : ℕ) (cells : List ℕ) → 2 * n ≤ length cells → mark_cells (marks_in n cells) ≡ take (2 * n) cells
unfolding marks_in mark_cells
cells-marks zero cells h = refl
cells-marks (suc n) cells h =
    let e : 2 * suc n ≡ suc (suc (2 * n)) = omega arith in
    let ih = cells-marks n (drop 2 cells) (omega (arith, length-drop 2 cells)) in
    let c = two_cells cells (omega arith) in
    ap (λ (x : List ℕ). get_or cells 0 0 ∷ get_or cells 1 0 ∷ x) ih
    ∙ sym (ap (λ (k : ℕ). take k cells) e ∙ ap (λ (x : List ℕ). take (suc (suc (2 * n))) x) (sym c))

-- marks laid are the marks read
pub marks-back : (ms : List Mark) (rest : List ℕ) → marks_in (length ms) (mark_cells ms ++ rest) ≡ ms
unfolding marks_in mark_cells
marks-back [] rest = refl
marks-back (m ∷ ms) rest = ap (λ (x : List Mark). m ∷ x) (marks-back ms rest)

pub heads-notes : (hs : List Row) (cells : List ℕ) → heads (notes_in hs cells) ≡ hs
unfolding heads notes_in
heads-notes [] cells = refl
heads-notes (h ∷ hs) cells = rw (length-marks h.octets cells, heads-notes hs (drop (2 * h.octets) cells))

pub cells-notes : (hs : List Row) (cells : List ℕ) → 2 * marks_held hs ≤ length cells
    → all_cells (notes_in hs cells) ≡ take (2 * marks_held hs) cells
unfolding notes_in held all_cells
cells-notes [] cells h = refl
cells-notes (r ∷ hs) cells h =
    let m = 2 * r.octets in
    let e : 2 * (r.octets + marks_held hs) ≡ m + 2 * marks_held hs = omega arith in
    rw (
      e,
      take-add m (2 * marks_held hs) cells,
      cells-marks r.octets cells (omega arith),
      cells-notes hs (drop m cells) (omega (arith, length-drop m cells)),
    )

pub length-all : (notes : List Note) → length (all_cells notes) ≡ 2 * marks_held (heads notes)
unfolding all_cells heads held
length-all [] = refl
length-all (n ∷ notes) =
    omega (arith, length-append (mark_cells n.marks) (all_cells notes), length-cells n.marks, length-all notes)

-- notes laid are the notes read
pub notes-back : (notes : List Note) (rest : List ℕ) → notes_in (heads notes) (all_cells notes ++ rest) ≡ notes
unfolding notes_in heads all_cells
notes-back [] rest = refl
notes-back (n ∷ notes) rest =
    let mine = mark_cells n.marks in
    let more = all_cells notes ++ rest in
    let a = append_assoc mine (all_cells notes) rest in
    let d = drop_at mine more (2 * length n.marks) (length-cells n.marks) in
    rw (a, marks-back n.marks more, d, notes-back notes rest)

-- one after another
pub heads-append : (a b : List Note) → heads (a ++ b) ≡ heads a ++ heads b
unfolding heads
heads-append [] b = refl
heads-append (n ∷ a) b = ap (λ (x : List Row). head_row n ∷ x) (heads-append a b)

pub heads-take : (i : ℕ) (notes : List Note) → heads (take i notes) ≡ take i (heads notes)
unfolding heads
heads-take zero notes = refl
heads-take (suc i) [] = refl
heads-take (suc i) (n ∷ notes) = ap (λ (x : List Row). head_row n ∷ x) (heads-take i notes)

pub heads-drop : (i : ℕ) (notes : List Note) → heads (drop i notes) ≡ drop i (heads notes)
unfolding heads
heads-drop zero notes = refl
heads-drop (suc i) [] = refl
heads-drop (suc i) (n ∷ notes) = heads-drop i notes

pub length-heads : (notes : List Note) → length (heads notes) ≡ length notes
unfolding heads
length-heads [] = refl
length-heads (n ∷ notes) = ap suc (length-heads notes)

pub nth-heads : (i : ℕ) (notes : List Note) → i < length notes → nth i (heads notes) ≡ head_row (nth_note i notes)
unfolding heads
nth-heads i [] h = absurd (omega arith)
nth-heads zero (n ∷ notes) h = refl
nth-heads (suc i) (n ∷ notes) h = nth-heads i notes (omega arith)

-- note i: its marks stand behind those of the notes before it
pub nth-note : (hs : List Row) (cells : List ℕ) (i : ℕ) → i < length hs
    → nth_note i (notes_in hs cells) ≡ note_by (head_in (nth i hs)) (drop (2 * marks_held (take i hs)) cells)
unfolding notes_in held
nth-note [] cells i h = absurd (omega arith)
nth-note (r ∷ hs) cells zero h = refl
nth-note (r ∷ hs) cells (suc i) h =
    let e : 2 * r.octets + 2 * marks_held (take i hs) ≡ 2 * (r.octets + marks_held (take i hs)) = omega arith in
    nth-note hs (drop (2 * r.octets) cells) i (omega arith) ∙ ap (note_by (head_in (nth i hs)))
    (drop-drop (2 * marks_held (take i hs)) (2 * r.octets) cells ∙ ap (λ (k : ℕ). drop k cells) e)

pub heads-cons : (n : Note) (notes : List Note) → heads (n ∷ notes) ≡ head_row n ∷ heads notes
unfolding heads
heads-cons n notes = refl

pub heads-insert : (i : ℕ) (n : Note) (notes : List Note) → heads (insert_note i n notes) ≡ insert_at i (head_row n) (heads notes)
heads-insert i n notes =
    rw (heads-append (take i notes) (n ∷ drop i notes), heads-cons n (drop i notes), heads-take i notes, heads-drop i notes)

pub heads-remove : (i : ℕ) (notes : List Note) → heads (remove_note i notes) ≡ remove_at i (heads notes)
heads-remove i notes = rw (heads-append (take i notes) (drop (i + 1) notes), heads-take i notes, heads-drop (i + 1) notes)

pub all_append : (a b : List Note) → all_cells (a ++ b) ≡ all_cells a ++ all_cells b
unfolding all_cells
all_append [] b = refl
all_append (n ∷ a) b =
    let mine = mark_cells n.marks in
    ap (λ (x : List ℕ). mine ++ x) (all_append a b) ∙ sym (append_assoc mine (all_cells a) (all_cells b))

all_cons : (n : Note) (notes : List Note) → all_cells (n ∷ notes) ≡ mark_cells n.marks ++ all_cells notes
unfolding all_cells
all_cons n notes = refl

-- the marks' cells with one note more
pub note-added : (notes : List Note) (i : ℕ) (n : Note) (cells new : List ℕ) {at used : ℕ} → new ≡ mark_cells n.marks
    → at ≡ length (all_cells (take i notes)) → used ≡ length (all_cells notes) → take used cells ≡ all_cells notes
    → opened cells at used new ≡ all_laid (insert_note i n notes) cells
unfolding opened
note-added notes i n cells new {at} {used} m a u w =
    let front = all_cells (take i notes) in
    let back = all_cells (drop i notes) in
    let s : all_cells notes ≡ front ++ back = ap all_cells (sym (take-append-drop i notes)) ∙ all_append (take i notes) (drop i notes) in
    let l : used ≡ at + length back = u ∙ ap length s ∙ length-append front back ∙ omega arith in
    let c : cells ≡ front ++ (back ++ drop used cells) =
    sym (take-append-drop used cells) ∙ ap (λ (x : List ℕ). x ++ drop used cells) (w ∙ s) ∙ append_assoc front back (drop used cells)
    in
    let t₁ : take at cells ≡ front = ap (λ (x : List ℕ). take at x) c ∙ take_at front (back ++ drop used cells) at (sym a) in
    let d₁ : drop at cells ≡ back ++ drop used cells = ap (λ (x : List ℕ). drop at x) c
    ∙ drop_at front (back ++ drop used cells) at (sym a) in
    let t₂ : take (used - at) (drop at cells) ≡ back =
    ap (λ (x : List ℕ). take (used - at) x) d₁ ∙ take_at back (drop used cells) (used - at) (omega arith)
    in
    let all = insert_note i n notes in
    let f : all_cells all ≡ front ++ (new ++ back) =
    all_append (take i notes) (n ∷ drop i notes)
    ∙ ap (λ (x : List ℕ). front ++ x) (all_cons n (drop i notes) ∙ ap (λ (x : List ℕ). x ++ back) (sym m))
    in
    let k : length (all_cells all) ≡ used + length new = ap length f ∙ length-append front (new ++ back)
    ∙ omega (arith, length-append new back) in
    rw (t₁, t₂, k, f) (simp append_assoc)

-- and with one less
pub note-dropped : (notes : List Note) (i : ℕ) (cells : List ℕ) {at used by : ℕ} → i < length notes
    → by ≡ length (mark_cells (nth_note i notes).marks)
    → at ≡ length (all_cells (take i notes)) → used ≡ length (all_cells notes) → take used cells ≡ all_cells notes
    → shut cells at used by ≡ all_laid (remove_note i notes) cells
unfolding shut
note-dropped notes i cells {at} {used} {by} h m a u w =
    let front = all_cells (take i notes) in
    let mine = mark_cells (nth_note i notes).marks in
    let back = all_cells (drop (i + 1) notes) in
    let one : suc i ≡ i + 1 = omega arith in
    let parts : notes ≡ take i notes ++ (nth_note i notes ∷ drop (i + 1) notes) =
    split_at notes i no_note h ∙ ap (λ (k : ℕ). take i notes ++ (nth_note i notes ∷ drop k notes)) one
    in
    let s : all_cells notes ≡ front ++ (mine ++ back) =
    ap all_cells parts ∙ all_append (take i notes) (nth_note i notes ∷ drop (i + 1) notes)
    ∙ ap (λ (x : List ℕ). front ++ x) (all_cons (nth_note i notes) (drop (i + 1) notes))
    in
    let l : used ≡ at + by + length back =
    u ∙ ap length s ∙ length-append front (mine ++ back) ∙ omega (arith, length-append mine back)
    in
    let end = drop used cells in
    let c : cells ≡ (front ++ mine) ++ (back ++ end) =
    sym (take-append-drop used cells) ∙ ap (λ (x : List ℕ). x ++ end) (w ∙ s) ∙ simp append_assoc
    in
    let fm = length-append front mine in
    let t₁ : take at cells ≡ front =
    ap (λ (x : List ℕ). take at x) (c ∙ append_assoc front mine (back ++ end)) ∙ take_at front (mine ++ (back ++ end)) at (sym a)
    in
    let d₁ : drop (at + by) cells ≡ back ++ end =
    ap (λ (x : List ℕ). drop (at + by) x) c ∙ drop_at (front ++ mine) (back ++ end) (at + by) (omega arith)
    in
    let t₂ : take (used - (at + by)) (drop (at + by) cells) ≡ back =
    ap (λ (x : List ℕ). take (used - (at + by)) x) d₁ ∙ take_at back end (used - (at + by)) (omega arith)
    in
    let f : all_cells (remove_note i notes) ≡ front ++ back = all_append (take i notes) (drop (i + 1) notes) in
    let k : length (all_cells (remove_note i notes)) ≡ used - by = ap length f ∙ length-append front back ∙ omega arith in
    rw (t₁, t₂, k, f) (simp append_assoc)
