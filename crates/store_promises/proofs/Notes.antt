-- R-8: "Every put and move keeps marks true to what the walk gives", by number: a new greeting's note is what the walk by its law gives
-- (`put-notes-new`); every other greeting's note is what it was, law, samples and marks, moved or not (`put-notes-others`,
-- `delete-notes-others`). So over any list of calls, until it is deleted or a table is loaded: `note-stays`, `put-note-stays`.
use Prim.Native.Nat.{ℕ, ◌+◌}
use mathlib.Core.Path.{◌≡◌, refl, sym, ap, subst, ◌∙◌}
use mathlib.Core.List.{List, [], ◌∷◌, ◌++◌}
use native.Mathlib.Omega.{arith}
use native.Mathlib.Decide.{ℕ_discrete}
use lib.ListN.{length, take, drop, length-take, take-append-drop}
use Rattle.store_rows.specs.declared.rows.Row.{Row}
use Rattle.std.specs.Prelude.{Option, Some, None}
use Rattle.store_rows.specs.Limits.{size_of}
use Rattle.store_rows.specs.Rows.{row_of, held}
use Rattle.store_rows.specs.Finding.{lowest_gap}
use Rattle.store_rows.specs.Cells.{rows_of}
use Rattle.store_rows.specs.Changed.{insert_at}
use Rattle.store_rows.specs.Closing.{closed_rows}
use Rattle.store_rows.proofs.Closed.{length-closed}
use Rattle.store_greeting.specs.Marks.{Note, note_of}
use Rattle.store_notes.specs.Notes.{nth_note, insert_note}
use Rattle.store_notes.specs.Cells.{notes_of, stored}
use Rattle.store.specs.Store.{Outcome, leaves, refused, After, put_at}
use Rattle.store.specs.Calls.{put_of, delete_of, table_after}
use Rattle.store_promises.specs.Told.{Call, putting, getting, deleting, saving, loading, Store, rows_in, notes_for, see, see_all, Leaves}
use Rattle.store_promises.specs.Kept.{noted, unknown, note_under}
use Rattle.store_promises.proofs.Numbers.{Fresh, FoundAt, fresh-append, fresh-join, fresh-closed, distinct-behind}
use Rattle.store_promises.proofs.Along.{under-put, under-other, under_none, under-closed}
use Rattle.store_promises.proofs.Granted.{put-granted, put-fresh, sane-count, sane-distinct}
use Rattle.store_promises.proofs.Granted.{put_back, delete-back, delete-gone, delete-rows, delete-notes, delete-parts, delete-taken}

-- one put in among others
module _ (x i : ℕ) (rows : List Row) (notes : List Note) (new : Row) (n : Note) (e : new.number ≡ x)
    (same : length notes ≡ length rows) where
  taken-same : length (take i rows) ≡ length (take i notes)
  taken-same = omega (arith, length-take i rows, length-take i notes)

  among-new : Fresh x rows → note_under x (insert_at i new rows) (insert_note i n notes) ≡ noted n
  among-new f =
      let g = (fresh-append x (take i rows) (drop i rows) (rw (take-append-drop i rows) f)).0 in
      under-put x (take i rows) new (drop i rows) (take i notes) n (drop i notes) taken-same g e

  among-others : (y : ℕ) → (x ≡ y → ⊥) → note_under y (insert_at i new rows) (insert_note i n notes) ≡ note_under y rows notes
  among-others y d =
      let m : new.number ≡ y → ⊥ = λ q. d (sym e ∙ q) in
      under-other y (take i rows) new (drop i rows) (take i notes) n (drop i notes) taken-same m
      ∙ ap (λ (l : List Row). note_under y l (take i notes ++ drop i notes)) (take-append-drop i rows)
      ∙ ap (note_under y rows) (take-append-drop i notes)

module _ (b t : List ℕ) (law x : ℕ) (xs : List ℕ) {a : After} (e : put_of b t law x xs ≡ leaves a) where
  same : length (notes_of t) ≡ length (rows_of t)
  same = sane-count b t (put-granted b t law x xs a e).sane

  abbrev after : Option (ℕ × ℕ) → After
  after p = put_at b (rows_of t) (notes_of t) law x xs p

  closed_same : length (notes_of t) ≡ length (closed_rows 0 (rows_of t))
  closed_same = same ∙ sym (length-closed 0 (rows_of t))

  new_in : (p : Option (ℕ × ℕ)) → note_under x (after p).rows (after p).notes ≡ noted (note_of law xs)
  new_in (Some (i, s)) = among-new x i (rows_of t) (notes_of t) (row_of x s (length xs)) (note_of law xs) refl same (put-fresh b t law x xs e)
  new_in None =
      let rows = rows_of t in
      among-new x (length rows) (closed_rows 0 rows) (notes_of t) (row_of x (held rows) (length xs)) (note_of law xs) refl closed_same
      (fresh-closed x 0 rows (put-fresh b t law x xs e))

  others-in : (p : Option (ℕ × ℕ)) (y : ℕ) → (x ≡ y → ⊥) → note_under y (after p).rows (after p).notes ≡ note_under y (rows_of t) (notes_of t)
  others-in (Some (i, s)) y d = among-others x i (rows_of t) (notes_of t) (row_of x s (length xs)) (note_of law xs) refl same y d
  others-in None y d =
      let rows = rows_of t in
      among-others x (length rows) (closed_rows 0 rows) (notes_of t) (row_of x (held rows) (length xs)) (note_of law xs) refl closed_same y d
      ∙ under-closed y 0 rows (notes_of t)

  pub put-notes-new : note_under x a.rows a.notes ≡ noted (note_of law xs)
  put-notes-new = rw (put-granted b t law x xs a e).is (new_in (lowest_gap (length xs) (size_of b) (rows_of t)))

  pub put-notes-others : (y : ℕ) → (x ≡ y → ⊥) → note_under y a.rows a.notes ≡ note_under y (rows_of t) (notes_of t)
  put-notes-others y d = rw (put-granted b t law x xs a e).is (others-in (lowest_gap (length xs) (size_of b) (rows_of t)) y d)

module _ (b t : List ℕ) (x : ℕ) {a : After} (e : delete_of b t x ≡ leaves a) where
  abbrev found : FoundAt x 0 (rows_of t)
  found = (delete-gone b t x a e).found

  abbrev before : List Note
  before = take (length found.before) (notes_of t)

  abbrev behind : List Note
  behind = drop (length found.before + 1) (notes_of t)

  left-notes : (y : ℕ) → note_under y a.rows a.notes ≡ note_under y (found.before ++ found.behind) (before ++ behind)
  left-notes y =
      ap (λ (l : List Row). note_under y l a.notes) (delete-rows b t x e)
      ∙ ap (note_under y (found.before ++ found.behind)) (delete-notes b t x e)

  pub delete-notes-none : note_under x a.rows a.notes ≡ unknown
  delete-notes-none =
      let d = sane-distinct (size_of b) t (delete-gone b t x a e).sane in
      let f = distinct-behind found.before found.row found.behind (rw found.is at d) in
      let g = rw found.number at f in
      left-notes x ∙ under_none x (found.before ++ found.behind) (before ++ behind)
      (fresh-join x found.before found.behind g.0 g.1)

  pub delete-notes-others : (y : ℕ) → (x ≡ y → ⊥) → note_under y a.rows a.notes ≡ note_under y (rows_of t) (notes_of t)
  delete-notes-others y n =
      let m : found.row.number ≡ y → ⊥ = λ q. n (sym found.number ∙ q) in
      let o = nth_note (length found.before) (notes_of t) in
      left-notes y ∙ sym (under-other y found.before found.row found.behind before o behind (sym (delete-taken b t x e)) m)
      ∙ sym (ap (λ (l : List Row). note_under y l (before ++ (o ∷ behind))) found.is)
      ∙ sym (ap (note_under y (rows_of t)) (delete-parts b t x e))

-- ANY LIST OF CALLS: a greeting that is there keeps its note until it is deleted or a table is loaded
not-unknown : {n : Note} {A : Type 0} → unknown ≡ noted n → A
not-unknown e = let z : ◌≡◌ {A = ℕ} 0 1 = cc in absurd (omega arith)

module _ (x : ℕ) (n : Note) where
  abbrev Has : List ℕ → Type 0
  Has t = note_under x (rows_of t) (notes_of t) ≡ noted n

  after-put : (b t : List ℕ) (law y : ℕ) (ys : List ℕ) → Has t → (o : Outcome) → put_of b t law y ys ≡ o → Has (table_after o t)
  after-put b t law y ys h (refused w) e = h
  after-put b t law y ys h (leaves a) e =
      let z = put_back b t law y ys e in
      rw (z.rows_are, z.notes-are) (go (ℕ_discrete y x))
    where
      go : Dec (y ≡ x) → note_under x a.rows a.notes ≡ noted n
      go (no d) = put-notes-others b t law y ys e x d ∙ h
      go (yes q) =
          let f = subst (λ (k : ℕ). Fresh k (rows_of t)) q (put-fresh b t law y ys e) in
          not-unknown (sym (under_none x (rows_of t) (notes_of t) f) ∙ h)

  after-delete : (b t : List ℕ) (y : ℕ) → (y ≡ x → ⊥) → Has t → (o : Outcome) → delete_of b t y ≡ o → Has (table_after o t)
  after-delete b t y d h (refused w) e = h
  after-delete b t y d h (leaves a) e =
      let z = delete-back b t y e in
      rw (z.rows_are, z.notes-are) (delete-notes-others b t y e x d ∙ h)

  pub note-stays : (cs : List Call) (s : Store) → Leaves x cs → Has s.table → Has (see_all cs s).table
  unfolding see_all Leaves
  note-stays [] s l h = h
  note-stays (putting law y ys ∷ cs) s l h =
      note-stays cs (see (putting law y ys) s) l (after-put s.block s.table law y ys h (put_of s.block s.table law y ys) refl)
  note-stays (getting y ∷ cs) s l h = note-stays cs (see (getting y) s) l h
  note-stays (deleting y ∷ cs) s l h =
      note-stays cs (see (deleting y) s) l.1 (after-delete s.block s.table y l.0 h (delete_of s.block s.table y) refl)
  note-stays (saving room ∷ cs) s l h = note-stays cs (see (saving room) s) l h
  note-stays (loading text ∷ cs) s l h = absurd l

-- the law is the one that was put, samples and marks are what the walk by it gives
pub put-note-stays : (s : Store) (law x : ℕ) (xs : List ℕ) (a : After) → put_of s.block s.table law x xs ≡ leaves a
    → (cs : List Call) → Leaves x cs
    → note_under x (rows_in (see_all cs (see (putting law x xs) s))) (notes_for (see_all cs (see (putting law x xs) s))) ≡ noted (note_of law xs)
put-note-stays s law x xs a e cs l =
    let z = put_back s.block s.table law x xs e in
    let t : table_after (put_of s.block s.table law x xs) s.table ≡ stored a.rows a.notes s.table = rw e in
    note-stays x (note_of law xs) cs (see (putting law x xs) s) l
    (rw (t, z.rows_are, z.notes-are) (put-notes-new s.block s.table law x xs e))
