-- A greeting in the lowest gap (`fit-gap`), or behind all that closed up (`fit-behind`), its note among the notes; and that there is room
-- for its row (`gap-told`, `closed-count`) and for its note (`gap-asks`, `behind-asks`).
use Prim.Native.Nat.{ℕ, ◌+◌, ◌*◌, ◌≤◌}
use mathlib.Core.Path.{◌≡◌, refl, sym, ap, ◌∙◌}
use mathlib.Core.List.{List, ◌∷◌}
use native.Mathlib.Omega.{arith}
use lib.ListN.{length, take, drop, get_or, length-append, length-drop, length-take}
use Rattle.store_rows.specs.declared.rows.Row.{Row}
use Rattle.std.proofs.Common.{Some, None}
use Rattle.store_rows.specs.Limits.{largest_block}
use Rattle.store_rows.specs.Rows.{row_of, held}
use Rattle.store_rows.specs.Finding.{lowest_gap}
use Rattle.store_rows.specs.Cells.{rows_of, laid}
use Rattle.store_rows.specs.Changed.{insert_at, remove_at, written}
use Rattle.store_rows.specs.Closing.{closed_rows, closed_block, Closes}
use Rattle.store_greeting.specs.Marks.{note_of, most_marks}
use Rattle.store_notes.specs.Notes.{insert_note}
use Rattle.store_notes.specs.Cells.{heads_of, notes_of, marks_held, notes_laid, stored}
use Rattle.store_notes.specs.Sane.{Noted}
use Rattle.std.proofs.Common.{Ok}
use Rattle.store.specs.Store.{leaves, fitted}
use Rattle.store.specs.Calls.{Says}
use Rattle.store_rows.proofs.Cells.{length-rows, count-laid, rows-laid, laid-again}
use Rattle.store_rows.proofs.Finding.{gap-fits}
use Rattle.store_rows.proofs.Closed.{length-closed}
use Rattle.store_notes.proofs.Stored.{heads-kept, count_kept, stored_more}
use Rattle.store_notes.proofs.Matched.{room-more}

pub length_inserted : (n : ℕ) (r : Row) (rows : List Row) → n ≤ length rows → length (insert_at n r rows) ≡ length rows + 1
length_inserted n r rows h = omega (arith, length-append (take n rows) (r ∷ drop n rows), length-take n rows, length-drop n rows)

-- of the greetings of a table
pub rows_more : (t : List ℕ) (i : ℕ) (r : Row) → get_or t 0 0 ≤ 31 → i ≤ get_or t 0 0 → length (insert_at i r (rows_of t)) ≤ 32
rows_more t i r f g =
    omega (arith, length_inserted i r (rows_of t) (omega (arith, length-rows t (get_or t 0 0) 1)), length-rows t (get_or t 0 0) 1)

pub rows-less : (t : List ℕ) (i : ℕ) → get_or t 0 0 ≤ 32 → length (remove_at i (rows_of t)) ≤ 32
rows-less t i f =
    let rows = rows_of t in
    omega (
      arith,
      length-append (take i rows) (drop (i + 1) rows),
      length-take i rows,
      length-drop (i + 1) rows,
      length-rows
          t (get_or t 0 0) 1,
    )

-- the table of greetings, closed up and then with the new one
module _ (b t : List ℕ) (x : ℕ) (xs : List ℕ) {b₁ t₁ : List ℕ} {n m : ℕ} (c : Closes b t (rows_of t) b₁ t₁ m) (q : n ≡ get_or t 0 0) where
  pub closed-count : n ≡ get_or t₁ 0 0
  closed-count =
      let rows = rows_of t in
      q ∙ sym (ap (λ (y : List ℕ). get_or y 0 0) c.table ∙ count-laid (closed_rows 0 rows) t ∙ length-closed 0 rows
      ∙ length-rows t (get_or t 0 0) 1)

  closed-new : (h : ℕ) → length (insert_at n (row_of x h (length xs)) (closed_rows 0 (rows_of t))) ≡ n + 1
  closed-new h =
      let done = closed_rows 0 (rows_of t) in
      let l = length-closed 0 (rows_of t) ∙ length-rows t (get_or t 0 0) 1 in
      omega (arith, length_inserted n (row_of x h (length xs)) done (omega (arith, l, q)), l, q)

  closed-more : (h : ℕ) {t₂ : List ℕ} → t₂ ≡ laid (insert_at n (row_of x h (length xs)) (rows_of t₁)) t₁
      → t₂ ≡ laid (insert_at n (row_of x h (length xs)) (closed_rows 0 (rows_of t))) t
  closed-more h g =
      let done = closed_rows 0 (rows_of t) in
      let r = row_of x h (length xs) in
      let l = length-closed 0 (rows_of t) ∙ length-rows t (get_or t 0 0) 1 in
      let d : rows_of t₁ ≡ done = ap (λ (y : List ℕ). rows_of y) c.table ∙ rows-laid done t in
      let new = insert_at n r done in
      g ∙ ap (λ (y : List Row). laid (insert_at n r y) t₁) d ∙ ap (λ (y : List ℕ). laid new y) c.table
      ∙ laid-again new done t (omega (arith, closed-new h, l, q))

-- what its note asks, once its row is in
pub record Asks (t : List ℕ) (n m : ℕ) : Type 0 where
  pub count : n ≡ get_or t 97 0
  pub room : 194 + 2 * (marks_held (heads_of t) + m) ≤ length t

module _ (t : List ℕ) (size x : ℕ) (xs : List ℕ) {n : ℕ} (k : Noted size t) (q : n ≡ get_or t 0 0) where
  pub gap-told : {i at : ℕ} → Some (i, at) ≡ lowest_gap (length xs) size (rows_of t) → (i ≤ n) × (at + length xs ≤ size)
  gap-told e =
      let g = gap-fits (length xs) size 1 0 0 (rows_of t) k.order.rises e in
      (omega (arith, g.among, length-rows t (get_or t 0 0) 1, q), g.inside)

  module _ (z : size ≤ largest_block) (f : n ≤ 31) (room : held (rows_of t) + length xs ≤ size) {m : ℕ}
      (few : m ≤ most_marks (length xs)) where
    asks : (rows : List Row) {t₁ : List ℕ} → length rows ≤ 32 → t₁ ≡ laid rows t → length t₁ ≡ length t → Asks t₁ n m
    asks rows s e l =
        let more = room-more k z (length xs) m (omega (arith, q)) room few in
        record {
          count = q ∙ sym k.count ∙ sym (count_kept rows t s e);
          room = rw (heads-kept rows t s e, l) more;
        }

    pub gap-asks : {i at : ℕ} {t₁ : List ℕ} → Some (i, at) ≡ lowest_gap (length xs) size (rows_of t)
        → t₁ ≡ laid (insert_at i (row_of x at (length xs)) (rows_of t)) t → length t₁ ≡ length t → Asks t₁ n m
    gap-asks {i} {at} e g l =
        let r = row_of x at (length xs) in
        asks (insert_at i r (rows_of t)) (rows_more t i r (omega (arith, q)) (omega (arith, (gap-told e).0, q))) g l

    pub behind-asks : {b b₁ t₁ t₂ : List ℕ} {c : ℕ} (h : ℕ) → Closes b t (rows_of t) b₁ t₁ c
        → t₂ ≡ laid (insert_at n (row_of x h (length xs)) (rows_of t₁)) t₁ → length t₂ ≡ length t → Asks t₂ n m
    behind-asks {b} h c g l =
        let rows = insert_at n (row_of x h (length xs)) (closed_rows 0 (rows_of t)) in
        asks rows (omega (arith, closed-new b t x xs c q h)) (closed-more b t x xs c q h g) l

module _ (b t : List ℕ) (size law x : ℕ) (xs : List ℕ) (f : get_or t 0 0 ≤ 31) where
  pub fit-gap : {i at : ℕ} {b' t₁ t' : List ℕ} → Some (i, at) ≡ lowest_gap (length xs) size (rows_of t) → i ≤ get_or t 0 0 → b' ≡ written b at xs
      → t₁ ≡ laid (insert_at i (row_of x at (length xs)) (rows_of t)) t → t' ≡ notes_laid (insert_note i (note_of law xs) (notes_of t₁)) t₁
      → Says (leaves (fitted b (rows_of t) (notes_of t) size law x xs)) b t b' t' (Ok (at, 0))
  fit-gap {i} {at} e h p q g =
      let r = row_of x at (length xs) in
      let rows = insert_at i r (rows_of t) in
      let s = stored_more rows t (rows_more t i r f h) q i (note_of law xs) g in
      rw (← e) (record { answer = refl; block = p; table = s })

  pub fit-behind : {b₁ t₁ b' t₂ t' : List ℕ} {n h m : ℕ} → None ≡ lowest_gap (length xs) size (rows_of t) → Closes b t (rows_of t) b₁ t₁ m
      → h ≡ held (rows_of t) → n ≡ get_or t 0 0 → b' ≡ written b₁ h xs → t₂ ≡ laid (insert_at n (row_of x h (length xs)) (rows_of t₁)) t₁
      → t' ≡ notes_laid (insert_note n (note_of law xs) (notes_of t₂)) t₂
      → Says (leaves (fitted b (rows_of t) (notes_of t) size law x xs)) b t b' t' (Ok (h, m))
  fit-behind {b₁} {t₁} {b'} {t₂} {t'} {n} {h} {m} e c p q k g v =
      let rows = rows_of t in
      let done = closed_rows 0 rows in
      let note-in = note_of law xs in
      let r = row_of x h (length xs) in
      let l : n ≡ length rows = q ∙ sym (length-rows t (get_or t 0 0) 1) in
      let new = insert_at n r done in
      let s : t' ≡ stored new (insert_note n note-in (notes_of t)) t =
      stored_more new t (omega (arith, closed-new b t x xs c q h, q)) (closed-more b t x xs c q h g) n note-in v
      in
      let place : ℕ → List ℕ = λ (y : ℕ). stored (insert_at y r done) (insert_note y note-in (notes_of t)) t in
      let notes = insert_note (length rows) note-in (notes_of t) in
      let start : ℕ → List ℕ = λ (y : ℕ). stored (insert_at (length rows) (row_of x y (length xs)) done) notes t in
      rw (← e) (record {
        answer = rw (← p, ← c.moved);
        block = k ∙ ap (λ (y : List ℕ). written y h xs) c.block ∙ ap (λ (y : ℕ). written (closed_block b rows) y xs) p;
        table = s ∙ ap place l ∙ ap start p;
      })
