-- What a load takes is the text of the table that it then holds, and no other: `load-only`. R-11: "without it, a start or octet count above
-- 65,535 is TABLE", for all lines: a text without `form=2` that lists greetings lists none with such a number (`without-form`); lines that
-- have one are TABLE (`far-is-table`, `far-rows-table`).
use Prim.Native.Nat.{ℕ, ◌*◌, ◌≤◌}
use mathlib.Core.Path.{◌≡◌, refl, sym, ap, subst, ◌∙◌}
use mathlib.Core.List.{List, [], ◌∷◌, ◌++◌}
use mathlib.Core.Bool.{Bool, true, false}
use native.Mathlib.Omega.{arith}
use lib.ListN.{length, drop, length-take}
use Rattle.store_rows.specs.declared.rows.Row.{Row}
use Rattle.store_rows.specs.Limits.{largest_block}
use Rattle.store_rows.specs.Rows.{greeting, contents}
use Rattle.store_greeting.specs.Marks.{Note}
use Rattle.store_greeting.proofs.Bounds.{Small, note-small}
use Rattle.store_notes.specs.Notes.{True}
use Rattle.store.specs.declared.Refusal.TheVariants.{Table}
use Rattle.store.specs.Store.{leaves, refused, After}
use Rattle.text_keyvalue.specs.Reading.{whole, none, begins}
use Rattle.text_keyvalue.specs.Lines.{line_of}
use Rattle.text_keyvalue.proofs.Exact.{got-value}
use Rattle.store_text.specs.Table.{most_place, row_text, table_text}
use Rattle.store_text.specs.Noted.{Listed, listed_from, listed_at, rows_listed, notes_listed, listing, listed_text}
use Rattle.store_text.specs.Form.{form_line, any_far, formed_in}
use Rattle.store_text.proofs.Exact.{Sayable, Each, table-only}
use Rattle.store_text.proofs.Noted.{rows-refused}
use Rattle.store_text.proofs.Formed.{unformed}
use Rattle.store_text.proofs.Only.{Short, SayableHead, formed-only, unformed-only}
use Rattle.store_text.proofs.Wider.{heads-rows, noted-near, table-near, wider, far-unread, far-rows-unread}
use Rattle.store_save.specs.Saved.{load_of}
use Rattle.store_save.proofs.Bad.{rows-early}
use Rattle.store_promises.specs.Loading.{Lists, in-early, in-noted, loaded}
use Rattle.store_promises.proofs.Listed.{listed-true, listing-listed}
use Rattle.store_promises.proofs.Loaded.{load-took, load-table-when}
use Rattle.store_promises.proofs.Sayable.{marks-sayable}

-- samples and marks that the walk gives have at most 20 digits
shorts : (far : ℕ) → far ≤ largest_block → (b : List ℕ) (xs : List Listed) → Each (SayableHead far) xs
    → True (contents b (rows_listed xs)) (notes_listed xs) → Each Short xs
unfolding rows_listed notes_listed contents True
shorts far l b [] h w = tt
shorts far l b (x ∷ xs) h w =
    let g = greeting b x.row in
    let n = length-take x.row.octets (drop x.row.start b) in
    let m = h.0.row.octets in
    let q = subst (λ (o : Note). (o.samples ≤ 320 * length g) × Small (length g) (320 * length g) o.marks) (sym w.0)
    (note-small x.note.law g) in
    let one : Short x = record {
      samples = omega (arith, q.0);
      marks = marks-sayable (length g) (320 * length g) x.note.marks (omega arith) (omega arith) q.1;
    } in
    (one, shorts far l b xs h.1 w.1)

-- the three texts that there are of a table
pub data TextOf (text : List ℕ) (a : After) : Type 0 where
  in_rows : text ≡ table_text a.rows → Each (Sayable most_place) a.rows → TextOf text a
  in-notes : text ≡ listed_text (listing a.rows a.notes) → Each (Sayable most_place) a.rows → TextOf text a
  behind-form : text ≡ form_line ++ listed_text (listing a.rows a.notes) → Each (Sayable largest_block) a.rows → TextOf text a

pub load-only : (text b t : List ℕ) (a : After) → load_of text b t ≡ leaves a → TextOf text a
load-only text b t a e =
    let k = load-took text b t a e in
    rw k.is (go k.formed.lists (listed-true b k.xs k.true-marks))
  where
    noted : (xs : List Listed) (i : ℕ) → formed_in text ≡ whole xs i → True (contents b (rows_listed xs)) (notes_listed xs)
        → (l : Bool) → begins form_line text ≡ l → TextOf text (loaded b xs)
    noted xs i g w true f =
        let o = formed-only text xs i g f in
        behind-form (rw (listing-listed xs) (o.says (shorts largest_block (omega arith) b xs o.each w)))
        (heads-rows largest_block xs o.each)
    noted xs i g w false f =
        let o = unformed-only text xs i g f in
        in-notes (rw (listing-listed xs) (o.says (shorts most_place (omega arith) b xs o.each w))) (heads-rows most_place xs o.each)

    go : {xs : List Listed} → Lists text b xs → True (contents b (rows_listed xs)) (notes_listed xs) → TextOf text (loaded b xs)
    go (in-early {rows = rows} {i = i} q) w =
        let o = table-only text rows i q in
        in_rows (rw (rows-early b rows) o.says) (rw (rows-early b rows) o.each)
    go (in-noted {xs = xs} {i = i} q g) w = noted xs i g w (begins form_line text) refl

-- without the line
pub without-form : (text b : List ℕ) → begins form_line text ≡ false → {xs : List Listed} → Lists text b xs → any_far (rows_listed xs) ≡ false
without-form text b f (in-early {rows = rows} {i = i} e) = rw (rows-early b rows) (table-near text rows i e)
without-form text b f (in-noted {xs = xs} {i = i} e g) = noted-near text xs i (sym (unformed text f) ∙ g)

clash : {b : Bool} → b ≡ true → b ≡ false → ⊥
clash e f = let z : ◌≡◌ {A = ℕ} 0 1 = cc in absurd (omega arith)

no_whole : {A : Type 0} {x : A} {j : ℕ} → none ≡ whole x j → ⊥
no_whole e = let z : ◌≡◌ {A = ℕ} 0 1 = cc in absurd (omega arith)

-- a text whose lines would be read behind the line, and have such a number: it is none of R-6's lines
rows-not : (text : List ℕ) (xs : List Listed) (j : ℕ) → listed_at largest_block 0 text ≡ whole xs j → any_far (rows_listed xs) ≡ true
    → (rows : List Row) → Each (Sayable most_place) rows → text ≡ table_text rows → ⊥
unfolding table_text listed_from any_far rows_listed
rows-not text xs j e h [] s d =
    let n : xs ≡ [] = got-value (sym e ∙ ap (listed_at largest_block 0) d) in
    clash h (ap (λ (l : List Listed). any_far (rows_listed l)) n)
rows-not text xs j e h (r ∷ rest) s d =
    no_whole (sym (rows-refused largest_block (omega arith) r rest (wider (r ∷ rest) s).0 text 0 d) ∙ e)

pub far-is-table : (text b t : List ℕ) → begins form_line text ≡ false → (xs : List Listed) (j : ℕ)
    → listed_at largest_block 0 text ≡ whole xs j → any_far (rows_listed xs) ≡ true → load_of text b t ≡ refused Table
far-is-table text b t f xs j e h = load-table-when text b t (λ ys k. go k.lists)
  where
    go : {ys : List Listed} → Lists text b ys → ⊥
    go (in-early {rows = rows} {i = i} q) = let o = table-only text rows i q in rows-not text xs j e h rows o.each o.says
    go (in-noted q g) = no_whole (sym (far-unread text xs j e h) ∙ sym (unformed text f) ∙ g)

-- R-6's lines
rows-begin : (rows : List Row) → begins form_line (table_text rows) ≡ false
unfolding begins table_text row_text line_of
rows-begin [] = refl
rows-begin (r ∷ rows) = refl

pub far-rows-table : (b t : List ℕ) (rows : List Row) → Each (Sayable largest_block) rows → any_far rows ≡ true
    → load_of (table_text rows) b t ≡ refused Table
far-rows-table b t rows s h = load-table-when (table_text rows) b t (λ ys k. go k.lists)
  where
    go : {ys : List Listed} → Lists (table_text rows) b ys → ⊥
    go (in-early q) = no_whole (sym (far-rows-unread rows s h).0 ∙ q)
    go (in-noted q g) = no_whole (sym (far-rows-unread rows s h).1 ∙ sym (unformed (table_text rows) (rows-begin rows)) ∙ g)
