-- What a store holds can be said in lines (`listing-sayable`), and what is written of it is read as it (`listing-lists`, `load-of`).
use Prim.Native.Nat.{ℕ, ◌+◌, ◌*◌, ◌^◌, ◌≤◌, ◌<◌}
use mathlib.Core.Path.{◌≡◌, refl, sym, subst, ◌∙◌}
use mathlib.Core.List.{List, [], ◌∷◌, ◌++◌}
use mathlib.Core.Bool.{Bool, true, false, cond}
use native.Mathlib.Omega.{arith}
use lib.ListN.{length}
use lib.Dec.{ltb}
use borrow.Author.Tests.{ltb-false}
use Rattle.store_rows.specs.declared.rows.Row.{Row}
use Rattle.store_rows.specs.Limits.{largest_block, size_of}
use Rattle.store_rows.specs.Rows.{greeting, contents}
use Rattle.store_rows.specs.Sane.{rising}
use Rattle.store_rows.proofs.Rising.{rising-head}
use Rattle.store_greeting.specs.Marks.{Mark, Note}
use Rattle.store_greeting.proofs.Bounds.{Small, note-small}
use Rattle.store_notes.specs.Notes.{True}
use Rattle.store_notes.specs.Sane.{store_cells}
use Rattle.store_text.specs.Table.{most_place, table_text}
use Rattle.store_text.specs.Noted.{Listed, rows_listed, listing, listed_text}
use Rattle.store_text.specs.Form.{form_line, any_far, needs_form, saved_text}
use Rattle.store_text.proofs.Exact.{Sayable, Each, table-back}
use Rattle.store_text.proofs.Noted.{SayableMark, SayableAll, early-refuses}
use Rattle.store_text.proofs.Noting.{rows-listing}
use Rattle.store_text.proofs.Formed.{formed-back, unformed-back, old-rows}
use Rattle.store_save.proofs.Compared.{bad-split}
use Rattle.store.specs.Store.{leaves}
use Rattle.store_save.specs.Saved.{any_bad, early, load_of}
use Rattle.store_save.proofs.Bad.{rows-early, true-early}
use Rattle.store_promises.specs.Kept.{Along, Good}
use Rattle.store_promises.specs.Loading.{Lists, in-early, in-noted, loaded}
use Rattle.store_promises.proofs.Rising.{rising-any, rising-in}
use Rattle.store_promises.proofs.Numbers.{Distinct, numbered_of}
use Rattle.store_promises.proofs.Contents.{length-greeting}
use Rattle.store_promises.proofs.Listed.{good-listing, true-listing, notes-listing, length-listing}
use Rattle.store_promises.proofs.Loaded.{lawful, load-taken-when}

-- the numbers of greetings that rise, where no start and no count of octets exceeds 65,535
each-sayable : (lo size : ℕ) (rows : List Row) → any_far rows ≡ false → rising 1 lo size rows ≡ true → Distinct rows
    → Each (Sayable most_place) rows
unfolding Distinct any_far
each-sayable lo size [] s h d = tt
each-sayable lo size (r ∷ rows) s h d =
    let n = rising-head 1 lo size r rows h in
    let p = bad-split (ltb most_place r.start) _ s in
    let q = bad-split (ltb most_place r.octets) _ p.1 in
    let one : Sayable most_place r = record {
      least = d.0;
      most = d.1;
      start = ltb-false most_place r.start p.0;
      octets = ltb-false most_place r.octets q.0;
    } in
    (one, each-sayable (r.start + r.octets) size rows q.1 n.1 d.3)

-- and of their marks
pub marks-sayable : (o s : ℕ) (ms : List Mark) → o < 10 ^ 20 → s < 10 ^ 20 → Small o s ms → Each SayableMark ms
unfolding Small
marks-sayable o s [] a b h = tt
marks-sayable o s (m ∷ ms) a b h = (record { octets = omega (arith, h.0); samples = omega (arith, h.1) }, marks-sayable o s ms a b h.2)

listing-sayable : (far : ℕ) → far ≤ largest_block → (b : List ℕ) (lo size : ℕ) (rows : List Row) (notes : List Note)
    → size ≤ far → size ≤ length b
    → rising 1 lo size rows ≡ true → Distinct rows → Good (contents b rows) notes → True (contents b rows) notes
    → Each (SayableAll far) (listing rows notes)
unfolding Distinct contents Along True listing
listing-sayable far z b lo size [] notes s f h d g w = tt
listing-sayable far z b lo size (r ∷ rows) [] s f h d g w = tt
listing-sayable far z b lo size (r ∷ rows) (n ∷ notes) s f h d g w =
    let k = rising-head 1 lo size r rows h in
    let i = k.0.inside in
    let xs = greeting b r in
    let l = length-greeting b r (omega arith) in
    let q = subst (λ (o : Note). (o.samples ≤ 320 * length xs) × Small (length xs) (320 * length xs) o.marks) (sym w.0)
    (note-small n.law xs) in
    let one : SayableAll far (record { row = r; note = n }) = record {
      row = record { least = d.0; most = d.1; start = omega arith; octets = omega arith };
      law = lawful n.law xs g.0;
      samples = omega (arith, q.0);
      marks = marks-sayable (length xs) (320 * length xs) n.marks (omega arith) (omega arith) q.1;
    } in
    (one, listing-sayable far z b (r.start + r.octets) size rows notes s f k.1 d.3 g.1 w.1)

-- without R-11's first line, and with it
pub said-lists : (b : List ℕ) (xs : List Listed) → Each (SayableAll most_place) xs → length xs ≤ 32 → Lists (listed_text xs) b xs
unfolding early listed_text table_text
said-lists b [] h l = in-early {rows = []} (table-back [] tt (omega arith))
said-lists b (x ∷ xs) h l = in-noted (early-refuses x xs h.0.row) (unformed-back (x ∷ xs) h l)

pub formed-lists : (b : List ℕ) (xs : List Listed) → Each (SayableAll largest_block) xs → length xs ≤ 32
    → Lists (form_line ++ listed_text xs) b xs
formed-lists b xs h l = in-noted (old-rows (listed_text xs)) (formed-back xs h l)

-- as it is saved
saved-lists : (b : List ℕ) (size : ℕ) (rows : List Row) (notes : List Note) → size ≤ largest_block → size ≤ length b → length rows ≤ 32
    → length notes ≡ length rows → rising 1 0 size rows ≡ true → Distinct rows → Good (contents b rows) notes → True (contents b rows) notes
    → Lists (saved_text size (listing rows notes)) b (listing rows notes)
saved-lists b size rows notes z i f l h d g w = go (needs_form size (rows_listed (listing rows notes))) refl
  where
    few : length (listing rows notes) ≤ 32
    few = omega (arith, length-listing rows notes l)

    go : (t : Bool) → needs_form size (rows_listed (listing rows notes)) ≡ t
        → Lists (cond t form_line [] ++ listed_text (listing rows notes)) b (listing rows notes)
    go true e = formed-lists b (listing rows notes) (listing-sayable largest_block (omega arith) b 0 size rows notes z i h d g w) few
    go false e =
        let small = ltb-false most_place size (bad-split (any_far (rows_listed (listing rows notes))) _ e).1 in
        said-lists b (listing rows notes) (listing-sayable most_place (omega arith) b 0 size rows notes small i h d g w) few

-- what save writes of a block, load takes into any table that is long enough, with that block or any other of which it is a part: it is the
-- same
pub load_from : (size : ℕ) (b t : List ℕ) (rows : List Row) (notes : List Note) → size ≤ size_of b → store_cells (size_of b) ≤ length t
    → length rows ≤ 32 → rising 1 0 size rows ≡ true → Distinct rows → length notes ≡ length rows → Good (contents b rows) notes
    → True (contents b rows) notes → load_of (saved_text size (listing rows notes)) b t ≡ leaves
    (record { block = b; rows = rows; notes = notes; first = 0; second = 0 })
load_from size b t rows notes u c f h d l g w =
    let e = rows-listing rows notes l in
    let k = notes-listing rows notes l in
    let m = saved-lists b size rows notes (omega arith) (omega arith) f l h d g w in
    let a = rising-any 0 (size_of b) rows (rising-in 0 size (size_of b) rows u h) in
    load-taken-when {t = t} (record { cells = c; lists = m; apart = rw e a; once = rw e (numbered_of rows d) })
    (good-listing b rows notes g) (true-listing b rows notes w) ∙ rw (e, k)

pub load-of : (b t : List ℕ) (rows : List Row) (notes : List Note) → store_cells (size_of b) ≤ length t → length rows ≤ 32
    → rising 1 0 (size_of b) rows ≡ true → Distinct rows → length notes ≡ length rows → Good (contents b rows) notes
    → True (contents b rows) notes → load_of (saved_text (size_of b) (listing rows notes)) b t ≡ leaves
    (record { block = b; rows = rows; notes = notes; first = 0; second = 0 })
load-of b t rows notes c f h d l g w = load_from (size_of b) b t rows notes (omega arith) c f h d l g w

-- R-6's text of greetings that the walk by law 1 accepts, in lines that can say them: taken, with what that walk gives
pub early-of : (b t : List ℕ) (rows : List Row) → store_cells (size_of b) ≤ length t → length rows ≤ 32 → rising 1 0 (size_of b) rows ≡ true
    → Distinct rows → any_far rows ≡ false → any_bad b (early b rows) ≡ false → load_of (table_text rows) b t ≡ leaves (loaded b (early b rows))
early-of b t rows c f h d z g =
    let e = rows-early b rows in
    let s = each-sayable 0 (size_of b) rows z h d in
    load-taken-when {t = t} (record {
      cells = c;
      lists = in-early (table-back rows s f);
      apart = rw e (rising-any 0 (size_of b) rows h);
      once = rw e (numbered_of rows d);
    }) g (true-early b rows)
