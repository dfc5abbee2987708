-- Document 02, R-11, the promises of its tables.
--   `form-exactly`, `form-by-block`: a saved table begins with `form=2` exactly when a start, a count of octets or the block exceeds
--   65,535.
--   `same_store`: with the line and without it a table gives the same store, where both are allowed.
use Prim.Native.Nat.{ℕ, ◌≤◌}
use mathlib.Core.Path.{◌≡◌, refl, sym, ap, ◌∙◌}
use mathlib.Core.List.{List, [], ◌∷◌, ◌++◌}
use mathlib.Core.Bool.{Bool, true, false, cond}
use native.Mathlib.Omega.{arith}
use lib.ListN.{length}
use lib.Dec.{ltb}
use Rattle.store_rows.specs.Limits.{largest_block, size_of}
use Rattle.store_rows.specs.Cells.{rows_of}
use Rattle.store_notes.specs.Cells.{notes_of}
use Rattle.store_notes.specs.Sane.{store_cells, sane_store}
use Rattle.store.specs.declared.Refusal.TheVariants.{Table}
use Rattle.store.specs.Store.{Outcome, refused}
use Rattle.text_keyvalue.specs.Reading.{begins}
use Rattle.store_text.specs.Table.{most_place}
use Rattle.store_text.specs.Noted.{Listed, rows_listed, listing, listed_text}
use Rattle.store_text.specs.Form.{form_line, needs_form, saved_text}
use Rattle.store_text.proofs.Exact.{Sayable, Each}
use Rattle.store_text.proofs.Noted.{SayableAll}
use Rattle.store_text.proofs.Noting.{rows-listing}
use Rattle.store_text.proofs.Formed.{listed-begins, form-by-size}
use Rattle.store_save.specs.Saved.{saved, save_order, save_of, load_of}
use Rattle.store_save.proofs.Fits.{text-saved}
use Rattle.store_promises.proofs.Granted.{sane-rows, sane-count}
use Rattle.store_promises.proofs.Loaded.{read_as}
use Rattle.store_promises.proofs.Sayable.{said-lists, formed-lists}

-- "SAVED TABLES GAIN A FIRST LINE `form=2` WHEN .., AND ONLY THEN"
form-begins : (t : Bool) (xs : List Listed) → begins form_line (cond t form_line [] ++ listed_text xs) ≡ t
unfolding begins
form-begins true xs = refl
form-begins false xs = listed-begins xs

module _ (b t : List ℕ) (room : ℕ) (text : List ℕ) (e : save_of b t room ≡ saved text) where
  save-sane : sane_store (size_of b) t ≡ true
  save-sane = (text-saved (save_order b t room) (saved_text (size_of b) (listing (rows_of t) (notes_of t))) e).0.0

  written : text ≡ saved_text (size_of b) (listing (rows_of t) (notes_of t))
  written = (text-saved (save_order b t room) (saved_text (size_of b) (listing (rows_of t) (notes_of t))) e).1

  pub form-exactly : begins form_line text ≡ needs_form (size_of b) (rows_of t)
  form-exactly =
      let xs = listing (rows_of t) (notes_of t) in
      ap (begins form_line) written ∙ form-begins (needs_form (size_of b) (rows_listed xs)) xs
      ∙ ap (needs_form (size_of b)) (rows-listing (rows_of t) (notes_of t) (sane-count b t save-sane))

  -- all greetings lie inside the block, so that is exactly where the block exceeds 65,535
  pub form-by-block : begins form_line text ≡ ltb most_place (size_of b)
  form-by-block = form-exactly ∙ form-by-size 1 0 (size_of b) (rows_of t) (sane-rows (size_of b) t save-sane).rises

-- "THE NEW READER TAKES TABLES WITH AND WITHOUT IT"
pub same_store : (b t : List ℕ) (xs : List Listed) → Each (SayableAll most_place) xs → length xs ≤ 32
    → load_of (form_line ++ listed_text xs) b t ≡ load_of (listed_text xs) b t
same_store b t xs h l =
    ap (λ (o : Outcome). cond (ltb (length t) (store_cells (size_of b))) (refused Table) o)
    (read_as (size_of b) (formed-lists b xs (each-wider xs h) l) ∙ sym (read_as (size_of b) (said-lists b xs h l)))
  where
    each-wider : (ys : List Listed) → Each (SayableAll most_place) ys → Each (SayableAll largest_block) ys
    each-wider [] g = tt
    each-wider (y ∷ ys) g =
        let r = g.0.row in
        let row : Sayable largest_block y.row =
        record { least = r.least; most = r.most; start = omega (arith, r.start); octets = omega (arith, r.octets) } in
        (record { row = row; law = g.0.law; samples = g.0.samples; marks = g.0.marks }, each-wider ys g.1)
