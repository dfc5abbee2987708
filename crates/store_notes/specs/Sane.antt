-- What calls leave (R-8), besides what R-6 says: as many notes as greetings, laws up to 1, and of each greeting no more marks than its
-- octets can have; so a put always has room for its marks. Any other lent table is TABLE. What the samples and the marks say is not judged.
use Rattle.std.specs.Prelude.{ℕ, ◌+◌, ◌*◌, ◌/◌, ◌≤◌, min, ◌≡◌, List, [], ◌∷◌, Bool, true, false, cond, length, get_or, eqb, ltb}
use Rattle.rules.specs.Tools.{most_law}
use Rattle.store_rows.specs.declared.rows.Row.{Row}
use Rattle.store_rows.specs.Limits.{largest_block, most_greetings}
use Rattle.store_rows.specs.Cells.{rows_of}
use Rattle.store_rows.specs.Sane.{sane_of, Ordered}
use Rattle.store_greeting.specs.Marks.{frames_apart, most_marks}
use Rattle.store_notes.specs.Cells.{second_list, first_mark, head_in, heads_of}

-- how many cells a table needs for a block of a size: both lists, and the marks of 32 greetings that fill it
abbrev pub store_cells : ℕ → ℕ
store_cells size = first_mark + 2 * (min size largest_block / frames_apart + most_greetings)

-- the greetings and their second list, one by one
unfoldable pub matched : List Row → List Row → Bool
matched [] hs = true
matched (r ∷ rows) [] = false
matched (r ∷ rows) (h ∷ hs) =
    cond (ltb most_law (head_in h).law) false
    (cond (ltb (most_marks r.octets) (head_in h).marks) false
    (matched rows hs))

-- a table that calls leave, for a block of a size
unfoldable pub sane_store : ℕ → List ℕ → Bool
sane_store size t =
    cond (ltb (length t) (store_cells size)) false
    (cond (sane_of size t)
    (cond (eqb (get_or t second_list 0) (get_or t 0 0)) (matched (rows_of t) (heads_of t)) false) false)

-- what of it the calls' steps rest on
pub record Noted (size : ℕ) (t : List ℕ) : Type 0 where
  pub order : Ordered size t
  pub cells : store_cells size ≤ length t
  pub count : get_or t second_list 0 ≡ get_or t 0 0
  pub fits : matched (rows_of t) (heads_of t) ≡ true
