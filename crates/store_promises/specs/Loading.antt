-- Document 02, R-6 and R-8, reading a table: TABLE "for lines not of this form or order, a number out of range or used twice, more than 32
-- greetings, or greetings that overlap or pass the block's end, then .. BAD"; "after BAD samples or marks that the walk doesn't give, is
-- TABLE".
use Rattle.std.specs.Prelude.{ℕ, ◌≤◌, ◌≡◌, List, true, false, length}
use Rattle.store_rows.specs.declared.rows.Row.{Row}
use Rattle.store_rows.specs.Limits.{size_of}
use Rattle.store_rows.specs.Sane.{rising, numbered}
use Rattle.store_notes.specs.Sane.{store_cells}
use Rattle.text_keyvalue.specs.Reading.{whole, none}
use Rattle.store_text.specs.Table.{table_in}
use Rattle.store_text.specs.Noted.{Listed, rows_listed, notes_listed}
use Rattle.store_text.specs.Form.{formed_in}
use Rattle.store.specs.declared.Refusal.TheVariants.{Bad, Table}
use Rattle.store.specs.Store.{Outcome, leaves, refused, After}
use Rattle.store_save.specs.Saved.{any_bad, all_true, early}

-- the greetings that a text lists: all in R-6's lines, with what the walk by law 1 gives; or all in R-8's, with R-11's first line or
-- without it
pub data Lists (text b : List ℕ) : List Listed → Type 0 where
  in-early : {rows : List Row} {i : ℕ} → table_in text ≡ whole rows i → Lists text b (early b rows)
  in-noted : {xs : List Listed} {i : ℕ} → table_in text ≡ none → formed_in text ≡ whole xs i → Lists text b xs

-- nothing is TABLE before BAD: the lent cells are enough, the lines are of their form, the greetings are apart and inside, the numbers used
-- once
pub record Formed (text b t : List ℕ) (xs : List Listed) : Type 0 where
  pub cells : store_cells (size_of b) ≤ length t
  pub lists : Lists text b xs
  pub apart : rising 0 0 (size_of b) (rows_listed xs) ≡ true
  pub once : numbered (rows_listed xs) ≡ true

-- the table that holds these greetings with these notes
abbrev pub loaded : List ℕ → List Listed → After
loaded b xs = record { block = b; rows = rows_listed xs; notes = notes_listed xs; first = 0; second = 0 }

-- the order: TABLE, BAD, TABLE; else it is taken
pub data Judged (text b t : List ℕ) : Outcome → Type 0 where
  unformed : ((xs : List Listed) → Formed text b t xs → ⊥) → Judged text b t (refused Table)
  bad : {xs : List Listed} → Formed text b t xs → any_bad b xs ≡ true → Judged text b t (refused Bad)
  untrue : {xs : List Listed} → Formed text b t xs → any_bad b xs ≡ false → all_true b xs ≡ false → Judged text b t (refused Table)
  taken : {xs : List Listed} → Formed text b t xs → any_bad b xs ≡ false → all_true b xs ≡ true → Judged text b t (leaves (loaded b xs))
