-- The calls in the code's steps: where the next move lies among the greetings, and where it goes; what a put would tell.
use Rattle.std.specs.Prelude.{ℕ, ◌+◌, ◌<◌, ◌≡◌, List, cond, not, length, leb, ltb, Option, Some, None, Ok, Err}
use Rattle.rules.specs.Tools.{is_law}
use Rattle.store_rows.specs.declared.rows.Row.{Row}
use Rattle.store_rows.specs.Limits.{most_greetings, is_number}
use Rattle.store_rows.specs.Rows.{held}
use Rattle.store_rows.specs.Finding.{absent, lowest_gap}
use Rattle.store_rows.specs.Cells.{rows_at}
use Rattle.store_rows.specs.Closing.{moved_from}
use Rattle.store_greeting.specs.Bad.{is_bad}
use Rattle.store.specs.Calls.{Answer}
use Rattle.store_moves.specs.Next.{Due}
use Rattle.store.specs.declared.Refusal.TheVariants.{Law, Number, Taken, Bad, Full, NoRoom}

-- one of the first n, behind those before it
unfoldable pub Within : List ℕ → ℕ → Due → Type 0
Within t n (Some (i, at)) = (i < n) × (at ≡ held (rows_at t i 1))
Within t n None = Unit {0}

-- what a put tells where it fits: the lowest gap, or behind all, and the octets that closing up moves
abbrev pub gap_tells : List Row → Option (ℕ × ℕ) → Answer
gap_tells rows (Some (i, at)) = Ok (at, 0)
gap_tells rows None = Ok (held rows, moved_from 0 rows)

-- a put's refusals in their order (store, `put_in`), and what it tells
unfoldable pub tried_in : ℕ → List Row → ℕ → ℕ → List ℕ → Answer
tried_in size rows law number xs =
    cond (not (is_law law)) (Err Law)
    (cond (not (is_number number)) (Err Number)
    (cond (not (absent number rows)) (Err Taken)
    (cond (is_bad law xs) (Err Bad)
    (cond (leb most_greetings (length rows)) (Err Full)
    (cond (ltb size (held rows + length xs)) (Err NoRoom)
    (gap_tells rows (lowest_gap (length xs) size rows)))))))
