-- What calls leave: at most 32 greetings, in order of start, apart and inside the block, "each with a number from 1 to 65,535" used once
-- "and 1 or more octets". Any other lent table is TABLE.
use Rattle.std.specs.Prelude.{ℕ, ◌+◌, ◌≤◌, ◌≡◌, List, [], ◌∷◌, Bool, true, false, cond, length, get_or, ltb}
use Rattle.store_rows.specs.declared.rows.Row.{Row}
use Rattle.store_rows.specs.Limits.{most_greetings, most_number, cells_for}
use Rattle.store_rows.specs.Finding.{absent}
use Rattle.store_rows.specs.Cells.{rows_of}

-- greetings of `least` octets or more, in order of start and apart, from `at` on and inside the size
unfoldable pub rising : ℕ → ℕ → ℕ → List Row → Bool
rising least at size [] = true
rising least at size (r ∷ rs) =
    cond (ltb r.start at) false
    (cond (ltb r.octets least) false
    (cond (ltb size (r.start + r.octets)) false
    (rising least (r.start + r.octets) size rs)))

-- numbers from 1 to 65,535, each used once
unfoldable pub numbered : List Row → Bool
numbered [] = true
numbered (r ∷ rs) =
    cond (ltb r.number 1) false
    (cond (ltb most_number r.number) false
    (cond (absent r.number rs) (numbered rs) false))

-- a table that calls leave, for a block of a size
unfoldable pub sane_of : ℕ → List ℕ → Bool
sane_of size t =
    cond (ltb (length t) (cells_for size)) false
    (cond (ltb most_greetings (get_or t 0 0)) false
    (cond (rising 1 0 size (rows_of t)) (numbered (rows_of t)) false))

-- what of it the calls' steps rest on
pub record Ordered (size : ℕ) (t : List ℕ) : Type 0 where
  pub cells : 97 ≤ length t
  pub few : get_or t 0 0 ≤ 32
  pub rises : rising 1 0 size (rows_of t) ≡ true
