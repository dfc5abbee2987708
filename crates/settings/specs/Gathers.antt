-- What the steps of a save leave in 45 lent cells, room for nine rows: rows that are kept, one after another, and 0 after them.
use Rattle.std.specs.Prelude.{ℕ, ◌+◌, ◌*◌, ◌-◌, ◌≤◌, ◌≡◌, List, [], ◌∷◌, ◌++◌, length, take, drop, replicate}
use Rattle.settings.specs.declared.Revision.{Revision}
use Rattle.settings.specs.State.{kept_of, cells_of}

-- a row after k others, if it is kept
pub record KeepsRow (r : Revision) (k : ℕ) (rows rows' : List ℕ) (n : ℕ) : Type 0 where
  pub count : n ≡ k + length (kept_of (r ∷ []))
  pub says : rows' ≡ take (5 * k) rows ++ (cells_of (kept_of (r ∷ [])) ++ drop (5 * n) rows)

-- these rows, and 0 after them
pub record Gathers (revisions : List Revision) (rows : List ℕ) (n : ℕ) : Type 0 where
  pub count : n ≡ length revisions
  pub few : n ≤ 8
  pub says : rows ≡ cells_of revisions ++ replicate (45 - 5 * n) 0
