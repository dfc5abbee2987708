-- A row of table 7-28 by three numbers: R', how far its least is below 0, and how many of its values are below 0.
use Rattle.std.specs.Prelude.{ℕ, ◌+◌, ◌*◌, ◌≡◌}
use Rattle.rules.specs.Fractional.{radix as radix_at, low_at, below_at}
use Rattle.value_rows.specs.declared.Row.{Row}

pub record RowIs (k : ℕ) (r : Row) : Type 0 where
  pub radix : r.radix ≡ radix_at k
  pub low : r.low ≡ low_at k
  pub below : r.below ≡ below_at k

-- the three in one number
abbrev pub packed : ℕ → ℕ
packed k = 32 * low_at k + 8 * below_at k + radix_at k
