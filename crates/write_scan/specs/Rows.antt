-- Flags as a row of words, 40 to a word and the first highest. Every frame's length is a multiple of 40, so no word is part empty.
use Rattle.std.specs.Prelude.{ℕ, ◌^◌, ◌<◌, ◌≡◌, List, [], ◌∷◌, ◌++◌, take}
use Rattle.rules.specs.Bits.{low_bits}
use Rattle.write_scan.specs.declared.row.Row.{Row}

-- the flags of words
unfoldable pub row_bits : List ℕ → List ℕ
row_bits [] = []
row_bits (w ∷ ws) = low_bits 40 w ++ row_bits ws

-- the flags of a row
abbrev pub flags_in : Row → List ℕ
flags_in row = row_bits (take row.count row.words)

-- a row of k words that says these flags
pub record RowIs (flags : List ℕ) (k : ℕ) (row : Row) : Type 0 where
  pub says : flags_in row ≡ flags
  pub size : row.count ≡ k

-- n flags as the bits of a number
pub record Gathers (flags : List ℕ) (n v : ℕ) : Type 0 where
  pub says : low_bits n v ≡ flags
  pub fits : v < 2 ^ n
