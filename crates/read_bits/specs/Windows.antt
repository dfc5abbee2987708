-- Windows over the bits of octets: a number whose bits, highest first, are those from a place on.
use Rattle.std.specs.Prelude.{ℕ, suc, ◌+◌, ◌*◌, ◌-◌, ◌^◌, ◌/◌, ◌%◌, ◌≤◌, ◌<◌, ◌≡◌, List, length, get_or}
use Rattle.rules.specs.Bits.{bits_of}

-- m bits from a place on; a bit that is missing counts 0
pub record Ahead (m : ℕ) (bits : List ℕ) (at w : ℕ) : Type 0 where
  pub same : (j : ℕ) → j < m → w / 2 ^ (m - suc j) % 2 ≡ get_or bits (at + j) 0
  pub small : w < 2 ^ m

-- a word of 64 bits whose first `good` are those of octets from a place on, and there; some only where N is 32 or more
pub record Holds (octets : List ℕ) (at n word good : ℕ) : Type 0 where
  pub same : (j : ℕ) → j < good → word / 2 ^ (64 - suc j) % 2 ≡ get_or (bits_of octets) (at + j) 0
  pub there : good ≤ 8 * length octets - at
  pub small : word < 2 ^ 64
  pub few : good ≤ 64
  pub long : 0 < good → 32 ≤ n

-- the run of a Rice code at a word's start, whose zeros are counted: the bits from its one on are 2 ^ S and the low bits
abbrev pub run_in : ℕ → ℕ → ℕ → ℕ
run_in word zeros s = zeros * 2 ^ s + (word / 2 ^ (64 - (zeros + (s + 1))) - 2 ^ s)
