-- The codes of S as numbers of so many bits, and the S that bits begin with.
use Rattle.std.specs.Prelude.{ℕ, suc, ◌*◌, ◌^◌, ◌/◌, ◌%◌, ◌≤◌, ◌<◌, ◌≡◌, List, [], ◌∷◌, Bool, true, false, cond, ◌&&◌, length, get_or, eqb}
use Rattle.rules.specs.Bits.{low_bits}
use Rattle.rules.specs.Zeros.{codes_of, code_of}
use Rattle.s_codes.specs.declared.Table.{Table}
use Rattle.s_codes.specs.declared.Code.{Code}
use Rattle.s_codes.specs.declared.Found.{Found}

-- the S, counted from the first of some codes, whose code begins bits; 0 where none does: 00 is no code of an S
abbrev begins : List ℕ → List ℕ → Bool
begins [] bits = true
begins (a ∷ code) [] = false
begins (a ∷ code) (b ∷ bits) = eqb a b && begins code bits

abbrev pub s_from : ℕ → List (List ℕ) → List ℕ → ℕ
s_from s [] bits = 0
s_from s (c ∷ cs) bits = cond (begins c bits) s (s_from (suc s) cs bits)

-- in the six bits of a number: no code has more
unfoldable pub s_in : ℕ → ℕ → ℕ
s_in n w = s_from 1 (codes_of n) (low_bits 6 w)

-- a table of them, from S = 1 on; and the S of each number of six bits, a hexadecimal digit each, the lowest first
pub record TableIs (n : ℕ) (r : Table) : Type 0 where
  pub says : (s : ℕ) → 1 ≤ s → low_bits (get_or r.bits s 0) (get_or r.values s 0) ≡ code_of n s
  pub first : get_or r.bits 0 0 ≡ get_or r.bits 1 0
  pub few : (s : ℕ) → get_or r.bits s 0 ≤ 8
  pub fits : (s : ℕ) → get_or r.values s 0 < 2 ^ get_or r.bits s 0
  pub size : length r.bits ≡ 10
  pub sized : length r.values ≡ 10
  pub finds : (w : ℕ) → w < 64 → get_or r.found (w / 16) 0 / 2 ^ (4 * (w % 16)) % 16 ≡ s_in n w
  pub wide : length r.found ≡ 4

-- the bits of the codes of S
pub record CodesAre (n : ℕ) (r : List ℕ) : Type 0 where
  pub says : (s : ℕ) → get_or r s 0 ≡ length (code_of n s)

-- the code of S as a number of so many bits
pub record CodeIs (n s : ℕ) (r : Code) : Type 0 where
  pub says : low_bits r.bits r.value ≡ code_of n s
  pub few : r.bits ≤ 8
  pub fits : r.value < 2 ^ r.bits

-- what is found at the start of 32 bits: the S, and the bits of its code, which 00 has as many of
pub record FoundIs (n window : ℕ) (r : Found) : Type 0 where
  pub says : r.s ≡ s_in n (window / 2 ^ 26)
  pub size : r.bits ≡ length (code_of n r.s)
  pub some : 0 < r.bits
  pub few : r.bits ≤ 6
  pub most : r.s ≤ 9
