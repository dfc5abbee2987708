-- A master of signed 16-bit values, low octet first, as a sound of one law, and back. A value is brought to the law's scale by
-- an arithmetic shift, 3 for A and 2 for mu: 8 and 4 are what (6-2) and (6-4) of 001 divide by.
use Rattle.std.specs.Prelude.{ℕ, ◌+◌, ◌-◌, ◌*◌, ◌/◌, ◌%◌, min, ◌≡◌, cond, List, [], ◌∷◌, ◌++◌, map, eqb, ltb, ℤ, pos, negsuc, ◌*ℤ◌, length, take, drop}
use Rattle.std.specs.Int.Signed.{shr_z}
use Rattle.linear.specs.Equations.{to_pcm, from_pcm}

abbrev pub unit_of : ℕ → ℕ
unit_of law = cond (eqb law 0) 8 4

-- two octets as a signed value
unfoldable pub value_of : ℕ → ℕ → ℤ
value_of low high = cond (ltb high 128) (pos (low + 256 * high)) (negsuc (255 - low + 256 * (255 - high)))

-- a signed value's two octets
unfoldable pub low_of : ℤ → ℕ
low_of (pos n) = n % 256
low_of (negsuc n) = 255 - n % 256

unfoldable pub high_of : ℤ → ℕ
high_of (pos n) = n / 256
high_of (negsuc n) = 255 - n / 256

-- octets in pairs, as values; one left over is none
unfoldable pub values_of : List ℕ → List ℤ
values_of [] = []
values_of (low ∷ []) = []
values_of (low ∷ high ∷ rest) = value_of low high ∷ values_of rest

unfoldable pub pairs_of : List ℤ → List ℕ
pairs_of [] = []
pairs_of (v ∷ rest) = low_of v ∷ high_of v ∷ pairs_of rest

-- one value, and one sample
abbrev pub sample_for : ℕ → ℤ → ℕ
sample_for law v = from_pcm law (shr_z v (unit_of law))

abbrev pub value_for : ℕ → ℕ → ℤ
value_for law o = to_pcm law o *ℤ pos (unit_of law)

-- the sound of a master, and the master of a sound
abbrev pub sound_of : ℕ → List ℕ → List ℕ
sound_of law master = map (sample_for law) (values_of master)

abbrev pub master_of : ℕ → List ℕ → List ℕ
master_of law sound = pairs_of (map (value_for law) sound)

-- the two octets of a value
abbrev pub Splits : ℤ → List ℕ → Type 0
Splits v p = p ≡ low_of v ∷ high_of v ∷ []

-- as many samples as the master has and the output holds, at its start; the rest as lent
pub record Sounds (law : ℕ) (master out out' : List ℕ) (r : ℕ) : Type 0 where
  pub count : r ≡ min (length master / 2) (length out)
  pub lent : out' ≡ take r (sound_of law master) ++ drop r out

-- as many values as there are samples and the output holds
pub record Masters (law : ℕ) (sound out out' : List ℕ) (r : ℕ) : Type 0 where
  pub count : r ≡ 2 * min (length sound) (length out / 2)
  pub lent : out' ≡ take r (master_of law sound) ++ drop r out
