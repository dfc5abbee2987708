-- The values of a row are read one by one, each by its flags.
use Prim.Native.Nat.{ℕ}
use mathlib.Core.Path.{◌≡◌, refl}
use mathlib.Core.List.{List, ◌∷◌}
use Rattle.rules.specs.Bits.{bits_of}
use Rattle.rules.specs.Reading.{Read, whole, refuse, and_then, number_from}
use Rattle.rules.specs.Located.{by_method, empty_in, lay, values_into}
use Rattle.read_located.specs.Valued.{flags_of}

pub values-step : (s : List ℕ) (n z x : ℕ) (xs cells : List ℕ) (at : ℕ) → values_into n z (x ∷ xs) cells (bits_of s) at
    ≡ and_then (flags_of n (empty_in z cells) (bits_of s) at) (λ flags j. values_into n z xs (lay z x flags 0 cells) (bits_of s) j)
unfolding values_into flags_of
values-step s n z x xs cells at = go (number_from 0 3 (bits_of s) at)
  where
    go : (r : Read ℕ) → and_then r
        (λ m i. and_then (by_method n (empty_in z cells) at m (bits_of s) i)
        (λ flags j. values_into n z xs (lay z x flags 0 cells) (bits_of s) j))
        ≡ and_then (and_then r (λ m i. by_method n (empty_in z cells) at m (bits_of s) i))
        (λ flags j. values_into n z xs (lay z x flags 0 cells) (bits_of s) j)
    go (whole m i) = refl
    go (refuse w b) = refl
