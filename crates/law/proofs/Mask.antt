-- A law's mask has 7 bits.
use Prim.Native.Nat.{ℕ, ◌%◌, ◌<◌}
use mathlib.Core.Path.{◌≡◌, refl}
use mathlib.Core.Bool.{Bool, true, false, cond}
use native.Mathlib.Omega.{arith}
use lib.Dec.{eqb}
use Rattle.rules.specs.Samples.{mask_of}

pub mask-small : (law : ℕ) → mask_of law < 128
mask-small law = go (eqb law 0)
  where
    go : (b : Bool) → cond b 0x55 0x7F < 128
    go true = omega arith
    go false = omega arith

-- and is odd
pub mask-odd : (law : ℕ) → mask_of law % 2 ≡ 1
mask-odd law = go (eqb law 0)
  where
    go : (b : Bool) → cond b 0x55 0x7F % 2 ≡ 1
    go true = refl
    go false = refl
