-- The octet of a row tells its three numbers (`unpacked`).
use Prim.Native.Nat.{ℕ, ◌/◌, ◌%◌, ◌<◌}
use mathlib.Core.Path.{◌≡◌, refl}
use mathlib.Core.Bool.{Bool, true, ◌&&◌}
use borrow.Author.Tests.{eqb-true}
use lib.Dec.{eqb}
use Rattle.rules.specs.Fractional.{values_at, radix, low_at, below_at}
use Rattle.rules.proofs.Tests.{and_left, and_right, all_below-at}
use Rattle.value_rows.specs.Rows.{packed}

-- the three numbers
pub record Unpacked (k : ℕ) : Type 0 where
  pub radix : packed k % 8 ≡ radix k
  pub low : packed k / 32 ≡ low_at k
  pub below : packed k / 8 % 4 ≡ below_at k

abbrev tells : ℕ → Bool
tells k = eqb (packed k % 8) (radix k) && eqb (packed k / 32) (low_at k) && eqb (packed k / 8 % 4) (below_at k)

pub unpacked : (k : ℕ) → k < 12 → Unpacked k
unfolding values_at
unpacked k h =
    let a : Bool = eqb (packed k % 8) (radix k) in
    let b : Bool = eqb (packed k / 32) (low_at k) in
    let c : Bool = eqb (packed k / 8 % 4) (below_at k) in
    let t : a && b && c ≡ true = all_below-at tells 12 refl k h in
    record {
      radix = eqb-true _ _ (and_left a b (and_left (a && b) c t));
      low = eqb-true _ _ (and_right a b (and_left (a && b) c t));
      below = eqb-true _ _ (and_right (a && b) c t);
    }
