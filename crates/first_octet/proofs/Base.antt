-- The octet of a length code is at most C0.
use Prim.Native.Nat.{ℕ, ◌≤◌}
use mathlib.Core.Bool.{Bool, true, false, cond}
use lib.Dec.{eqb}
use native.Mathlib.Omega.{arith}
use Rattle.rules.specs.First.{base_of}

either-le : (b : Bool) (x y : ℕ) {m : ℕ} → x ≤ m → y ≤ m → cond b x y ≤ m
either-le true x y p q = p
either-le false x y p q = q

pub base-small : (n : ℕ) → base_of n ≤ 0xC0
unfolding base_of
base-small n =
    either-le (eqb n 40) 0x40 _ (omega arith)
    (either-le (eqb n 80) 0x80 _ (omega arith)
    (either-le (eqb n 160) 0xC0 _ (omega arith)
    (either-le (eqb n 240) 0x20 0x30 (omega arith) (omega arith))))
