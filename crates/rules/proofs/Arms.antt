-- The last arm of a match on 0, 1, .. : a number that is none of those below k is k, where it is at most k (`last_arm`).
use mathlib.Core.Path.{◌≡◌}
use Prim.Native.Nat.{ℕ, zero, suc, ◌≤◌, ◌<◌}
use native.Mathlib.Omega.{arith}

-- what the arms before tell
abbrev pub NoneBelow : ℕ → ℕ → Type 0
NoneBelow zero h = Unit {0}
NoneBelow (suc k) h = NoneBelow k h × (h ≡ k → ⊥)

at_least : (k h : ℕ) → NoneBelow k h → k ≤ h
at_least zero h none = omega arith
at_least (suc k) h none = let p : k ≤ h = at_least k h none.0 in let q : h ≡ k → ⊥ = none.1 in omega arith

pub last_arm : (k h : ℕ) → NoneBelow k h → h < suc k → h ≡ k
last_arm k h none below = let p : k ≤ h = at_least k h none in omega arith
