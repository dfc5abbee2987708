-- The first n samples, where n is a frame's length.
use Prim.Native.Nat.{ℕ, ◌≤◌}
use mathlib.Core.Path.{◌≡◌}
use mathlib.Core.List.{List}
use mathlib.Core.Bool.{true}
use native.Mathlib.Omega.{arith}
use lib.ListN.{length, take}
use lib.Seq.{length-take-le}
use Rattle.rules.specs.Tools.{is_length}
use Rattle.rules.proofs.Tests.{by_length}
use Rattle.write_scan.specs.Looks.{FrameIn}
use Rattle.write_scan.proofs.Tests.{frame-in}

module _ (n : ℕ) (samples : List ℕ) (sized : is_length n ≡ true) (long : n ≤ 320 → n ≤ length samples) where
  pub within : n ≤ length samples
  within = long (by_length (λ k. k ≤ 320) (omega arith) (omega arith) (omega arith) (omega arith) (omega arith) n sized)

  pub taken : length (take n samples) ≡ n
  taken = length-take-le n samples within

  pub first-in : FrameIn (take n samples)
  first-in = frame-in (take n samples) (rw taken sized)
