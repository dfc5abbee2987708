-- A tool that a set holds is at least 1 (`held-least`).
use Prim.Native.Nat.{ℕ, ◌/◌, ◌%◌, ◌^◌, ◌≤◌}
use mathlib.Core.Path.{◌≡◌}
use mathlib.Core.Bool.{true, ◌&&◌}
use native.Mathlib.Omega.{arith}
use lib.Dec.{eqb, leb}
use borrow.Author.Tests.{eqb-true, leb-true}
use Rattle.rules.specs.Tools.{is_tool, slot_of, holds}
use Rattle.rules.proofs.Tests.{and_left, or_cases}

pub held-least : (set t : ℕ) → holds set t ≡ true → 1 ≤ t
unfolding holds
held-least set t h =
    or_cases (1 ≤ t) (leb 1 t && leb t 7) (eqb t 11) (and_left (is_tool t) (eqb (set / 2 ^ slot_of t % 2) 1) h)
    (λ e. leb-true 1 t (and_left (leb 1 t) (leb t 7) e)) (λ e. omega (arith, eqb-true t 11 e))
