use Prim.Native.Nat.{suc, ◌-◌}
use mathlib.Core.Path.{◌≡◌, refl}
use native.Mathlib.Omega.{arith}
use borrow.Author.Tests.{lt-ltb, le-ltb}
use lib.Bits.{xor_lt}
use Rattle.rules.specs.Samples.{sample_of}
use Rattle.value_rows.proofs.sample_at.Goals as goal

pub returns-then-d-below : goal.returns-then-d-below
unfolding sample_of
returns-then-d-below c =
    let a = c.args in
    let e : a.low - 1 - a.d ≡ a.low - suc a.d = omega arith in
    rw (lt-ltb a.d a.below c.if-d-below.true, e) refl

pub overflow_add-result : goal.overflow_add-result
overflow_add-result c =
    let a = c.args in
    record { fits = omega (arith, xor_lt 7 (a.d - a.below) a.mask (omega arith) c.requires.0) }

pub returns-else-d-below : goal.returns-else-d-below
unfolding sample_of
returns-else-d-below c = rw (le-ltb c.args.d c.args.below (omega arith)) refl
