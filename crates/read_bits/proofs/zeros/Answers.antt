-- Each turn reads a window (ZeroRun); the measure is what is left of the N + 1.
use native.Mathlib.Omega.{arith}
use native.Mathlib.Nat.{add-zero, sub-zero}
use lib.Count.{count_leading_zeros, leading_le}
use Rattle.read_bits.proofs.Leading.{Lead, lead}
use Rattle.read_bits.proofs.ZeroRun.{window-one, window-run, window-short, window-all-run, window_more}
use Rattle.read_bits.proofs.zeros.Goals.{After-next_bits}
use Rattle.read_bits.proofs.zeros.Goals as goal

pub loop-place-init : goal.loop-place-init
loop-place-init c = (omega arith, rw (sub-zero, add-zero))

pub overflow_cast-more : goal.overflow_cast-more
overflow_cast-more c = omega (arith, leading_le 32 c.next_bits.result)

-- the zeros that stand first in the window
module _ (c : After-next_bits) where
  leads : Lead 32 c.next_bits.result (count_leading_zeros 32 c.next_bits.result)
  leads = lead 32 _ c.next_bits.ensures.small

pub loop-place-preserved : goal.loop-place-preserved
loop-place-preserved c =
    let l = c.min.ensures in
    let i = c.loop-place.invariant.1 in (
      omega arith,
      window_more _ _ _ _ c.next_bits.ensures (leads (goal.at.loop-place-preserved c).After-next_bits) i (omega arith)
          (omega arith) (omega arith) (omega arith),
    )

pub returns-then-n-k : goal.returns-then-n-k
returns-then-n-k c =
    window-run _ _ _ _ c.next_bits.ensures (leads (goal.at.returns-then-n-k c).After-next_bits) c.loop-place.invariant.1
    (omega arith) (omega arith) (omega arith)

pub returns-else-n-k : goal.returns-else-n-k
returns-else-n-k c =
    window-one _ _ _ _ c.next_bits.ensures (leads (goal.at.returns-else-n-k c).After-next_bits) c.loop-place.invariant.1 (omega arith) (omega arith)

pub returns-then-octets-place : goal.returns-then-octets-place
returns-then-octets-place c =
    let l = c.min.ensures in
    window-short _ _ _ _ c.next_bits.ensures (leads (goal.at.returns-then-octets-place c).After-next_bits) c.loop-place.invariant.1 (omega arith) (omega arith)
    c.missing.ensures (omega arith) (omega arith)

pub returns-then-n-k-2 : goal.returns-then-n-k-2
returns-then-n-k-2 c =
    let l = c.min.ensures in
    window-all-run _ _ _ _ c.next_bits.ensures (leads (goal.at.returns-then-n-k-2 c).After-next_bits) c.loop-place.invariant.1
    (omega arith) (omega arith) (omega arith)
    (omega arith)
