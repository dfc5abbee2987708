use Prim.Native.Nat.{ℕ, ◌+◌, ◌-◌}
use mathlib.Core.Path.{◌≡◌, ap, ◌∙◌}
use native.Mathlib.Omega.{arith}
use lib.ListN.{drop}
use lib.Seq.{paste}
use Rattle.store_rows.proofs.Shifting.{shift_none}
use Rattle.store_rows.proofs.Hopping.{shift-on, shift_rest}
use Rattle.store_rows.proofs.closing.shift.Goals as goal

pub loop-i-init : goal.loop-i-init
loop-i-init c = shift_none _ _ _ _

pub loop-i-preserved : goal.loop-i-preserved
loop-i-preserved c = shift-on 64 c.loop-i.invariant c.hop.ensures (omega arith) (omega arith) (omega arith)

pub returns : goal.returns
returns c =
    let s = c.args in
    let l = c.loop-i in
    let v = l.invariant in
    let rest : s.from + s.n - (s.from + l.i) ≡ s.n - l.i = omega (arith, v.within) in
    shift_rest s.block.now s.from s.to s.n l.i v.is v.size (omega arith) (omega arith) v.within
    (c.copy_within.ensures.after ∙ ap (λ (x : ℕ). paste l.block (s.to + l.i) (drop (s.from + l.i) l.block) x) rest)
