-- Each turn puts one cell (Laying).
use mathlib.Core.Path.{◌≡◌}
use lib.ListN.{get_or}
use borrow.Author.Tests.{eq-eqb, ne_eqb}
use native.Mathlib.Omega.{arith}
use Rattle.read_located.proofs.Laying.{laying-none, laying-turn, laying-all}
use Rattle.read_located.proofs.lay.Goals.{then-empty, else-empty}
use Rattle.read_located.proofs.lay.Goals as goal

pub loop-i-init : goal.loop-i-init
loop-i-init c = laying-none _ _ _ _ (omega arith) (omega arith)

pub loop-i-preserved : goal.loop-i-preserved
loop-i-preserved c =
    let i = c.loop-i.invariant in
    elim c.if-empty.branch [
      | then-empty w ↦
          let t = eq-eqb (get_or c.loop-i.cells c.loop-i.i 0) c.args.plus w.if-empty.true in
          let u : c.from.result ≡ 1 = rw t at c.from.ensures in
          laying-turn i (omega arith) (rw t w.cells-is) (rw t u) (omega arith)
      | else-empty w ↦
          let t = ne_eqb (get_or c.loop-i.cells c.loop-i.i 0) c.args.plus w.if-empty.false in
          let u : c.from.result ≡ 0 = rw t at c.from.ensures in
          laying-turn i (omega arith) (rw t w.cells-is) (rw t u) (omega arith)
    ]

pub returns : goal.returns
returns c = laying-all c.loop-i.invariant (omega arith)
