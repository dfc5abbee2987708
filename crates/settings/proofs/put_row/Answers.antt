use native.Mathlib.Omega.{arith}
use lib.ListN.{length-set}
use Rattle.settings.proofs.State.{five-put}
use Rattle.settings.proofs.put_row.Goals as goal

pub bounds-rows-at-2 : goal.bounds-rows-at-2
bounds-rows-at-2 c = simp length-set (omega arith)

pub bounds-rows-at-3 : goal.bounds-rows-at-3
bounds-rows-at-3 c = simp length-set (omega arith)

pub bounds-rows-at-4 : goal.bounds-rows-at-4
bounds-rows-at-4 c = simp length-set (omega arith)

pub bounds-rows-at-5 : goal.bounds-rows-at-5
bounds-rows-at-5 c = simp length-set (omega arith)

pub returns : goal.returns
returns c = five-put c.args.rows.now c.args.at c.args.r (omega arith)
