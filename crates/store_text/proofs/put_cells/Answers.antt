-- Three stores.
use native.Mathlib.Omega.{arith}
use lib.ListN.{length-set}
use Rattle.store_text.proofs.Reading.{three-cells, three-rest}
use Rattle.store_text.proofs.put_cells.Goals as goal

pub bounds-cells-k-2 : goal.bounds-cells-k-2
bounds-cells-k-2 c = omega (arith, length-set c.args.cells.now c.args.k c.args.line.number)

pub bounds-cells-k-3 : goal.bounds-cells-k-3
bounds-cells-k-3 c = simp length-set (omega arith)

pub returns : goal.returns
returns c =
    let a = c.args in
    record { says = three-cells a.cells.now a.k _ _ _ (omega arith); rest = three-rest a.cells.now a.k _ _ _ }
