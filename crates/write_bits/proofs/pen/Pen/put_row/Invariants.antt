use Rattle.write_bits.proofs.Rows.{RowTurn}
use Rattle.write_bits.proofs.pen.Pen.put_row.Given as goal

abbrev pub invariant-loop-w : goal.invariant-loop-w
invariant-loop-w l = RowTurn l.initial.out l.initial.self l.w-items l.out l.self l.w-index
