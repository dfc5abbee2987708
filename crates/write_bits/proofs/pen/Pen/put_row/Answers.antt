use Rattle.std.proofs.Common.{◌^◌, ◌/◌, get_or, refl, arith}
use Rattle.rules.proofs.Octets.{length-low_bits}
use Rattle.write_scan.proofs.Rows.{word-small}
use Rattle.write_bits.proofs.Putting.{able-then}
use Rattle.write_bits.proofs.Rows.{row-none, row-able, row-then}
use Rattle.write_bits.proofs.pen.Pen.put_row.Goals as goal

pub loop-w-init : goal.loop-w-init
loop-w-init c = row-none _ _ _

pub put-requires : goal.put-requires
put-requires c =
    let l = c.loop-w in
    let small = word-small c.args.row.now c.words-w-items.ensures l.w-index c.loop-w-test.true in
    record {
      able = row-able l.invariant c.loop-w-test.true (rw (← c.words-w-items.ensures) at c.requires) 8 (omega arith);
      n_bound = (omega arith, omega arith);
    }

pub put-requires-in-loop-w : goal.put-requires-in-loop-w
put-requires-in-loop-w c =
    let l = c.loop-w in
    let able = row-able l.invariant c.loop-w-test.true (rw (← c.words-w-items.ensures) at c.requires) 40 (omega arith) in
    record {
      able = able-then 32 able c.put.ensures c.put.auto.out
          (omega (arith, length-low_bits 8 (get_or c.words-w-items.result.now l.w-index 0 / 2 ^ 32)));
      n_bound = (omega arith, omega arith);
    }

pub loop-w-preserved : goal.loop-w-preserved
loop-w-preserved c =
    let low = c.put-in-loop-w in
    row-then c.loop-w.invariant c.loop-w-test.true refl c.put.ensures low.ensures c.put.auto.out low.auto.out
