use native.Mathlib.Omega.{arith}
use Rattle.rules.specs.Samples.{mask_of}
use Rattle.recording_write.proofs.Way.{going-item, going_on, write-start, write-room, write-turn, write_done}
use Rattle.recording_write.proofs.items.put_items.Goals as goal

pub loop-c-init : goal.loop-c-init
loop-c-init c =
    write-start c.args.cells.now c.args.samples.now (mask_of c.args.by.law) c.args.by.set c.args.out.now
    c.args.at c.requires.samples_value

pub put_item-to-requires : goal.put_item-to-requires
put_item-to-requires c =
    let w = c.loop-c.invariant in let g = w.going in record {
      item_in = (going-item c.args.cells.now c.args.samples.now g (omega arith), g.inside);
      lawful = c.requires.lawful;
      samples_in_bounds = write-room c.args.cells.now c.args.samples.now (mask_of c.args.by.law) c.args.by.set
          c.args.out.now c.args.at w c.requires.samples_in_bounds (omega arith);
    }

pub overflow_add-from : goal.overflow_add-from
overflow_add-from c =
    let g = going_on c.args.cells.now c.args.samples.now c.loop-c.invariant.going (omega arith) in
    omega (arith, g.inside, c.samples_in-from.ensures)

pub loop-c-preserved : goal.loop-c-preserved
loop-c-preserved c =
    rw c.samples_in-from.ensures
    (write-turn c.args.cells.now c.args.samples.now (mask_of c.args.by.law) c.args.by.set
    c.args.out.now c.args.at
    c.loop-c.invariant (omega arith) c.put_item-to.ensures)

pub returns : goal.returns
returns c =
    write_done c.args.cells.now c.args.samples.now (mask_of c.args.by.law) c.args.by.set
    c.args.out.now c.args.at
    c.loop-c.invariant (omega arith)
