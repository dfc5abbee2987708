use native.Mathlib.Omega.{arith}
use Rattle.rules.specs.Samples.{mask_of}
use Rattle.recording_write.proofs.Way.{going-item, going_on, measure-start, measure-turn, measure-done, measure-long}
use Rattle.recording_write.proofs.sizes.all_octets.Goals as goal

pub loop-c-init : goal.loop-c-init
loop-c-init c =
    measure-start c.args.cells.now c.args.samples.now (mask_of c.args.by.law) c.args.by.set c.requires.samples_value

pub returns-then-sum-gt-LONGEST : goal.returns-then-sum-gt-LONGEST
returns-then-sum-gt-LONGEST c =
    let a = c.args in
    measure-long a.cells.now a.samples.now (mask_of a.by.law) a.by.set c.loop-c.invariant (omega arith)

pub item_octets-sum-requires : goal.item_octets-sum-requires
item_octets-sum-requires c =
    let g = c.loop-c.invariant.going in
    record { item_in = (going-item c.args.cells.now c.args.samples.now g (omega arith), g.inside); lawful = c.requires.lawful }

pub overflow_add-from : goal.overflow_add-from
overflow_add-from c =
    let g = going_on c.args.cells.now c.args.samples.now c.loop-c.invariant.going (omega arith) in
    omega (arith, g.inside, c.samples_in-from.ensures, c.well_formed)

pub loop-c-preserved : goal.loop-c-preserved
loop-c-preserved c =
    let a = c.args in
    let n = c.item_octets-sum.ensures in
    rw c.samples_in-from.ensures
    (measure-turn a.cells.now a.samples.now (mask_of a.by.law) a.by.set
    c.loop-c.invariant (omega arith) (omega arith) n.0 n.1)

pub returns : goal.returns
returns c =
    let a = c.args in
    measure-done a.cells.now a.samples.now (mask_of a.by.law) a.by.set c.loop-c.invariant (omega arith)
