use native.Mathlib.Omega.{arith}
use mathlib.Core.Path.{sym, ap, ◌∙◌}
use lib.ListN.{length, drop}
use Rattle.rules.specs.Samples.{mask_of}
use Rattle.text_lines.proofs.Putting.{puts-as}
use Rattle.recording_write.proofs.Forms.{item-lost, frame-end, frame-for, loss-end, loss-for}
use Rattle.recording_write.proofs.items.put_item.Goals as goal

pub overflow_add-from : goal.overflow_add-from
overflow_add-from c =
    let n = c.length_in-n in
    omega (
      arith,
      c.well_formed,
      frame-end (mask_of c.args.by.law) c.args.by.set c.args.c n.result n.ensures
          c.args.samples.now c.args.from c.requires.item_in.0 (omega arith) c.requires.item_in.1,
    )

pub slice_bounds-put_form-end : goal.slice_bounds-put_form-end
slice_bounds-put_form-end c =
    let n = c.length_in-n in
    frame-end (mask_of c.args.by.law) c.args.by.set c.args.c n.result n.ensures
    c.args.samples.now c.args.from c.requires.item_in.0 (omega arith) c.requires.item_in.1

pub put_form-requires : goal.put_form-requires
put_form-requires c =
    let n = c.length_in-n in let f = frame-for (mask_of c.args.by.law) c.args.by.set c.args.c n.result n.ensures
    c.args.samples.now c.args.from c.requires.item_in.0 (omega arith) in record
    { frame_value = (f.six, c.requires.lawful.0); frame_in_bounds = omega (arith, c.requires.samples_in_bounds, ap length f.octets) }

pub returns-then-c-lt-LOSS_FROM : goal.returns-then-c-lt-LOSS_FROM
returns-then-c-lt-LOSS_FROM c =
    let n = c.length_in-n in
    let f = frame-for (mask_of c.args.by.law) c.args.by.set c.args.c n.result n.ensures
    c.args.samples.now c.args.from c.requires.item_in.0 (omega arith) in
    puts-as (sym f.octets) c.put_form.ensures

pub put_lost-requires : goal.put_lost-requires
put_lost-requires c =
    let n = c.length_in-n in
    omega (
      arith,
      c.requires.samples_in_bounds,
      ap length (item-lost (mask_of c.args.by.law) c.args.by.set c.args.c (drop c.args.from c.args.samples.now)
          (omega arith)
          (sym n.ensures ∙ c.if-n-eq0.true)),
    )

pub returns-then-n-eq0 : goal.returns-then-n-eq0
returns-then-n-eq0 c =
    let n = c.length_in-n in
    puts-as (sym (item-lost (mask_of c.args.by.law) c.args.by.set c.args.c (drop c.args.from c.args.samples.now)
    (omega arith)
    (sym n.ensures ∙ c.if-n-eq0.true))) c.put_lost.ensures

pub slice_bounds-put_form-end-else-n-eq0 : goal.slice_bounds-put_form-end-else-n-eq0
slice_bounds-put_form-end-else-n-eq0 c =
    let n = c.length_in-n in
    loss-end (mask_of c.args.by.law) c.args.by.set c.args.c n.result n.ensures c.requires.item_in.0 c.requires.lawful.1

pub put_form-requires-else-n-eq0 : goal.put_form-requires-else-n-eq0
put_form-requires-else-n-eq0 c =
    let n = c.length_in-n in let f = loss-for (mask_of c.args.by.law) c.args.by.set c.args.c n.result n.ensures
    c.requires.item_in.0 c.requires.lawful.1 (omega arith) c.if-n-eq0.false in record
    { frame_value = (f.six, c.requires.lawful.0); frame_in_bounds = omega (arith, c.requires.samples_in_bounds, ap length f.octets) }

pub returns-else-n-eq0 : goal.returns-else-n-eq0
returns-else-n-eq0 c =
    let n = c.length_in-n in
    let f = loss-for (mask_of c.args.by.law) c.args.by.set c.args.c n.result n.ensures
    c.requires.item_in.0 c.requires.lawful.1 (omega arith) c.if-n-eq0.false in
    puts-as (sym f.octets) c.put_form-else-n-eq0.ensures
