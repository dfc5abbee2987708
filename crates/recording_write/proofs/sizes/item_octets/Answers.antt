use native.Mathlib.Omega.{arith}
use mathlib.Core.Path.{sym, ap, ◌∙◌}
use lib.ListN.{length}
use Rattle.rules.specs.Samples.{mask_of}
use Rattle.recording_write.proofs.Forms.{item-lost, frame-end, frame-for, loss-end, loss-for}
use Rattle.recording_write.proofs.sizes.item_octets.Goals as goal

pub overflow_add-from : goal.overflow_add-from
overflow_add-from c =
    let n = c.length_in-n in
    omega (
      arith,
      c.well_formed,
      frame-end (mask_of c.args.by.law) c.args.by.set c.args.c n.result n.ensures
          c.args.samples.now c.args.from c.requires.item_in.0 (omega arith) c.requires.item_in.1,
    )

pub slice_bounds-form_octets-end : goal.slice_bounds-form_octets-end
slice_bounds-form_octets-end c =
    let n = c.length_in-n in
    frame-end (mask_of c.args.by.law) c.args.by.set c.args.c n.result n.ensures
    c.args.samples.now c.args.from c.requires.item_in.0 (omega arith) c.requires.item_in.1

pub form_octets-requires : goal.form_octets-requires
form_octets-requires c =
    let n = c.length_in-n in (
      (frame-for (mask_of c.args.by.law) c.args.by.set c.args.c n.result n.ensures
          c.args.samples.now c.args.from c.requires.item_in.0 (omega arith)).six,
      c.requires.lawful.0,
    )

pub returns-then-c-lt-LOSS_FROM : goal.returns-then-c-lt-LOSS_FROM
returns-then-c-lt-LOSS_FROM c =
    let n = c.length_in-n in
    let f = frame-for (mask_of c.args.by.law) c.args.by.set c.args.c n.result n.ensures
    c.args.samples.now c.args.from c.requires.item_in.0 (omega arith) in
    (c.form_octets.ensures.0 ∙ ap length (sym f.octets), omega (arith, c.form_octets.ensures.1))

pub returns-then-n-eq0 : goal.returns-then-n-eq0
returns-then-n-eq0 c =
    let n = c.length_in-n in (
      ap length (sym (item-lost (mask_of c.args.by.law) c.args.by.set c.args.c _ (omega arith)
          (sym n.ensures ∙ c.if-n-eq0.true))),
      omega arith,
    )

pub slice_bounds-form_octets-end-else-n-eq0 : goal.slice_bounds-form_octets-end-else-n-eq0
slice_bounds-form_octets-end-else-n-eq0 c =
    let n = c.length_in-n in
    loss-end (mask_of c.args.by.law) c.args.by.set c.args.c n.result n.ensures c.requires.item_in.0 c.requires.lawful.1

pub form_octets-requires-else-n-eq0 : goal.form_octets-requires-else-n-eq0
form_octets-requires-else-n-eq0 c =
    let n = c.length_in-n in
    let f = loss-for (mask_of c.args.by.law) c.args.by.set c.args.c n.result n.ensures
    c.requires.item_in.0 c.requires.lawful.1 (omega arith) c.if-n-eq0.false in
    (f.six, c.requires.lawful.0)

pub returns-else-n-eq0 : goal.returns-else-n-eq0
returns-else-n-eq0 c =
    let n = c.length_in-n in
    let f = loss-for (mask_of c.args.by.law) c.args.by.set c.args.c n.result n.ensures
    c.requires.item_in.0 c.requires.lawful.1 (omega arith) c.if-n-eq0.false in
    (c.form_octets-else-n-eq0.ensures.0 ∙ ap length (sym f.octets), omega (arith, c.form_octets-else-n-eq0.ensures.1))
