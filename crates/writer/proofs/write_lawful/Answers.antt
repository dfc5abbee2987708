use Prim.Native.Nat.{ℕ}
use mathlib.Core.Path.{sym, ap, ◌∙◌}
use lib.ListN.{length, take}
use Rattle.write_scan.proofs.Tests.{is-mask}
use Rattle.write_offers.proofs.Frames.{within, taken, first-in}
use Rattle.writer.specs.Answers.{fitting, full}
use Rattle.writer.proofs.Writing.{refused-writes, writes_as, write-pad, write-length, write-full}
use Rattle.writer.proofs.write_lawful.Goals as goal

pub returns-then-n-eq0 : goal.returns-then-n-eq0
returns-then-n-eq0 c =
    writes_as c.write_pad.ensures
    (write-pad c.args.n c.args.samples.now c.args.law c.args.set (length c.args.out.now)
    c.requires.0 c.if-n-eq0.true)

pub returns-then-not-is_length : goal.returns-then-not-is_length
returns-then-not-is_length c =
    let off = sym c.is_length.ensures ∙ c.if-not-is_length.true in
    writes_as (refused-writes c.refused.ensures)
    (write-length c.args.n c.args.samples.now c.args.law c.args.set (length c.args.out.now)
    c.requires.0 c.if-n-eq0.false off)

pub slice_bounds-frame-end : goal.slice_bounds-frame-end
slice_bounds-frame-end c =
    sym (taken c.args.n c.args.samples.now (sym c.is_length.ensures ∙ c.if-not-is_length.false) c.requires.1)

pub write_chosen-requires : goal.write_chosen-requires
write_chosen-requires c =
    let on = sym c.is_length.ensures ∙ c.if-not-is_length.false in
    (first-in c.args.n c.args.samples.now on c.requires.1, rw c.mask_of.ensures (is-mask c.args.law))

pub returns : goal.returns
returns c =
    let room = length c.args.out.now in
    let f = take c.args.n c.args.samples.now in
    let mask = c.mask_of in
    let on = sym c.is_length.ensures ∙ c.if-not-is_length.false in
    writes_as {v = fitting room (full mask.result c.args.set f)} c.write_chosen.ensures
    (ap (λ (m : ℕ). fitting room (full m c.args.set f)) mask.ensures
    ∙ write-full c.args.n c.args.samples.now c.args.law c.args.set room c.requires.0
    c.if-n-eq0.false on (within c.args.n c.args.samples.now on c.requires.1))
