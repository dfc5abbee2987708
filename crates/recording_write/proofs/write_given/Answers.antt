use native.Mathlib.Omega.{arith}
use mathlib.Core.Path.{ap, ◌∙◌}
use lib.ListN.{length, replicate}
use Rattle.write_scan.proofs.Tests.{mask-seven, is-mask}
use Rattle.recording.specs.Remembered.{plus_plus}
use Rattle.recording_write.proofs.Ordered.{declined-as, too_long, no_room, file-written}
use Rattle.recording_write.proofs.write_given.Goals as goal

pub plus_plus-quiet-requires : goal.plus_plus-quiet-requires
plus_plus-quiet-requires c = rw c.mask_of.ensures (mask-seven _ (is-mask c.args.law))

pub octets_to_judge-after-requires : goal.octets_to_judge-after-requires
octets_to_judge-after-requires c =
    let quiet = ap (λ x. replicate 320 x) (c.plus_plus-quiet.ensures ∙ ap plus_plus c.mask_of.ensures) in
    record { samples_value = c.requires.samples_value; lawful = (c.requires.law_value, quiet) }

pub returns-then-after-gt-LONGEST : goal.returns-then-after-gt-LONGEST
returns-then-after-gt-LONGEST c =
    let a = c.args in
    let m = c.octets_to_judge-after.ensures in
    declined-as c.refused.ensures
    (too_long a.samples.now a.cells.now a.law a.set (length a.out.now) c.requires.samples_value (m.long (omega arith)))
    a.out.now

pub returns-then-out-after : goal.returns-then-out-after
returns-then-out-after c =
    let a = c.args in
    let m = c.octets_to_judge-after.ensures in
    let short = m.no_room (omega arith) (omega arith) in
    declined-as c.refused-then-out-after.ensures
    (no_room a.samples.now a.cells.now a.law a.set (length a.out.now) c.requires.samples_value (m.short (omega arith)) short)
    a.out.now

pub put_items-octets-requires : goal.put_items-octets-requires
put_items-octets-requires c =
    let m = c.octets_to_judge-after.ensures in let p = rw c.heading_of-heading.ensures at c.put_word-at.ensures in let quiet = ap (λ x. replicate 320 x)
    (c.plus_plus-quiet.ensures ∙ ap plus_plus c.mask_of.ensures) in record {
      samples_value = c.requires.samples_value;
      lawful = (c.requires.law_value, quiet);
      samples_in_bounds = omega
          (arith, m.room_for (omega arith) (omega arith), p.place, p.size);
    }

pub returns : goal.returns
returns c =
    let a = c.args in
    let m = c.octets_to_judge-after.ensures in
    let p = rw c.heading_of-heading.ensures at c.put_word-at.ensures in
    let few = c.if-after-gt-LONGEST.false in
    file-written a.samples.now a.cells.now a.law a.set c.requires.samples_value (m.short (omega (arith, few)))
    (m.room_for (omega (arith, few)) (omega (arith, c.if-out-after.false))) p c.put_items-octets.ensures
