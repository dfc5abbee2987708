use mathlib.Core.Path.{sym, ◌∙◌}
use lib.ListN.{length}
use Rattle.rules.specs.Tools.{writer_asks}
use Rattle.rules.proofs.Guards.{all-met}
use Rattle.recording.specs.Files.{given_by}
use Rattle.recording_write.proofs.Ordered.{declined-as, written_as, file-refused, file-given, not-given}
use Rattle.recording_write.proofs.write_file.Goals as goal

pub returns-then-not-are_given : goal.returns-then-not-are_given
returns-then-not-are_given c =
    let a = c.args in
    let room = length a.out.now in
    let e = sym c.guard_writer.ensures ∙ c.in-Ok.is in
    let g = sym c.are_given.ensures ∙ c.if-not-are_given.true in
    declined-as c.refused-then-not-are_given.ensures (not-given a.law a.set room (given_by a.cells.now a.samples.now) g
    ∙ file-given a.samples.now a.cells.now a.law a.set room e) a.out.now

pub write_given-requires : goal.write_given-requires
write_given-requires c =
    let a = c.args in
    let met = all-met (writer_asks a.law a.set) (sym c.guard_writer.ensures ∙ c.in-Ok.is) in
    record { law_value = (met.0, met.1.0); samples_value = sym c.are_given.ensures ∙ c.if-not-are_given.false }

pub returns-in-Err : goal.returns-in-Err
returns-in-Err c =
    let a = c.args in
    let e = sym c.guard_writer.ensures ∙ c.in-Err.is in
    declined-as c.refused.ensures (file-refused a.samples.now a.cells.now a.law a.set (length a.out.now) e)
    a.out.now

pub returns-else-not-are_given : goal.returns-else-not-are_given
returns-else-not-are_given c =
    let a = c.args in
    let e = sym c.guard_writer.ensures ∙ c.in-Ok.is in
    written_as (file-given a.samples.now a.cells.now a.law a.set (length a.out.now) e)
    c.write_given.ensures
