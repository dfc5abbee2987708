-- The answer for what was settled, or planned and put (Planned, Writing).
use mathlib.Core.Path.{sym, ap, ◌∙◌}
use lib.ListN.{length}
use Rattle.rules.specs.Chooses.{Written}
use Rattle.writer.specs.Answers.{fitting, plain}
use Rattle.writer.proofs.Planned.{plain-full}
use Rattle.writer.proofs.Writing.{writes_as}
use Rattle.writer.proofs.write_chosen.Goals as goal

pub write_whole-requires : goal.write_whole-requires
write_whole-requires c =
    let t = c.in-Tool.ensures in
    record {
      frame_in = (c.requires.0, t.1);
      bits_value = (t.0.bits ∙ ap (λ (w : Written). length w.bits) (sym (plain-full t.0 t.1.0 t.1.1)), t.0.small);
    }

pub returns-in-Tool : goal.returns-in-Tool
returns-in-Tool c =
    let t = c.in-Tool.ensures in
    let room = length c.args.out.now in
    writes_as {v = fitting room (plain _ c.args.frame.now)} c.write_whole.ensures (ap (fitting room) (plain-full t.0 t.1.0 t.1.1))

pub write_left-requires : goal.write_left-requires
write_left-requires c = record { frame_in = c.requires; kind_is = c.in-Of.ensures }
