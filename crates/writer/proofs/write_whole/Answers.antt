-- A frame that the look settles: ROOM, or whole octets put (Writing).
use mathlib.Core.Path.{refl}
use native.Mathlib.Omega.{arith}
use Rattle.rules.proofs.Octets.{length-bits_of}
use Rattle.write_forms.specs.Forms.{whole_octets}
use Rattle.write_forms.proofs.Whole.{whole_length}
use Rattle.writer.specs.Answers.{plain}
use Rattle.writer.proofs.Writing.{no_room, all-written}
use Rattle.writer.proofs.write_whole.Goals as goal

pub returns-then-out-octets_for : goal.returns-then-out-octets_for
returns-then-out-octets_for c =
    no_room (plain c.args.c.tool c.args.frame.now)
    (omega (arith, c.requires.bits_value.0, c.octets_for.ensures, c.if-out-octets_for.true)) c.refused.ensures

pub put_whole-octets-requires : goal.put_whole-octets-requires
put_whole-octets-requires c =
    record {
      le_tool = c.requires.frame_in.1;
      frame_in = c.requires.frame_in.0;
      tool_in_bounds = omega (
        arith,
        length-bits_of (whole_octets c.args.c.tool c.args.frame.now),
        whole_length c.args.c.tool c.args.frame.now refl,
        c.requires.bits_value.0,
        c.octets_for.ensures,
        c.if-out-octets_for.false,
      );
    }

pub returns : goal.returns
returns c =
    all-written (plain c.args.c.tool c.args.frame.now)
    (omega (arith, c.requires.bits_value.0, c.octets_for.ensures, c.if-out-octets_for.false)) c.put_whole-octets.ensures
    c.requires.bits_value.0 refl c.wrote.ensures
