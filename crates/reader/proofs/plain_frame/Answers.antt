-- TOOL, ROOM, SHORT, or what is laid (Plainly).
use native.Mathlib.Omega.{arith}
use Rattle.law.proofs.Mask.{mask-small}
use Rattle.reader.proofs.Decided.{length-range}
use Rattle.reader.proofs.Held.{held-least}
use Rattle.reader.proofs.Plainly.{gives}
use Rattle.reader.proofs.plain_frame.Goals as goal

pub plain_of-requires : goal.plain_of-requires
plain_of-requires c =
    let range = length-range c.args.h.len c.requires.0.len in (
      held-least c.args.set c.args.h.tool c.in_ok-admitted.ensures.0,
      c.requires.1,
      omega (arith, range),
      omega (arith, range),
      omega (arith, mask-small c.args.law, c.mask_of.ensures),
    )

pub returns : goal.returns
returns c =
    let held = c.in_ok-admitted.ensures in
    gives c.args.law c.args.set c.args.room c.args.h c.args.octets.now c.requires.0 c.requires.1 held.0 held.1 c.plain_of.result
    (rw c.mask_of.ensures at c.plain_of.ensures)
