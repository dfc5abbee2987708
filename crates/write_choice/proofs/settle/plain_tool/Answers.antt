-- One value or several, then the spread (Settling).
use mathlib.Core.Path.{refl}
use native.Mathlib.Omega.{arith}
use Rattle.write_choice.proofs.Settling.{one_of, several, spread, value-settled, value-lacks}
use Rattle.write_scan.proofs.Tests.{mask-seven}
use Rattle.write_choice.proofs.settle.plain_tool.Goals as goal

pub returns-then-l : goal.returns-then-l
returns-then-l c =
    spread (several _ c.requires.frame_in.0.some refl c.requires.spread_is c.if-l.true) c.requires.spread_is c.spread_tool.ensures

pub one_value_tool-requires : goal.one_value_tool-requires
one_value_tool-requires c = mask-seven _ c.requires.frame_in.1

pub returns-in-Some : goal.returns-in-Some
returns-in-Some c =
    let f = c.requires.frame_in.0 in
    let one = one_of c.args.set (omega (arith, f.some, f.whole)) refl c.requires.spread_is c.if-l.false in
    value-settled one c.one_value_tool.ensures c.in-Some.is

pub returns-in-None : goal.returns-in-None
returns-in-None c =
    let f = c.requires.frame_in.0 in
    let one = one_of c.args.set (omega (arith, f.some, f.whole)) refl c.requires.spread_is c.if-l.false in
    spread (value-lacks one c.one_value_tool.ensures c.in-None.is) c.requires.spread_is c.spread_tool-in-None.ensures
