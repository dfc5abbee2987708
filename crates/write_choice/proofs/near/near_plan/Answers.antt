-- The last of the tie order where value-location is not held or does not apply; else the better of the two (Planning).
use mathlib.Core.Path.{sym, ap, ◌∙◌}
use mathlib.Core.Bool.{Bool, ◌&&◌}
use Rattle.rules.specs.Chooses.{applies}
use Rattle.write_choice.proofs.Planning.{past, not-located, located-for}
use Rattle.write_choice.proofs.near.near_plan.Goals as goal

pub returns-then-not-holds : goal.returns-then-not-holds
returns-then-not-holds c =
    let off = ap (λ (h : Bool). h && applies c.args.mask 7 c.args.frame.now) (sym c.holds.ensures ∙ c.if-not-holds.true) in
    not-located c.args.set c.requires.left.1.other c.requires.left.0.later c.last_of-last.ensures off

pub near_of-requires : goal.near_of-requires
near_of-requires c =
    let near = c.requires.left.1 in
    record {
      frame_in = (c.requires.frame_in.0, (c.requires.frame_in.1, near.long));
      samples_value = near.close;
    }

pub located_or-requires : goal.located_or-requires
located_or-requires c = (c.last_of-last.ensures.chosen.small, c.in-Ok.ensures.1.small)

pub returns-in-Ok : goal.returns-in-Ok
returns-in-Ok c =
    let has = sym c.holds.ensures ∙ c.if-not-holds.false in
    rw c.located_or.ensures
    (located-for c.args.set c.requires.left.1.other c.requires.left.0.later c.last_of-last.ensures has c.in-Ok.ensures.0 c.in-Ok.ensures.1)

pub returns-in-Err : goal.returns-in-Err
returns-in-Err c =
    not-located c.args.set c.requires.left.1.other c.requires.left.0.later c.last_of-last.ensures
    (past c.args.set 7 c.in-Err.ensures.0)
