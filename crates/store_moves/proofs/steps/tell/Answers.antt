use mathlib.Core.Path.{◌∙◌}
use Rattle.store_moves.proofs.Worded.{moving-short, lifted-short, words-still, words-moving, words-lifted}
use Rattle.store_moves.proofs.steps.tell.Goals as goal

pub tell_move-requires-in-Moving : goal.tell_move-requires-in-Moving
tell_move-requires-in-Moving c =
    moving-short (rw c.in-Moving.is at c.requires.fits)

pub tell_move-requires-in-Lifted : goal.tell_move-requires-in-Lifted
tell_move-requires-in-Lifted c =
    lifted-short (rw c.in-Lifted.is at c.requires.fits)

pub returns-in-Still : goal.returns-in-Still
returns-in-Still c =
    c.tell_move.ensures ∙ words-still c.args.page c.in-Still.is

pub returns-in-Moving : goal.returns-in-Moving
returns-in-Moving c =
    c.tell_move-in-Moving.ensures ∙ words-moving c.args.page c.in-Moving.m c.in-Moving.is

pub returns-in-Lifted : goal.returns-in-Lifted
returns-in-Lifted c =
    c.tell_move-in-Lifted.ensures ∙ words-lifted c.args.page c.in-Lifted.m c.in-Lifted.is
