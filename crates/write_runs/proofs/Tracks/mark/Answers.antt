use Rattle.write_runs.proofs.Values.{mark-first, mark-second, mark-third, mark-none}
use Rattle.write_runs.proofs.Tracks.mark.Goals as goal

pub returns-then-x-v : goal.returns-then-x-v
returns-then-x-v c =
    mark-first c.args.frame.now c.requires.i_bound.1 c.requires.i_bound.0 c.requires.tracks_are c.if-x-v.true
    c.close.ensures c.skip.ensures c.skip-then-x-v.ensures

pub returns-then-x-v-2 : goal.returns-then-x-v-2
returns-then-x-v-2 c =
    mark-second c.args.frame.now c.requires.i_bound.1 c.requires.i_bound.0 c.requires.tracks_are c.if-x-v.false
    c.if-x-v-2.true c.close-then-x-v-2.ensures c.skip-then-x-v-2.ensures

pub returns-then-x-v-3 : goal.returns-then-x-v-3
returns-then-x-v-3 c =
    mark-third c.args.frame.now c.requires.i_bound.1 c.requires.i_bound.0 c.requires.tracks_are c.if-x-v.false
    c.if-x-v-2.false c.if-x-v-3.true c.close-then-x-v-3.ensures

pub returns-else-x-v-3 : goal.returns-else-x-v-3
returns-else-x-v-3 c =
    mark-none c.args.frame.now c.requires.i_bound.1 c.requires.i_bound.0 c.requires.tracks_are c.if-x-v.false
    c.if-x-v-2.false c.if-x-v-3.false
