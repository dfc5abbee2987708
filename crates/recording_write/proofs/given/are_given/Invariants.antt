use Rattle.recording_write.proofs.Way.{Judging}
use Rattle.recording_write.proofs.given.are_given.Given as goal

abbrev pub invariant-loop-c : goal.invariant-loop-c
invariant-loop-c l = Judging l.cells l.samples l.c-index l.from
