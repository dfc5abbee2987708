use Rattle.recording_write.proofs.Way.{Counting}
use Rattle.recording_write.proofs.sizes.most_octets.Given as goal

abbrev pub invariant-loop-c : goal.invariant-loop-c
invariant-loop-c l = Counting l.cells l.c-index l.sum
