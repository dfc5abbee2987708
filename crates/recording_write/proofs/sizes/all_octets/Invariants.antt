use Rattle.rules.specs.Samples.{mask_of}
use Rattle.recording_write.proofs.Way.{Measuring}
use Rattle.recording_write.proofs.sizes.all_octets.Given as goal

abbrev pub invariant-loop-c : goal.invariant-loop-c
invariant-loop-c l = Measuring l.cells l.samples (mask_of l.by.law) l.by.set l.c-index l.from l.sum
