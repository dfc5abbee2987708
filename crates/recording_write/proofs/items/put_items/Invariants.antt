use Rattle.rules.specs.Samples.{mask_of}
use Rattle.recording_write.proofs.Way.{Writing}
use Rattle.recording_write.proofs.items.put_items.Given as goal

abbrev pub invariant-loop-c : goal.invariant-loop-c
invariant-loop-c l =
    Writing l.cells l.samples (mask_of l.by.law) l.by.set l.initial.out l.at l.out l.c-index l.from l.to
