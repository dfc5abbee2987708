use native.Mathlib.Omega.{arith}
use Rattle.rules.proofs.Octets.{below_all}
use Rattle.recording_write.proofs.Way.{measured-settles, most-settles}
use Rattle.recording_write.proofs.sizes.octets_to_judge.Goals as goal

pub returns-then-most-room : goal.returns-then-most-room
returns-then-most-room c =
    let a = c.args in
    let b = below_all a.samples.now (λ i. (c.shared_slice_known-1.given i).fits) in
    most-settles a.by.law a.by.set a.cells.now a.samples.now c.requires.lawful.0.1 b c.requires.samples_value
    c.most_octets-most.ensures (omega arith) (omega arith)

pub returns-else-most-le-LONGEST : goal.returns-else-most-le-LONGEST
returns-else-most-le-LONGEST c = measured-settles c.args.room c.all_octets.ensures
