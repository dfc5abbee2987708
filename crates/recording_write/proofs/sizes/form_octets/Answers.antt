-- Every form has room in 321 octets (Forms, Put).
use native.Mathlib.Omega.{arith}
use lib.ListN.{replicate}
use Rattle.rules.proofs.Octets.{below_all}
use Rattle.recording_write.proofs.Forms.{form-few}
use Rattle.recording_write.proofs.Put.{form-measured}
use Rattle.recording_write.proofs.sizes.form_octets.Goals as goal

pub returns : goal.returns
returns c =
    let f = c.args.frame.now in
    let by = c.args.by in
    let six = c.requires.0 in
    let b = below_all f (λ i. (c.shared_slice_known-1.given i).fits) in
    let few = form-few by.law by.set f c.requires.1.1 b six in
    let e = form-measured f by.law by.set c.requires.1.0 c.requires.1.1 six (replicate 321 0) few c.write_samples.ensures in
    (e, omega (arith, e, few))
