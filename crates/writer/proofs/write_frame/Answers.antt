use borrow.Author.Rules.{rules}
use native.Mathlib.Omega.{arith}
use mathlib.Core.Path.{◌≡◌}
use lib.ListN.{length}
use Rattle.writer.proofs.write_frame.Goals as goal

pub write_some-requires : goal.write_some-requires
write_some-requires c =
    let k : length c.args.frame.samples ≡ 320 = search rules in
    λ h. omega (arith, h, k)
