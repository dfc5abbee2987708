use mathlib.Core.Path.{◌≡◌}
use lib.ListN.{length}
use native.Mathlib.Omega.{arith}
use borrow.Author.Rules.{rules}
use Rattle.reasoning.proofs.why_frame.Goals as goal

pub why_some-requires : goal.why_some-requires
why_some-requires c =
    let k : length c.args.frame.samples ≡ 320 = search rules in
    λ h. omega (arith, h, k)
