-- Uncompressed, or the row of tool 11 where that is better (Planning).
use mathlib.Core.Path.{refl, sym, ap, ◌∙◌}
use mathlib.Core.Bool.{Bool, ◌&&◌}
use native.Mathlib.Omega.{arith}
use Rattle.rules.specs.Chooses.{applies}
use Rattle.write_scan.proofs.Tests.{mask-seven}
use Rattle.write_offers.specs.declared.Choice.{Choice}
use Rattle.write_offers.proofs.Offering.{row-few}
use Rattle.write_choice.proofs.Planning.{last-plain, last_row, last-unmet}
use Rattle.write_choice.proofs.last.last_of.Goals as goal

pub returns-then-not-holds : goal.returns-then-not-holds
returns-then-not-holds c =
    let off = ap (λ (h : Bool). h && applies c.args.mask 11 c.args.frame.now) (sym c.holds.ensures ∙ c.if-not-holds.true) in
    last-plain c.args.mask c.args.set c.args.frame.now refl c.requires.0.few c.uncompressed_of.ensures off 0

pub row_of-requires : goal.row_of-requires
row_of-requires c = (c.requires.0, mask-seven _ c.requires.1)

pub bits_of-bits-requires : goal.bits_of-bits-requires
bits_of-bits-requires c = (row-few c.args.mask c.args.frame.now c.in-Some.ensures.row, c.requires.0.few)

pub better-choice-requires : goal.better-choice-requires
better-choice-requires c = (
  omega (arith, ap (λ (k : Choice). k.bits) c.uncompressed_of.ensures, c.requires.0.few),
  omega (arith, c.bits_of-bits.ensures.1),
)

pub returns-in-Some : goal.returns-in-Some
returns-in-Some c =
    let on = sym c.holds.ensures ∙ c.if-not-holds.false in
    last_row c.args.mask c.args.set c.args.frame.now refl c.requires.0.few
    c.uncompressed_of.ensures on c.in-Some.ensures.row c.bits_of-bits.ensures.0 c.better-choice.ensures

pub returns-in-None : goal.returns-in-None
returns-in-None c =
    last-unmet c.args.mask c.args.set c.args.frame.now refl c.requires.0.few c.uncompressed_of.ensures c.in-None.ensures.row
