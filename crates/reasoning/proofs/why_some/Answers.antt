use Rattle.reasoning.proofs.Refusing.{why-refused, why-told}
use Rattle.write_offers.proofs.Offering.{handed_on}
use Rattle.write_scan.proofs.Tests.{is-mask}
use mathlib.Core.Path.{sym, ◌∙◌}
use Rattle.reasoning.proofs.why_some.Goals as goal

pub why_allowed-requires : goal.why_allowed-requires
why_allowed-requires c = (
  c.requires,
  rw c.mask_of.ensures
      (is-mask c.args.law),
)

pub returns-in_err-guard_writer : goal.returns-in_err-guard_writer
returns-in_err-guard_writer c =
    let a = c.args in
    handed_on c.from_residual.result c.from_residual.ensures.1
    ∙ why-refused a.n a.samples.now a.law a.set (sym c.guard_writer.ensures ∙ c.in_err-guard_writer.was)

pub returns : goal.returns
returns c =
    let a = c.args in
    why-told a.n a.samples.now a.law a.set c.mask_of.ensures
    (sym c.guard_writer.ensures ∙ c.in_ok-guard_writer.was) c.why_allowed.ensures
