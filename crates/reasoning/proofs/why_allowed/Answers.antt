use Rattle.reasoning.proofs.Refusing.{allowed-none, allowed-not, allowed-told}
use Rattle.write_offers.proofs.Frames.{taken, first-in}
use mathlib.Core.Path.{sym, ◌∙◌}
use Rattle.reasoning.proofs.why_allowed.Goals as goal

pub returns-then-n-eq0 : goal.returns-then-n-eq0
returns-then-n-eq0 c = allowed-none _ _ _ _ c.if-n-eq0.true c.empty_reasons.ensures

pub returns-then-not-is_length : goal.returns-then-not-is_length
returns-then-not-is_length c = allowed-not _ c.args.samples.now _ _ c.if-n-eq0.false
    (sym c.is_length.ensures ∙ c.if-not-is_length.true)

pub slice_bounds-frame-end : goal.slice_bounds-frame-end
slice_bounds-frame-end c =
    sym (taken c.args.n c.args.samples.now (sym c.is_length.ensures ∙ c.if-not-is_length.false) c.requires.0)

pub reasons_of-requires : goal.reasons_of-requires
reasons_of-requires c = (
  first-in c.args.n c.args.samples.now (sym c.is_length.ensures ∙ c.if-not-is_length.false) c.requires.0,
  c.requires.1,
)

pub returns : goal.returns
returns c =
    let h = sym c.is_length.ensures ∙ c.if-not-is_length.false in
    allowed-told c.args.n c.args.samples.now c.args.mask c.args.set h c.reasons_of.ensures
