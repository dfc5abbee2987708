-- TOOL, or the tool and its samples (Headed).
use mathlib.Core.Path.{refl, sym, ◌∙◌}
use Rattle.read_head.proofs.Headed.{heads-as, no-tool, held-tool}
use Rattle.read_head.proofs.by_tool.Goals as goal

pub returns-else-holds : goal.returns-else-holds
returns-else-holds c = λ bits i. heads-as
    (no-tool _ _ _ bits i (sym c.holds.ensures ∙ c.if-holds.false)) (c.refused.ensures 0)

pub returns-then-holds : goal.returns-then-holds
returns-then-holds c = λ bits i. heads-as
    (held-tool _ _ _ bits i (sym c.holds.ensures ∙ c.if-holds.true))
    (record { end = refl; tool = refl; samples = refl })
