use mathlib.Core.Path.{sym, ◌∙◌}
use native.Mathlib.Omega.{arith}
use Rattle.store.proofs.Called.{long-bad, long-full, long-room}
use Rattle.store.proofs.over_long.Goals as goal

pub returns-then-is_bad : goal.returns-then-is_bad
returns-then-is_bad c = sym (long-bad _ _ _ (sym c.is_bad.ensures ∙ c.if-is_bad.true))

pub returns-then-n-ge-MOST_GREETINGS : goal.returns-then-n-ge-MOST_GREETINGS
returns-then-n-ge-MOST_GREETINGS c = sym (long-full _ _ _ (sym c.is_bad.ensures ∙ c.if-is_bad.false) (omega arith))

pub returns : goal.returns
returns c = sym (long-room _ _ _ (sym c.is_bad.ensures ∙ c.if-is_bad.false) (omega arith))
