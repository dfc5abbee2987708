-- TOOL and ROOM, as the definition has them (Decided).
use mathlib.Core.Path.{sym, ◌∙◌}
use Rattle.reader.proofs.Decided.{no-tool, no_room}
use Rattle.reader.proofs.admitted.Goals as goal

pub returns-then-not-holds : goal.returns-then-not-holds
returns-then-not-holds c = λ r b i. sym (no-tool _ _ _ _ _ _ _ (sym c.holds.ensures ∙ c.if-not-holds.true))

pub returns-then-room-h : goal.returns-then-room-h
returns-then-room-h c = λ r b i. sym (no_room _ _ _ _ _ _ _ (sym c.holds.ensures ∙ c.if-not-holds.false) c.if-room-h.true)
