use mathlib.Core.Path.{sym, ◌∙◌}
use Rattle.tool_playback.specs.Kinds.{kind_of}
use Rattle.tool_playback.proofs.kinds.kind_of.Goals as goal

pub returns-in-Some : goal.returns-in-Some
unfolding kind_of
returns-in-Some c = rw (sym c.in-Some.ensures)

pub returns-in-None : goal.returns-in-None
unfolding kind_of
returns-in-None c = rw (sym c.in-None.ensures, sym c.has_word.ensures ∙ c.if-has_word.true)

pub returns-in-None-2 : goal.returns-in-None-2
unfolding kind_of
returns-in-None-2 c = rw (sym c.in-None-2.ensures, sym c.has_word.ensures ∙ c.if-has_word.false)
