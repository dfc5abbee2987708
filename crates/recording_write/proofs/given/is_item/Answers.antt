use mathlib.Core.Path.{refl}
use borrow.Author.Tests.{eq-eqb, ne_eqb}
use Rattle.recording_write.proofs.given.is_item.Goals as goal

pub returns-then-n-eq0 : goal.returns-then-n-eq0
returns-then-n-eq0 c = rw (← c.length_in-n.ensures, eq-eqb c.length_in-n.result 0 c.if-n-eq0.true) refl

pub returns-else-n-eq0 : goal.returns-else-n-eq0
returns-else-n-eq0 c =
    let l = c.length_in-n in
    rw (← l.ensures, ne_eqb l.result 0 c.if-n-eq0.false) c.is_length.ensures
