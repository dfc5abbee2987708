use mathlib.Core.Path.{sym, ◌∙◌}
use Rattle.store_notes.proofs.Matched.{sane-noted}
use Rattle.store_moves.proofs.Calling.{next-off, next-on}
use Rattle.store_moves.proofs.calls.next.Goals as goal

pub returns-then-not-sane : goal.returns-then-not-sane
returns-then-not-sane c =
    let a = c.args in
    next-off a.block.now a.table.now c.size_of-size.ensures c.sane.ensures (c.if-not-sane.true)

pub hop_in-requires : goal.hop_in-requires
hop_in-requires c = (sane-noted _ _ (sym c.sane.ensures ∙ c.if-not-sane.false)).order

pub returns : goal.returns
returns c =
    let a = c.args in
    next-on a.block.now a.table.now c.size_of-size.ensures c.sane.ensures (c.if-not-sane.false)
    c.hop_in.ensures
