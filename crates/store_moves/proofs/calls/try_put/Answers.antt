use mathlib.Core.Path.{sym, ◌∙◌}
use native.Mathlib.Omega.{arith}
use Rattle.store_notes.proofs.Matched.{sane-noted}
use Rattle.store_moves.proofs.Calling.{try-off, try-on}
use Rattle.store_moves.proofs.calls.try_put.Goals as goal

pub returns-then-not-sane : goal.returns-then-not-sane
returns-then-not-sane c =
    let a = c.args in
    try-off a.block.now a.table.now c.size_of-size.ensures c.sane.ensures a.law a.number a.octets.now
    (c.if-not-sane.true)

pub tried_in-requires : goal.tried_in-requires
tried_in-requires c =
    (sane-noted _ _ (sym c.sane.ensures ∙ c.if-not-sane.false), omega (arith, c.size_of-size.ensures))

pub returns : goal.returns
returns c =
    let a = c.args in
    try-on a.block.now a.table.now c.size_of-size.ensures c.sane.ensures a.law a.number a.octets.now
    (c.if-not-sane.false) (c.tried_in.ensures)
