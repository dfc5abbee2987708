use mathlib.Core.Path.{sym, ◌∙◌}
use native.Mathlib.Omega.{arith}
use Rattle.store_notes.proofs.Matched.{sane-noted}
use Rattle.store_jump.proofs.Steps.{jump-table, jump-on}
use Rattle.store_jump.proofs.jumping.jump.Goals as goal

pub returns-then-not-sane : goal.returns-then-not-sane
returns-then-not-sane c =
    let s = c.args in
    jump-table s.block.now s.table.now s.number s.sample c.size_of-size.ensures c.sane.ensures
    (c.if-not-sane.true)

pub among-requires : goal.among-requires
among-requires c =
    let size = c.size_of-size.ensures in
    (sane-noted _ _ (sym c.sane.ensures ∙ c.if-not-sane.false), omega (arith, size), omega (arith, size))

pub returns : goal.returns
returns c =
    let s = c.args in
    jump-on s.block.now s.table.now s.number s.sample c.size_of-size.ensures c.sane.ensures
    (c.if-not-sane.false) c.among.ensures
