-- TABLE, LAW, then the number, then what follows (Called).
use mathlib.Core.Path.{◌≡◌, sym, ◌∙◌}
use mathlib.Core.Bool.{true}
use native.Mathlib.Omega.{arith}
use Rattle.std.proofs.lemmas.Result.{err_from_is_err_and}
use Rattle.store_notes.proofs.Matched.{sane-noted}
use Rattle.store.proofs.Looks.{look-told, at_most}
use Rattle.store.proofs.Called.{put-table, put-law, put-stop, put-goes-on}
use Rattle.store.proofs.put.Goals.{Else-not-sane}
use Rattle.store.proofs.put.Goals as goal

pub returns-then-not-sane : goal.returns-then-not-sane
returns-then-not-sane c =
    let a = c.args in
    put-table a.block.now a.table.now c.size_of-size.ensures c.sane.ensures (c.if-not-sane.true)
    a.law a.number
    a.octets.now

-- the table is sane
module _ (c : Else-not-sane) where
  passed : c.sane.result ≡ true
  passed = c.if-not-sane.false

pub returns-then-law-gt-MOST_LAW : goal.returns-then-law-gt-MOST_LAW
returns-then-law-gt-MOST_LAW c =
    let a = c.args in
    put-law a.block.now a.table.now c.size_of-size.ensures c.sane.ensures (passed (goal.at.returns-then-law-gt-MOST_LAW c).Else-not-sane) a.law a.number
    a.octets.now (omega arith)

pub judge-requires : goal.judge-requires
judge-requires c = sane-noted _ _ (sym c.sane.ensures ∙ passed (goal.at.judge-requires c).Else-not-sane)

pub put_among-requires : goal.put_among-requires
put_among-requires c =
    let size = c.size_of-size.ensures in
    let k = look-told _ _ _ (sym c.sane.ensures ∙ passed (goal.at.put_among-requires c).Else-not-sane)
    (sym c.in_ok-n.was ∙ c.judge.ensures) in
    record { looked = k; size_in_bounds = (omega (arith, size), omega (arith, size), omega arith, at_most _ _ _ k) }

pub returns-in_err-n : goal.returns-in_err-n
returns-in_err-n c =
    let a = c.args in
    let p = err_from_is_err_and c.from_residual.result c.from_residual.ensures.1 in
    rw (p.1, p.2)
    (put-stop a.block.now a.table.now c.size_of-size.ensures c.sane.ensures (passed (goal.at.returns-in_err-n c).Else-not-sane) a.law a.number
    a.octets.now (omega arith) (sym c.in_err-n.was ∙ c.judge.ensures))

pub returns : goal.returns
returns c =
    let a = c.args in
    put-goes-on a.block.now a.table.now c.size_of-size.ensures c.sane.ensures (passed (goal.at.returns c).Else-not-sane) a.law a.number
    a.octets.now c.put_among.ensures
