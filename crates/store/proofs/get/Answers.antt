-- TABLE, then the number, then its row, absent or found (Called).
use mathlib.Core.Path.{◌≡◌, sym, ◌∙◌}
use mathlib.Core.Bool.{true}
use native.Mathlib.Omega.{arith}
use Rattle.std.proofs.lemmas.Result.{err_from_is_err_and}
use Rattle.store_notes.proofs.Matched.{sane-noted}
use Rattle.store.specs.Looking.{Looked}
use Rattle.store.proofs.Looks.{look-told}
use Rattle.store.proofs.Called.{get-table, get-stop, get_absent, get-found}
use Rattle.store.proofs.get.Goals.{Else-not-sane, In_ok-n}
use Rattle.store.proofs.get.Goals as goal

pub returns-then-not-sane : goal.returns-then-not-sane
returns-then-not-sane c =
    let a = c.args in
    get-table a.block.now a.table.now c.size_of-size.ensures c.sane.ensures (c.if-not-sane.true)
    a.number

-- the table is sane
passed : (c : Else-not-sane) → c.sane.result ≡ true
passed c = c.if-not-sane.false

pub judge-requires : goal.judge-requires
judge-requires c = sane-noted _ _ (sym c.sane.ensures ∙ passed (goal.at.judge-requires c).Else-not-sane)

-- the number was looked for
module _ (c : In_ok-n) where
  looked : Looked c.size_of-size.result c.args.table.now c.args.number c.in_ok-n.n
      c.in_ok-n.i
  looked = look-told _ _ _ (sym c.sane.ensures ∙ (c.if-not-sane.false))
      (sym c.in_ok-n.was ∙ c.judge.ensures)

pub returns-then-n-i : goal.returns-then-n-i
returns-then-n-i c =
    let a = c.args in
    get_absent a.block.now a.table.now c.size_of-size.ensures c.sane.ensures (passed (goal.at.returns-then-n-i c).Else-not-sane) a.number
    (looked (goal.at.returns-then-n-i c).In_ok-n) (omega arith)

pub overflow_mul-i : goal.overflow_mul-i
overflow_mul-i c = let k = looked (goal.at.overflow_mul-i c).In_ok-n in omega (arith, k.count, k.noted.order.few)

pub overflow_add-i : goal.overflow_add-i
overflow_add-i c = let k = looked (goal.at.overflow_add-i c).In_ok-n in omega (arith, k.count, k.noted.order.few)

pub row_at-r-requires : goal.row_at-r-requires
row_at-r-requires c = let k = looked (goal.at.row_at-r-requires c).In_ok-n in omega (arith, k.count, k.noted.order.few, k.noted.order.cells)

pub returns-in_err-n : goal.returns-in_err-n
returns-in_err-n c =
    let a = c.args in
    let p = err_from_is_err_and c.from_residual.result c.from_residual.ensures.1 in
    rw (p.1, p.2)
    (get-stop a.block.now a.table.now c.size_of-size.ensures c.sane.ensures (passed (goal.at.returns-in_err-n c).Else-not-sane) a.number
    (sym c.in_err-n.was ∙ c.judge.ensures))

pub returns : goal.returns
returns c =
    let a = c.args in
    get-found a.block.now a.table.now c.size_of-size.ensures c.sane.ensures (passed (goal.at.returns c).Else-not-sane) a.number
    (looked (goal.at.returns c).In_ok-n) (omega arith) c.row_at-r.ensures.0
