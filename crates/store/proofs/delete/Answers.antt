-- TABLE, then the number, then its row and its note taken out (Called).
use Prim.Native.Nat.{◌≤◌}
use mathlib.Core.Path.{◌≡◌, sym, ◌∙◌}
use mathlib.Core.Bool.{true}
use native.Mathlib.Omega.{arith}
use Rattle.store_rows.specs.Limits.{largest_block}
use Rattle.std.proofs.lemmas.Result.{err_from_is_err_and}
use Rattle.store_notes.proofs.Matched.{sane-noted, room_for}
use Rattle.store_notes.proofs.Stored.{heads-kept, count_kept}
use Rattle.store.specs.Looking.{Looked}
use Rattle.store.proofs.Looks.{look-told}
use Rattle.store.proofs.Fitted.{rows-less}
use Rattle.store.proofs.Called.{delete-table, delete-stop, delete-absent, delete-found}
use Rattle.store.proofs.delete.Goals.{Else-not-sane, In_ok-n}
use Rattle.store.proofs.delete.Goals as goal

pub returns-then-not-sane : goal.returns-then-not-sane
returns-then-not-sane c =
    let a = c.args in
    delete-table a.block.now a.table.now c.size_of-size.ensures c.sane.ensures
    (c.if-not-sane.true) a.number

-- the table is sane
passed : (c : Else-not-sane) → c.sane.result ≡ true
passed c = c.if-not-sane.false

pub judge-requires : goal.judge-requires
judge-requires c = sane-noted _ _ (sym c.sane.ensures ∙ passed (goal.at.judge-requires c).Else-not-sane)

-- the number was looked for
module _ (c : In_ok-n) where
  looked : Looked c.size_of-size.result c.args.table.now c.args.number c.in_ok-n.n c.in_ok-n.i
  looked = look-told _ _ _ (sym c.sane.ensures ∙ (c.if-not-sane.false))
      (sym c.in_ok-n.was ∙ c.judge.ensures)

pub returns-then-n-i : goal.returns-then-n-i
returns-then-n-i c =
    let a = c.args in
    delete-absent a.block.now a.table.now c.size_of-size.ensures c.sane.ensures
    (passed (goal.at.returns-then-n-i c).Else-not-sane) a.number
    (looked (goal.at.returns-then-n-i c).In_ok-n) (omega arith)

pub remove-requires : goal.remove-requires
remove-requires c =
    let k = looked (goal.at.remove-requires c).In_ok-n in
    (k.count, omega (arith, k.count, k.noted.order.few), omega arith, k.noted.order.cells)

pub drop_note-requires : goal.drop_note-requires
drop_note-requires c =
    let k = looked (goal.at.drop_note-requires c).In_ok-n in
    let few = rows-less c.args.table.now c.in_ok-n.i k.noted.order.few in
    let gone = c.remove.ensures in
    let small : c.size_of-size.result ≤ largest_block = omega (arith, c.size_of-size.ensures) in
    record {
      n_value = (k.count ∙ sym k.noted.count ∙ sym (count_kept _ _ few gone), omega (arith, k.count, k.noted.order.few), omega arith);
      table_in_bounds = rw (heads-kept _ _ few gone) (omega (arith, room_for k.noted small, c.remove.auto.table));
    }

pub returns-in_err-n : goal.returns-in_err-n
returns-in_err-n c =
    let a = c.args in
    let p = err_from_is_err_and c.from_residual.result c.from_residual.ensures.1 in
    rw (p.1, p.2)
    (delete-stop a.block.now a.table.now c.size_of-size.ensures c.sane.ensures (passed (goal.at.returns-in_err-n c).Else-not-sane) a.number
    (sym c.in_err-n.was ∙ c.judge.ensures))

pub returns : goal.returns
returns c =
    let a = c.args in
    delete-found a.block.now a.table.now c.size_of-size.ensures c.sane.ensures (passed (goal.at.returns c).Else-not-sane) a.number
    (looked (goal.at.returns c).In_ok-n) (omega arith) c.remove.ensures c.drop_note.ensures
