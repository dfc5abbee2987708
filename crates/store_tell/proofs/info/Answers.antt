-- NUMBER and ABSENT are a get's; where it finds the greeting, its place is looked up once more.
use mathlib.Core.Path.{◌≡◌, sym, ◌∙◌}
use mathlib.Core.Bool.{true, false}
use native.Mathlib.Omega.{arith}
use Rattle.std.proofs.lemmas.Result.{err_from_is_err_and}
use Rattle.rules.proofs.Judged.{AllMet}
use Rattle.store.specs.Calls.{find_order}
use Rattle.store_rows.specs.Limits.{size_of}
use Rattle.store_rows.specs.Finding.{find_from}
use Rattle.store_rows.specs.Cells.{rows_of}
use Rattle.store_rows.proofs.Finding.{place-some, place-none}
use Rattle.store_notes.specs.Sane.{Noted}
use Rattle.store_notes.proofs.Matched.{sane-noted}
use Rattle.store_tell.proofs.Telling.{info-refused, info-met, info-within, info-found}
use Rattle.store_tell.proofs.info.Goals.{In_ok-get, In_ok-i}
use Rattle.store_tell.proofs.info.Goals as goal

-- the get found it: all that it asks is so
module _ (c : In_ok-get) where
  met : AllMet (find_order c.args.block.now c.args.table.now c.args.number)
  met = info-met c.args.block.now c.args.table.now c.args.number (sym c.in_ok-get.was ∙ c.get.ensures)

  noted : Noted (size_of c.args.block.now) c.args.table.now
  noted = sane-noted (size_of c.args.block.now) c.args.table.now met.0

pub bounds-table-0 : goal.bounds-table-0
bounds-table-0 c = omega (arith, (noted (goal.at.bounds-table-0 c).In_ok-get).order.cells)

pub find-requires : goal.find-requires
find-requires c =
    let n = (noted (goal.at.find-requires c).In_ok-get).order in
    (n.few, n.cells)

-- its place
place : (c : In_ok-i) → c.in_ok-i.i ≡ find_from c.args.number 0 (rows_of c.args.table.now)
place c = (place-some c.args.number (rows_of c.args.table.now) (sym c.find.ensures ∙ c.in_ok-i.ensures.ok_part)).1

pub tell-requires : goal.tell-requires
tell-requires c =
    let k = (goal.at.tell-requires c).In_ok-get in
    let n = noted k in
    let a = c.args in (
      info-within a.block.now a.table.now a.number (met k) (place (goal.at.tell-requires c).In_ok-i),
      n.order.few,
      n.count,
      omega (arith, n.cells),
    )

pub returns-in_err-get : goal.returns-in_err-get
returns-in_err-get c =
    let a = c.args in
    let p = err_from_is_err_and c.from_residual.result c.from_residual.ensures.1 in
    rw (p.1, p.2) (info-refused a.block.now a.table.now a.number (sym c.in_err-get.was ∙ c.get.ensures))

-- which the get has ruled out
pub returns-in_err-i : goal.returns-in_err-i
returns-in_err-i c =
    let m = met (goal.at.returns-in_err-i c).In_ok-get in
    let none = place-none c.args.number (rows_of c.args.table.now) (sym c.find.ensures ∙ c.in_err-i.ensures.ok_part) in
    let never : true ≡ false = sym none ∙ m.1.1.0 in
    cc

pub returns : goal.returns
returns c =
    let a = c.args in
    info-found a.block.now a.table.now a.number (met (goal.at.returns c).In_ok-get) (place (goal.at.returns c).In_ok-i) c.tell.ensures
