-- R-6's lines, or R-8's (Loading).
use mathlib.Core.Path.{refl, sym, ◌∙◌}
use native.Mathlib.Omega.{arith}
use Rattle.store_text.specs.Table.{table_in}
use Rattle.store_text.proofs.Formed.{form-most}
use Rattle.store_save.proofs.Judging.{handed_on}
use Rattle.store_save.proofs.Holding.{held-stop}
use Rattle.store_save.proofs.Loading.{Early, rows_as, celled-early, early-ready, load-short, load-later, load-early}
use Rattle.store_save.proofs.load.Goals.{In-Some}
use Rattle.store_save.proofs.load.Goals as goal

-- the greetings of R-6's lines, in cells
module _ (c : In-Some) where
  early : Early c.args.block.now (table_in c.args.text.now) c.read_rows.new.cells c.in-Some.n
  early =
      celled-early c.args.block.now (table_in c.args.text.now)
      (rows_as {found = table_in c.args.text.now} c.in-Some.is c.read_rows.ensures)
      (omega (arith, c.read_rows.auto.cells))

pub returns-then-table-store_cells : goal.returns-then-table-store_cells
returns-then-table-store_cells c =
    let a = c.args in
    load-short a.text.now a.block.now a.table.now c.size_of-size.ensures c.store_cells.ensures
    (omega arith)

pub load_noted-requires : goal.load_noted-requires
load_noted-requires c = (
  form-most c.args.text.now c.form_of.ensures,
  c.size_of-size.ensures,
  omega (arith, c.store_cells.ensures),
)

pub returns-in_default : goal.returns-in_default
returns-in_default c =
    let a = c.args in
    load-later a.text.now a.block.now a.table.now c.size_of-size.ensures c.store_cells.ensures (omega arith)
    (rows_as {found = table_in a.text.now} c.in_default.is c.read_rows.ensures)
    c.form_of.ensures
    c.load_noted.ensures

pub judge_rows-requires : goal.judge_rows-requires
judge_rows-requires c = let e = (early (goal.at.judge_rows-requires c).In-Some).celled in (e.few, e.cells-room, e.laws-room)

pub returns-in_err-judge_rows : goal.returns-in_err-judge_rows
returns-in_err-judge_rows c =
    let a = c.args in
    let e = handed_on c.from_residual.result c.from_residual.ensures.1 in
    rw e
    (load-early a.text.now a.block.now a.table.now c.size_of-size.ensures c.store_cells.ensures (omega arith)
    (early (goal.at.returns-in_err-judge_rows c).In-Some) _ (sym (c.in_err-judge_rows.was) ∙ c.judge_rows.ensures)
    (held-stop _ _ _ _ _ refl))

pub hold-requires : goal.hold-requires
hold-requires c =
    early-ready c.args.block.now (early (goal.at.hold-requires c).In-Some) c.judge_rows.ensures c.size_of-size.ensures
    (omega (arith, c.store_cells.ensures)) (c.in_ok-judge_rows.was)

pub returns : goal.returns
returns c =
    let a = c.args in
    load-early a.text.now a.block.now a.table.now c.size_of-size.ensures c.store_cells.ensures (omega arith)
    (early (goal.at.returns c).In-Some) _ (sym (c.in_ok-judge_rows.was) ∙ c.judge_rows.ensures)
    (record { answer = refl; table = c.hold.ensures })
