use mathlib.Core.Path.{sym, ◌∙◌}
use native.Mathlib.Omega.{arith}
use lib.ListN.{get_or}
use Rattle.store_rows.proofs.Cells.{length-rows}
use Rattle.store_rows.proofs.Finding.{place-some, place-none}
use Rattle.store_jump.proofs.Steps.{among-none, among-absent, among-found}
use Rattle.store_jump.proofs.jumping.among.Goals as goal

pub returns-then-not-is_number : goal.returns-then-not-is_number
returns-then-not-is_number c =
    let s = c.args in
    among-none s.block.now s.table.now s.number s.sample (sym c.is_number.ensures ∙ c.if-not-is_number.true)

pub at_row-requires : goal.at_row-requires
at_row-requires c =
    let p = c.requires in
    let found = place-some c.args.number _ (sym c.find.ensures ∙ c.in-Some.is) in
    (p.0, p.1, p.2, omega (arith, found.2, length-rows c.args.table.now (get_or c.args.table.now 0 0) 1))

pub returns-in-None : goal.returns-in-None
returns-in-None c =
    let s = c.args in
    among-absent s.block.now s.table.now s.number s.sample (sym c.is_number.ensures ∙ c.if-not-is_number.false)
    (place-none s.number _ (sym c.find.ensures ∙ c.in-None.is))

pub returns-in-Some : goal.returns-in-Some
returns-in-Some c =
    let s = c.args in
    let found = place-some s.number _ (sym c.find.ensures ∙ c.in-Some.is) in
    among-found s.block.now s.table.now s.number s.sample (sym c.is_number.ensures ∙ c.if-not-is_number.false)
    found.0 found.1 c.at_row.ensures
