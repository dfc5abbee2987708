use mathlib.Core.Path.{sym, ◌∙◌}
use native.Mathlib.Omega.{arith}
use Rattle.store_rows.specs.Cells.{rows_of}
use Rattle.store_moves.proofs.Calling.{tells-gap, tells-behind}
use Rattle.store_moves.proofs.calls.place.Goals as goal

pub lowest_gap-requires : goal.lowest_gap-requires
lowest_gap-requires c =
    (c.requires.0, c.requires.1, omega (arith, c.requires.2), c.requires.3)

pub octets_moved-requires : goal.octets_moved-requires
octets_moved-requires c =
    (c.requires.0, c.requires.1, c.requires.2)

pub returns-in-Some : goal.returns-in-Some
returns-in-Some c =
    tells-gap (rows_of c.args.table.now) (sym c.in-Some.is ∙ c.lowest_gap.ensures)

pub returns-in-None : goal.returns-in-None
returns-in-None c =
    tells-behind (rows_of c.args.table.now) (sym c.in-None.is ∙ c.lowest_gap.ensures) c.requires.4
    c.octets_moved.ensures
