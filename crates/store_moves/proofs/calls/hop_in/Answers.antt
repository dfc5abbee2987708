use Prim.Native.Nat.{◌<◌}
use mathlib.Core.Path.{◌∙◌, refl}
use native.Mathlib.Omega.{arith}
use Rattle.store_moves.proofs.Calling.{within-goes, hop-none, hop-next}
use Rattle.store_moves.proofs.calls.hop_in.Goals.{In-Some}
use Rattle.store_moves.proofs.calls.hop_in.Goals as goal

pub bounds-table-0 : goal.bounds-table-0
bounds-table-0 c = omega (arith, c.requires.cells)

pub next_move-requires : goal.next_move-requires
next_move-requires c =
    let o = c.requires in
    (o.few, o.cells)

-- it is one of the greetings
module _ (c : In-Some) where
  below : c.in-Some.i < 32
  below =
      let w = within-goes _ _ c.in-Some.is c.next_move.ensures.1 in
      omega (arith, w.0, c.requires.few)

pub overflow_mul-i : goal.overflow_mul-i
overflow_mul-i c = omega (arith, below c)

pub overflow_add-i : goal.overflow_add-i
overflow_add-i c = omega (arith, below c)

pub row_at-r-requires : goal.row_at-r-requires
row_at-r-requires c = omega (arith, below c, c.requires.cells)

pub returns-in-None : goal.returns-in-None
returns-in-None c =
    c.no_hop.ensures ∙ hop-none c.args.table.now refl c.in-None.is
    c.next_move.ensures.0

pub returns-in-Some : goal.returns-in-Some
returns-in-Some c =
    hop-next c.args.table.now refl c.in-Some.is c.next_move.ensures.0
    c.next_move.ensures.1 c.row_at-r.ensures.0
