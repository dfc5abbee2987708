-- The greeting's row, then its note (Fitted).
use Prim.Native.Nat.{◌+◌, ◌≤◌}
use mathlib.Core.Path.{◌≡◌, sym, ◌∙◌}
use native.Mathlib.Omega.{arith}
use lib.ListN.{length}
use Rattle.std.proofs.Common.{Some}
use Rattle.store_rows.specs.Finding.{lowest_gap}
use Rattle.store_rows.specs.Cells.{rows_of}
use Rattle.store_notes.proofs.Taken.{heard-few}
use Rattle.store.proofs.Fitted.{closed-count, gap-told, gap-asks, behind-asks, fit-gap, fit-behind}
use Rattle.store.proofs.fit.Goals.{In-Some}
use Rattle.store.proofs.fit.Goals as goal

-- a gap was found
module _ (c : In-Some) where
  found : Some (c.in-Some.i, c.in-Some.at) ≡ lowest_gap (length c.args.octets.now) c.args.sought.size
      (rows_of c.args.table.now)
  found = rw c.in-Some.is at c.lowest_gap.ensures

  told : (c.in-Some.i ≤ c.args.sought.n) × (c.in-Some.at + length c.args.octets.now ≤ c.args.sought.size)
  told = gap-told c.args.table.now c.args.sought.size c.args.sought.number c.args.octets.now c.requires.noted.0 c.requires.n_value.0 found

pub place-requires : goal.place-requires
place-requires c =
    let p = c.requires in
    let g = told (goal.at.place-requires c).In-Some in
    record {
      n_value = (p.n_value.0, p.n_value.1, g.0, p.noted.0.order.cells, p.n_value.2);
      octets_in_bounds = (omega (arith, g.1, p.n_value.3), omega (arith, g.1, p.n_value.4));
    }

pub put_taken-requires : goal.put_taken-requires
put_taken-requires c =
    let a = c.args in
    let p = c.requires in
    let q = p.noted in
    let r = p.taken in
    let k = gap-asks a.table.now a.sought.size a.sought.number a.octets.now q.0 p.n_value.0 p.n_value.4 p.n_value.1 (omega (arith, q.1, q.2))
    (heard-few r.heard) (found (goal.at.put_taken-requires c).In-Some) c.place.ensures.1 c.place.auto.table
    in
    (record { count = k.count; few = p.n_value.1; among = (told (goal.at.put_taken-requires c).In-Some).0; room = k.room }, r)

pub place-requires-in-None : goal.place-requires-in-None
place-requires-in-None c =
    let up = c.close_up-moved in
    let a = c.args in
    let p = c.requires in
    let q = p.noted in
    let n = closed-count a.block.now a.table.now a.sought.number a.octets.now up.ensures p.n_value.0 in
    record {
      n_value = (n, p.n_value.1, omega arith, omega (arith, q.0.order.cells, up.auto.table), p.n_value.2);
      octets_in_bounds = (omega (arith, q.2, p.n_value.3, up.auto.block), omega (arith, q.2, p.n_value.4));
    }

pub put_taken-requires-in-None : goal.put_taken-requires-in-None
put_taken-requires-in-None c =
    let up = c.close_up-moved in
    let a = c.args in
    let p = c.requires in
    let q = p.noted in
    let r = p.taken in
    let k = behind-asks a.table.now a.sought.size a.sought.number a.octets.now q.0 p.n_value.0 p.n_value.4 p.n_value.1
    (omega (arith, q.1, q.2)) (heard-few r.heard) a.behind up.ensures c.place-in-None.ensures.1
    (c.place-in-None.auto.table ∙ up.auto.table)
    in
    (record { count = k.count; few = p.n_value.1; among = omega arith; room = k.room }, r)

pub returns-in-Some : goal.returns-in-Some
returns-in-Some c =
    let a = c.args in
    let p = c.requires in
    fit-gap a.block.now a.table.now a.sought.size a.head.law a.sought.number a.octets.now (omega (arith, p.n_value.0, p.n_value.1))
    (found (goal.at.returns-in-Some c).In-Some) (omega (arith, (told (goal.at.returns-in-Some c).In-Some).0, p.n_value.0)) c.place.ensures.0 c.place.ensures.1
    c.put_taken.ensures

pub returns-in-None : goal.returns-in-None
returns-in-None c =
    let a = c.args in
    let p = c.requires in
    fit-behind a.block.now a.table.now a.sought.size a.head.law a.sought.number a.octets.now (omega (arith, p.n_value.0, p.n_value.1))
    (sym c.in-None.is ∙ c.lowest_gap.ensures) c.close_up-moved.ensures p.noted.1 p.n_value.0
    c.place-in-None.ensures.0 c.place-in-None.ensures.1 c.put_taken-in-None.ensures
