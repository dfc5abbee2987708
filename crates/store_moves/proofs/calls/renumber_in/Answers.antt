use Prim.Native.Nat.{ℕ, ◌<◌}
use mathlib.Core.Path.{◌≡◌, refl, sym, ap, ◌∙◌}
use mathlib.Core.Bool.{true, false}
use native.Mathlib.Omega.{arith}
use lib.ListN.{get_or}
use Rattle.store_rows.specs.Limits.{is_number}
use Rattle.store_rows.specs.Finding.{absent, find_from}
use Rattle.store_rows.specs.Cells.{rows_of, laid}
use Rattle.store_rows.proofs.Cells.{length-rows}
use Rattle.store_rows.proofs.Finding.{place-some, place-none}
use Rattle.store_moves.specs.Next.{renumbered_at}
use Rattle.store_moves.proofs.Calling.{find-held, find-free, number-told, denied, made}
use Rattle.store_moves.proofs.Calling.{renumber-first, renumber-second, renumber-absent, renumber-taken, renumber-made}
use Rattle.store_moves.proofs.calls.renumber_in.Goals.{then-not-is_number-via-then-not-is_number}
use Rattle.store_moves.proofs.calls.renumber_in.Goals.{then-not-is_number-via-else-not-is_number+then-not-is_number-2}
use Rattle.store_moves.proofs.calls.renumber_in.Goals.{Else-not-is_number-2, In-Some}
use Rattle.store_moves.proofs.calls.renumber_in.Goals as goal

pub returns-then-not-is_number : goal.returns-then-not-is_number
returns-then-not-is_number c =
    let a = c.args in
    let rows = rows_of a.table.now in
    elim c.then-not-is_number.branch [
      | then-not-is_number-via-then-not-is_number w ↦
          denied a.table.now (renumber-first rows a.x a.to (sym c.is_number.ensures ∙ w.if-not-is_number.true))
      | then-not-is_number-via-else-not-is_number+then-not-is_number-2 w ↦
          denied a.table.now (renumber-second rows a.x a.to (sym c.is_number.ensures ∙ w.if-not-is_number.false)
          (sym w.is_number-else-not-is_number.ensures ∙ w.if-not-is_number-2.true))
    ]

-- both numbers are
module _ (c : Else-not-is_number-2) where
  numbered : is_number c.args.x ≡ true
  numbered = sym c.is_number.ensures ∙ c.if-not-is_number.false

  second : is_number c.args.to ≡ true
  second = sym c.is_number-else-not-is_number.ensures ∙ c.if-not-is_number-2.false

pub returns-in-None : goal.returns-in-None
returns-in-None c =
    let a = c.args in
    let k = (goal.at.returns-in-None c).Else-not-is_number-2 in
    denied a.table.now (renumber-absent (rows_of a.table.now) a.x a.to (numbered k) (second k)
    (place-none a.x _ (sym c.find.ensures ∙ c.in-None.is)))

-- the greeting was found
module _ (c : In-Some) where
  found : (absent c.args.x (rows_of c.args.table.now) ≡ false) × (c.in-Some.i ≡ find_from c.args.x 0 (rows_of c.args.table.now))
      × (c.in-Some.i < get_or c.args.table.now 0 0)
  found =
      let p = place-some c.args.x _ (sym c.find.ensures ∙ c.in-Some.is) in
      (p.0, p.1, omega (arith, p.2, length-rows c.args.table.now (get_or c.args.table.now 0 0) 1))

pub returns-then-is_some : goal.returns-then-is_some
returns-then-is_some c =
    let a = c.args in
    let k = (goal.at.returns-then-is_some c).Else-not-is_number-2 in
    denied a.table.now (renumber-taken (rows_of a.table.now) a.x a.to (numbered k) (second k)
    (found (goal.at.returns-then-is_some c).In-Some).0
    (find-held a.table.now a.to c.find-in-Some.ensures c.is_some.ensures c.if-is_some.true))

pub overflow_mul-table : goal.overflow_mul-table
overflow_mul-table c = let o = c.requires.order in omega (arith, o.few, (found (goal.at.overflow_mul-table c).In-Some).2)

pub overflow_add-table : goal.overflow_add-table
overflow_add-table c = let o = c.requires.order in omega (arith, o.few, (found (goal.at.overflow_add-table c).In-Some).2)

pub offset_bounds-table-i : goal.offset_bounds-table-i
offset_bounds-table-i c = let o = c.requires.order in omega (arith, o.few, (found (goal.at.offset_bounds-table-i c).In-Some).2)

pub bounds-table-i : goal.bounds-table-i
bounds-table-i c = let o = c.requires.order in omega (arith, o.few, o.cells, (found (goal.at.bounds-table-i c).In-Some).2)

pub returns-else-is_some : goal.returns-else-is_some
returns-else-is_some c =
    let a = c.args in
    let t = a.table.now in
    let o = c.requires.order in
    let k = (goal.at.returns-else-is_some c).Else-not-is_number-2 in
    let f = found (goal.at.returns-else-is_some c).In-Some in
    made t (renumber-made (rows_of t) a.x a.to (numbered k) (second k) f.0
    (find-free t a.to c.find-in-Some.ensures c.is_some.ensures c.if-is_some.false))
    (number-told t (get_or t 0 0) c.in-Some.i refl (omega (arith, o.few, o.cells)) f.2 a.to
    ∙ ap (λ (k : ℕ). laid (renumbered_at k a.to (rows_of t)) t) f.1)
