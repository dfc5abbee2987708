use Prim.Native.Nat.{ℕ, ◌≤◌, ◌<◌}
use mathlib.Core.Path.{◌≡◌, sym, ap, ◌∙◌, refl}
use mathlib.Core.Bool.{true, false}
use mathlib.Core.List.{List}
use native.Mathlib.Omega.{arith}
use lib.ListN.{length, get_or}
use Rattle.store_rows.specs.declared.rows.Row.{Row}
use Rattle.store_rows.specs.Limits.{is_number}
use Rattle.store_rows.specs.Rows.{held}
use Rattle.store_rows.specs.Finding.{absent}
use Rattle.store_rows.specs.Cells.{rows_at, rows_of}
use Rattle.store_rows.specs.Changed.{nth}
use Rattle.std.proofs.Common.{Some}
use Rattle.store_moves.specs.Next.{next_of}
use Rattle.store_rows.proofs.Judged.{row_next}
use Rattle.store_moves.proofs.Calling.{find-is, next-is, within-goes, nth-row, start-told, denied, is-not-next, made}
use Rattle.store_moves.proofs.Calling.{moved-number, moved-absent, moved-closed, moved_other, moved-elsewhere, moved-there}
use Rattle.store_moves.proofs.calls.moved_in.Goals.{Else-not-is_number, After-next_move, In-Some, After-row_at-r}
use Rattle.store_moves.proofs.calls.moved_in.Goals as goal

pub returns-then-not-is_number : goal.returns-then-not-is_number
returns-then-not-is_number c =
    let a = c.args in
    denied a.table.now (moved-number (rows_of a.table.now) a.x a.to (sym c.is_number.ensures ∙ c.if-not-is_number.true))

-- the number is one
module _ (c : Else-not-is_number) where
  numbered : is_number c.args.x ≡ true
  numbered = sym c.is_number.ensures ∙ c.if-not-is_number.false

pub bounds-table-0 : goal.bounds-table-0
bounds-table-0 c = omega (arith, c.requires.0.order.cells)

pub find-requires : goal.find-requires
find-requires c =
    let o = c.requires.0.order in
    (o.few, o.cells)

pub returns-then-is_none : goal.returns-then-is_none
returns-then-is_none c =
    let a = c.args in
    denied a.table.now (moved-absent (rows_of a.table.now) a.x a.to (numbered (goal.at.returns-then-is_none c).Else-not-is_number)
    (find-is a.table.now a.x c.find.ensures c.is_none.ensures c.if-is_none.true))

pub next_move-requires : goal.next_move-requires
next_move-requires c =
    let o = c.requires.0.order in
    (o.few, o.cells)

-- the next move was looked for
module _ (c : After-next_move) where
  abbrev table : List ℕ
  table = c.args.table.now

pub returns-in-None : goal.returns-in-None
returns-in-None c =
    let a = c.args in
    is-not-next a.table.now (moved-closed (rows_of a.table.now) a.x a.to (numbered (goal.at.returns-in-None c).Else-not-is_number)
    (find-is a.table.now a.x c.find.ensures c.is_none.ensures c.if-is_none.false)
    (next-is a.table.now refl c.in-None.is c.next_move.ensures.0))

-- it is one of the greetings
module _ (c : In-Some) where
  abbrev place : ℕ
  place = c.in-Some.i

  abbrev count : ℕ
  count = (get_or c.args.table.now 0 0)

  within : (place < count) × (c.in-Some.at ≡ held (rows_at (c.args.table.now) place 1))
  within = within-goes (c.args.table.now) count c.in-Some.is c.next_move.ensures.1

  few : count ≤ 32
  few = c.requires.0.order.few

  below : place < 32
  below = omega (arith, within.0, few)

  cells : 97 ≤ length (c.args.table.now)
  cells = c.requires.0.order.cells

pub overflow_mul-k : goal.overflow_mul-k
overflow_mul-k c = omega (arith, below c)

pub overflow_add-k : goal.overflow_add-k
overflow_add-k c = omega (arith, below c)

pub row_at-r-requires : goal.row_at-r-requires
row_at-r-requires c = omega (arith, below c, cells c)

-- and this is its row
module _ (c : After-row_at-r) where
  numbered' : is_number c.args.x ≡ true
  numbered' = sym c.is_number.ensures ∙ c.if-not-is_number.false

  abbrev place' : ℕ
  place' = c.in-Some.i

  abbrev count' : ℕ
  count' = (get_or c.args.table.now 0 0)

  within' : (place' < count') × (c.in-Some.at ≡ held (rows_at (c.args.table.now) place' 1))
  within' = within-goes (c.args.table.now) count' c.in-Some.is c.next_move.ensures.1

  few' : count' ≤ 32
  few' = c.requires.0.order.few

  cells' : 97 ≤ length (c.args.table.now)
  cells' = c.requires.0.order.cells

  row : nth (c.in-Some.i) (rows_of (c.args.table.now)) ≡ c.row_at-r.result
  row =
      nth-row (c.args.table.now) ((get_or c.args.table.now 0 0)) (c.in-Some.i) refl
      (omega (arith, few', cells')) within'.0 ∙ sym c.row_at-r.ensures.0

  named : (nth (c.in-Some.i) (rows_of (c.args.table.now))).number ≡ c.row_at-r.result.number
  named = ap (λ (y : Row). y.number) row

  has : absent c.args.x (rows_of (c.args.table.now)) ≡ false
  has =
      find-is c.args.table.now c.args.x c.find.ensures c.is_none.ensures c.if-is_none.false

  next : next_of (rows_of (c.args.table.now)) ≡ Some (c.in-Some.i, c.in-Some.at)
  next = next-is (c.args.table.now) refl c.in-Some.is c.next_move.ensures.0

  is : is_number c.args.x ≡ true
  is = numbered'

pub returns-then-r-x : goal.returns-then-r-x
returns-then-r-x c =
    let a = c.args in
    is-not-next a.table.now (moved_other (rows_of a.table.now) a.x a.to (is (goal.at.returns-then-r-x c).After-row_at-r)
    (has (goal.at.returns-then-r-x c).After-row_at-r) (next (goal.at.returns-then-r-x c).After-row_at-r)
    (λ e. c.if-r-x.true (sym (named (goal.at.returns-then-r-x c).After-row_at-r) ∙ e)))

pub returns-then-at-to : goal.returns-then-at-to
returns-then-at-to c =
    let a = c.args in
    is-not-next a.table.now (moved-elsewhere (rows_of a.table.now) a.x a.to (is (goal.at.returns-then-at-to c).After-row_at-r)
    (has (goal.at.returns-then-at-to c).After-row_at-r) (next (goal.at.returns-then-at-to c).After-row_at-r)
    (named (goal.at.returns-then-at-to c).After-row_at-r ∙ c.if-r-x.false) c.if-at-to.true)

pub overflow_cast-table : goal.overflow_cast-table
overflow_cast-table c =
    let n = row_next ((get_or c.args.table.now 0 0)) (c.in-Some.i) c.requires.0.order refl c.row_at-r.ensures.0
    (within (goal.at.overflow_cast-table c).In-Some).0 in
    omega (arith, n.above, n.inside, (within (goal.at.overflow_cast-table c).In-Some).1, c.requires.1)

pub overflow_add-table : goal.overflow_add-table
overflow_add-table c = omega (arith, below (goal.at.overflow_add-table c).In-Some)

pub offset_bounds-table-k : goal.offset_bounds-table-k
offset_bounds-table-k c = omega (arith, below (goal.at.offset_bounds-table-k c).In-Some)

pub bounds-table-k : goal.bounds-table-k
bounds-table-k c = omega (arith, below (goal.at.bounds-table-k c).In-Some, cells (goal.at.bounds-table-k c).In-Some)

pub returns-else-at-to : goal.returns-else-at-to
returns-else-at-to c =
    let a = c.args in
    made a.table.now (moved-there (rows_of a.table.now) a.x a.to (is (goal.at.returns-else-at-to c).After-row_at-r)
    (has (goal.at.returns-else-at-to c).After-row_at-r) (next (goal.at.returns-else-at-to c).After-row_at-r)
    (named (goal.at.returns-else-at-to c).After-row_at-r ∙ c.if-r-x.false) c.if-at-to.false)
    (start-told a.table.now ((get_or c.args.table.now 0 0)) (c.in-Some.i) refl
    (omega (arith, few (goal.at.returns-else-at-to c).In-Some, cells (goal.at.returns-else-at-to c).In-Some))
    (within (goal.at.returns-else-at-to c).In-Some).0
    c.in-Some.at)
