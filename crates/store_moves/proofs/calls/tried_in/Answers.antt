use mathlib.Core.Path.{◌≡◌, sym, ◌∙◌, refl}
use mathlib.Core.Bool.{true}
use native.Mathlib.Omega.{arith}
use lib.ListN.{get_or}
use Rattle.store_rows.proofs.Cells.{length-rows}
use Rattle.store_rows.specs.Limits.{is_number}
use Rattle.store_rows.specs.Cells.{rows_of}
use Rattle.store_moves.proofs.Calling.{tried-law, tried-number, tried-taken, tried-bad, tried-full, tried-no-room, tried-fits}
use Rattle.store_moves.proofs.Calling.{find-held, find-free}
use Rattle.store_moves.proofs.calls.tried_in.Goals.{Else-not-is_number}
use Rattle.store_moves.proofs.calls.tried_in.Goals as goal

pub returns-then-law-gt-MOST_LAW : goal.returns-then-law-gt-MOST_LAW
returns-then-law-gt-MOST_LAW c =
    let a = c.args in
    tried-law a.size (rows_of a.table.now) a.law a.x a.octets.now (omega arith)

pub returns-then-not-is_number : goal.returns-then-not-is_number
returns-then-not-is_number c =
    let a = c.args in
    tried-number a.size (rows_of a.table.now) a.law a.x a.octets.now (omega arith)
    (sym c.is_number.ensures ∙ c.if-not-is_number.true)

-- the number is one
module _ (c : Else-not-is_number) where
  numbered : is_number c.args.x ≡ true
  numbered = sym c.is_number.ensures ∙ c.if-not-is_number.false

pub bounds-table-0 : goal.bounds-table-0
bounds-table-0 c = let o = c.requires.0.order in omega (arith, o.cells)

pub find-requires : goal.find-requires
find-requires c =
    let o = c.requires.0.order in
    (o.few, o.cells)

pub returns-then-is_some : goal.returns-then-is_some
returns-then-is_some c =
    let a = c.args in
    tried-taken a.size (rows_of a.table.now) a.law a.x a.octets.now (omega arith) (numbered (goal.at.returns-then-is_some c).Else-not-is_number)
    (find-held a.table.now a.x c.find.ensures c.is_some.ensures c.if-is_some.true)

pub returns-then-is_bad : goal.returns-then-is_bad
returns-then-is_bad c =
    let a = c.args in
    tried-bad a.size (rows_of a.table.now) a.law a.x a.octets.now (omega arith) (numbered (goal.at.returns-then-is_bad c).Else-not-is_number)
    (find-free a.table.now a.x c.find.ensures c.is_some.ensures c.if-is_some.false)
    (sym c.is_bad.ensures ∙ c.if-is_bad.true)

pub returns-then-n-ge-MOST_GREETINGS : goal.returns-then-n-ge-MOST_GREETINGS
returns-then-n-ge-MOST_GREETINGS c =
    let a = c.args in
    let l = length-rows a.table.now (get_or a.table.now 0 0) 1 in
    tried-full a.size (rows_of a.table.now) a.law a.x a.octets.now (omega arith) (numbered (goal.at.returns-then-n-ge-MOST_GREETINGS c).Else-not-is_number)
    (find-free a.table.now a.x c.find.ensures c.is_some.ensures c.if-is_some.false)
    (sym c.is_bad.ensures ∙ c.if-is_bad.false) (omega (arith, l))

pub held-behind-requires : goal.held-behind-requires
held-behind-requires c =
    (refl, c.requires.0.order, omega (arith, c.requires.1))

pub returns-then-size-behind : goal.returns-then-size-behind
returns-then-size-behind c =
    let a = c.args in
    let l = length-rows a.table.now (get_or a.table.now 0 0) 1 in
    tried-no-room a.size (rows_of a.table.now) a.law a.x a.octets.now (omega arith) (numbered (goal.at.returns-then-size-behind c).Else-not-is_number)
    (find-free a.table.now a.x c.find.ensures c.is_some.ensures c.if-is_some.false)
    (sym c.is_bad.ensures ∙ c.if-is_bad.false) (omega (arith, l))
    (omega (arith, c.held-behind.ensures))

pub place-requires : goal.place-requires
place-requires c =
    (refl, c.requires.0.order, c.requires.1, omega (arith, c.held-behind.ensures), c.held-behind.ensures.0)

pub returns : goal.returns
returns c =
    let a = c.args in
    let l = length-rows a.table.now (get_or a.table.now 0 0) 1 in
    tried-fits a.size (rows_of a.table.now) a.law a.x a.octets.now (omega arith) (numbered (goal.at.returns c).Else-not-is_number)
    (find-free a.table.now a.x c.find.ensures c.is_some.ensures c.if-is_some.false)
    (sym c.is_bad.ensures ∙ c.if-is_bad.false) (omega (arith, l))
    (omega (arith, c.held-behind.ensures)) c.place.ensures
