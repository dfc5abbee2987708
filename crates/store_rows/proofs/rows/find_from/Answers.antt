use Prim.Native.Nat.{ℕ, ◌+◌, ◌<◌}
use mathlib.Core.Path.{◌≡◌, sym, ap, ◌∙◌}
use native.Mathlib.Omega.{arith}
use lib.Dec.{eqb}
use lib.ListN.{length}
use Rattle.std.proofs.Common.{Some, inl, rules, tests}
use Rattle.std.proofs.lemmas.Iterator.Consumers.{YieldsList-from_first}
use Rattle.std.proofs.lemmas.Iterator.Search.{position_from_yields_List}
use Rattle.std.specs.List.{position}
use Rattle.store_rows.specs.declared.rows.Row.{Row}
use Rattle.store_rows.specs.Cells.{rows_in}
use Rattle.store_rows.specs.Finding.{find_from}
use Rattle.store_rows.proofs.Coming.{rows_in-behind}
use Rattle.store_rows.proofs.Left.{left, left-count}
use Rattle.store_rows.proofs.Finding.{place-on, place-past}
use Rattle.store_rows.proofs.rows.find_from.Goals.{After-position}
use Rattle.store_rows.proofs.rows.find_from.Goals as goal

pub position-requires-clause-fits : goal.position-requires-clause-fits
position-requires-clause-fits c =
    let s = c.args in
    let count = ap length (rows_in-behind s.table.now s.n s.from (omega arith) (omega arith)) in
    inl (omega (arith, count, left-count s.table.now s.n s.from (omega arith)))

-- what the search over the rows behind told
told : (c : After-position)
    → c.position.result ≡ position (λ (r : Row). eqb r.number c.args.number) (left c.args.table.now c.args.n c.args.from)
told c =
    let s = c.args in
    position_from_yields_List (λ r. eqb r.number s.number) c.position.new.self _ _ c.position.ensures.ran
    (YieldsList-from_first (λ r. r) (λ s. rows_in s.cells.now) _ (rows_in-behind s.table.now s.n s.from (omega arith) (omega arith)))
    (λ x b q k. search (rules, tests))

pub returns-in_err-k : goal.returns-in_err-k
returns-in_err-k c =
    let s = c.args in
    let past = place-past s.number s.from s.n (left s.table.now s.n s.from) (left-count s.table.now s.n s.from (omega arith))
    (sym c.in_err-k.was ∙ told (goal.at.returns-in_err-k c).After-position) in
    rw c.from_residual.ensures (past, tt)

-- where it found one
found : (c : After-position) {k : ℕ} → c.position.result ≡ Some k
    → (c.args.from + k ≡ find_from c.args.number c.args.from (left c.args.table.now c.args.n c.args.from)) × (c.args.from + k < c.args.n)
found c e =
    let s = c.args in
    place-on s.number s.from s.n (left s.table.now s.n s.from) (left-count s.table.now s.n s.from (omega arith)) (sym e ∙ told c)

pub overflow_add-result : goal.overflow_add-result
overflow_add-result c = omega (arith, (found (goal.at.overflow_add-result c).After-position c.in_ok-k.was).1)

pub returns : goal.returns
returns c = found (goal.at.returns c).After-position c.in_ok-k.was
