use mathlib.Core.Path.{◌∙◌}
use native.Mathlib.Omega.{arith}
use Prim.Native.Nat.{◌≤◌}
use Rattle.std.proofs.Common.{rules, tests}
use Rattle.std.proofs.lemmas.Iterator.{YieldsList-from_map}
use Rattle.std.proofs.lemmas.Iterator.Consumers.{YieldsList-at, YieldsList-from_first, sum_by_from_yields_List, fits_by_from_yields_list}
use Rattle.store_rows.specs.declared.rows.Row.{Row}
use Rattle.store_rows.specs.Rows.{held}
use Rattle.store_rows.specs.Cells.{rows_in, rows_at}
use Rattle.store_rows.proofs.Rising.{rising-within}
use Rattle.store_rows.proofs.Finding.{held-sum}
use Rattle.store_rows.proofs.rows.held.Goals as goal

pub sum-requires-clause-fits : goal.sum-requires-clause-fits
sum-requires-clause-fits c =
    let rows = rows_at c.args.table.now c.args.n 1 in
    let h : held rows ≤ c.args.size = rw c.requires.0 (rising-within 1 c.args.size _ c.requires.1.rises) in
    fits_by_from_yields_list (λ (r : Row). r.octets) rows c.map.result _
    (YieldsList-from_map _ (λ (r : Row). r.octets)
    (YieldsList-at c.map.ensures.source (YieldsList-from_first (λ r. r) (λ s. rows_in s.cells.now) {s = c.greetings.result} rows c.greetings.ensures))
    c.map.ensures.closure (λ x r q k. search (rules, tests))) (omega (arith, held-sum rows, h))

pub returns : goal.returns
returns c =
    let rows = rows_at c.args.table.now c.args.n 1 in
    let h : held rows ≤ c.args.size = rw c.requires.0 (rising-within 1 c.args.size _ c.requires.1.rises) in
    let e = sum_by_from_yields_List (λ (r : Row). r.octets) rows c.map.result _ c.sum.ensures.ran
    (YieldsList-from_map _ (λ (r : Row). r.octets)
    (YieldsList-at c.map.ensures.source (YieldsList-from_first (λ r. r) (λ s. rows_in s.cells.now) {s = c.greetings.result} rows c.greetings.ensures))
    c.map.ensures.closure (λ x r q k. search (rules, tests)))
    ∙ held-sum rows
    in
    (rw (← c.requires.0) e, omega (arith, e, h))
