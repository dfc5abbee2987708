use Prim.Native.Nat.{ℕ, ◌+◌, ◌*◌, ◌^◌, ◌≤◌}
use mathlib.Core.Path.{◌≡◌, ap, ◌∙◌}
use mathlib.Core.List.{List}
use native.Mathlib.Omega.{arith}
use lib.ListN.{drop}
use lib.Seq.{get_or-drop}
use Rattle.std.proofs.Common.{rules, tests}
use Rattle.std.proofs.lemmas.Iterator.{YieldsList-from_map}
use Rattle.std.proofs.lemmas.Iterator.Consumers.{YieldsList-at, YieldsList-from_first, sum_by_from_yields_List, fits_by_from_yields_list}
use Rattle.rules.proofs.Lent.{from_on}
use Rattle.store_rows.specs.declared.rows.Row.{Row}
use Rattle.store_rows.specs.Rows.{held}
use Rattle.store_rows.specs.Cells.{rows_in, rows_at}
use Rattle.store_rows.proofs.Finding.{held-sum}
use Rattle.store_notes.proofs.Matched.{held_small}
use Rattle.store_notes.proofs.marks_before.Goals.{After-map}
use Rattle.store_notes.proofs.marks_before.Goals as goal

-- the second list's first rows
module _ (c : After-map) where
  abbrev rows : List Row
  rows = rows_at (drop 97 c.args.table.now) c.args.i 1

  come : rows_in c.greetings.result.cells.now ≡ rows
  come = c.greetings.ensures ∙ ap (λ (x : List ℕ). rows_at x c.args.i 1) (from_on c.args.table.now 97)

  small : held rows ≤ c.args.i * 2 ^ 32
  small =
      let t = c.args.table.now in
      held_small (drop 97 t) (λ j. let h = c.type_inv.table (97 + j) in omega (arith, h, get_or-drop 97 t j 0)) c.args.i 1

pub sum-requires-clause-fits : goal.sum-requires-clause-fits
sum-requires-clause-fits c =
    fits_by_from_yields_list (λ (r : Row). r.octets) (rows c) c.map.result _
    (YieldsList-from_map _ (λ (r : Row). r.octets)
    (YieldsList-at c.map.ensures.source (YieldsList-from_first (λ r. r) (λ s. rows_in s.cells.now) {s = c.greetings.result} (rows c) (come c)))
    c.map.ensures.closure (λ x r q k. search (rules, tests))) (omega (arith, held-sum (rows c), small c))

pub returns : goal.returns
returns c =
    let m = (goal.at.returns c).After-map in
    let e = sum_by_from_yields_List (λ (r : Row). r.octets) (rows m) c.map.result _ c.sum.ensures.ran
    (YieldsList-from_map _ (λ (r : Row). r.octets)
    (YieldsList-at c.map.ensures.source (YieldsList-from_first (λ r. r) (λ s. rows_in s.cells.now) {s = c.greetings.result} (rows m) (come m)))
    c.map.ensures.closure (λ x r q k. search (rules, tests)))
    ∙ held-sum (rows m)
    in
    (e, omega (arith, e, small m))
