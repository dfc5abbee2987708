use Prim.Native.Nat.{ℕ, ◌+◌}
use mathlib.Core.Path.{◌≡◌, sym, ap, ◌∙◌}
use native.Mathlib.Omega.{arith}
use lib.ListN.{length, get_or}
use mathlib.Core.List.{List, [], ◌∷◌}
use mathlib.Core.Bool.{true}
use Rattle.std.proofs.Common.{Some}
use Rattle.store_rows.specs.declared.rows.Row.{Row}
use Rattle.store_rows.specs.Cells.{rows_in, rows_of, rows_at}
use Rattle.store_rows.specs.Finding.{gap_from, lowest_gap}
use Rattle.store_rows.specs.Sane.{rising}
use Rattle.store_rows.proofs.Cells.{length-rows}
use Rattle.store_rows.proofs.Rising.{Next, rising-head}
use Rattle.store_rows.proofs.Finding.{gap-end, gap-none, gap_here, gap-turn}
use Rattle.store_rows.proofs.rows.lowest_gap.Goals.{In-Some, In-None}
use Rattle.store_rows.proofs.rows.lowest_gap.Goals as goal

pub loop-i-init : goal.loop-i-init
loop-i-init c =
    let e = c.requires.0 in
    let all : rows_in c.into_iter-i-iterator.result.iter.cells.now ≡ rows_of c.args.table.now =
    rw (c.into_iter-i-iterator.ensures.into_iter_gives, c.enumerate-i-items.ensures.source)
    (c.greetings.ensures ∙ ap (λ (k : ℕ). rows_at c.args.table.now k 1) e)
    in
    let z : c.into_iter-i-iterator.result.count ≡ 0 = rw c.into_iter-i-iterator.ensures.into_iter_gives c.enumerate-i-items.ensures.count in
    record {
      gap = rw (all, z);
      rises = rw all c.requires.1.rises;
      inside = omega arith;
      all = rw (all, z) (omega (arith, length-rows c.args.table.now (get_or c.args.table.now 0 0) 1, e));
    }

-- the row that came, and those behind it
module _ (c : In-Some) where
  next : Next 1 c.loop-i.at c.args.size c.in-Some.r
      × (rising 1 (c.in-Some.r.start + c.in-Some.r.octets) c.args.size (rows_in c.next.new.self.iter.cells.now) ≡ true)
  next =
      rising-head 1 c.loop-i.at c.args.size c.in-Some.r _
      (sym (ap (λ (x : List Row). rising 1 c.loop-i.at c.args.size x) c.in-Some.ensures.steps.0) ∙ c.loop-i.invariant.rises)

  gap : lowest_gap c.args.want c.args.size (rows_of c.args.table.now)
      ≡ gap_from c.args.want c.args.size c.loop-i.at c.loop-i.i-iterator.count (c.in-Some.r ∷ rows_in c.next.new.self.iter.cells.now)
  gap =
      c.loop-i.invariant.gap
      ∙ ap (λ (x : List Row). gap_from c.args.want c.args.size c.loop-i.at c.loop-i.i-iterator.count x) c.in-Some.ensures.steps.0

pub overflow_add-at : goal.overflow_add-at
overflow_add-at c = omega (arith, c.loop-i.invariant.inside)

pub overflow_add-at-in-loop-i : goal.overflow_add-at-in-loop-i
overflow_add-at-in-loop-i c = omega (arith, (next (goal.at.overflow_add-at-in-loop-i c).In-Some).0.inside)

pub loop-i-preserved : goal.loop-i-preserved
loop-i-preserved c =
    let k = (goal.at.loop-i-preserved c).In-Some in
    let s = c.args in
    let n = next k in
    let e = c.in-Some.ensures.steps in
    record {
      gap =
          gap k ∙ gap-turn s.want s.size c.loop-i.at c.loop-i.i-iterator.count c.in-Some.r _ (omega arith)
          ∙ ap (λ (x : ℕ). gap_from s.want s.size (c.in-Some.r.start + c.in-Some.r.octets) x (rows_in c.next.new.self.iter.cells.now)) (omega (arith, e));
      rises = n.1;
      inside = n.0.inside;
      all = omega (arith, c.loop-i.invariant.all, ap length e.0, e);
    }

pub returns-then-at-want : goal.returns-then-at-want
returns-then-at-want c =
    let k = (goal.at.returns-then-at-want c).In-Some in
    let s = c.args in
    ap (λ (x : ℕ). Some (x, c.loop-i.at)) (omega (arith, c.in-Some.ensures.steps))
    ∙ gap_here s.want s.size c.loop-i.at c.loop-i.i-iterator.count c.in-Some.r _ (omega arith) ∙ sym (gap k)

-- no row is left
module _ (c : In-None) where
  last : lowest_gap c.args.want c.args.size (rows_of c.args.table.now)
      ≡ gap_from c.args.want c.args.size c.loop-i.at c.loop-i.i-iterator.count []
  last =
      c.loop-i.invariant.gap
      ∙ ap (λ (x : List Row). gap_from c.args.want c.args.size c.loop-i.at c.loop-i.i-iterator.count x) c.in-None.ensures.steps.0.0

pub overflow_add-at-2 : goal.overflow_add-at-2
overflow_add-at-2 c = omega (arith, c.loop-i.invariant.inside)

pub returns-then-at-want-2 : goal.returns-then-at-want-2
returns-then-at-want-2 c =
    let s = c.args in
    let e = c.in-None.ensures.steps in
    gap-end s.want s.size c.loop-i.at c.loop-i.i-iterator.count (omega (arith, c.loop-i.invariant.all, ap length e.0.0)) (omega arith)
    ∙ sym (last (goal.at.returns-then-at-want-2 c).In-None)

pub returns-else-at-want-2 : goal.returns-else-at-want-2
returns-else-at-want-2 c =
    let s = c.args in
    gap-none s.want s.size c.loop-i.at c.loop-i.i-iterator.count (omega arith) ∙ sym (last (goal.at.returns-else-at-want-2 c).In-None)
