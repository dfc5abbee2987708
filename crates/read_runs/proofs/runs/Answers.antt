-- Each turn reads the runs of one word, or one run that no word holds whole (Turn); the measure is the places left.
use Prim.Native.Nat.{ℕ, ◌+◌, ◌-◌}
use mathlib.Core.Path.{◌≡◌}
use native.Mathlib.Omega.{arith}
use Rattle.rules.specs.Bits.{bits_of}
use Rattle.rules.specs.Reading.{Read}
use Rattle.std.proofs.Common.{Ok}
use Rattle.read_bits.proofs.Told.{ReadAs, told, refused, handed_on}
use Rattle.read_runs.specs.declared.Stretch.{Stretch}
use Rattle.read_runs.specs.Flagged.{one_run}
use Rattle.read_runs.specs.Reached.{Filled}
use Rattle.read_runs.proofs.Marking.{marks-filled, marking-room}
use Rattle.read_runs.proofs.Turn.{filled_none, runs-filled, runs-refused, runs_closed, runs-turn, runs-ended}
use Rattle.read_runs.proofs.runs.Goals.{After-several-t, After-run}
use Rattle.read_runs.proofs.runs.Goals as goal

pub loop-run-init : goal.loop-run-init
loop-run-init c = filled_none _ _ _ _ _ c.fill.ensures (omega arith) (omega arith)

pub several-t-requires : goal.several-t-requires
several-t-requires c =
    let i = c.loop-run.invariant in
    (omega (arith, i), omega arith, omega arith, i.within, i.fuel, marking-room i.marking)

-- so much is filled once the runs of a word are read
module _ (c : After-several-t) where
  abbrev t : Stretch
  t = c.several-t.result

  reached : Filled (bits_of c.args.octets.now) c.args.at c.args.n c.args.s c.args.d c.args.common c.args.other
      c.fill.new.cells c.several-t.new.cells t.filled t.count t.place
  reached = c.several-t.ensures.goes.on c.loop-run.invariant

pub ended-requires : goal.ended-requires
ended-requires c =
    let f = reached (goal.at.ended-requires c).After-several-t in
    let r = rw c.in-Some.is at c.several-t.ensures.last in
    omega (arith, r.small)

pub loop-run-smaller-then-before-filled : goal.loop-run-smaller-then-before-filled
loop-run-smaller-then-before-filled c = let f = reached (goal.at.loop-run-smaller-then-before-filled c).After-several-t in omega arith

pub loop-run-preserved-then-before-filled : goal.loop-run-preserved-then-before-filled
loop-run-preserved-then-before-filled c = reached (goal.at.loop-run-preserved-then-before-filled c).After-several-t

pub overflow_sub-left : goal.overflow_sub-left
overflow_sub-left c = (reached (goal.at.overflow_sub-left c).After-several-t).within

pub run-requires : goal.run-requires
run-requires c = let f = reached (goal.at.run-requires c).After-several-t in omega arith

-- and the run that no word holds whole
module _ (c : After-run) where
  abbrev t' : Stretch
  t' = c.several-t.result

  abbrev left : ℕ
  left = c.args.d - t'.filled

  abbrev found : Read ℕ
  found = one_run c.args.n c.args.s left (bits_of c.args.octets.now) t'.place

  one : {p : ℕ × ℕ} → c.run.result ≡ Ok p → ReadAs found left (t'.place + 330) p.0 p.1
  one e = told {found = found} c.run.ensures e

pub loop-run-preserved : goal.loop-run-preserved
loop-run-preserved c =
    let f = reached (goal.at.loop-run-preserved c).After-several-t in
    let v = one (goal.at.loop-run-preserved c).After-run c.in_ok-v.was in
    runs-turn f (omega arith) v.says (omega arith) c.if-v-left.false v.next

pub overflow_add-cells : goal.overflow_add-cells
overflow_add-cells c =
    let f = reached (goal.at.overflow_add-cells c).After-several-t in
    let v = one (goal.at.overflow_add-cells c).After-run c.in_ok-v.was in
    let told = runs-turn f (omega arith) v.says (omega arith) c.if-v-left.false v.next in
    omega (arith, told.within)

pub bounds-cells-filled : goal.bounds-cells-filled
bounds-cells-filled c = omega (arith, (loop-run-preserved c).within)

pub overflow_add-filled : goal.overflow_add-filled
overflow_add-filled c = omega (arith, (loop-run-preserved c).within)

pub overflow_add-count : goal.overflow_add-count
overflow_add-count c = omega (arith, (loop-run-preserved c).within, (loop-run-preserved c).fuel)

pub loop-run-smaller : goal.loop-run-smaller
loop-run-smaller c =
    omega (arith, (loop-run-preserved c).within, c.several-t.ensures.from)

pub returns-in-Some : goal.returns-in-Some
returns-in-Some c =
    let r = rw c.in-Some.is at c.several-t.ensures.last in
    rw c.ended.ensures (marks-filled (runs-ended (reached (goal.at.returns-in-Some c).After-several-t) r) c.fill.ensures)

pub returns-then-d-filled : goal.returns-then-d-filled
returns-then-d-filled c =
    marks-filled (runs-filled (reached (goal.at.returns-then-d-filled c).After-several-t) (omega arith)) c.fill.ensures

pub returns-in_err-v : goal.returns-in_err-v
returns-in_err-v c =
    let e = refused {found = found (goal.at.returns-in_err-v c).After-run} c.run.ensures c.in_err-v.was in
    rw (handed_on c.from_residual.result c.from_residual.ensures.1)
    (marks-filled (runs-refused (reached (goal.at.returns-in_err-v c).After-several-t) (omega arith) e) c.fill.ensures)

pub returns-then-v-left : goal.returns-then-v-left
returns-then-v-left c =
    let v = one (goal.at.returns-then-v-left c).After-run c.in_ok-v.was in
    marks-filled (runs_closed (reached (goal.at.returns-then-v-left c).After-several-t) (omega arith) v.says c.if-v-left.true v.next) c.fill.ensures
