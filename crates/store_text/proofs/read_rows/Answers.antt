-- Greeting by greeting (Reading, Stand).
use mathlib.Core.Path.{refl, ◌∙◌}
use native.Mathlib.Omega.{arith}
use Rattle.store_text.proofs.Reading.{stand-first, stand-end, stand-full, stand-none, stand-turn}
use Rattle.store_text.proofs.read_rows.Goals as goal

pub loop-at-init : goal.loop-at-init
loop-at-init c = (refl, stand-first _ _)

pub shape_of-cells-then-k-eq-MOST_GREETINGS : goal.shape_of-cells-then-k-eq-MOST_GREETINGS
shape_of-cells-then-k-eq-MOST_GREETINGS c = c.loop-at.invariant.0

pub returns-then-k-eq-MOST_GREETINGS : goal.returns-then-k-eq-MOST_GREETINGS
returns-then-k-eq-MOST_GREETINGS c = stand-full c.loop-at.invariant.1 _ (omega arith) c.if-k-eq-MOST_GREETINGS.true

pub shape_of-cells-in_err-line : goal.shape_of-cells-in_err-line
shape_of-cells-in_err-line c = c.loop-at.invariant.0

pub returns-in_err-line : goal.returns-in_err-line
returns-in_err-line c =
    rw c.from_residual.ensures (stand-none c.loop-at.invariant.1 (omega arith) c.if-k-eq-MOST_GREETINGS.false _ (c.in_err-line.ensures))

pub overflow_mul-k : goal.overflow_mul-k
overflow_mul-k c = let s = c.loop-at.invariant in omega (arith, s.1.few)

pub overflow_add-k : goal.overflow_add-k
overflow_add-k c = let s = c.loop-at.invariant in omega (arith, s.1.few)

pub put_cells-requires : goal.put_cells-requires
put_cells-requires c =
    let n = c.if-k-eq-MOST_GREETINGS.false in
    let s = c.loop-at.invariant in
    omega (arith, s.0, s.1.few)

pub loop-at-smaller : goal.loop-at-smaller
loop-at-smaller c =
    let n = c.if-k-eq-MOST_GREETINGS.false in
    omega (arith, c.loop-at.invariant.1.few)

pub loop-at-preserved : goal.loop-at-preserved
loop-at-preserved c =
    let s = c.loop-at.invariant in (
      c.put_cells.auto.cells ∙ s.0,
      stand-turn s.1 (omega arith) c.if-k-eq-MOST_GREETINGS.false (c.in_ok-line.ensures)
          c.put_cells.ensures,
    )

pub overflow_cast-cells : goal.overflow_cast-cells
overflow_cast-cells c = omega (arith, c.loop-at.invariant.1.few)

pub bounds-cells-0 : goal.bounds-cells-0
bounds-cells-0 c = omega (arith, c.loop-at.invariant.0)

pub returns : goal.returns
returns c = stand-end c.loop-at.invariant.1 (omega arith) (omega arith)
