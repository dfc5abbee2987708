-- Greeting by greeting (Noting).
use mathlib.Core.Path.{refl, ◌∙◌}
use lib.ListN.{length-set}
use native.Mathlib.Omega.{arith}
use Rattle.store_text.proofs.Noting.{noting-first, noting-end, noting-full, noting-none, noting-turn}
use Rattle.store_text.proofs.read_noted.Goals as goal

pub loop-at-init : goal.loop-at-init
loop-at-init c = (refl, refl, noting-first _ _ _ _ _)

pub shape_of-cells-then-k-eq-MOST_GREETINGS : goal.shape_of-cells-then-k-eq-MOST_GREETINGS
shape_of-cells-then-k-eq-MOST_GREETINGS c = c.loop-at.invariant.0

pub shape_of-laws-then-k-eq-MOST_GREETINGS : goal.shape_of-laws-then-k-eq-MOST_GREETINGS
shape_of-laws-then-k-eq-MOST_GREETINGS c = c.loop-at.invariant.1

pub returns-then-k-eq-MOST_GREETINGS : goal.returns-then-k-eq-MOST_GREETINGS
returns-then-k-eq-MOST_GREETINGS c = noting-full c.loop-at.invariant.2 _ _ (omega arith) c.if-k-eq-MOST_GREETINGS.true

pub shape_of-cells-in_err-head : goal.shape_of-cells-in_err-head
shape_of-cells-in_err-head c = c.loop-at.invariant.0

pub shape_of-laws-in_err-head : goal.shape_of-laws-in_err-head
shape_of-laws-in_err-head c = c.loop-at.invariant.1

pub returns-in_err-head : goal.returns-in_err-head
returns-in_err-head c =
    rw c.from_residual.ensures
    (noting-none c.loop-at.invariant.2 (omega arith) c.if-k-eq-MOST_GREETINGS.false _ _ (c.in_err-head.ensures))

pub overflow_mul-k : goal.overflow_mul-k
overflow_mul-k c = let s = c.loop-at.invariant in omega (arith, s.2.few)

pub overflow_add-k : goal.overflow_add-k
overflow_add-k c = let s = c.loop-at.invariant in omega (arith, s.2.few)

pub put_cells-requires : goal.put_cells-requires
put_cells-requires c =
    let n = c.if-k-eq-MOST_GREETINGS.false in
    let s = c.loop-at.invariant in
    omega (arith, s.0, s.2.few)

pub offset_bounds-laws-k : goal.offset_bounds-laws-k
offset_bounds-laws-k c =
    let s = c.loop-at.invariant in omega (arith, s.2.few)

pub bounds-laws-k : goal.bounds-laws-k
bounds-laws-k c =
    let n = c.if-k-eq-MOST_GREETINGS.false in
    let s = c.loop-at.invariant in
    omega (arith, s.1, s.2.few)

pub loop-at-smaller : goal.loop-at-smaller
loop-at-smaller c =
    let n = c.if-k-eq-MOST_GREETINGS.false in
    omega (arith, c.loop-at.invariant.2.few)

pub loop-at-preserved : goal.loop-at-preserved
loop-at-preserved c =
    let n = c.if-k-eq-MOST_GREETINGS.false in
    let s = c.loop-at.invariant in
    let e = (c.in_ok-head.ensures) in (
      c.put_cells.auto.cells ∙ s.0,
      rw length-set s.1,
      noting-turn s.2 (omega arith) n (omega (arith, s.1, s.2.few)) e
          c.put_cells.ensures,
    )

pub overflow_cast-cells : goal.overflow_cast-cells
overflow_cast-cells c = omega (arith, c.loop-at.invariant.2.few)

pub bounds-cells-0 : goal.bounds-cells-0
bounds-cells-0 c = omega (arith, c.loop-at.invariant.0)

pub shape_of-laws : goal.shape_of-laws
shape_of-laws c = c.loop-at.invariant.1

pub returns : goal.returns
returns c = noting-end c.loop-at.invariant.2 (omega arith) (omega arith)
