-- Each turn lays one value (InTurn).
use Prim.Native.Nat.{ℕ, ◌+◌, ◌-◌}
use mathlib.Core.Path.{◌≡◌}
use mathlib.Core.List.{List}
use mathlib.Core.Bool.{false}
use native.Mathlib.Omega.{arith}
use lib.Dec.{eqb}
use lib.ListN.{length, get_or, take, drop, length-replicate}
use lib.Seq.{take_all, get_or-take, get_or-drop}
use Rattle.rules.specs.Bits.{bits_of}
use Rattle.rules.specs.Reading.{Read}
use Rattle.read_bits.proofs.Told.{handed_on}
use Rattle.read_runs.proofs.Answer.{marks-told, marks-told-refused}
use Rattle.read_runs.specs.Flagged.{MarksCells}
use Rattle.read_located.specs.Valued.{flags_of}
use Rattle.read_located.proofs.InTurn.{value-apart, in-turn-none, in-turn-refused, in-turn-ones, in-turn-next, in-turn-all}
use Rattle.read_located.proofs.later.Goals.{After-value}
use Rattle.read_located.proofs.later.Goals as goal

-- all of the values
all : (xs : List ℕ) → take (length xs) xs ≡ xs
all xs = take_all (length xs) xs (omega arith)

pub loop-x-init : goal.loop-x-init
loop-x-init c = in-turn-none _ _ _ _ _ _ _ _ _ (omega arith) c.requires.6 (omega arith) (omega arith) (length-replicate {A = ℕ} 320 0)

pub value-requires : goal.value-requires
value-requires c =
    let g = c.loop-x.invariant in
    omega (arith, g.near, g.turns, g.few, g.wide)

-- the value of this turn
module _ (c : After-value) where
  abbrev found : Read (List ℕ)
  found = flags_of c.args.n c.loop-x.empty (bits_of c.args.octets.now) c.loop-x.place

  apart : eqb (get_or c.args.xs.now (c.loop-x.x-index + 1) 0) c.args.plus ≡ false
  apart =
      value-apart c.args.plus (length c.args.xs.now) c.args.xs.now (rw (all c.args.xs.now) c.requires.4) (omega arith) (c.loop-x.x-index + 1)
      (omega arith)

  marked : MarksCells found c.loop-x.empty (c.loop-x.place + 105603) c.args.plus (get_or c.args.xs.now (c.loop-x.x-index + 1) 0)
      c.loop-x.marks c.value.new.cells c.value.result
  marked =
      let e : 1 + c.loop-x.x-index ≡ c.loop-x.x-index + 1 = omega arith in
      rw (get_or-take (length c.args.xs.now - 1) (drop 1 c.args.xs.now) c.loop-x.x-index 0 (omega arith), get_or-drop 1 c.args.xs.now c.loop-x.x-index 0, e)
      at c.value.ensures

pub returns-in_err-ones : goal.returns-in_err-ones
returns-in_err-ones c =
    let v = (goal.at.returns-in_err-ones c).After-value in
    rw (handed_on c.from_residual.result c.from_residual.ensures.1)
    (rw (all c.args.xs.now) at (in-turn-refused (omega arith) c.loop-x.invariant (omega arith) (omega arith) (apart v) {far = c.args.at + 211206}
    (marks-told-refused {found = found v} (marked v) c.in_err-ones.was)))

pub overflow_sub-empty : goal.overflow_sub-empty
overflow_sub-empty c =
    let v = (goal.at.overflow_sub-empty c).After-value in
    let m = marks-told {found = found v} (marked v) c.in_ok-ones.was in
    in-turn-ones (omega arith) c.loop-x.invariant (omega arith) (omega arith) (apart v) m

pub loop-x-preserved : goal.loop-x-preserved
loop-x-preserved c =
    let v = (goal.at.loop-x-preserved c).After-value in
    let m = marks-told {found = found v} (marked v) c.in_ok-ones.was in
    in-turn-next (omega arith) c.loop-x.invariant (omega arith) (omega arith) (apart v) m c.lay.ensures m.next

pub returns : goal.returns
returns c = rw (all c.args.xs.now) at (in-turn-all (omega arith) c.loop-x.invariant (omega arith) (omega arith) (omega arith))
