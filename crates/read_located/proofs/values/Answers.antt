-- The first value, then the later ones (InTurn).
use Prim.Native.Nat.{ℕ, ◌+◌}
use mathlib.Core.Path.{◌≡◌}
use mathlib.Core.List.{List}
use mathlib.Core.Bool.{false}
use native.Mathlib.Omega.{arith}
use lib.Dec.{eqb}
use lib.ListN.{length, get_or, take, drop}
use lib.Seq.{take_all}
use Rattle.rules.specs.Bits.{bits_of}
use Rattle.rules.specs.Reading.{Read}
use Rattle.rules.specs.Located.{values_into}
use Rattle.read_bits.proofs.Told.{handed_on}
use Rattle.read_runs.proofs.Answer.{MarksAs, marks-told, marks-told-refused}
use Rattle.read_located.specs.Valued.{flags_of, LaysCells}
use Rattle.read_located.proofs.InTurn.{FirstAs, value-apart, lays-refused, first-refused, first-told, first-lays}
use Rattle.read_located.proofs.values.Goals.{After-value, In_ok-ones}
use Rattle.read_located.proofs.values.Goals as goal

-- all of the values
all : (xs : List ℕ) → take (length xs) xs ≡ xs
all xs = take_all (length xs) xs (omega arith)

module _ (c : After-value) where
  abbrev found : Read (List ℕ)
  found = flags_of c.args.n c.args.n (bits_of c.args.octets.now) c.args.at

  apart : eqb (get_or c.args.xs.now 0 0) c.args.plus ≡ false
  apart = value-apart c.args.plus (length c.args.xs.now) c.args.xs.now (rw (all c.args.xs.now) c.requires.4) (omega arith) 0 (omega arith)

-- the first value is read: what its flags tell
module _ (c : In_ok-ones) where
  abbrev found' : Read (List ℕ)
  found' = flags_of c.args.n c.args.n (bits_of c.args.octets.now) c.args.at

  apart' : eqb (get_or c.args.xs.now 0 0) c.args.plus ≡ false
  apart' = value-apart c.args.plus (length c.args.xs.now) c.args.xs.now (rw (all c.args.xs.now) c.requires.4) (omega arith) 0 (omega arith)

  flags : MarksAs found' c.args.n (c.args.at + 105603) c.args.plus (get_or c.args.xs.now 0 0)
      c.args.cells.now c.value.new.cells c.in_ok-ones.ones c.in_ok-ones.next
  flags = marks-told {found = found'} c.value.ensures c.in_ok-ones.was

  first : FirstAs c.args.octets.now c.args.at c.args.n c.args.plus c.args.xs.now
      (length c.args.xs.now) c.args.cells.now c.value.new.cells c.in_ok-ones.ones c.in_ok-ones.next
  first = first-told _ _ _ _ _ _ (omega arith) (omega arith) apart' flags

pub overflow_sub-n : goal.overflow_sub-n
overflow_sub-n c = (first c).few

pub later-requires : goal.later-requires
later-requires c =
    let m = flags (goal.at.later-requires c).In_ok-ones in
    let f = (first (goal.at.later-requires c).In_ok-ones).left in
    (omega (arith, m.next), omega arith, omega arith, omega arith, c.requires.4, m.room, f, omega arith)

pub returns-in_err-ones : goal.returns-in_err-ones
returns-in_err-ones c =
    let a = c.args in
    let v = (goal.at.returns-in_err-ones c).After-value in
    rw (handed_on c.from_residual.result c.from_residual.ensures.1)
    (lays-refused
    (rw (all a.xs.now) at (first-refused a.octets.now a.at a.n a.plus a.xs.now (length a.xs.now) (omega arith) (omega arith) (apart v)
    (marks-told-refused {found = found v} c.value.ensures c.in_err-ones.was))) c.value.ensures.room)

pub returns : goal.returns
returns c =
    let a = c.args in
    let o = (goal.at.returns c).In_ok-ones in
    let k : LaysCells (values_into a.n a.plus (drop 1 (take (length a.xs.now) a.xs.now)) (take a.n c.value.new.cells) (bits_of a.octets.now)
    c.in_ok-ones.next) a.n (c.in_ok-ones.next + 211206) c.value.new.cells c.later.new.cells c.later.result = rw (all a.xs.now) c.later.ensures in
    rw (all a.xs.now) at (first-lays {far = a.at + 316809} (first o) k (omega (arith, (flags o).next)))
