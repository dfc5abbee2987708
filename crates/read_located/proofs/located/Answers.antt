-- Range case and flag, the row, then its values (Rows).
use Prim.Native.Nat.{◌+◌}
use native.Mathlib.Omega.{arith}
use Rattle.rules.specs.Bits.{bits_of}
use Rattle.rules.specs.Reading.{number_from}
use Rattle.rules.specs.Located.{located}
use Rattle.read_bits.proofs.Told.{ReadAs, told, refused, handed_on}
use Rattle.read_bodies.proofs.Poured.{fills-refused}
use Rattle.read_located.proofs.Rows.{values-apart, apart-as, no-values, some-filled, row-length}
use Rattle.read_located.proofs.located.Goals.{In_ok-case, In_ok-flag}
use Rattle.read_located.proofs.located.Goals as goal

module _ (c : In_ok-case) where
  case-read : ReadAs (number_from 0 2 (bits_of c.args.octets.now) c.args.at) 3 (c.args.at + 2) c.in_ok-case.case
      c.in_ok-case.second
  case-read = told c.number.ensures c.in_ok-case.was

module _ (c : In_ok-flag) where
  flag-read : ReadAs (number_from 0 1 (bits_of c.args.octets.now) c.in_ok-case.second) 1
      (c.in_ok-case.second + 1) c.in_ok-flag.flag c.in_ok-flag.first
  flag-read = told c.number-2.ensures c.in_ok-flag.was

pub number-requires-2 : goal.number-requires-2
number-requires-2 c = let k = case-read c in omega arith

pub returns-in-None : goal.returns-in-None
returns-in-None c =
    let k = case-read (goal.at.returns-in-None c).In_ok-case in
    let f = flag-read (goal.at.returns-in-None c).In_ok-flag in
    fills-refused (no-values _ _ _ _ k.says f.says c.in-None.ensures) (omega arith)

pub values-requires : goal.values-requires
values-requires c =
    let k = case-read (goal.at.values-requires c).In_ok-case in
    let f = flag-read (goal.at.values-requires c).In_ok-flag in
    let r = c.in-Some.ensures in
    let l = row-length _ _ _ _ k.says f.says r in (
      omega arith,
      omega arith,
      omega (arith, l, r.some),
      omega (arith, l, r.few),
      apart-as _ r (values-apart _ (omega arith) (omega arith) _ _ _),
      omega arith,
    )

pub returns-in_err-case : goal.returns-in_err-case
unfolding located
returns-in_err-case c =
    rw (handed_on c.from_residual.result c.from_residual.ensures.1) (fills-refused (rw (refused c.number.ensures c.in_err-case.was)) (omega arith))

pub returns-in_err-flag : goal.returns-in_err-flag
unfolding located
returns-in_err-flag c =
    rw (handed_on c.from_residual-in_err-flag.result c.from_residual-in_err-flag.ensures.1)
    (fills-refused (rw ((case-read (goal.at.returns-in_err-flag c).In_ok-case).says, refused c.number-2.ensures c.in_err-flag.was)) (omega arith))

pub returns-in-Some : goal.returns-in-Some
returns-in-Some c =
    let k = case-read (goal.at.returns-in-Some c).In_ok-case in
    let f = flag-read (goal.at.returns-in-Some c).In_ok-flag in
    some-filled _ _ _ _ k.says f.says c.in-Some.ensures c.values.ensures (omega arith) (omega arith)
