-- The code of S, then N flags as runs, each marked by its zero (TwoZeros).
use Prim.Native.Nat.{ℕ}
use mathlib.Core.List.{List}
use native.Mathlib.Omega.{arith}
use Rattle.rules.specs.Bits.{bits_of}
use Rattle.rules.specs.Reading.{Read}
use Rattle.rules.specs.Runs.{runs}
use Rattle.rules.specs.Zeros.{zero_of}
use Rattle.read_bits.proofs.Told.{told, refused, handed_on}
use Rattle.read_runs.proofs.Answer.{marks-told, marks-told-refused}
use Rattle.read_bodies.proofs.Poured.{fills-refused}
use Rattle.read_bodies.proofs.TwoZeros.{zeros-filled}
use Rattle.read_bodies.proofs.plus_minus.Goals.{After-runs}
use Rattle.read_bodies.proofs.plus_minus.Goals as goal

pub runs-requires : goal.runs-requires
runs-requires c =
    let s = told c.code_of_s.ensures c.in_ok-s.was in
    omega arith

module _ (c : After-runs) where
  abbrev found : Read (List ℕ)
  found = runs c.args.n c.in_ok-s.s c.args.n (bits_of c.args.octets.now) c.in_ok-s.first

pub returns-in_err-s : goal.returns-in_err-s
returns-in_err-s c =
    rw (handed_on c.from_residual.result c.from_residual.ensures.1)
    (fills-refused (rw (refused c.code_of_s.ensures c.in_err-s.was)) c.requires.3)

pub returns-in_err-next : goal.returns-in_err-next
returns-in_err-next c =
    let k = told c.code_of_s.ensures c.in_ok-s.was in
    let m = marks-told-refused {found = found (goal.at.returns-in_err-next c).After-runs} c.runs.ensures c.in_err-next.was in
    rw (handed_on c.from_residual-in_err-next.result c.from_residual-in_err-next.ensures.1) (fills-refused (rw (k.says, m)) c.runs.ensures.room)

pub returns : goal.returns
returns c =
    let k = told c.code_of_s.ensures c.in_ok-s.was in
    let m = marks-told {found = found (goal.at.returns c).After-runs} c.runs.ensures c.in_ok-next.was in
    zeros-filled {flags-found = found (goal.at.returns c).After-runs} (zero_of c.args.mask c.args.mark) m
    c.zero_of-common.ensures c.zero_of-other.ensures
    (λ flags e. rw (k.says, e)) (omega arith) (omega arith)
