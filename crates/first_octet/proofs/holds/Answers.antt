use borrow.Author.Tests.{le-leb, lt-leb, ne_eqb}
use native.Mathlib.Omega.{arith}
use mathlib.Core.Path.{refl}
use Rattle.rules.specs.Tools.{holds}
use Rattle.first_octet.proofs.holds.Goals as goal

pub returns-in-1-to-7 : goal.returns-in-1-to-7
unfolding holds
returns-in-1-to-7 c =
    let t = c.args.t in
    rw (le-leb 1 t (omega arith), le-leb t 7 (omega arith), ne_eqb t 11 (omega arith)) refl

pub returns-in-11 : goal.returns-in-11
unfolding holds
returns-in-11 c = rw c.in-11.is refl

pub returns-in_default : goal.returns-in_default
unfolding holds
returns-in_default c = let t = c.args.t in rw (lt-leb 1 t (omega arith), ne_eqb t 11 (omega arith)) refl

pub returns-in_default-2 : goal.returns-in_default-2
unfolding holds
returns-in_default-2 c =
    let t = c.args.t in
    rw (le-leb 1 t (omega arith), lt-leb t 7 (omega arith), ne_eqb t 11 (omega arith)) refl
