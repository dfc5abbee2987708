use mathlib.Core.Path.{refl}
use Rattle.rules.specs.Fractional.{values_at}
use Rattle.write_fractional.specs.Keys.{row_key}
use Rattle.rules.proofs.Arms.{last_arm}
use Rattle.write_fractional.proofs.reducing.key_at.Goals as goal

pub returns-in_default : goal.returns-in_default
unfolding values_at row_key
returns-in_default c = rw (last_arm 11 c.args.k c.in_default.in_default-own.rest c.requires) refl

pub returns-in-0 : goal.returns-in-0
unfolding values_at row_key
returns-in-0 c = rw c.in-0.is refl

pub returns-in-1 : goal.returns-in-1
unfolding values_at row_key
returns-in-1 c = rw c.in-1.is refl

pub returns-in-2 : goal.returns-in-2
unfolding values_at row_key
returns-in-2 c = rw c.in-2.is refl

pub returns-in-3 : goal.returns-in-3
unfolding values_at row_key
returns-in-3 c = rw c.in-3.is refl

pub returns-in-4 : goal.returns-in-4
unfolding values_at row_key
returns-in-4 c = rw c.in-4.is refl

pub returns-in-5 : goal.returns-in-5
unfolding values_at row_key
returns-in-5 c = rw c.in-5.is refl

pub returns-in-6 : goal.returns-in-6
unfolding values_at row_key
returns-in-6 c = rw c.in-6.is refl

pub returns-in-7 : goal.returns-in-7
unfolding values_at row_key
returns-in-7 c = rw c.in-7.is refl

pub returns-in-8 : goal.returns-in-8
unfolding values_at row_key
returns-in-8 c = rw c.in-8.is refl

pub returns-in-9 : goal.returns-in-9
unfolding values_at row_key
returns-in-9 c = rw c.in-9.is refl

pub returns-in-10 : goal.returns-in-10
unfolding values_at row_key
returns-in-10 c = rw c.in-10.is refl
