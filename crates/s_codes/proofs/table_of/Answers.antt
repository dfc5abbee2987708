use native.Mathlib.Omega.{arith}
use mathlib.Core.Path.{refl, ap}
use Rattle.rules.specs.Bits.{low_bits}
use Rattle.rules.specs.Zeros.{codes_of}
use Rattle.s_codes.specs.Codes.{s_in}
use Rattle.s_codes.proofs.Coded.{codes-more, table-told}
use Rattle.s_codes.proofs.table_of.Goals as goal

pub returns-in-40 : goal.returns-in-40
unfolding low_bits codes_of s_in
returns-in-40 c = table-told 40 4 _ _ _ (ap codes_of c.in-40.is) refl refl refl refl refl refl refl

pub returns-in-80 : goal.returns-in-80
unfolding low_bits codes_of s_in
returns-in-80 c = table-told 80 3 _ _ _ (ap codes_of c.in-80.is) refl refl refl refl refl refl refl

pub returns-in_default : goal.returns-in_default
unfolding low_bits codes_of s_in
returns-in_default c = table-told 160 0 _ _ _ (codes-more c.args.n (omega arith) (omega arith)) refl refl refl refl refl refl refl
