-- A greeting of tool 11, 40 plus zeros by row 0, computed by the prover: BAD to an older box, whose set is 127 (`eleven-bad`); not to
-- today's (`eleven-good`).
use Prim.Native.Nat.{ℕ}
use mathlib.Core.Path.{◌≡◌, refl}
use mathlib.Core.List.{List, [], ◌∷◌}
use mathlib.Core.Bool.{true, false}
use Rattle.rules.specs.Bits.{low_bits, bits_of}
use Rattle.rules.specs.Reading.{bit, number_from, filled}
use Rattle.rules.specs.First.{rows, look_up, first_octet, base_of}
use Rattle.rules.specs.Samples.{sample_of}
use Rattle.rules.specs.Tools.{holds}
use Rattle.rules.specs.Fractional.{values_at, group_of, bits_for, digits_of, groups_from, groups_as, samples_at}
use Rattle.rules.specs.Frame.{body, with_tool, after_first, frame, read_one}
use Rattle.rules.specs.Walk.{walk_from, walk_all}
use Rattle.store_greeting.specs.Bad.{is_bad}
use Rattle.store_old.specs.Old.{old_set, bad_with}

abbrev pub eleven : List ℕ
eleven = 0x02 ∷ 0x00 ∷ 0x00 ∷ 0x00 ∷ 0x00 ∷ 0x00 ∷ []

pub eleven-bad : bad_with old_set 1 eleven ≡ true
unfolding low_bits bits_of bit number_from filled rows look_up first_octet base_of holds with_tool after_first frame read_one
    walk_from walk_all bad_with
eleven-bad = refl

pub eleven-good : is_bad 1 eleven ≡ false
unfolding low_bits bits_of bit number_from filled rows look_up first_octet base_of sample_of holds values_at group_of bits_for digits_of groups_from
    groups_as samples_at body with_tool after_first frame read_one walk_from walk_all is_bad
eleven-good = refl
