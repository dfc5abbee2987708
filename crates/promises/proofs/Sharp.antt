-- R-7: a refusal may hang on octets past the one that holds its bit, as far as `reach` says; a listed place may stand at the end. Computed.
use Prim.Native.Nat.{ℕ}
use mathlib.Core.Path.{◌≡◌, refl}
use mathlib.Core.List.{List, [], ◌∷◌, ◌++◌}
use lib.ListN.{length, replicate}
use Rattle.rules.specs.declared.Refusal.TheVariants.{Short, Tool, Run, Place}
use Rattle.rules.specs.Bits.{low_bits, bits_of, value_from, octets_from, pack}
use Rattle.rules.specs.Reading.{refuse, bit, number_from}
use Rattle.rules.specs.First.{rows, look_up, first_octet, six_not_eight, rice_code, base_of}
use Rattle.rules.specs.Samples.{sample_of, signed}
use Rattle.rules.specs.Tools.{holds}
use Rattle.rules.specs.Runs.{zeros_from, rice, runs_from, rice_form, rice_forms}
use Rattle.rules.specs.Zeros.{codes_of, code_of, tree_of, read_tree}
use Rattle.rules.specs.Located.{case_of, values_of, width_from, listed_from, listed, by_method, empty_in, lay, values_into, located}
use Rattle.rules.specs.Fractional.{values_at, group_of, bits_for, groups_from, groups_as, samples_at}
use Rattle.rules.specs.Frame.{body, with_tool, after_first, frame, read_one}

-- RUN names the first bit of its code, 9, which stands in octet 1; but it hangs on the octets behind: without them this is SHORT
pub run-hangs-on-more : (read_one (0x57 ∷ 0x80 ∷ 0 ∷ 0 ∷ 0 ∷ 0 ∷ 0 ∷ []) 1 127 320 ≡ refuse Run 9)
    × (read_one (0x57 ∷ 0x80 ∷ []) 1 127 320 ≡ refuse Short 16)
unfolding read_one frame after_first with_tool body bits_of low_bits bit number_from rows look_up first_octet six_not_eight holds
    tree_of read_tree zeros_from rice runs_from
run-hangs-on-more = (refl, refl)

-- TOOL names bit 0, and may hang on two octets
pub tool-hangs-on-two : (read_one (0x28 ∷ 0 ∷ []) 1 127 320 ≡ refuse (Tool 8) 0) × (read_one (0x28 ∷ []) 1 127 320 ≡ refuse Short 8)
unfolding read_one frame after_first with_tool bits_of low_bits bit number_from rows look_up first_octet six_not_eight holds
tool-hangs-on-two = (refl, refl)

-- a run's code of 330 bits, 320 zeros, a one and S = 9 bits, from bit 13 on; these are all but its last seven. It is RUN once they are
-- there
abbrev long_run : List ℕ
long_run = rice_code 320 0 ++ (code_of 320 9 ++ (replicate 320 0 ++ (1 ∷ 0 ∷ 0 ∷ [])))

pub run-hangs-on-330 : (length (pack long_run) ≡ 42) × (read_one (pack long_run) 1 127 320 ≡ refuse Short 336)
    × (read_one (pack long_run ++ (0 ∷ [])) 1 127 320 ≡ refuse Run 13)
unfolding read_one frame after_first with_tool body bits_of low_bits bit number_from rows look_up first_octet six_not_eight holds
    tree_of read_tree zeros_from rice runs_from pack octets_from value_from codes_of base_of
run-hangs-on-330 = (refl, refl, refl)

-- a listed place of no bits may stand at the end of the octets: 79 of 80 places are filled (a run of 1, then 78 of 0, S = 2), so D is 1;
-- then method 111 and count 2, whose second place is not above its first
abbrev two_in_one : List ℕ
two_in_one = low_bits 8 0x86 ++ (low_bits 2 1 ++ (1 ∷ (low_bits 3 2 ++ (rice_forms 2 (1 ∷ replicate 78 0) ++ (low_bits 3 7 ++ low_bits 2 1)))))

pub place-at-the-end : (length (pack two_in_one) ≡ 32) × (read_one (pack two_in_one) 1 127 320 ≡ refuse Place 256)
unfolding read_one frame after_first with_tool body bits_of low_bits bit number_from rows look_up first_octet six_not_eight holds
    zeros_from rice runs_from pack octets_from value_from rice_forms rice_form case_of values_of width_from listed_from listed
    by_method empty_in lay values_into located sample_of signed
place-at-the-end = (refl, refl)

-- a listed place of tool 7 hangs on 9 bits (320 samples, range case 1, method 111, one place, 511), a V of tool 11 on 13 (R' = 6, V = 8191)
pub place-hangs-on-9 : (read_one (0x35 ∷ 0x7C ∷ 0xFF ∷ 0x80 ∷ []) 1 127 320 ≡ refuse Place 16)
    × (read_one (0x35 ∷ 0x7C ∷ 0xFF ∷ []) 1 127 320 ≡ refuse Short 24)
unfolding read_one frame after_first with_tool body bits_of low_bits bit number_from rows look_up first_octet holds
    case_of values_of width_from listed_from listed by_method empty_in values_into located sample_of signed
place-hangs-on-9 = (refl, refl)

pub place-hangs-on-13 : (read_one (0x0B ∷ 0xFF ∷ 0xF8 ∷ []) 1 255 320 ≡ refuse Place 8)
    × (read_one (0x0B ∷ 0xFF ∷ []) 1 255 320 ≡ refuse Short 16)
unfolding read_one frame after_first with_tool body bits_of low_bits bit number_from rows look_up first_octet holds
    values_at group_of bits_for groups_from groups_as samples_at sample_of
place-hangs-on-13 = (refl, refl)
