-- P1 to P16 of document 01 (specs/Marked) hold of the definitions: one list, one claim, computed by the prover.
use mathlib.Core.Path.{refl}
use Rattle.rules.specs.Bits.{low_bits, bits_of, value_from, octets_from, pack}
use Rattle.rules.specs.Reading.{bit, number_from, bits_from, octets_after, filled}
use Rattle.rules.specs.First.{rows, look_up, first_octet, base_of, six_not_eight}
use Rattle.rules.specs.Samples.{signed, sample_of}
use Rattle.rules.specs.Tools.{holds}
use Rattle.rules.specs.Runs.{zeros_from, rice, rice_form, runs_from, runs_of, rice_forms}
use Rattle.rules.specs.Zeros.{codes_of, tree_of, read_tree}
use Rattle.rules.specs.Located.{case_of, values_of, width_from, listed_from, listed, by_method, empty_in, lay, values_into, located}
use Rattle.rules.specs.Frame.{body, with_tool, after_first, frame, read_one}
use Rattle.rules.specs.Chooses.{count_of, least_from, rice_choice, without, places_of}
use Rattle.rules.specs.Chooses.{numbers_form, method_of, method_form, value_form, values_form}
use Rattle.rules.specs.Chooses.{least_of, greatest_of, row_of, located_form, applies, form_of, choose, chosen, write_one}
use Rattle.rules.specs.Marked.{All, marked}

pub marked-cases : All marked
unfolding low_bits bits_of value_from octets_from pack bit number_from bits_from octets_after filled rows look_up first_octet base_of
    six_not_eight signed sample_of holds zeros_from rice rice_form runs_from runs_of rice_forms codes_of tree_of read_tree case_of
    values_of width_from listed_from listed by_method empty_in lay values_into located body with_tool after_first frame read_one
    count_of least_from rice_choice without places_of numbers_form method_of method_form value_form values_form least_of
    greatest_of row_of located_form applies form_of choose chosen write_one
marked-cases = (
  refl,
  (
    refl,
    (
      refl,
      (
        refl,
        (
          refl,
          (
            (refl, refl, refl, refl, refl),
            (
              refl,
              (
                (refl, refl, refl, refl, refl),
                (
                  refl,
                  (
                    refl,
                    (
                      refl,
                      (
                        (refl, refl, refl, refl, refl),
                        (
                          refl,
                          ((refl, refl, refl, refl, refl), (refl, (refl, (refl, (refl, (refl, (refl, tt))))))),
                        ),
                      ),
                    ),
                  ),
                ),
              ),
            ),
          ),
        ),
      ),
    ),
  ),
)
