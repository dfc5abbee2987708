-- Cases worked out by hand, computed by the prover: 64 pads have one mark, 0 octets and 0 samples before it; 65 have two;
-- before the 65th frame stand the samples of 64.
use mathlib.Core.Path.{◌≡◌, refl}
use mathlib.Core.List.{[], ◌∷◌, ◌++◌}
use lib.ListN.{replicate}
use Rattle.rules.specs.Bits.{low_bits, bits_of}
use Rattle.rules.specs.Reading.{bit, number_from, filled}
use Rattle.rules.specs.First.{rows, look_up, first_octet, base_of}
use Rattle.rules.specs.Samples.{sample_of}
use Rattle.rules.specs.Tools.{holds}
use Rattle.rules.specs.Frame.{body, with_tool, after_first, frame, read_one}
use Rattle.rules.specs.Walk.{walk_from, walk_all, samples_kept}
use Rattle.store_greeting.specs.Marks.{mark_of, marks_from, note_of}

pub sixty-four-pads : note_of 1 (replicate 64 0x00) ≡ record { law = 1; samples = 0; marks = mark_of 0 0 ∷ [] }
unfolding low_bits bits_of bit number_from filled rows look_up first_octet base_of sample_of holds body with_tool after_first frame read_one
    walk_from walk_all samples_kept marks_from
sixty-four-pads = refl

pub sixty-five-pads : note_of 1 (replicate 65 0x00) ≡ record { law = 1; samples = 0; marks = mark_of 0 0 ∷ mark_of 64 0 ∷ [] }
unfolding low_bits bits_of bit number_from filled rows look_up first_octet base_of sample_of holds body with_tool after_first frame read_one
    walk_from walk_all samples_kept marks_from
sixty-five-pads = refl

-- 64 frames of 40 samples and a pad
pub samples-before : note_of 1 (replicate 64 0x41 ++ (0x00 ∷ [])) ≡ record
    { law = 1; samples = 2560; marks = mark_of 0 0 ∷ mark_of 64 2560 ∷ [] }
unfolding low_bits bits_of bit number_from filled rows look_up first_octet base_of sample_of holds body with_tool after_first frame read_one
    walk_from walk_all samples_kept marks_from
samples-before = refl
