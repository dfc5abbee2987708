-- Cases worked out by hand, computed by the prover: pads at the total are kept and the frame behind it is not; a frame that passes the
-- total is not kept and 320 comes before 240; a total of 0; the first refused frame ends the keeping, whatever stands behind it.
use Prim.Native.Nat.{ℕ}
use mathlib.Core.Path.{◌≡◌, refl}
use mathlib.Core.List.{List, [], ◌∷◌}
use Rattle.rules.specs.Bits.{low_bits, bits_of}
use Rattle.rules.specs.Reading.{bit, number_from, filled}
use Rattle.rules.specs.First.{rows, look_up, first_octet, base_of}
use Rattle.rules.specs.Samples.{sample_of}
use Rattle.rules.specs.Tools.{holds}
use Rattle.rules.specs.Frame.{body, with_tool, after_first, frame, read_one}
use Rattle.rules.specs.Walk.{walk_from, octets_kept, samples_kept}
use Rattle.mending.specs.Mend.{fill_by, mended}

-- the octets that a greeting is mended to
abbrev result : List ℕ → ℕ → List ℕ
result octets total = (mended octets 1 total).octets

pub pads-at-the-total : result (0x41 ∷ 0x00 ∷ 0x41 ∷ 0x00 ∷ []) 40 ≡ 0x41 ∷ 0x00 ∷ []
unfolding low_bits bits_of bit number_from filled rows look_up first_octet base_of sample_of holds body with_tool after_first frame
    read_one walk_from octets_kept samples_kept fill_by mended
pads-at-the-total = refl

pub past-the-total : result (0x41 ∷ 0xC1 ∷ []) 80 ≡ 0x41 ∷ 0x41 ∷ []
unfolding low_bits bits_of bit number_from filled rows look_up first_octet base_of sample_of holds body with_tool after_first frame
    read_one walk_from octets_kept samples_kept fill_by mended
past-the-total = refl

pub of-nothing : result (0x00 ∷ 0x01 ∷ 0x41 ∷ []) 0 ≡ 0x00 ∷ []
unfolding low_bits bits_of bit number_from filled rows look_up first_octet base_of sample_of holds body with_tool after_first frame
    read_one walk_from octets_kept samples_kept fill_by mended
of-nothing = refl

pub longest-first : result [] 1000 ≡ 0x31 ∷ 0x31 ∷ 0x31 ∷ 0x41 ∷ []
unfolding walk_from octets_kept samples_kept base_of fill_by mended
longest-first = refl
