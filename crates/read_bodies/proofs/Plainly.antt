-- What the bodies of tools 1 to 4 give: `plus-is`, `minus_is`, `constant-is`, `octets-are`, and where their octets are cut.
use Prim.Native.Nat.{ℕ, ◌+◌, ◌*◌, ◌≤◌, ◌<◌, max}
use mathlib.Core.Path.{◌≡◌, refl}
use mathlib.Core.List.{List, []}
use native.Mathlib.Omega.{arith}
use lib.ListN.{length, get_or, length-replicate}
use Rattle.rules.specs.declared.Refusal.TheVariants.{Short}
use Rattle.rules.specs.Bits.{bits_of}
use Rattle.rules.specs.Reading.{refuse}
use Rattle.rules.specs.Samples.{plus_zero, minus_zero}
use Rattle.rules.specs.Frame.{body}
use Rattle.read_bits.proofs.Window.{number-octet}
use Rattle.read_bits.proofs.Cut.{number_cut}
use Rattle.read_bodies.specs.declared.plain.Plain.TheVariants.{Octets, Same}
use Rattle.read_bodies.specs.Plainly.{Given}
use Rattle.read_bodies.proofs.Poured.{part_length}
use Rattle.read_bodies.proofs.WholeOctets.{octets-there, octets-cut}

module _ (mask t n : ℕ) (s : List ℕ) where
  pub plus-is : {x : ℕ} → t ≡ 2 → x ≡ plus_zero mask → Given (body mask t n (bits_of s) 8) s n (Same x) 8
  unfolding body
  plus-is {x} e f =
      record { says = rw (e, f); size = length-replicate n x; ends = refl; few = omega arith; lies = λ room h. h }

  pub minus_is : {x : ℕ} → t ≡ 3 → x ≡ minus_zero mask → Given (body mask t n (bits_of s) 8) s n (Same x) 8
  unfolding body
  minus_is {x} e f =
      record { says = rw (e, f); size = length-replicate n x; ends = refl; few = omega arith; lies = λ room h. h }

  module _ (b : (i : ℕ) → get_or s i 0 < 256) where
    pub constant-is : t ≡ 4 → 1 ≤ n → 2 ≤ length s → Given (body mask t n (bits_of s) 8) s n (Same (get_or s 1 0)) 16
    unfolding body
    constant-is e o h =
        record {
          says = rw (e, number-octet s 8 refl (omega arith) (b 1));
          size = length-replicate n (get_or s 1 0);
          ends = refl;
          few = omega arith;
          lies = λ room l. l;
        }

    pub octets-are : t ≡ 1 → n < length s → Given (body mask t n (bits_of s) 8) s n Octets (8 + 8 * n)
    unfolding body
    octets-are e h =
        record {
          says = rw e (octets-there s b n [] 8 refl (omega arith));
          size = part_length s n h;
          ends = omega arith;
          few = omega arith;
          lies = λ room l. (h, l);
        }

    pub octets-short : t ≡ 1 → 0 < n → length s ≤ n → body mask t n (bits_of s) 8 ≡ refuse Short (max 8 (8 * length s))
    unfolding body
    octets-short e o h = rw e (octets-cut s b n [] 8 o refl (omega arith))

  pub constant-short : t ≡ 4 → length s < 2 → body mask t n (bits_of s) 8 ≡ refuse Short (max 8 (8 * length s))
  unfolding body
  constant-short e h = rw (e, number_cut s 0 8 8 (omega arith) (omega arith)) refl
