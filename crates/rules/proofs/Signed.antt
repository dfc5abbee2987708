-- The map of samples to signed numbers (specs/Samples): its inverse undoes it, so it is one to one. One statement over the mask, met by
-- both laws.
use Prim.Native.Nat.{ℕ, zero, suc, ◌+◌, ◌%◌, ◌<◌, suc-le-suc}
use mathlib.Core.Path.{◌≡◌, refl, sym, ap, ◌∙◌}
use mathlib.Core.Bool.{Bool, true, false, cond, ◌&&◌}
use native.Mathlib.Omega.{arith}
use lib.Dec.{eqb, leb}
use lib.IntN.{ℤ, pos, negsuc, ◌-ℤ◌}
use lib.Bits.{bit_xor, xor_zero_l}
use borrow.Author.Tests.{eqb-true, leb-true, lt-leb}
use Rattle.rules.specs.Samples.{mask_of, signed, sample_of, plus_zero, minus_zero, on_line}
use Rattle.rules.proofs.Tests.{and_left, and_right, all_below, all_below-at}

-- "The signed number runs from -128 to 127"
abbrev pub InRange : ℤ → Type 0
InRange (pos y) = y < 128
InRange (negsuc y) = y < 128

-- `-1 - v` takes y to -y - 1, and back
pub turned-pos : (y : ℕ) → negsuc 0 -ℤ pos y ≡ negsuc y
turned-pos zero = refl
turned-pos (suc y) = ap negsuc (omega arith)

pub turned-neg : (y : ℕ) → negsuc 0 -ℤ negsuc y ≡ pos y
turned-neg y = rw (lt-leb (suc (suc y)) 1 (omega arith)) (ap pos (omega arith))

-- what holds of a law's mask
pub record LawMask (mask : ℕ) : Type 0 where
  pub back : (x : ℕ) → x < 256 → sample_of mask (signed mask x) ≡ x
  pub forth : (v : ℤ) → InRange v → signed mask (sample_of mask v) ≡ v
  pub octet : (v : ℤ) → InRange v → sample_of mask v < 256

pub signed_range : (mask x : ℕ) → InRange (signed mask x)
unfolding signed
signed_range mask x = go (leb 128 x)
  where
    go : (b : Bool) → InRange (cond b (pos (bit_xor x mask % 128)) (negsuc (bit_xor x mask % 128)))
    go true = omega arith
    go false = omega arith

-- signed numbers in range are told by their places on the line
pub told-by-line : (v w : ℤ) → InRange v → InRange w → on_line v ≡ on_line w → v ≡ w
told-by-line (pos a) (pos b) g h e = ap pos (omega arith)
told-by-line (pos a) (negsuc b) g h e = absurd (omega arith)
told-by-line (negsuc a) (pos b) g h e = absurd (omega arith)
told-by-line (negsuc a) (negsuc b) g h e = ap negsuc (omega arith)

-- the tests: an octet comes back from its signed number, and a signed number, in its place on the line, from its octet
abbrev comes_back : ℕ → ℕ → Bool
comes_back mask x = eqb (sample_of mask (signed mask x)) x

abbrev is_there : ℕ → ℤ → Bool
is_there mask v = eqb (on_line (signed mask (sample_of mask v))) (on_line v) && leb (sample_of mask v) 255

record Passes (mask : ℕ) : Type 0 where
  octets : all_below (comes_back mask) 256 ≡ true
  above : all_below (λ y. is_there mask (pos y)) 128 ≡ true
  below : all_below (λ y. is_there mask (negsuc y)) 128 ≡ true

there : {mask : ℕ} → Passes mask → (v : ℤ) → InRange v → is_there mask v ≡ true
there {mask} t (pos y) h = all_below-at (λ y. is_there mask (pos y)) 128 t.above y h
there {mask} t (negsuc y) h = all_below-at (λ y. is_there mask (negsuc y)) 128 t.below y h

law-of : {mask : ℕ} → Passes mask → LawMask mask
law-of {mask} t =
    record {
      back = λ x h. eqb-true _ _ (all_below-at (comes_back mask) 256 t.octets x h);
      forth = λ v h. told-by-line (signed mask (sample_of mask v)) v (signed_range mask (sample_of mask v)) h
          (eqb-true _ _ (and_left (eqb (on_line (signed mask (sample_of mask v))) (on_line v)) (leb (sample_of mask v) 255) (there t v h)));
      octet = λ v h. suc-le-suc
          (leb-true (sample_of mask v) 255
          (and_right (eqb (on_line (signed mask (sample_of mask v))) (on_line v)) (leb (sample_of mask v) 255) (there t v h)));
    }

-- both laws' masks
pub law-mask : (law : ℕ) → LawMask (mask_of law)
unfolding signed sample_of
law-mask law = go (eqb law 0)
  where
    go : (b : Bool) → LawMask (cond b 0x55 0x7F)
    go true = law-of (record { octets = refl; above = refl; below = refl })
    go false = law-of (record { octets = refl; above = refl; below = refl })

-- "The map is one to one."
pub signed-one-to-one : {mask : ℕ} → LawMask mask → (x y : ℕ) → x < 256 → y < 256 → signed mask x ≡ signed mask y → x ≡ y
signed-one-to-one {mask} l x y g h e = sym (l.back x g) ∙ ap (sample_of mask) e ∙ l.back y h

pub sample_of-one-to-one : {mask : ℕ} → LawMask mask → (v w : ℤ) → InRange v → InRange w → sample_of mask v ≡ sample_of mask w → v ≡ w
sample_of-one-to-one {mask} l v w g h e = sym (l.forth v g) ∙ ap (signed mask) e ∙ l.forth w h

-- "plus zero is 0, minus zero is -1", as octets
pub plus-zero : (mask : ℕ) → plus_zero mask ≡ 128 + mask
unfolding sample_of
plus-zero mask = rw xor_zero_l

pub minus-zero : (mask : ℕ) → minus_zero mask ≡ mask
unfolding sample_of
minus-zero mask = xor_zero_l mask
