-- Laws of the choice, tool by tool.
use Prim.Native.Nat.{ℕ, ◌+◌, ◌≤◌}
use mathlib.Core.Path.{◌≡◌, refl, sym, ◌∙◌}
use mathlib.Core.List.{List, [], ◌∷◌}
use mathlib.Core.Bool.{Bool, true, false, cond, ◌&&◌}
use native.Mathlib.Omega.{arith}
use lib.ListN.{length, length-append, length-map}
use lib.Dec.{leb}
use Rattle.rules.specs.Tools.{holds}
use Rattle.rules.specs.Chooses.{applies, form_of, octets_of_form, choose}
use Rattle.rules.proofs.Octets.{length-low_bits, length-bits_of}
use Rattle.rules.proofs.Tests.{and_left}
use Rattle.write_measure.proofs.Weighing.{cond_of}
use Rattle.write_scan.proofs.Tests.{never}
use Rattle.write_offers.specs.declared.Choice.{Choice}
use Rattle.write_offers.specs.Offers.{whole_bits}
use Rattle.write_offers.specs.Ties.{taken, BetterIs, ChosenIs}

-- what `better` gives, by its test
pub better-not : {best : Choice} {t : ℕ} {a : Bool} {b : ℕ} → best.bits ≤ 1000000000 → taken best a b ≡ false → BetterIs best t a b best
better-not h e = record { tool = rw e; size = rw e; small = h }

pub better-yes : {best : Choice} {t : ℕ} {a : Bool} {b : ℕ} → b ≤ 1000000000 → taken best a b ≡ true
    → BetterIs best t a b (record { tool = t; bits = b })
better-yes h e = record { tool = rw e; size = rw e; small = h }

-- one tool more
module _ {mask set : ℕ} {s ts : List ℕ} {best r : Choice} (done : ChosenIs mask set s ts best) where
  pub choose-step : (t : ℕ) (a : Bool) (b : ℕ) → a ≡ (holds set t && applies mask t s) → (a ≡ true → b ≡ length (form_of mask t s))
      → BetterIs best t a b r → ChosenIs mask set s (t ∷ ts) r
  unfolding choose
  choose-step t true b e f better =
      let q = leb (octets_of_form mask s t) (octets_of_form mask s (choose mask set s ts)) in
      let test : taken best true b ≡ (holds set t && applies mask t s && q) = rw (f refl, done.bits, ← e) in
      record {
        tool = better.tool ∙ rw (test, done.tool);
        bits =
            better.size ∙ rw (test, f refl, done.bits)
            (cond_of (λ u. length (form_of mask u s)) (holds set t && applies mask t s && q) t (choose mask set s ts));
        small = better.small;
      }
  choose-step t false b e f better =
      let q = leb (octets_of_form mask s t) (octets_of_form mask s (choose mask set s ts)) in
      let none : (holds set t && applies mask t s && q) ≡ false = rw (← e) in
      record { tool = better.tool ∙ rw (none, done.tool); bits = better.size ∙ rw (none, done.bits); small = better.small }

-- a tool that the set lacks or that does not apply
pub choose-past : {mask set : ℕ} {s ts : List ℕ} {r : Choice} (t : ℕ) → (holds set t && applies mask t s) ≡ false
    → ChosenIs mask set s ts r → ChosenIs mask set s (t ∷ ts) r
choose-past t e done = choose-step done t false 0 (sym e) (λ h. absurd (never h)) (better-not done.small refl)

-- a tool that was chosen is held and applies
pub chosen-offered : (mask set : ℕ) (s ts : List ℕ) (t : ℕ) → choose mask set s ts ≡ t → (1 ≡ t → ⊥)
    → (holds set t && applies mask t s) ≡ true
unfolding choose
chosen-offered mask set s [] t e ne = absurd (ne e)
chosen-offered mask set s (u ∷ ts) t e ne =
    step (holds set u && applies mask u s && leb (octets_of_form mask s u) (octets_of_form mask s (choose mask set s ts))) refl e
    (λ g. chosen-offered mask set s ts t g ne)
  where
    q : Bool
    q = leb (octets_of_form mask s u) (octets_of_form mask s (choose mask set s ts))

    step : (b : Bool) → (holds set u && applies mask u s && q) ≡ b → cond b u (choose mask set s ts) ≡ t
        → (choose mask set s ts ≡ t → (holds set t && applies mask t s) ≡ true) → (holds set t && applies mask t s) ≡ true
    step true f g later = rw g at (and_left (holds set u && applies mask u s) q f)
    step false f g later = later g

-- the bits of the plain forms, and where they apply
module _ (mask : ℕ) (s : List ℕ) {n : ℕ} (size : length s ≡ n) where
  pub uncompressed-bits : whole_bits 1 n ≡ length (form_of mask 1 s)
  unfolding form_of
  uncompressed-bits = rw (length-append, length-low_bits, length-bits_of, size)

  pub uncompressed-chosen : (set : ℕ) → n ≤ 320 → ChosenIs mask set s [] (record { tool = 1; bits = whole_bits 1 n })
  unfolding choose
  uncompressed-chosen set few = record { tool = refl; bits = uncompressed-bits; small = omega arith }

  pub binary-bits : 8 + n ≡ length (form_of mask 5 s)
  unfolding form_of
  binary-bits = rw (length-append, length-low_bits, length-map, size)

  pub constant-bits : 16 ≡ length (form_of mask 4 s)
  unfolding form_of
  constant-bits = rw (length-append, length-low_bits, length-low_bits)

  pub minus-bits : 8 ≡ length (form_of mask 3 s)
  unfolding form_of
  minus-bits = rw length-low_bits

  pub plus-bits : 8 ≡ length (form_of mask 2 s)
  unfolding form_of
  plus-bits = rw length-low_bits
