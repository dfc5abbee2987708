-- The digit of a sample by (7-77) is its place among the row's values: `digit-told`.
use Prim.Native.Nat.{ℕ, suc, ◌+◌, ◌-◌, ◌%◌, ◌≤◌, ◌<◌}
use mathlib.Core.Path.{◌≡◌, refl, sym, ap, ap₂, ◌∙◌}
use mathlib.Core.List.{List, [], ◌∷◌, map}
use mathlib.Core.Bool.{Bool, true, false, cond}
use native.Mathlib.Omega.{arith}
use borrow.Author.Tests.{ltb-true, ltb-false, le-leb, lt-leb}
use lib.Bits.{bit_xor}
use lib.Dec.{ltb}
use lib.IntN.{pos, negsuc}
use lib.ListN.{get_or}
use Rattle.rules.specs.Samples.{signed, sample_of}
use Rattle.rules.specs.Fractional.{radix, low_at, below_at, digit_for, value_for}
use Rattle.rules.specs.Fractional.{groups_form_as, place_in, samples_at, fractional_body}
use Rattle.rules.proofs.Octets.{Below, more, below_all}
use Rattle.rules.proofs.Signed.{InRange, LawMask}
use Rattle.rules.proofs.Fractional.{place-back, radix-range, row_small, length-samples_at, sample-told}
use Rattle.value_rows.specs.declared.Row.{Row}
use Rattle.value_rows.specs.Rows.{RowIs}
use Rattle.write_fractional.specs.Digits.{digits_in, body_in, DigitsFit}

-- (7-77), as the code has it
module _ (mask x low below : ℕ) where
  pub digit-up : 128 ≤ x → below + bit_xor x mask % 128 ≡ digit_for low below (signed mask x)
  unfolding signed
  digit-up h = rw (le-leb 128 x h) refl

  pub digit-down : x < 128 → {d : ℕ} → d ≡ low - (bit_xor x mask % 128 + 1) → d ≡ digit_for low below (signed mask x)
  unfolding signed
  digit-down h e = e ∙ rw (lt-leb 128 x h) (omega arith)

-- the digit of the value of a digit
digit-back : (low below d : ℕ) → below ≤ low → digit_for low below (value_for low below d) ≡ d
digit-back low below d h = go (ltb d below) refl
  where
    go : (b : Bool) → ltb d below ≡ b → digit_for low below (cond b (negsuc (low - suc d)) (pos (d - below))) ≡ d
    go true e = let k = ltb-true d below e in omega arith
    go false e = let k = ltb-false d below e in omega arith

value-in-range : (low below d : ℕ) → low ≤ 4 → d < 6 → InRange (value_for low below d)
value-in-range low below d h k = go (ltb d below)
  where
    go : (b : Bool) → InRange (cond b (negsuc (low - suc d)) (pos (d - below)))
    go true = omega arith
    go false = omega arith

pub digit-told : {mask : ℕ} → LawMask mask → (k x : ℕ) → k < 12 → place_in (samples_at mask k) x < radix k
    → place_in (samples_at mask k) x ≡ digit_for (low_at k) (below_at k) (signed mask x)
digit-told {mask} l k x h p =
    let d = place_in (samples_at mask k) x in
    let low = low_at k in
    let below = below_at k in
    let small = row_small k h in
    let few = radix-range k h in
    let x-is : x ≡ sample_of mask (value_for low below d)
    = sym (place-back (samples_at mask k) x (rw (length-samples_at mask k) p)) ∙ sample-told mask k d h p in
    let v : signed mask x ≡ value_for low below d = ap (signed mask) x-is
    ∙ l.forth (value_for low below d) (value-in-range low below d small.1 (omega (arith, few.1))) in
    sym (ap (digit_for low below) v ∙ digit-back low below d small.0)

-- so of all samples of a frame
map-told : {r : ℕ} (f g : ℕ → ℕ) → ((x : ℕ) → f x < r → f x ≡ g x) → (s : List ℕ) → Below r (map f s) → map f s ≡ map g s
map-told f g e [] b = refl
map-told f g e (x ∷ s) (more h b) = ap₂ ◌∷◌ (e x h) (map-told f g e s b)

pub digits-told : {mask : ℕ} → LawMask mask → (k : ℕ) → k < 12 → {row : Row} → RowIs k row → (s : List ℕ)
    → Below (radix k) (map (place_in (samples_at mask k)) s) → map (place_in (samples_at mask k)) s ≡ digits_in mask row s
digits-told {mask} l k h {row} is s b =
    rw (is.low, is.below)
    (map-told (place_in (samples_at mask k)) (λ x. digit_for (low_at k) (below_at k) (signed mask x)) (λ x p. digit-told l k x h p) s b)

-- so they fit the row, and make its body
module _ {mask : ℕ} (l : LawMask mask) (k : ℕ) (h : k < 12) {row : Row} (is : RowIs k row) (s : List ℕ)
    (each : (i : ℕ) → get_or (map (place_in (samples_at mask k)) s) i 0 < radix k) where
  told : map (place_in (samples_at mask k)) s ≡ digits_in mask row s
  told = digits-told l k h is s (below_all (map (place_in (samples_at mask k)) s) each)

  pub digits-fit-row : DigitsFit mask row s
  digits-fit-row =
      let range = radix-range k h in
      let small = row_small k h in
      record {
        some = rw is.radix range.0;
        few = rw is.radix range.1;
        under = rw (is.low, is.below) small.0;
        least = rw is.low small.1;
        each = λ i. rw (← told, is.radix) (each i);
      }

  pub body-told : body_in mask row s ≡ fractional_body mask k s
  unfolding groups_form_as
  body-told = rw (← told, is.radix) refl
