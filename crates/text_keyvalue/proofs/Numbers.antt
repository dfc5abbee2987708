-- A number read digit by digit, as the code holds it (specs/Reading, capped).
use Prim.Native.Nat.{ℕ, ◌+◌, ◌*◌, ◌-◌, ◌≤◌, ◌<◌, min}
use mathlib.Core.Path.{◌≡◌, sym, ap, ◌∙◌}
use mathlib.Core.List.{List, [], ◌∷◌}
use mathlib.Core.Bool.{Bool, true, false, cond}
use native.Mathlib.Omega.{arith}
use native.Mathlib.Numerals.{add-one}
use lib.ListN.{length, get_or, drop, take, drop_of_length-le}
use lib.Seq.{drop-cons}
use Rattle.std.proofs.lemmas.List.{take_rest, get_or-drop, length-drop}
use lib.Dec.{leb}
use borrow.Author.Tests.{leb-true, eq-eqb, ne_eqb}
use Rattle.rules.proofs.Tests.{and_left, and_right}
use Rattle.std.specs.Prelude.{Option}
use Rattle.text_keyvalue.specs.Reading.{Read, whole, none, is_digit, digits_on, decimal_on, number, most, capped, as_read}

-- what a callee told, taken apart
pub told : {A : Type 0} {r x : Option (A × ℕ)} {found : Read A} → r ≡ x → as_read r ≡ found → as_read x ≡ found
told e f = sym (ap as_read e) ∙ f

pub digit-range : (x : ℕ) → is_digit x ≡ true → (48 ≤ x) × (x ≤ 57)
digit-range x h = (leb-true 48 x (and_left (leb 48 x) (leb x 57) h), leb-true x 57 (and_right (leb 48 x) (leb x 57) h))

-- what is too large at a digit is so at the end
pub digits-capped : (v i : ℕ) (text : List ℕ) → capped (digits_on v i text) ≡ capped (digits_on (min v most) i text)
unfolding digits_on
digits-capped v i [] = ap (λ (n : ℕ). whole n i) (omega arith)
digits-capped v i (x ∷ text) =
    go (is_digit x)
    (digits-capped (10 * v + (x - 48)) (i + 1) text ∙ ap (λ (n : ℕ). capped (digits_on n (i + 1) text)) (omega arith)
    ∙ sym (digits-capped (10 * min v most + (x - 48)) (i + 1) text))
  where
    go : (b : Bool) → capped (digits_on (10 * v + (x - 48)) (i + 1) text) ≡ capped (digits_on (10 * min v most + (x - 48)) (i + 1) text)
        → capped (cond b (digits_on (10 * v + (x - 48)) (i + 1) text) (whole v i))
        ≡ capped (cond b (digits_on (10 * min v most + (x - 48)) (i + 1) text) (whole (min v most) i))
    go true e = e
    go false e = ap (λ (n : ℕ). whole n i) (omega arith)

-- the octet at a place, and those after it
pub drop-next : (text : List ℕ) (i : ℕ) → i < length text → drop i text ≡ get_or text i 0 ∷ drop (i + 1) text
drop-next text i h = rw (add-one) (drop-cons text i 0 h)

module _ (text : List ℕ) (v i : ℕ) where
  pub digits-end : length text ≤ i → v ≤ most → capped (digits_on v i (drop i text)) ≡ whole v i
  unfolding digits_on
  digits-end h l = rw (drop_of_length-le text h) (ap (λ (n : ℕ). whole n i) (omega arith))

  module _ (h : i < length text) where
    pub digits-stop : v ≤ most → is_digit (get_or text i 0) ≡ false → capped (digits_on v i (drop i text)) ≡ whole v i
    unfolding digits_on
    digits-stop l e = rw (drop-cons text i 0 h, e) (ap (λ (n : ℕ). whole n i) (omega arith))

    pub digits_step : is_digit (get_or text i 0) ≡ true
        → capped (digits_on v i (drop i text)) ≡ capped (digits_on (min (10 * v + (get_or text i 0 - 48)) most) (i + 1) (drop (i + 1) text))
    unfolding digits_on
    digits_step e = rw (drop-next text i h, e) (digits-capped (10 * v + (get_or text i 0 - 48)) (i + 1) (drop (i + 1) text))

module _ (text : List ℕ) (at : ℕ) where
  pub number_past : length text ≤ at → capped (number text at) ≡ none
  unfolding number decimal_on
  number_past h = rw (drop_of_length-le text h)

  module _ (h : at < length text) where
    pub number-zero : get_or text at 0 ≡ 48 → capped (number text at) ≡ whole 0 (at + 1)
    unfolding number decimal_on
    number-zero e = rw (drop-cons text at 0 h, eq-eqb _ _ e)

    pub number-not : (get_or text at 0 ≡ 48 → ⊥) → is_digit (get_or text at 0) ≡ false → capped (number text at) ≡ none
    unfolding number decimal_on
    number-not z e = rw (drop-cons text at 0 h, ne_eqb _ _ z, e)

    pub number-start : (get_or text at 0 ≡ 48 → ⊥) → is_digit (get_or text at 0) ≡ true
        → capped (number text at) ≡ capped (digits_on (min (10 * 0 + (get_or text at 0 - 48)) most) (at + 1) (drop (at + 1) text))
    unfolding number decimal_on
    number-start z e =
        let n : 10 * 0 + (get_or text at 0 - 48) ≡ get_or text at 0 - 48 = omega arith in
        rw (n, drop-next text at h, ne_eqb _ _ z, e) (digits-capped (get_or text at 0 - 48) (at + 1) (drop (at + 1) text))

-- the octets that are read one after another
pub octet_on : (text : List ℕ) (at i : ℕ) → get_or (take (length text - at) (drop at text)) i 0 ≡ get_or text (at + i) 0
octet_on text at i = rw (take_rest text at) (get_or-drop at text i 0)

pub octets_on : (text : List ℕ) (at : ℕ) → length (take (length text - at) (drop at text)) ≡ length text - at
octets_on text at = rw (take_rest text at) (length-drop at text)
