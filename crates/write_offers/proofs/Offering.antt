-- Laws of each tool's offer.
use Prim.Native.Nat.{ℕ, ◌+◌, ◌≤◌, ◌<◌}
use mathlib.Core.Path.{◌≡◌, refl, sym, ap, ap₂, ◌∙◌}
use mathlib.Core.Logic.{◌⊎◌, inl, inr}
use mathlib.Core.List.{List}
use mathlib.Core.Bool.{Bool, true, false}
use native.Mathlib.Omega.{arith}
use borrow.Author.Tests.{ne_eqb, eqb-true, lt-leb, le-leb}
use lib.ListN.{length, get_or, length-append}
use lib.Dec.{eqb, leb}
use Rattle.rules.specs.Tools.{is_tool}
use Rattle.rules.proofs.Tests.{by-tool}
use Rattle.rules.specs.Samples.{plus_zero, minus_zero}
use Rattle.rules.specs.Chooses.{Row, none as no_row, row as the_row, every, has_row, row_number, row_of, applies, form_of, rice_choice, located_form}
use Rattle.rules.specs.Chooses.{frame_row, fractional_applies, fractional_form, least_of, greatest_of}
use Rattle.rules.specs.Bits.{low_bits}
use Rattle.rules.specs.Fractional.{first_code, body_bits, fractional_body}
use Rattle.rules.proofs.Octets.{length-low_bits}
use Rattle.rules.proofs.Fractional.{length-body}
use Rattle.write_scan.specs.Looks.{near_by, near, two_zeros}
use Rattle.write_scan.proofs.Tests.{never}
use Rattle.rules.proofs.FrameRow.{the_row as told_row, row-extent}
use Rattle.write_fractional.specs.Keys.{row_in}
use Rattle.write_located.proofs.Near.{row_near, zeros-near}
use Rattle.std.proofs.Common.{Option, Some, None, Result, Ok, Err, IsErrAnd}
use Rattle.std.proofs.lemmas.Result.{err_from_is_err_and}
use Rattle.write_offers.specs.declared.Condition.{Condition}
use Rattle.write_offers.specs.declared.Condition.TheVariants.{Only, Length, Row as RowLacks}
use Rattle.write_offers.specs.Offers.{condition_told, whole_bits, failing, OfferIs, offer_if}
use Rattle.write_offers.proofs.Choosing.{uncompressed-bits, plus-bits, minus-bits, constant-bits}

-- a tool that is not 11
pub low-tool : (t : ℕ) → is_tool t ≡ true → (t ≡ 11 → ⊥) → (1 ≤ t) × (t ≤ 7)
low-tool t h =
    by-tool (λ t. (t ≡ 11 → ⊥) → (1 ≤ t) × (t ≤ 7)) (λ z. (omega arith, omega arith)) (λ z. (omega arith, omega arith))
    (λ z. (omega arith, omega arith)) (λ z. (omega arith, omega arith))
    (λ z. (omega arith, omega arith)) (λ z. (omega arith, omega arith)) (λ z. (omega arith, omega arith)) (λ z. absurd (z refl)) t h

abbrev Offer : Type 0
Offer = Result ℕ Condition

-- a tool of one condition, by whether it is met
pub met : (mask t : ℕ) (s : List ℕ) {b : ℕ} {r : Offer} → applies mask t s ≡ true → b ≡ length (form_of mask t s)
    → b ≤ 1000000000 → r ≡ Ok b → OfferIs mask t s r
met mask t s e f few told = rw told (e, (f, few))

pub unmet : (mask t : ℕ) (s : List ℕ) {r : Offer} → (t ≡ 7 → ⊥) → applies mask t s ≡ false → r ≡ Err Only
    → OfferIs mask t s r
unfolding failing
unmet mask t s other e told = rw told (e, rw (e, ne_eqb t 7 other))

pub offer-one : (mask t : ℕ) (s : List ℕ) {a : Bool} {b : ℕ} {r : Offer} → t ≤ 6 → applies mask t s ≡ a → b ≡ length (form_of mask t s)
    → b ≤ 1000000000 → r ≡ offer_if a b → OfferIs mask t s r
offer-one mask t s {a = true} low e f few told = met mask t s e f few told
offer-one mask t s {a = false} low e f few told = unmet mask t s (λ z. omega arith) e told

-- a row that was looked for
held-in : (r : Row) (k : ℕ) → Some k ≡ row_in r → has_row r ≡ true
held-in no_row k e = cc
held-in (the_row j) k e = refl

number-in : (r : Row) (k : ℕ) → Some k ≡ row_in r → k ≡ row_number r
number-in no_row k e = cc
number-in (the_row j) k e = cc

none-in : (r : Row) → ◌≡◌ {A = Option ℕ} None (row_in r) → has_row r ≡ false
none-in no_row e = refl
none-in (the_row j) e = cc

-- what fails, handed on
pub handed_on : {A E : Type 0} (r : Result A E) {why : E} → IsErrAnd r (λ e. e ≡ why) → r ≡ Err why
handed_on r h = let p = err_from_is_err_and r h in rw (p.1, p.2)

-- tools 1 to 4
module _ (mask : ℕ) (s : List ℕ) where
  pub uncompressed-offer : {n b : ℕ} {r : Offer} → length s ≡ n → n ≤ 320 → b ≡ whole_bits 1 n → r ≡ offer_if true b → OfferIs mask 1 s r
  unfolding applies
  uncompressed-offer size few e told = offer-one mask 1 s (omega arith) refl (e ∙ uncompressed-bits mask s size) (omega arith) told

  -- all samples are x
  abbrev all_are : ℕ → ℕ → Offer
  all_are x b = offer_if (every (λ y. eqb y x) s) b

  pub plus-offer : {x b : ℕ} {r : Offer} → x ≡ plus_zero mask → b ≡ 8 → r ≡ all_are x b → OfferIs mask 2 s r
  unfolding applies
  plus-offer {b = b} e f told =
      offer-one mask 2 s (omega arith) refl (f ∙ plus-bits mask s refl) (omega arith) (told ∙ ap (λ (z : ℕ). all_are z b) e)

  pub minus-offer : {x b : ℕ} {r : Offer} → x ≡ minus_zero mask → b ≡ 8 → r ≡ all_are x b → OfferIs mask 3 s r
  unfolding applies
  minus-offer {b = b} e f told =
      offer-one mask 3 s (omega arith) refl (f ∙ minus-bits mask s refl) (omega arith) (told ∙ ap (λ (z : ℕ). all_are z b) e)

  pub constant-offer : {x b : ℕ} {r : Offer} → x ≡ get_or s 0 0 → b ≡ 16 → r ≡ all_are x b → OfferIs mask 4 s r
  unfolding applies
  constant-offer {b = b} e f told =
      offer-one mask 4 s (omega arith) refl (f ∙ constant-bits mask s refl) (omega arith) (told ∙ ap (λ (z : ℕ). all_are z b) e)

  -- tool 6
  pub rice-form : length (rice_choice mask s) ≡ length (form_of mask 6 s)
  unfolding form_of
  rice-form = refl

  -- tool 11
  pub fractional-form : 8 + body_bits (row_number (frame_row mask s)) (length s) ≡ length (form_of mask 11 s)
  unfolding form_of fractional_form
  fractional-form =
      let k = row_number (frame_row mask s) in
      sym (length-append (low_bits 8 (first_code (length s) + k)) (fractional_body mask k s)
      ∙ ap₂ ◌+◌ (length-low_bits 8 (first_code (length s) + k)) (length-body mask k s))

  module _ {k : ℕ} (row : Some k ≡ row_in (frame_row mask s)) where
    pub row-held : has_row (frame_row mask s) ≡ true
    row-held = held-in (frame_row mask s) k row

    pub row_number_lem : k ≡ row_number (frame_row mask s)
    row_number_lem = number-in (frame_row mask s) k row

    pub row-few : k < 12
    row-few = rw row_number_lem (told_row mask s row-held).few

    pub row-bits : 8 + body_bits k (length s) ≡ length (form_of mask 11 s)
    row-bits = rw row_number_lem fractional-form

    pub row-applies : applies mask 11 s ≡ true
    unfolding applies
    row-applies = row-held

  pub row-unmet : ◌≡◌ {A = Option ℕ} None (row_in (frame_row mask s)) → applies mask 11 s ≡ false
  unfolding applies
  row-unmet row = none-in (frame_row mask s) row

  -- value-location by its conditions in turn: the length, the row, the frequency of 0
  pub located-form : length (located_form mask s) ≡ length (form_of mask 7 s)
  unfolding form_of
  located-form = refl

  pub near-fails : (why : Condition) {r : Offer} → applies mask 7 s ≡ false → condition_told why ≡ failing mask 7 s → r ≡ Err why
      → OfferIs mask 7 s r
  near-fails why off e told = rw told (off, e)

  module _ {n : ℕ} (size : length s ≡ n) where
    pub short-offer : {r : Offer} → n < 80 → r ≡ Err Length → OfferIs mask 7 s r
    unfolding failing applies
    short-offer h told = let e : leb 80 (length s) ≡ false = lt-leb 80 (length s) (omega arith) in rw told (rw e, rw e)

    pub rowless : 80 ≤ n → has_row (row_of mask s) ≡ false → (applies mask 7 s ≡ false) × (2 ≡ failing mask 7 s)
    unfolding failing applies
    rowless h g =
        let e : leb 80 (length s) ≡ true = le-leb 80 (length s) (omega arith) in
        (rw (e, g), rw (e, g))

    pub far-offer : {r : Offer} → 80 ≤ n → near (least_of mask s) (greatest_of mask s) ≡ false → r ≡ Err RowLacks
        → OfferIs mask 7 s r
    far-offer h far told = let l = rowless h (ap has_row (row_near mask s far)) in near-fails RowLacks l.0 l.1 told

    pub rare : 80 ≤ n → has_row (row_of mask s) ≡ true → applies mask 7 s ≡ false → 3 ≡ failing mask 7 s
    unfolding failing
    rare h g off = rw (off, le-leb 80 (length s) (omega arith), g)

-- frames that have no row: one with a sample below -4 or above 3, and one of the two zeros
pub far-unrowed : (mask : ℕ) (s : List ℕ) → near_by 4 (least_of mask s) (greatest_of mask s) ≡ false → applies mask 11 s ≡ false
unfolding applies
far-unrowed mask s far = go (fractional_applies mask s) refl
  where
    go : (b : Bool) → fractional_applies mask s ≡ b → b ≡ false
    go true e =
        let r = row-extent mask s e in
        absurd (never (sym far ∙ rw (le-leb 124 (least_of mask s) r.low, le-leb (greatest_of mask s) 131 (omega (arith, r.high))) refl))
    go false e = refl

pub zeros-unrowed : (mask : ℕ) → mask < 128 → (s : List ℕ) → two_zeros mask s ≡ true → applies mask 11 s ≡ false
unfolding applies
zeros-unrowed mask m s e = go (fractional_applies mask s) refl
  where
    go : (b : Bool) → fractional_applies mask s ≡ b → b ≡ false
    go true f = either (row-extent mask s f).wide
      where
        either : least_of mask s < 127 ⊎ 128 < greatest_of mask s → true ≡ false
        either (inl h) = absurd (let i = zeros-near mask m s (eqb-true _ _ e) in omega (arith, i.0))
        either (inr h) = absurd (let i = zeros-near mask m s (eqb-true _ _ e) in omega (arith, i.1))
    go false f = refl
