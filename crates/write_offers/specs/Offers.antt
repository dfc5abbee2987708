-- What a tool offers for a frame. Document 02, R-10: "Value-location's conditions are 1 the length, 2 the row, 3 the frequency of 0; other
-- tools have one, numbered 1."
use Rattle.std.specs.Prelude.{ℕ, ◌+◌, ◌*◌, ◌≤◌, ◌≡◌, List, Bool, true, false, cond, length, eqb, leb, Result, Ok, Err}
use Rattle.rules.specs.Samples.{plus_zero, minus_zero}
use Rattle.rules.specs.Chooses.{has_row, row_of, applies, form_of}
use Rattle.write_scan.specs.Looks.{count_is}
use Rattle.write_located.specs.Rows.{LocatedIs}
use Rattle.write_located.specs.declared.Located.{Located}
use Rattle.write_offers.specs.declared.Condition.{Condition}
use Rattle.write_offers.specs.declared.Condition.TheVariants.{Only, Length, Row, Frequency}
use Rattle.write_offers.specs.declared.TwoCounts.{TwoCounts}

-- a condition's number
abbrev pub condition_told : Condition → ℕ
condition_told Only = 1
condition_told Length = 1
condition_told Row = 2
condition_told Frequency = 3

pub condition-not-zero : (why : Condition) → condition_told why ≡ 0 → ⊥
condition-not-zero Only e = cc
condition-not-zero Length e = cc
condition-not-zero Row e = cc
condition-not-zero Frequency e = cc

-- the bits of tools 1 to 4: the first octet, and "N octets" or the one sample
abbrev pub whole_bits : ℕ → ℕ → ℕ
whole_bits t n = cond (eqb t 1) (8 + 8 * n) (cond (eqb t 4) 16 8)

-- the first of a tool's conditions that fails, or 0 where it applies
unfoldable pub failing : ℕ → ℕ → List ℕ → ℕ
failing mask t s = cond (applies mask t s) 0 (cond (eqb t 7) (cond (leb 80 (length s)) (cond (has_row (row_of mask s)) 3 2) 1) 1)

-- a tool's offer: its form's bits where it applies, else that condition
abbrev pub OfferIs : ℕ → ℕ → List ℕ → Result ℕ Condition → Type 0
OfferIs mask t s (Ok bits) = (applies mask t s ≡ true) × ((bits ≡ length (form_of mask t s)) × (bits ≤ 1000000000))
OfferIs mask t s (Err why) = (applies mask t s ≡ false) × (condition_told why ≡ failing mask t s)

-- the offer of a tool that has one condition
abbrev pub offer_if : Bool → ℕ → Result ℕ Condition
offer_if met bits = cond met (Ok bits) (Err Only)

-- how many samples are of each zero
pub record ZerosCounted (mask : ℕ) (s : List ℕ) (r : TwoCounts) : Type 0 where
  pub plus : r.plus ≡ count_is (plus_zero mask) s
  pub minus : r.minus ≡ count_is (minus_zero mask) s
  pub few-plus : r.plus ≤ 320
  pub few-minus : r.minus ≤ 320

-- value-location's offer with what it would write
abbrev pub NearIs : ℕ → List ℕ → Result Located Condition → List ℕ → List ℕ → List ℕ → Type 0
NearIs mask s (Ok w) a b c = (applies mask 7 s ≡ true) × (LocatedIs mask s w a b c)
NearIs mask s (Err why) a b c = (applies mask 7 s ≡ false) × (condition_told why ≡ failing mask 7 s)
