-- Laws of the plans: what is written of a frame of the two zeros, of one that has a 1 or a -2, and of what is last in the tie order.
use Prim.Native.Nat.{ℕ, ◌+◌, ◌/◌, ◌≤◌, ◌<◌}
use mathlib.Core.Path.{◌≡◌, refl, sym, ap, ◌∙◌}
use mathlib.Core.List.{List, [], ◌∷◌, map}
use mathlib.Core.Bool.{Bool, true, false, cond, ◌&&◌}
use native.Mathlib.Omega.{arith}
use borrow.Author.Tests.{lt-leb, leb-false, eq-eqb, ne_eqb, eqb-true, eqb-false}
use lib.ListN.{length}
use lib.Dec.{eqb, leb}
use Rattle.rules.specs.Tools.{holds}
use Rattle.rules.specs.Zeros.{flag_of}
use Rattle.rules.specs.Fractional.{body_bits}
use Rattle.rules.specs.Chooses.{applies, form_of, choose, chosen_tool, least_of, greatest_of, frame_row}
use Rattle.write_scan.specs.Looks.{near, two_zeros}
use Rattle.write_scan.specs.declared.row.Row.{Row}
use Rattle.write_scan.specs.Rows.{RowIs}
use Rattle.write_offers.specs.declared.Choice.{Choice}
use Rattle.std.proofs.Common.{Option, Some, None}
use Rattle.write_fractional.specs.Keys.{row_in}
use Rattle.write_offers.specs.Offers.{whole_bits}
use Rattle.write_zeros.specs.declared.Zeros.{Zeros}
use Rattle.write_located.specs.declared.Located.{Located}
use Rattle.write_located.specs.Rows.{LocatedIs}
use Rattle.write_zeros.specs.Rice.{RiceIs}
use Rattle.write_offers.specs.Ties.{taken, BetterIs, ChosenIs}
use Rattle.write_choice.specs.declared.plans.Plain.{Plain}
use Rattle.write_choice.specs.declared.plans.ZerosPlan.TheVariants.{Whole, Binary, Rice}
use Rattle.write_choice.specs.declared.plans.NearPlan.TheVariants.{Last, Values}
use Rattle.write_choice.specs.Plans.{measured, Left, Chosen, LastIs}
use Rattle.write_choice.specs.Plans.{ZerosPlanned, plain_by, zeros_by, NearPlanned, seven_or, near_by}
use Rattle.write_scan.proofs.Tests.{never, and_zero}
use Rattle.write_located.proofs.Near.{zeros-unlocated}
use Rattle.write_zeros.proofs.TwoZeros.{rice-applies, zeros-apply}
use Rattle.write_offers.proofs.Choosing.{choose-step, choose-past, chosen-offered, uncompressed-chosen, binary-bits}
use Rattle.write_choice.proofs.Settling.{among, alone}
use Rattle.write_offers.proofs.Offering.{rice-form, located-form, row_number_lem, row-bits, row-applies, row-held, row-unmet, zeros-unrowed}

pub past : (set t : ℕ) {a : Bool} → a ≡ false → (holds set t && a) ≡ false
past set t e = rw e (and_zero (holds set t))

offers : (set t : ℕ) {a : Bool} → a ≡ true → holds set t ≡ (holds set t && a)
offers set t e = rw e (sym (both (holds set t)))
  where
    both : (b : Bool) → (b && true) ≡ b
    both true = refl
    both false = refl

-- uncompressed, from which each choice goes on
uncompressed-is : (mask set : ℕ) (s : List ℕ) {n : ℕ} {first : Choice} → length s ≡ n → n ≤ 320
    → first ≡ record { tool = 1; bits = whole_bits 1 n } → ChosenIs mask set s [] first
uncompressed-is mask set s size few e = rw e (uncompressed-chosen mask s size set few)

-- the best of some tools, where the choice is among them
pub chosen-among : {mask set : ℕ} {s ts : List ℕ} {r : Choice} → chosen_tool mask set s ≡ choose mask set s ts → ChosenIs mask set s ts r
    → Chosen mask set s r
chosen-among {mask} {s = s} e c =
    record { tool = c.tool ∙ sym e; bits = c.bits ∙ ap (λ (t : ℕ). length (form_of mask t s)) (sym e); small = c.small }

-- a tool that was chosen, by the bits of its form
chosen_is : {mask set b : ℕ} {s : List ℕ} (t : ℕ) → chosen_tool mask set s ≡ t → b ≡ length (form_of mask t s) → b ≤ 1000000000
    → Chosen mask set s (record { tool = t; bits = b })
chosen_is {mask} {s = s} t e size few =
    record { tool = sym e; bits = size ∙ ap (λ (t : ℕ). length (form_of mask t s)) (sym e); small = few }

-- binary, where it was chosen
pub binary-planned : {mask set n b : ℕ} {s runs : List ℕ} {row : Row} → length s ≡ n → n ≤ 320 → chosen_tool mask set s ≡ 5 → b ≡ 8 + n
    → RowIs (map (flag_of mask 0) s) (n / 40) row → ZerosPlanned mask set s (Binary b) row runs
binary-planned {mask} {s = s} size few e bits words =
    record { chosen = chosen_is 5 e (bits ∙ binary-bits mask s size) (omega arith); needs = rw size words }

-- a frame of the two zeros: uncompressed, then Rice where it is held, then binary
module _ (mask set : ℕ) (s : List ℕ) {n : ℕ} {one : Choice} (seven : mask < 128) (zeros : two_zeros mask s ≡ true) (size : length s ≡ n)
    (few : n ≤ 320) (later : chosen_tool mask set s ≡ choose mask set s measured)
    (first : one ≡ record { tool = 1; bits = whole_bits 1 n }) where
  on : applies mask 6 s ≡ true
  on = zeros-apply mask s ∙ zeros

  c₇ : ChosenIs mask set s (7 ∷ 11 ∷ []) one
  c₇ = choose-past 7 (past set 7 (zeros-unlocated mask seven s zeros))
      (choose-past 11 (past set 11 (zeros-unrowed mask seven s zeros)) (uncompressed-is mask set s size few first))

  ends : choose mask set s (7 ∷ 11 ∷ []) ≡ 1
  ends = sym c₇.tool ∙ ap (λ (c : Choice). c.tool) first

  -- where it is not Rice
  plain-planned : {five : Choice} {runs : List ℕ} {row : Row} → ChosenIs mask set s measured five → (five.tool ≡ 6 → ⊥)
      → RowIs (map (flag_of mask 0) s) (n / 40) row → ZerosPlanned mask set s (plain_by five) row runs
  plain-planned {five} {runs} {row} c other words = go (eqb five.tool 5) refl
    where
      P : ℕ → Type 0
      P t = (t ≡ 5 → ⊥) → (t ≡ 6 → ⊥) → t ≡ 1

      kind : P five.tool
      kind =
          let end : P (choose mask set s (7 ∷ 11 ∷ [])) = λ x y. ends in
          rw c.tool (among mask s set P 5 _ (λ x y. absurd (x refl)) (among mask s set P 6 _ (λ x y. absurd (y refl)) end))

      go : (x : Bool) → eqb five.tool 5 ≡ x → ZerosPlanned mask set s (cond x (Binary five.bits) (Whole five)) row runs
      go true x =
          let e : chosen_tool mask set s ≡ 5 = later ∙ sym c.tool ∙ eqb-true _ _ x in
          let five-bits : five.bits ≡ 8 + n
          = c.bits ∙ ap (λ (t : ℕ). length (form_of mask t s)) (sym later ∙ e) ∙ sym (binary-bits mask s size) in
          binary-planned size few e five-bits words
      go false x =
          let is : five.tool ≡ 1 = kind (eqb-false _ _ x) other in
          record { chosen = chosen-among later c; needs = (omega (arith, is), omega (arith, is)) }

  module _ {b : ℕ} {five : Choice} {h₅ : Bool} (e₅ : h₅ ≡ holds set 5) (eb : b ≡ 8 + n) where
    binary-step : {six : Choice} → ChosenIs mask set s (6 ∷ 7 ∷ 11 ∷ []) six → BetterIs six 5 h₅ b five → ChosenIs mask set s measured five
    binary-step c₆ b₅ =
        choose-step c₆ 5 h₅ b (e₅ ∙ offers set 5 (rice-applies mask s ∙ on)) (λ h. eb ∙ binary-bits mask s size) b₅

    pub zeros-without : {runs : List ℕ} {row : Row} → RowIs (map (flag_of mask 0) s) (n / 40) row → holds set 6 ≡ false
        → BetterIs one 5 h₅ b five → ZerosPlanned mask set s (plain_by five) row runs
    zeros-without words lacks b₅ =
        let none : (holds set 6 && applies mask 6 s) ≡ false = ap (λ (h : Bool). h && applies mask 6 s) lacks in
        let c₅ = binary-step (choose-past 6 none c₇) b₅ in
        plain-planned c₅ (λ e. never (sym none ∙ chosen-offered mask set s measured 6 (sym c₅.tool ∙ e) (λ w. omega arith))) words

    pub zeros-planned : {runs : List ℕ} {row : Row} {rice : Zeros} {six : Choice} → RowIs (map (flag_of mask 0) s) (n / 40) row
        → holds set 6 ≡ true → RiceIs mask s rice runs → BetterIs one 6 true rice.bits six
        → BetterIs six 5 h₅ b five → ZerosPlanned mask set s (zeros_by five rice) row runs
    zeros-planned {runs} {row} {rice} words held i b₆ b₅ = go (eqb five.tool 6) refl
      where
        c₅ : ChosenIs mask set s measured five
        c₅ = binary-step
            (choose-step c₇ 6 true rice.bits (sym held ∙ offers set 6 on) (λ h. i.bits ∙ rice-form mask s) b₆) b₅

        go : (x : Bool) → eqb five.tool 6 ≡ x → ZerosPlanned mask set s (cond x (Rice rice) (plain_by five)) row runs
        go true x =
            let e : chosen_tool mask set s ≡ 6 = later ∙ sym c₅.tool ∙ eqb-true _ _ x in
            record { chosen = chosen_is 6 e (i.bits ∙ rice-form mask s) i.small; needs = i }
        go false x = plain-planned c₅ (eqb-false _ _ x) words

short-off : (mask : ℕ) (s : List ℕ) → length s < 80 → applies mask 7 s ≡ false
unfolding applies
short-off mask s h = rw (lt-leb 80 (length s) h)

-- a frame that has a 1 or a -2: the last of the order, then value-location
module _ {mask : ℕ} (set : ℕ) {s : List ℕ} (zeros : two_zeros mask s ≡ false) (later : chosen_tool mask set s ≡ choose mask set s measured)
    {last : Plain} (known : LastIs mask set s last) where
  no-zeros : {r : Choice} → ChosenIs mask set s (7 ∷ 11 ∷ []) r → ChosenIs mask set s measured r
  no-zeros done =
      let off : applies mask 6 s ≡ false = zeros-apply mask s ∙ zeros in
      choose-past 5 (past set 5 (rice-applies mask s ∙ off)) (choose-past 6 (past set 6 off) done)

  pub last-chosen : (holds set 7 && applies mask 7 s) ≡ false → Chosen mask set s last.choice
  last-chosen off = chosen-among later (no-zeros (choose-past 7 off known.chosen))

  pub not-located : {a b c : List ℕ} → (holds set 7 && applies mask 7 s) ≡ false → NearPlanned mask set s (Last last) a b c
  not-located off = record { chosen = last-chosen off; needs = known.plain }

  -- "N is 80 or more": a shorter frame is left to the last of the order
  pub short-last : length s < 80 → Chosen mask set s last.choice
  short-last h = last-chosen (past set 7 (short-off mask s h))

  pub located-for : {a b c : List ℕ} {w : Located} → holds set 7 ≡ true → applies mask 7 s ≡ true → LocatedIs mask s w a b c
      → NearPlanned mask set s (near_by last w) a b c
  located-for {a} {b} {c} {w} held on i = go (eqb seven 7) refl
    where
      seven : ℕ
      seven = seven_or last w

      best : Choice
      best = record { tool = seven; bits = cond (taken last.choice true w.bits) w.bits last.choice.bits }

      better : BetterIs last.choice 7 true w.bits best
      better = record { tool = refl; size = refl; small = cond_small (taken last.choice true w.bits) }
        where
          cond_small : (x : Bool) → cond x w.bits last.choice.bits ≤ 1000000000
          cond_small true = i.small
          cond_small false = known.chosen.small

      done : ChosenIs mask set s (7 ∷ 11 ∷ []) best
      done = choose-step known.chosen 7 true w.bits (rw (held, on)) (λ h. i.bits ∙ located-form mask s) better

      is : chosen_tool mask set s ≡ seven
      is = later ∙ sym (no-zeros done).tool

      P : ℕ → Type 0
      P t = (t ≡ 7 → ⊥) → t ≡ last.choice.tool

      last-is : P seven
      last-is = rw done.tool (among mask s set P 7 (11 ∷ []) (λ x. absurd (x refl)) (λ x. sym known.chosen.tool))

      go : (x : Bool) → eqb seven 7 ≡ x → NearPlanned mask set s (cond x (Values w) (Last last)) a b c
      go true x = record { chosen = chosen_is 7 (is ∙ eqb-true _ _ x) (i.bits ∙ located-form mask s) i.small; needs = i }
      go false x =
          let e : chosen_tool mask set s ≡ choose mask set s (11 ∷ []) = is ∙ last-is (eqb-false _ _ x) ∙ known.chosen.tool in
          record { chosen = chosen-among e known.chosen; needs = known.plain }

-- what is planned where value-location is taken, and where it is not
module _ (last : Plain) (w : Located) {t : ℕ} (told : t ≡ seven_or last w) where
  pub near_last : (t ≡ 7 → ⊥) → Last last ≡ near_by last w
  near_last h = rw (ne_eqb (seven_or last w) 7 (λ e. h (told ∙ e))) refl

  pub near-values : t ≡ 7 → Values w ≡ near_by last w
  near-values h = rw (eq-eqb (seven_or last w) 7 (sym told ∙ h)) refl

-- a frame that is left, of neither kind: the last of the order
pub last-left : {mask set n : ℕ} {s : List ℕ} {last : Plain} {close : Bool} → length s ≡ n → Left mask set s → two_zeros mask s ≡ false
    → close ≡ near (least_of mask s) (greatest_of mask s) → (close && leb 80 n) ≡ false → LastIs mask set s last
    → Chosen mask set s last.choice
last-left {close = false} size left zeros told off known = chosen-among (left.far (sym told)) known.chosen
last-left {set = set} {n} {close = true} size left zeros told off known =
    short-last set zeros left.later known (omega (arith, size, leb-false 80 n off))

-- the last of the order
module _ (mask set : ℕ) (s : List ℕ) {n : ℕ} {one : Choice} (size : length s ≡ n) (few : n ≤ 320)
    (first : one ≡ record { tool = 1; bits = whole_bits 1 n }) where
  pub last-plain : (holds set 11 && applies mask 11 s) ≡ false → (k : ℕ) → LastIs mask set s (record { choice = one; row = k })
  last-plain off k =
      let t : one.tool ≡ 1 = ap (λ (c : Choice). c.tool) first in
      record {
        chosen = choose-past 11 off (uncompressed-is mask set s size few first);
        plain = record { row = λ e. absurd (omega (arith, e, t)); kind = λ x. (omega (arith, t), omega (arith, t)) };
      }

  pub last_row : {k b : ℕ} {best : Choice} → holds set 11 ≡ true → Some k ≡ row_in (frame_row mask s)
      → b ≡ 8 + body_bits k (length s) → BetterIs one 11 true b best
      → LastIs mask set s (record { choice = best; row = k })
  last_row {k} {b} {best} held row bits better =
      let on = row-applies mask s row in
      let offered : true ≡ (holds set 11 && applies mask 11 s) = rw (held, on) in
      let done = choose-step (uncompressed-is mask set s size few first) 11 true b offered (λ z. bits ∙ row-bits mask s row) better in
      let P : ℕ → Type 0 = λ t. (t ≡ 11 → ⊥) → (1 ≤ t) × (t ≤ 4) in
      let one-fits : P 1 = λ x. (omega arith, omega arith) in
      record {
        chosen = done;
        plain = record {
          row = λ z. (row_number_lem mask s row, row-held mask s row);
          kind = rw done.tool (among mask s set P 11 [] (λ x. absurd (x refl)) (alone mask s set P one-fits));
        };
      }

  pub last-unmet : ◌≡◌ {A = Option ℕ} None (row_in (frame_row mask s)) → LastIs mask set s (record { choice = one; row = 0 })
  last-unmet row = last-plain (past set 11 (row-unmet mask s row)) 0
