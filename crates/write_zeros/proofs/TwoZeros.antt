-- Laws of frames of zeros: where binary and Rice apply, and what Rice would write.
use Prim.Native.Nat.{ℕ, ◌+◌, ◌-◌, ◌≤◌}
use mathlib.Core.Path.{◌≡◌, refl, sym, ap, ap₂, ◌∙◌}
use mathlib.Core.List.{List, [], ◌∷◌, ◌++◌, map}
use mathlib.Core.Bool.{Bool, true, false, cond, ◌||◌}
use native.Mathlib.Omega.{arith}
use borrow.Author.Tests.{eqb-true}
use lib.ListN.{length, take, length-append}
use lib.Dec.{eqb, ltb}
use Rattle.rules.specs.Samples.{sample_of, plus_zero, minus_zero}
use Rattle.rules.specs.First.{rice_code}
use Rattle.rules.specs.Runs.{rice_forms, runs_form}
use Rattle.rules.specs.Zeros.{code_of, most_s, zero_of, flag_of}
use Rattle.rules.specs.Chooses.{count_of, applies, mark_of, least_from, best_s, rice_bits, rice_choice}
use Rattle.write_measure.specs.declared.Least.{Least}
use Rattle.write_scan.specs.Looks.{count_is, marks_of, two_zeros}
use Rattle.write_runs.specs.Runs.{RunsAre}
use Rattle.write_measure.specs.Measures.{bits_with, LeastIs}
use Rattle.s_codes.specs.Codes.{CodesAre}
use Rattle.write_zeros.specs.Rice.{StartIs, RiceIs}

-- each sample that is one of two is counted once
either : (p q : ℕ) → (p ≡ q → ⊥) → (s : List ℕ) → count_of (λ x. eqb x p || eqb x q) s ≡ count_is p s + count_is q s
unfolding count_of
either p q ne [] = refl
either p q ne (x ∷ s) = step (eqb x p) (eqb x q) refl refl (either p q ne s)
  where
    step : (a b : Bool) → eqb x p ≡ a → eqb x q ≡ b → count_of (λ x. eqb x p || eqb x q) s ≡ count_is p s + count_is q s
        → cond (a || b) 1 0 + count_of (λ x. eqb x p || eqb x q) s ≡ cond a 1 0 + count_is p s + (cond b 1 0 + count_is q s)
    step true true e f h = absurd (ne (sym (eqb-true x p e) ∙ eqb-true x q f))
    step true false e f h = omega arith
    step false true e f h = omega arith
    step false false e f h = omega arith

pub two-zeros : (mask : ℕ) → plus_zero mask ≡ minus_zero mask → ⊥
unfolding sample_of
two-zeros mask e = omega arith

-- so a frame is of the two zeros where their counts make up its length
pub zeros-counted : (mask : ℕ) (s : List ℕ) {n plus minus : ℕ} → length s ≡ n → plus ≡ count_is (plus_zero mask) s
    → minus ≡ count_is (minus_zero mask) s → eqb (plus + minus) n ≡ two_zeros mask s
zeros-counted mask s size p m = rw (p, m, ← size, either (plus_zero mask) (minus_zero mask) (two-zeros mask) s)

-- where binary applies Rice does: to frames of the two zeros
pub rice-applies : (mask : ℕ) (s : List ℕ) → applies mask 5 s ≡ applies mask 6 s
unfolding applies
rice-applies mask s = refl

pub zeros-apply : (mask : ℕ) (s : List ℕ) → applies mask 6 s ≡ two_zeros mask s
unfolding applies
zeros-apply mask s = refl

-- all that is not minus zero is plus zero
pub plus-left : (mask : ℕ) (s : List ℕ) {n minus : ℕ} → two_zeros mask s ≡ true → length s ≡ n → minus ≡ count_is (minus_zero mask) s
    → n - minus ≡ count_is (plus_zero mask) s
plus-left mask s zeros size is-minus =
    omega (
      arith,
      eqb-true (count_of (λ x. eqb x (plus_zero mask) || eqb x (minus_zero mask)) s) (length s) zeros,
      is-minus,
      either (plus_zero mask) (minus_zero mask) (two-zeros mask) s,
    )

module _ (mask : ℕ) (s : List ℕ) where
  -- the bits of Rice: those before the code of S, the code, and the runs
  pub rice-sum : length (rice_choice mask s)
      ≡ length (rice_code (length s) (mark_of mask s)) + rice_bits mask (mark_of mask s) s (best_s mask (mark_of mask s) s)
  unfolding rice_choice
  rice-sum =
      let S = best_s mask (mark_of mask s) s in
      let first' = rice_code (length s) (mark_of mask s) in
      let code = code_of (length s) S in
      let runs = runs_form S (map (flag_of mask (mark_of mask s)) s) in
      length-append first' (code ++ runs) ∙ ap (λ (k : ℕ). length first' + k) (length-append code runs)

  module _ {n plus minus : ℕ} (size : length s ≡ n) (is-plus : plus ≡ count_is (plus_zero mask) s)
      (is-minus : minus ≡ count_is (minus_zero mask) s) where
    pub rice-is : {mark most start count : ℕ} {runs extra : List ℕ} {least : Least} → mark ≡ cond (ltb plus minus) 1 0
        → RunsAre (marks_of (zero_of mask (cond (ltb plus minus) 1 0) 0) 0 1 s) count runs → CodesAre n extra
        → most ≡ most_s n → most ≤ 9 → LeastIs (bits_with extra (take count runs)) most least → StartIs n start
        → RiceIs mask s (record { bits = start + least.bits; mark = mark; s = least.s; count = count }) runs
    rice-is {mark = mark} {most = most} {start = start} {count = count} {runs = runs} {extra = extra} {least = least}
        marked found codes top few best begun =
        let told : cond (ltb plus minus) 1 0 ≡ mark_of mask s = rw (is-plus, is-minus) in
        let m : mark ≡ mark_of mask s = marked ∙ told in
        let fs = map (flag_of mask (mark_of mask s)) s in
        let r : RunsAre fs count runs = rw told at found in
        let g : bits_with extra (take count runs) ≡ rice_bits mask (mark_of mask s) s =
        λ i S.
        ap₂ ◌+◌ (codes.says S ∙ ap (λ (k : ℕ). length (code_of k S)) (sym size))
        (ap (λ (rs : List ℕ). length (rice_forms S rs)) r.says) i in
        let weigh = rice_bits mask (mark_of mask s) s in
        let b : least.s ≡ best_s mask (mark_of mask s) s =
        best.s ∙ ap (λ (h : ℕ → ℕ). least_from h 1 2 (most - 1)) g
        ∙ ap (λ (k : ℕ). least_from weigh 1 2 (k - 1)) (top ∙ ap most_s (sym size)) in
        record {
          mark = m;
          best = b;
          to = omega (arith, best.to);
          most = rw (size, ← top) best.to;
          from = best.from;
          found = r;
          bits =
              ap₂ ◌+◌ (begun.says (mark_of mask s) ∙ ap (λ (k : ℕ). length (rice_code k (mark_of mask s))) (sym size))
              (best.bits ∙ ap (λ (h : ℕ → ℕ). h least.s) g ∙ ap weigh b) ∙ sym rice-sum;
          small = omega (arith, best.small, begun.small);
        }
