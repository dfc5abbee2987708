-- Laws of frames with nearly as many samples of one zero as of the other: Rice has more bits than there are samples, and binary is taken.
use Prim.Native.Nat.{ℕ, zero, suc, ◌+◌, ◌*◌, ◌^◌, ◌/◌, ◌%◌, ◌≤◌, ◌<◌}
use mathlib.Core.Path.{◌≡◌, sym, ◌∙◌}
use mathlib.Core.List.{List, [], ◌∷◌}
use mathlib.Core.Bool.{Bool, true, false, cond, ◌&&◌}
use native.Mathlib.Omega.{arith}
use borrow.Author.Tests.{ltb-true}
use lib.ListN.{length, length-append}
use lib.Dec.{eqb, ltb}
use Rattle.rules.specs.Tools.{holds}
use Rattle.rules.specs.Samples.{plus_zero, minus_zero}
use Rattle.rules.specs.First.{rice_code}
use Rattle.rules.specs.Runs.{runs_of, rice_forms}
use Rattle.rules.specs.Zeros.{zero_of}
use Rattle.rules.specs.Chooses.{count_of, mark_of, best_s, rice_bits, rice_choice, applies, octets_of_form, choose}
use Rattle.rules.proofs.Tests.{and_left, and_right}
use Rattle.write_measure.proofs.Rice.{length-rice_form}
use Rattle.write_scan.specs.Looks.{count_is, marks_of, two_zeros}
use Rattle.write_runs.proofs.Finding.{runs-common, runs_other}
use Rattle.write_choice.specs.Plans.{measured}
use Rattle.write_located.proofs.Near.{zeros-unlocated}
use Rattle.write_zeros.proofs.TwoZeros.{rice-applies, zeros-apply, rice-sum}
use Rattle.write_offers.proofs.Choosing.{uncompressed-chosen, binary-bits}
use Rattle.write_choice.proofs.Settling.{least-some, code-some, start-some, of_two, among, passed, won}
use Rattle.write_offers.proofs.Offering.{rice-form, zeros-unrowed}
use Rattle.write_choice.proofs.Planning.{past}

-- one run more
forms-more : (S v : ℕ) (vs : List ℕ) → length (rice_forms S (v ∷ vs)) ≡ v / 2 ^ S + 1 + S + length (rice_forms S vs)
unfolding rice_forms
forms-more S v vs = rw (length-append, length-rice_form)

-- Runs of the places that are not z, c common ones being open before them. With S = 1 a run v has 2 + v / 2 bits, and twice that is v + 3
-- or more.
halves : (z : ℕ) (s : List ℕ) (c : ℕ) → c + 3 * length s ≤ 2 * length (rice_forms 1 (runs_of c (marks_of z 0 1 s))) + 2 * count_is z s
unfolding runs_of count_of
halves z [] zero = omega arith
halves z [] (suc c) = rw (forms-more 1 (suc c) []) (omega arith)
halves z (x ∷ s) c = step (eqb x z) (halves z s)
  where
    step : (b : Bool) → ((c : ℕ) → c + 3 * length s ≤ 2 * length (rice_forms 1 (runs_of c (marks_of z 0 1 s))) + 2 * count_is z s)
        → c + 3 * suc (length s) ≤ 2 * length (rice_forms 1 (runs_of c (cond b 0 1 ∷ marks_of z 0 1 s))) + 2 * (cond b 1 0 + count_is z s)
    step true h = rw (runs-common c (marks_of z 0 1 s)) (omega (arith, h (c + 1)))
    step false h = rw (runs_other c 0 (marks_of z 0 1 s), forms-more 1 c (runs_of 0 (marks_of z 0 1 s))) (omega (arith, h 0))

-- a larger S has three or more for each
threes : (S z : ℕ) → 2 ≤ S → (s : List ℕ) (c : ℕ) → 3 * length s ≤ length (rice_forms S (runs_of c (marks_of z 0 1 s))) + 3 * count_is z s
unfolding count_of
threes S z two [] c = omega arith
threes S z two (x ∷ s) c = step (eqb x z) (threes S z two s)
  where
    step : (b : Bool) → ((c : ℕ) → 3 * length s ≤ length (rice_forms S (runs_of c (marks_of z 0 1 s))) + 3 * count_is z s)
        → 3 * suc (length s) ≤ length (rice_forms S (runs_of c (cond b 0 1 ∷ marks_of z 0 1 s))) + 3 * (cond b 1 0 + count_is z s)
    step true h = rw (runs-common c (marks_of z 0 1 s)) (omega (arith, h (c + 1)))
    step false h = rw (runs_other c 0 (marks_of z 0 1 s), forms-more S c (runs_of 0 (marks_of z 0 1 s))) (omega (arith, h 0))

module _ (mask : ℕ) (s : List ℕ) {n plus minus : ℕ} (size : length s ≡ n) (forties : n % 40 ≡ 0)
    (is-plus : plus ≡ count_is (plus_zero mask) s)
    (is-minus : minus ≡ count_is (minus_zero mask) s) (all : plus + minus ≡ n) where
  -- where neither zero is much more than half, Rice has more bits than there are samples
  half : (mark : ℕ) → minus < plus + 14 → plus < minus + 14 → 2 * count_is (zero_of mask mark 0) s < n + 14
  half mark near-plus near-minus =
      of_two (λ z. 2 * count_is z s < n + 14) (eqb 0 mark) (omega (arith, is-plus)) (omega (arith, is-minus))

  pub rice-more : minus < plus + 14 → plus < minus + 14 → n < length (rice_choice mask s)
  rice-more near-plus near-minus =
      rw (rice-sum mask s) (go (best_s mask (mark_of mask s) s) (least-some _ 1 2 _ (omega arith) (omega arith)))
    where
      start : 5 ≤ length (rice_code (length s) (mark_of mask s))
      start = start-some (length s) (mark_of mask s)

      few : 2 * count_is (zero_of mask (mark_of mask s) 0) s < n + 14
      few = half (mark_of mask s) near-plus near-minus

      go : (S : ℕ) → 1 ≤ S → n < length (rice_code (length s) (mark_of mask s)) + rice_bits mask (mark_of mask s) s S
      go zero h = absurd (omega arith)
      go (suc zero) h = omega (arith, start, code-some (length s) 1 h, halves (zero_of mask (mark_of mask s) 0) s 0, few, size)
      go (suc (suc S)) h = omega (arith, start, threes (suc (suc S)) (zero_of mask (mark_of mask s) 0) (omega arith) s 0, few, size, forties)

  -- so binary is taken
  pub binary-settled : (set : ℕ) {t : Bool} → mask < 128 → two_zeros mask s ≡ true → n ≤ 320
      → t ≡ (holds set 5 && ltb minus (plus + 14) && ltb plus (minus + 14)) → t ≡ true → choose mask set s measured ≡ 5
  binary-settled set seven zeros few told taken =
      let h = holds set 5 in
      let p = ltb minus (plus + 14) in
      let q = ltb plus (minus + 14) in
      let e : (h && p && q) ≡ true = sym told ∙ taken in
      let held = and_left h p (and_left (h && p) q e) in
      let more = rice-more (ltb-true _ _ (and_right h p (and_left (h && p) q e))) (ltb-true _ _ (and_right (h && p) q e)) in
      let on : (holds set 5 && applies mask 5 s) ≡ true = rw (held, rice-applies mask s ∙ zeros-apply mask s ∙ zeros) in
      let five = binary-bits mask s size in
      let P : ℕ → Type 0 = λ t. octets_of_form mask s 5 ≤ octets_of_form mask s t in
      let one : P (choose mask set s []) = rw (← (uncompressed-chosen mask s size set few).bits) (omega (arith, five)) in
      let rest : P (choose mask set s (7 ∷ 11 ∷ []))
      = rw (
        passed mask s set 7 _ (past set 7 (zeros-unlocated mask seven s zeros)),
        passed mask s set 11 _
            (past set 11 (zeros-unrowed mask seven s zeros)),
      ) one in
      let six : P 6 = omega (arith, five, more, rice-form mask s, forties) in
      won mask s set 5 _ on (among mask s set P 6 _ six rest)
