-- The last mark by halving: as many halvings as marks are enough (`enough`), and one halving keeps what is found (`halved`).
-- `mark-at`: a mark in its cells.
use Prim.Native.Nat.{ℕ, zero, suc, ◌+◌, ◌*◌, ◌-◌, ◌≤◌, ◌<◌}
use mathlib.Core.Path.{◌≡◌, refl, sym, ap, ◌∙◌}
use mathlib.Core.List.{List}
use mathlib.Core.Bool.{Bool, true, false, cond}
use native.Mathlib.Omega.{arith}
use lib.ListN.{get_or, drop}
use lib.Seq.{get_or-drop}
use lib.Dec.{leb}
use borrow.Author.Tests.{le-leb, lt-leb, leb-true, leb-false}
use Rattle.store_greeting.specs.Marks.{Mark, mark_of}
use Rattle.store_notes.specs.Cells.{marks_in}
use Rattle.store_notes.proofs.Noting.{length-marks}
use Rattle.store_jump.specs.declared.seeking.Span.{Span}
use Rattle.store_jump.specs.Seeking.{nth_mark, middle, last_from, last_mark}
use Rattle.store_jump.specs.Halves.{span_of, half_of}

pub mark-at : (m k : ℕ) (cells : List ℕ) → k < m → nth_mark k (marks_in m cells) ≡ mark_of (get_or cells (2 * k) 0) (get_or cells (2 * k + 1) 0)
unfolding marks_in
mark-at zero k cells h = absurd (omega arith)
mark-at (suc m) zero cells h = refl
mark-at (suc m) (suc k) cells h =
    let e : 2 + 2 * k ≡ 2 * suc k = omega arith in
    let f : 2 + (2 * k + 1) ≡ 2 * suc k + 1 = omega arith in
    let a = get_or-drop 2 cells (2 * k) 0 ∙ ap (λ (n : ℕ). get_or cells n 0) e in
    let b = get_or-drop 2 cells (2 * k + 1) 0 ∙ ap (λ (n : ℕ). get_or cells n 0) f in
    mark-at m k (drop 2 cells) (omega arith) ∙ ap (λ (x : ℕ). mark_of x (get_or (drop 2 cells) (2 * k + 1) 0)) a
    ∙ ap (λ (x : ℕ). mark_of (get_or cells (2 * suc k) 0) x) b

-- the two halves
module _ (before sample low high : ℕ) where
  pub half_up : before ≤ sample → span_of (middle low high) high ≡ half_of before sample low high
  unfolding half_of
  half_up h = rw (le-leb before sample h)

  pub half_down : sample < before → span_of low (middle low high) ≡ half_of before sample low high
  unfolding half_of
  half_down h = rw (lt-leb before sample h)

module _ (ms : List Mark) (sample : ℕ) where
  -- one mark is left
  pub last_one : (more low high : ℕ) → high ≤ low + 1 → last_from more ms sample low high ≡ low
  unfolding last_from
  last_one zero low high h = refl
  last_one (suc more) low high h = rw (le-leb high (low + 1) h)

  -- two or more are left
  pub last_step : (more low high : ℕ) → low + 1 < high → last_from (suc more) ms sample low high
      ≡ cond (leb (nth_mark (middle low high) ms).samples sample) (last_from more ms sample (middle low high) high)
      (last_from more ms sample low (middle low high))
  unfolding last_from
  last_step more low high h = rw (lt-leb high (low + 1) h)

  -- more halvings than marks change nothing
  pub enough : (a b low high : ℕ) → high ≤ low + a + 1 → high ≤ low + b + 1 → last_from a ms sample low high ≡ last_from b ms sample low high
  enough zero b low high h g = last_one zero low high (omega arith) ∙ sym (last_one b low high (omega arith))
  enough (suc a) zero low high h g = last_one (suc a) low high (omega arith) ∙ sym (last_one zero low high (omega arith))
  enough (suc a) (suc b) low high h g = by (leb high (low + 1)) refl (enough a b)
    where
      Later : Type 0
      Later = (low high : ℕ) → high ≤ low + a + 1 → high ≤ low + b + 1 → last_from a ms sample low high ≡ last_from b ms sample low high

      by : (t : Bool) → leb high (low + 1) ≡ t → Later → last_from (suc a) ms sample low high ≡ last_from (suc b) ms sample low high
      by true e later = last_one (suc a) low high (leb-true high (low + 1) e) ∙ sym (last_one (suc b) low high (leb-true high (low + 1) e))
      by false e later =
          let l = leb-false high (low + 1) e in
          last_step a low high l
          ∙ ap (λ (x : ℕ). cond (leb (nth_mark (middle low high) ms).samples sample) x (last_from a ms sample low (middle low high)))
          (later (middle low high) high (omega arith) (omega arith))
          ∙ ap (λ (x : ℕ). cond (leb (nth_mark (middle low high) ms).samples sample) (last_from b ms sample (middle low high) high) x)
          (later low (middle low high) (omega arith) (omega arith)) ∙ sym (last_step b low high l)

  -- a halving: the half is not empty and smaller, and what is found in it is what was sought
  pub record Halved (low high : ℕ) (r : Span) : Type 0 where
    pub same : last_from (high - low) ms sample low high ≡ last_from (r.high - r.low) ms sample r.low r.high
    pub some : r.low < r.high
    pub inside : r.high ≤ high
    pub less : r.high - r.low < high - low

  pub halved : (low high : ℕ) {before : ℕ} → low + 1 < high → before ≡ (nth_mark (middle low high) ms).samples
      → Halved low high (half_of before sample low high)
  unfolding half_of
  halved low high {before} h b = by (leb before sample) refl
    where
      mid : ℕ
      mid = middle low high

      here : last_from (high - low) ms sample low high
          ≡ cond (leb before sample) (last_from (high - (low + 1)) ms sample mid high) (last_from (high - (low + 1)) ms sample low mid)
      here =
          let e : high - low ≡ suc (high - (low + 1)) = omega arith in
          ap (λ (k : ℕ). last_from k ms sample low high) e ∙ last_step (high - (low + 1)) low high h
          ∙ ap (λ (x : ℕ). cond (leb x sample) (last_from (high - (low + 1)) ms sample mid high)
          (last_from (high - (low + 1)) ms sample low mid)) (sym b)

      by : (t : Bool) → leb before sample ≡ t → Halved low high (cond t (span_of mid high) (span_of low mid))
      by true e =
          record {
            same =
                here ∙ ap (λ (t : Bool). cond t (last_from (high - (low + 1)) ms sample mid high)
                (last_from (high - (low + 1)) ms sample low mid)) e
                ∙ enough (high - (low + 1)) (high - mid) mid high (omega arith) (omega arith);
            some = omega arith;
            inside = omega arith;
            less = omega arith;
          }
      by false e =
          record {
            same =
                here ∙ ap (λ (t : Bool). cond t (last_from (high - (low + 1)) ms sample mid high)
                (last_from (high - (low + 1)) ms sample low mid)) e
                ∙ enough (high - (low + 1)) (mid - low) low mid (omega arith) (omega arith);
            some = omega arith;
            inside = omega arith;
            less = omega arith;
          }

-- the marks from `low` on and below `high` have the last mark
pub record Found (m : ℕ) (cells : List ℕ) (sample low high : ℕ) : Type 0 where
  pub same : last_mark (marks_in m cells) sample ≡ last_from (high - low) (marks_in m cells) sample low high
  pub some : low < high
  pub inside : high ≤ m

pub found-start : (m : ℕ) (cells : List ℕ) (sample : ℕ) → 1 ≤ m → Found m cells sample 0 m
found-start m cells sample h =
    let e : m ≡ m - 0 = omega arith in
    record {
      same = ap (λ (k : ℕ). last_from k (marks_in m cells) sample 0 k) (length-marks m cells)
          ∙ ap (λ (k : ℕ). last_from k (marks_in m cells) sample 0 m) e;
      some = omega arith;
      inside = omega arith;
    }

module _ {m : ℕ} {cells : List ℕ} {sample low high : ℕ} (w : Found m cells sample low high) where
  pub found-half : low + 1 < high → {r : Span} → r ≡ half_of (get_or cells (2 * middle low high + 1) 0) sample low high
      → Halved (marks_in m cells) sample low high r
  found-half h e =
      rw e (halved (marks_in m cells) sample low high h
      (ap (λ (x : Mark). x.samples) (sym (mark-at m (middle low high) cells (omega (arith, w.inside))))))

  pub found_turn : {r : Span} → Halved (marks_in m cells) sample low high r → Found m cells sample r.low r.high
  found_turn h = record { same = w.same ∙ h.same; some = h.some; inside = omega (arith, h.inside, w.inside) }

  pub found-last : high ≤ low + 1 → low ≡ last_mark (marks_in m cells) sample
  found-last h = sym (w.same ∙ last_one (marks_in m cells) sample (high - low) low high h)
