-- What halving finds is a mark at or before the sample, and the next one, if there is one, is behind it (`last-mark-is`); for rising marks
-- it is the last one at or before the sample (`last-mark-only`).
use Prim.Native.Nat.{ℕ, zero, suc, ◌+◌, ◌≤◌, ◌<◌}
use mathlib.Core.Path.{◌≡◌, refl, sym, subst}
use mathlib.Core.List.{List}
use mathlib.Core.Bool.{Bool, true, false, cond}
use native.Mathlib.Omega.{arith}
use lib.ListN.{length}
use lib.Dec.{leb}
use borrow.Author.Tests.{leb-true, leb-false}
use Rattle.store_greeting.specs.Marks.{Mark}
use Rattle.store_jump.specs.Seeking.{nth_mark, Latest, middle, last_from, last_mark}
use Rattle.store_jump.proofs.Halving.{last_one, last_step}

pub record LastAt (ms : List Mark) (sample r : ℕ) : Type 0 where
  pub among : r < length ms
  pub before : (nth_mark r ms).samples ≤ sample
  pub next : r + 1 < length ms → sample < (nth_mark (r + 1) ms).samples

-- samples never fall from mark to mark
abbrev pub Rising : List Mark → Type 0
Rising ms = (i j : ℕ) → i ≤ j → j < length ms → (nth_mark i ms).samples ≤ (nth_mark j ms).samples

module _ (ms : List Mark) (sample : ℕ) where
  -- the marks from `low` on and below `high`: the first is at or before the sample, the one after them behind it
  record Between (low high : ℕ) : Type 0 where
    some : low < high
    inside : high ≤ length ms
    first : (nth_mark low ms).samples ≤ sample
    behind : high < length ms → sample < (nth_mark high ms).samples

  single : {low high : ℕ} → Between low high → high ≤ low + 1 → LastAt ms sample low
  single {low} {high} w h =
      let e : high ≡ low + 1 = omega (arith, w.some) in
      record {
        among = omega (arith, w.some, w.inside);
        before = w.first;
        next = λ l. subst (λ (k : ℕ). sample < (nth_mark k ms).samples) e (w.behind (omega arith));
      }

  last-between : (more low high : ℕ) → Between low high → high ≤ low + more + 1 → LastAt ms sample (last_from more ms sample low high)
  last-between zero low high w h = rw (last_one ms sample zero low high (omega arith)) (single w (omega arith))
  last-between (suc more) low high w h = by (leb high (low + 1)) refl (last-between more)
    where
      mid : ℕ
      mid = middle low high

      Later : Type 0
      Later = (low high : ℕ) → Between low high → high ≤ low + more + 1 → LastAt ms sample (last_from more ms sample low high)

      half : (t : Bool) → leb (nth_mark mid ms).samples sample ≡ t → low + 1 < high → Later
          → LastAt ms sample (cond t (last_from more ms sample mid high) (last_from more ms sample low mid))
      half true e l later =
          let f = leb-true (nth_mark mid ms).samples sample e in
          later mid high (record { some = omega arith; inside = w.inside; first = f; behind = w.behind }) (omega arith)
      half false e l later =
          later low mid
          (record {
            some = omega arith;
            inside = omega (arith, w.inside);
            first = w.first;
            behind = λ _. leb-false (nth_mark mid ms).samples sample e;
          })
          (omega arith)

      by : (t : Bool) → leb high (low + 1) ≡ t → Later → LastAt ms sample (last_from (suc more) ms sample low high)
      by true e later = rw (last_one ms sample (suc more) low high (leb-true high (low + 1) e)) (single w (leb-true high (low + 1) e))
      by false e later =
          let l = leb-false high (low + 1) e in
          subst (λ (r : ℕ). LastAt ms sample r) (sym (last_step ms sample more low high l))
          (half (leb (nth_mark mid ms).samples sample) refl l later)

  pub last-mark-is : 1 ≤ length ms → (nth_mark 0 ms).samples ≤ sample → LastAt ms sample (last_mark ms sample)
  last-mark-is h b =
      last-between (length ms) 0 (length ms)
      (record { some = omega arith; inside = omega arith; first = b; behind = λ l. absurd (omega arith) }) (omega arith)

  -- no mark behind it is at or before the sample
  only : Rising ms → {r : ℕ} → LastAt ms sample r → (j : ℕ) → j < length ms → (nth_mark j ms).samples ≤ sample → j ≤ r
  only rises {r} w j h b = by (leb j r) refl
    where
      by : (t : Bool) → leb j r ≡ t → j ≤ r
      by true e = leb-true j r e
      by false e =
          let l = leb-false j r e in
          absurd (omega (arith, w.next (omega arith), rises (r + 1) j (omega arith) h, b))

  pub last-mark-only : Rising ms → {r : ℕ} → LastAt ms sample r → Latest ms sample r
  last-mark-only rises w = record { among = w.among; before = w.before; last = only rises w }
