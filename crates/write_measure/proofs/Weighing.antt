-- Laws of what runs need: the least S, and ceil(log2 D).
use Prim.Native.Nat.{ℕ, zero, suc, ◌+◌, ◌*◌, ◌-◌, ◌^◌, ◌/◌, ◌≤◌, ◌<◌}
use mathlib.Core.Path.{◌≡◌, refl, sym, ◌∙◌}
use mathlib.Core.List.{List, [], ◌∷◌}
use mathlib.Core.Bool.{Bool, true, false, cond}
use native.Mathlib.Omega.{arith}
use native.Mathlib.Nat.{pow-suc, zero-mul, suc-mul, mul-le-mul}
use native.Mathlib.Numerals.{add-one}
use native.Mathlib.Decide.{dec_lt}
use lib.Dec.{leb}
use borrow.Author.Tests.{lt-leb, le-leb, lt-ltb, le-ltb}
use lib.ListN.{length, get_or, take, replicate, length-append, length-replicate}
use lib.Pow.{pow_mono}
use Rattle.rules.specs.Runs.{rice_form, rice_forms}
use Rattle.rules.specs.Located.{width_from, width_of}
use Rattle.rules.specs.Chooses.{least_from, least_s}
use Rattle.rules.proofs.Octets.{length-low_bits}
use Rattle.write_measure.proofs.Rice.{length-rice_form, forms-suc}
use Rattle.write_measure.specs.declared.Least.{Least}
use Rattle.write_measure.specs.Measures.{bits_with, LeastIs}

-- the zeros of one run more; with each run go its one and its S low bits
pub bits-turn : (s : ℕ) (runs : List ℕ) (j n r : ℕ) → j < length runs → n + j * (1 + s) ≡ length (rice_forms s (take j runs))
    → r ≡ get_or runs j 0 / 2 ^ s → n + r + (j + 1) * (1 + s) ≡ length (rice_forms s (take (j + 1) runs))
unfolding rice_form
bits-turn s runs j n r h e b =
    let k : (j + 1) * (1 + s) ≡ j * (1 + s) + (1 + s) = rw (add-one j, suc-mul) (omega arith) in
    rw (forms-suc s runs j h, length-append, ← e, length-append, length-replicate, length-low_bits, ← b, k) (omega arith)

pub bits_none : (s : ℕ) (runs : List ℕ) → 0 + 0 * (1 + s) ≡ length (rice_forms s (take 0 runs))
unfolding rice_forms
bits_none s runs = rw (zero-mul (1 + s))

-- a turn of the search for the least
pub record Leasting (f : ℕ → ℕ) (most : ℕ) (best : Least) (k : ℕ) : Type 0 where
  pub says : least_from f best.s k (most + 1 - k) ≡ least_s f most
  pub bits : best.bits ≡ f best.s
  pub from : 1 ≤ best.s
  pub to : best.s < k
  pub within : k ≤ most + 1
  pub small : best.bits ≤ 200000000

-- the other S only where it needs fewer bits
from-better : (f : ℕ → ℕ) (best k more : ℕ) → f k < f best → least_from f best k (suc more) ≡ least_from f k (k + 1) more
unfolding least_from
from-better f best k more h = rw (lt-ltb (f k) (f best) h) refl

from-same : (f : ℕ → ℕ) (best k more : ℕ) → f best ≤ f k → least_from f best k (suc more) ≡ least_from f best (k + 1) more
unfolding least_from
from-same f best k more h = rw (le-ltb (f k) (f best) h) refl

pub least-better : {f : ℕ → ℕ} {most : ℕ} {best : Least} (k b : ℕ) → Leasting f most best k → k ≤ most → b ≡ f k → b ≤ 200000000
    → b < best.bits → Leasting f most (record { s = k; bits = b }) (k + 1)
least-better {f} {most} {best} k b t h e few less =
    let more : most + 1 - k ≡ suc (most + 1 - (k + 1)) = omega arith in
    let better : f k < f best.s = omega (arith, t.bits) in
    record {
      says = sym (from-better f best.s k (most + 1 - (k + 1)) better) ∙ (rw more at t.says);
      bits = e;
      from = omega (arith, t.from, t.to);
      to = omega arith;
      within = omega arith;
      small = few;
    }

pub least-same : {f : ℕ → ℕ} {most : ℕ} {best : Least} (k b : ℕ) → Leasting f most best k → k ≤ most → b ≡ f k → best.bits ≤ b
    → Leasting f most best (k + 1)
least-same {f} {most} {best} k b t h e least =
    let more : most + 1 - k ≡ suc (most + 1 - (k + 1)) = omega arith in
    let worse : f best.s ≤ f k = omega (arith, t.bits) in
    record {
      says = sym (from-same f best.s k (most + 1 - (k + 1)) worse) ∙ (rw more at t.says);
      bits = t.bits;
      from = t.from;
      to = omega (arith, t.to);
      within = omega arith;
      small = t.small;
    }

pub least-done : {f : ℕ → ℕ} {most : ℕ} {best : Least} (k : ℕ) → Leasting f most best k → most < k → LeastIs f most best
unfolding least_from
least-done {f} {most} {best} k t h =
    let none : most + 1 - k ≡ 0 = omega arith in
    record { s = rw none at t.says; bits = t.bits; from = t.from; to = omega (arith, t.to, t.within); small = t.small }

-- the ones and the low bits alone: each run has a one and S low bits
pub forms-least : (s : ℕ) (runs : List ℕ) → length runs * (1 + s) ≤ length (rice_forms s runs)
unfolding rice_forms
forms-least s [] = rw (zero-mul (1 + s)) (omega arith)
forms-least s (v ∷ runs) = rw (suc-mul (length runs) (1 + s), length-append, length-rice_form) (omega (arith, forms-least s runs))

-- so where they reach a number of bits, no larger S needs fewer
pub no-fewer : (extra runs : List ℕ) (k : ℕ) {b : ℕ} → b ≤ length runs * (1 + k) → (j : ℕ) → k ≤ j → b ≤ bits_with extra runs j
no-fewer extra runs k h j g =
    let more : length runs * (1 + k) ≤ length runs * (1 + j) = mul-le-mul {n₂ = length runs} {m₂ = 1 + j} (omega arith) (omega arith) in
    omega (arith, forms-least j runs)

-- and the search ends with what it has
least_kept : (f : ℕ → ℕ) (best k more : ℕ) → ((j : ℕ) → k ≤ j → f best ≤ f j) → least_from f best k more ≡ best
unfolding least_from
least_kept f best k zero h = refl
least_kept f best k (suc more) h = rw (le-ltb (f k) (f best) (h k (omega arith)))
    (least_kept f best (k + 1) more (λ j g. h j (omega arith)))

pub least-stop : {f : ℕ → ℕ} {most : ℕ} {best : Least} (k : ℕ) → Leasting f most best k → ((j : ℕ) → k ≤ j → best.bits ≤ f j)
    → LeastIs f most best
least-stop {f} {most} {best} k t h =
    let kept = least_kept f best.s k (most + 1 - k) (λ j g. rw t.bits at (h j g)) in
    record { s = sym kept ∙ t.says; bits = t.bits; from = t.from; to = omega (arith, t.to, t.within); small = t.small }

-- ceil(log2 D)
below-pow : (w : ℕ) → w < 2 ^ w
below-pow zero = omega arith
below-pow (suc w) = let h = below-pow w in rw pow-suc (omega arith)

pub width_small : (w d : ℕ) → 2 ^ w < d → d ≤ 320 → w < 9
width_small w d h k = go (dec_lt w 9)
  where
    go : Dec (w < 9) → w < 9
    go (yes p) = p
    go (no p) = absurd (omega (arith, pow_mono {i = 9} {j = w} (omega arith)))

-- the first power that D is within
width-at : (v w more d : ℕ) → v ≤ w → w ≤ v + more → d ≤ 2 ^ w → ((u : ℕ) → u < w → 2 ^ u < d) → width_from v more d ≡ w
unfolding width_from
width-at v w zero d g h k less = omega arith
width-at v w (suc more) d g h k less = go (dec_lt v w) (λ p. width-at (v + 1) w more d (omega arith) (omega arith) k less)
  where
    go : Dec (v < w) → (v < w → width_from (v + 1) more d ≡ w) → cond (leb d (2 ^ v)) v (width_from (v + 1) more d) ≡ w
    go (yes p) next = rw (lt-leb d (2 ^ v) (less v p)) (next p)
    go (no p) next = let e : v ≡ w = omega arith in rw (e, le-leb d (2 ^ w) k) refl

pub width-one : (d : ℕ) → d ≤ 1 → 0 ≡ width_of d
width-one d h = sym (width-at 0 0 d d (omega arith) (omega arith) (omega arith) (λ u k. absurd (omega arith)))

pub width-more : (r d : ℕ) → 2 ≤ d → 2 ^ r ≤ d - 1 → d - 1 < 2 * 2 ^ r → (r + 1 ≡ width_of d) × (d ≤ 2 ^ (r + 1))
width-more r d h low high =
    let p : 2 ^ (r + 1) ≡ 2 ^ r * 2 = rw add-one (pow-suc 2 r) in
    let least = below-pow r in (
      sym (width-at 0 (r + 1) d d (omega arith) (omega arith) (omega arith) (λ u k. omega (arith, pow_mono {i = u} {j = r} (omega arith)))),
      omega arith,
    )

pub cond_of : (f : ℕ → ℕ) (t : Bool) (x y : ℕ) → cond t (f x) (f y) ≡ f (cond t x y)
cond_of f true x y = refl
cond_of f false x y = refl

-- nothing goes with S
pub zero-at : (n s : ℕ) → ◌≡◌ {A = ℕ} (get_or (replicate n 0) s 0) 0
zero-at zero s = refl
zero-at (suc n) zero = refl
zero-at (suc n) (suc s) = zero-at n s
