-- A rule of all numbers below n, by one test that is computed; what a test that joins two says of each;
-- and what holds of every length (`by_length`) and of every tool (`by-tool`).
use Prim.Native.Nat.{ℕ, zero, suc, ◌≤◌, ◌<◌, ◌%◌}
use mathlib.Core.Path.{◌≡◌, refl, sym, subst}
use mathlib.Core.Bool.{Bool, true, false, not, ◌&&◌, ◌||◌, false≢true}
use native.Mathlib.Nat.{not-suc-le-zero}
use native.Mathlib.Omega.{arith}
use native.Mathlib.Decide.{ℕ_discrete}
use lib.Dec.{eqb, leb, lit<, lit≤}
use borrow.Author.Tests.{eqb-true, ne_eqb, leb-true}
use Rattle.rules.specs.Tools.{is_tool, is_length}

pub and_left : (a b : Bool) → (a && b) ≡ true → a ≡ true
and_left true b e = refl
and_left false b e = e

pub and_right : (a b : Bool) → (a && b) ≡ true → b ≡ true
and_right true b e = e
and_right false b e = absurd (subst (λ (t : Bool). is_false t) e tt)
  where
    is_false : Bool → Type 0
    is_false true = ⊥
    is_false false = Unit {0}

-- a test that follows from another
pub implied : (a b : Bool) → (not a || b) ≡ true → a ≡ true → b ≡ true
implied true b h e = h
implied false b h e = absurd (false≢true e)

abbrev pub all_below : (ℕ → Bool) → ℕ → Bool
all_below f zero = true
all_below f (suc n) = f n && all_below f n

all-at : (f : ℕ → Bool) (n k : ℕ) → (all_below f n ≡ true → k < n → f k ≡ true) → f n ≡ true → all_below f n ≡ true → k < suc n
    → Dec (k ≡ n) → f k ≡ true
all-at f n k ih here below h (yes e) = subst (λ (m : ℕ). f m ≡ true) (sym e) here
all-at f n k ih here below h (no e) = ih below (omega arith)

pub all_below-at : (f : ℕ → Bool) (n : ℕ) → all_below f n ≡ true → (k : ℕ) → k < n → f k ≡ true
all_below-at f zero t k h = absurd (not-suc-le-zero h)
all_below-at f (suc n) t k h =
    all-at f n k (λ u g. all_below-at f n u k g) (and_left (f n) (all_below f n) t) (and_right (f n) (all_below f n) t) h (ℕ_discrete k n)

-- a test that one of two passes
pub or_cases {ℓ} : (P : Type ℓ) (a b : Bool) → (a || b) ≡ true → (a ≡ true → P) → (b ≡ true → P) → P
or_cases P true b e f g = f refl
or_cases P false b e f g = g e

-- what holds of the five lengths holds of every length
pub by_length : (P : ℕ → Type 0) → P 40 → P 80 → P 160 → P 240 → P 320 → (n : ℕ) → is_length n ≡ true → P n
by_length P a b c d e n h =
    or_cases (P n) (eqb n 40 || eqb n 80 || eqb n 160 || eqb n 240) (eqb n 320) h (λ h.
    or_cases (P n) (eqb n 40 || eqb n 80 || eqb n 160) (eqb n 240) h (λ h.
    or_cases (P n) (eqb n 40 || eqb n 80) (eqb n 160) h (λ h.
    or_cases (P n) (eqb n 40) (eqb n 80) h (is 40 a) (is 80 b)) (is 160 c)) (is 240 d)) (is 320 e)
  where
    is : (m : ℕ) → P m → eqb n m ≡ true → P n
    is m p h = subst P (sym (eqb-true n m h)) p

-- every length is so many times 40
pub forties : (n : ℕ) → is_length n ≡ true → n % 40 ≡ 0
forties n h = by_length (λ n. n % 40 ≡ 0) refl refl refl refl refl n h

pub not-length : (n : ℕ) → (n ≡ 40 → ⊥) → (n ≡ 80 → ⊥) → (n ≡ 160 → ⊥) → (n ≡ 240 → ⊥) → (n ≡ 320 → ⊥) → false ≡ is_length n
not-length n a b c d e = rw (ne_eqb n 40 a, ne_eqb n 80 b, ne_eqb n 160 c, ne_eqb n 240 d, ne_eqb n 320 e)

-- what holds of the eight tools holds of every tool
pub by-tool : (P : ℕ → Type 0) → P 1 → P 2 → P 3 → P 4 → P 5 → P 6 → P 7 → P 11 → (t : ℕ) → is_tool t ≡ true → P t
by-tool P a b c d e f g k t h =
    or_cases (P t) (leb 1 t && leb t 7) (eqb t 11) h
    (λ h. go t (leb-true 1 t (and_left (leb 1 t) (leb t 7) h)) (leb-true t 7 (and_right (leb 1 t) (leb t 7) h)))
    (λ h. subst P (sym (eqb-true t 11 h)) k)
  where
    go : (t : ℕ) → 1 ≤ t → t ≤ 7 → P t
    go zero l k = absurd (omega arith)
    go (suc zero) l k = a
    go (suc (suc zero)) l k = b
    go (suc (suc (suc zero))) l k = c
    go (suc (suc (suc (suc zero)))) l k = d
    go (suc (suc (suc (suc (suc zero))))) l k = e
    go (suc (suc (suc (suc (suc (suc zero)))))) l k = f
    go (suc (suc (suc (suc (suc (suc (suc zero))))))) l k = g
    go (suc (suc (suc (suc (suc (suc (suc (suc t)))))))) l k = absurd (omega arith)

-- 0, a pad's, is none
pub tool-some : (t : ℕ) → is_tool t ≡ true → 1 ≤ t
tool-some t h = by-tool (λ t. 1 ≤ t) (lit≤ tt) (lit≤ tt) (lit≤ tt) (lit≤ tt) (lit≤ tt) (lit≤ tt) (lit≤ tt) (lit≤ tt) t h

-- every tool is below this number, for tests that are computed
abbrev pub past_tools : ℕ
past_tools = 12

pub tool-low : (t : ℕ) → is_tool t ≡ true → t < past_tools
tool-low t h = by-tool (λ t. t < past_tools) (lit< tt) (lit< tt) (lit< tt) (lit< tt) (lit< tt) (lit< tt) (lit< tt) (lit< tt) t h
