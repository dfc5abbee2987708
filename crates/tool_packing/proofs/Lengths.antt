-- The next frame's length: what it is by ranges, that it is a length or 0, and that a whole frame length is taken where it fits.
use Prim.Native.Nat.{ℕ, min, ◌≤◌, ◌<◌}
use native.Mathlib.Omega.{arith}
use mathlib.Core.Path.{◌≡◌, refl, sym, ap, ◌∙◌}
use mathlib.Core.Bool.{Bool, true, false, cond}
use lib.Dec.{leb}
use borrow.Author.Tests.{le-leb, lt-leb, ne_eqb, eq-eqb, leb-true, leb-false}
use Rattle.rules.specs.declared.Refusal.TheVariants.{Length}
use Rattle.std.proofs.Common.{Ok, Err}
use Rattle.rules.specs.Tools.{is_length}
use Rattle.rules.proofs.Tests.{by_length}
use Rattle.tool_packing.specs.Cuts.{largest_up_to, next_length, last_end}

module _ (m : ℕ) where
  pub up-320 : 320 ≤ m → 320 ≡ largest_up_to m
  unfolding largest_up_to
  up-320 h = rw (le-leb 320 m h)

  pub up-240 : m < 320 → 240 ≤ m → 240 ≡ largest_up_to m
  unfolding largest_up_to
  up-240 g h = rw (lt-leb 320 m g, le-leb 240 m h)

  pub up-160 : m < 240 → 160 ≤ m → 160 ≡ largest_up_to m
  unfolding largest_up_to
  up-160 g h = rw (lt-leb 320 m (omega arith), lt-leb 240 m g, le-leb 160 m h)

  pub up-80 : m < 160 → 80 ≤ m → 80 ≡ largest_up_to m
  unfolding largest_up_to
  up-80 g h = rw (lt-leb 320 m (omega arith), lt-leb 240 m (omega arith), lt-leb 160 m g, le-leb 80 m h)

  pub up-40 : m < 80 → 40 ≤ m → 40 ≡ largest_up_to m
  unfolding largest_up_to
  up-40 g h = rw (lt-leb 320 m (omega arith), lt-leb 240 m (omega arith), lt-leb 160 m (omega arith), lt-leb 80 m g, le-leb 40 m h)

  pub up_none : m < 40 → 0 ≡ largest_up_to m
  unfolding largest_up_to
  up_none g = rw (
    lt-leb 320 m (omega arith),
    lt-leb 240 m (omega arith),
    lt-leb 160 m (omega arith),
    lt-leb 80 m
        (omega arith),
    lt-leb 40 m g,
  )

-- a length that fits, or none
pub data Largest (m : ℕ) : ℕ → Type 0 where
  none : m < 40 → Largest m 0
  one : {l : ℕ} → is_length l ≡ true → l ≤ m → 40 ≤ l → Largest m l

pub largest-is : (m : ℕ) → Largest m (largest_up_to m)
unfolding largest_up_to
largest-is m =
    at_least 320 (leb 320 m) refl (one refl) (omega arith)
    (at_least 240 (leb 240 m) refl (one refl) (omega arith)
    (at_least 160 (leb 160 m) refl (one refl) (omega arith)
    (at_least 80 (leb 80 m) refl (one refl) (omega arith)
    (last (leb 40 m) refl))))
  where
    at_least : (l : ℕ) (b : Bool) {y : ℕ} → leb l m ≡ b → (l ≤ m → 40 ≤ l → Largest m l) → 40 ≤ l → Largest m y → Largest m (cond b l y)
    at_least l true e f h k = f (leb-true l m e) h
    at_least l false e f h k = k

    last : (b : Bool) → leb 40 m ≡ b → Largest m (cond b 40 0)
    last true e = one refl (leb-true 40 m e) (omega arith)
    last false e = none (leb-false 40 m e)

-- a length is the largest up to itself
pub largest-self : (n : ℕ) → is_length n ≡ true → largest_up_to n ≡ n
unfolding largest_up_to
largest-self n l = by_length (λ n. largest_up_to n ≡ n) refl refl refl refl refl n l

-- the frame length itself wherever it fits
pub next-whole : (n left : ℕ) → is_length n ≡ true → n ≤ left → next_length n left ≡ n
next-whole n left l h = let e : min n left ≡ n = omega arith in ap largest_up_to e ∙ largest-self n l

pub next-if-short : (n left : ℕ) → n ≤ left → largest_up_to n ≡ next_length n left
next-if-short n left h = let e : n ≡ min n left = omega arith in ap largest_up_to e

pub next-if-long : (n left : ℕ) → left < n → largest_up_to left ≡ next_length n left
next-if-long n left h = let e : left ≡ min n left = omega arith in ap largest_up_to e

-- no length fits in less than 40; one that is next fits
pub next-none : (n left : ℕ) → left < 40 → next_length n left ≡ 0
next-none n left h = sym (up_none (min n left) (omega arith))

pub record Fits (left l : ℕ) : Type 0 where
  pub allowed : is_length l ≡ true
  pub within : l ≤ left
  pub some : 40 ≤ l

pub next_fits : (n left l : ℕ) → l ≡ next_length n left → 1 ≤ l → Fits left l
next_fits n left l e h = rw e (go (next_length n left) (largest-is (min n left)) (rw e at h))
  where
    go : (m : ℕ) → Largest (min n left) m → 1 ≤ m → Fits left m
    go m (none z) k = absurd (omega arith)
    go m (one a b c) k = record { allowed = a; within = omega arith; some = c }

-- how a sound ends
pub none_left : (left : ℕ) → left ≡ 0 → (Ok tt) ≡ last_end left
unfolding last_end
none_left left h = rw (eq-eqb left 0 h)

pub some_left : (left : ℕ) → (left ≡ 0 → ⊥) → Err Length ≡ last_end left
unfolding last_end
some_left left h = rw (ne_eqb left 0 h)
