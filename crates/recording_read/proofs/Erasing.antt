-- Whether a frame is an erasure frame, by its first sample: `erased-plus`, `erased-minus`, `erased-other`.
use Prim.Native.Nat.{ℕ, ◌≤◌, ◌<◌}
use native.Mathlib.Omega.{arith}
use mathlib.Core.Path.{◌≡◌, refl, sym, ◌∙◌}
use mathlib.Core.List.{List, [], ◌∷◌}
use mathlib.Core.Bool.{Bool, true, false, ◌||◌}
use lib.ListN.{length, get_or}
use lib.Dec.{eqb}
use borrow.Author.Tests.{ne_eqb}
use Rattle.rules.specs.Samples.{sample_of}
use Rattle.rules.specs.Chooses.{count_of, every}
use Rattle.rules.proofs.Counts.{count-le}
use Rattle.write_scan.specs.Looks.{count_is}
use Rattle.recording.specs.Remembered.{plus_plus, minus_minus, erased}

pub erased-none : (mask : ℕ) (s : List ℕ) → length s ≡ 0 → false ≡ erased mask s
unfolding erased
erased-none mask s e = rw e refl

-- 0++ is not 0--
differ : (mask : ℕ) → plus_plus mask ≡ minus_minus mask → ⊥
unfolding sample_of
differ mask e = omega arith

-- the first sample is not y: not all are
count_less : (y : ℕ) (s : List ℕ) → 1 ≤ length s → (get_or s 0 0 ≡ y → ⊥) → count_is y s < length s
unfolding count_of
count_less y [] o d = absurd (omega arith)
count_less y (x ∷ s) o d = rw (ne_eqb x y d) (omega (arith, count-le (λ z. eqb z y) s))

or_nothing : (b : Bool) → b ≡ (b || false)
or_nothing true = refl
or_nothing false = refl

module _ (mask : ℕ) (s : List ℕ) (o : 1 ≤ length s) where
  not-all : (y : ℕ) → (get_or s 0 0 ≡ y → ⊥) → eqb (count_is y s) (length s) ≡ false
  not-all y d = ne_eqb (count_is y s) (length s) (λ e. absurd (omega (arith, e, count_less y s o d)))

  pub erased-plus : get_or s 0 0 ≡ plus_plus mask → every (λ z. eqb z (get_or s 0 0)) s ≡ erased mask s
  unfolding erased
  erased-plus e = rw (ne_eqb (length s) 0 (omega arith), not-all (minus_minus mask) (λ d. differ mask (sym e ∙ d)), e) (or_nothing _)

  pub erased-minus : get_or s 0 0 ≡ minus_minus mask → every (λ z. eqb z (get_or s 0 0)) s ≡ erased mask s
  unfolding erased
  erased-minus e = rw (ne_eqb (length s) 0 (omega arith), not-all (plus_plus mask) (λ d. differ mask (sym d ∙ e)), e) refl

  pub erased-other : (get_or s 0 0 ≡ plus_plus mask → ⊥) → (get_or s 0 0 ≡ minus_minus mask → ⊥) → false ≡ erased mask s
  unfolding erased
  erased-other p m = rw (ne_eqb (length s) 0 (omega arith), not-all (plus_plus mask) p, not-all (minus_minus mask) m) refl
