-- Value-location: the flags of a value are read back, by every method that fits them and so by the method that a writer chooses.
use Prim.Native.Nat.{ℕ, zero, suc, ◌+◌, ◌*◌, ◌-◌, ◌^◌, ◌≤◌, ◌<◌}
use native.Mathlib.Omega.{arith}
use native.Mathlib.Nat.{pow-suc}
use lib.Pow.{pow_pos}
use mathlib.Core.Path.{◌≡◌, refl, ap}
use mathlib.Core.List.{List, [], ◌∷◌, ◌++◌, append_assoc, append-nil}
use mathlib.Core.Bool.{Bool, true, false, cond, ◌&&◌}
use lib.ListN.{length, replicate, length-append, length-replicate}
use lib.Dec.{eqb, leb, ltb}
use borrow.Author.Tests.{lt-ltb, le-leb, ne_eqb, eqb-true, eqb-false, leb-true}
use Rattle.rules.specs.Bits.{low_bits}
use Rattle.rules.specs.Runs.{runs_form}
use Rattle.rules.specs.Located.{width_from, width_of, listed_from, listed, by_method}
use Rattle.rules.specs.Chooses.{count_of, least_from, least_s, places_of, numbers_form, run_s, fewest_run_bits, method_of, method_form}
use Rattle.rules.proofs.Tests.{and_left}
use Rattle.rules.proofs.Octets.{Below, none, more}
use Rattle.promises.proofs.Back.{Back, back-give, back-bind, back-here, back_as, back-number, back-flags}
use Rattle.promises.proofs.Runs.{replicate-snoc, back-runs}

-- ceil(log2 D) bits hold every place below D
width-from : (w m d : ℕ) → d ≤ 2 ^ (w + m) → d ≤ 2 ^ width_from w m d
unfolding width_from
width-from w zero d h = let e : w + 0 ≡ w = omega arith in rw e at h
width-from w (suc m) d h =
    step (leb d (2 ^ w)) (leb-true d (2 ^ w)) (let e : w + suc m ≡ w + 1 + m = omega arith in width-from (w + 1) m d (rw e at h))
  where
    step : (b : Bool) → (b ≡ true → d ≤ 2 ^ w) → d ≤ 2 ^ width_from (w + 1) m d → d ≤ 2 ^ cond b w (width_from (w + 1) m d)
    step true f next = f refl
    step false f next = next

under_pow : (d : ℕ) → d ≤ 2 ^ d
under_pow zero = omega arith
under_pow (suc d) = rw pow-suc (omega (arith, under_pow d, pow_pos d))

pub width-enough : (d : ℕ) → d ≤ 2 ^ width_of d
width-enough d = let e : 0 + d ≡ d = omega arith in width-from 0 d d (rw e (under_pow d))

-- how many flags are 1
abbrev pub ones : List ℕ → ℕ
ones flags = count_of (λ f. eqb f 1) flags

listed-step : (w d k c : ℕ) (done : List ℕ) {b v : List ℕ} → length done + c < d → d ≤ 2 ^ w
    → Back (listed_from w d (done ++ (replicate c 0 ++ (1 ∷ []))) k) b v
    → Back (listed_from w d done (suc k)) (low_bits w (length done + c) ++ b) v
unfolding listed_from
listed-step w d k c done h n t =
    let e : length done + c - length done ≡ c = omega arith in
    back-here _ (λ start. back-bind _ _ (back-number w (length done + c) (omega arith))
    (rw (le-leb (length done) (length done + c) (omega arith), lt-ltb (length done + c) d h, e) t))

-- the places after those of `done`, of which the last c are not marked
back-listed_from : (w d k c q : ℕ) (done flags : List ℕ) → Below 2 flags → q ≡ length done + c → d ≡ q + length flags
    → d ≤ 2 ^ w → k ≡ ones flags → Back (listed_from w d done k) (numbers_form w (places_of q flags)) (done ++ (replicate c 0 ++ flags))
unfolding listed_from numbers_form places_of count_of
back-listed_from w d zero c q done [] b i e h k =
    let z : d - length done ≡ c = omega arith in rw (z, append-nil {A = ℕ} (replicate c 0)) (back-give (done ++ replicate c 0))
back-listed_from w d (suc k) c q done [] b i e h f = absurd (omega arith)
back-listed_from w d k c q done (zero ∷ flags) (more m b) i e h f =
    rw (← (replicate-snoc c 0 flags)) (back-listed_from w d k (c + 1) (q + 1) done flags b (omega arith) (omega arith) h (omega arith))
back-listed_from w d zero c q done (suc zero ∷ flags) (more m b) i e h f = absurd (omega arith)
back-listed_from w d (suc k) c q done (suc zero ∷ flags) (more m b) i e h f =
    let done' = done ++ (replicate c 0 ++ (1 ∷ [])) in
    let l : length done' ≡ length done + (c + 1) = simp (length-append, length-replicate) in
    rw i (listed-step w d k c done (omega arith) h
    (back_as (back-listed_from w d k 0 (length done + c + 1) done' flags b (omega arith) (omega arith) h (omega arith))
    refl refl (simp append_assoc)))
back-listed_from w d k c q done (suc (suc x) ∷ flags) (more m b) i e h f = absurd (omega arith)

-- "111, two bits for count less one", then the places
pub back-listed : (flags : List ℕ) → Below 2 flags → 1 ≤ ones flags → ones flags ≤ 4
    → Back (listed (length flags)) (low_bits 2 (ones flags - 1) ++ numbers_form (width_of (length flags)) (places_of 0 flags)) flags
unfolding listed
back-listed flags b h k =
    back-bind _ _ (back-number 2 (ones flags - 1) (omega arith))
    (back-listed_from (width_of (length flags)) (length flags) (ones flags - 1 + 1) 0 0 [] flags b refl (omega arith)
    (width-enough (length flags)) (omega arith))

-- no flag is 1
no_ones : {flags : List ℕ} → Below 2 flags → ones flags ≡ 0 → replicate (length flags) 0 ≡ flags
unfolding count_of
no_ones none e = refl
no_ones (more {x = zero} h b) e = ap (λ l. 0 ∷ l) (no_ones b (omega arith))
no_ones (more {x = suc zero} h b) e = absurd (omega arith)
no_ones (more {x = suc (suc x)} h b) e = absurd (omega arith)

-- the methods that can give these flags
pub data Fits (flags : List ℕ) : ℕ → Type 0 where
  plain : Fits flags 0
  coded : (m : ℕ) → 1 ≤ m → m ≤ 4 → Fits flags m
  absent : ones flags ≡ 0 → Fits flags 5
  places : 1 ≤ ones flags → ones flags ≤ 4 → Fits flags 7

pub fits-small : {flags : List ℕ} {m : ℕ} → Fits flags m → m < 8
fits-small plain = omega arith
fits-small (coded m h k) = omega arith
fits-small (absent e) = omega arith
fits-small (places h k) = omega arith

pub back-method : (n start : ℕ) (flags : List ℕ) {m : ℕ} → Below 2 flags → length flags ≤ n → Fits flags m
    → Back (by_method n (length flags) start m) (method_form m flags) flags
unfolding by_method method_form
back-method n start flags b h plain = back-flags flags
back-method n start flags b h (coded m k l) = rw (ne_eqb m 0 (omega arith), le-leb m 4 l) (back-runs n m flags b h)
back-method n start flags b h (absent e) = back_as (back-give (replicate (length flags) 0)) refl refl (no_ones b e)
back-method n start flags b h (places k l) = back-listed flags b k l

-- the first at which f is least lies among those that were asked
pub least-range : (f : ℕ → ℕ) (best k m : ℕ) → 1 ≤ best → best < k → (1 ≤ least_from f best k m) × (least_from f best k m < k + m)
unfolding least_from
least-range f best k zero h g = (h, omega arith)
least-range f best k (suc m) h g =
    step (ltb (f k) (f best)) (least-range f k (k + 1) m (omega arith) (omega arith)) (least-range f best (k + 1) m h (omega arith))
  where
    step : (b : Bool) → (1 ≤ least_from f k (k + 1) m) × (least_from f k (k + 1) m < k + 1 + m)
        → (1 ≤ least_from f best (k + 1) m) × (least_from f best (k + 1) m < k + 1 + m)
        → (1 ≤ least_from f (cond b k best) (k + 1) m) × (least_from f (cond b k best) (k + 1) m < k + suc m)
    step true p q = (p.0, omega arith)
    step false p q = (q.0, omega arith)

pub least_s-range : (f : ℕ → ℕ) (most : ℕ) → 1 ≤ most → (1 ≤ least_s f most) × (least_s f most ≤ most)
least_s-range f most h = let r = least-range f 1 2 (most - 1) (omega arith) (omega arith) in (r.0, omega arith)

-- the method that a writer chooses
pub fits-chosen : (flags : List ℕ) → Fits flags (method_of flags)
unfolding method_of
fits-chosen flags =
    first (eqb (ones flags) 0) (eqb-true (ones flags) 0) (eqb-false (ones flags) 0)
  where
    last : (b : Bool) → (b ≡ true → ones flags ≤ 4) → 1 ≤ ones flags → Fits flags (cond b 7 (run_s flags))
    last true h k = places k (h refl)
    last false h k = let r = least_s-range (λ s. length (runs_form s flags)) 4 (omega arith) in coded (run_s flags) r.0 r.1

    second : (a b : Bool) → (b ≡ true → ones flags ≤ 4) → 1 ≤ ones flags → Fits flags (cond a 0 (cond b 7 (run_s flags)))
    second true b h k = plain
    second false b h k = last b h k

    first : (c : Bool) → (c ≡ true → ones flags ≡ 0) → (c ≡ false → ones flags ≡ 0 → ⊥) → Fits flags (cond c 5
        (cond (ltb (length flags) (fewest_run_bits flags)) 0
        (cond (leb (ones flags) 4 && ltb (ones flags * width_of (length flags) + 2) (fewest_run_bits flags)) 7 (run_s flags))))
    first true h k = absent (h refl)
    first false h k =
        second (ltb (length flags) (fewest_run_bits flags))
        (leb (ones flags) 4 && ltb (ones flags * width_of (length flags) + 2) (fewest_run_bits flags))
        (λ e. leb-true (ones flags) 4
        (and_left (leb (ones flags) 4) (ltb (ones flags * width_of (length flags) + 2) (fewest_run_bits flags)) e))
        (let g = k refl in omega arith)
