-- What the marked cases do not pin, each as a law for all frames.
use Prim.Native.Nat.{ℕ, zero, suc, ◌+◌, ◌*◌, ◌≤◌, ◌<◌}
use mathlib.Core.Path.{◌≡◌, refl, ap}
use mathlib.Core.List.{List, [], ◌∷◌, ◌++◌}
use mathlib.Core.Bool.{Bool, true, false, cond, ◌&&◌}
use native.Mathlib.Omega.{arith}
use native.Mathlib.Nat.{add-zero, add_assoc}
use lib.Dec.{eqb, leb}
use lib.ListN.{length, get_or}
use borrow.Author.Tests.{le-ltb, lt-ltb, le-leb, lt-leb, eq-eqb, ne_eqb}
use Rattle.rules.specs.declared.Refusal.TheVariants.{Run, Place}
use Rattle.rules.specs.Reading.{whole, refuse, bit, number}
use Rattle.rules.specs.Samples.{plus_zero, minus_zero}
use Rattle.rules.specs.Runs.{zeros_from, runs_of}
use Rattle.rules.specs.Located.{width_of, listed_from, lay}
use Rattle.rules.proofs.Octets.{Below, none, more}
use Rattle.rules.specs.Chooses.{count_of, mark_of, run_s, fewest_run_bits, method_of, above, below, located_flag}

-- "The commoner zero, plus on a tie": on equal counts the mark is plus
pub tie-marks-plus : (mask : ℕ) (s : List ℕ) → count_of (λ x. eqb x (plus_zero mask)) s ≡ count_of (λ x. eqb x (minus_zero mask)) s
    → mark_of mask s ≡ 0
tie-marks-plus mask s e =
    let h : count_of (λ x. eqb x (minus_zero mask)) s ≤ count_of (λ x. eqb x (plus_zero mask)) s = omega arith in
    ap (λ (t : Bool). cond t 1 0) (le-ltb (count_of (λ x. eqb x (plus_zero mask)) s) (count_of (λ x. eqb x (minus_zero mask)) s) h)

-- A place is counted among those still empty: a cell that has its value takes no flag, an empty one takes the next.
pub filled-cell-takes-no-flag : (z x : ℕ) (flags : List ℕ) (p y : ℕ) (cells : List ℕ) → (y ≡ z → ⊥)
    → lay z x flags p (y ∷ cells) ≡ y ∷ lay z x flags p cells
unfolding lay
filled-cell-takes-no-flag z x flags p y cells h = rw (ne_eqb y z h)

pub empty-cell-takes-a-flag : (z x : ℕ) (flags : List ℕ) (p : ℕ) (cells : List ℕ)
    → lay z x flags p (z ∷ cells) ≡ cond (eqb (get_or flags p 0) 1) x z ∷ lay z x flags (p + 1) cells
unfolding lay
empty-cell-takes-a-flag z x flags p cells = rw (eq-eqb z z refl)

-- "000 if L exceeds D; else .. runs": L equal to D is runs, and so is L equal to count times ceil(log2 D) plus 2
pub equal-bits-are-runs : (flags : List ℕ) → 0 < count_of (λ f. eqb f 1) flags → fewest_run_bits flags ≤ length flags
    → fewest_run_bits flags ≤ count_of (λ f. eqb f 1) flags * width_of (length flags) + 2 → method_of flags ≡ run_s flags
unfolding method_of
equal-bits-are-runs flags h l m =
    rw (ne_eqb (count_of (λ f. eqb f 1) flags) 0 (λ e. omega arith), le-ltb (length flags) (fewest_run_bits flags) l, le-ltb _ _ m)
    (go (leb (count_of (λ f. eqb f 1) flags) 4))
  where
    go : (t : Bool) → cond (t && false) 7 (run_s flags) ≡ run_s flags
    go true = refl
    go false = refl

-- "flag 1 if as many samples are above 0 as below or more"
pub equal-counts-give-flag-1 : (mask : ℕ) (s : List ℕ) → above mask s ≡ below mask s → located_flag mask s ≡ 1
equal-counts-give-flag-1 mask s e = let h : below mask s ≤ above mask s = omega arith in rw (le-leb (below mask s) (above mask s) h)

-- "rising": a listed place that is not past the one before it is PLACE, at its own first bit
pub rising-is-strict : (w d : ℕ) (done : List ℕ) (count : ℕ) (b : List ℕ) (i p j : ℕ) → number w b i ≡ whole p j → p < length done
    → listed_from w d done (suc count) b i ≡ refuse Place i
unfolding listed_from
rising-is-strict w d done count b i p j e h = rw (e, lt-leb (length done) p h)

-- "ends .. at zero N + 1, which is RUN": so many zeros, and whatever follows
pub zeros-end : (start k n : ℕ) (b : List ℕ) (i : ℕ) → i + n ≤ length b → ((j : ℕ) → j < n → get_or b (i + j) 0 ≡ 0)
    → zeros_from start k n b i ≡ refuse Run start
unfolding zeros_from bit
zeros-end start k zero b i h z = refl
zeros-end start k (suc n) b i h z =
    let o : get_or b i 0 ≡ 0 = rw (← (add-zero i)) (z 0 (omega arith)) in
    rw (lt-ltb i (length b) (omega arith), o)
    (zeros-end start (k + 1) n b (i + 1) (omega arith) (λ j g. rw (add_assoc i 1 j) (z (1 + j) (omega arith))))

-- "No run follows a run whose closing sample is the last place": flags that end on the rarer kind have a run for each, and no more
pub no-run-follows : (c : ℕ) {flags : List ℕ} → Below 2 flags → length (runs_of c (flags ++ (1 ∷ []))) ≡ count_of (λ f. eqb f 1) flags + 1
unfolding runs_of count_of
no-run-follows c none = refl
no-run-follows c (more {x = zero} h t) = let e = no-run-follows (c + 1) t in omega arith
no-run-follows c (more {x = suc zero} h t) = let e = no-run-follows 0 t in omega arith
no-run-follows c (more {x = suc (suc f)} h t) = absurd (omega arith)
