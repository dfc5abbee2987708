-- Tools 1 to 6: each body's form is read back, for every frame that the tool applies to.
use Prim.Native.Nat.{ℕ, zero, suc, ◌≤◌, ◌<◌}
use native.Mathlib.Omega.{arith}
use mathlib.Core.Path.{◌≡◌, refl, sym, ap₂}
use mathlib.Core.List.{List, [], ◌∷◌, ◌++◌, map, append-nil}
use mathlib.Core.Bool.{Bool, true, false, ◌||◌}
use lib.ListN.{length, replicate, length-map}
use lib.Dec.{eqb}
use borrow.Author.Tests.{eqb-true}
use Rattle.rules.specs.Bits.{low_bits, bits_of}
use Rattle.rules.specs.Runs.{runs_form}
use Rattle.rules.specs.Samples.{plus_zero, minus_zero}
use Rattle.rules.specs.Zeros.{uncompressed, constantly, constant, zero_of, flag_of, binary, code_of, most_s, tree_of, read_tree, plus_minus}
use Rattle.rules.specs.Tools.{is_length}
use Rattle.rules.proofs.Codes.{code_read}
use Rattle.rules.proofs.Octets.{Below}
use Rattle.rules.proofs.Each.{Each, nothing, next, pick-below, below-map}
use Rattle.promises.proofs.Back.{Back, back-give, back-bind, back_as, back-number, back-flags, back-octets_after}
use Rattle.promises.proofs.Runs.{back-runs}

-- the code of S, for every length
pub back-code : (n s : ℕ) → is_length n ≡ true → 1 ≤ s → s ≤ most_s n → Back (read_tree (tree_of n)) (code_of n s) s
back-code n s l h k = record { reads = λ pre post. code_read n s l h k pre post }

-- "Uncompressed: N octets."
pub back-uncompressed : (s : List ℕ) → Below 256 s → Back (uncompressed (length s)) (bits_of s) s
back-uncompressed s b = back-octets_after [] s b

-- every sample is x
pub only-replicate : (x : ℕ) {s : List ℕ} → Each (λ y. eqb y x) s → replicate (length s) x ≡ s
only-replicate x nothing = refl
only-replicate x (next {x = y} {s = s} h t) = let e : y ≡ x = eqb-true y x h in rw (only-replicate x t, e)

-- "Plus, minus: nothing."
pub back-constantly : (x : ℕ) (s : List ℕ) → Each (λ y. eqb y x) s → Back (constantly (length s) x) [] s
back-constantly x s h = back_as (back-give (replicate (length s) x)) refl refl (only-replicate x h)

-- "Constant: one octet, any."
pub back-constant : (x : ℕ) (s : List ℕ) → Each (λ y. eqb y x) s → x < 256 → Back (constant (length s)) (low_bits 8 x) s
back-constant x s h b = back_as (back-bind _ _ (back-number 8 x b) (back-constantly x s h)) refl (append-nil (low_bits 8 x)) refl

-- the two zeros, as the tests of document 01 tell them
abbrev pub is_zero : ℕ → ℕ → Bool
is_zero mask x = eqb x (plus_zero mask) || eqb x (minus_zero mask)

-- one of two tests, or the second alone
split : (p q : Bool) {C : Type 0} → p || q ≡ true → (p ≡ true → C) → (p ≡ false → q ≡ true → C) → C
split true q e f g = f refl
split false q e f g = g refl e

swap : (p q : Bool) → p || q ≡ true → q || p ≡ true
swap true true e = refl
swap true false e = refl
swap false true e = refl
swap false false e = e

zero-back : (mask mark x : ℕ) → mark < 2 → is_zero mask x ≡ true → zero_of mask mark (flag_of mask mark x) ≡ x
zero-back mask zero x h e =
    split (eqb x (plus_zero mask)) (eqb x (minus_zero mask)) e (λ p. rw p (sym (eqb-true x (plus_zero mask) p)))
    (λ p q. rw p (sym (eqb-true x (minus_zero mask) q)))
zero-back mask (suc zero) x h e =
    split (eqb x (minus_zero mask)) (eqb x (plus_zero mask)) (swap (eqb x (plus_zero mask)) (eqb x (minus_zero mask)) e)
    (λ p. rw p (sym (eqb-true x (minus_zero mask) p)))
    (λ p q. rw p (sym (eqb-true x (plus_zero mask) q)))
zero-back mask (suc (suc m)) x h e = absurd (omega arith)

zeros-back : (mask mark : ℕ) {s : List ℕ} → mark < 2 → Each (is_zero mask) s → map (zero_of mask mark) (map (flag_of mask mark) s) ≡ s
zeros-back mask mark h nothing = refl
zeros-back mask mark h (next {x = x} p t) = ap₂ ◌∷◌ (zero-back mask mark x h p) (zeros-back mask mark h t)

pub flags-below : (mask mark : ℕ) (s : List ℕ) → Below 2 (map (flag_of mask mark) s)
flags-below mask mark s = below-map (flag_of mask mark) (λ x. pick-below (eqb x (zero_of mask mark 0)) 0 1 (omega arith) (omega arith)) s

-- "Binary: N bits, 1 is minus zero."
pub back-binary : (mask : ℕ) (s : List ℕ) → Each (is_zero mask) s → Back (binary mask (length s)) (map (flag_of mask 0) s) s
back-binary mask s h =
    let flags = map (flag_of mask 0) s in
    let e : length flags ≡ length s = length-map s (flag_of mask 0) in
    back_as (back-bind _ _ (rw e at (back-flags flags)) (back-give (map (zero_of mask 0) flags))) refl (append-nil flags)
    (zeros-back mask 0 (omega arith) h)

-- "Tool 6: code of S, then runs over N."
pub back-plus_minus : (mask mark r : ℕ) (s : List ℕ) → is_length (length s) ≡ true → mark < 2 → Each (is_zero mask) s → 1 ≤ r
    → r ≤ most_s (length s) → Back (plus_minus mask (length s) mark) (code_of (length s) r ++ runs_form r (map (flag_of mask mark) s)) s
back-plus_minus mask mark r s l m h a b =
    let flags = map (flag_of mask mark) s in
    let e : length flags ≡ length s = length-map s (flag_of mask mark) in
    back-bind _ _ (back-code (length s) r l a b)
    (back_as (back-bind _ _ (rw e at (back-runs (length s) r flags (flags-below mask mark s) (omega arith)))
    (back-give (map (zero_of mask mark) flags)))
    refl (append-nil (runs_form r flags)) (zeros-back mask mark m h))
