-- The code of S (specs/Zeros): every code of the table is read back as its S, for all five lengths (code_read); and a code that stands at a
-- place, a bit that is missing counting 0, is read as a number of so many bits is, or SHORT (lead-number).
use Prim.Native.Nat.{ℕ, zero, suc, ◌+◌, ◌*◌, ◌-◌, ◌≤◌, ◌<◌}
use mathlib.Core.Path.{◌≡◌, refl, ◌∙◌}
use mathlib.Core.List.{List, [], ◌∷◌, ◌++◌}
use mathlib.Core.Bool.{Bool, true, false, cond, false≢true}
use native.Mathlib.Omega.{arith}
use native.Mathlib.Nat.{add-zero}
use lib.Dec.{eqb, ltb}
use lib.ListN.{length, get_or, length-append, get_or-append}
use lib.Seq.{get_or-append_seam, get_or-append-add}
use borrow.Author.Tests.{eqb-true, lt-ltb}
use Rattle.rules.specs.declared.Refusal.TheVariants.{Short}
use Rattle.rules.specs.Tools.{is_length}
use Rattle.rules.specs.Reading.{Read, whole, refuse, and_then, bit, number_from}
use Rattle.rules.specs.Zeros.{Tree, leaf, fork, tree_of, read_tree, codes_of, code_of, most_s}
use Rattle.rules.proofs.Tests.{all_below, all_below-at, by_length}

-- the bit that stands where the front ends
pub bit-seam : (front : List ℕ) (a : ℕ) (rest : List ℕ) → bit (front ++ (a ∷ rest)) (length front) ≡ whole a (length front + 1)
unfolding bit
bit-seam front a rest =
    let h : length front < length (front ++ (a ∷ rest)) = simp length-append (omega arith) in
    rw (lt-ltb _ _ h, get_or-append_seam front a rest 0)

-- whether a code leads through a tree to S
abbrev pub leads : Tree → List ℕ → ℕ → Bool
leads (leaf t) [] s = eqb t s
leads (leaf t) (a ∷ code) s = false
leads (fork z o) [] s = false
leads (fork z o) (zero ∷ code) s = leads z code s
leads (fork z o) (suc zero ∷ code) s = leads o code s
leads (fork z o) (suc (suc a) ∷ code) s = false

-- a bit that both read, there or missing, and what both go on with
both-bit : (there : Bool) (a i : ℕ) (f g k : ℕ → ℕ → Read ℕ) → f a (i + 1) ≡ and_then (g a (i + 1)) k
    → and_then (cond there (whole a (i + 1)) (refuse Short i)) f ≡ and_then (and_then (cond there (whole a (i + 1)) (refuse Short i)) g) k
both-bit true a i f g k h = h
both-bit false a i f g k h = refl

pub lead-number : (t : Tree) (code : List ℕ) (s : ℕ) → leads t code s ≡ true → (v : ℕ) (bits : List ℕ) (i : ℕ)
    → ((j : ℕ) → j < length code → get_or bits (i + j) 0 ≡ get_or code j 0)
    → read_tree t bits i ≡ and_then (number_from v (length code) bits i) (λ x j. whole s j)
unfolding read_tree number_from bit
lead-number (leaf t) [] s h v bits i e = rw (eqb-true t s h)
lead-number (leaf t) (a ∷ code) s h v bits i e = absurd (false≢true h)
lead-number (fork z o) [] s h v bits i e = absurd (false≢true h)
lead-number (fork z o) (a ∷ code) s h v bits i e =
    let f : get_or bits i 0 ≡ a = rw (add-zero i) at (e 0 (omega arith)) in
    let later : (j : ℕ) → j < length code → get_or bits (i + 1 + j) 0 ≡ get_or code j 0 = λ j l.
    let g : i + 1 + j ≡ i + suc j = omega arith in
    rw g (e (suc j) (omega arith)) in
    rw f
    (both-bit (ltb i (length bits)) a i (λ a j. cond (eqb a 1) (read_tree o) (read_tree z) bits j)
    (λ a j. number_from (2 * v + a) (length code) bits j) (λ x j. whole s j)
    (go a h (λ t k. lead-number t code s k (2 * v + a) bits (i + 1) later)))
  where
    go : (a : ℕ) → leads (fork z o) (a ∷ code) s ≡ true → {r : Read ℕ}
        → ((t : Tree) → leads t code s ≡ true → read_tree t bits (i + 1) ≡ r)
        → cond (eqb a 1) (read_tree o) (read_tree z) bits (i + 1) ≡ r
    go zero h m = m z h
    go (suc zero) h m = m o h
    go (suc (suc a)) h m = absurd (false≢true h)

-- so many bits that are there
number_passed : (s v n : ℕ) (bits : List ℕ) (i : ℕ) → i + n ≤ length bits
    → and_then (number_from v n bits i) (λ x j. whole s j) ≡ whole s (i + n)
unfolding number_from bit
number_passed s v zero bits i h = rw (add-zero i)
number_passed s v (suc n) bits i h =
    let e : i + suc n ≡ i + 1 + n = omega arith in
    rw (lt-ltb i (length bits) (omega arith), e) (number_passed s (2 * v + get_or bits i 0) n bits (i + 1) (omega arith))

lead-read : (t : Tree) (code : List ℕ) (s : ℕ) → leads t code s ≡ true → (front rest : List ℕ)
    → read_tree t (front ++ (code ++ rest)) (length front) ≡ whole s (length front + length code)
lead-read t code s h front rest =
    lead-number t code s h 0 (front ++ (code ++ rest)) (length front)
    (λ j l. get_or-append-add front (code ++ rest) j 0 ∙ get_or-append code rest 0 j l)
    ∙ number_passed s 0 (length code) (front ++ (code ++ rest)) (length front) (simp length-append (omega arith))

-- every S code, of whatever length
abbrev code_leads : ℕ → ℕ → Bool
code_leads n k = leads (tree_of n) (code_of n (k + 1)) (k + 1)

pub code_read : (n s : ℕ) → is_length n ≡ true → 1 ≤ s → s ≤ most_s n → (front rest : List ℕ)
    → read_tree (tree_of n) (front ++ (code_of n s ++ rest)) (length front) ≡ whole s (length front + length (code_of n s))
unfolding tree_of codes_of
code_read n s l h g front rest =
    let e : s - 1 + 1 ≡ s = omega arith in
    let t = all_below-at (code_leads n) (most_s n) (by_length (λ n. all_below (code_leads n) (most_s n) ≡ true) refl refl refl refl refl n l)
    (s - 1) (omega arith) in
    lead-read (tree_of n) (code_of n s) s (rw e at t) front rest
