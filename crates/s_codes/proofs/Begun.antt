-- The S that a window begins with is what the paper's tree finds on its bits (found_number).
use Prim.Native.Nat.{ℕ, suc, ◌+◌, ◌-◌, ◌^◌, ◌/◌, ◌%◌, ◌≤◌, ◌<◌}
use mathlib.Core.Path.{◌≡◌, refl, sym, ap, ◌∙◌}
use mathlib.Core.List.{List, []}
use mathlib.Core.Bool.{Bool, true}
use native.Mathlib.Omega.{arith}
use native.Mathlib.Decide.{ℕ_discrete}
use lib.ListN.{length, get_or, take}
use lib.Seq.{length-take-le, get_or-take}
use lib.Dec.{leb, ltb}
use lib.Pow.{shr-shr, shr_lt}
use borrow.Author.Tests.{ltb-true, leb-true, ne_eqb}
use Rattle.rules.specs.Bits.{low_bits}
use Rattle.rules.specs.Reading.{whole, and_then, number_from}
use Rattle.rules.specs.Zeros.{Tree, tree_of, read_tree, codes_of}
use Rattle.rules.proofs.Codes.{leads, lead-number}
use Rattle.rules.proofs.Octets.{length-low_bits, low_bits-at}
use Rattle.rules.proofs.Tests.{all_below, all_below-at}
use Rattle.s_codes.specs.declared.Table.{Table}
use Rattle.s_codes.specs.declared.Found.{Found}
use Rattle.s_codes.specs.Codes.{s_from, s_in, TableIs, FoundIs}
use Rattle.s_codes.proofs.Coded.{digit_at, lengths-are}

-- a test that the codes and the tree of 40, 80 and 160 pass on each number of six bits is passed by those of every length
by-six : (f : List (List ℕ) → Tree → ℕ → Bool) → all_below (f (codes_of 40) (tree_of 40)) 64 ≡ true
    → all_below (f (codes_of 80) (tree_of 80)) 64 ≡ true
    → all_below (f (codes_of 160) (tree_of 160)) 64 ≡ true → (n w : ℕ) → w < 64 → f (codes_of n) (tree_of n) w ≡ true
unfolding codes_of tree_of
by-six f a b c n w h = all_below-at (f (codes_of n) (tree_of n)) 64 (go (ℕ_discrete n 40) (ℕ_discrete n 80)) w h
  where
    go : Dec (n ≡ 40) → Dec (n ≡ 80) → all_below (f (codes_of n) (tree_of n)) 64 ≡ true
    go (yes e) d = rw e a
    go (no e) (yes g) = rw g b
    go (no e) (no g) = rw (ne_eqb n 40 e, ne_eqb n 80 g) c

-- the bits of a number's code, some and at most six, lead to its S, at most 9
abbrev code_bits : List (List ℕ) → ℕ → ℕ
code_bits cs w = length (get_or cs (s_from 1 cs (low_bits 6 w) - 1) [])

module _ (n w : ℕ) (h : w < 64) where
  code-leads : leads (tree_of n) (take (code_bits (codes_of n) w) (low_bits 6 w)) (s_from 1 (codes_of n) (low_bits 6 w)) ≡ true
  unfolding codes_of tree_of low_bits
  code-leads = by-six (λ cs t w. leads t (take (code_bits cs w) (low_bits 6 w)) (s_from 1 cs (low_bits 6 w))) refl refl refl n w h

  code-some : 0 < code_bits (codes_of n) w
  unfolding codes_of low_bits
  code-some = ltb-true 0 _ (by-six (λ cs t w. ltb 0 (code_bits cs w)) refl refl refl n w h)

  code-few : code_bits (codes_of n) w ≤ 6
  unfolding codes_of low_bits
  code-few = leb-true _ 6 (by-six (λ cs t w. leb (code_bits cs w) 6) refl refl refl n w h)

  code-most : s_from 1 (codes_of n) (low_bits 6 w) ≤ 9
  unfolding codes_of low_bits
  code-most = leb-true _ 9 (by-six (λ cs t w. leb (s_from 1 cs (low_bits 6 w)) 9) refl refl refl n w h)

pub table-found : {n window : ℕ} {r : Table} → TableIs n r → window < 2 ^ 32
    → FoundIs n window (record { s = digit_at r.found (window / 2 ^ 26); bits = get_or r.bits (digit_at r.found (window / 2 ^ 26)) 0 })
unfolding s_in
table-found {n} {window} {r} t h =
    let w = window / 2 ^ 26 in
    let k = shr_lt 6 26 h in
    let e : digit_at r.found w ≡ s_in n w = t.finds w k in
    let f = (lengths-are t).says (digit_at r.found w) in
    record {
      says = e;
      size = f;
      some = rw (f, e) (code-some n w k);
      few = rw (f, e) (code-few n w k);
      most = rw e (code-most n w k);
    }

-- where a window's bits stand, its code is read as a number of so many bits is
pub found_number : {n window : ℕ} {r : Found} → FoundIs n window r → window < 2 ^ 32 → (bits : List ℕ) (at : ℕ)
    → ((j : ℕ) → j < 32 → window / 2 ^ (32 - suc j) % 2 ≡ get_or bits (at + j) 0)
    → read_tree (tree_of n) bits at ≡ and_then (number_from 0 r.bits bits at) (λ x j. whole r.s j)
unfolding s_in
found_number {n} {window} {r} f h bits at e =
    let w = window / 2 ^ 26 in
    let code = take r.bits (low_bits 6 w) in
    let few = f.few in
    let l : length code ≡ r.bits = length-take-le r.bits (low_bits 6 w) (rw (length-low_bits 6 w) few) in
    let way : leads (tree_of n) code r.s ≡ true = rw (f.size, f.says) (code-leads n w (shr_lt 6 26 h)) in
    rw l at (lead-number (tree_of n) code r.s way 0 bits at (λ j h.
    let g : j < r.bits = rw l at h in
    let d : 26 + (6 - suc j) ≡ 32 - suc j = omega arith in
    sym (get_or-take r.bits (low_bits 6 w) j 0 g ∙ low_bits-at 6 w j (omega arith)
    ∙ ap (λ (x : ℕ). x % 2) (shr-shr window 26 (6 - suc j) ∙ ap (λ (x : ℕ). window / 2 ^ x) d) ∙ e j (omega arith))))
