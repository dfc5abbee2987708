-- Laws of forms that are whole octets.
use Prim.Native.Nat.{ℕ, zero, suc, ◌+◌, ◌≤◌, ◌<◌}
use mathlib.Core.Path.{◌≡◌, refl, sym, ap, ◌∙◌}
use mathlib.Core.List.{List, [], ◌∷◌, ◌++◌, append-nil}
use mathlib.Core.Bool.{Bool, true, false, cond}
use native.Mathlib.Omega.{arith}
use borrow.Author.Tests.{ne_eqb}
use lib.ListN.{length, get_or, take, drop, set, replicate, take-append-drop}
use lib.Seq.{drop-set-lt}
use lib.Dec.{eqb}
use Rattle.rules.specs.Bits.{low_bits, bits_of, octets_for, octets_from, fill_for, pack}
use Rattle.rules.specs.First.{octet_for}
use Rattle.rules.specs.Chooses.{form_of}
use Rattle.rules.proofs.Octets.{length-bits_of, Below, below_all, below-take, octets_from-bits_of}
use Rattle.write_bits.specs.Puts.{Packed}
use Rattle.write_forms.specs.Forms.{whole_octets, Copied}

-- octets are their bits, packed
pack-whole : {l : List ℕ} → Below 256 l → pack (bits_of l) ≡ l
unfolding pack
pack-whole {l} b =
    let k = length-bits_of l in
    let n : octets_for (length (bits_of l)) ≡ length l = omega arith in
    let z : fill_for (length (bits_of l)) ≡ 0 = omega arith in
    let fill = fill_for (length (bits_of l)) in
    ap (λ (k : ℕ). octets_from k (bits_of l ++ replicate fill 0)) n ∙ ap (λ (k : ℕ). octets_from (length l) (bits_of l ++ replicate k 0)) z
    ∙ ap (octets_from (length l)) (append-nil (bits_of l)) ∙ octets_from-bits_of b

pub whole-packed : {o o' : List ℕ} {n : ℕ} (l : List ℕ) → ((i : ℕ) → get_or o' i 0 < 256) → n ≡ length l → take n o' ≡ l
    → drop n o' ≡ drop n o → Packed (bits_of l) o o' n
whole-packed {o} {o'} {n} l octets size same rest =
    let k = length-bits_of l in
    let b : Below 256 l = rw same at (below-take n (below_all o' octets)) in
    record {
      size = omega arith;
      lent = sym (take-append-drop n o') ∙ ap (λ (x : List ℕ). x ++ drop n o') (same ∙ sym (pack-whole b))
          ∙ ap (λ (x : List ℕ). pack (bits_of l) ++ x) rest;
    }

-- the forms of tools 1 to 4, as their octets
pub whole-form : (mask t : ℕ) (s : List ℕ) → 1 ≤ t → t ≤ 4 → bits_of (whole_octets t s) ≡ form_of mask t s
unfolding whole_octets form_of bits_of
whole-form mask zero s h k = absurd (omega arith)
whole-form mask (suc zero) s h k = refl
whole-form mask (suc (suc zero)) s h k = append-nil _
whole-form mask (suc (suc (suc zero))) s h k = append-nil _
whole-form mask (suc (suc (suc (suc zero)))) s h k = ap (λ (x : List ℕ). low_bits 8 (octet_for 4 (length s)) ++ x) (append-nil _)
whole-form mask (suc (suc (suc (suc (suc t))))) s h k = absurd (omega arith)

pub whole_length : (t : ℕ) (s : List ℕ) {n : ℕ} → length s ≡ n → length (whole_octets t s) ≡ cond (eqb t 1) (1 + n) (cond (eqb t 4) 2 1)
unfolding whole_octets
whole_length t s {n} e = go (eqb t 1) (eqb t 4)
  where
    go : (a b : Bool) → length (octet_for t (length s) ∷ cond a s (cond b (get_or s 0 0 ∷ []) [])) ≡ cond a (1 + n) (cond b 2 1)
    go true b = omega arith
    go false true = refl
    go false false = refl

pub octets-some : (t n : ℕ) → 1 ≤ cond (eqb t 1) (1 + n) (cond (eqb t 4) 2 1)
octets-some t n = go (eqb t 1) (eqb t 4)
  where
    go : (a b : Bool) → 1 ≤ cond a (1 + n) (cond b 2 1)
    go true b = omega arith
    go false true = omega arith
    go false false = omega arith

-- a store of an octet leaves octets
pub set-octets : (l : List ℕ) (i x : ℕ) → x < 256 → ((j : ℕ) → get_or l j 0 < 256) → (j : ℕ) → get_or (set l i x) j 0 < 256
set-octets [] i x h f j = f j
set-octets (y ∷ l) zero x h f zero = h
set-octets (y ∷ l) zero x h f (suc j) = f (suc j)
set-octets (y ∷ l) (suc i) x h f zero = f 0
set-octets (y ∷ l) (suc i) x h f (suc j) = set-octets l i x h (λ k. f (suc k)) j

-- stored
set_first : (l : List ℕ) (x : ℕ) → 0 < length l → set l 0 x ≡ x ∷ drop 1 l
set_first [] x h = absurd (omega arith)
set_first (y ∷ l) x h = refl

module _ {o : List ℕ} {x n : ℕ} (s : List ℕ) (size : length s ≡ n) where
  pub whole-samples : {o' : List ℕ} → x ≡ octet_for 1 n → 0 < length o → Copied s n (set o 0 x) o' → ((i : ℕ) → get_or o' i 0 < 256)
      → Packed (bits_of (whole_octets 1 s)) o o' (1 + n)
  unfolding whole_octets
  whole-samples {o'} e h c octets =
      let first : take 1 (set o 0 x) ≡ octet_for 1 (length s) ∷ [] = rw (set_first o x h, e, size) in
      whole-packed (octet_for 1 (length s) ∷ s) octets (omega arith) (c.says ∙ ap (λ (l : List ℕ). l ++ s) first)
      (c.rest ∙ drop-set-lt (1 + n) o 0 x (omega arith))

  pub whole-one : (t : ℕ) → (t ≡ 1 → ⊥) → (t ≡ 4 → ⊥) → x ≡ octet_for t n → 0 < length o → ((i : ℕ) → get_or (set o 0 x) i 0 < 256)
      → Packed (bits_of (whole_octets t s)) o (set o 0 x) 1
  unfolding whole_octets
  whole-one t a b e h octets =
      rw (ne_eqb t 1 a, ne_eqb t 4 b)
      (whole-packed (octet_for t (length s) ∷ []) octets refl (rw (set_first o x h, e, size)) (drop-set-lt 1 o 0 x (omega arith)))

  pub whole-two : {y : ℕ} → y ≡ get_or s 0 0 → x ≡ octet_for 4 n → 1 < length o → ((i : ℕ) → get_or (set (set o 0 x) 1 y) i 0 < 256)
      → Packed (bits_of (whole_octets 4 s)) o (set (set o 0 x) 1 y) 2
  unfolding whole_octets
  whole-two {y} f e h octets =
      whole-packed (octet_for 4 (length s) ∷ get_or s 0 0 ∷ []) octets refl (two o h)
      (drop-set-lt 2 (set o 0 x) 1 y (omega arith) ∙ drop-set-lt 2 o 0 x (omega arith))
    where
      two : (l : List ℕ) → 1 < length l → take 2 (set (set l 0 x) 1 y) ≡ octet_for 4 (length s) ∷ get_or s 0 0 ∷ []
      two [] k = absurd (omega arith)
      two (a ∷ []) k = absurd (omega arith)
      two (a ∷ b ∷ l) k = rw (e, f, size)
