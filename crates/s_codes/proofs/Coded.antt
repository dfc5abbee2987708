-- Laws of the table of codes: its codes, computed one after another, are the paper's.
use Prim.Native.Nat.{ℕ, zero, suc, ◌*◌, ◌-◌, ◌^◌, ◌/◌, ◌%◌, ◌≤◌, ◌<◌}
use mathlib.Core.Path.{◌≡◌, refl, sym, ap, ◌∙◌}
use mathlib.Core.List.{List, [], ◌∷◌, ◌++◌}
use mathlib.Core.Bool.{Bool, true, false, ◌&&◌}
use native.Mathlib.Omega.{arith}
use borrow.Author.Tests.{eqb-true, ltb-true, leb-true, ne_eqb}
use lib.ListN.{length, get_or, replicate}
use lib.Dec.{eqb, leb, ltb, lit<}
use Rattle.rules.specs.Bits.{low_bits}
use Rattle.rules.specs.Zeros.{codes_of, code_of}
use Rattle.rules.proofs.Octets.{length-low_bits}
use Rattle.rules.proofs.Tests.{and_left, and_right, all_below, all_below-at}
use Rattle.s_codes.specs.declared.Table.{Table}
use Rattle.s_codes.specs.Codes.{s_from, s_in, TableIs, CodesAre, CodeIs}

-- the codes that a table's entries are
abbrev pub coded : List ℕ → List ℕ → List (List ℕ)
coded [] vs = []
coded (b ∷ bs) [] = low_bits b 0 ∷ coded bs []
coded (b ∷ bs) (v ∷ vs) = low_bits b v ∷ coded bs vs

coded-at : (bs vs : List ℕ) (i : ℕ) → get_or (coded bs vs) i [] ≡ low_bits (get_or bs i 0) (get_or vs i 0)
unfolding low_bits
coded-at [] vs i = refl
coded-at (b ∷ bs) [] zero = refl
coded-at (b ∷ bs) [] (suc i) = coded-at bs [] i
coded-at (b ∷ bs) (v ∷ vs) zero = refl
coded-at (b ∷ bs) (v ∷ vs) (suc i) = coded-at bs vs i

-- past the last code there is none
padded-at : (cs : List (List ℕ)) (k i : ℕ) → get_or (cs ++ replicate k []) i [] ≡ get_or cs i []
padded-at [] zero i = refl
padded-at [] (suc k) zero = refl
padded-at [] (suc k) (suc i) = padded-at [] k i
padded-at (c ∷ cs) k zero = refl
padded-at (c ∷ cs) k (suc i) = padded-at cs k i

-- each number fits its bits, which are few
abbrev pub within : List ℕ → List ℕ → Bool
within [] [] = true
within [] (v ∷ vs) = false
within (b ∷ bs) [] = false
within (b ∷ bs) (v ∷ vs) = (leb b 8 && ltb v (2 ^ b)) && within bs vs

within-at : (bs vs : List ℕ) → within bs vs ≡ true → (i : ℕ) → (get_or bs i 0 ≤ 8) × (get_or vs i 0 < 2 ^ get_or bs i 0)
within-at [] [] t i = (omega arith, lit< tt)
within-at [] (v ∷ vs) t i = let z : ◌≡◌ {A = ℕ} 0 1 = cc in absurd (omega arith)
within-at (b ∷ bs) [] t i = let z : ◌≡◌ {A = ℕ} 0 1 = cc in absurd (omega arith)
within-at (b ∷ bs) (v ∷ vs) t zero =
    let h = and_left (leb b 8 && ltb v (2 ^ b)) (within bs vs) t in
    (leb-true b 8 (and_left (leb b 8) (ltb v (2 ^ b)) h), ltb-true v (2 ^ b) (and_right (leb b 8) (ltb v (2 ^ b)) h))
within-at (b ∷ bs) (v ∷ vs) t (suc i) = within-at bs vs (and_right (leb b 8 && ltb v (2 ^ b)) (within bs vs) t) i

-- the codes past those for 40 and for 80
pub codes-more : (n : ℕ) → (n ≡ 40 → ⊥) → (n ≡ 80 → ⊥) → codes_of n ≡ codes_of 160
unfolding codes_of
codes-more n p q = rw (ne_eqb n 40 p, ne_eqb n 80 q)

-- the digits of the numbers of six bits
abbrev pub digit_at : List ℕ → ℕ → ℕ
digit_at found w = get_or found (w / 16) 0 / 2 ^ (4 * (w % 16)) % 16

-- a table, by three tests that compute
pub table-told : (m k : ℕ) {n : ℕ} (bs vs found : List ℕ) → codes_of n ≡ codes_of m → coded bs vs ≡ codes_of m ++ replicate k []
    → within (2 ∷ bs) (0 ∷ vs) ≡ true
    → 2 ≡ get_or bs 0 0 → length bs ≡ 9 → length vs ≡ 9 → all_below (λ w. eqb (digit_at found w) (s_in m w)) 64 ≡ true → length found ≡ 4
    → TableIs n (record { bits = 2 ∷ bs; values = 0 ∷ vs; found = found })
unfolding s_in
table-told m k {n} bs vs found e c w two size sized digits wide =
    record {
      says = says;
      first = two;
      few = λ s. (within-at (2 ∷ bs) (0 ∷ vs) w s).0;
      fits = λ s. (within-at (2 ∷ bs) (0 ∷ vs) w s).1;
      size = ap suc size;
      sized = ap suc sized;
      finds = λ w h. rw e (eqb-true _ _ (all_below-at (λ w. eqb (digit_at found w) (s_from 1 (codes_of m) (low_bits 6 w))) 64 digits w h));
      wide = wide;
    }
  where
    says : (s : ℕ) → 1 ≤ s → low_bits (get_or (2 ∷ bs) s 0) (get_or (0 ∷ vs) s 0) ≡ code_of n s
    says zero h = absurd (omega arith)
    says (suc i) h =
        let f : suc i - 1 ≡ i = omega arith in
        rw (f, e) (sym (coded-at bs vs i) ∙ ap (λ (l : List (List ℕ)). get_or l i []) c ∙ padded-at (codes_of m) k i)

-- what is read off it
pub lengths-are : {n : ℕ} {r : Table} → TableIs n r → CodesAre n r.bits
lengths-are {n} {r} t = record { says = at }
  where
    at : (s : ℕ) → get_or r.bits s 0 ≡ length (code_of n s)
    at zero = t.first ∙ sym (length-low_bits _ _) ∙ ap length (t.says 1 (omega arith))
    at (suc i) = sym (length-low_bits _ _) ∙ ap length (t.says (suc i) (omega arith))

pub code_is : {n s bits value : ℕ} {r : Table} → TableIs n r → 1 ≤ s → bits ≡ get_or r.bits s 0 → value ≡ get_or r.values s 0
    → CodeIs n s (record { bits = bits; value = value })
code_is {s = s} t h b v = record { says = rw (b, v) (t.says s h); few = rw b (t.few s); fits = rw (b, v) (t.fits s) }
