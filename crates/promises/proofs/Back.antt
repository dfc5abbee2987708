-- What it is to read back: p reads `bits` as v, whatever stands before and after, and goes exactly as far.
-- The few lemmas of which every round trip is made, and the round trips of the leaves.
use Prim.Native.Nat.{ℕ, zero, suc, ◌+◌, ◌*◌, ◌^◌, ◌/◌, ◌%◌, ◌<◌}
use native.Mathlib.Omega.{arith}
use native.Mathlib.Nat.{pow-suc, mod-eq_of_lt}
use lib.Pow.{mod-pow-add}
use mathlib.Core.Path.{◌≡◌, refl, sym, ap, ◌∙◌}
use mathlib.Core.List.{List, [], ◌∷◌, ◌++◌, append_assoc, append-nil}
use lib.ListN.{length, replicate, length-append}
use Rattle.rules.specs.Bits.{low_bits, bits_of, value_from}
use Rattle.rules.proofs.Codes.{bit-seam}
use Rattle.rules.proofs.Octets.{Below, none, more}
use Rattle.rules.specs.Reading.{whole, Reader, ◌>>=◌, give, here, bit, number_from, number, bits_from, octets_after, filled}

pub record Back {A : Type 0} (p : Reader A) (bits : List ℕ) (v : A) : Type 0 where
  pub reads : (pre post : List ℕ) → p (pre ++ (bits ++ post)) (length pre) ≡ whole v (length pre + length bits)

pub back-give : {A : Type 0} (v : A) → Back (give v) [] v
back-give v = record { reads = λ pre post. ap (whole v) (omega arith) }

pub back-bind : {A B : Type 0} (p : Reader A) (f : A → Reader B) {a b : List ℕ} {v : A} {w : B} → Back p a v → Back (f v) b w
    → Back (p >>= f) (a ++ b) w
back-bind p f {a} {b} {v} {w} pa fb = record {
  reads = λ pre post.
      let e : pre ++ ((a ++ b) ++ post) ≡ pre ++ (a ++ (b ++ post)) = simp append_assoc in
      let n : length pre + length (a ++ b) ≡ length pre + length a + length b = simp length-append (omega arith) in
      rw (e, pa.reads pre (b ++ post), n) (rw (append_assoc, length-append) at (fb.reads (pre ++ a) post));
}

pub back-bit : {B : Type 0} (f : ℕ → Reader B) (a : ℕ) {b : List ℕ} {w : B} → Back (f a) b w → Back (bit >>= f) (a ∷ b) w
back-bit f a {b} {w} fb = back-bind bit f {a = a ∷ []} one fb
  where
    one : Back bit (a ∷ []) a
    one = record { reads = λ pre post. bit-seam pre a post }

-- the place where the reading stands
pub back-here : {B : Type 0} (f : ℕ → Reader B) {b : List ℕ} {w : B} → ((i : ℕ) → Back (f i) b w) → Back (here >>= f) b w
back-here f fb = record { reads = λ pre post. (fb (length pre)).reads pre post }

-- the same under other names
pub back_as : {A : Type 0} {p q : Reader A} {a b : List ℕ} {v w : A} → Back p a v → p ≡ q → a ≡ b → v ≡ w → Back q b w
back_as t e f g = rw (← e, ← f, ← g) t

-- from the first bit on
pub back-first : {A : Type 0} {p : Reader A} {a : List ℕ} {v : A} → Back p a v → (post : List ℕ) → p (a ++ post) 0 ≡ whole v (length a)
back-first {v = v} t post = t.reads [] post ∙ ap (whole v) (omega arith)

-- one more bit above
mod-suc : (n v : ℕ) → v % 2 ^ suc n ≡ v / 2 ^ n % 2 * 2 ^ n + v % 2 ^ n
mod-suc n v = let e : suc n ≡ 1 + n = omega arith in rw e (mod-pow-add v 1 n)

-- the number of n bits
pub back-number_from : (u n v : ℕ) → Back (number_from u n) (low_bits n v) (u * 2 ^ n + v % 2 ^ n)
unfolding number_from low_bits
back-number_from u zero v = back_as (back-give u) refl refl (omega arith)
back-number_from u (suc n) v =
    back-bit _ _ (back_as (back-number_from (2 * u + v / 2 ^ n % 2) n v) refl refl
    (rw (mod-suc n v, pow-suc) (omega arith)))

pub back-number : (n v : ℕ) → v < 2 ^ n → Back (number n) (low_bits n v) v
back-number n v h = back_as (back-number_from 0 n v) refl refl (omega (arith, mod-eq_of_lt h))

-- whatever the bits are
pub back-value : (u : ℕ) (bits : List ℕ) → Back (number_from u (length bits)) bits (value_from u bits)
unfolding number_from value_from
back-value u [] = back-give u
back-value u (a ∷ bits) = back-bit _ a (back-value (2 * u + a) bits)

-- flags
pub back-bits_from : (done flags : List ℕ) → Back (bits_from done (length flags)) flags (done ++ flags)
unfolding bits_from
back-bits_from done [] = back_as (back-give done) refl refl (sym (append-nil done))
back-bits_from done (a ∷ flags) =
    back-bit _ _ (back_as (back-bits_from (done ++ (a ∷ [])) flags) refl refl (append_assoc done (a ∷ []) flags))

pub back-flags : (flags : List ℕ) → Back (bits_from [] (length flags)) flags flags
back-flags flags = back-bits_from [] flags

-- octets
pub back-octets_after : (done s : List ℕ) → Below 256 s → Back (octets_after done (length s)) (bits_of s) (done ++ s)
unfolding octets_after bits_of
back-octets_after done [] none = back_as (back-give done) refl refl (sym (append-nil done))
back-octets_after done (x ∷ s) (more h hs) =
    back-bind _ _ (back-number 8 x h) (back_as (back-octets_after (done ++ (x ∷ [])) s hs) refl refl (append_assoc done (x ∷ []) s))

-- filling bits
pub back-filled : {A : Type 0} (a : A) (n : ℕ) → Back (filled a n) (replicate n 0) a
unfolding filled
back-filled a zero = back-give a
back-filled a (suc n) = back-here _ (λ i. back-bit _ _ (back-filled a n))
