-- Laws of bits and octets (specs/Bits): lengths, a bit at a place, what append and drop do, and that bits and octets tell each other.
use Prim.Native.Nat.{ℕ, zero, suc, ◌+◌, ◌*◌, ◌-◌, ◌^◌, ◌/◌, ◌%◌, ◌≤◌, ◌<◌}
use mathlib.Core.Path.{◌≡◌, refl, sym, ap, ap₂, ◌∙◌}
use mathlib.Core.List.{List, [], ◌∷◌, ◌++◌, append_assoc}
use native.Mathlib.Omega.{arith}
use native.Mathlib.Nat.{not-suc-le-zero, le_of_suc-le-suc, add-mul, mul_assoc, mul_comm, pow-suc, zero-add, lt_of_lt_of_le}
use native.Mathlib.Numerals.{one-add}
use native.Mathlib.Decide.{dec_lt}
use lib.ListN.{length, get_or, take, drop, replicate, length-append}
use lib.ListN.{length-replicate, length-take, length-drop, take-append-drop, get_or-append}
use lib.Seq.{take_at, drop_at, drop-nil, drop-append-add, get_or-append-add}
use lib.Dec.{lit<}
use lib.Pow.{pow_mono, mod-pow-add, high}
use lib.Arith.{digits_lt}
use Rattle.rules.specs.Bits.{low_bits, bits_of, value_from, octets_for, fill_for, octets_from, pack}

pub length-low_bits : (n v : ℕ) → length (low_bits n v) ≡ n
unfolding low_bits
length-low_bits zero v = refl
length-low_bits (suc n) v = ap suc (length-low_bits n v)

pub length-bits_of : (s : List ℕ) → length (bits_of s) ≡ 8 * length s
unfolding bits_of
length-bits_of [] = refl
length-bits_of (o ∷ s) = let e = length-bits_of s in simp (length-append, length-low_bits) (omega arith)

pub bits_of-append : (s t : List ℕ) → bits_of (s ++ t) ≡ bits_of s ++ bits_of t
unfolding bits_of
bits_of-append [] t = refl
bits_of-append (o ∷ s) t = let e = bits_of-append s t in rw (e, append_assoc)

-- the bits past n octets are those of the octets past n
pub bits_of-drop : (n : ℕ) (s : List ℕ) → bits_of (drop n s) ≡ drop (8 * n) (bits_of s)
unfolding bits_of
bits_of-drop zero s = refl
bits_of-drop (suc n) [] = sym (drop-nil (8 * suc n))
bits_of-drop (suc n) (o ∷ s) =
    let e : 8 * suc n ≡ length (low_bits 8 o) + 8 * n = rw length-low_bits (omega arith) in
    rw (e, drop-append-add) (bits_of-drop n s)

-- bit i of n low bits
pub low_bits-at : (n v i : ℕ) → i < n → get_or (low_bits n v) i 0 ≡ v / 2 ^ (n - suc i) % 2
unfolding low_bits
low_bits-at zero v i h = absurd (not-suc-le-zero h)
low_bits-at (suc n) v zero h = let e : suc n - 1 ≡ n = omega arith in rw e
low_bits-at (suc n) v (suc i) h =
    let e : suc n - suc (suc i) ≡ n - suc i = omega arith in
    rw e (low_bits-at n v i (le_of_suc-le-suc h))

-- bit i of octets is bit i % 8 of octet i / 8, highest first
bits_of-at-cons : (o : ℕ) (s : List ℕ) (i : ℕ)
    → (8 ≤ i → get_or (bits_of s) (i - 8) 0 ≡ get_or s ((i - 8) / 8) 0 / 2 ^ (7 - (i - 8) % 8) % 2)
    → Dec (i < 8) → get_or (bits_of (o ∷ s)) i 0 ≡ get_or {A = ℕ} (o ∷ s) (i / 8) 0 / 2 ^ (7 - i % 8) % 2
unfolding bits_of
bits_of-at-cons o s i later (yes p) =
    let q : i / 8 ≡ 0 = omega arith in
    let e : 7 - i % 8 ≡ 8 - suc i = omega arith in
    rw (q, e) (get_or-append (low_bits 8 o) (bits_of s) 0 i (rw length-low_bits p) ∙ low_bits-at 8 o i p)
bits_of-at-cons o s i later (no p) =
    let h : 8 ≤ i = omega arith in
    let q : i / 8 ≡ suc ((i - 8) / 8) = omega arith in
    let e : 7 - i % 8 ≡ 7 - (i - 8) % 8 = omega arith in
    let f : i ≡ length (low_bits 8 o) + (i - 8) = rw length-low_bits (omega arith) in
    rw (q, e) (ap (λ (k : ℕ). get_or (low_bits 8 o ++ bits_of s) k 0) f ∙ get_or-append-add (low_bits 8 o) (bits_of s) (i - 8) 0 ∙ later h)

pub bits_of-at : (s : List ℕ) (i : ℕ) → i < 8 * length s → get_or (bits_of s) i 0 ≡ get_or s (i / 8) 0 / 2 ^ (7 - i % 8) % 2
bits_of-at [] i h = absurd (not-suc-le-zero h)
bits_of-at (o ∷ s) i h = bits_of-at-cons o s i (λ g. bits_of-at s (i - 8) (omega arith)) (dec_lt i 8)

-- every element is below m: of bits 2, of octets 256
pub data Below (m : ℕ) : List ℕ → Type 0 where
  none : Below m []
  more : {x : ℕ} {l : List ℕ} → x < m → Below m l → Below m (x ∷ l)

-- a list of so many, all below m
pub record Sized (m n : ℕ) (l : List ℕ) : Type 0 where
  pub size : length l ≡ n
  pub below : Below m l

pub below_at : {m : ℕ} {l : List ℕ} → Below m l → 0 < m → (i : ℕ) → get_or l i 0 < m
below_at none z i = z
below_at (more h t) z zero = h
below_at (more h t) z (suc i) = below_at t z i

pub below_all : {m : ℕ} (l : List ℕ) → ((i : ℕ) → get_or l i 0 < m) → Below m l
below_all [] h = none
below_all (x ∷ l) h = more (h 0) (below_all l (λ i. h (suc i)))

pub below-append : {m : ℕ} {l k : List ℕ} → Below m l → Below m k → Below m (l ++ k)
below-append none k = k
below-append (more h t) k = more h (below-append t k)

pub below-replicate : {m : ℕ} (n : ℕ) {x : ℕ} → x < m → Below m (replicate n x)
below-replicate zero h = none
below-replicate (suc n) h = more h (below-replicate n h)

pub below-take : {m : ℕ} (n : ℕ) {l : List ℕ} → Below m l → Below m (take n l)
below-take zero b = none
below-take (suc n) none = none
below-take (suc n) (more h t) = more h (below-take n t)

pub below-drop : {m : ℕ} (n : ℕ) {l : List ℕ} → Below m l → Below m (drop n l)
below-drop zero b = b
below-drop (suc n) none = none
below-drop (suc n) (more h t) = below-drop n t

pub low_bits-below : (n v : ℕ) → Below 2 (low_bits n v)
unfolding low_bits
low_bits-below zero v = none
low_bits-below (suc n) v = let h : v / 2 ^ n % 2 < 2 = omega arith in more h (low_bits-below n v)

pub bits_of-below : (s : List ℕ) → Below 2 (bits_of s)
unfolding bits_of
bits_of-below [] = none
bits_of-below (o ∷ s) = below-append (low_bits-below 8 o) (bits_of-below s)

-- a bit more: what stands before moves up
pub moved_up : (v a p : ℕ) → (2 * v + a) * p ≡ v * (p * 2) + a * p
moved_up v a p = simp (add-mul, mul_comm 2 v, mul_assoc, mul_comm 2 p)

low-suc : (n x : ℕ) → x % 2 ^ suc n ≡ (x / 2 ^ n % 2) * 2 ^ n + x % 2 ^ n
low-suc n x = rw (← (one-add n)) (mod-pow-add x 1 n)

-- the number of n low bits
pub value-low_bits : (v n x : ℕ) → value_from v (low_bits n x) ≡ v * 2 ^ n + x % 2 ^ n
unfolding low_bits value_from
value-low_bits v zero x = omega arith
value-low_bits v (suc n) x =
    let e = value-low_bits (2 * v + x / 2 ^ n % 2) n x in
    let f = moved_up v (x / 2 ^ n % 2) (2 ^ n) in
    rw (low-suc, pow-suc) (omega arith)

-- what stands before comes in front
pub value-from : (v : ℕ) (l : List ℕ) → value_from v l ≡ v * 2 ^ length l + value_from 0 l
unfolding value_from
value-from v [] = omega arith
value-from v (a ∷ l) =
    let e = value-from (2 * v + a) l in
    let g = value-from (0 + a) l in
    let f = moved_up v a (2 ^ length l) in
    let z : (0 + a) * 2 ^ length l ≡ a * 2 ^ length l = rw zero-add in
    rw pow-suc (omega arith)

pub value-below : {l : List ℕ} → Below 2 l → value_from 0 l < 2 ^ length l
unfolding value_from
value-below none = omega arith
value-below (more {x = a} {l = l} h t) =
    let e = value-from (0 + a) l in
    let b = value-below t in
    let d = digits_lt {m = 2} h b in
    let z : (0 + a) * 2 ^ length l ≡ a * 2 ^ length l = rw zero-add in
    rw (pow-suc, mul_comm (2 ^ length l) 2) (omega arith)

-- the low bits of the number of bits are those bits
pub low_bits-value : (v : ℕ) {l : List ℕ} → Below 2 l → low_bits (length l) (value_from v l) ≡ l
unfolding low_bits value_from
low_bits-value v none = refl
low_bits-value v (more {x = a} {l = l} h t) =
    let e : value_from (2 * v + a) l / 2 ^ length l ≡ 2 * v + a =
    rw (value-from (2 * v + a) l) (high (2 * v + a) (length l) (value-below t)) in
    let f : (2 * v + a) % 2 ≡ a = omega arith in
    rw (e, f, low_bits-value (2 * v + a) t)

-- eight bits at a time: octets from bits have those bits
pub bits_of-octets_from : (n : ℕ) {l : List ℕ} → Below 2 l → length l ≡ 8 * n → bits_of (octets_from n l) ≡ l
unfolding bits_of octets_from
bits_of-octets_from zero none h = refl
bits_of-octets_from zero (more a t) h = absurd (omega arith)
bits_of-octets_from (suc n) {l} b h =
    let k : length (take 8 l) ≡ 8 = simp length-take (omega arith) in
    let d : length (drop 8 l) ≡ 8 * n = simp length-drop (omega arith) in
    let e : low_bits 8 (value_from 0 (take 8 l)) ≡ take 8 l = ap (λ (j : ℕ). low_bits j (value_from 0 (take 8 l))) (sym k)
    ∙ low_bits-value 0 (below-take 8 b) in
    rw (e, bits_of-octets_from n (below-drop 8 b) d) (take-append-drop 8 l)

pub length-octets_from : (n : ℕ) (l : List ℕ) → length (octets_from n l) ≡ n
unfolding octets_from
length-octets_from zero l = refl
length-octets_from (suc n) l = ap suc (length-octets_from n (drop 8 l))

pub octets_from-below : (n : ℕ) {l : List ℕ} → Below 2 l → Below 256 (octets_from n l)
unfolding octets_from
octets_from-below zero b = none
octets_from-below (suc n) {l} b =
    let v = value-below (below-take 8 b) in
    let k : length (take 8 l) ≤ 8 = simp length-take (omega arith) in
    let h : value_from 0 (take 8 l) < 256 = lt_of_lt_of_le v (pow_mono k) in
    more h (octets_from-below n (below-drop 8 b))

-- packed bits: their octets, and that the filling bits are 0
pub length-pack : (b : List ℕ) → length (pack b) ≡ octets_for (length b)
unfolding pack
length-pack b = length-octets_from _ _

pub pack-below : {b : List ℕ} → Below 2 b → Below 256 (pack b)
unfolding pack
pack-below {b} h = octets_from-below (octets_for (length b)) (below-append h (below-replicate (fill_for (length b)) {x = 0} (lit< tt)))

pub bits_of-pack : {b : List ℕ} → Below 2 b → bits_of (pack b) ≡ b ++ replicate (fill_for (length b)) 0
unfolding pack
bits_of-pack {b} h =
    bits_of-octets_from (octets_for (length b)) (below-append h (below-replicate (fill_for (length b)) {x = 0} (lit< tt)))
    (simp (length-append, length-replicate) (omega arith))

-- octets are told by their bits
pub octets_from-bits_of : {s : List ℕ} → Below 256 s → octets_from (length s) (bits_of s) ≡ s
unfolding bits_of octets_from
octets_from-bits_of none = refl
octets_from-bits_of (more {x = o} {l = s} h t) =
    let a : take 8 (low_bits 8 o ++ bits_of s) ≡ low_bits 8 o = take_at (low_bits 8 o) (bits_of s) 8 (length-low_bits 8 o) in
    let d : drop 8 (low_bits 8 o ++ bits_of s) ≡ bits_of s = drop_at (low_bits 8 o) (bits_of s) 8 (length-low_bits 8 o) in
    let v : value_from 0 (low_bits 8 o) ≡ o = value-low_bits 0 8 o ∙ omega arith in
    rw (a, d, v, octets_from-bits_of t)

pub told-by-bits : {s t : List ℕ} → Below 256 s → Below 256 t → bits_of s ≡ bits_of t → s ≡ t
told-by-bits {s} {t} a b e =
    let n : length s ≡ length t = omega (arith, length-bits_of s, length-bits_of t, ap length e) in
    sym (octets_from-bits_of a) ∙ ap₂ octets_from n e ∙ octets_from-bits_of b
