-- Windows: octets side by side are the bits from a place on (ahead-octets), a part of a window is a window (ahead-part),
-- and a number whose bits are all there is the window of them (number-ahead).
use Prim.Native.Nat.{ℕ, zero, suc, ◌+◌, ◌*◌, ◌-◌, ◌^◌, ◌/◌, ◌%◌, ◌≤◌, ◌<◌}
use mathlib.Core.Path.{◌≡◌, refl, sym, ◌∙◌, ap}
use mathlib.Core.List.{List, [], ◌∷◌, ◌++◌, append_assoc, append-nil}
use native.Mathlib.Omega.{arith}
use native.Mathlib.Nat.{add-zero, zero-add, zero-div, mod-eq_of_lt, mod-lt}
use native.Mathlib.Decide.{dec_le}
use native.Mathlib.Numerals.{add-one}
use lib.ListN.{length, get_or, take, drop, length-drop, get_or-eq_default}
use lib.Seq.{drop-cons, take_at, length-take-le, get_or-take, get_or-drop, ext_get_or}
use lib.Dec.{lit<}
use lib.Pow.{pow_pos, pow-add, shr-shr, field, mod-mod-pow}
use Rattle.rules.specs.Bits.{low_bits, bits_of, value_from}
use Rattle.rules.specs.Reading.{whole, number_from}
use Rattle.rules.proofs.Words.{low_bits-join}
use Rattle.rules.proofs.Octets.{Below, none, more, length-low_bits, length-bits_of, low_bits-at, bits_of-at, bits_of-drop, value-low_bits}
use Rattle.read_bits.specs.Windows.{Ahead}
use Rattle.read_bits.proofs.OneBit.{bit-there}

-- the number of n bits that are there
pub number-there : (s : List ℕ) (v n at : ℕ) → at + n ≤ 8 * length s
    → number_from v n (bits_of s) at ≡ whole (value_from v (take n (drop at (bits_of s)))) (at + n)
unfolding number_from value_from
number-there s v zero at h = rw add-zero
number-there s v (suc n) at h =
    let l : at < length (bits_of s) = rw length-bits_of (omega arith) in
    let e : at + suc n ≡ at + 1 + n = omega arith in
    rw (bit-there s at (omega arith), drop-cons (bits_of s) at 0 l, e, ← add-one at) (number-there s (2 * v + get_or (bits_of s) at 0) n (at + 1) (omega arith))

-- octets side by side, after a number of j bits
unfoldable side_by_side : ℕ → List ℕ → ℕ
side_by_side v [] = v
side_by_side v (x ∷ l) = side_by_side (256 * v + x) l

side-bits : (j v : ℕ) {l : List ℕ} → Below 256 l → low_bits (j + 8 * length l) (side_by_side v l) ≡ low_bits j v ++ bits_of l
unfolding bits_of side_by_side
side-bits j v none = rw (add-zero j) (sym (append-nil (low_bits j v)))
side-bits j v (more {x = x} {l = l} h t) =
    let e : j + 8 * suc (length l) ≡ j + 8 + 8 * length l = omega arith in
    let f : 256 * v + x ≡ v * 2 ^ 8 + x = omega arith in
    rw (e, f) (side-bits (j + 8) (v * 2 ^ 8 + x) t ∙ rw (low_bits-join j 8 v x h) (append_assoc (low_bits j v) (low_bits 8 x) (bits_of l)))

side-small : (j v : ℕ) {l : List ℕ} → v < 2 ^ j → Below 256 l → side_by_side v l < 2 ^ (j + 8 * length l)
unfolding side_by_side
side-small j v h none = rw (add-zero j) h
side-small j v h (more {x = x} {l = l} o t) =
    let e : j + 8 * suc (length l) ≡ j + 8 + 8 * length l = omega arith in
    let p : 2 ^ (j + 8) ≡ 2 ^ j * 2 ^ 8 = pow-add 2 j 8 in
    rw e (side-small (j + 8) (256 * v + x) (omega arith) t)

-- n octets from octet i + j on; one that is missing is 0
unfoldable octets_at : List ℕ → ℕ → ℕ → ℕ → List ℕ
octets_at s i j zero = []
octets_at s i j (suc n) = get_or s (i + j) 0 ∷ octets_at s i (suc j) n

length-octets_at : (s : List ℕ) (i j n : ℕ) → length (octets_at s i j n) ≡ n
unfolding octets_at
length-octets_at s i j zero = refl
length-octets_at s i j (suc n) = ap suc (length-octets_at s i (suc j) n)

octets_at-at : (s : List ℕ) (i j n q : ℕ) → q < n → get_or (octets_at s i j n) q 0 ≡ get_or s (i + (j + q)) 0
unfolding octets_at
octets_at-at s i j zero q h = absurd (omega arith)
octets_at-at s i j (suc n) zero h = rw (add-zero j)
octets_at-at s i j (suc n) (suc q) h =
    let e : i + (suc j + q) ≡ i + (j + suc q) = omega arith in
    octets_at-at s i (suc j) n q (omega arith) ∙ ap (λ (k : ℕ). get_or s k 0) e

octets_at-below : (s : List ℕ) (i j n : ℕ) → ((k : ℕ) → get_or s k 0 < 256) → Below 256 (octets_at s i j n)
unfolding octets_at
octets_at-below s i j zero h = none
octets_at-below s i j (suc n) h = more (h (i + j)) (octets_at-below s i (suc j) n h)

-- any bit of octets; one that is missing is that of an octet 0
any-bit : (s : List ℕ) (i : ℕ) → get_or (bits_of s) i 0 ≡ get_or s (i / 8) 0 / 2 ^ (7 - i % 8) % 2
any-bit s i = go (dec_le (8 * length s) i)
  where
    go : Dec (8 * length s ≤ i) → get_or (bits_of s) i 0 ≡ get_or s (i / 8) 0 / 2 ^ (7 - i % 8) % 2
    go (no p) = bits_of-at s i (omega arith)
    go (yes p) =
        let l : length (bits_of s) ≤ i = rw length-bits_of p in
        let q : length s ≤ i / 8 = omega arith in
        rw (get_or-eq_default (bits_of s) 0 {n = i} l, get_or-eq_default s 0 {n = i / 8} q, zero-div (2 ^ (7 - i % 8)))

-- n octets side by side: the bits from octet i on
module _ (s : List ℕ) (i n : ℕ) (octet : (k : ℕ) → get_or s k 0 < 256) where
  side_same : (j : ℕ) → j < 8 * n → side_by_side 0 (octets_at s i 0 n) / 2 ^ (8 * n - suc j) % 2 ≡ get_or (bits_of s) (8 * i + j) 0
  unfolding low_bits
  side_same j h =
      let l = octets_at s i 0 n in
      let e : 0 + 8 * length l ≡ 8 * n = rw (length-octets_at s i 0 n) (zero-add (8 * n)) in
      let b : low_bits (8 * n) (side_by_side 0 l) ≡ bits_of l = rw e at (side-bits 0 0 (octets_at-below s i 0 n octet)) in
      let o : get_or l (j / 8) 0 ≡ get_or s (i + j / 8) 0 = octets_at-at s i 0 n (j / 8) (omega arith) ∙ rw (zero-add (j / 8)) in
      let q : (8 * i + j) / 8 ≡ i + j / 8 = omega arith in
      let r : (8 * i + j) % 8 ≡ j % 8 = omega arith in
      sym (low_bits-at (8 * n) (side_by_side 0 l) j h) ∙ ap (λ (k : List ℕ). get_or k j 0) b ∙ any-bit l j
      ∙ ap (λ (x : ℕ). x / 2 ^ (7 - j % 8) % 2) o ∙ sym (any-bit s (8 * i + j) ∙ rw (q, r))

  ahead-octets : Ahead (8 * n) (bits_of s) (8 * i) (side_by_side 0 (octets_at s i 0 n))
  ahead-octets =
      let l = octets_at s i 0 n in
      let e : 0 + 8 * length l ≡ 8 * n = rw (length-octets_at s i 0 n) (zero-add (8 * n)) in
      record { same = side_same; small = rw e at (side-small 0 0 (lit< tt) (octets_at-below s i 0 n octet)) }

-- five, and eight
pub ahead-five : (s : List ℕ) (i : ℕ) {a b c d e : ℕ} → a ≡ get_or s i 0 → b ≡ get_or s (i + 1) 0 → c ≡ get_or s (i + 2) 0 → d ≡ get_or s (i + 3) 0
    → e ≡ get_or s (i + 4) 0 → ((k : ℕ) → get_or s k 0 < 256) → Ahead 40 (bits_of s) (8 * i) (256 * (256 * (256 * (256 * a + b) + c) + d) + e)
unfolding side_by_side octets_at
ahead-five s i p q r t u octet =
    let f : _ = zero-add (get_or s (i + 0) 0) ∙ ap (λ (k : ℕ). get_or s k 0) (add-zero i) in
    rw (p, q, r, t, u) (rw f at (ahead-octets s i 5 octet))

pub ahead-eight : (s : List ℕ) (i : ℕ) {a b c d e f g h high low : ℕ} → a ≡ get_or s i 0 → b ≡ get_or s (i + 1) 0 → c ≡ get_or s (i + 2) 0
    → d ≡ get_or s (i + 3) 0 → high ≡ 256 * (256 * (256 * a + b) + c) + d
    → e ≡ get_or s (i + 4) 0 → f ≡ get_or s (i + 5) 0 → g ≡ get_or s (i + 6) 0 → h ≡ get_or s (i + 7) 0
    → low ≡ 256 * (256 * (256 * e + f) + g) + h
    → ((k : ℕ) → get_or s k 0 < 256) → Ahead 64 (bits_of s) (8 * i) (4294967296 * high + low)
unfolding side_by_side octets_at
ahead-eight s i {a} {b} {c} {d} {e} {f} {g} {h} {high} {low} p q r t j u v x y k octet =
    let first : _ = zero-add (get_or s (i + 0) 0) ∙ ap (λ (k : ℕ). get_or s k 0) (add-zero i) in
    let all : 4294967296 * high + low ≡ 256 * (256 * (256 * (256 * (256 * (256 * (256 * a + b) + c) + d) + e) + f) + g) + h =
    omega arith in
    rw (all, p, q, r, t, u, v, x, y) (rw first at (ahead-octets s i 8 octet))

-- bit j of n bits cut out of a number: those below the top m less r, above the lowest k
pub cut-bit : (w k n j : ℕ) → j < n → w / 2 ^ k % 2 ^ n / 2 ^ (n - suc j) % 2 ≡ w / 2 ^ (k + (n - suc j)) % 2
cut-bit w k n j h =
    let a = n - suc j in
    let e : n ≡ j + 1 + a = omega arith in
    let f : w / 2 ^ k % 2 ^ n / 2 ^ a ≡ w / 2 ^ k / 2 ^ a % 2 ^ (j + 1) = ap (λ (x : ℕ). w / 2 ^ k % 2 ^ x / 2 ^ a) e
    ∙ field (w / 2 ^ k) (j + 1) a in
    ap (λ (x : ℕ). x % 2) f ∙ mod-mod-pow (w / 2 ^ k / 2 ^ a) j 1 ∙ ap (λ (x : ℕ). x % 2) (shr-shr w k a)

-- n bits from the r-th of a window on
pub ahead-part : {m : ℕ} {bits : List ℕ} {at w : ℕ} (r n : ℕ) → Ahead m bits at w → r + n ≤ m
    → Ahead n bits (at + r) (w / 2 ^ (m - (r + n)) % 2 ^ n)
ahead-part {m} {bits} {at} {w} r n t h =
    record {
      same = λ j l.
          let e : m - (r + n) + (n - suc j) ≡ m - suc (r + j) = omega arith in
          let f : at + (r + j) ≡ at + r + j = omega arith in
          cut-bit w (m - (r + n)) n j l ∙ ap (λ (x : ℕ). w / 2 ^ x % 2) e ∙ t.same (r + j) (omega arith) ∙ ap (λ (k : ℕ). get_or bits k 0) f;
      small = mod-lt (w / 2 ^ (m - (r + n))) (pow_pos n);
    }

-- the number of n bits that are all there is the window of them
pub number-ahead : (s : List ℕ) (at n v : ℕ) → Ahead n (bits_of s) at v → at + n ≤ 8 * length s
    → number_from 0 n (bits_of s) at ≡ whole v (at + n)
number-ahead s at n v t h =
    let b = bits_of s in
    let l : length (take n (drop at b)) ≡ n = length-take-le n (drop at b) (rw (length-drop, length-bits_of) (omega arith)) in
    let e : take n (drop at b) ≡ low_bits n v =
    ext_get_or 0 (take n (drop at b)) (low_bits n v) (l ∙ sym (length-low_bits n v)) (λ i k.
    let g : i < n = rw l at k in
    get_or-take n (drop at b) i 0 g ∙ get_or-drop at b i 0 ∙ sym (t.same i g) ∙ sym (low_bits-at n v i g))
    in
    number-there s 0 n at h ∙ ap (λ (x : List ℕ). whole (value_from 0 x) (at + n)) e
    ∙ ap (λ (x : ℕ). whole x (at + n)) (value-low_bits 0 n v ∙ (let z = mod-eq_of_lt t.small in omega arith))

-- a whole octet
pub number-octet : (s : List ℕ) (at : ℕ) → at % 8 ≡ 0 → at / 8 < length s → get_or s (at / 8) 0 < 256
    → number_from 0 8 (bits_of s) at ≡ whole (get_or s (at / 8) 0) (at + 8)
unfolding bits_of
number-octet s at r h b =
    let x = get_or s (at / 8) 0 in
    let e : at ≡ 8 * (at / 8) = omega arith in
    let d : drop at (bits_of s) ≡ low_bits 8 x ++ bits_of (drop (suc (at / 8)) s) =
    ap (λ (i : ℕ). drop i (bits_of s)) e ∙ sym (bits_of-drop (at / 8) s) ∙ ap bits_of (drop-cons s (at / 8) 0 h)
    in
    let t : take 8 (drop at (bits_of s)) ≡ low_bits 8 x = ap (λ (l : List ℕ). take 8 l) d
    ∙ take_at (low_bits 8 x) (bits_of (drop (suc (at / 8)) s)) 8 (length-low_bits 8 x) in
    number-there s 0 8 at (omega arith) ∙ ap (λ (l : List ℕ). whole (value_from 0 l) (at + 8)) t
    ∙ ap (λ (v : ℕ). whole v (at + 8)) (value-low_bits 0 8 x ∙ omega arith)
