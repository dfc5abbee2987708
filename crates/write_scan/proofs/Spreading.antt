-- Laws of what the samples of a frame have in common: the bits that any sets, and those that all set, with the law's mask taken off.
use Prim.Native.Nat.{ℕ, zero, suc, ◌+◌, ◌-◌, ◌*◌, ◌/◌, ◌%◌, ◌^◌, ◌≤◌, ◌<◌, min, max}
use mathlib.Core.Path.{◌≡◌, refl, sym, ap, ap₂, ◌∙◌}
use mathlib.Core.List.{List}
use mathlib.Core.Bool.{Bool, true, false, cond, ◌&&◌, ◌||◌}
use native.Mathlib.Omega.{arith}
use lib.Arith.{bin_ind}
use lib.Bits.{bit_or, bit_and, bit_xor, differ, xor_step, xor_mod, xor_lt, xor_self, xor_zero_r}
use lib.Bits.{or_add_and, or_lt, or_mod, or_self, and_le_l, and_le_r, and_comm, and_mask, and_self}
use lib.Dec.{eqb, leb, ltb}
use lib.IntN.{pos, negsuc}
use lib.ListN.{length, get_or, take}
use lib.Seq.{length-take-le}
use borrow.Author.Tests.{eq-eqb, eqb-true, eqb-false, ne_eqb, ltb-true, lt-ltb, leb-true, le-leb}
use Rattle.rules.specs.Samples.{signed, on_line, sample_of, plus_zero, minus_zero}
use Rattle.rules.specs.Chooses.{count_of, every, least_of, greatest_of}
use Rattle.rules.proofs.Tests.{and_left, and_right, or_cases}
use Rattle.write_scan.specs.Looks.{near_by, near, two_zeros}
use Rattle.rules.proofs.Counts.{count-le}
use Rattle.write_scan.proofs.Looking.{count-more, least_more, greatest-more}

-- two tests that pass together are equal
pub alike : (a b : Bool) → (a ≡ true → b ≡ true) → (b ≡ true → a ≡ true) → a ≡ b
alike true b f g = sym (f refl)
alike false true f g = g refl
alike false false f g = refl

both : (a b : Bool) → a ≡ true → b ≡ true → (a && b) ≡ true
both a b e f = rw (e, f) refl

-- the mask taken off twice
digit-back : (x y : ℕ) → x < 2 → y < 2 → differ (differ x y) y ≡ x
digit-back zero zero g h = refl
digit-back zero (suc zero) g h = refl
digit-back (suc zero) zero g h = refl
digit-back (suc zero) (suc zero) g h = refl
digit-back zero (suc (suc y)) g h = absurd (omega arith)
digit-back (suc zero) (suc (suc y)) g h = absurd (omega arith)
digit-back (suc (suc x)) y g h = absurd (omega arith)

digit-small : (x y : ℕ) → x < 2 → y < 2 → differ x y < 2
digit-small zero y g h = h
digit-small (suc zero) zero g h = g
digit-small (suc zero) (suc y) g h = omega arith
digit-small (suc (suc x)) y g h = absurd (omega arith)

xor-back : (b a : ℕ) → bit_xor (bit_xor a b) b ≡ a
xor-back = bin_ind (λ (b : ℕ). (a : ℕ) → bit_xor (bit_xor a b) b ≡ a) (λ a. xor_zero_r (bit_xor a 0) ∙ xor_zero_r a) step
  where
    step : (b : ℕ) → ((a : ℕ) → bit_xor (bit_xor a (b / 2)) (b / 2) ≡ a) → (a : ℕ) → bit_xor (bit_xor a b) b ≡ a
    step b ih a =
        let w = bit_xor a b in
        let h = bit_xor (a / 2) (b / 2) in
        let d = differ (a % 2) (b % 2) in
        let e : w ≡ h * 2 + d = xor_step a b in
        let k : d < 2 = digit-small (a % 2) (b % 2) (omega arith) (omega arith) in
        let high : w / 2 ≡ h = omega (arith, e, k) in
        let low : w % 2 ≡ d = omega (arith, e, k) in
        let top : bit_xor (w / 2) (b / 2) ≡ a / 2 = ap (λ (z : ℕ). bit_xor z (b / 2)) high ∙ ih (a / 2) in
        let last : differ (w % 2) (b % 2) ≡ a % 2 = ap (λ (z : ℕ). differ z (b % 2)) low
        ∙ digit-back (a % 2) (b % 2) (omega arith) (omega arith) in
        xor_step w b ∙ ap₂ (λ (p q : ℕ). p * 2 + q) top last ∙ omega arith

pub xor-one-to-one : (mask x y : ℕ) → bit_xor x mask ≡ bit_xor y mask → x ≡ y
xor-one-to-one mask x y e = sym (xor-back mask x) ∙ ap (λ (z : ℕ). bit_xor z mask) e ∙ xor-back mask y

-- the bits that one of two numbers sets: none is lost
or_left : (a b : ℕ) → a ≤ bit_or a b
or_left a b = omega (arith, or_add_and a b, and_le_r a b)

or_right : (a b : ℕ) → b ≤ bit_or a b
or_right a b = omega (arith, or_add_and a b, and_le_l a b)

or-low : (a b : ℕ) → bit_or a b % 128 ≡ bit_or (a % 128) (b % 128)
or-low a b = or_mod a b 7

or-below : (k a b : ℕ) → ltb (bit_or a b) (2 ^ k) ≡ (ltb a (2 ^ k) && ltb b (2 ^ k))
or-below k a b =
    alike (ltb (bit_or a b) (2 ^ k)) (ltb a (2 ^ k) && ltb b (2 ^ k))
    (λ e. let h = ltb-true (bit_or a b) (2 ^ k) e in
    both (ltb a (2 ^ k)) (ltb b (2 ^ k)) (lt-ltb a (2 ^ k) (omega (arith, h, or_left a b)))
    (lt-ltb b (2 ^ k) (omega (arith, h, or_right a b))))
    (λ e. lt-ltb (bit_or a b) (2 ^ k)
    (or_lt k a b (ltb-true a (2 ^ k) (and_left (ltb a (2 ^ k)) (ltb b (2 ^ k)) e))
    (ltb-true b (2 ^ k) (and_right (ltb a (2 ^ k)) (ltb b (2 ^ k)) e))))

or-none : (a b : ℕ) → eqb (bit_or a b) 0 ≡ (eqb a 0 && eqb b 0)
or-none a b =
    alike (eqb (bit_or a b) 0) (eqb a 0 && eqb b 0)
    (λ e. let h = eqb-true (bit_or a b) 0 e in
    both (eqb a 0) (eqb b 0) (eq-eqb a 0 (omega (arith, h, or_left a b))) (eq-eqb b 0 (omega (arith, h, or_right a b))))
    (λ e. let f = eqb-true a 0 (and_left (eqb a 0) (eqb b 0) e) in
    let g = eqb-true b 0 (and_right (eqb a 0) (eqb b 0) e) in
    eq-eqb (bit_or a b) 0 (ap₂ bit_or f g))

-- near, as an order
is-near-by : (k l g : ℕ) → 128 - k ≤ l → g ≤ 127 + k → near_by k l g ≡ true
is-near-by k l g a b = both (leb (128 - k) l) (leb g (127 + k)) (le-leb (128 - k) l a) (le-leb g (127 + k) b)

pub near-by-is : (k l g : ℕ) → near_by k l g ≡ true → (128 - k ≤ l) × (g ≤ 127 + k)
near-by-is k l g e = (
  leb-true (128 - k) l (and_left (leb (128 - k) l) (leb g (127 + k)) e),
  leb-true g (127 + k)
      (and_right (leb (128 - k) l) (leb g (127 + k)) e),
)

pub is-near : (l g : ℕ) → 126 ≤ l → g ≤ 129 → near l g ≡ true
is-near l g a b = is-near-by 2 l g a b

pub near-is : (l g : ℕ) → near l g ≡ true → (126 ≤ l) × (g ≤ 129)
near-is l g e = near-by-is 2 l g e

near-more : (k l g p : ℕ) → near_by k (min l p) (max g p) ≡ (near_by k l g && near_by k p p)
near-more k l g p =
    alike (near_by k (min l p) (max g p)) (near_by k l g && near_by k p p)
    (λ e. let h = near-by-is k (min l p) (max g p) e in
    both (near_by k l g) (near_by k p p) (is-near-by k l g (omega (arith, h.0)) (omega (arith, h.1)))
    (is-near-by k p p (omega (arith, h.0)) (omega (arith, h.1))))
    (λ e. let h = near-by-is k l g (and_left (near_by k l g) (near_by k p p) e) in
    let m = near-by-is k p p (and_right (near_by k l g) (near_by k p p) e) in
    is-near-by k (min l p) (max g p) (omega (arith, h.0, m.0)) (omega (arith, h.1, m.1)))

-- one sample
module _ (mask x : ℕ) where
  one-near : (k : ℕ) → k ≤ 128 → ltb (bit_xor x mask % 128) k ≡ near_by k (on_line (signed mask x)) (on_line (signed mask x))
  unfolding signed
  one-near k few = go (leb 128 x)
    where
      go : (b : Bool) → ltb (bit_xor x mask % 128) k
          ≡ near_by k (on_line (cond b (pos (bit_xor x mask % 128)) (negsuc (bit_xor x mask % 128))))
          (on_line (cond b (pos (bit_xor x mask % 128)) (negsuc (bit_xor x mask % 128))))
      go true =
          let y = bit_xor x mask % 128 in
          alike (ltb y k) (near_by k (128 + y) (128 + y))
          (λ e. is-near-by k (128 + y) (128 + y) (omega arith) (omega (arith, ltb-true y k e)))
          (λ e. lt-ltb y k (omega (arith, (near-by-is k (128 + y) (128 + y) e).1)))
      go false =
          let y = bit_xor x mask % 128 in
          alike (ltb y k) (near_by k (127 - y) (127 - y))
          (λ e. is-near-by k (127 - y) (127 - y) (omega (arith, ltb-true y k e)) (omega arith))
          (λ e. lt-ltb y k (omega (arith, few, (near-by-is k (127 - y) (127 - y) e).0)))

  module _ (seven : mask < 128) (octet : x < 256) where
    low : bit_xor x mask % 128 ≡ bit_xor (x % 128) mask
    low = let e : mask % 128 ≡ mask = omega arith in xor_mod x mask 7 ∙ ap (λ (m : ℕ). bit_xor (x % 128) m) e

    one-zero : eqb (bit_xor x mask % 128) 0 ≡ (eqb x (plus_zero mask) || eqb x (minus_zero mask))
    unfolding sample_of
    one-zero =
        alike (eqb (bit_xor x mask % 128) 0) (eqb x (128 + mask) || eqb x mask)
        (λ e. there (eqb x (128 + mask)) refl (eqb-true (bit_xor x mask % 128) 0 e))
        (λ e. eq-eqb (bit_xor x mask % 128) 0
        (back (or_cases (x % 128 ≡ mask) (eqb x (128 + mask)) (eqb x mask) e (λ f. omega (arith, eqb-true x (128 + mask) f))
        (λ f. omega (arith, eqb-true x mask f)))))
      where
        back : x % 128 ≡ mask → bit_xor x mask % 128 ≡ 0
        back e = low ∙ ap (λ (z : ℕ). bit_xor z mask) e ∙ xor_self mask

        there : (b : Bool) → eqb x (128 + mask) ≡ b → bit_xor x mask % 128 ≡ 0 → (eqb x (128 + mask) || eqb x mask) ≡ true
        there true e z = rw e refl
        there false e z =
            let w : x % 128 ≡ mask = sym (xor-back mask (x % 128)) ∙ ap (λ (y : ℕ). bit_xor y mask) (sym low ∙ z) in
            rw (e, eq-eqb x mask (omega (arith, w, eqb-false x (128 + mask) e))) refl

-- all so far pass, and one more
every_more : (p : ℕ → Bool) (s : List ℕ) (i : ℕ) → i < length s → every p (take (i + 1) s) ≡ (every p (take i s) && p (get_or s i 0))
every_more p s i h =
    let c = count_of p (take i s) in
    let n = length-take-le i s (omega arith) in
    let k = length-take-le (i + 1) s (omega arith) in
    rw (n, k, ← (count-more s i h p {n = c} {r = cond (p (get_or s i 0)) 1 0} refl refl))
    (step (eqb c i) (p (get_or s i 0)) refl (rw n at (count-le p (take i s))))
  where
    step : (a b : Bool) → eqb (count_of p (take i s)) i ≡ a → count_of p (take i s) ≤ i
        → eqb (count_of p (take i s) + cond b 1 0) (i + 1) ≡ (a && b)
    step true true e le = let c = count_of p (take i s) in eq-eqb (c + 1) (i + 1) (omega (arith, eqb-true c i e))
    step false true e le = let c = count_of p (take i s) in ne_eqb (c + 1) (i + 1) (λ z. eqb-false c i e (omega (arith, z)))
    step true false e le = ne_eqb (count_of p (take i s) + 0) (i + 1) (λ z. omega (arith, z, le))
    step false false e le = ne_eqb (count_of p (take i s) + 0) (i + 1) (λ z. omega (arith, z, le))

-- the bits of some samples lie around those of the first
pub record Around (mask first : ℕ) (s : List ℕ) (any all : ℕ) : Type 0 where
  pub over : bit_xor first mask ≤ any
  pub under : all ≤ bit_xor first mask
  pub same : eqb any all ≡ every (λ x. eqb x first) s

-- a turn of the loop: before the first sample no bit is set by any, and every bit by all
pub record SpreadTurn (s : List ℕ) (mask any all i : ℕ) : Type 0 where
  pub none : i ≡ 0 → (any ≡ 0) × (all ≡ 255)
  pub some : 1 ≤ i → Around mask (get_or s 0 0) (take i s) any all
  pub zeros : eqb (any % 128) 0 ≡ two_zeros mask (take i s)
  pub close : ltb (any % 128) 2 ≡ near (least_of mask (take i s)) (greatest_of mask (take i s))
  pub about : ltb (any % 128) 4 ≡ near_by 4 (least_of mask (take i s)) (greatest_of mask (take i s))

pub spread_none : (s : List ℕ) (mask : ℕ) → SpreadTurn s mask 0 255 0
unfolding count_of least_of greatest_of
spread_none s mask =
    record { none = λ e. (refl, refl); some = λ h. absurd (omega arith); zeros = refl; close = refl; about = refl }

-- one sample more, around the first
around-more : (mask first x any all : ℕ) → bit_xor first mask ≤ any → all ≤ bit_xor first mask
    → eqb (bit_or any (bit_xor x mask)) (bit_and all (bit_xor x mask)) ≡ (eqb any all && eqb x first)
around-more mask first x any all over under =
    alike (eqb (bit_or any y) (bit_and all y)) (eqb any all && eqb x first)
    (λ e. let z = eqb-true (bit_or any y) (bit_and all y) e in
    both (eqb any all) (eqb x first)
    (eq-eqb any all (omega (arith, z, or_left any y, and_le_l all y, over, under)))
    (eq-eqb x first (xor-one-to-one mask x first
    (omega (arith, z, or_left any y, or_right any y, and_le_l all y, and_le_r all y, over, under)))))
    (λ e. let f = eqb-true any all (and_left (eqb any all) (eqb x first) e) in
    let g = eqb-true x first (and_right (eqb any all) (eqb x first) e) in
    let v : y ≡ bit_xor first mask = ap (λ (z : ℕ). bit_xor z mask) g in
    let a : any ≡ y = omega (arith, f, v, over, under) in
    let b : all ≡ y = omega (arith, f, v, over, under) in
    eq-eqb (bit_or any y) (bit_and all y) (ap (λ (z : ℕ). bit_or z y) a ∙ or_self y ∙ sym (ap (λ (z : ℕ). bit_and z y) b ∙ and_self y)))
  where
    y : ℕ
    y = bit_xor x mask

module _ (s : List ℕ) (mask any all i : ℕ) (seven : mask < 128) (h : i < length s) (octet : get_or s i 0 < 256) where
  abbrev y : ℕ
  y = bit_xor (get_or s i 0) mask

  -- the first sample alone
  around-first : i ≡ 0 → any ≡ 0 → all ≡ 255 → Around mask (get_or s 0 0) (take (i + 1) s) (bit_or any y) (bit_and all y)
  unfolding count_of
  around-first e f g =
      let is : y ≡ bit_xor (get_or s 0 0) mask = ap (λ (j : ℕ). bit_xor (get_or s j 0) mask) e in
      let wide : y < 256 = xor_lt 8 (get_or s i 0) mask octet (omega arith) in
      let a : bit_or any y ≡ y = ap (λ (z : ℕ). bit_or z y) f in
      let b : bit_and all y ≡ y = ap (λ (z : ℕ). bit_and z y) g ∙ and_comm 255 y ∙ and_mask y 8 ∙ omega arith in
      let p : ℕ → Bool = λ x. eqb x (get_or s 0 0) in
      let empty : every p (take i s) ≡ true = ap (λ (j : ℕ). every p (take j s)) e in
      let own : p (get_or s i 0) ≡ true = eq-eqb (get_or s i 0) (get_or s 0 0) (ap (λ (j : ℕ). get_or s j 0) e) in
      record {
        over = omega (arith, a, is);
        under = omega (arith, b, is);
        same = eq-eqb (bit_or any y) (bit_and all y) (a ∙ sym b)
            ∙ sym (every_more p s i h ∙ both (every p (take i s)) (p (get_or s i 0)) empty own);
      }

  around-next : Around mask (get_or s 0 0) (take i s) any all → Around mask (get_or s 0 0) (take (i + 1) s) (bit_or any y) (bit_and all y)
  around-next t =
      let p : ℕ → Bool = λ x. eqb x (get_or s 0 0) in
      record {
        over = omega (arith, t.over, or_left any y);
        under = omega (arith, t.under, and_le_l all y);
        same = around-more mask (get_or s 0 0) (get_or s i 0) any all t.over t.under ∙ ap (λ (b : Bool). b && p (get_or s i 0)) t.same
            ∙ sym (every_more p s i h);
      }

  zeros-next : eqb (any % 128) 0 ≡ two_zeros mask (take i s) → eqb (bit_or any y % 128) 0 ≡ two_zeros mask (take (i + 1) s)
  zeros-next e =
      let p : ℕ → Bool = λ x. eqb x (plus_zero mask) || eqb x (minus_zero mask) in
      ap (λ (z : ℕ). eqb z 0) (or-low any y) ∙ or-none (any % 128) (y % 128)
      ∙ ap₂ (λ (a b : Bool). a && b) e (one-zero mask (get_or s i 0) seven octet) ∙ sym (every_more p s i h)

  near_next : (j : ℕ) → 2 ^ j ≤ 128 → ltb (any % 128) (2 ^ j) ≡ near_by (2 ^ j) (least_of mask (take i s)) (greatest_of mask (take i s))
      → ltb (bit_or any y % 128) (2 ^ j) ≡ near_by (2 ^ j) (least_of mask (take (i + 1) s)) (greatest_of mask (take (i + 1) s))
  near_next j few e =
      let p = on_line (signed mask (get_or s i 0)) in
      let l = least_of mask (take i s) in
      let g = greatest_of mask (take i s) in
      ap (λ (z : ℕ). ltb z (2 ^ j)) (or-low any y) ∙ or-below j (any % 128) (y % 128)
      ∙ ap₂ (λ (a b : Bool). a && b) e (one-near mask (get_or s i 0) (2 ^ j) few) ∙ sym (near-more (2 ^ j) l g p)
      ∙ ap₂ (near_by (2 ^ j)) (least_more s i h mask {n = l} {r = p} refl refl) (greatest-more s i h mask {n = g} {r = p} refl refl)

  pub spread-turn : SpreadTurn s mask any all i → SpreadTurn s mask (bit_or any y) (bit_and all y) (i + 1)
  spread-turn t =
      record {
        none = λ e. absurd (omega arith);
        some = λ k. go (eqb i 0) refl;
        zeros = zeros-next t.zeros;
        close = near_next 1 (omega arith) t.close;
        about = near_next 2 (omega arith) t.about;
      }
    where
      go : (b : Bool) → eqb i 0 ≡ b → Around mask (get_or s 0 0) (take (i + 1) s) (bit_or any y) (bit_and all y)
      go true e = let z = eqb-true i 0 e in around-first z (t.none z).0 (t.none z).1
      go false e = around-next (t.some (let f = eqb-false i 0 e in omega (arith, f)))
