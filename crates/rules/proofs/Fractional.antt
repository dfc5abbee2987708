-- Tool 11 (specs/Fractional). Main statements:
--   digits-back, digits-forth     g digits below R' and numbers below R'^g are one to one
--   place-back                    a value's digit tells the value
--   as-printed                    the rows are those of table 7-28 as it is printed
--   values-told, sample-told      its values are those of (8-23) to (8-28)
--   packs-of                      every R' of the table fits its bits, and every length is whole groups
use Prim.Native.Nat.{ℕ, zero, suc, ◌+◌, ◌*◌, ◌-◌, ◌^◌, ◌/◌, ◌%◌, ◌≤◌, ◌<◌}
use mathlib.Core.Path.{◌≡◌, refl, sym, ap, ap₂, subst, ◌∙◌}
use mathlib.Core.List.{List, [], ◌∷◌, map}
use mathlib.Core.Bool.{Bool, true, false, cond, ◌&&◌, ◌||◌}
use native.Mathlib.Omega.{arith}
use native.Mathlib.Nat.{mod-lt, mod-eq_of_lt, mod-add-div, div-eq_of_lt}
use native.Mathlib.Nat.{add-mul-div_left, add-mul-mod_self_left, div-lt_iff_lt-mul, pow-zero}
use native.Mathlib.Nat.{pow-suc, mul_comm, zero-mul, suc-mul, mul-suc, zero-add, add-zero}
use native.Mathlib.Decide.{ℕ_discrete}
use borrow.Author.Tests.{eqb-true, leb-true}
use lib.Arith.{digits_lt}
use lib.Dec.{eqb, leb, ltb, lit≤}
use lib.IntN.{ℤ}
use lib.ListN.{length, get_or, take, drop, length-map, length-append}
use Rattle.rules.specs.Tools.{is_length}
use Rattle.rules.specs.Samples.{sample_of, on_line}
use Rattle.rules.specs.Fractional.{values_at, first_code, row_count, radix, least_at, greatest_at}
use Rattle.rules.specs.Fractional.{low_at, below_at, value_for, Coding, group_of, bits_for, coding_of}
use Rattle.rules.specs.Fractional.{body_bits, Packs, of_digits, digits_of, place_in, groups_form}
use Rattle.rules.specs.Fractional.{groups_form_as, samples_at, fractional_body, Printed, table728}
use Rattle.rules.specs.Bits.{low_bits}
use Rattle.rules.proofs.Octets.{Below, none, more, length-low_bits}
use Rattle.rules.proofs.Tests.{and_left, and_right, all_below-at, by_length}

-- digits
pub length_digits : (r g v : ℕ) → length (digits_of r g v) ≡ g
unfolding digits_of
length_digits r zero v = refl
length_digits r (suc g) v = ap suc (length_digits r g (v / r))

pub digits-below : (r g v : ℕ) → 0 < r → Below r (digits_of r g v)
unfolding digits_of
digits-below r zero v h = none
digits-below r (suc g) v h = more (mod-lt v h) (digits-below r g (v / r) h)

-- the digits of the number of digits
pub digits-back : {r : ℕ} → 0 < r → {ls : List ℕ} → Below r ls → digits_of r (length ls) (of_digits r ls) ≡ ls
unfolding digits_of of_digits
digits-back h none = refl
digits-back {r} h (more {x = l} {l = ls} b t) =
    let m : (l + r * of_digits r ls) % r ≡ l = add-mul-mod_self_left l r (of_digits r ls) ∙ mod-eq_of_lt b in
    let d : (l + r * of_digits r ls) / r ≡ of_digits r ls
    = add-mul-div_left l (of_digits r ls) h ∙ ap (λ (q : ℕ). q + of_digits r ls) (div-eq_of_lt b) ∙ zero-add _ in
    rw (m, d, digits-back h t)

-- the number of the digits of a number
pub digits-forth : (r g v : ℕ) → 0 < r → v < r ^ g → of_digits r (digits_of r g v) ≡ v
unfolding digits_of of_digits
digits-forth r zero v h k = let e : v < 1 = rw (pow-zero r) at k in omega arith
digits-forth r (suc g) v h k =
    let q : v / r < r ^ g = (div-lt_iff_lt-mul h).1 (rw pow-suc at k) in
    rw (digits-forth r g (v / r) h q) (mod-add-div v r)

pub digits-fit : {r : ℕ} {ls : List ℕ} → Below r ls → of_digits r ls < r ^ length ls
unfolding of_digits
digits-fit {r} none = rw (pow-zero r) (omega arith)
digits-fit {r} (more {x = l} {l = ls} b t) =
    let d = digits_lt (digits-fit t) b in
    let e : l + r * of_digits r ls ≡ of_digits r ls * r + l = rw (mul_comm r (of_digits r ls)) (omega arith) in
    rw (e, pow-suc) d

-- samples that are among the values, and their digits
pub data Among (values : List ℕ) : List ℕ → Type 0 where
  done : Among values []
  and : {x : ℕ} {s : List ℕ} → (place_in values x < length values) → Among values s → Among values (x ∷ s)

place-step : (y x : ℕ) (ys : List ℕ) (b : Bool) → eqb x y ≡ b → (place_in ys x < length ys → get_or ys (place_in ys x) 0 ≡ x)
    → cond b 0 (suc (place_in ys x)) < suc (length ys) → get_or {A = ℕ} (y ∷ ys) (cond b 0 (suc (place_in ys x))) 0 ≡ x
place-step y x ys true e f k = sym (eqb-true x y e)
place-step y x ys false e f k = f (omega arith)

pub place-back : (values : List ℕ) (x : ℕ) → place_in values x < length values → get_or values (place_in values x) 0 ≡ x
unfolding place_in
place-back [] x h = absurd (omega arith)
place-back (y ∷ ys) x h = place-step y x ys (eqb x y) refl (place-back ys x) h

pub places-back : (values : List ℕ) {s : List ℕ} → Among values s → map (λ d. get_or values d 0) (map (place_in values) s) ≡ s
places-back values done = refl
places-back values (and {x = x} h t) = ap₂ ◌∷◌ (place-back values x h) (places-back values t)

pub places-below : (values : List ℕ) {s : List ℕ} → Among values s → Below (length values) (map (place_in values) s)
places-below values done = none
places-below values (and h t) = more h (places-below values t)

-- Table 7-28 as it is printed: R is the greatest less the least and one, R' the number of values, and each code the length's first one and
-- the row's place
abbrev same_values : List ℤ → List ℤ → Bool
same_values [] [] = true
same_values [] (w ∷ ws) = false
same_values (v ∷ vs) [] = false
same_values (v ∷ vs) (w ∷ ws) = eqb (on_line v) (on_line w) && same_values vs ws

abbrev codes_run : Printed → List ℕ → List ℕ → Bool
codes_run p ns [] = true
codes_run p [] (c ∷ cs) = false
codes_run p (n ∷ ns) (c ∷ cs) =
    leb (first_code n) c && ltb c (first_code n + row_count n) && same_values (values_at (c - first_code n)) p.values && codes_run p ns cs

-- a length beyond the printed codes has no such row
abbrev row_printed : Printed → Bool
row_printed p =
    let k = get_or p.codes 0 0 - first_code 40 in
    codes_run p (40 ∷ 80 ∷ 160 ∷ 240 ∷ 320 ∷ []) p.codes
    && eqb p.reduced (radix k) && eqb p.range (suc (greatest_at k) - least_at k)
    && eqb (length p.codes) (cond (ltb k 4) 5 (cond (ltb k 6) 2 1))

abbrev all_printed : List Printed → Bool
all_printed [] = true
all_printed (p ∷ ps) = row_printed p && all_printed ps

pub as-printed : all_printed table728 ≡ true
unfolding values_at first_code row_count
as-printed = refl

-- the rows
pub radix-range : (k : ℕ) → k < 12 → (2 ≤ radix k) × (radix k ≤ 6)
unfolding values_at
radix-range k h =
    let t = all_below-at (λ k. leb 2 (radix k) && leb (radix k) 6) 12 refl k h in (
      leb-true 2 (radix k) (and_left (leb 2 (radix k)) (leb (radix k) 6) t),
      leb-true (radix k) 6
          (and_right (leb 2 (radix k)) (leb (radix k) 6) t),
    )

-- how far a row goes below 0
abbrev row_is_small : ℕ → Bool
row_is_small k = leb (below_at k) (low_at k) && leb (low_at k) 4

pub row_small : (k : ℕ) → k < 12 → (below_at k ≤ low_at k) × (low_at k ≤ 4)
unfolding values_at
row_small k h =
    let t = all_below-at row_is_small 12 refl k h in (
      leb-true _ _ (and_left (leb (below_at k) (low_at k)) (leb (low_at k) 4) t),
      leb-true _ _
          (and_right (leb (below_at k) (low_at k)) (leb (low_at k) 4) t),
    )

pub length-samples_at : (mask k : ℕ) → length (samples_at mask k) ≡ radix k
unfolding samples_at
length-samples_at mask k = length-map (values_at k) (sample_of mask)

-- the values of a row, by (8-27) and (8-28)
unfoldable pub counted : ℕ → ℕ → ℕ → ℕ → List ℤ
counted low below d zero = []
counted low below d (suc n) = value_for low below d ∷ counted low below (d + 1) n

abbrev EachBelow : (ℕ → Type 0) → ℕ → Type 0
EachBelow P zero = Unit {0}
EachBelow P (suc n) = P n × EachBelow P n

each_below : (P : ℕ → Type 0) (n : ℕ) → EachBelow P n → (k : ℕ) → k < n → P k
each_below P zero h k l = absurd (omega arith)
each_below P (suc n) h k l = go (ℕ_discrete k n) (each_below P n h.1 k)
  where
    go : Dec (k ≡ n) → (k < n → P k) → P k
    go (yes e) later = subst P (sym e) h.0
    go (no e) later = later (omega arith)

pub values-told : (k : ℕ) → k < 12 → values_at k ≡ counted (low_at k) (below_at k) 0 (radix k)
unfolding values_at counted
values-told k h =
    each_below (λ k. values_at k ≡ counted (low_at k) (below_at k) 0 (radix k)) 12
    (refl, (refl, (refl, (refl, (refl, (refl, (refl, (refl, (refl, (refl, (refl, (refl, tt)))))))))))) k h

counted-at : (f : ℤ → ℕ) (low below i n d : ℕ) → d < n → get_or (map f (counted low below i n)) d 0 ≡ f (value_for low below (i + d))
unfolding counted
counted-at f low below i zero d h = absurd (omega arith)
counted-at f low below i (suc n) zero h = ap (λ (m : ℕ). f (value_for low below m)) (sym (add-zero i))
counted-at f low below i (suc n) (suc d) h =
    counted-at f low below (i + 1) n d (omega arith)
    ∙ ap (λ (m : ℕ). f (value_for low below m)) (let e : i + 1 + d ≡ i + suc d = omega arith in e)

-- so of its samples
pub sample-told : (mask k d : ℕ) → k < 12 → d < radix k → get_or (samples_at mask k) d 0 ≡ sample_of mask (value_for (low_at k) (below_at k) d)
unfolding samples_at
sample-told mask k d h l =
    ap (λ (vs : List ℤ). get_or (map (sample_of mask) vs) d 0) (values-told k h)
    ∙ counted-at (sample_of mask) (low_at k) (below_at k) 0 (radix k) d l
    ∙ ap (λ (n : ℕ). sample_of mask (value_for (low_at k) (below_at k) n)) (zero-add d)

-- every R' of the table packs
pub packs-of : (r n : ℕ) → 2 ≤ r → r ≤ 6 → n ≤ 320 → n % 40 ≡ 0 → Packs (coding_of r) n
unfolding group_of bits_for
packs-of zero n h k a b = absurd (omega arith)
packs-of (suc zero) n h k a b = absurd (omega arith)
packs-of (suc (suc zero)) n h k a b =
    record { some = h; few = k; group = omega arith; five = omega arith; bits = omega arith; fits = lit≤ tt; whole = omega arith; room = a }
packs-of (suc (suc (suc zero))) n h k a b =
    record { some = h; few = k; group = omega arith; five = omega arith; bits = omega arith; fits = lit≤ tt; whole = omega arith; room = a }
packs-of (suc (suc (suc (suc zero)))) n h k a b =
    record { some = h; few = k; group = omega arith; five = omega arith; bits = omega arith; fits = lit≤ tt; whole = omega arith; room = a }
packs-of (suc (suc (suc (suc (suc zero))))) n h k a b =
    record { some = h; few = k; group = omega arith; five = omega arith; bits = omega arith; fits = lit≤ tt; whole = omega arith; room = a }
packs-of (suc (suc (suc (suc (suc (suc zero)))))) n h k a b =
    record { some = h; few = k; group = omega arith; five = omega arith; bits = omega arith; fits = lit≤ tt; whole = omega arith; room = a }
packs-of (suc (suc (suc (suc (suc (suc (suc r))))))) n h k a b = absurd (omega arith)

-- a group is left
pub group-fits : (m filled g n : ℕ) → filled + m * g ≡ n → filled < n → filled + g ≤ n
group-fits zero filled g n e h = absurd (omega (arith, zero-mul g))
group-fits (suc m) filled g n e h = omega (arith, suc-mul m g)

-- the bits of a body
length-groups : (c : Coding) (m : ℕ) (ds : List ℕ) → length (groups_form c m ds) ≡ c.bits * m
unfolding groups_form
length-groups c zero ds = omega arith
length-groups c (suc m) ds =
    let v = of_digits c.radix (take c.group ds) in
    length-append (low_bits c.bits v) (groups_form c m (drop c.group ds))
    ∙ omega (arith, length-low_bits c.bits v, length-groups c m (drop c.group ds), mul-suc c.bits m)

pub length-body : (mask k : ℕ) (s : List ℕ) → length (fractional_body mask k s) ≡ body_bits k (length s)
unfolding groups_form_as
length-body mask k s = length-groups (coding_of (radix k)) (length s / group_of (radix k)) (map (place_in (samples_at mask k)) s)

-- of whatever row: 832 bits at most
pub body-bits-most : (k n : ℕ) → n ≤ 320 → body_bits k n ≤ 832
unfolding group_of bits_for
body-bits-most k n small = go (eqb (radix k) 2) (eqb (radix k) 4) (eqb (radix k) 3) (eqb (radix k) 5)
  where
    go : (a b c d : Bool) → cond a 1 (cond b 2 (cond c 8 (cond d 12 13))) * (n / cond (a || b) 1 5) ≤ 832
    go true b c d = omega (arith, small)
    go false true c d = omega (arith, small)
    go false false true d = omega (arith, small)
    go false false false true = omega (arith, small)
    go false false false false = omega (arith, small)

-- every length is whole groups, of whatever R'
pub groups-whole : (r n : ℕ) → is_length n ≡ true → n / group_of r * group_of r ≡ n
unfolding group_of
groups-whole r n l = go (eqb r 2 || eqb r 4)
  where
    go : (b : Bool) → n / cond b 1 5 * cond b 1 5 ≡ n
    go true = omega arith
    go false = by_length (λ n. n / 5 * 5 ≡ n) refl refl refl refl refl n l
