-- The row of a frame (specs/Chooses): tool 7's is one of four and tool 11's one of its length's (`located-row`, `row_low`). A frame that has
-- a row of tool 11 is made of the row's values (`row-among`), and lies within it (`row-extent`).
use Prim.Native.Nat.{ℕ, zero, suc, ◌+◌, ◌≤◌, ◌<◌}
use mathlib.Core.Path.{◌≡◌, refl, sym, ap, ◌∙◌}
use mathlib.Core.Logic.{◌⊎◌, inl, inr}
use mathlib.Core.List.{List, [], ◌∷◌, map}
use mathlib.Core.Bool.{Bool, true, false, cond, not, ◌&&◌, ◌||◌, false≢true}
use native.Mathlib.Omega.{arith}
use native.Mathlib.Nat.{le_refl}
use borrow.Author.Tests.{eqb-true, eqb-false, le-leb, leb-true, lt-ltb, le-ltb, ltb-true, ne_eqb}
use lib.Dec.{eqb, leb, ltb, lit<}
use lib.IntN.{ℤ, pos, negsuc}
use lib.ListN.{length}
use Rattle.rules.specs.Samples.{signed, sample_of, minus_zero, on_line}
use Rattle.rules.specs.Fractional.{values_at, row_count, least_at, greatest_at, minus_at, place_in, samples_at}
use Rattle.rules.specs.Chooses.{count_of, least_of, greatest_of, minus_occurs, same_test, Row, none as no_row, row}
use Rattle.rules.specs.Chooses.{has_row, row_number, row_or, is_row, row_of, is_row_of, row_from, frame_row, fractional_applies}
use Rattle.rules.proofs.Octets.{Below, none, more}
use Rattle.rules.proofs.Tests.{and_left, and_right, or_cases, all_below, all_below-at}
use Rattle.rules.proofs.Signed.{InRange, LawMask, signed_range, told-by-line}
use Rattle.rules.proofs.Fractional.{Among, done, and}
use Rattle.rules.proofs.Accepted.{AllInRange, row-in-range-at}

-- where there is a row, it is so
abbrev pub Where : (ℕ → Type 0) → Row → Type 0
Where P no_row = Unit {0}
Where P (row k) = P k

pub where-row : (P : ℕ → Type 0) (r : Row) → Where P r → has_row r ≡ true → P (row_number r)
where-row P no_row w e = absurd (false≢true e)
where-row P (row k) w e = w

where-cond : (P : ℕ → Type 0) (b : Bool) (r : Row) (k : ℕ) → (b ≡ true → P k) → Where P r → Where P (cond b (row k) r)
where-cond P true r k p w = p refl
where-cond P false r k p w = w

-- a number below `past` is a row's, the others are not, where rows have numbers below it
pub below-past : (past : ℕ) (r : Row) → Where (λ k. k < past) r → ltb (row_or past r) past ≡ has_row r
below-past past no_row w = le-ltb past past (le_refl past)
below-past past (row k) w = lt-ltb k past w

pub number-or : (past : ℕ) (r : Row) → row_or past r < past → row_number r ≡ row_or past r
number-or past no_row h = absurd (omega arith)
number-or past (row k) h = refl

-- tool 7's row is one of the four
pub located-row : (P : ℕ → Type 0) (mask : ℕ) (s : List ℕ) → ((c : ℕ) → c < 4 → is_row mask s c ≡ true → P c) → Where P (row_of mask s)
unfolding row_of
located-row P mask s p =
    where-cond P (is_row mask s 0) _ 0 (p 0 (lit< tt))
    (where-cond P (is_row mask s 1) _ 1 (p 1 (lit< tt))
    (where-cond P (is_row mask s 2) _ 2 (p 2 (lit< tt))
    (where-cond P (is_row mask s 3) no_row 3 (p 3 (lit< tt)) tt)))

pub located-low : (mask : ℕ) (s : List ℕ) → Where (λ c. c < 4) (row_of mask s)
located-low mask s = located-row (λ c. c < 4) mask s (λ c h e. h)

-- tool 11's row is the frame's
pub row-found : (P : ℕ → Type 0) (l g : ℕ) (m : Bool) (k n : ℕ) → ((j : ℕ) → j < k + n → is_row_of l g m j ≡ true → P j)
    → Where P (row_from l g m k n)
unfolding row_from
row-found P l g m k zero p = tt
row-found P l g m k (suc n) p =
    where-cond P (is_row_of l g m k) (row_from l g m (k + 1) n) k (p k (omega arith)) (row-found P l g m (k + 1) n (λ j h e. p j (omega arith) e))

pub frame_row_lem : (P : ℕ → Type 0) (mask : ℕ) (s : List ℕ)
    → ((k : ℕ) → k < row_count (length s) → is_row_of (least_of mask s) (greatest_of mask s) (minus_occurs mask s) k ≡ true → P k)
    → Where P (frame_row mask s)
unfolding frame_row
frame_row_lem P mask s p =
    row-found P (least_of mask s) (greatest_of mask s) (minus_occurs mask s) 0 (row_count (length s)) (λ k h e. p k (omega arith) e)

pub row_low : (mask : ℕ) (s : List ℕ) → Where (λ k. k < row_count (length s)) (frame_row mask s)
row_low mask s = frame_row_lem (λ k. k < row_count (length s)) mask s (λ k h e. h)

abbrev line_of : ℕ → ℕ → ℕ
line_of mask x = on_line (signed mask x)

-- what stands on the line from a row's least to its greatest, and is not -1 where the row has none, is one of its values: one computed test
abbrev one_of : List ℤ → ℕ → Bool
one_of [] y = false
one_of (v ∷ vs) y = eqb y (on_line v) || one_of vs y

abbrev row_holds : ℕ → ℕ → Bool
row_holds k y = cond (leb (least_at k) y && leb y (greatest_at k) && (minus_at k || not (eqb y 127))) (one_of (values_at k) y) true

rows-hold : all_below (λ k. all_below (row_holds k) 256) 12 ≡ true
unfolding values_at
rows-hold = refl

pub line_small : (v : ℤ) → InRange v → on_line v < 256
line_small (pos y) h = omega arith
line_small (negsuc y) h = omega arith

-- a sample whose number is one of these values is one of their samples
place_of : {mask : ℕ} → LawMask mask → (vs : List ℤ) → AllInRange vs → (x : ℕ) → x < 256 → one_of vs (line_of mask x) ≡ true
    → place_in (map (sample_of mask) vs) x < length (map (sample_of mask) vs)
unfolding place_in
place_of l [] h x small e = absurd (false≢true e)
place_of {mask} l (v ∷ vs) h x small e = go (eqb x (sample_of mask v)) refl (λ t. place_of l vs h.1 x small t)
  where
    go : (b : Bool) → eqb x (sample_of mask v) ≡ b
        → (one_of vs (line_of mask x) ≡ true → place_in (map (sample_of mask) vs) x < length (map (sample_of mask) vs))
        → cond b 0 (suc (place_in (map (sample_of mask) vs) x)) < suc (length (map (sample_of mask) vs))
    go true q later = omega arith
    go false q later =
        or_cases (suc (place_in (map (sample_of mask) vs) x) < suc (length (map (sample_of mask) vs))) (eqb (line_of mask x) (on_line v))
        (one_of vs (line_of mask x)) e
        (λ t. absurd (eqb-false x (sample_of mask v) q
        (sym (l.back x small) ∙ ap (sample_of mask) (told-by-line (signed mask x) v (signed_range mask x) h.0 (eqb-true _ _ t)))))
        (λ t. omega (arith, later t))

-- -1 is minus zero
not-minus : {mask : ℕ} → LawMask mask → (x : ℕ) → x < 256 → eqb x (minus_zero mask) ≡ false → eqb (line_of mask x) 127 ≡ false
not-minus {mask} l x small e =
    ne_eqb (line_of mask x) 127 (λ q. eqb-false x (minus_zero mask) e
    (sym (l.back x small) ∙ ap (sample_of mask) (told-by-line (signed mask x) (negsuc 0) (signed_range mask x) (lit< tt) q)))

head-none : (b : Bool) (n : ℕ) → cond b 1 0 + n ≡ 0 → b ≡ false
head-none true n e = absurd (omega arith)
head-none false n e = refl

tail_none : (b : Bool) (n : ℕ) → cond b 1 0 + n ≡ 0 → n ≡ 0
tail_none true n e = absurd (omega arith)
tail_none false n e = omega arith

minus-fits : (m q : Bool) → (m ≡ false → q ≡ false) → m || not q ≡ true
minus-fits true q f = refl
minus-fits false q f = rw (f refl)

among : {mask : ℕ} → LawMask mask → (k : ℕ) → k < 12 → {s : List ℕ} → Below 256 s → least_at k ≤ least_of mask s
    → greatest_of mask s ≤ greatest_at k
    → (minus_at k ≡ false → count_of (λ x. eqb x (minus_zero mask)) s ≡ 0) → Among (samples_at mask k) s
unfolding least_of greatest_of count_of samples_at
among l k i none e f c = done
among {mask} l k i (more {x = x} {l = s} h b) e f c =
    let y = line_of mask x in
    let rest = count_of (λ x. eqb x (minus_zero mask)) s in
    let a : leb (least_at k) y ≡ true = le-leb (least_at k) y (omega arith) in
    let d : leb y (greatest_at k) ≡ true = le-leb y (greatest_at k) (omega arith) in
    let q : minus_at k || not (eqb y 127) ≡ true
    = minus-fits (minus_at k) (eqb y 127) (λ z. not-minus l x h (head-none (eqb x (minus_zero mask)) rest (c z))) in
    let t = all_below-at (row_holds k) 256 (all_below-at (λ k. all_below (row_holds k) 256) 12 rows-hold k i) y
    (line_small (signed mask x) (signed_range mask x)) in
    and (place_of l (values_at k) (row-in-range-at k) x h (rw (a, d, q) at t))
    (among l k i b (omega arith) (omega arith) (λ z. tail_none (eqb x (minus_zero mask)) rest (c z)))

same_none : (a b : Bool) → same_test a b ≡ true → b ≡ false → a ≡ false
same_none true b e f = sym e ∙ f
same_none false b e f = refl

not-zero : (b : Bool) → not b ≡ false → b ≡ true
not-zero true e = refl
not-zero false e = sym e

most-rows : (n : ℕ) → row_count n ≤ 12
unfolding row_count
most-rows n = go (eqb n 40) (eqb n 80)
  where
    go : (a b : Bool) → cond a 12 (cond b 6 4) ≤ 12
    go true b = omega arith
    go false true = omega arith
    go false false = omega arith

-- "by its least, its greatest and whether -1 occurs": the row that is found has them, and is one of the twelve
pub record Ends (mask : ℕ) (s : List ℕ) (k : ℕ) : Type 0 where
  pub few : k < 12
  pub own : k < row_count (length s)
  pub least : least_of mask s ≡ least_at k
  pub greatest : greatest_of mask s ≡ greatest_at k
  pub minus : same_test (minus_occurs mask s) (minus_at k) ≡ true

row_ends : (mask : ℕ) (s : List ℕ) (k : ℕ) → k < row_count (length s)
    → is_row_of (least_of mask s) (greatest_of mask s) (minus_occurs mask s) k ≡ true → Ends mask s k
row_ends mask s k h t =
    let low : Bool = eqb (least_of mask s) (least_at k) in
    let high : Bool = eqb (greatest_of mask s) (greatest_at k) in
    let has : Bool = same_test (minus_occurs mask s) (minus_at k) in
    let u : low && high ≡ true = and_left (low && high) has t in
    record {
      few = omega (arith, most-rows (length s));
      own = h;
      least = eqb-true _ _ (and_left low high u);
      greatest = eqb-true _ _ (and_right low high u);
      minus = and_right (low && high) has t;
    }

pub the_row : (mask : ℕ) (s : List ℕ) → has_row (frame_row mask s) ≡ true → Ends mask s (row_number (frame_row mask s))
the_row mask s h = where-row (Ends mask s) (frame_row mask s) (frame_row_lem (Ends mask s) mask s (row_ends mask s)) h

pub row-among : {mask : ℕ} → LawMask mask → (s : List ℕ) → Below 256 s → has_row (frame_row mask s) ≡ true
    → Among (samples_at mask (row_number (frame_row mask s))) s
row-among {mask} l s b h =
    let k = row_number (frame_row mask s) in
    let ends = the_row mask s h in
    among l k ends.few b (omega (arith, ends.least)) (omega (arith, ends.greatest))
    (λ z. eqb-true _ _ (not-zero (eqb (count_of (λ x. eqb x (minus_zero mask)) s) 0)
    (same_none (minus_occurs mask s) (minus_at k) ends.minus z)))

-- a frame that has a row lies within it: from -4 to 2, and past the two zeros
pub record Rowed (mask : ℕ) (s : List ℕ) : Type 0 where
  pub low : 124 ≤ least_of mask s
  pub high : greatest_of mask s ≤ 130
  pub apart : least_of mask s + 2 ≤ greatest_of mask s + 1
  pub wide : least_of mask s < 127 ⊎ 128 < greatest_of mask s

abbrev row_wide : ℕ → Bool
row_wide k = leb 124 (least_at k) && leb (greatest_at k) 130 && ltb (least_at k)
    (greatest_at k) && (ltb (least_at k) 127 || ltb 128 (greatest_at k))

rows-wide : all_below row_wide 12 ≡ true
unfolding values_at
rows-wide = refl

pub row-extent : (mask : ℕ) (s : List ℕ) → fractional_applies mask s ≡ true → Rowed mask s
row-extent mask s a =
    let k = row_number (frame_row mask s) in
    let ends = the_row mask s a in
    let e = ends.least in
    let f = ends.greatest in
    let p : Bool = leb 124 (least_at k) in
    let q : Bool = leb (greatest_at k) 130 in
    let r : Bool = ltb (least_at k) (greatest_at k) in
    let v : Bool = ltb (least_at k) 127 || ltb 128 (greatest_at k) in
    let w : p && q && r && v ≡ true = all_below-at row_wide 12 rows-wide k ends.few in
    let pqr = and_left (p && q && r) v w in
    let pq = and_left (p && q) r pqr in
    record {
      low = omega (arith, leb-true 124 (least_at k) (and_left p q pq));
      high = omega (arith, leb-true (greatest_at k) 130 (and_right p q pq));
      apart = omega (arith, ltb-true (least_at k) (greatest_at k) (and_right (p && q) r pqr));
      wide = or_cases (least_of mask s < 127 ⊎ 128 < greatest_of mask s) (ltb (least_at k) 127) (ltb 128 (greatest_at k))
          (and_right (p && q && r) v w)
          (λ x. inl (omega (arith, ltb-true (least_at k) 127 x))) (λ x. inr (omega (arith, ltb-true 128 (greatest_at k) x)));
    }
