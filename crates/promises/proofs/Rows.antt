-- Tool 7: what the table of range cases says of a frame whose row it is, and so the round trip of its body.
use Prim.Native.Nat.{ℕ, ◌+◌, ◌≤◌, ◌<◌}
use native.Mathlib.Omega.{arith}
use native.Mathlib.Decide.{ℕ_discrete}
use mathlib.Core.Path.{◌≡◌, refl, sym, ap, ◌∙◌}
use mathlib.Core.List.{List, [], ◌∷◌, ◌++◌, map}
use mathlib.Core.Bool.{Bool, true, false, cond, not, ◌&&◌, ◌||◌}
use lib.ListN.{length, replicate}
use lib.Dec.{eqb, leb, ltb}
use lib.IntN.{ℤ, pos, negsuc}
use borrow.Author.Tests.{le-ltb, le-leb, lt-leb, eq-eqb, ne_eqb, eqb-true, leb-true, ltb-true, ltb-false, not-true}
use Rattle.rules.specs.Bits.{low_bits}
use Rattle.rules.specs.Reading.{fail}
use Rattle.rules.specs.declared.Refusal.TheVariants.{Case}
use Rattle.rules.specs.Samples.{signed, sample_of, plus_zero, on_line}
use Rattle.rules.specs.Located.{values_into, located, case_of, values_of}
use Rattle.rules.specs.Chooses.{count_of, values_form, least_of, greatest_of, above, below, located_flag, has_row, row_number, row_of}
use Rattle.rules.specs.Chooses.{is_row, zero_leads, applies}
use Rattle.rules.proofs.Octets.{Below, none, more}
use Rattle.rules.proofs.FrameRow.{line_small, where-row, located-row}
use Rattle.rules.proofs.Signed.{InRange, LawMask, signed_range, told-by-line, sample_of-one-to-one}
use Rattle.rules.proofs.Tests.{and_left, and_right, all_below, all_below-at}
use Rattle.rules.proofs.Each.{pick-below, or_right, Each, nothing, next, all, each_all}
use Rattle.promises.proofs.Back.{Back, back-bind, back-here, back-number}
use Rattle.promises.proofs.Located.{among, fills-start, back-values}

-- a sample's place on the line
abbrev line : ℕ → ℕ → ℕ
line mask x = on_line (signed mask x)

-- the values of a row and a flag
abbrev values : ℕ → ℕ → List ℤ
values c flag = cond (eqb flag 1) (case_of c).flag1 (case_of c).flag0

-- the values that a row may have: in range, and not 0
abbrev is_value : ℤ → Bool
is_value (pos y) = leb 1 y && ltb y 128
is_value (negsuc y) = ltb y 128

value-in-range : (v : ℤ) → is_value v ≡ true → InRange v
value-in-range (pos y) e = ltb-true y 128 (and_right (leb 1 y) (ltb y 128) e)
value-in-range (negsuc y) e = ltb-true y 128 e

value-not-zero : (v : ℤ) → is_value v ≡ true → v ≡ pos 0 → ⊥
value-not-zero (pos y) e g = let z : y ≡ 0 = cc in omega (arith, leb-true 1 y (and_left (leb 1 y) (ltb y 128) e))
value-not-zero (negsuc y) e g = let z : ◌≡◌ {A = ℕ} 0 1 = cc in omega arith

not_zeros : {mask : ℕ} → LawMask mask → {vs : List ℤ} → Each is_value vs → Each (λ x. not (eqb x (plus_zero mask))) (map (sample_of mask) vs)
not_zeros l nothing = nothing
not_zeros {mask} l (next {x = v} h t) =
    next (ap not (ne_eqb (sample_of mask v) (plus_zero mask)
    (λ e. value-not-zero v h (sample_of-one-to-one l v (pos 0) (value-in-range v h) (omega arith) e))))
    (not_zeros l t)

-- a sample whose place on the line is a value's is that value's
told : {mask : ℕ} → LawMask mask → (x : ℕ) → x < 256 → (v : ℤ) → InRange v → line mask x ≡ on_line v → x ≡ sample_of mask v
told {mask} l x h v r e = sym (l.back x h) ∙ ap (sample_of mask) (told-by-line (signed mask x) v (signed_range mask x) r e)

or_map : (a b c d : Bool) → (a ≡ true → c ≡ true) → (b ≡ true → d ≡ true) → a || b ≡ true → c || d ≡ true
or_map true b c d f g e = rw (f refl) refl
or_map false b c d f g e = or_right c d (g e)

-- the second of two, where the first is that some test failed
implied : (a b : Bool) → not a || b ≡ true → a ≡ true → b ≡ true
implied true b e h = e
implied false b e h = cc

among-values : {mask : ℕ} → LawMask mask → (x : ℕ) → x < 256 → {vs : List ℤ} → Each is_value vs → among (map on_line vs) (line mask x) ≡ true
    → among (map (sample_of mask) vs) x ≡ true
unfolding among
among-values l x h nothing e = e
among-values {mask} l x h (next {x = v} {s = vs} g t) e =
    or_map (eqb (line mask x) (on_line v)) (among (map on_line vs) (line mask x)) (eqb x (sample_of mask v)) (among (map (sample_of mask) vs) x)
    (λ q. eq-eqb x (sample_of mask v) (told l x h v (value-in-range v g) (eqb-true (line mask x) (on_line v) q)))
    (λ q. among-values l x h t q) e

-- The table, computed. Every row's values are in range and not 0;
rows-values : all_below (λ c. all_below (λ flag. all is_value (values c flag)) 2) 4 ≡ true
unfolding case_of
rows-values = refl

-- with 0 they are all between least and greatest, if there are any;
abbrev covers : ℕ → ℕ → ℕ → Bool
covers c flag l =
    not (not (eqb (length (values c flag)) 0) && (leb (on_line (case_of c).least) l && leb l (on_line (case_of c).greatest)))
    || (eqb l 128 || among (map on_line (values c flag)) l)

rows-cover : all_below (λ c. all_below (λ flag. all_below (λ l. covers c flag l) 256) 2) 4 ≡ true
unfolding case_of among
rows-cover = refl

-- there are some if the flag is 0 where nothing is above 0, and 1 where nothing is below 0;
abbrev flagged : ℕ → ℕ → Bool
flagged c flag =
    (not (leb (on_line (case_of c).greatest) 128 && ltb (on_line (case_of c).least) 128) || eqb flag 0)
    && (ltb (on_line (case_of c).least) 128 || eqb flag 1)

rows-flagged : all_below (λ c. all_below (λ flag. not (flagged c flag) || not (eqb (length (values c flag)) 0)) 2) 4 ≡ true
unfolding case_of
rows-flagged = refl

-- and a row lies between -2 and 1
rows-narrow : all_below (λ c. leb 126 (on_line (case_of c).least) && leb (on_line (case_of c).greatest) 129) 4 ≡ true
unfolding case_of
rows-narrow = refl

two_at : (f : ℕ → ℕ → Bool) → all_below (λ c. all_below (λ flag. f c flag) 2) 4 ≡ true → (c flag : ℕ) → c < 4 → flag < 2 → f c flag ≡ true
two_at f e c flag h k = all_below-at (λ flag. f c flag) 2 (all_below-at (λ c. all_below (λ flag. f c flag) 2) 4 e c h) flag k

-- the row of a frame
pub record IsRow (mask : ℕ) (s : List ℕ) (c : ℕ) : Type 0 where
  pub small : c < 4
  pub least : least_of mask s ≡ on_line (case_of c).least
  pub greatest : greatest_of mask s ≡ on_line (case_of c).greatest
  pub fits : leb (case_of c).from (length s) ≡ true

row-test : (mask : ℕ) (s : List ℕ) (c : ℕ) → c < 4 → is_row mask s c ≡ true → IsRow mask s c
row-test mask s c h e =
    let a = eqb (least_of mask s) (on_line (case_of c).least) in
    let b = eqb (greatest_of mask s) (on_line (case_of c).greatest) in
    let d = leb (case_of c).from (length s) in
    let ab = and_left (a && b) d e in
    record {
      small = h;
      least = eqb-true (least_of mask s) (on_line (case_of c).least) (and_left a b ab);
      greatest = eqb-true (greatest_of mask s) (on_line (case_of c).greatest) (and_right a b ab);
      fits = and_right (a && b) d e;
    }

pub the_row : (mask : ℕ) (s : List ℕ) → has_row (row_of mask s) ≡ true → IsRow mask s (row_number (row_of mask s))
the_row mask s h = where-row (IsRow mask s) (row_of mask s) (located-row (IsRow mask s) mask s (row-test mask s)) h

-- what holds of every octet between least and greatest holds of every sample
between : (mask low high : ℕ) (P : ℕ → Bool) {s : List ℕ} → Below 256 s → low ≤ least_of mask s → greatest_of mask s ≤ high
    → ((x : ℕ) → x < 256 → low ≤ line mask x → line mask x ≤ high → P x ≡ true) → Each P s
unfolding least_of greatest_of
between mask low high P none a b f = nothing
between mask low high P (more {x = x} h t) a b f =
    next (f x h (omega arith) (omega arith)) (between mask low high P t (omega arith) (omega arith) f)

-- none above, none below, and some below
above-none : (mask : ℕ) (s : List ℕ) → greatest_of mask s ≤ 128 → above mask s ≡ 0
unfolding greatest_of count_of
above-none mask [] h = refl
above-none mask (x ∷ s) h = rw (le-ltb 128 (line mask x) (omega arith)) (omega (arith, above-none mask s (omega arith)))

below_none : (mask : ℕ) (s : List ℕ) → 128 ≤ least_of mask s → below mask s ≡ 0
unfolding least_of count_of
below_none mask [] h = refl
below_none mask (x ∷ s) h = rw (le-ltb (line mask x) 128 (omega arith)) (omega (arith, below_none mask s (omega arith)))

below-some : (mask : ℕ) (s : List ℕ) → least_of mask s < 128 → 1 ≤ below mask s
unfolding least_of count_of
below-some mask [] h = absurd (omega arith)
below-some mask (x ∷ s) h = step (ltb (line mask x) 128) (ltb-false (line mask x) 128) (λ g. below-some mask s (omega arith))
  where
    step : (b : Bool) → (b ≡ false → 128 ≤ line mask x) → (128 ≤ line mask x → 1 ≤ below mask s) → 1 ≤ cond b 1 0 + below mask s
    step true f g = omega arith
    step false f g = let m = g (f refl) in omega arith

flag_small : (mask : ℕ) (s : List ℕ) → located_flag mask s < 2
flag_small mask s = pick-below (leb (below mask s) (above mask s)) 1 0 (omega arith) (omega arith)

-- the flag that a writer gives is one that the row has values for
tests-hold : (g l a b : Bool) → (g ≡ true → l ≡ true → a ≡ true) → (l ≡ false → b ≡ true) → (not (g && l) || a) && (l || b) ≡ true
tests-hold true true a b p q = rw (p refl refl) refl
tests-hold false true a b p q = refl
tests-hold true false a b p q = q refl
tests-hold false false a b p q = q refl

flag-fits : (mask : ℕ) (s : List ℕ) (c : ℕ) → IsRow mask s c → not (eqb (length (values c (located_flag mask s))) 0) ≡ true
flag-fits mask s c r =
    let flag = located_flag mask s in
    let g = on_line (case_of c).greatest in
    let l = on_line (case_of c).least in
    implied (flagged c flag) (not (eqb (length (values c flag)) 0))
    (two_at (λ c flag. not (flagged c flag) || not (eqb (length (values c flag)) 0)) rows-flagged c flag r.small (flag_small mask s))
    (tests-hold (leb g 128) (ltb l 128) (eqb flag 0) (eqb flag 1)
    (λ p q.
    let a = above-none mask s (omega (arith, r.greatest, leb-true g 128 p)) in
    let b = below-some mask s (omega (arith, r.least, ltb-true l 128 q)) in
    rw (lt-leb (below mask s) (above mask s) (omega arith)) refl)
    (λ q.
    let b = below_none mask s (omega (arith, r.least, ltb-false l 128 q)) in
    rw (le-leb (below mask s) (above mask s) (omega arith)) refl))

-- every sample is 0 or one of the values
all-covered : {mask : ℕ} → LawMask mask → (s : List ℕ) (c : ℕ) → Below 256 s → IsRow mask s c
    → Each (λ x. eqb x (plus_zero mask) || among (map (sample_of mask) (values c (located_flag mask s))) x) s
all-covered {mask} law s c b r =
    let flag = located_flag mask s in
    let vs = values c flag in
    let low = on_line (case_of c).least in
    let high = on_line (case_of c).greatest in
    between mask low high (λ x. eqb x (plus_zero mask) || among (map (sample_of mask) vs) x) b (omega (arith, r.least))
    (omega (arith, r.greatest))
    (λ x h p q.
    or_map (eqb (line mask x) 128) (among (map on_line vs) (line mask x)) (eqb x (plus_zero mask)) (among (map (sample_of mask) vs) x)
    (λ e. eq-eqb x (plus_zero mask) (told law x h (pos 0) (omega arith) (eqb-true (line mask x) 128 e)))
    (λ e. among-values law x h
    (each_all is_value vs (two_at (λ c flag. all is_value (values c flag)) rows-values c flag r.small (flag_small mask s))) e)
    (implied (not (eqb (length vs) 0) && (leb low (line mask x) && leb (line mask x) high))
    (eqb (line mask x) 128 || among (map on_line vs) (line mask x))
    (all_below-at (λ l. covers c flag l) 256
    (two_at (λ c flag. all_below (λ l. covers c flag l) 256) rows-cover c flag r.small (flag_small mask s))
    (line mask x) (line_small (signed mask x) (signed_range mask x)))
    (rw (flag-fits mask s c r, le-leb low (line mask x) p, le-leb (line mask x) high q) refl)))

-- "value-location if N is 80 or more, least and greatest are a row's, N fits it, and no value is more frequent than 0"
pub record Locates (mask : ℕ) (s : List ℕ) : Type 0 where
  pub long : 80 ≤ length s
  pub row : has_row (row_of mask s) ≡ true
  pub one : zero_leads mask s (pos 1) ≡ true
  pub minus_one : zero_leads mask s (negsuc 0) ≡ true
  pub minus_two : zero_leads mask s (negsuc 1) ≡ true

pub locates : (mask : ℕ) (s : List ℕ) → applies mask 7 s ≡ true → Locates mask s
unfolding applies
locates mask s e =
    let a = leb 80 (length s) in
    let b = has_row (row_of mask s) in
    let c = zero_leads mask s (pos 1) in
    let d = zero_leads mask s (negsuc 0) in
    let f = zero_leads mask s (negsuc 1) in
    let abcd = and_left (a && b && c && d) f e in
    let abc = and_left (a && b && c) d abcd in
    let ab = and_left (a && b) c abc in
    record {
      long = leb-true 80 (length s) (and_left a b ab);
      row = and_right a b ab;
      one = and_right (a && b) c abc;
      minus_one = and_right (a && b && c) d abcd;
      minus_two = and_right (a && b && c && d) f e;
    }

-- "no value is more frequent than 0", so some sample is 0
zero-led : (mask x : ℕ) (s : List ℕ) (v : ℤ) → x ≡ sample_of mask v → zero_leads mask (x ∷ s) v ≡ true
    → 1 ≤ count_of (λ y. eqb y (plus_zero mask)) (x ∷ s)
unfolding count_of
zero-led mask x s v e h =
    let o : 1 ≤ count_of (λ y. eqb y (sample_of mask v)) (x ∷ s) = rw (eq-eqb x (sample_of mask v) e) (omega arith) in
    omega (arith, leb-true (count_of (λ y. eqb y (sample_of mask v)) (x ∷ s)) (count_of (λ y. eqb y (plus_zero mask)) (x ∷ s)) h)

zero-first : (z x : ℕ) (s : List ℕ) → x ≡ z → 1 ≤ count_of (λ y. eqb y z) (x ∷ s)
unfolding count_of
zero-first z x s e = rw (eq-eqb x z e) (omega arith)

zero-beside : {mask : ℕ} → LawMask mask → (x : ℕ) (s : List ℕ) → x < 256 → 126 ≤ line mask x → line mask x ≤ 129 → Locates mask (x ∷ s)
    → Dec (line mask x ≡ 126) → Dec (line mask x ≡ 127) → Dec (line mask x ≡ 128) → 1 ≤ count_of (λ y. eqb y (plus_zero mask)) (x ∷ s)
zero-beside {mask} l x s h a b p (yes e) d f = zero-led mask x s (negsuc 1) (told l x h (negsuc 1) (omega arith) e) p.minus_two
zero-beside {mask} l x s h a b p (no c) (yes e) f = zero-led mask x s (negsuc 0) (told l x h (negsuc 0) (omega arith) e) p.minus_one
zero-beside {mask} l x s h a b p (no c) (no d) (yes e) = zero-first (plus_zero mask) x s (told l x h (pos 0) (omega arith) e)
zero-beside {mask} l x s h a b p (no c) (no d) (no e) = zero-led mask x s (pos 1) (told l x h (pos 1) (omega arith) (omega arith)) p.one

zero-in-row : {mask : ℕ} → LawMask mask → {s : List ℕ} → Below 256 s → Locates mask s → (c : ℕ) → IsRow mask s c
    → 1 ≤ count_of (λ y. eqb y (plus_zero mask)) s
unfolding least_of greatest_of
zero-in-row law none a c r = absurd (omega (arith, a.long))
zero-in-row {mask} law (more {x = x} {l = s} h t) a c r =
    let low = leb 126 (on_line (case_of c).least) in
    let high = leb (on_line (case_of c).greatest) 129 in
    let narrow = all_below-at (λ c. leb 126 (on_line (case_of c).least) && leb (on_line (case_of c).greatest) 129) 4 rows-narrow
    c r.small in
    let low' = leb-true 126 (on_line (case_of c).least) (and_left low high narrow) in
    let high' = leb-true (on_line (case_of c).greatest) 129 (and_right low high narrow) in
    zero-beside law x s h (omega (arith, r.least)) (omega (arith, r.greatest)) a
    (ℕ_discrete (line mask x) 126) (ℕ_discrete (line mask x) 127) (ℕ_discrete (line mask x) 128)

pub zero-occurs : {mask : ℕ} → LawMask mask → {s : List ℕ} → Below 256 s → Locates mask s → 1 ≤ count_of (λ y. eqb y (plus_zero mask)) s
zero-occurs {mask} law {s} b a = zero-in-row law b a (row_number (row_of mask s)) (the_row mask s a.row)

row-values : (mask : ℕ) (s : List ℕ) (c flag : ℕ) → IsRow mask s c → values_of (length s) c flag ≡ values c flag
unfolding values_of
row-values mask s c flag r = rw r.fits refl

-- none of its values is 0
pub row_apart : {mask : ℕ} → LawMask mask → (s : List ℕ) → Locates mask s
    → Each (λ x. not (eqb x (plus_zero mask))) (map (sample_of mask) (values_of (length s) (row_number (row_of mask s)) (located_flag mask s)))
row_apart {mask} law s a =
    let c = row_number (row_of mask s) in
    let flag = located_flag mask s in
    let r = the_row mask s a.row in
    rw (row-values mask s c flag r)
    (not_zeros law (each_all is_value (values c flag)
    (two_at (λ c flag. all is_value (values c flag)) rows-values c flag r.small (flag_small mask s))))

-- Tool 7: "range case (2 bits), flag (1 bit), then the values below in turn"
pub back-located : {mask : ℕ} → LawMask mask → (s : List ℕ) → Below 256 s → Locates mask s → Back (located mask (length s))
    (low_bits 2 (row_number (row_of mask s)) ++ (low_bits 1 (located_flag mask s)
    ++ values_form (map (sample_of mask) (values_of (length s) (row_number (row_of mask s)) (located_flag mask s))) s)) s
unfolding located
back-located {mask} law s b a =
    let n = length s in
    let z = plus_zero mask in
    let c = row_number (row_of mask s) in
    let flag = located_flag mask s in
    let r = the_row mask s a.row in
    let e : values_of n c flag ≡ values c flag = row-values mask s c flag r in
    let some : eqb (length (values c flag)) 0 ≡ false = not-true (eqb (length (values c flag)) 0) (flag-fits mask s c r) in
    let apart = not_zeros law
    (each_all is_value (values c flag)
    (two_at (λ c flag. all is_value (values c flag)) rows-values c flag r.small (flag_small mask s))) in
    let on : (start : ℕ) → Back (cond (eqb (length (values_of n c flag)) 0) (fail Case start)
    (values_into n z (map (sample_of mask) (values_of n c flag)) (replicate n z)))
    (values_form (map (sample_of mask) (values_of n c flag)) s) s
    = λ start. rw (e, some)
    (back-values n z (map (sample_of mask) (values c flag)) apart (fills-start z s) (all-covered law s c b r) (omega arith)) in
    back-here _ (λ start. back-bind _ _ (back-number 2 c r.small) (back-bind _ _ (back-number 1 flag (flag_small mask s)) (on start)))

-- whatever the row and the flag: three values at most, and none is 0
pub record FewValues (n c flag : ℕ) : Type 0 where
  pub few : length (values_of n c flag) ≤ 3
  pub apart : {mask : ℕ} → LawMask mask → Each (λ x. not (eqb x (plus_zero mask))) (map (sample_of mask) (values_of n c flag))

rows_few : all_below (λ c. all_below (λ flag. leb (length (values c flag)) 3) 2) 4 ≡ true
unfolding case_of
rows_few = refl

pub few-values : (n c flag : ℕ) → c < 4 → flag < 2 → FewValues n c flag
unfolding values_of
few-values n c flag h k = record { few = few (leb (case_of c).from n); apart = λ l. not_zeros l (good (leb (case_of c).from n)) }
  where
    few : (b : Bool) → length (cond b (values c flag) []) ≤ 3
    few true = leb-true (length (values c flag)) 3 (two_at (λ c flag. leb (length (values c flag)) 3) rows_few c flag h k)
    few false = omega arith

    good : (b : Bool) → Each is_value (cond b (values c flag) [])
    good true = each_all is_value (values c flag) (two_at (λ c flag. all is_value (values c flag)) rows-values c flag h k)
    good false = nothing
