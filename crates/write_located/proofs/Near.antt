-- Laws of samples from -2 to 1: each is told by its place on the line, and their counts tell the least, the greatest, and what is above and
-- below 0.
use Prim.Native.Nat.{ℕ, suc, ◌+◌, ◌-◌, ◌≤◌, ◌<◌, min, max}
use mathlib.Core.Path.{◌≡◌, refl, sym, ap, ◌∙◌}
use mathlib.Core.List.{List, [], ◌∷◌}
use mathlib.Core.Bool.{Bool, true, false, cond, ◌&&◌, ◌||◌}
use native.Mathlib.Omega.{arith}
use native.Mathlib.Nat.{zero-add}
use borrow.Author.Tests.{eqb-true, eqb-false, eq-eqb, ne_eqb, leb-false}
use lib.ListN.{length}
use lib.Dec.{eqb, leb, ltb}
use lib.IntN.{ℤ, pos, negsuc}
use Rattle.rules.specs.Samples.{signed, sample_of, plus_zero, minus_zero, on_line}
use Rattle.rules.specs.Located.{case_of}
use Rattle.rules.specs.Chooses.{count_of, least_of, greatest_of, above, below, none as no_row, row_of, applies}
use Rattle.rules.proofs.Octets.{Below, none, more}
use Rattle.rules.proofs.Signed.{InRange, LawMask, signed_range, told-by-line, sample_of-one-to-one}
use Rattle.rules.proofs.Tests.{and_left, and_right, all_below-at}
use Rattle.write_scan.specs.Looks.{count_is, near, two_zeros, is_mask}
use Rattle.rules.proofs.Counts.{count-le}
use Rattle.write_scan.proofs.Spreading.{alike, near-is, is-near}
use Rattle.write_located.specs.declared.Tally.{Tally}
use Rattle.write_located.specs.Rows.{least_by, greatest_by, Tallied}
use Rattle.write_scan.proofs.Tests.{never, and_zero, law-for}

module _ {mask : ℕ} (law : LawMask mask) where
  -- samples of numbers in other places differ
  pub apart : (v w : ℤ) → InRange v → InRange w → (on_line v ≡ on_line w → ⊥) → sample_of mask v ≡ sample_of mask w → ⊥
  apart v w g h ne e = ne (ap on_line (sample_of-one-to-one law v w g h e))

  told : (v : ℤ) → InRange v → (x : ℕ) → x < 256 → eqb x (sample_of mask v) ≡ eqb (on_line (signed mask x)) (on_line v)
  told v g x h =
      alike (eqb x (sample_of mask v)) (eqb (on_line (signed mask x)) (on_line v))
      (λ e. eq-eqb _ _ (ap (λ (y : ℕ). on_line (signed mask y)) (eqb-true x (sample_of mask v) e) ∙ ap on_line (law.forth v g)))
      (λ e. eq-eqb _ _ (sym (law.back x h) ∙ ap (sample_of mask) (told-by-line (signed mask x) v (signed_range mask x) g (eqb-true _ _ e))))

-- k where there are any, else z
unfoldable at : ℕ → ℕ → ℕ → ℕ
at z k n = cond (eqb n 0) z k

at_some : (z k n : ℕ) → at z k (1 + n) ≡ k
unfolding at
at_some z k n = rw (ne_eqb (1 + n) 0 (λ e. omega arith))

at_none : (z k : ℕ) → at z k 0 ≡ z
unfolding at
at_none z k = refl

at_in : (z k n : ℕ) → (min z k ≤ at z k n) × (at z k n ≤ max z k)
unfolding at
at_in z k n = go (eqb n 0)
  where
    go : (b : Bool) → (min z k ≤ cond b z k) × (cond b z k ≤ max z k)
    go true = (omega arith, omega arith)
    go false = (omega arith, omega arith)

-- what so many -2, -1, 0 and 1 tell
record Sums (l g u w k a b c d : ℕ) : Type 0 where
  least : l ≡ min (at 255 126 a) (min (at 255 127 b) (min (at 255 128 c) (at 255 129 d)))
  greatest : g ≡ max (at 0 126 a) (max (at 0 127 b) (max (at 0 128 c) (at 0 129 d)))
  up : u ≡ d
  down : w ≡ b + a
  all : k ≡ a + b + c + d

-- a place more, put where it stands
swap-min : (p a x : ℕ) → min p (min a x) ≡ min a (min p x)
swap-min p a x = omega arith

swap-max : (p a x : ℕ) → max p (max a x) ≡ max a (max p x)
swap-max p a x = omega arith

drop_min : (p a x : ℕ) → p ≤ a → min p (min a x) ≡ min p x
drop_min p a x h = omega arith

drop-max : (p a x : ℕ) → a ≤ p → max p (max a x) ≡ max p x
drop-max p a x h = omega arith

-- one sample more, by its place
module _ {l g u w k a b c d : ℕ} (t : Sums l g u w k a b c d) where
  abbrev Next : ℕ → Type 0
  Next p =
      Sums (min p l) (max p g) (cond (ltb 128 p) 1 0 + u) (cond (ltb p 128) 1 0 + w) (suc k)
      (cond (eqb p 126) 1 0 + a) (cond (eqb p 127) 1 0 + b) (cond (eqb p 128) 1 0 + c) (cond (eqb p 129) 1 0 + d)

  next-two : Next 126
  next-two =
      record {
        least = rw (t.least, at_some 255 126 a, zero-add b, zero-add c, zero-add d)
            (drop_min 126 (at 255 126 a) _ (omega (arith, (at_in 255 126 a).0)));
        greatest = rw (t.greatest, at_some 0 126 a, zero-add b, zero-add c, zero-add d)
            (drop-max 126 (at 0 126 a) _ (omega (arith, (at_in 0 126 a).1)));
        up = omega (arith, t.up);
        down = omega (arith, t.down);
        all = omega (arith, t.all);
      }

  next-minus : Next 127
  next-minus =
      record {
        least =
            rw (t.least, at_some 255 127 b, zero-add a, zero-add c, zero-add d)
            (swap-min 127 (at 255 126 a) _ ∙ ap (min (at 255 126 a)) (drop_min 127 (at 255 127 b) _ (omega (arith, (at_in 255 127 b).0))));
        greatest =
            rw (t.greatest, at_some 0 127 b, zero-add a, zero-add c, zero-add d)
            (swap-max 127 (at 0 126 a) _ ∙ ap (max (at 0 126 a)) (drop-max 127 (at 0 127 b) _ (omega (arith, (at_in 0 127 b).1))));
        up = omega (arith, t.up);
        down = omega (arith, t.down);
        all = omega (arith, t.all);
      }

  next-plus : Next 128
  next-plus =
      record {
        least =
            rw (t.least, at_some 255 128 c, zero-add a, zero-add b, zero-add d)
            (swap-min 128 (at 255 126 a) _ ∙ ap (min (at 255 126 a)) (swap-min 128 (at 255 127 b) _
            ∙ ap (min (at 255 127 b)) (drop_min 128 (at 255 128 c) _ (omega (arith, (at_in 255 128 c).0)))));
        greatest =
            rw (t.greatest, at_some 0 128 c, zero-add a, zero-add b, zero-add d)
            (swap-max 128 (at 0 126 a) _ ∙ ap (max (at 0 126 a)) (swap-max 128 (at 0 127 b) _
            ∙ ap (max (at 0 127 b)) (drop-max 128 (at 0 128 c) _ (omega (arith, (at_in 0 128 c).1)))));
        up = omega (arith, t.up);
        down = omega (arith, t.down);
        all = omega (arith, t.all);
      }

  next_one : Next 129
  next_one =
      record {
        least =
            rw (t.least, at_some 255 129 d, zero-add a, zero-add b, zero-add c)
            (swap-min 129 (at 255 126 a) _ ∙ ap (min (at 255 126 a)) (swap-min 129 (at 255 127 b) _
            ∙ ap (min (at 255 127 b)) (swap-min 129 (at 255 128 c) _ ∙ ap (min (at 255 128 c)) (omega (arith, (at_in 255 129 d).0)))));
        greatest =
            rw (t.greatest, at_some 0 129 d, zero-add a, zero-add b, zero-add c)
            (swap-max 129 (at 0 126 a) _ ∙ ap (max (at 0 126 a)) (swap-max 129 (at 0 127 b) _
            ∙ ap (max (at 0 127 b)) (swap-max 129 (at 0 128 c) _ ∙ ap (max (at 0 128 c)) (omega (arith, (at_in 0 129 d).1)))));
        up = omega (arith, t.up);
        down = omega (arith, t.down);
        all = omega (arith, t.all);
      }

  next : (p : ℕ) → 126 ≤ p → p ≤ 129 → Next p
  next p h g = go (eqb p 126) refl (eqb p 127) refl (eqb p 128) refl
    where
      go : (x : Bool) → eqb p 126 ≡ x → (y : Bool) → eqb p 127 ≡ y → (z : Bool) → eqb p 128 ≡ z → Next p
      go true e y f z i = rw (eqb-true p 126 e) next-two
      go false e true f z i = rw (eqb-true p 127 f) next-minus
      go false e false f true i = rw (eqb-true p 128 i) next-plus
      go false e false f false i =
          let q : p ≡ 129 = omega (arith, eqb-false p 126 e, eqb-false p 127 f, eqb-false p 128 i) in
          rw q next_one

abbrev Tells : ℕ → List ℕ → Type 0
Tells mask s =
    Sums (least_of mask s) (greatest_of mask s) (above mask s) (below mask s) (length s)
    (count_is (sample_of mask (negsuc 1)) s) (count_is (minus_zero mask) s) (count_is (plus_zero mask) s) (count_is (sample_of mask (pos 1)) s)

near-tells : {mask : ℕ} → LawMask mask → {s : List ℕ} → Below 256 s → near (least_of mask s) (greatest_of mask s) ≡ true → Tells mask s
unfolding count_of least_of greatest_of
near-tells law none h =
    record {
      least = rw (at_none 255 126, at_none 255 127, at_none 255 128, at_none 255 129);
      greatest =
          rw (at_none 0 126, at_none 0 127, at_none 0 128, at_none 0 129);
      up = refl;
      down = refl;
      all = refl;
    }
near-tells {mask} law (more {x = x} {l = s} o t) h =
    let n = near-is (min (on_line (signed mask x)) (least_of mask s)) (max (on_line (signed mask x)) (greatest_of mask s)) h in
    let i = near-tells law t (is-near (least_of mask s) (greatest_of mask s) (omega (arith, n.0)) (omega (arith, n.1))) in
    let j = next i (on_line (signed mask x)) (omega (arith, n.0)) (omega (arith, n.1)) in
    rw (
      told law (negsuc 1) (omega arith) x o,
      told law (negsuc 0) (omega arith) x o,
      told law (pos 0) (omega arith) x o,
      told law (pos 1) (omega arith) x o,
    ) j

-- the least and the greatest of some samples
from : (b : Bool) (k : ℕ) → k ≤ 255 → k ≤ cond b 255 k
from true k h = h
from false k h = omega arith

to : (b : Bool) (k : ℕ) → cond b 0 k ≤ k
to true k = omega arith
to false k = omega arith

least-of : (a b c d : ℕ) → 1 ≤ a + b + c + d → least_by a b c ≡ min (at 255 126 a) (min (at 255 127 b) (min (at 255 128 c) (at 255 129 d)))
unfolding least_by at
least-of a b c d some = go (eqb a 0) refl (eqb b 0) refl (eqb c 0) refl (eqb d 0) refl
  where
    go : (x : Bool) → eqb a 0 ≡ x → (y : Bool) → eqb b 0 ≡ y → (z : Bool) → eqb c 0 ≡ z → (w : Bool) → eqb d 0 ≡ w
        → cond x (cond y (cond z 129 128) 127) 126 ≡ min (cond x 255 126) (min (cond y 255 127) (min (cond z 255 128) (cond w 255 129)))
    go false e y f z g w h = omega (arith, from y 127 (omega arith), from z 128 (omega arith), from w 129 (omega arith))
    go true e false f z g w h = omega (arith, from z 128 (omega arith), from w 129 (omega arith))
    go true e true f false g w h = omega (arith, from w 129 (omega arith))
    go true e true f true g false h = refl
    go true e true f true g true h = absurd (omega (arith, eqb-true a 0 e, eqb-true b 0 f, eqb-true c 0 g, eqb-true d 0 h))

greatest-of : (a b c d : ℕ) → 1 ≤ a + b + c + d → greatest_by d c b ≡ max (at 0 126 a) (max (at 0 127 b) (max (at 0 128 c) (at 0 129 d)))
unfolding greatest_by at
greatest-of a b c d some = go (eqb a 0) refl (eqb b 0) refl (eqb c 0) refl (eqb d 0) refl
  where
    go : (x : Bool) → eqb a 0 ≡ x → (y : Bool) → eqb b 0 ≡ y → (z : Bool) → eqb c 0 ≡ z → (w : Bool) → eqb d 0 ≡ w
        → cond w (cond z (cond y 126 127) 128) 129 ≡ max (cond x 0 126) (max (cond y 0 127) (max (cond z 0 128) (cond w 0 129)))
    go x e y f z g false h = omega (arith, to x 126, to y 127, to z 128)
    go x e y f false g true h = omega (arith, to x 126, to y 127)
    go x e false f true g true h = omega (arith, to x 126)
    go false e true f true g true h = refl
    go true e true f true g true h = absurd (omega (arith, eqb-true a 0 e, eqb-true b 0 f, eqb-true c 0 g, eqb-true d 0 h))

-- how many are one value, said of the value that is meant
pub counted : {x y r : ℕ} (s : List ℕ) → r ≡ count_is x s → x ≡ y → r ≡ count_is y s
counted s e f = e ∙ ap (λ (k : ℕ). count_is k s) f

pub count_fits : {r : ℕ} (x : ℕ) (frame : List ℕ) → r ≡ count_is x frame → r ≤ length frame
count_fits x frame e = omega (arith, e, count-le (λ y. eqb y x) frame)

-- what is none of the three is 0
pub tallied : {mask : ℕ} {s : List ℕ} {t : Tally} → is_mask mask ≡ true → Below 256 s → near (least_of mask s) (greatest_of mask s) ≡ true
    → {n : ℕ} → length s ≡ n → 1 ≤ n
    → t.one ≡ count_is (sample_of mask (pos 1)) s → t.minus ≡ count_is (minus_zero mask) s → t.twos ≡ count_is (sample_of mask (negsuc 1)) s
    → t.plus ≡ n - (t.one + t.minus + t.twos) → Tallied mask s t
tallied {mask} {s} {t} m o h size some e₁ e₂ e₃ e₄ =
    let i = near-tells (law-for mask m) o h in
    let p : t.plus ≡ count_is (plus_zero mask) s = omega (arith, i.all, e₁, e₂, e₃, e₄) in
    let a = count_is (sample_of mask (negsuc 1)) s in
    let b = count_is (minus_zero mask) s in
    let c = count_is (plus_zero mask) s in
    let d = count_is (sample_of mask (pos 1)) s in
    let any : 1 ≤ a + b + c + d = omega (arith, i.all) in
    record {
      plus = p;
      one = e₁;
      minus = e₂;
      twos = e₃;
      all = omega (arith, i.all, e₁, e₂, e₃, p);
      least = rw (e₃, e₂, p) (least-of a b c d any ∙ sym i.least);
      greatest = rw (e₁, e₂, p) (greatest-of a b c d any ∙ sym i.greatest);
      above = e₁ ∙ sym i.up;
      below = rw (e₂, e₃) (sym i.down);
    }

-- the three never are more than all
pub fewer : (mask : ℕ) {s : List ℕ} → is_mask mask ≡ true → Below 256 s → near (least_of mask s) (greatest_of mask s) ≡ true
    → count_is (sample_of mask (pos 1)) s + count_is (minus_zero mask) s + count_is (sample_of mask (negsuc 1)) s ≤ length s
fewer mask m o h = let i = near-tells (law-for mask m) o h in omega (arith, i.all)

-- the places of the two zeros, one test over all masks
zero-places : (mask : ℕ) → mask < 128 → (on_line (signed mask (plus_zero mask)) ≡ 128) × (on_line (signed mask (minus_zero mask)) ≡ 127)
unfolding signed sample_of
zero-places mask h =
    let there : ℕ → Bool = λ m. eqb (on_line (signed m (plus_zero m))) 128 && eqb (on_line (signed m (minus_zero m))) 127 in
    let e = all_below-at there 128 refl mask h in (
      eqb-true _ _ (and_left (eqb (on_line (signed mask (plus_zero mask))) 128) (eqb (on_line (signed mask (minus_zero mask))) 127) e),
      eqb-true _ _ (and_right (eqb (on_line (signed mask (plus_zero mask))) 128) (eqb (on_line (signed mask (minus_zero mask))) 127) e),
    )

pub zeros-near : (mask : ℕ) → mask < 128 → (s : List ℕ) → count_of (λ x. eqb x (plus_zero mask) || eqb x (minus_zero mask)) s ≡ length s
    → (127 ≤ least_of mask s) × (greatest_of mask s ≤ 128)
unfolding count_of least_of greatest_of
zeros-near mask m [] h = (omega arith, omega arith)
zeros-near mask m (x ∷ s) h =
    step (eqb x (plus_zero mask)) (eqb x (minus_zero mask)) refl refl h (count-le (λ x. eqb x (plus_zero mask) || eqb x (minus_zero mask)) s)
    (zeros-near mask m s) (zero-places mask m)
  where
    step : (a b : Bool) → eqb x (plus_zero mask) ≡ a → eqb x (minus_zero mask) ≡ b
        → cond (eqb x (plus_zero mask) || eqb x (minus_zero mask)) 1 0 + count_of (λ x. eqb x (plus_zero mask) || eqb x (minus_zero mask))
        s ≡ suc (length s) → count_of (λ x. eqb x (plus_zero mask) || eqb x (minus_zero mask)) s ≤ length s
        → (count_of (λ x. eqb x (plus_zero mask) || eqb x (minus_zero mask)) s ≡ length s → (127 ≤ least_of mask s) × (greatest_of mask s ≤ 128))
        → (on_line (signed mask (plus_zero mask)) ≡ 128) × (on_line (signed mask (minus_zero mask)) ≡ 127)
        → (127 ≤ min (on_line (signed mask x)) (least_of mask s)) × (max (on_line (signed mask x)) (greatest_of mask s) ≤ 128)
    step true b e f c le ih p =
        let i = ih (omega (arith, rw e at c)) in
        let z : on_line (signed mask x) ≡ 128 = ap (λ (y : ℕ). on_line (signed mask y)) (eqb-true x (plus_zero mask) e) ∙ p.0 in
        (omega (arith, i.0), omega (arith, i.1))
    step false true e f c le ih p =
        let i = ih (omega (arith, rw (e, f) at c)) in
        let z : on_line (signed mask x) ≡ 127 = ap (λ (y : ℕ). on_line (signed mask y)) (eqb-true x (minus_zero mask) f) ∙ p.1 in
        (omega (arith, i.0), omega (arith, i.1))
    step false false e f c le ih p = absurd (omega (arith, rw (e, f) at c))

-- so no row has them
pub zeros-unlocated : (mask : ℕ) → mask < 128 → (s : List ℕ) → two_zeros mask s ≡ true → applies mask 7 s ≡ false
unfolding applies row_of case_of
zeros-unlocated mask m s e =
    let i = zeros-near mask m s (eqb-true _ _ e) in
    let unrowed : row_of mask s ≡ no_row =
    rw (
      ne_eqb (least_of mask s) 126 (λ z. omega (arith, i.0)),
      ne_eqb (greatest_of mask s) 129 (λ z. omega (arith, i.1)),
      and_zero (eqb (least_of mask s) 127),
      and_zero (eqb (least_of mask s) 128),
    ) in
    rw (unrowed, and_zero (leb 80 (length s)))

-- a row is near
pub row_near : (mask : ℕ) (s : List ℕ) → near (least_of mask s) (greatest_of mask s) ≡ false → row_of mask s ≡ no_row
unfolding row_of case_of
row_near mask s far = go (leb 126 (least_of mask s)) refl (leb (greatest_of mask s) 129) refl
  where
    go : (a : Bool) → leb 126 (least_of mask s) ≡ a → (b : Bool) → leb (greatest_of mask s) 129 ≡ b → row_of mask s ≡ no_row
    go false e b f =
        let h = leb-false 126 (least_of mask s) e in
        rw (
          ne_eqb (least_of mask s) 126 (λ z. omega arith),
          ne_eqb (least_of mask s) 127 (λ z. omega arith),
          ne_eqb
              (least_of mask s) 128 (λ z. omega arith),
        )
    go true e false f =
        let h = leb-false (greatest_of mask s) 129 f in
        rw (
          ne_eqb (greatest_of mask s) 129 (λ z. omega arith),
          ne_eqb (greatest_of mask s) 128 (λ z. omega arith),
          and_zero
              (eqb (least_of mask s) 126),
          and_zero (eqb (least_of mask s) 127),
          and_zero (eqb (least_of mask s) 128),
        )
    go true e true f = absurd (never (sym (rw (e, f) at far)))

pub located-near : (mask : ℕ) (s : List ℕ) → near (least_of mask s) (greatest_of mask s) ≡ false → applies mask 7 s ≡ false
unfolding applies
located-near mask s far = rw (row_near mask s far, and_zero (leb 80 (length s)))
