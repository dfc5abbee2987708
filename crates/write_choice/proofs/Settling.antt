-- Laws of what the first look settles: a frame of one value, and a frame that only uncompressed applies to.
use Prim.Native.Nat.{ℕ, zero, suc, ◌+◌, ◌*◌, ◌/◌, ◌%◌, ◌≤◌, ◌<◌}
use mathlib.Core.Path.{◌≡◌, refl, sym, ap, ◌∙◌}
use mathlib.Core.List.{List, [], ◌∷◌, map}
use mathlib.Core.Bool.{Bool, true, false, cond, ◌&&◌, ◌||◌}
use native.Mathlib.Omega.{arith}
use borrow.Author.Tests.{eq-eqb, ne_eqb, eqb-true, le-leb, ltb-false}
use Rattle.std.proofs.Common.{Option, Some, None}
use lib.ListN.{length, get_or, length-append, length-map}
use lib.Dec.{eqb, leb, ltb}
use Rattle.rules.specs.Bits.{low_bits}
use Rattle.rules.specs.Tools.{holds}
use Rattle.rules.specs.Samples.{plus_zero, minus_zero}
use Rattle.rules.specs.First.{is_long, base_of, rice_code}
use Rattle.rules.specs.Runs.{runs_of, rice_forms}
use Rattle.rules.specs.Zeros.{codes_of, code_of, flag_of}
use Rattle.rules.specs.Chooses.{count_of, every, least_from, best_s, mark_of, rice_choice, located_form, least_of}
use Rattle.rules.specs.Chooses.{greatest_of, row_number, frame_row, fractional_form, applies, form_of, octets_of_form, choose, chosen_tool}
use Rattle.rules.specs.Fractional.{radix, group_of, bits_for}
use Rattle.rules.proofs.Octets.{length-low_bits, length-bits_of}
use Rattle.write_measure.proofs.Rice.{length-rice_form}
use Rattle.write_scan.specs.declared.Spread.{Spread}
use Rattle.write_scan.specs.Looks.{near, SpreadIs}
use Rattle.rules.proofs.Counts.{count-le}
use Rattle.write_runs.proofs.Finding.{runs-common, runs_other}
use Rattle.write_choice.specs.Plans.{measured, value_tool, SettledTool, Chosen}
use Rattle.write_scan.proofs.Tests.{never, and_zero}
use Rattle.write_located.proofs.Near.{located-near}
use Rattle.write_zeros.proofs.TwoZeros.{rice-applies, rice-sum}
use Rattle.write_offers.specs.Offers.{whole_bits}
use Rattle.write_offers.proofs.Offering.{fractional-form, far-unrowed}
use Rattle.write_offers.proofs.Choosing.{uncompressed-bits, constant-bits, minus-bits, plus-bits}

-- a Rice code has a one and S low bits, so that runs of anything at all have more bits than S
one-run : (s v : ℕ) (vs : List ℕ) → s < length (rice_forms s (v ∷ vs))
unfolding rice_forms
one-run s v vs = rw (length-append, length-rice_form) (omega arith)

runs-some : (s c : ℕ) (flags : List ℕ) → 1 ≤ c + length flags → s < length (rice_forms s (runs_of c flags))
unfolding runs_of
runs-some s zero [] h = absurd (omega arith)
runs-some s (suc c) [] h = one-run s (suc c) []
runs-some s c (zero ∷ flags) h = rw (runs-common c flags) (runs-some s (c + 1) flags (omega arith))
runs-some s c (suc f ∷ flags) h = rw (runs_other c f flags) (one-run s c (runs_of 0 flags))

pub least-some : (f : ℕ → ℕ) (best k more : ℕ) → 1 ≤ best → 1 ≤ k → 1 ≤ least_from f best k more
unfolding least_from
least-some f best k zero h g = h
least-some f best k (suc more) h g = least-some f (cond (ltb (f k) (f best)) k best) (k + 1) more (either (ltb (f k) (f best)))
    (omega arith)
  where
    either : (b : Bool) → 1 ≤ cond b k best
    either true = g
    either false = h

-- the code of S and S itself: at least three bits
pub code-some : (n s : ℕ) → 1 ≤ s → 3 ≤ length (code_of n s) + s
unfolding codes_of
code-some n zero h = absurd (omega arith)
code-some n (suc zero) h = go (eqb n 40) refl (eqb n 80) refl
  where
    go : (a : Bool) → eqb n 40 ≡ a → (b : Bool) → eqb n 80 ≡ b → 3 ≤ length (code_of n 1) + 1
    go true e b f = rw e (omega arith)
    go false e true f = rw (e, f) (omega arith)
    go false e false f = rw (e, f) (omega arith)
code-some n (suc (suc zero)) h = go (eqb n 40) refl (eqb n 80) refl
  where
    go : (a : Bool) → eqb n 40 ≡ a → (b : Bool) → eqb n 80 ≡ b → 3 ≤ length (code_of n 2) + 2
    go true e b f = rw e (omega arith)
    go false e true f = rw (e, f) (omega arith)
    go false e false f = rw (e, f) (omega arith)
code-some n (suc (suc (suc s))) h = omega arith

pub start-some : (n mark : ℕ) → 5 ≤ length (rice_code n mark)
start-some n mark = rw length-append
    (go (is_long n) (low_bits 4 (base_of n / 16)) (low_bits 2 (base_of n / 64)) (length-low_bits 4 (base_of n / 16))
    (length-low_bits 2 (base_of n / 64)))
  where
    go : (b : Bool) (u v : List ℕ) → length u ≡ 4 → length v ≡ 2
        → 5 ≤ length (cond b u v) + length (cond b (1 ∷ 0 ∷ mark ∷ []) (0 ∷ 1 ∷ mark ∷ []))
    go true u v e f = omega arith
    go false u v e f = omega arith

pub of_two : {A : Type 0} (P : A → Type 0) (a : Bool) {x y : A} → P x → P y → P (cond a x y)
of_two P true p q = p
of_two P false p q = q

-- whatever R' is
bits-some : (r n : ℕ) → 5 ≤ n → 9 ≤ 8 + bits_for r * (n / group_of r)
unfolding bits_for group_of
bits-some r n h = go (eqb r 2) (eqb r 4) (eqb r 3) (eqb r 5)
  where
    go : (a b c d : Bool) → 9 ≤ 8 + cond a 1 (cond b 2 (cond c 8 (cond d 12 13))) * (n / cond (a || b) 1 5)
    go true b c d = omega (arith, h)
    go false true c d = omega (arith, h)
    go false false true d = omega (arith, h)
    go false false false true = omega (arith, h)
    go false false false false = omega (arith, h)

module _ (mask : ℕ) (s : List ℕ) where
  rice-long : 1 ≤ length s → 9 ≤ length (rice_choice mask s)
  rice-long some =
      let S = best_s mask (mark_of mask s) s in
      let h : 1 ≤ S = least-some _ 1 2 _ (omega arith) (omega arith) in
      let fs = map (flag_of mask (mark_of mask s)) s in
      let r = runs-some S 0 fs (omega (arith, length-map s (flag_of mask (mark_of mask s)))) in
      rw (rice-sum mask s) (omega (arith, start-some (length s) (mark_of mask s), code-some (length s) S h, r))

  -- every form has a bit; those that are measured, and uncompressed, have more than an octet
  form-some : (t : ℕ) → 1 ≤ length (form_of mask t s)
  unfolding form_of located_form fractional_form rice_choice
  form-some t =
      let P : List ℕ → Type 0 = λ l. 1 ≤ length l in
      let six : 1 ≤ length (rice_choice mask s) =
      rw (length-append (rice_code (length s) (mark_of mask s)) _) (omega (arith, start-some (length s) (mark_of mask s))) in
      of_two P (eqb t 1) (rw (length-append, length-low_bits) (omega arith)) (of_two P (eqb t 2) (rw length-low_bits (omega arith))
      (of_two P (eqb t 3) (rw length-low_bits (omega arith)) (of_two P (eqb t 4) (rw (length-append, length-low_bits) (omega arith))
      (of_two P (eqb t 5) (rw (length-append, length-low_bits) (omega arith)) (of_two P (eqb t 6) six
      (of_two P (eqb t 11) (rw (length-append, length-low_bits) (omega arith)) (rw (length-append, length-low_bits) (omega arith))))))))

  pub among : (set : ℕ) (P : ℕ → Type 0) (t : ℕ) (ts : List ℕ) → P t → P (choose mask set s ts) → P (choose mask set s (t ∷ ts))
  unfolding choose
  among set P t ts p q =
      of_two P (holds set t && applies mask t s && leb (octets_of_form mask s t) (octets_of_form mask s (choose mask set s ts))) p q

  pub alone : (set : ℕ) (P : ℕ → Type 0) → P 1 → P (choose mask set s [])
  unfolding choose
  alone set P p = p

  -- five samples or more have a bit in tool 11's body
  row-long : 5 ≤ length s → 9 ≤ length (form_of mask 11 s)
  row-long some = rw (← (fractional-form mask s)) (bits-some (radix (row_number (frame_row mask s))) (length s) some)

  measured-long : (set : ℕ) → 5 ≤ length s → 9 ≤ length (form_of mask (choose mask set s measured) s)
  unfolding form_of located_form
  measured-long set some =
      let P : ℕ → Type 0 = λ t. 9 ≤ length (form_of mask t s) in
      among set P 5 _ (rw (length-append, length-low_bits, length-map) (omega arith))
      (among set P 6 _ (rice-long (omega arith))
      (among set P 7 _ (rw (length-append, length-low_bits, length-append, length-low_bits) (omega arith))
      (among set P 11 _ (row-long some)
      (alone set P (rw (length-append, length-low_bits, length-bits_of) (omega arith))))))

  module _ (set : ℕ) where
    -- a tool that is not taken, and one that is
    pub passed : (t : ℕ) (ts : List ℕ) → (holds set t && applies mask t s) ≡ false → choose mask set s (t ∷ ts) ≡ choose mask set s ts
    unfolding choose
    passed t ts e = rw e

    last : choose mask set s [] ≡ 1
    unfolding choose
    last = refl

    pub won : (t : ℕ) (ts : List ℕ) → (holds set t && applies mask t s) ≡ true
        → octets_of_form mask s t ≤ octets_of_form mask s (choose mask set s ts) → choose mask set s (t ∷ ts) ≡ t
    unfolding choose
    won t ts e h = rw (e, le-leb (octets_of_form mask s t) (octets_of_form mask s (choose mask set s ts)) h)

    pub plus-settled : (holds set 2 && applies mask 2 s) ≡ true → SettledTool mask set s (Some 2)
    plus-settled e = (
      sym (won 2 _ e (omega (arith, plus-bits mask s refl, form-some (choose mask set s (3 ∷ 4 ∷ measured))))),
      (omega arith, omega arith),
    )

    module _ (two : (holds set 2 && applies mask 2 s) ≡ false) where
      pub minus-settled : (holds set 3 && applies mask 3 s) ≡ true → SettledTool mask set s (Some 3)
      minus-settled e = (
        sym (passed 2 _ two ∙ won 3 _ e (omega (arith, minus-bits mask s refl, form-some (choose mask set s (4 ∷ measured))))),
        (omega arith, omega arith),
      )

      module _ (three : (holds set 3 && applies mask 3 s) ≡ false) where
        pub constant-settled : 5 ≤ length s → (holds set 4 && applies mask 4 s) ≡ true → SettledTool mask set s (Some 4)
        constant-settled some e = (
          sym (passed 2 _ two ∙ passed 3 _ three ∙ won 4 _ e (omega (arith, constant-bits mask s refl, measured-long set some))),
          (omega arith, omega arith),
        )

        -- where neither of the zeros' tools nor value-location applies, the last two of the order are left
        module _ (four : (holds set 4 && applies mask 4 s) ≡ false) where
          pub far-left : applies mask 6 s ≡ false → applies mask 7 s ≡ false → chosen_tool mask set s ≡ choose mask set s (11 ∷ [])
          far-left six seven =
              let five : applies mask 5 s ≡ false = rice-applies mask s ∙ six in
              let none : (t : ℕ) → applies mask t s ≡ false → (holds set t && applies mask t s) ≡ false =
              λ t e. rw e (and_zero (holds set t)) in
              passed 2 _ two ∙ passed 3 _ three ∙ passed 4 _ four ∙ passed 5 _ (none 5 five) ∙ passed 6 _ (none 6 six)
              ∙ passed 7 _ (none 7 seven)

          pub unsettled : (near (least_of mask s) (greatest_of mask s) ≡ false → applies mask 6 s ≡ false) → SettledTool mask set s None
          unsettled six =
              record {
                later = passed 2 _ two ∙ passed 3 _ three ∙ passed 4 _ four;
                far = λ far. far-left (six far) (located-near mask s far);
              }

          pub spread-settled : applies mask 6 s ≡ false → applies mask 7 s ≡ false → (holds set 11 && applies mask 11 s) ≡ false
              → SettledTool mask set s (Some 1)
          spread-settled six seven eleven = (sym (far-left six seven ∙ passed 11 _ eleven ∙ last), (omega arith, omega arith))

-- a frame of one value
head-passes : (p : ℕ → Bool) (x : ℕ) (s : List ℕ) → every p (x ∷ s) ≡ true → p x ≡ true
unfolding count_of
head-passes p x s h = step (p x) refl (eqb-true _ _ h)
  where
    step : (b : Bool) → p x ≡ b → cond (p x) 1 0 + count_of p s ≡ suc (length s) → p x ≡ true
    step true e f = e
    step false e f = absurd (omega (arith, rw e at f, count-le p s))

pub one_value : (y first : ℕ) (s : List ℕ) → 1 ≤ length s → first ≡ get_or s 0 0 → every (λ x. eqb x first) s ≡ true
    → every (λ x. eqb x y) s ≡ eqb first y
one_value y first [] h e a = absurd (omega arith)
one_value y first (x ∷ s) h e a = go (eqb x y) refl (every (λ z. eqb z y) (x ∷ s)) refl
  where
    go : (b : Bool) → eqb x y ≡ b → (t : Bool) → every (λ z. eqb z y) (x ∷ s) ≡ t → every (λ z. eqb z y) (x ∷ s) ≡ eqb first y
    go b f true g = g ∙ sym (ap (λ (k : ℕ). eqb k y) e ∙ head-passes (λ z. eqb z y) x s g)
    go true f false g = absurd (never (sym g ∙ ap (λ (k : ℕ). every (λ z. eqb z k) (x ∷ s)) (sym (e ∙ eqb-true x y f)) ∙ a))
    go false f false g = g ∙ sym (ap (λ (k : ℕ). eqb k y) e ∙ f)

-- and one of several
pub none-value : (y first : ℕ) (s : List ℕ) → 1 ≤ length s → first ≡ get_or s 0 0 → every (λ x. eqb x first) s ≡ false
    → every (λ x. eqb x y) s ≡ false
none-value y first [] h e a = absurd (omega arith)
none-value y first (x ∷ s) h e a = go (every (λ z. eqb z y) (x ∷ s)) refl
  where
    go : (t : Bool) → every (λ z. eqb z y) (x ∷ s) ≡ t → every (λ z. eqb z y) (x ∷ s) ≡ false
    go true g =
        absurd (never (sym a ∙ ap (λ (k : ℕ). every (λ z. eqb z k) (x ∷ s)) (e ∙ eqb-true x y (head-passes (λ z. eqb z y) x s g)) ∙ g))
    go false g = g

-- the zeros are nearer still
zeros-near : {mask first : ℕ} {s : List ℕ} {l : Spread} → SpreadIs mask first s l → ltb (l.any % 128) 2 ≡ false → applies mask 6 s ≡ false
unfolding applies
zeros-near {l = l} t far = sym t.zeros ∙ ne_eqb (l.any % 128) 0 (λ z. omega (arith, z, ltb-false (l.any % 128) 2 far))

-- a frame that no tool of one value takes
pub record NoValue (mask set : ℕ) (s : List ℕ) : Type 0 where
  pub two : (holds set 2 && applies mask 2 s) ≡ false
  pub three : (holds set 3 && applies mask 3 s) ≡ false
  pub four : (holds set 4 && applies mask 4 s) ≡ false

-- one whose samples are not all equal
pub several : {mask first : ℕ} {s : List ℕ} {l : Spread} (set : ℕ) → 1 ≤ length s → first ≡ get_or s 0 0 → SpreadIs mask first s l
    → (l.any ≡ l.all → ⊥) → NoValue mask set s
unfolding applies
several {mask} {first} {s} {l} set some e t differ =
    record { two = none 2 (plus_zero mask); three = none 3 (minus_zero mask); four = none 4 (get_or s 0 0) }
  where
    none : (t y : ℕ) → (holds set t && every (λ x. eqb x y) s) ≡ false
    none n y = rw (none-value y first s some e (sym t.same ∙ ne_eqb l.any l.all differ)) (and_zero (holds set n))

-- what is said of it: its samples are near, or tool 11 may apply, or only uncompressed applies
pub spread : {mask set first : ℕ} {r : Option ℕ} {s : List ℕ} {l : Spread} → NoValue mask set s → SpreadIs mask first s l
    → r ≡ cond (ltb (l.any % 128) 2) None (cond (ltb (l.any % 128) 4 && holds set 11) None (Some 1)) → SettledTool mask set s r
spread {mask} {set} {first} {r} {s} {l} v t told = rw told (go (ltb (l.any % 128) 2) refl (ltb (l.any % 128) 4) refl (holds set 11) refl)
  where
    six : near (least_of mask s) (greatest_of mask s) ≡ false → applies mask 6 s ≡ false
    six far = zeros-near t (t.close ∙ far)

    settled : near (least_of mask s) (greatest_of mask s) ≡ false → (holds set 11 && applies mask 11 s) ≡ false → SettledTool mask set s (Some 1)
    settled far eleven = spread-settled mask s set v.two v.three v.four (six far) (located-near mask s far) eleven

    go : (a : Bool) → ltb (l.any % 128) 2 ≡ a → (b : Bool) → ltb (l.any % 128) 4 ≡ b → (h : Bool) → holds set 11 ≡ h
        → SettledTool mask set s (cond a None (cond (b && h) None (Some 1)))
    go true e b f h g = unsettled mask s set v.two v.three v.four six
    go false e true f true g = unsettled mask s set v.two v.three v.four six
    go false e true f false g = settled (sym t.close ∙ e) (ap (λ (h : Bool). h && applies mask 11 s) g)
    go false e false f h g = settled (sym t.close ∙ e) (rw (far-unrowed mask s (sym t.about ∙ f)) (and_zero (holds set 11)))

-- what is said of a frame of one value
pub record OneValue (mask set first : ℕ) (s : List ℕ) : Type 0 where
  pub some : 5 ≤ length s
  pub two : (holds set 2 && applies mask 2 s) ≡ (holds set 2 && eqb first (plus_zero mask))
  pub three : (holds set 3 && applies mask 3 s) ≡ (holds set 3 && eqb first (minus_zero mask))
  pub four : (holds set 4 && applies mask 4 s) ≡ holds set 4

and-true : (b : Bool) → (b && true) ≡ b
and-true true = refl
and-true false = refl

pub one_of : {mask first : ℕ} {s : List ℕ} {l : Spread} (set : ℕ) → 5 ≤ length s → first ≡ get_or s 0 0 → SpreadIs mask first s l
    → l.any ≡ l.all → OneValue mask set first s
unfolding applies
one_of {mask} {first} {s} {l} set some e t equal =
    let all : every (λ x. eqb x first) s ≡ true = sym t.same ∙ eq-eqb l.any l.all equal in
    record {
      some = some;
      two = ap (λ (b : Bool). holds set 2 && b) (one_value (plus_zero mask) first s (omega arith) e all);
      three = ap (λ (b : Bool). holds set 3 && b) (one_value (minus_zero mask) first s (omega arith) e all);
      four = ap (λ (b : Bool). holds set 4 && b) (ap (λ (k : ℕ). every (λ x. eqb x k) s) (sym e) ∙ all) ∙ and-true (holds set 4);
    }

module _ {mask set first : ℕ} {r : Option ℕ} {s : List ℕ} (o : OneValue mask set first s) (told : r ≡ value_tool mask set first) where
  pub value-settled : {t : ℕ} → r ≡ Some t → SettledTool mask set s (Some t)
  value-settled {t} held =
      go (holds set 2 && eqb first (plus_zero mask)) (holds set 3 && eqb first (minus_zero mask)) (holds set 4)
      o.two o.three o.four (sym held ∙ told)
    where
      at_tool : (k : ℕ) → Some t ≡ Some k → SettledTool mask set s (Some k) → SettledTool mask set s (Some t)
      at_tool k n p = let e : t ≡ k = cc in rw e p

      go : (a b c : Bool) → (holds set 2 && applies mask 2 s) ≡ a → (holds set 3 && applies mask 3 s) ≡ b
          → (holds set 4 && applies mask 4 s) ≡ c
          → Some t ≡ cond a (Some 2) (cond b (Some 3) (cond c (Some 4) None)) → SettledTool mask set s (Some t)
      go true b c e f g n = at_tool 2 n (plus-settled mask s set e)
      go false true c e f g n = at_tool 3 n (minus-settled mask s set e f)
      go false false true e f g n = at_tool 4 n (constant-settled mask s set e f o.some g)
      go false false false e f g n = cc

  pub value-lacks : r ≡ None → NoValue mask set s
  value-lacks none =
      go (holds set 2 && eqb first (plus_zero mask)) (holds set 3 && eqb first (minus_zero mask)) (holds set 4) o.two
      o.three o.four (sym told ∙ none)
    where
      go : (a b c : Bool) → (holds set 2 && applies mask 2 s) ≡ a → (holds set 3 && applies mask 3 s) ≡ b
          → (holds set 4 && applies mask 4 s) ≡ c
          → ◌≡◌ {A = Option ℕ} (cond a (Some 2) (cond b (Some 3) (cond c (Some 4) None))) None → NoValue mask set s
      go true b c e f g z = cc
      go false true c e f g z = cc
      go false false true e f g z = cc
      go false false false e f g z = record { two = e; three = f; four = g }

-- a test against a zero, said of the zero that is meant
pub for-zero : (set t first : ℕ) {y z : ℕ} {r : Bool} → r ≡ (holds set t && eqb first y) → y ≡ z → (holds set t && eqb first z) ≡ r
for-zero set t first e f = sym (e ∙ ap (λ (k : ℕ). holds set t && eqb first k) f)

-- the bits of a tool that is settled
whole-bits : (mask t : ℕ) (s : List ℕ) {n : ℕ} → length s ≡ n → 1 ≤ t → t ≤ 4
    → whole_bits t n ≡ length (form_of mask t s)
whole-bits mask zero s size h k = absurd (omega arith)
whole-bits mask (suc zero) s size h k = uncompressed-bits mask s size
whole-bits mask (suc (suc zero)) s size h k = plus-bits mask s size
whole-bits mask (suc (suc (suc zero))) s size h k = minus-bits mask s size
whole-bits mask (suc (suc (suc (suc zero)))) s size h k = constant-bits mask s size
whole-bits mask (suc (suc (suc (suc (suc t))))) s size h k = absurd (omega arith)

whole-few : (t n : ℕ) → n ≤ 320 → whole_bits t n ≤ 1000000000
whole-few t n h = of_two (λ b. b ≤ 1000000000) (eqb t 1) (omega arith) (of_two (λ b. b ≤ 1000000000) (eqb t 4) (omega arith) (omega arith))

pub settled-chosen : {mask set t b n : ℕ} {s : List ℕ} → SettledTool mask set s (Some t) → length s ≡ n → n ≤ 320
    → b ≡ whole_bits t n → (Chosen mask set s (record { tool = t; bits = b })) × ((1 ≤ t) × (t ≤ 4))
settled-chosen {mask} {set} {t} {b} {n} {s} p size few told = (
  record {
    tool = p.0;
    bits = told ∙ whole-bits mask t s size p.1.0 p.1.1 ∙ ap (λ (k : ℕ). length (form_of mask k s)) p.0;
    small = rw told (whole-few t n few);
  },
  p.1,
)
