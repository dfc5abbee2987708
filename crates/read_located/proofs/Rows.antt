-- The rows of the table of range cases, as octets.
use Prim.Native.Nat.{ℕ, ◌+◌, ◌-◌, ◌/◌, ◌%◌, ◌≤◌, ◌<◌}
use mathlib.Core.Path.{◌≡◌, refl, sym, ap, subst, ◌∙◌}
use mathlib.Core.List.{List, [], map}
use mathlib.Core.Bool.{Bool, true, false, cond}
use native.Mathlib.Omega.{arith}
use lib.Dec.{eqb, leb}
use lib.Bits.{bit_xor, xor_step, xor_zero_l}
use lib.IntN.{ℤ, pos, negsuc}
use lib.ListN.{length, take, replicate, length-map}
use lib.Seq.{length-take-le}
use borrow.Author.Tests.{eq-eqb, ne_eqb, le-leb, lt-leb}
use Rattle.rules.specs.declared.Refusal.TheVariants.{Case}
use Rattle.rules.specs.Reading.{whole, refuse, number_from}
use Rattle.rules.specs.Samples.{sample_of}
use Rattle.rules.specs.Located.{RangeCase, case0, case1, case2, case3, case_of, row_values, values_of, values_into, located}
use Rattle.rules.proofs.Signed.{plus-zero}
use Rattle.rules.proofs.Accepted.{by-case}
use Rattle.read_bits.specs.Outcomes.{Outcome}
use Rattle.read_bodies.specs.Bodied.{FillsBody}
use Rattle.read_located.specs.declared.Row.{Row}
use Rattle.read_located.specs.Valued.{Apart, RowOf, LaysCells}
use Rattle.read_located.proofs.InTurn.{lays-body}

xor-odd : (mask : ℕ) → mask % 2 ≡ 1 → bit_xor 1 mask ≡ mask - 1
xor-odd mask h = xor_step 1 mask ∙ rw h (omega (arith, xor_zero_l (mask / 2)))

-- the octets of 1, -1 and -2
pub record Three (mask : ℕ) : Type 0 where
  pub one : sample_of mask (pos 1) ≡ 127 + mask
  pub minus : sample_of mask (negsuc 0) ≡ mask
  pub less : sample_of mask (negsuc 1) ≡ mask - 1

pub three : (mask : ℕ) → mask % 2 ≡ 1 → Three mask
unfolding sample_of
three mask h =
    let e = xor-odd mask h in
    record { one = rw e (omega arith); minus = xor_zero_l mask; less = e }

-- none of them is plus zero
row_apart : (mask : ℕ) (r : RangeCase) → Apart (128 + mask) (map (sample_of mask) r.flag1)
    → Apart (128 + mask) (map (sample_of mask) r.flag0) → (n flag : ℕ)
    → Apart (128 + mask) (map (sample_of mask) (row_values r n flag))
row_apart mask r p q n flag = go (leb r.from n) (eqb flag 1)
  where
    go : (x y : Bool) → Apart (128 + mask) (map (sample_of mask) (cond x (cond y r.flag1 r.flag0) []))
    go true true = p
    go true false = q
    go false y = tt

pub values-apart : (mask : ℕ) → mask % 2 ≡ 1 → mask < 128 → (n c flag : ℕ) → Apart (128 + mask) (map (sample_of mask) (values_of n c flag))
unfolding values_of
values-apart mask h l n c flag =
    let t = three mask h in
    let a : eqb (sample_of mask (pos 1)) (128 + mask) ≡ false = rw t.one (ne_eqb (127 + mask) (128 + mask) (λ e. omega arith)) in
    let b : eqb (sample_of mask (negsuc 0)) (128 + mask) ≡ false = rw t.minus (ne_eqb mask (128 + mask) (λ e. omega arith)) in
    let d : eqb (sample_of mask (negsuc 1)) (128 + mask) ≡ false = rw t.less (ne_eqb (mask - 1) (128 + mask) (λ e. omega arith)) in
    by-case (λ r. Apart (128 + mask) (map (sample_of mask) (row_values r n flag)))
    (row_apart mask case0 (a, (b, (d, tt))) (b, (a, (d, tt))) n flag)
    (row_apart mask case1 (a, (b, tt)) (b, (a, tt)) n flag)
    (row_apart mask case2 tt (b, (d, tt)) n flag)
    (row_apart mask case3 (a, tt) tt n flag)
    c

-- the case by its number
pub is-case0 : (c : ℕ) → c ≡ 0 → case_of c ≡ case0
unfolding case_of
is-case0 c h = rw (eq-eqb c 0 h)

pub is-case1 : (c : ℕ) → c ≡ 1 → case_of c ≡ case1
unfolding case_of
is-case1 c h = rw (ne_eqb c 0 (λ e. omega arith), eq-eqb c 1 h)

pub is-case2 : (c : ℕ) → c ≡ 2 → case_of c ≡ case2
unfolding case_of
is-case2 c h = rw (ne_eqb c 0 (λ e. omega arith), ne_eqb c 1 (λ e. omega arith), eq-eqb c 2 h)

pub is-case3 : (c : ℕ) → 2 < c → case_of c ≡ case3
unfolding case_of
is-case3 c h = rw (ne_eqb c 0 (λ e. omega arith), ne_eqb c 1 (λ e. omega arith), ne_eqb c 2 (λ e. omega arith))

-- the values of a row, by its case
module _ (n c flag : ℕ) where
  module _ (r : RangeCase) (e : case_of c ≡ r) where
    pub too_short : n < r.from → values_of n c flag ≡ []
    unfolding values_of
    too_short h = rw (e, lt-leb r.from n h)

    pub with-flag : r.from ≤ n → flag ≡ 1 → values_of n c flag ≡ r.flag1
    unfolding values_of
    with-flag h f = rw (e, le-leb r.from n h, eq-eqb flag 1 f)

    pub without-flag : r.from ≤ n → (flag ≡ 1 → ⊥) → values_of n c flag ≡ r.flag0
    unfolding values_of
    without-flag h f = rw (e, le-leb r.from n h, ne_eqb flag 1 f)

  -- no row has a frame of fewer than 80
  pub no_row : n < 80 → values_of n c flag ≡ []
  no_row h = by-case (λ r. case_of c ≡ r → values_of n c flag ≡ [])
      (λ e. too_short case0 e (omega arith)) (λ e. too_short case1 e (omega arith)) (λ e. too_short case2 e (omega arith))
      (λ e. too_short case3 e (omega arith)) c refl

module _ (mask : ℕ) {values vs : List ℤ} (e : values ≡ vs) where
  pub row_as : {xs : List ℕ} {r : Row} → map (sample_of mask) vs ≡ xs → RowOf xs r → RowOf (map (sample_of mask) values) r
  row_as f t = rw (e, f) t

  pub none-as : vs ≡ [] → map (sample_of mask) values ≡ []
  none-as f = rw (e, f)

-- "range case (2 bits), flag (1 bit), then the values": CASE where there are none
module _ (mask n : ℕ) (bits : List ℕ) (at : ℕ) {c second flag first : ℕ} (e : number_from 0 2 bits at ≡ whole c second)
    (f : number_from 0 1 bits second ≡ whole flag first) where
  pub no-values : map (sample_of mask) (values_of n c flag) ≡ [] → located mask n bits at ≡ refuse Case at
  unfolding located
  no-values h =
      let s = length-map (values_of n c flag) (sample_of mask) in
      let z : length (map (sample_of mask) (values_of n c flag)) ≡ 0 = ap length h in
      rw (e, f, eq-eqb (length (values_of n c flag)) 0 (omega arith))

  module _ {r : Row} (t : RowOf (map (sample_of mask) (values_of n c flag)) r) where
    pub row-length : length (take r.count r.octets) ≡ r.count
    row-length = length-take-le r.count r.octets (omega (arith, t.few, t.room))

    pub some-filled : {near far : ℕ} {old new : List ℕ} {o : Outcome}
        → LaysCells (values_into n (128 + mask) (take r.count r.octets) (replicate n (128 + mask)) bits first) n near old new o
        → n ≤ 320 → near ≤ far → FillsBody (located mask n bits at) far old new o
    unfolding located
    some-filled l k m =
        let s : length (values_of n c flag) ≡ r.count =
        sym (length-map (values_of n c flag) (sample_of mask)) ∙ ap length (sym t.values) ∙ row-length
        in
        lays-body l (rw (e, f, ne_eqb (length (values_of n c flag)) 0 (λ z. omega (arith, t.some)), plus-zero mask, t.values)) k m

pub apart-as : (z : ℕ) {xs : List ℕ} {r : Row} → RowOf xs r → Apart z xs → Apart z (take r.count r.octets)
apart-as z t a = subst (λ (l : List ℕ). Apart z l) (sym t.values) a
