-- A row is told by its key.
use Prim.Native.Nat.{ℕ, suc, ◌+◌, ◌*◌, ◌-◌, ◌≤◌, ◌<◌}
use mathlib.Core.Path.{◌≡◌, refl, sym, ap, ◌∙◌}
use mathlib.Core.Bool.{Bool, true, false, ◌&&◌}
use native.Mathlib.Omega.{arith}
use borrow.Author.Tests.{eqb-true, eq-eqb, ltb-true}
use mir.Val.{bool_byte}
use Rattle.std.proofs.Common.{Some, None}
use lib.Dec.{eqb, ltb}
use Rattle.write_scan.proofs.Rows.{test_byte}
use Rattle.rules.proofs.Tests.{and_left, and_right, all_below-at}
use Rattle.rules.specs.Fractional.{values_at, least_at, greatest_at, minus_at}
use Rattle.rules.specs.Chooses.{same_test, is_row_of, row_from}
use Rattle.write_fractional.specs.Keys.{key_of, row_key, row_in}

greatest-small : (k : ℕ) → k < 12 → greatest_at k < 256
unfolding values_at
greatest-small k h = ltb-true (greatest_at k) 256 (all_below-at (λ k. ltb (greatest_at k) 256) 12 refl k h)

told : (l g : ℕ) (m : Bool) (l' g' : ℕ) (m' : Bool) → g < 256 → g' < 256 → key_of l g m ≡ key_of l' g' m'
    → eqb l l' && eqb g g' && same_test m m' ≡ true
told l g true l' g' true h k e = let x : l ≡ l' = omega arith in let y : g ≡ g' = omega arith in rw (eq-eqb l l' x, eq-eqb g g' y)
told l g false l' g' false h k e = let x : l ≡ l' = omega arith in let y : g ≡ g' = omega arith in rw (eq-eqb l l' x, eq-eqb g g' y)
told l g true l' g' false h k e = absurd (let x : 512 * l + 2 * g + 1 ≡ 512 * l' + 2 * g' + 0 = e in omega arith)
told l g false l' g' true h k e = absurd (let x : 512 * l + 2 * g + 0 ≡ 512 * l' + 2 * g' + 1 = e in omega arith)

same-is : (a b : Bool) → same_test a b ≡ true → a ≡ b
same-is true b e = sym e
same-is false true e = e
same-is false false e = refl

untold : (l g : ℕ) (m : Bool) (l' g' : ℕ) (m' : Bool) (b : Bool) → eqb l l' && eqb g g' && same_test m m' ≡ b
    → (key_of l g m ≡ key_of l' g' m' → ⊥) → b ≡ false
untold l g m l' g' m' false e n = refl
untold l g m l' g' m' true e n =
    let u = and_left (eqb l l' && eqb g g') (same_test m m') e in
    let a : l ≡ l' = eqb-true l l' (and_left (eqb l l') (eqb g g') u) in
    let b : g ≡ g' = eqb-true g g' (and_right (eqb l l') (eqb g g') u) in
    let c : m ≡ m' = same-is m m' (and_right (eqb l l' && eqb g g') (same_test m m') e) in
    absurd (n (rw (a, b, c)))

pub record Finding (l g : ℕ) (m : Bool) (count k : ℕ) : Type 0 where
  pub says : row_from l g m 0 count ≡ row_from l g m k (count - k)
  pub within : k ≤ count

module _ {l g : ℕ} {m : Bool} {count k : ℕ} (t : Finding l g m count k) (small : g < 256) (few : count ≤ 12) where
  pub finding-hit : k < count → row_key k ≡ key_of l g m → Some k ≡ row_in (row_from l g m 0 count)
  unfolding row_from row_key
  finding-hit h e =
      let n : count - k ≡ suc (count - (k + 1)) = omega arith in
      let r = told l g m (least_at k) (greatest_at k) (minus_at k) small (greatest-small k (omega arith)) (sym e) in
      sym (ap row_in t.says ∙ rw (n, r))

  pub finding-miss : k < count → (row_key k ≡ key_of l g m → ⊥) → Finding l g m count (k + 1)
  unfolding row_from row_key
  finding-miss h e =
      let n : count - k ≡ suc (count - (k + 1)) = omega arith in
      let r = untold l g m (least_at k) (greatest_at k) (minus_at k) (is_row_of l g m k) refl (λ z. e (sym z)) in
      record { says = t.says ∙ rw (n, r); within = omega arith }

  pub finding-end : count ≤ k → None ≡ row_in (row_from l g m 0 count)
  unfolding row_from
  finding-end h =
      let n : count - k ≡ 0 = omega arith in
      sym (ap row_in t.says ∙ rw n refl)

pub key-told : {a b f l g : ℕ} (m : Bool) → a ≡ l → b ≡ g → f ≡ bool_byte m → 512 * a + 2 * b + f ≡ key_of l g m
key-told m x y z = rw (x, y, z, test_byte m)
