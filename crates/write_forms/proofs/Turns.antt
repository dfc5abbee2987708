-- Laws of the values of a row in turn.
use Prim.Native.Nat.{ℕ, zero, suc, ◌+◌, ◌≤◌}
use mathlib.Core.Path.{◌≡◌, refl, sym, ap, ◌∙◌}
use mathlib.Core.List.{List, [], ◌∷◌, ◌++◌, append-nil}
use native.Mathlib.Omega.{arith}
use borrow.Author.Tests.{ne_eqb}
use lib.ListN.{length, take, length-append}
use Rattle.rules.specs.Chooses.{value_form, values_form}
use Rattle.write_located.specs.declared.Way.{Way}
use Rattle.write_located.specs.declared.Located.{Located}
use Rattle.write_located.specs.Ways.{WayOf}
use Rattle.write_located.specs.Rows.{values_in, LocatedIs}
use Rattle.write_forms.specs.Ways.{way_of, WayPlanned}
use Rattle.write_forms.specs.Forms.{values_form_of, LocatedReady}
use Rattle.write_forms.proofs.Ways.{way-form, way-ready}

module _ (r : Located) (a b c : List ℕ) where
  -- one, two and three values
  pub values_one : r.count ≡ 1 → way_of r.first a ≡ values_form_of r a b c
  unfolding values_form_of
  values_one e = rw e (sym (append-nil _))

  pub values-two : r.count ≡ 2 → way_of r.first a ++ way_of r.second b ≡ values_form_of r a b c
  unfolding values_form_of
  values-two e = rw e (ap (λ (l : List ℕ). way_of r.first a ++ l) (sym (append-nil _)))

  pub values-three : (r.count ≡ 1 → ⊥) → (r.count ≡ 2 → ⊥)
      → way_of r.first a ++ (way_of r.second b ++ way_of r.third c) ≡ values_form_of r a b c
  unfolding values_form_of
  values-three n m = rw (ne_eqb r.count 1 n, ne_eqb r.count 2 m)

  -- room for them
  pub first_fits : length (way_of r.first a) ≤ length (values_form_of r a b c)
  unfolding values_form_of
  first_fits = rw (length-append (way_of r.first a) _) (omega arith)

  pub second_fits : (r.count ≡ 1 → ⊥) → length (way_of r.first a) + length (way_of r.second b) ≤ length (values_form_of r a b c)
  unfolding values_form_of
  second_fits n = rw (ne_eqb r.count 1 n, length-append (way_of r.first a) _, length-append (way_of r.second b) _) (omega arith)

  pub third-fits : (r.count ≡ 1 → ⊥) → (r.count ≡ 2 → ⊥)
      → length (way_of r.first a) + length (way_of r.second b) + length (way_of r.third c) ≤ length (values_form_of r a b c)
  third-fits n m =
      let e = sym (ap length (values-three n m)) ∙ length-append (way_of r.first a) (way_of r.second b ++ way_of r.third c) in
      omega (arith, e, length-append (way_of r.second b) (way_of r.third c))

-- a value as planned is the value's form
way-is : {flags runs : List ℕ} {w : Way} → WayOf flags w runs → way_of w runs ≡ value_form flags
way-is o = way-form (sym o.found.says) o.flagged o.way.method

way-planned : {flags runs : List ℕ} {w : Way} → WayOf flags w runs → WayPlanned w runs
way-planned o = record
    { few = o.found.few; size = o.found.size; ready = way-ready (sym o.found.says) o.flagged o.way.method }

module _ {mask : ℕ} {s : List ℕ} {r : Located} {a b c : List ℕ} (p : LocatedIs mask s r a b c) where
  pub located-ready : LocatedReady r a b c
  located-ready =
      record {
        row = p.low;
        flag = p.mark;
        values = record {
          first = way-planned p.first;
          second = λ n. way-planned (p.second (omega (arith, p.some)));
          third = λ n m. way-planned (p.third (omega (arith, p.some)));
        };
      }

  pub located-values : values_form_of r a b c ≡ values_form (values_in mask s) s
  unfolding values_form
  located-values = rw p.values (go r.count refl p.some p.few)
    where
      xs : List ℕ
      xs = p.x ∷ p.y ∷ p.z ∷ []

      go : (k : ℕ) → r.count ≡ k → 1 ≤ k → k ≤ 3 → values_form_of r a b c ≡ values_form (take k xs) s
      go zero e h l = absurd (omega arith)
      go (suc zero) e h l = sym (values_one r a b c e) ∙ way-is p.first ∙ sym (append-nil _)
      go (suc (suc zero)) e h l =
          sym (values-two r a b c e) ∙ rw (way-is p.first, way-is (p.second (omega arith)), append-nil)
      go (suc (suc (suc zero))) e h l =
          let one : r.count ≡ 1 → ⊥ = λ k. absurd (omega arith) in
          let two : r.count ≡ 2 → ⊥ = λ k. absurd (omega arith) in
          sym (values-three r a b c one two)
          ∙ rw (way-is p.first, way-is (p.second (omega arith)), way-is (p.third (omega arith)), append-nil)
      go (suc (suc (suc (suc k)))) e h l = absurd (omega arith)
