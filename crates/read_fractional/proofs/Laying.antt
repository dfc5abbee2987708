-- The digits of a number laid as samples, one by one.
use Prim.Native.Nat.{ℕ, suc, ◌+◌, ◌*◌, ◌-◌, ◌/◌, ◌%◌, ◌≤◌, ◌<◌}
use mathlib.Core.Path.{◌≡◌, refl, sym, ap, ◌∙◌}
use mathlib.Core.List.{List, [], ◌∷◌, ◌++◌, map, map-append, append_assoc, append-nil}
use native.Mathlib.Omega.{arith}
use native.Mathlib.Nat.{mod-lt, mod_def, mul-div-le, div-le_self}
use lib.ListN.{length, get_or, set, length-map, length-append}
use Rattle.read_runs.specs.Flagged.{Put}
use Rattle.read_runs.proofs.Puts.{put-none, put_one, put_then, put-length}
use Rattle.rules.specs.Fractional.{digits_of}

pub div-as : (v : ℕ) {r k : ℕ} → r ≡ k → v / k ≡ v / r
div-as v e = rw e

-- a digit, as the code has it
pub digit-whole : (r v : ℕ) {q : ℕ} → q ≡ v / r → r * q ≤ v
digit-whole r v e = rw e (mul-div-le v r)

pub digit-is : (r v : ℕ) {q : ℕ} → q ≡ v / r → v - r * q ≡ v % r
digit-is r v e = rw e (sym (mod_def v r))

pub digit-small : (r v : ℕ) {q : ℕ} → q ≡ v / r → 2 ≤ r → v - r * q < r
digit-small r v e h = rw (digit-is r v e) (mod-lt v (omega arith))

pub record Laying (values : List ℕ) (r g v : ℕ) (old : List ℕ) (from j left : ℕ) (new : List ℕ) : Type 0 where
  pub done : List ℕ
  pub says : done ++ digits_of r (g - j) left ≡ digits_of r g v
  pub size : length done ≡ j
  pub put : Put old from (map (λ d. get_or values d 0) done) new
  pub room : length new ≡ 320
  pub within : j ≤ g
  pub small : left ≤ v

pub laying-none : (values : List ℕ) (r g v : ℕ) (old : List ℕ) (from : ℕ) → length old ≡ 320 → Laying values r g v old from 0 v old
laying-none values r g v old from h =
    record {
      done = [];
      says = ap (λ (k : ℕ). digits_of r k v) (omega arith);
      size = refl;
      put = put-none old from;
      room = h;
      within = omega arith;
      small = omega arith;
    }

module _ {values : List ℕ} {r g v : ℕ} {old : List ℕ} {from j left : ℕ} {new : List ℕ} (t : Laying values r g v old from j left new) where
  pub laying-turn : {q x : ℕ} → length old ≡ 320 → from + g ≤ 320 → j < g → q ≡ left / r → x ≡ get_or values (left - r * q) 0
      → Laying values r g v old from (j + 1) q (set new (from + j) x)
  unfolding digits_of
  laying-turn {q} {x} l k h e y =
      let d : List ℕ = t.done in
      let f : ℕ → ℕ = λ m. get_or values m 0 in
      let n : g - j ≡ suc (g - (j + 1)) = omega arith in
      let s : d ++ digits_of r (suc (g - (j + 1))) left ≡ digits_of r g v = rw n at t.says in
      let m = length-map d f in
      let z = t.size in
      let w = t.room in
      let one = put_one new (from + j) x (omega arith) in
      let both : map f d ++ (x ∷ []) ≡ map f (d ++ (left % r ∷ [])) = rw (y, digit-is r left e) (sym (map-append f d (left % r ∷ []))) in
      record {
        done = d ++ (left % r ∷ []);
        says = rw e (append_assoc d (left % r ∷ []) (digits_of r (g - (j + 1)) (left / r)) ∙ s);
        size = length-append d (left % r ∷ []) ∙ omega arith;
        put = put_then t.put (omega arith) (omega arith) one both;
        room = put-length one (omega arith) ∙ w;
        within = omega arith;
        small = rw e (omega (arith, div-le_self left r, t.small));
      }

  pub laying-all : g ≤ j → Put old from (map (λ d. get_or values d 0) (digits_of r g v)) new
  unfolding digits_of
  laying-all h =
      let n : g - j ≡ 0 = omega arith in
      let s : t.done ++ [] ≡ digits_of r g v = rw n at t.says in
      rw (sym s, append-nil) t.put
