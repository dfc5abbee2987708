-- Tool 7, value-location: its form is read back, for every frame that it applies to.
use Prim.Native.Nat.{ℕ, suc, ◌+◌, ◌≤◌}
use native.Mathlib.Omega.{arith}
use mathlib.Core.Path.{◌≡◌, refl, sym, ap, ap₂, ◌∙◌}
use mathlib.Core.List.{List, [], ◌∷◌, ◌++◌, append_assoc}
use mathlib.Core.Bool.{Bool, true, false, cond, not, ◌||◌}
use lib.ListN.{length, get_or, replicate, length-map}
use lib.Dec.{eqb}
use borrow.Author.Tests.{eq-eqb, eqb-true, not-true}
use Rattle.rules.specs.Bits.{low_bits}
use Rattle.rules.specs.Located.{empty_in, lay, values_into}
use Rattle.rules.specs.Chooses.{flags_for, without, method_of, method_form, value_form, values_form}
use Rattle.rules.proofs.Octets.{Below}
use Rattle.rules.proofs.Each.{Each, nothing, next, each_map, or-false, pick-below, below-map}
use Rattle.promises.proofs.Back.{Back, back-give, back-bind, back-here, back_as, back-number}
use Rattle.promises.proofs.Methods.{fits-small, back-method, fits-chosen}

-- what is left, put into the empty cells in turn, is the frame
pub data Fills (z : ℕ) : List ℕ → List ℕ → List ℕ → Type 0 where
  filled : Fills z [] [] []
  empty : {a : ℕ} {left cells s : List ℕ} → Fills z left cells s → Fills z (a ∷ left) (z ∷ cells) (a ∷ s)
  full : {y : ℕ} {left cells s : List ℕ} → eqb y z ≡ false → Fills z left cells s → Fills z left (y ∷ cells) (y ∷ s)

pub fills-start : (z : ℕ) (s : List ℕ) → Fills z s (replicate (length s) z) s
fills-start z [] = filled
fills-start z (a ∷ s) = empty (fills-start z s)

fills-empty : {z : ℕ} {left cells s : List ℕ} → Fills z left cells s → empty_in z cells ≡ length left
unfolding empty_in
fills-empty filled = refl
fills-empty {z} (empty t) = let e = fills-empty t in rw (eq-eqb z z refl) (omega arith)
fills-empty (full h t) = let e = fills-empty t in rw h (omega arith)

-- what is left are zeros
fills-end : {z : ℕ} {left cells s : List ℕ} → Fills z left cells s → Each (λ y. eqb y z) left → cells ≡ s
fills-end filled h = refl
fills-end {z} (empty {a = a} t) (next e h) = ap₂ ◌∷◌ (sym (eqb-true a z e)) (fills-end t h)
fills-end (full {y = y} g t) h = ap (λ l. y ∷ l) (fills-end t h)

-- a flag in front moves the places on by one
pub lay-on : (z x f : ℕ) (flags : List ℕ) (p : ℕ) (cells : List ℕ) → lay z x (f ∷ flags) (suc p) cells ≡ lay z x flags p cells
unfolding lay
lay-on z x f flags p [] = refl
lay-on z x f flags p (y ∷ cells) = step (eqb y z) (lay-on z x f flags (p + 1) cells) (lay-on z x f flags p cells)
  where
    step : (b : Bool) → lay z x (f ∷ flags) (suc (p + 1)) cells ≡ lay z x flags (p + 1) cells
        → lay z x (f ∷ flags) (suc p) cells ≡ lay z x flags p cells
        → cond b (cond (eqb (get_or flags p 0) 1) x z) y ∷ lay z x (f ∷ flags) (cond b (suc p + 1) (suc p)) cells
        ≡ cond b (cond (eqb (get_or flags p 0) 1) x z) y ∷ lay z x flags (cond b (p + 1) p) cells
    step true e g = let n : suc p + 1 ≡ suc (p + 1) = omega arith in rw (n, e)
    step false e g = rw g

-- x laid where it stands takes it out of what is left
lay-first : {z : ℕ} (x a : ℕ) {left cells s : List ℕ} (b : Bool) → eqb a x ≡ b → eqb x z ≡ false → Fills z left cells s
    → Fills z (elim b [ true ↦ left | false ↦ a ∷ left ]) (cond (eqb (cond b 1 0) 1) x z ∷ cells) (a ∷ s)
lay-first x a true e h t = let g : a ≡ x = eqb-true a x e in rw g (full h t)
lay-first x a false e h t = empty t

fills-lay : {z : ℕ} (x : ℕ) {left cells s : List ℕ} → eqb x z ≡ false → Fills z left cells s
    → Fills z (without x left) (lay z x (flags_for x left) 0 cells) s
unfolding lay without
fills-lay x h filled = filled
fills-lay {z} x h (empty {a = a} {left = left} {cells = cells} t) =
    rw (eq-eqb z z refl, lay-on z x (cond (eqb a x) 1 0) (flags_for x left) 0 cells) (lay-first x a (eqb a x) refl h (fills-lay x h t))
fills-lay x h (full g t) = rw g (full g (fills-lay x h t))

-- one of several
unfoldable pub among : List ℕ → ℕ → Bool
among [] y = false
among (x ∷ xs) y = eqb y x || among xs y

-- what is left once a value is out
each-without : (z x : ℕ) (xs : List ℕ) {left : List ℕ} → Each (λ y. eqb y z || (eqb y x || among xs y)) left
    → Each (λ y. eqb y z || among xs y) (without x left)
unfolding without
each-without z x xs nothing = nothing
each-without z x xs (next {x = y} {s = left} h t) = step (eqb y x) h (each-without z x xs t)
  where
    step : (b : Bool) → eqb y z || (b || among xs y) ≡ true → Each (λ y. eqb y z || among xs y) (without x left)
        → Each (λ y. eqb y z || among xs y) (elim b [ true ↦ without x left | false ↦ y ∷ without x left ])
    step true g u = u
    step false g u = next g u

pub value-flags-below : (x : ℕ) (left : List ℕ) → Below 2 (flags_for x left)
value-flags-below x left = below-map (λ y. cond (eqb y x) 1 0) (λ y. pick-below (eqb y x) 1 0 (omega arith) (omega arith)) left

pub without-le : (x : ℕ) (left : List ℕ) → length (without x left) ≤ length left
unfolding without
without-le x [] = omega arith
without-le x (y ∷ left) = step (eqb y x) (without-le x left)
  where
    step : (b : Bool) → length (without x left) ≤ length left
        → length {A = ℕ} (elim b [ true ↦ without x left | false ↦ y ∷ without x left ]) ≤ suc (length left)
    step true h = omega arith
    step false h = omega arith

-- a value, and then the rest
value-step : (n z x : ℕ) (xs flags cells : List ℕ) {b s : List ℕ} → Below 2 flags → length flags ≡ empty_in z cells → length flags ≤ n
    → Back (values_into n z xs (lay z x flags 0 cells)) b s → Back (values_into n z (x ∷ xs) cells) (value_form flags ++ b) s
unfolding values_into value_form
value-step n z x xs flags cells {b} low e l t =
    let m = method_of flags in
    let fits = fits-chosen flags in
    rw (← e) (back-here _ (λ start. back_as
    (back-bind _ _ (back-number 3 m (fits-small fits)) (back-bind _ _ (back-method n start flags low l fits) t))
    refl (sym (append_assoc (low_bits 3 m) (method_form m flags) b)) refl))

-- the values in turn
pub back-values : (n z : ℕ) (xs : List ℕ) {left cells s : List ℕ} → Each (λ x. not (eqb x z)) xs → Fills z left cells s
    → Each (λ y. eqb y z || among xs y) left → length left ≤ n → Back (values_into n z xs cells) (values_form xs left) s
unfolding values_into values_form among
back-values n z [] {left} {cells} nothing f e l = back_as (back-give cells) refl refl
    (fills-end f (each_map (λ y g. or-false (eqb y z) g) e))
back-values n z (x ∷ xs) {left} {cells} (next d ds) f e l =
    let i : length (flags_for x left) ≡ length left = length-map left (λ y. cond (eqb y x) 1 0) in
    value-step n z x xs (flags_for x left) cells (value-flags-below x left) (i ∙ sym (fills-empty f)) (omega arith)
    (back-values n z xs ds (fills-lay x (not-true (eqb x z) d) f) (each-without z x xs e) (omega (arith, without-le x left)))
