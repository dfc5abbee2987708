-- Refusals in order, inverted once for every list of them. `by-judged`: whatever holds where nothing fails, and of the first that does, holds
-- of the answer; `by-each`: the same with an answer to each refusal. `judged-passes`, `judged-refuses`: a call goes on exactly where nothing
-- fails, and gives a refusal exactly where that is the first that does. `first_gives`: what a refusal then says, read off the list by the
-- refusals' numbers.
use Prim.Native.Nat.{ℕ}
use mathlib.Core.Path.{◌≡◌, refl, sym, ap, ◌∙◌}
use mathlib.Core.List.{List, [], ◌∷◌, ◌++◌}
use mathlib.Core.Bool.{Bool, true, false, ◌||◌, false≢true}
use mathlib.Core.Logic.{◌↔◌, ◌⊎◌, inl, inr}
use lib.Dec.{eqb}
use borrow.Author.Tests.{eq-eqb}
use Rattle.rules.specs.Judged.{Asked, ask, bar, refusal_of, judged}

-- a question that lets the call go on, and one that refuses it
abbrev pub Met : {W : Type 0} → Asked W → Type 0
Met (ask why so) = so ≡ true
Met (bar why so) = so ≡ false

abbrev pub Failed : {W : Type 0} → Asked W → Type 0
Failed (ask why so) = so ≡ false
Failed (bar why so) = so ≡ true

-- all that was asked is so, in its order
abbrev pub AllMet : {W : Type 0} → List (Asked W) → Type 0
AllMet [] = Unit {0}
AllMet (a ∷ asks) = Met a × AllMet asks

-- the first that fails has this refusal
pub data First {W : Type 0} (w : W) : List (Asked W) → Type 0 where
  here : {a : Asked W} {asks : List (Asked W)} → Failed a → refusal_of a ≡ w → First w (a ∷ asks)
  later : {a : Asked W} {asks : List (Asked W)} → Met a → First w asks → First w (a ∷ asks)

module _ {W A : Type 0} (refused : W → A) (next : A) where
  pub by-judged : (P : A → Type 0) (asks : List (Asked W)) → (AllMet asks → P next) → ((w : W) → First w asks → P (refused w))
      → P (judged asks refused next)
  by-judged P [] well wrong = well tt
  by-judged P (ask w true ∷ asks) well wrong = by-judged P asks (λ m. well (refl, m)) (λ v f. wrong v (later refl f))
  by-judged P (ask w false ∷ asks) well wrong = wrong w (here refl refl)
  by-judged P (bar w true ∷ asks) well wrong = wrong w (here refl refl)
  by-judged P (bar w false ∷ asks) well wrong = by-judged P asks (λ m. well (refl, m)) (λ v f. wrong v (later refl f))

  -- the same with an answer to each refusal, in their order
  abbrev pub Each : (A → Type 0) → List (Asked W) → Type 0
  Each P [] = P next
  Each P (a ∷ asks) = (Failed a → P (refused (refusal_of a))) × (Met a → Each P asks)

  pub by-each : (P : A → Type 0) (asks : List (Asked W)) → Each P asks → P (judged asks refused next)
  by-each P [] each = each
  by-each P (ask w true ∷ asks) each = by-each P asks (each.1 refl)
  by-each P (ask w false ∷ asks) each = each.0 refl
  by-each P (bar w true ∷ asks) each = each.0 refl
  by-each P (bar w false ∷ asks) each = by-each P asks (each.1 refl)

  -- and back
  pub judged-met : (asks : List (Asked W)) → AllMet asks → judged asks refused next ≡ next
  judged-met [] m = refl
  judged-met (ask w so ∷ asks) m = rw m.0 (judged-met asks m.1)
  judged-met (bar w so ∷ asks) m = rw m.0 (judged-met asks m.1)

  pub judged-first : {w : W} (asks : List (Asked W)) → First w asks → judged asks refused next ≡ refused w
  judged-first (ask v so ∷ asks) (here f e) = rw f (ap refused e)
  judged-first (bar v so ∷ asks) (here f e) = rw f (ap refused e)
  judged-first (ask v so ∷ asks) (later m f) = rw m (judged-first asks f)
  judged-first (bar v so ∷ asks) (later m f) = rw m (judged-first asks f)
  judged-first {w = w} [] x' = elim x' [ ]

-- what is read off the answer is read off each refusal
pub judged-ap : {W A B : Type 0} (f : A → B) (refused : W → A) (next : A) (asks : List (Asked W))
    → f (judged asks refused next) ≡ judged asks (λ w. f (refused w)) (f next)
judged-ap f refused next [] = refl
judged-ap f refused next (ask w true ∷ asks) = judged-ap f refused next asks
judged-ap f refused next (ask w false ∷ asks) = refl
judged-ap f refused next (bar w true ∷ asks) = refl
judged-ap f refused next (bar w false ∷ asks) = judged-ap f refused next asks

-- more asked behind changes nothing of a refusal
pub first_more : {W : Type 0} {w : W} (asks more : List (Asked W)) → First w asks → First w (asks ++ more)
first_more (a ∷ asks) more (here f e) = here f e
first_more (a ∷ asks) more (later m f) = later m (first_more asks more f)
first_more {W = W} {w = w} [] more x' = elim x' [ ]

-- answers that tell a refusal from all else, and refusals from one another
pub record Apart {W A : Type 0} (refused : W → A) (next : A) : Type 0 where
  pub other : (w : W) → refused w ≡ next → ⊥
  pub same : (v w : W) → refused v ≡ refused w → v ≡ w

first-is : {W : Type 0} {v w : W} {asks : List (Asked W)} → v ≡ w → First v asks → First w asks
first-is e (here f g) = here f (g ∙ e)
first-is e (later m f) = later m (first-is e f)

module _ {W A : Type 0} {refused : W → A} {next : A} (apart : Apart refused next) (asks : List (Asked W)) where
  pub judged-passes : (judged asks refused next ≡ next) ↔ AllMet asks
  judged-passes = (
    by-judged refused next (λ o. o ≡ next → AllMet asks) asks (λ m e. m) (λ w f e. absurd (apart.other w e)),
    judged-met refused next asks,
  )

  pub judged-refuses : (w : W) → (judged asks refused next ≡ refused w) ↔ First w asks
  judged-refuses w = (
    by-judged refused next (λ o. o ≡ refused w → First w asks) asks
        (λ m e. absurd (apart.other w (sym e))) (λ v f e. first-is (apart.same v w e) f),
    judged-first refused next asks,
  )

-- What a refusal says, read off a list that is written out: all before it is so, and it is not. It computes by the refusals' numbers: one
-- that is not in the list is never given, and one that stands there more than once is given at one of its places.
abbrev pub among : {W : Type 0} → (W → ℕ) → W → List (Asked W) → Bool
among number w [] = false
among number w (a ∷ asks) = eqb (number (refusal_of a)) (number w) || among number w asks

abbrev pub told : Bool → Bool → Type 0 → Type 0 → Type 0 → Type 0
told true true failed met rest = failed ⊎ (met × rest)
told true false failed met rest = failed
told false true failed met rest = met × rest
told false false failed met rest = ⊥

abbrev pub Gives : {W : Type 0} → (W → ℕ) → W → List (Asked W) → Type 0
Gives number w [] = ⊥
Gives number w (a ∷ asks) =
    told (eqb (number (refusal_of a)) (number w)) (among number w asks) (Failed a) (Met a) (Gives number w asks)

module _ (failed met rest : Type 0) where
  told_here : (is more : Bool) → is ≡ true → failed → told is more failed met rest
  told_here true true e f = inl f
  told_here true false e f = f
  told_here false more e f = absurd (false≢true e)

  told-later : (is more : Bool) → more ≡ true → met → rest → told is more failed met rest
  told-later true true e m r = inr (m, r)
  told-later false true e m r = (m, r)
  told-later true false e m r = absurd (false≢true e)
  told-later false false e m r = absurd (false≢true e)

or-first : (a b : Bool) → a ≡ true → (a || b) ≡ true
or-first true b e = refl
or-first false b e = absurd (false≢true e)

or-second : (a b : Bool) → b ≡ true → (a || b) ≡ true
or-second true b e = refl
or-second false b e = e

module _ {W : Type 0} (number : W → ℕ) (w : W) where
  is-named : (a : Asked W) → refusal_of a ≡ w → eqb (number (refusal_of a)) (number w) ≡ true
  is-named a e = eq-eqb (number (refusal_of a)) (number w) (ap number e)

  first-among : {asks : List (Asked W)} → First w asks → among number w asks ≡ true
  first-among (here {a = a} {asks = asks} f e) =
      or-first (eqb (number (refusal_of a)) (number w)) (among number w asks) (is-named a e)
  first-among (later {a = a} {asks = asks} m f) =
      or-second (eqb (number (refusal_of a)) (number w)) (among number w asks) (first-among f)

  pub first_gives : {asks : List (Asked W)} → First w asks → Gives number w asks
  first_gives (here {a = a} {asks = asks} f e) =
      told_here (Failed a) (Met a) (Gives number w asks) (eqb (number (refusal_of a)) (number w)) (among number w asks) (is-named a e) f
  first_gives (later {a = a} {asks = asks} m f) =
      told-later (Failed a) (Met a) (Gives number w asks) (eqb (number (refusal_of a)) (number w)) (among number w asks) (first-among f) m (first_gives f)
