-- "Refusals, in order": what a call asks before all else is a list, and the first that fails refuses. Of any refusals, and for any answer.
use Rattle.std.specs.Prelude.{List, [], ◌∷◌, Bool, cond, not}

-- one question with its refusal: `ask` refuses where it is not so, `bar` where it is
pub data Asked (W : Type 0) : Type 0 where
  ask : W → Bool → Asked W
  bar : W → Bool → Asked W

abbrev pub refuses : {W : Type 0} → Asked W → Bool
refuses (ask why so) = not so
refuses (bar why so) = so

abbrev pub refusal_of : {W : Type 0} → Asked W → W
refusal_of (ask why so) = why
refusal_of (bar why so) = why

-- the first that fails refuses; where none does comes what follows
abbrev pub judged : {W A : Type 0} → List (Asked W) → (W → A) → A → A
judged [] refused next = next
judged (a ∷ asks) refused next = cond (refuses a) (refused (refusal_of a)) (judged asks refused next)
