-- A frame converted: the refusals in their order, what is left in the lent output, and the contract of each public call.
use Rattle.std.specs.Prelude.{ℕ, ◌≡◌, ◌||◌, List, [], ◌∷◌, ◌++◌, map, eqb, leb, ℤ, length, drop}
use Rattle.rules.specs.Refusals.{Ending}
use Rattle.std.specs.Prelude.{Ok, Err}
use Rattle.rules.specs.declared.Refusal.TheVariants.{Room, Length, Law}
use Rattle.rules.specs.Refusals.{Asked, ask, verdict}
use Rattle.rules.specs.Tools.{is_law, is_length}
use Rattle.linear.specs.Equations.{to_pcm, from_pcm}

-- "Refusals, in order: LAW, LENGTH, ROOM". A frame has 0 or one of the five lengths; ROOM counts values.
abbrev pub frame_asks : ℕ → ℕ → ℕ → List Asked
frame_asks law n room = ask Law (is_law law) ∷ ask Length (eqb n 0 || is_length n) ∷ ask Room (leb n room) ∷ []

abbrev pub judged : ℕ → ℕ → ℕ → Ending
judged law n room = verdict (frame_asks law n room)

-- what was lent, with the results at its start; "a refusal writes nothing"
abbrev pub after : {A : Type 0} → Ending → List A → List A → List A
after (Ok _) ys out = ys ++ drop (length ys) out
after (Err w) ys out = out

-- `out` is the output as lent, `out'` as the call leaves it; its length is the room
pub record Converts {A : Type 0} (law n : ℕ) (ys out out' : List A) (r : Ending) : Type 0 where
  pub end : r ≡ judged law n (length out)
  pub lent : out' ≡ after (judged law n (length out)) ys out

-- a frame of octets to linear values
abbrev pub ToLinear : ℕ → List ℕ → List ℤ → List ℤ → Ending → Type 0
ToLinear law s out out' r = Converts law (length s) (map (to_pcm law) s) out out' r

-- a frame of linear values to octets
abbrev pub FromLinear : ℕ → List ℤ → List ℕ → List ℕ → Ending → Type 0
FromLinear law s out out' r = Converts law (length s) (map (from_pcm law) s) out out' r
