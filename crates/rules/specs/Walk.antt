-- Document 01, "Walk and listing": "each next frame starts where the last one ended, in the middle of the same octets".
use Rattle.std.specs.Prelude.{ℕ, zero, suc, ◌+◌, ◌-◌, List, [], ◌∷◌, ◌++◌, cond, length, drop, leb}
use Rattle.rules.specs.declared.Refusal.{Refusal}
use Rattle.rules.specs.declared.Refusal.TheVariants.{Set, Law, Long}
use Rattle.rules.specs.Refusals.{Ending}
use Rattle.std.specs.Prelude.{Ok, Err}
use Rattle.rules.specs.Refusals.{Asked, ask, judged}
use Rattle.rules.specs.Tools.{is_set, is_law}
use Rattle.rules.specs.Reading.{Read, whole, refuse}
use Rattle.rules.specs.Frame.{Found, octets_used, read_one}

-- a frame that was delivered, and its place in the stream
pub record Delivered : Type 0 where
  pub place : ℕ
  pub found : Found

-- a walk: the frames delivered, how it ended, the place of the refused frame (of a clean end the stream's length), and the refusal's bit
pub record Walked : Type 0 where
  pub frames : List Delivered
  pub end : Ending
  pub place : ℕ
  pub bit : ℕ

-- no frame, and this end
abbrev pub stopped : Ending → ℕ → ℕ → Walked
stopped end place bit = record { frames = []; end = end; place = place; bit = bit }

-- a frame, and then the rest
abbrev pub before : Delivered → Walked → Walked
before f w = record { frames = f ∷ w.frames; end = w.end; place = w.place; bit = w.bit }

abbrev pub onward : Read Found → (Found → Walked) → (Refusal → ℕ → Walked) → Walked
onward (whole f i) next stop = next f
onward (refuse w at) next stop = stop w at

-- frame after frame from place `at` on. The first number is a bound in frames: where no more are allowed, the walk ends Done at its place,
-- and can be taken up again there (proofs/Walk, `walk-parts`). Each frame has an octet, so one more than the octets is never short
-- (`walk-fuel`).
unfoldable pub walk_from : ℕ → List ℕ → ℕ → ℕ → ℕ → ℕ → Walked
walk_from zero octets law set at room = stopped (Ok tt) at 0
walk_from (suc more) octets law set at room =
    cond (leb (length octets) at) (stopped (Ok tt) at 0)
    (onward (read_one (drop at octets) law set room)
    (λ f. before (record { place = at; found = f }) (walk_from more octets law set (at + octets_used f) (room - length f.samples)))
    (λ w bit. stopped (Err w) at bit))

-- "more than" so many octets: document 02, R-11, "Walks take up to 1,048,576 octets"; "LONG, and with it demand 3, moves to the new limit"
abbrev pub longest : ℕ
longest = 1048576

-- "Order: LAW, SET, then .. LONG"
abbrev pub walk_asks : ℕ → ℕ → ℕ → List Asked
walk_asks law set octets = ask Law (is_law law) ∷ ask Set (is_set set) ∷ ask Long (leb octets longest) ∷ []

-- "LAW, SET and LONG refuse a walk before any frame, with place 0."
unfoldable pub walk_all : List ℕ → ℕ → ℕ → ℕ → Walked
walk_all octets law set room =
    judged (walk_asks law set (length octets)) (λ why. stopped (Err why) 0 0)
    (walk_from (suc (length octets)) octets law set 0 room)

-- what is read off the list of frames
unfoldable pub octets_kept : List Delivered → ℕ
octets_kept [] = 0
octets_kept (f ∷ fs) = octets_used f.found + octets_kept fs

unfoldable pub samples_kept : List Delivered → List ℕ
samples_kept [] = []
samples_kept (f ∷ fs) = f.found.samples ++ samples_kept fs
