-- Linear masters of signed 16-bit values: "as to_linear and from_linear with the shift of the tools (3 for A, 2 for mu; arithmetic right on
-- the way in, left on the way out)". 8 and 4 are what (6-2) and (6-4) of 001 divide by.
use Rattle.std.specs.Prelude.{ℕ, cond, List, map, eqb, ℤ, pos, ◌*ℤ◌, length}
use Rattle.std.specs.Int.Signed.{shr_z}
use Rattle.rules.specs.Refusals.{Ending}
use Rattle.linear.specs.Equations.{to_pcm, from_pcm}
use Rattle.linear.specs.Calls.{Converts}

abbrev pub unit_of : ℕ → ℕ
unit_of law = cond (eqb law 0) 8 4

-- one value, and one sample
abbrev pub sample_for : ℕ → ℤ → ℕ
sample_for law v = from_pcm law (shr_z v (unit_of law))

abbrev pub value_for : ℕ → ℕ → ℤ
value_for law o = to_pcm law o *ℤ pos (unit_of law)

-- a frame of octets to a master's values, and back: "LAW, LENGTH, ROOM"
abbrev pub ToMaster : ℕ → List ℕ → List ℤ → List ℤ → Ending → Type 0
ToMaster law s out out' r = Converts law (length s) (map (value_for law) s) out out' r

abbrev pub FromMaster : ℕ → List ℤ → List ℕ → List ℕ → Ending → Type 0
FromMaster law s out out' r = Converts law (length s) (map (sample_for law) s) out out' r
