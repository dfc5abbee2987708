-- The contract of the public call: its answer and the lent output, for all inputs. "Write the result elsewhere and report frames kept,
-- octets kept and samples filled .. a refusal writes nothing."
use Rattle.std.specs.Prelude.{ℕ, ◌≡◌, List, [], length}
use Rattle.rules.specs.Refusals.{Ending}
use Rattle.std.specs.Prelude.{Ok, Err}
use Rattle.rules.specs.Refusals.{refusal_number, refusal-not-zero, numbered}
use Rattle.rules.specs.Walk.{octets_kept}
use Rattle.rules.specs.Calls.{at_start}
use Rattle.mending.specs.declared.MendRefusal.{MendRefusal}
use Rattle.mending.specs.declared.MendRefusal.TheVariants.{Frame, Total}
use Rattle.mending.specs.Endings.{MendEnding}
use Rattle.mending.specs.declared.MendAnswer.{MendAnswer}
use Rattle.mending.specs.Mend.{Mend, mends, declines, mend_of}

-- the paper's number: TOTAL is 22, every other refusal keeps document 01's, and a mended greeting has 0
abbrev pub mend_refusal_number : MendRefusal → ℕ
mend_refusal_number (Frame w) = refusal_number w
mend_refusal_number Total = 22

-- no refusal has the number 0
pub mend_refusal-not-zero : (w : MendRefusal) → mend_refusal_number w ≡ 0 → ⊥
mend_refusal-not-zero (Frame w) e = refusal-not-zero w e
mend_refusal-not-zero Total e = cc

abbrev pub mend_number_of : MendEnding → ℕ
mend_number_of = numbered mend_refusal_number

-- what is read off: the result's octets, the frames and octets kept, the samples filled, how the walk stopped and its bit (R-7)
abbrev pub mend_end : Mend → MendEnding
mend_end (mends m) = Ok tt
mend_end (declines w) = Err w

abbrev pub result_of : Mend → List ℕ
result_of (mends m) = m.octets
result_of (declines w) = []

abbrev pub frames_kept : Mend → ℕ
frames_kept (mends m) = length m.walked.frames
frames_kept (declines w) = 0

abbrev pub kept_of : Mend → ℕ
kept_of (mends m) = octets_kept m.walked.frames
kept_of (declines w) = 0

abbrev pub filled_of : Mend → ℕ
filled_of (mends m) = m.filled
filled_of (declines w) = 0

abbrev pub stop_of : Mend → Ending
stop_of (mends m) = m.walked.end
stop_of (declines w) = Ok tt

abbrev pub bit_of : Mend → ℕ
bit_of (mends m) = m.walked.bit
bit_of (declines w) = 0

-- what is told of a refusal
pub record Declines (why : MendRefusal) (r : MendAnswer) : Type 0 where
  pub end : r.end ≡ Err why
  pub octets : r.octets ≡ 0
  pub frames : r.frames ≡ 0
  pub kept : r.kept ≡ 0
  pub filled : r.filled ≡ 0
  pub stop : r.stop ≡ Ok tt
  pub bit : r.bit ≡ 0

pub record Mends (m : Mend) (r : MendAnswer) (out out' : List ℕ) : Type 0 where
  pub end : r.end ≡ mend_end m
  pub octets : r.octets ≡ length (result_of m)
  pub frames : r.frames ≡ frames_kept m
  pub kept : r.kept ≡ kept_of m
  pub filled : r.filled ≡ filled_of m
  pub stop : r.stop ≡ stop_of m
  pub bit : r.bit ≡ bit_of m
  pub lent : out' ≡ at_start (result_of m) out

-- mending a greeting; the output's length is the room
abbrev pub MendGreeting : List ℕ → ℕ → ℕ → List ℕ → List ℕ → MendAnswer → Type 0
MendGreeting octets law total out out' r = Mends (mend_of octets law total (length out)) r out out'
