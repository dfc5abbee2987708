-- A step of a walk, and what is counted of a walk that keeps no samples.
use Rattle.std.specs.Prelude.{ℕ, ◌-◌, ◌≡◌, List, ◌++◌, length, take, drop}
use Rattle.rules.specs.declared.WalkAnswer.{WalkAnswer}
use Rattle.rules.specs.Frame.{read_one}
use Rattle.rules.specs.Walk.{Walked, octets_kept, samples_kept}
use Rattle.reader.specs.declared.Report.{Report}
use Rattle.reader.specs.Answers.{ReadsInto}

-- the frame from `at` on is read, into the output from `to` on; what stands before that stays
pub record Steps (octets : List ℕ) (law set at to : ℕ) (out out' : List ℕ) (r : Report) : Type 0 where
  pub rest : List ℕ
  pub reads : ReadsInto (read_one (drop at octets) law set (length out - to)) r (drop to out) rest
  pub lent : out' ≡ take to out ++ rest

-- the answer is that of a walk; no output is lent
pub record Counts (walked : Walked) (r : WalkAnswer) : Type 0 where
  pub end : r.end ≡ walked.end
  pub frames : r.frames ≡ length walked.frames
  pub octets : r.octets ≡ octets_kept walked.frames
  pub samples : r.samples ≡ length (samples_kept walked.frames)
  pub place : r.place ≡ walked.place
  pub bit : r.bit ≡ walked.bit
