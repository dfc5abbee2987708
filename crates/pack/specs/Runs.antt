-- Part after part: what each adds to what is kept, and how far it is to the end.
use Rattle.std.specs.Prelude.{ℕ, ◌+◌, ◌*◌, ◌-◌, ◌≤◌, ◌<◌, ◌≡◌, Bool, true, false, cond, List, [], ◌++◌, length}
use Rattle.std.specs.Prelude.{Ok}
use Rattle.rules.specs.Tools.{is_length}
use Rattle.rules.specs.Walk.{longest}
use Rattle.tool_packing.specs.declared.packing.PackAnswer.{PackAnswer}
use Rattle.tool_packing.specs.Packing.{Pack, PackFile}
use Rattle.tool_packing.specs.Cuts.{FillsUp}
use Rattle.pack.specs.declared.Job.{Job}
use Rattle.pack.specs.declared.Run.{Run}
use Rattle.tool_packing.specs.SoundParts.{part_size}

-- a page takes what a part can make: at most 41 octets for 40 samples
abbrev pub page_size : ℕ
page_size = 62976

-- where it is asked, the part is filled up; else it stays as it is
abbrev pub FilledIf : Bool → ℕ → ℕ → List ℕ → List ℕ → ℕ → Type 0
FilledIf true count law part part' r = FillsUp count law part part' r
FilledIf false count law part part' r = (r ≡ 0) × (part' ≡ part)

-- whatever was read, what is kept is the packing of one sound, and where more may come, the sound has whole parts only
pub record OneSound (job : Job) (kept : List ℕ) (run : Run) : Type 0 where
  pub sound : List ℕ
  pub is : PackFile sound job.law job.set job.length kept run.packed
  pub allowed : is_length job.length ≡ true
  pub parts : ℕ
  pub whole : run.more ≡ true → length sound ≡ parts * part_size

-- what may be kept next: the octets that make, behind those kept so far, the packing of one sound up to its next part
pub record NextOctets (job : Job) (before after : PackAnswer) (octets : List ℕ) : Type 0 where
  pub sound : List ℕ
  pub part : List ℕ
  pub kept : List ℕ
  pub was : PackFile sound job.law job.set job.length kept before
  pub is : PackFile (sound ++ part) job.law job.set job.length (kept ++ octets) after

-- what may be written: the stream of a whole sound
pub record WholeSound (job : Job) (run : Run) : Type 0 where
  pub kept : List ℕ
  pub one : OneSound job kept run
  pub well : run.packed.end ≡ Ok tt

-- a run on its way: where more may come, each part so far took room
pub record Stands (job : Job) (run : Run) : Type 0 where
  pub kept : List ℕ
  pub one : OneSound job kept run
  pub frames : run.more ≡ true → run.packed.frames ≤ part_size * run.packed.octets
  pub samples : run.more ≡ true → run.packed.samples ≤ part_size * run.packed.octets

-- before the first part: no sound, packed well
pub record StartsWell (job : Job) (packed : PackAnswer) : Type 0 where
  pub page : List ℕ
  pub page' : List ℕ
  pub is : Pack [] job.law job.set job.length page page' packed
  pub well : packed.end ≡ Ok tt

unfoldable pub steps_left : Run → ℕ
steps_left run = cond run.more 1 0 + (longest - run.packed.octets)

-- a part more: the run stands, and is nearer to its end
pub record Turns (job : Job) (run r : Run) : Type 0 where
  pub stands : Stands job r
  pub less : steps_left r < steps_left run
