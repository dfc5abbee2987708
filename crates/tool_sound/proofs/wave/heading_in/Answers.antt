use Prim.Native.Nat.{◌+◌, ◌-◌}
use mathlib.Core.Path.{◌≡◌, sym, ◌∙◌}
use native.Mathlib.Omega.{arith}
use Rattle.std.specs.Prelude.{Result, Ok}
use Rattle.tool_sound.specs.declared.wave.Step.{Step}
use Rattle.tool_sound.specs.declared.wave.Step.TheVariants.{On, Ends}
use Rattle.tool_sound.specs.declared.wave.Wrong.{Wrong}
use Rattle.tool_sound.specs.Headings.{step_at, heading_of, chunks_from, onward}
use Rattle.tool_sound.proofs.Steps.{turn, no_more}
use Rattle.tool_sound.proofs.wave.heading_in.Goals.{After-step_at}
use Rattle.tool_sound.proofs.wave.heading_in.Goals as goal

-- what a chunk leaves of the heading
turned : (c : After-step_at) {s : Result Step Wrong} → s ≡ step_at c.args.octets.now c.chunks.at c.chunks.seen
    → heading_of c.args.octets.now ≡ onward c.chunks.at s (chunks_from (32 - (c.chunks.counter + 1)) c.args.octets.now)
turned c e =
    let l = c.chunks in
    l.invariant.0 ∙ turn (32 - l.counter) (32 - (l.counter + 1)) c.args.octets.now l.at l.seen (omega arith) e

pub returns-in-Err : goal.returns-in-Err
returns-in-Err c = sym (turned (goal.at.returns-in-Err c).After-step_at c.in-Err.ensures)

pub returns-in-Ok-Ends : goal.returns-in-Ok-Ends
returns-in-Ok-Ends c =
    let told : ◌≡◌ {A = Result Step Wrong} (Ok (Ends c.in-Ok-Ends.told)) (step_at c.args.octets.now c.chunks.at c.chunks.seen)
    = cc c.in-Ok-Ends.ensures in
    sym (turned (goal.at.returns-in-Ok-Ends c).After-step_at told)

pub chunks-preserved : goal.chunks-preserved
chunks-preserved c =
    let on : ◌≡◌ {A = Result Step Wrong} (Ok (On c.in-Ok-On.size c.in-Ok-On.met)) (step_at c.args.octets.now c.chunks.at c.chunks.seen)
    = cc c.in-Ok-On.ensures in
    (turned (goal.at.chunks-preserved c).After-step_at on, omega arith)

pub returns : goal.returns
returns c =
    let l = c.chunks in
    sym (l.invariant.0 ∙ no_more (32 - l.counter) c.args.octets.now l.at l.seen (omega arith))
