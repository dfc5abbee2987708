use native.Mathlib.Omega.{arith}
use mathlib.Core.Path.{◌≡◌, sym, ◌∙◌}
use lib.ListN.{length}
use Rattle.tool_sound.proofs.Agrees.{agree-first, agree-second, agree-step, agree_differ}
use Rattle.tool_sound.proofs.comparing.agree.Goals.{then-b-i-via-then-b-i, then-b-i-via-else-b-i+then-b-i-2}
use Rattle.tool_sound.proofs.comparing.agree.Goals as goal

pub returns-then-b-i-clause-value : goal.returns-then-b-i-clause-value
returns-then-b-i-clause-value c =
    let s = c.args in
    let l = c.loop-i in
    elim c.then-b-i.branch [
      | then-b-i-via-then-b-i w ↦ sym (l.invariant.1 ∙ agree-second s.a.now s.b.now l.i w.if-b-i.true)
      | then-b-i-via-else-b-i+then-b-i-2 w ↦
          sym (l.invariant.1
          ∙ agree_differ s.a.now s.b.now l.i (omega arith) (omega (arith, w.if-b-i.false)) (λ e. omega (arith, w.if-b-i-2.true)))
    ]

pub loop-i-preserved : goal.loop-i-preserved
loop-i-preserved c =
    let s = c.args in
    let l = c.loop-i in (
      omega (arith, c.if-b-i.false),
      l.invariant.1 ∙ agree-step s.a.now s.b.now l.i (omega arith) (omega (arith, c.if-b-i.false)) (sym c.if-b-i-2.false),
    )

pub returns-clause-value : goal.returns-clause-value
returns-clause-value c =
    let s = c.args in
    let l = c.loop-i in
    let e : l.i ≡ length s.a.now = omega arith in
    sym (l.invariant.1 ∙ agree-first s.a.now s.b.now l.i (omega arith) ∙ e)
