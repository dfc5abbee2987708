-- Mark by mark (Marks, Compares).
use Prim.Native.Nat.{◌+◌, ◌*◌}
use mathlib.Core.Path.{refl, ◌∙◌}
use native.Mathlib.Omega.{arith}
use Rattle.store_text.proofs.Marks.{compares-first, are-end, are-astray, are-turn}
use Rattle.store_text.proofs.marks_are.Goals as goal

pub loop-j-init : goal.loop-j-init
loop-j-init c = compares-first _ _ _ _

pub mark_is-requires : goal.mark_is-requires
mark_is-requires c =
    let small = c.requires.1 in
    let a = small (2 * c.loop-j.j) (omega arith) in
    let b = small (2 * c.loop-j.j + 1) (omega arith) in
    (a, b)

pub returns-in_err-i : goal.returns-in_err-i
returns-in_err-i c = c.from_residual.ensures ∙ are-astray c.loop-j.invariant (omega arith) refl refl (c.in_err-i.ensures)

pub loop-j-preserved : goal.loop-j-preserved
loop-j-preserved c = are-turn c.loop-j.invariant (omega arith) refl refl (c.in_ok-i.ensures)

pub returns : goal.returns
returns c = are-end c.loop-j.invariant (omega arith) c.no_mark.ensures
