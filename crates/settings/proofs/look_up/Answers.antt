use Rattle.std.specs.Prelude.{Some}
use mathlib.Core.Path.{refl, sym, ap, ◌∙◌}
use native.Mathlib.Omega.{arith}
use Prim.Native.Nat.{ℕ}
use Rattle.settings.specs.declared.Revision.{Revision}
use Rattle.settings.proofs.Revisions.{zero-gone, kept-looked, looked-here, looked-on, looked-through}
use Rattle.settings.proofs.look_up.Goals as goal

abbrev number : Revision → ℕ
number r = r.number

pub returns-then-n-eq0 : goal.returns-then-n-eq0
returns-then-n-eq0 c = sym (rw c.if-n-eq0.true (zero-gone _))

pub loop-k-init : goal.loop-k-init
loop-k-init c = (omega arith, refl)

pub returns-then-r-n : goal.returns-then-r-n
returns-then-r-n c = sym (kept-looked _ c.if-n-eq0.false _ ∙ c.loop-k.invariant.1
    ∙ looked-here _ _ _ (omega arith) (ap number (sym c.row_at-r.ensures) ∙ c.if-r-n.true)
    ∙ ap (λ (r : Revision). Some r.values) (sym c.row_at-r.ensures))

pub loop-k-preserved : goal.loop-k-preserved
loop-k-preserved c =
    let h = c.loop-k.invariant.1 in
    (omega arith, h ∙ looked-on _ _ _ (omega arith) (λ e. c.if-r-n.false (ap number c.row_at-r.ensures ∙ e)))

pub returns : goal.returns
returns c = sym (kept-looked _ c.if-n-eq0.false _ ∙ c.loop-k.invariant.1 ∙ looked-through _ _ _ (omega arith))
