-- Mark by mark (Marks, Marking).
use mathlib.Core.Path.{sym, ◌∙◌}
use native.Mathlib.Omega.{arith}
use Rattle.text_keyvalue.proofs.Lines.{word_fits}
use Rattle.store_text.specs.Noted.{mark_word}
use Rattle.store_text.proofs.Marks.{marking-first, marking-end, marking-stuck, marking-turn, marking-less}
use Rattle.store_text.proofs.marks_past.Goals as goal

pub loop-i-init : goal.loop-i-init
loop-i-init c = marking-first _ _

pub returns-in_err-next : goal.returns-in_err-next
returns-in_err-next c =
    c.from_residual.ensures
    ∙ marking-stuck c.loop-i.invariant (sym c.has_word.ensures ∙ c.loop-i-test.true) (c.in_err-next.ensures)

pub loop-i-smaller : goal.loop-i-smaller
loop-i-smaller c =
    let e = sym c.has_word.ensures ∙ c.loop-i-test.true in
    let f = word_fits mark_word c.args.text.now c.loop-i.i e in
    omega (arith, f, marking-less c.loop-i.invariant e (c.in_ok-next.ensures))

pub loop-i-preserved : goal.loop-i-preserved
loop-i-preserved c =
    let e = sym c.has_word.ensures ∙ c.loop-i-test.true in
    let f = word_fits mark_word c.args.text.now c.loop-i.i e in
    marking-turn c.loop-i.invariant e (omega (arith, f)) (c.in_ok-next.ensures)

pub returns : goal.returns
returns c = marking-end c.loop-i.invariant (sym c.has_word.ensures ∙ c.loop-i-test.false)
