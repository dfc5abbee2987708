use mathlib.Core.Path.{◌≡◌, refl, sym, ap, ◌∙◌}
use mathlib.Core.Bool.{true, false, ◌&&◌}
use lib.Dec.{eqb}
use Rattle.std.proofs.Common.{rules, tests}
use Rattle.std.proofs.lemmas.Bool.{not-true, not-false}
use Rattle.std.proofs.lemmas.Iterator.Consumers.{YieldsList-from_first}
use Rattle.std.proofs.lemmas.Iterator.Search.{any_from_yields_List}
use Rattle.store_rows.specs.Limits.{is_number}
use Rattle.store_rows.specs.Cells.{rows_in}
use Rattle.store_rows.specs.Finding.{absent}
use Rattle.store_rows.specs.Sane.{numbered}
use Rattle.store_rows.proofs.Finding.{any-absent}
use Rattle.store_rows.proofs.Judged.{numbered-stops, numbered-turn}
use Rattle.store_rows.proofs.rows.distinct.Goals.{then-not-is_number-via-then-not-is_number, then-not-is_number-via-else-not-is_number+then-any}
use Rattle.store_rows.proofs.rows.distinct.Goals as goal

pub loop-r-init : goal.loop-r-init
loop-r-init c = ap numbered (sym c.greetings-rest.ensures)

pub returns-then-not-is_number : goal.returns-then-not-is_number
returns-then-not-is_number c =
    let r = c.in-Some.r in
    let rest = rows_in c.next.new.self.cells.now in
    let out : is_number r.number && absent r.number rest ≡ false =
    elim c.then-not-is_number.branch [
      | then-not-is_number-via-then-not-is_number w ↦
          let e : is_number r.number ≡ false = sym c.is_number.ensures ∙ w.if-not-is_number.true in rw e
      | then-not-is_number-via-else-not-is_number+then-any w ↦
          let e : is_number r.number ≡ true = sym c.is_number.ensures ∙ w.if-not-is_number.false in
          let again = any_from_yields_List (λ s. eqb s.number r.number) w.any.new.self _ w.any.result w.any.ensures.ran
          (YieldsList-from_first (λ s. s) (λ s. rows_in s.cells.now) {s = c.next.new.self} rest refl) (λ x b q k. search (rules, tests))
          in
          let f : absent r.number rest ≡ false = not-true _ (sym (any-absent r.number rest) ∙ sym again ∙ w.if-any.true) in
          rw (e, f)
    ]
    in
    sym (c.loop-r.invariant ∙ ap numbered c.in-Some.ensures.steps ∙ numbered-stops r rest out)

pub loop-r-preserved : goal.loop-r-preserved
loop-r-preserved c =
    let r = c.in-Some.r in
    let rest = rows_in c.next.new.self.cells.now in
    let e : is_number r.number ≡ true = sym c.is_number.ensures ∙ c.if-not-is_number.false in
    let once = any_from_yields_List (λ s. eqb s.number r.number) c.any.new.self _ c.any.result c.any.ensures.ran
    (YieldsList-from_first (λ s. s) (λ s. rows_in s.cells.now) {s = c.next.new.self} rest refl) (λ x b q k. search (rules, tests))
    in
    let f : absent r.number rest ≡ true = not-false _ (sym (any-absent r.number rest) ∙ sym once ∙ c.if-any.false) in
    c.loop-r.invariant ∙ ap numbered c.in-Some.ensures.steps ∙ numbered-turn r rest (rw (e, f))

pub returns : goal.returns
unfolding numbered
returns c = sym (c.loop-r.invariant ∙ ap numbered c.in_default.ensures.steps.0)
