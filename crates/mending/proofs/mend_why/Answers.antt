use Prim.Native.Nat.{◌+◌, ◌-◌}
use mathlib.Core.Path.{◌≡◌, sym, ◌∙◌}
use mathlib.Core.Bool.{true}
use native.Mathlib.Omega.{arith}
use lib.ListN.{length}
use Rattle.mending.specs.Mend.{is_total, mended}
use Rattle.mending.proofs.Filling.{filling-few}
use Rattle.mending.proofs.Ordered.{no-law, too_long, no-total, result-long, told-it}
use Rattle.mending.proofs.Answers.{declined-told, kept-inside, kept-samples, result-length, answers-as}
use Rattle.mending.proofs.mend_why.Goals.{After-walk_on-w, After-fill_octets}
use Rattle.mending.proofs.mend_why.Goals as goal

pub returns-then-law-gt-MOST_LAW : goal.returns-then-law-gt-MOST_LAW
returns-then-law-gt-MOST_LAW c =
    let a = c.args in
    declined-told c.declined.ensures (no-law a.octets.now a.law a.total (omega arith))

pub returns-then-octets-gt-LONGEST : goal.returns-then-octets-gt-LONGEST
returns-then-octets-gt-LONGEST c =
    let a = c.args in
    declined-told c.declined-then-octets-gt-LONGEST.ensures (too_long a.octets.now a.law a.total (omega arith) (omega arith))

pub returns-then-not-is_total : goal.returns-then-not-is_total
returns-then-not-is_total c =
    let a = c.args in
    declined-told c.declined-then-not-is_total.ensures
    (no-total a.octets.now a.law a.total (omega arith) (omega arith)
    (sym c.is_total.ensures ∙ c.if-not-is_total.true))

-- the walk of a greeting that may be mended
module _ (c : After-walk_on-w) where
  whole : is_total c.args.total ≡ true
  whole = sym c.is_total.ensures ∙ c.if-not-is_total.false

pub overflow_sub-filled : goal.overflow_sub-filled
overflow_sub-filled c =
    let a = c.args in
    kept-samples a.octets.now a.law a.total c.walk_on-w.ensures

pub overflow_add-result : goal.overflow_add-result
overflow_add-result c =
    let a = c.args in
    omega (
      arith,
      kept-inside a.octets.now a.law a.total c.walk_on-w.ensures,
      c.fill_octets.ensures,
      filling-few (a.total - c.walk_on-w.result.samples),
    )

-- and the length of its result
module _ (c : After-fill_octets) where
  long : c.walk_on-w.result.octets + c.fill_octets.result
      ≡ length (mended c.args.octets.now c.args.law c.args.total).octets
  long = result-length c.args.octets.now c.args.law c.args.total c.walk_on-w.ensures _
      c.fill_octets.ensures

pub returns-then-result-gt-LONGEST : goal.returns-then-result-gt-LONGEST
returns-then-result-gt-LONGEST c =
    let a = c.args in
    declined-told c.declined-then-result-gt-LONGEST.ensures
    (result-long a.octets.now a.law a.total (omega arith) (omega arith)
    (whole (goal.at.returns-then-result-gt-LONGEST c).After-walk_on-w)
    (omega (arith, long (goal.at.returns-then-result-gt-LONGEST c).After-fill_octets)))

pub returns : goal.returns
returns c =
    let a = c.args in
    answers-as a.octets.now a.law a.total c.walk_on-w.ensures
    (told-it a.octets.now a.law a.total (omega arith) (omega arith) (whole (goal.at.returns c).After-walk_on-w)
    (omega (arith, long (goal.at.returns c).After-fill_octets))) (long (goal.at.returns c).After-fill_octets)
