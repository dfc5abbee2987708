-- What is told is what is written: what is kept, and the filling behind it.
use mathlib.Core.Path.{sym, ◌∙◌}
use native.Mathlib.Omega.{arith}
use lib.ListN.{length}
use lib.Seq.{length-take-le}
use Rattle.rules.proofs.Judged.{AllMet}
use Rattle.mending.specs.Mend.{mended, mends}
use Rattle.mending.specs.Why.{why_asks, why_of, Answers}
use Rattle.mending.proofs.Ordered.{ends-done, why-mends, why-is, mend-declined, no_room, mends-it}
use Rattle.mending.proofs.Answers.{declined-as, refused_as, told-inside, told-length, mended-as}
use Rattle.mending.proofs.mend.Goals.{In-Ok}
use Rattle.mending.proofs.mend.Goals as goal

-- a greeting that can be mended
module _ (c : In-Ok) where
  met : AllMet (why_asks c.args.octets.now c.args.law c.args.total
      (mended c.args.octets.now c.args.law c.args.total).octets)
  met =
      let o = why_of c.args.octets.now c.args.law c.args.total in
      why-mends c.args.octets.now c.args.law c.args.total
      (ends-done o (sym c.mend_why-a.ensures.end ∙ c.in-Ok.is)).is

  told : Answers (mends (mended c.args.octets.now c.args.law c.args.total)) c.mend_why-a.result
  told = rw (why-is c.args.octets.now c.args.law c.args.total met) at c.mend_why-a.ensures

pub returns-then-out-a : goal.returns-then-out-a
returns-then-out-a c =
    let x = c.args in
    declined-as c.declined.ensures
    (no_room x.octets.now x.law x.total (length x.out.now) (met (goal.at.returns-then-out-a c).In-Ok)
    (omega (arith, (told (goal.at.returns-then-out-a c).In-Ok).octets))) x.out.now

pub slice_bounds-put_word-end : goal.slice_bounds-put_word-end
slice_bounds-put_word-end c =
    let x = c.args in
    sym (length-take-le _ x.octets.now (told-inside x.octets.now x.law x.total (told (goal.at.slice_bounds-put_word-end c).In-Ok)))

pub put_word-to-requires : goal.put_word-to-requires
put_word-to-requires c =
    let x = c.args in
    let inside = told-inside x.octets.now x.law x.total (told (goal.at.put_word-to-requires c).In-Ok) in
    omega (
      arith,
      length-take-le _ x.octets.now inside,
      told-length x.octets.now x.law x.total (told (goal.at.put_word-to-requires c).In-Ok),
      c.if-out-a.false,
    )

pub fill-requires : goal.fill-requires
fill-requires c =
    let x = c.args in
    let p = c.put_word-to.ensures in
    let inside = told-inside x.octets.now x.law x.total (told (goal.at.fill-requires c).In-Ok) in
    omega (
      arith,
      p.place,
      p.size,
      length-take-le _ x.octets.now inside,
      told-length x.octets.now x.law x.total (told (goal.at.fill-requires c).In-Ok),
      c.if-out-a.false,
    )

pub returns-in-Err : goal.returns-in-Err
returns-in-Err c =
    let x = c.args in
    refused_as c.mend_why-a.ensures c.in-Err.is
    (mend-declined x.octets.now x.law x.total (length x.out.now)) x.out.now

pub returns-else-out-a : goal.returns-else-out-a
returns-else-out-a c =
    let x = c.args in
    mended-as x.octets.now x.law x.total (told (goal.at.returns-else-out-a c).In-Ok)
    (mends-it x.octets.now x.law x.total (length x.out.now) (met (goal.at.returns-else-out-a c).In-Ok)
    (omega (arith, (told (goal.at.returns-else-out-a c).In-Ok).octets, c.if-out-a.false))) c.put_word-to.ensures c.fill.ensures
