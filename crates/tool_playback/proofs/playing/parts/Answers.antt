-- Each turn uses one part more (Running); the measure is how far it is to the end.
use borrow.Author.Tests.{not-true, not-false}
use native.Mathlib.Omega.{arith}
use Prim.Native.Nat.{◌+◌, ◌*◌, ◌≤◌}
use mathlib.Core.Path.{◌≡◌, refl, sym, ◌∙◌}
use mathlib.Core.Bool.{true}
use lib.ListN.{length}
use Rattle.tool_playback.proofs.Running.{going-first, going_on, goes-whole, next-sound}
use Rattle.tool_playback.proofs.Running.{number-most, heard-most, at_most, lost-most}
use Rattle.tool_playback.proofs.Wells.{well_of, ill}
use Rattle.tool_playback.proofs.playing.parts.Goals.{After-next_part-p, After-use_part-u}
use Rattle.tool_playback.proofs.playing.parts.Goals.{then-is_err-via-then-is_err, then-is_err-via-else-is_err+then-not-p}
use Rattle.tool_playback.proofs.playing.parts.Goals as goal

pub loop-to-init : goal.loop-to-init
loop-to-init c = (going-first _ _ _ _, refl)

-- the next part was made: what the loop held, and how far it comes
module _ (c : After-next_part-p) where
  page-kept : length c.next_part-p.new.out ≡ length c.args.page.now
  page-kept = c.next_part-p.auto.out ∙ c.loop-to.invariant.0.page-size

  further : let l = c.loop-to in
      let r = c.next_part-p.result in
      let size = length c.args.body.now in
      (l.lost + r.lost ≤ l.items + r.items) × (r.at ≤ size) × (l.items + r.items ≤ size)
      × (l.samples + r.samples ≤ 320 * (l.items + r.items))
  further =
      let w = c.loop-to.invariant.0 in
      let f = w.follows in
      let g = c.next_part-p.ensures.goes in (
        omega (arith, lost-most _ _ w, g.some),
        g.ends (at_most _ _ f),
        omega (arith, number-most _ _ f, g.few (at_most _ _ f)),
        omega (arith, heard-most _ _ f, g.held),
      )

-- and used
module _ (c : After-use_part-u) where
  further' : let l = c.loop-to in
      let r = c.next_part-p.result in
      let size = length c.args.body.now in
      (l.lost + r.lost ≤ l.items + r.items) × (r.at ≤ size) × (l.items + r.items ≤ size)
      × (l.samples + r.samples ≤ 320 * (l.items + r.items))
  further' =
      let w = c.loop-to.invariant.0 in
      let f = w.follows in
      let g = c.next_part-p.ensures.goes in (
        omega (arith, lost-most _ _ w, g.some),
        g.ends (at_most _ _ f),
        omega (arith, number-most _ _ f, g.few (at_most _ _ f)),
        omega (arith, heard-most _ _ f, g.held),
      )

  master-kept : length c.use_part-u.new.master ≡ length c.args.master.now
  master-kept = c.use_part-u.auto.master ∙ c.loop-to.invariant.1

  heard : c.loop-to.samples + c.use_part-u.result.good ≤ 320 * (c.loop-to.items + c.next_part-p.result.items)
  heard = omega (arith, further'.3, c.use_part-u.ensures.most)

pub use_part-u-requires : goal.use_part-u-requires
use_part-u-requires c =
    let w = c.loop-to.invariant in
    let l = c.next_part-p.auto.out in (
      next-sound _ _ w.0.follows c.next_part-p.ensures.next_part,
      omega (arith, c.next_part-p.ensures.goes.fits, l),
      omega (arith, l, w.0.page-size, w.1, c.requires.2),
    )

pub tell_part-requires : goal.tell_part-requires
tell_part-requires c =
    let p = c.requires in
    (p.0, c.loop-to.invariant.0.follows, p.3)

pub overflow_add-items : goal.overflow_add-items
overflow_add-items c = omega (arith, (further (goal.at.overflow_add-items c).After-next_part-p).2, c.requires.0)

pub overflow_add-lost : goal.overflow_add-lost
overflow_add-lost c =
    omega (arith, (further (goal.at.overflow_add-lost c).After-next_part-p).0, (further (goal.at.overflow_add-lost c).After-next_part-p).2, c.requires.0)

pub overflow_add-samples : goal.overflow_add-samples
overflow_add-samples c =
    omega (arith, heard (goal.at.overflow_add-samples c).After-use_part-u, (further (goal.at.overflow_add-samples c).After-next_part-p).2, c.requires.0)

pub shape_of-page-then-is_err : goal.shape_of-page-then-is_err
shape_of-page-then-is_err c = page-kept (goal.at.shape_of-page-then-is_err c).After-next_part-p

pub shape_of-master-then-is_err : goal.shape_of-master-then-is_err
shape_of-master-then-is_err c = master-kept (goal.at.shape_of-master-then-is_err c).After-use_part-u

pub returns-then-is_err : goal.returns-then-is_err
returns-then-is_err c =
    let f = further (goal.at.returns-then-is_err c).After-next_part-p in
    let w = c.loop-to.invariant.0 in
    record {
      tells_file = elim c.then-is_err.branch [
        | then-is_err-via-then-is_err b ↦ λ e. absurd (ill _ (sym c.is_err.ensures.value ∙ b.if-is_err.true) e)
        | then-is_err-via-else-is_err+then-not-p b ↦
            λ e. goes-whole _ _ w.follows c.next_part-p.ensures.next_part (not-true _ b.if-not-p.true) w.losses (c.use_part-u.ensures.all e)
      ];
      within = record { some = f.0; ends = f.1; few = f.2; held = heard (goal.at.returns-then-is_err c).After-use_part-u };
    }

pub loop-to-smaller : goal.loop-to-smaller
loop-to-smaller c =
    let w = c.loop-to.invariant.0 in
    let g = c.next_part-p.ensures.goes in
    let more : c.next_part-p.result.more ≡ true = not-false _ c.if-not-p.false in
    omega (arith, g.nearer (omega (arith, w.page-size, c.requires.1)) (omega (arith, w.cells-size)) more, g.inside more)

pub loop-to-preserved : goal.loop-to-preserved
loop-to-preserved c =
    let n = c.next_part-p in
    let well = well_of _ (sym c.is_err.ensures.value ∙ c.if-is_err.false) in (
      going_on _ _ c.loop-to.invariant.0 n.ensures.next_part n.auto.out n.auto.cells
          (c.use_part-u.ensures.all well) (not-false _ c.if-not-p.false),
      master-kept (goal.at.loop-to-preserved c).After-use_part-u,
    )
