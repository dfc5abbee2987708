-- Window after window (Onward); the measure is how far it is to the end.
use Prim.Native.Nat.{◌+◌, ◌≤◌}
use mathlib.Core.Path.{◌≡◌, refl, sym, ap, ◌∙◌}
use mathlib.Core.Bool.{false≢true}
use native.Mathlib.Omega.{arith}
use lib.ListN.{length, take}
use lib.Seq.{length-take-le}
use Rattle.tool_playback.specs.declared.playing.Total.{Total}
use Rattle.tool_playback.specs.Runs.{Within, behind_of}
use Rattle.tool_playback.proofs.Onward.{along-first, along-behind, along-within, along-fit, along-unread, along-turn, along-whole}
use Rattle.tool_playback.proofs.playing.windows.Goals.{In-Ok, After-play-t, then-is_err-via-then-is_err, then-is_err-via-else-is_err+then-not-goes_further}
use Rattle.tool_playback.proofs.Wells.{well_of, ill}
use Rattle.tool_playback.proofs.playing.windows.Goals as goal

pub loop-n-init : goal.loop-n-init
loop-n-init c = rw c.nothing-done.ensures (along-first _ c.requires.1, omega arith, refl)

pub window_at-requires : goal.window_at-requires
window_at-requires c = (c.loop-n.invariant.1, c.requires.0)

-- a window was read
module _ (c : In-Ok) where
  sized : length (take c.in-Ok.n c.window_at.new.window) ≡ c.in-Ok.n
  sized = length-take-le _ _ c.in-Ok.ensures.0

  inside : c.loop-n.done.at + length (take c.in-Ok.n c.window_at.new.window) ≤ c.args.b.size
  inside = omega (arith, sized, c.in-Ok.ensures.1)

  kept : length c.window_at.new.window ≡ length c.args.window.now
  kept = c.window_at.auto.window ∙ c.loop-n.invariant.2

-- and played
module _ (c : After-play-t) where
  sized' : length (take c.in-Ok.n c.window_at.new.window) ≡ c.in-Ok.n
  sized' = length-take-le _ _ c.in-Ok.ensures.0

  inside' : c.loop-n.done.at + length (take c.in-Ok.n c.window_at.new.window) ≤ c.args.b.size
  inside' = omega (arith, sized', c.in-Ok.ensures.1)

  within : Within c.args.b.size (behind_of c.loop-n.done c.play-t.result)
  within = along-within _ c.requires.1 c.loop-n.invariant.0 c.play-t.ensures.within inside'

pub shape_of-window-in-Err : goal.shape_of-window-in-Err
shape_of-window-in-Err c = c.window_at.auto.window ∙ c.loop-n.invariant.2

pub returns-in-Err : goal.returns-in-Err
returns-in-Err c =
    let u = c.unread.ensures in
    record {
      tells_one = (λ z. absurd (false≢true (sym u.wrong ∙ z)));
      within = along-unread _ c.requires.1 c.loop-n.invariant.0 u c.loop-n.invariant.1;
    }

pub slice_bounds-play-end-in-loop-n : goal.slice_bounds-play-end-in-loop-n
slice_bounds-play-end-in-loop-n c = sym (sized (goal.at.slice_bounds-play-end-in-loop-n c).In-Ok)

pub play-t-requires : goal.play-t-requires
play-t-requires c =
    let i = c.loop-n.invariant in
    let s = c.requires in
    (omega (arith, inside (goal.at.play-t-requires c).In-Ok, s.0.0), along-behind _ s.1 i.0 (omega (arith, i.1, s.0.0)))

pub behind-total-requires : goal.behind-total-requires
behind-total-requires c =
    along-fit _ c.requires.1 c.loop-n.invariant.0 c.play-t.ensures.within (inside (goal.at.behind-total-requires c).In-Ok) c.requires.0.0

pub shape_of-window-then-is_err : goal.shape_of-window-then-is_err
shape_of-window-then-is_err c = kept (goal.at.shape_of-window-then-is_err c).In-Ok

pub returns-then-is_err : goal.returns-then-is_err
returns-then-is_err c =
    let p = c.requires in
    record {
      tells_one = rw c.behind-total.ensures (elim c.then-is_err.branch [
        | then-is_err-via-then-is_err b ↦ λ z. absurd (ill _ (sym c.is_err.ensures.value ∙ b.if-is_err.true) z)
        | then-is_err-via-else-is_err+then-not-goes_further b ↦
            λ z. along-whole _ p.1 c.loop-n.invariant.0 _
            (omega (arith, inside (goal.at.returns-then-is_err c).In-Ok, p.0.0)) (c.play-t.ensures.tells_file z)
      ]);
      within = rw c.behind-total.ensures (within (goal.at.returns-then-is_err c).After-play-t);
    }

pub shape_of-window-then-t-eq0 : goal.shape_of-window-then-t-eq0
shape_of-window-then-t-eq0 c = kept (goal.at.shape_of-window-then-t-eq0 c).In-Ok

pub returns-then-t-eq0 : goal.returns-then-t-eq0
returns-then-t-eq0 c =
    let u = c.unread-then-t-eq0.ensures in
    record {
      tells_one = (λ z. absurd (false≢true (sym u.wrong ∙ z)));
      within = along-unread _ c.requires.1 c.loop-n.invariant.0 u c.loop-n.invariant.1;
    }

pub loop-n-smaller : goal.loop-n-smaller
loop-n-smaller c =
    let w = within (goal.at.loop-n-smaller c).After-play-t in
    omega (arith, w.ends, ap (λ (t : Total). t.at) c.behind-total.ensures)

pub loop-n-preserved : goal.loop-n-preserved
loop-n-preserved c =
    let p = c.requires in
    let well = well_of _ (sym c.is_err.ensures.value ∙ c.if-is_err.false) in
    rw c.behind-total.ensures (
      along-turn _ p.1 c.loop-n.invariant.0 _ (omega (arith, inside (goal.at.loop-n-preserved c).In-Ok, p.0.0))
          (c.play-t.ensures.tells_file well),
      (within (goal.at.loop-n-preserved c).After-play-t).ends,
      kept (goal.at.loop-n-preserved c).In-Ok,
    )
