-- Each turn takes one frame more of the part, the next that `pack` cuts; the measure is what is left of it.
use Prim.Native.Nat.{◌+◌, ◌-◌, ◌≤◌}
use mathlib.Core.Path.{refl, sym, ◌∙◌}
use lib.ListN.{length}
use native.Mathlib.Omega.{arith}
use Rattle.tool_packing.proofs.Lengths.{Fits, next_fits}
use Rattle.why.proofs.Cutting.{cut-first, frame-in, cut_on, parts-on}
use Rattle.why.proofs.part_frames.Goals.{Else-len-eq0}
use Rattle.why.proofs.part_frames.Goals as goal

-- the next frame is within what is left of the part
module _ (c : Else-len-eq0) where
  some : 1 ≤ c.next_length-len.result
  some = omega arith

  fits : Fits
      (length c.args.part.now - c.loop-rt.from)
      c.next_length-len.result
  fits = next_fits _ _ c.next_length-len.result c.next_length-len.ensures some

pub loop-rt-init : goal.loop-rt-init
loop-rt-init c =
    let a = c.args in
    (omega arith, omega arith, omega arith, cut-first a.job.length a.part.now a.run.frames)

pub returns-then-len-eq0 : goal.returns-then-len-eq0
returns-then-len-eq0 c =
    let i = c.loop-rt.invariant in let whole = parts-on c.args.job.length c.args.run.frames c.args.run.samples c.args.part.now
    c.loop-rt.from c.loop-rt.k c.requires.parts_in i.2 i.3 c.next_length-len.result c.next_length-len.ensures
    (omega arith) c.last_end-end.result in record {
      frames = omega (arith, i.0, i.1);
      samples = omega (arith, i.0);
      whole = λ g.
          whole (sym c.may_go_on.ensures ∙ g);
    }

pub overflow_add-to : goal.overflow_add-to
overflow_add-to c =
    let f = fits (goal.at.overflow_add-to c).Else-len-eq0 in
    omega (arith, f.within, c.loop-rt.invariant.0, c.requires.part_len_bound.0)

pub slice_bounds-show_wanted-end : goal.slice_bounds-show_wanted-end
slice_bounds-show_wanted-end c =
    let f = fits (goal.at.slice_bounds-show_wanted-end c).Else-len-eq0 in
    omega (arith, f.within, c.loop-rt.invariant.0)

pub show_wanted-requires : goal.show_wanted-requires
show_wanted-requires c =
    let len = c.next_length-len.result in
    frame-in c.args.job.length c.args.run.frames c.args.run.samples c.args.part.now c.loop-rt.from c.loop-rt.k
    c.requires.parts_in c.loop-rt.invariant.2 c.loop-rt.invariant.3 len (c.loop-rt.from + len) c.next_length-len.ensures
    (some (goal.at.show_wanted-requires c).Else-len-eq0) refl

pub loop-rt-smaller : goal.loop-rt-smaller
loop-rt-smaller c =
    omega (arith, (fits (goal.at.loop-rt-smaller c).Else-len-eq0).within, (fits (goal.at.loop-rt-smaller c).Else-len-eq0).some, c.loop-rt.invariant.0)

pub loop-rt-preserved : goal.loop-rt-preserved
loop-rt-preserved c =
    let i = c.loop-rt.invariant in
    let len = c.next_length-len.result in
    let on = cut_on c.args.job.length c.args.run.frames c.args.run.samples c.args.part.now
    c.loop-rt.from c.loop-rt.k c.requires.parts_in i.2 i.3 len (c.loop-rt.from + len)
    c.next_length-len.ensures (some (goal.at.loop-rt-preserved c).Else-len-eq0) refl in (
      omega (arith, (fits (goal.at.loop-rt-preserved c).Else-len-eq0).within, i.0),
      omega
          (arith, (fits (goal.at.loop-rt-preserved c).Else-len-eq0).some, i.1),
      omega (arith, i.2),
      on,
    )
