-- The stream's end, a refused frame, or a frame's line (Steps).
use native.Mathlib.Omega.{arith}
use lib.ListN.{length-drop}
use Rattle.walk.proofs.Told.{read-bounds}
use Rattle.listing_pages.proofs.Steps.{left_end, left-refused, step-last, step-frame}
use Rattle.listing_pages.proofs.step.Goals as goal

pub returns-then-stream-s : goal.returns-then-stream-s
returns-then-stream-s c =
    let a = c.args in
    let n = step-last a.stream.now c.last.ensures c.requires.1 (left_end a.stream.now a.s (omega arith)) in
    record { lists = n.0; less = n.1; size = c.requires.2 }

pub list_frame-requires : goal.list_frame-requires
list_frame-requires c =
    let b = read-bounds _ _ _ _ c.pass-r.ensures.tells c.in-Ok.is in
    let p = c.requires.0 in
    let n = length-drop c.args.s.at c.args.stream.now in (
      (
        omega (arith, p.frames, p.inside, p.short),
        omega (arith, b.inside, p.short),
        omega (arith, b.fits, p.samples, p.frames, p.inside, p.short),
      ),
      c.requires.1,
    )

pub returns-in-Err : goal.returns-in-Err
returns-in-Err c =
    let a = c.args in
    let r = c.pass-r.ensures in
    let n = step-last a.stream.now c.last-in-Err.ensures c.requires.1
    (rw c.number.ensures (left-refused a.stream.now a.s (omega arith) r.tells c.in-Err.is)) in
    record { lists = n.0; less = n.1; size = r.size }

pub returns-in-Ok : goal.returns-in-Ok
returns-in-Ok c =
    let r = c.pass-r.ensures in
    let n = step-frame c.args.stream.now c.list_frame.ensures c.requires.0 c.requires.1 c.if-stream-s.false r.tells c.in-Ok.is in
    record { lists = n.0; less = n.1; size = r.size }
