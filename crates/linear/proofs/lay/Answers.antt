use native.Mathlib.Omega.{arith}
use Prim.Native.Nat.{◌≤◌, ◌<◌}
use lib.ListN.{length, get_or}
use Rattle.std.proofs.Common.{◌≡◌, ap, rules}
use Rattle.rules.proofs.Lent.{mapped-turn, mapped-whole}
use Rattle.linear.proofs.lay.Goals as goal

pub loop-i-preserved : goal.loop-i-preserved
loop-i-preserved g c =
    let a = c.args in
    let i = c.loop-i.i in
    let x = c.index-frame-i.result in
    let f = g.C.Conversion.by a.law in
    let in_list : i < length a.frame.now = omega arith in
    let in-room : length a.frame.now ≤ length a.out.now = omega arith in
    let read : x ≡ get_or a.frame.now i x = search rules in
    rw c.loop-i.invariant (mapped-turn f a.frame.now a.out.now i x c.by.result in_list in-room (rw c.by.ensures (ap f read)))

pub returns : goal.returns
returns g c =
    let a = c.args in
    rw c.loop-i.invariant (mapped-whole (g.C.Conversion.by a.law) a.frame.now a.out.now c.loop-i.i (omega arith))
