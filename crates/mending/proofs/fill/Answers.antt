use Prim.Native.Nat.{◌+◌}
use native.Mathlib.Omega.{arith}
use lib.ListN.{length}
use Rattle.mending.proofs.Filling.{by320, by240, by160, by80, by40, filling-length, room-on, room-first, fills}
use Rattle.mending.proofs.fill.Goals as goal

pub put_frames-a-requires : goal.put_frames-a-requires
put_frames-a-requires c = omega (arith, filling-length c.args.left, c.requires)

pub put_frames-b-requires : goal.put_frames-b-requires
put_frames-b-requires c =
    let left = c.args.left in
    omega (
      arith,
      room-on (by320 left) 0x31 (by240 left + (by160 left + (by80 left + (by40 left))))
          c.put_frames-a.ensures (room-first left c.args.at (length c.args.out.now) c.requires),
    )

pub put_frames-c-requires : goal.put_frames-c-requires
put_frames-c-requires c =
    let left = c.args.left in
    omega (
      arith,
      room-on (by240 left) 0x21 (by160 left + (by80 left + (by40 left)))
          c.put_frames-b.ensures
          (room-on (by320 left) 0x31 (by240 left + (by160 left + (by80 left + (by40 left))))
          c.put_frames-a.ensures
          (room-first left c.args.at (length c.args.out.now) c.requires)),
    )

pub put_frames-d-requires : goal.put_frames-d-requires
put_frames-d-requires c =
    let left = c.args.left in
    omega (
      arith,
      room-on (by160 left) 0xC1 (by80 left + (by40 left))
          c.put_frames-c.ensures (room-on (by240 left) 0x21 (by160 left + (by80 left + (by40 left)))
          c.put_frames-b.ensures
          (room-on (by320 left) 0x31 (by240 left + (by160 left + (by80 left + (by40 left))))
          c.put_frames-a.ensures
          (room-first left c.args.at (length c.args.out.now) c.requires))),
    )

pub put_frames-requires : goal.put_frames-requires
put_frames-requires c =
    let left = c.args.left in
    omega (
      arith,
      room-on (by80 left) 0x81 (by40 left)
          c.put_frames-d.ensures (room-on (by160 left) 0xC1 (by80 left + (by40 left))
          c.put_frames-c.ensures (room-on (by240 left) 0x21 (by160 left + (by80 left + (by40 left)))
          c.put_frames-b.ensures (room-on (by320 left) 0x31
          (by240 left + (by160 left + (by80 left + (by40 left)))) c.put_frames-a.ensures
          (room-first left c.args.at (length c.args.out.now) c.requires)))),
    )

pub returns : goal.returns
returns c =
    fills c.args.left
    c.put_frames-a.ensures
    c.put_frames-b.ensures
    c.put_frames-c.ensures
    c.put_frames-d.ensures c.put_frames.ensures
