use native.Mathlib.Omega.{arith}
use mathlib.Core.Path.{sym}
use lib.Seq.{length-take-le}
use Rattle.why.proofs.Showing.{shown}
use Rattle.why.proofs.show_frame.Goals as goal

pub slice_bounds-write_frame-end : goal.slice_bounds-write_frame-end
slice_bounds-write_frame-end c =
    sym (length-take-le _ _ (omega (arith, c.put_frame-n.ensures.most, c.put_frame-n.ensures.puts.size)))

pub write_frame-requires : goal.write_frame-requires
write_frame-requires c =
    record {
      cut = c.requires;
      shows =
          shown _ _ _ _ _ c.in-Ok.r c.in-Ok.ensures c.put_frame-n.ensures.puts;
    }
