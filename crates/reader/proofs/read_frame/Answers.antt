-- What was put out is the frame's samples (Lent).
use native.Mathlib.Omega.{arith}
use lib.ListN.{length}
use Rattle.reader.proofs.Lent.{samples-fit, out-has, frame-of}
use Rattle.reader.proofs.read_frame.Goals as goal

pub put_out-requires : goal.put_out-requires
put_out-requires c =
    let t = c.read_into-r.ensures in (
      omega (arith, t.tells.len, out-has t),
      omega
          (arith, t.tells.len, (samples-fit c.args.octets.now c.args.law c.args.set (length c.args.out.now)).0),
    )

pub returns : goal.returns
returns c =
    let t = c.read_into-r.ensures in
    record {
      end = t.tells.end;
      frame = frame-of t (samples-fit c.args.octets.now c.args.law c.args.set (length c.args.out.now)).0
          c.put_out.ensures;
      octets = t.tells.octets;
      bits = t.tells.bits;
      tool = t.tells.tool;
      bit = t.tells.bit;
      lent = t.lent;
    }
