-- What is put out is the frame's samples, of which there are so many, and room for them (Told, Lent).
use native.Mathlib.Omega.{arith}
use lib.ListN.{length}
use Rattle.std.proofs.Common.{Ok}
use Rattle.rules.specs.Frame.{read_one}
use Rattle.reader.specs.Taken.{Takes}
use Rattle.reader.proofs.Told.{opened, takes-as, len-of, taken-has}
use Rattle.reader.proofs.Lent.{samples-fit}
use Rattle.reader.proofs.put.Goals as goal

pub put_out-requires : goal.put_out-requires
put_out-requires c =
    let a = c.args in
    let f : Takes (read_one a.octets.now a.law a.set (length a.out.now)) (Ok c.in_ok-frame-in-Some.frame) c.with_tool.new.samples =
    takes-as (opened c.opens.ensures c.in_ok-opening.was c.in-Some.is _) (rw c.in_ok-frame-in-Some.was at c.with_tool.ensures)
    in
    (taken-has f, omega (arith, len-of _ f.says, (samples-fit a.octets.now a.law a.set (length a.out.now)).1))
