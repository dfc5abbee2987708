-- The digit of the first six bits (Begun).
use native.Mathlib.Omega.{arith}
use Rattle.s_codes.proofs.Begun.{table-found}
use Rattle.s_codes.proofs.s_in.Goals as goal

pub bounds-t-s : goal.bounds-t-s
bounds-t-s c =
    let r = table-found c.table_of-t.ensures c.ranges.window.fits in
    omega (arith, r.most)

pub returns : goal.returns
returns c = rw c.from.ensures (table-found c.table_of-t.ensures c.ranges.window.fits)
