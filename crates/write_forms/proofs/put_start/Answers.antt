-- The first code, by N (Pieces).
use mathlib.Core.Path.{◌∙◌}
use native.Mathlib.Omega.{arith}
use Rattle.write_bits.proofs.Putting.{puts-as, able-as}
use Rattle.write_forms.proofs.Pieces.{start-long, start-short, bits-length}
use Rattle.write_forms.proofs.put_start.Goals as goal

pub put-requires : goal.put-requires
put-requires c =
    let e = start-long c.args.n c.args.mark c.requires.mark_bound c.if-n-ge240.true (c.from-base.ensures ∙ c.base_of.ensures) in
    record {
      able = able-as c.requires.able (omega (arith, bits-length 7 _ e));
      n_bound = (omega arith, omega (arith, c.requires.mark_bound));
    }

pub returns-then-n-ge240 : goal.returns-then-n-ge240
returns-then-n-ge240 c =
    puts-as c.put.ensures (start-long c.args.n c.args.mark c.requires.mark_bound c.if-n-ge240.true (c.from-base.ensures ∙ c.base_of.ensures))

pub put-requires-else-n-ge240 : goal.put-requires-else-n-ge240
put-requires-else-n-ge240 c =
    let e = start-short c.args.n c.args.mark c.requires.mark_bound c.if-n-ge240.false (c.from-base.ensures ∙ c.base_of.ensures) in
    record {
      able = able-as c.requires.able (omega (arith, bits-length 5 _ e));
      n_bound = (omega arith, omega (arith, c.requires.mark_bound));
    }

pub returns-else-n-ge240 : goal.returns-else-n-ge240
returns-else-n-ge240 c =
    puts-as c.put-else-n-ge240.ensures (start-short c.args.n c.args.mark c.requires.mark_bound c.if-n-ge240.false (c.from-base.ensures ∙ c.base_of.ensures))
