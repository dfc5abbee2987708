use mathlib.Core.Path.{sym, ◌∙◌}
use lib.ListN.{length}
use Rattle.rules.proofs.Guards.{write-refused}
use Rattle.writer.proofs.Writing.{refused-writes, writes_as}
use Rattle.writer.proofs.write_some.Goals as goal

pub write_lawful-requires : goal.write_lawful-requires
write_lawful-requires c = (
  sym c.guard_writer.ensures ∙ c.in-Ok.is,
  c.requires,
)

pub returns-in-Err : goal.returns-in-Err
returns-in-Err c =
    let e = sym c.guard_writer.ensures ∙ c.in-Err.is in
    writes_as (refused-writes c.refused.ensures)
    (sym (write-refused c.args.n c.args.samples.now c.args.law c.args.set (length c.args.out.now) e))
