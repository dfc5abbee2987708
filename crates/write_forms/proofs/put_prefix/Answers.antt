use mathlib.Core.Path.{ap, ◌∙◌}
use Rattle.rules.specs.Bits.{low_bits}
use Rattle.write_bits.proofs.Putting.{puts-as}
use Rattle.write_forms.proofs.put_prefix.Goals as goal

pub returns : goal.returns
returns c = puts-as c.put.ensures (ap (low_bits 8) (c.from.ensures ∙ c.octet_for.ensures))
