use Rattle.reasons.proofs.Lines.{at_first}
use Rattle.reasons.proofs.text_of.Goals as goal

pub returns : goal.returns
returns c = at_first _ c.put_reasons.ensures.puts
