use mathlib.Core.Path.{sym, ◌∙◌}
use Rattle.rules.specs.Samples.{mask_of}
use Rattle.rules.proofs.Guards.{read-refused, read-allowed}
use Rattle.read_opening.proofs.opens.Goals as goal

-- refused
pub returns-in-Err : goal.returns-in-Err
returns-in-Err c =
    let a = c.args in
    let e = sym c.guard.ensures ∙ c.in-Err.is in
    record { says = λ room. sym (read-refused a.octets.now a.law a.set room e); ranges = tt }

-- else the frame
pub returns-in-Ok : goal.returns-in-Ok
returns-in-Ok c =
    let a = c.args in
    let e = sym c.guard.ensures ∙ c.in-Ok.is in
    record {
      says = λ room. c.opening_of.ensures.says (mask_of a.law) a.set room
          ∙ sym (read-allowed a.octets.now a.law a.set room e);
      ranges = c.opening_of.ensures.ranges;
    }
