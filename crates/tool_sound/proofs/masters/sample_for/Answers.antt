use mathlib.Core.Path.{ap, ◌∙◌}
use native.Mathlib.Omega.{arith}
use mir.Syntax.{w16}
use mir.Facts.{to_z-of_z}
use Rattle.tool_sound.specs.Masters.{sample_for}
use Rattle.tool_sound.proofs.Values.{value-read}
use Rattle.tool_sound.proofs.masters.sample_for.Goals as goal

pub returns : goal.returns
returns c =
    let a = c.args in
    let v = c.from_le_bytes in
    c.sample_for.ensures ∙ ap (sample_for a.law) (to_z-of_z {w = w16} (record { sfits = v.type_inv }) ∙ v.ensures
    ∙ value-read a.low a.high (omega arith) (omega arith))
