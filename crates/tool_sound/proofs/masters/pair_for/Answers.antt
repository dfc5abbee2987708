use mathlib.Core.Path.{ap, ◌∙◌}
use native.Mathlib.Omega.{arith}
use mir.Syntax.{w16}
use mir.Facts.{to_z-of_z}
use Rattle.std.specs.Int.{to_le_bytes, cast_unsigned}
use Rattle.linear_masters.proofs.Values.{mag-value}
use Rattle.tool_sound.specs.Masters.{value_for}
use Rattle.tool_sound.proofs.Values.{value-written}
use Rattle.tool_sound.proofs.masters.pair_for.Goals as goal

pub returns : goal.returns
returns c =
    let a = c.args in
    let v = c.value_for in
    c.to_le_bytes.ensures
    ∙ ap (λ z. to_le_bytes w16 (cast_unsigned w16 z)) (to_z-of_z {w = w16} (record { sfits = v.type_inv }) ∙ v.ensures)
    ∙ value-written (value_for a.law a.octet) (mag-value a.law a.octet (omega arith))
