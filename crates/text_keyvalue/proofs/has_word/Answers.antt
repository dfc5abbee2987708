use mathlib.Core.Path.{◌∙◌}
use Rattle.std.proofs.lemmas.List.{take_rest}
use Rattle.text_keyvalue.proofs.Words.{has_begins}
use Rattle.text_keyvalue.proofs.has_word.Goals as goal

pub returns : goal.returns
returns c =
    let a = c.args in
    c.starts_with.ensures.value ∙ rw (take_rest a.text.now c.min.result, c.min.ensures) (has_begins a.word.now a.text.now a.at)
