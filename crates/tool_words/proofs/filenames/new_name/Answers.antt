use Rattle.std.proofs.Common.{sym}
use Rattle.tool_words.proofs.TextLaws.{laid_as}
use Rattle.tool_words.proofs.Names.{name-appended, name-replaced}
use Rattle.tool_words.proofs.filenames.new_name.Goals as goal

pub returns-in-None : goal.returns-in-None
returns-in-None c =
    let a = c.args in
    let e = c.new_ending-ending in
    laid_as (name-appended a.packs a.law a.name.now e.result (sym c.in-None.ensures) e.ensures.value) c.lay.ensures

pub returns-in-Some : goal.returns-in-Some
returns-in-Some c =
    let a = c.args in
    let n = c.new_ending-ending in
    laid_as
    (name-replaced a.packs a.law a.name.now c.ending_at.result _ n.result
    (sym c.in-Some.ensures) c.ending_at.ensures.value n.ensures.size n.ensures.value)
    c.lay-in-Some.ensures
