use Rattle.std.proofs.Common.{◌≡◌, sym, ◌∙◌, None}
use Rattle.std.proofs.lemmas.Result.{err_from_is_err_and}
use Rattle.settings.specs.declared.Refusal.TheVariants.{Line}
use Rattle.settings.proofs.Calls.{save-line, save-adds}
use Rattle.settings.proofs.save.Goals as goal

pub returns-in_err-v : goal.returns-in_err-v
returns-in_err-v c =
    let p = err_from_is_err_and c.from_residual.result c.from_residual.ensures.1 in
    let none : c.settings_in.result ≡ None = c.in_err-v.ensures.ok_part in
    let gone = rw none at c.in_err-v.ensures.value in
    let same : c.in_err-v.field-0.0 ≡ Line = cc in
    rw (p.1, p.2, same) (save-line _ _ (sym c.settings_in.ensures ∙ none))

pub returns : goal.returns
returns c = save-adds _ _ _ (sym c.settings_in.ensures ∙ c.in_ok-v.ensures.ok_part) c.add.ensures
