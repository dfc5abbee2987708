use Rattle.std.proofs.Common.{◌≡◌, sym, ◌∙◌, None}
use Rattle.std.proofs.lemmas.Result.{err_from_is_err_and}
use Rattle.settings.specs.declared.Refusal.TheVariants.{Gone}
use Rattle.settings.proofs.Calls.{read-gone, read-text}
use Rattle.settings.proofs.read.Goals as goal

pub returns-in_err-v : goal.returns-in_err-v
returns-in_err-v c =
    let p = err_from_is_err_and c.from_residual.result c.from_residual.ensures.1 in
    let none : c.look_up.result ≡ None = c.in_err-v.ensures.ok_part in
    let gone = rw none at c.in_err-v.ensures.value in
    let same : c.in_err-v.field-0.0 ≡ Gone = cc in
    rw (p.1, p.2, same) (read-gone _ (sym c.look_up.ensures ∙ none))

pub returns : goal.returns
returns c = read-text _ _ (sym c.look_up.ensures ∙ c.in_ok-v.ensures.ok_part) c.put_settings-octets.ensures.puts
