use mathlib.Core.Path.{◌≡◌, refl, sym, ap, ◌∙◌}
use mathlib.Core.Bool.{true}
use borrow.Author.Tests.{leb-true}
use Rattle.std.proofs.Common.{Ok, Err}
use Rattle.std.proofs.lemmas.Bool.{false≢true}
use Rattle.std.specs.Result.{is_ok}
use Rattle.rules.specs.Refusals.{Ending}
use Rattle.rules.specs.Walk.{walk_asks}
use Rattle.rules.proofs.Guards.{all-met}
use Rattle.unpack.proofs.with_frames.Goals as goal

done : (e : Ending) → is_ok e ≡ true → e ≡ Ok tt
done (Ok _) t = refl
done (Err why) t = absurd (false≢true t)

pub to_other-requires : goal.to_other-requires
to_other-requires c =
    let g = c.guard_stream in
    let e : g.result ≡ Ok tt = done g.result (ap is_ok (sym c.judged.ensures) ∙ sym c.is_ok.ensures.value ∙ c.if-is_ok.true) in
    let m = all-met (walk_asks c.args.how.law c.args.how.set c.args.b.size) (sym g.ensures ∙ e) in
    let l = leb-true _ _ m.1.1.0 in
    ((l, c.requires), (m.0, m.1.0))
