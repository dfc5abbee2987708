-- R-8's lines, judged in cells of their own (Loading).
use mathlib.Core.Path.{◌≡◌, refl, sym, ◌∙◌}
use mathlib.Core.Bool.{true}
use native.Mathlib.Omega.{arith}
use Rattle.store_text.specs.Noted.{listed_at}
use Rattle.store_save.specs.Steps.{greetings_of, is_whole, Celled}
use Rattle.store_save.proofs.Loading.{fills-as, celled-noted, noted-ready, noted-held}
use Rattle.store_save.proofs.load_noted.Goals.{In-Some}
use Rattle.store_save.proofs.load_noted.Goals as goal

-- the text's greetings, in cells
module _ (c : In-Some) where
  celled : (is_whole (listed_at c.args.form.most c.args.form.from c.args.text.now) ≡ true) × Celled
      (greetings_of (listed_at c.args.form.most c.args.form.from c.args.text.now)) c.read_noted.new.cells
      c.read_noted.new.laws c.in-Some.n
  celled =
      celled-noted (listed_at c.args.form.most c.args.form.from c.args.text.now)
      (fills-as {found = (listed_at c.args.form.most c.args.form.from c.args.text.now)} c.in-Some.is c.read_noted.ensures)
      (omega (arith, c.read_noted.auto.cells)) (omega (arith, c.read_noted.auto.laws))

pub judge_noted-requires : goal.judge_noted-requires
judge_noted-requires c = let w = celled (goal.at.judge_noted-requires c).In-Some in (c.requires.0, w.0, w.1)

pub hold-requires : goal.hold-requires
hold-requires c =
    let w = celled (goal.at.hold-requires c).In-Some in
    noted-ready c.args.block.now (listed_at c.args.form.most c.args.form.from c.args.text.now) w.0 w.1 c.judge_noted.ensures
    c.requires.1 c.requires.2 (c.in_ok-judge_noted.was)

pub returns : goal.returns
returns c =
    let w = celled (goal.at.returns c).In-Some in
    noted-held c.args.block.now (listed_at c.args.form.most c.args.form.from c.args.text.now) w.0 w.1
    (sym (c.in_ok-judge_noted.was) ∙ c.judge_noted.ensures) (record { answer = refl; table = c.hold.ensures })
