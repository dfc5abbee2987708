-- TABLE, BAD, TABLE (Judging).
use mathlib.Core.Path.{sym, ap, ◌∙◌}
use Rattle.store_rows.specs.Limits.{size_of}
use Rattle.store_text.specs.Noted.{listed_at}
use Rattle.store_save.specs.Steps.{greetings_of}
use Rattle.store_save.specs.Calls.{verdict_of}
use Rattle.store_save.proofs.Judging.{Passes, celled-stop, celled-fine, celled-count, passes-true, passes-false, sound, handed_on}
use Rattle.store_save.proofs.judge_noted.Goals.{In_ok-judge_rows}
use Rattle.store_save.proofs.judge_noted.Goals as goal

pub judge_rows-requires : goal.judge_rows-requires
judge_rows-requires c = let p = c.requires.2 in (p.few, p.cells-room, p.laws-room)

-- the rows are fine
module _ (c : In_ok-judge_rows) where
  fine : Passes c.args.block.now (size_of c.args.block.now)
      (greetings_of (listed_at c.args.form.most c.args.form.from c.args.text.now))
  fine = celled-fine c.requires.2 c.args.block.now (size_of c.args.block.now) (c.in_ok-judge_rows.ensures)

pub returns-in_err-judge_rows : goal.returns-in_err-judge_rows
returns-in_err-judge_rows c =
    let b = c.args.block.now in
    handed_on c.from_residual.result c.from_residual.ensures.1 ∙ celled-stop c.requires.2 b (size_of b) (c.in_err-judge_rows.ensures)

pub all_true-requires : goal.all_true-requires
all_true-requires c =
    let p = c.requires in
    (p.0, sound _ p.1 (fine (goal.at.all_true-requires c).In_ok-judge_rows) c.size_of.ensures (celled-count p.2))

pub returns-then-all_true : goal.returns-then-all_true
returns-then-all_true c =
    sym (ap verdict_of (passes-true (fine (goal.at.returns-then-all_true c).In_ok-judge_rows) (rw c.all_true.ensures at c.if-all_true.true)))

pub returns-else-all_true : goal.returns-else-all_true
returns-else-all_true c =
    passes-false (fine (goal.at.returns-else-all_true c).In_ok-judge_rows) (rw c.all_true.ensures at c.if-all_true.false)
