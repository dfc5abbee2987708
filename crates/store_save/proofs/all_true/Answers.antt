-- Greeting by greeting (Compared, Comparing).
use Prim.Native.Nat.{suc, ◌+◌, ◌-◌, ◌≤◌}
use mathlib.Core.Path.{◌≡◌, refl}
use native.Mathlib.Omega.{arith}
use lib.ListN.{take, drop}
use Rattle.store_text.specs.Noted.{listed_at}
use Rattle.store_text.specs.Fills.{line_row}
use Rattle.store_rows.specs.Rows.{greeting}
use Rattle.store_save.specs.Saved.{all_true}
use Rattle.store_save.specs.Steps.{greetings_of}
use Rattle.store_save.proofs.Compared.{HeadTurn, comparing-first, comparing-end, comparing-missing}
use Rattle.store_save.proofs.Compared.{comparing-turn, turn-lent, turn-part, turn-astray, turn_on}
use Rattle.store_save.proofs.all_true.Goals.{In-Some}
use Rattle.store_save.proofs.all_true.Goals as goal

pub loop-init : goal.loop-init
loop-init c = comparing-first _ _ c.requires.1

pub returns-in_default : goal.returns-in_default
returns-in_default c =
    let l : c.args.n - c.loop.counter ≡ suc (c.args.n - (c.loop.counter + 1)) = omega arith in
    comparing-missing c.loop.invariant l (c.in_default.ensures)

-- the greeting's head was read
module _ (c : In-Some) where
  turned : let a = c.args in
      let b = c.in-Some in
      HeadTurn a.form.most a.text.now a.block.now a.size (a.n - (c.loop.counter + 1)) c.loop.at
      (all_true a.block.now (greetings_of (listed_at a.form.most a.form.from a.text.now)))
      (line_row b.head.line) b.head.law b.place
  turned = comparing-turn c.loop.invariant (omega arith) (c.in-Some.ensures)

  -- and where it lies
  lies : (c.in-Some.head.line.start + c.in-Some.head.line.octets ≤ c.args.size)
  lies = turned.inside

  lent : let h = c.in-Some.head.line in
      take (h.start + h.octets - h.start) (drop h.start c.args.block.now) ≡ greeting c.args.block.now (line_row h)
  lent = turn-lent turned refl refl

pub slice_bounds-same_note-end : goal.slice_bounds-same_note-end
slice_bounds-same_note-end c = omega (arith, lies (goal.at.slice_bounds-same_note-end c).In-Some, c.requires.1.inside)

pub same_note-requires : goal.same_note-requires
same_note-requires c =
    let i = (goal.at.same_note-requires c).In-Some in
    turn-part (turned i) (lent i) c.requires.1.small

pub returns-in_default-same_note : goal.returns-in_default-same_note
returns-in_default-same_note c =
    let i = (goal.at.returns-in_default-same_note c).In-Some in
    turn-astray (turned i) (lent i) (c.in_default-same_note.ensures)

pub loop-preserved : goal.loop-preserved
loop-preserved c =
    let i = (goal.at.loop-preserved c).In-Some in
    turn_on (turned i) (lent i) (c.in-Some-same_note.ensures)

pub returns : goal.returns
returns c = comparing-end c.loop.invariant (omega arith)
