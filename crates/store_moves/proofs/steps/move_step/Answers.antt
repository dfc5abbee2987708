-- MOVE where the record tells of none; else a step, and the record after it (Worded).
use Prim.Native.Nat.{ℕ}
use mathlib.Core.Path.{◌≡◌, ap, ◌∙◌}
use mathlib.Core.List.{List}
use lib.ListN.{length}
use Rattle.store_moves.specs.Record.{told_by, told}
use Rattle.store_moves.proofs.Stepping.{moving-tells, lifted-tells}
use Rattle.store_moves.proofs.Worded.{words-none, words-moved, words-laid, page-of, page-of-lifted, sane-of, step_fits}
use Rattle.store_moves.proofs.steps.move_step.Goals.{After-told-state}
use Rattle.store_moves.proofs.steps.move_step.Goals as goal

-- what the words tell
module _ (c : After-told-state) where
  abbrev block : List ℕ
  block = c.args.block.now

  abbrev spare : List ℕ
  spare = c.args.spare.now

  abbrev words : List ℕ
  words = c.args.words.now

  tells : c.told-state.result ≡ told block spare words
  tells = c.told-state.ensures ∙ ap (λ (x : ℕ). told_by x (length spare) words) c.size_of-size.ensures

pub returns-in-Still : goal.returns-in-Still
returns-in-Still c =
    words-none (c.args.block.now) (c.args.spare.now) (c.args.words.now) (tells (goal.at.returns-in-Still c).After-told-state) c.args.next.now c.in-Still.is

pub hop_or_lift-after-requires : goal.hop_or_lift-after-requires
hop_or_lift-after-requires c =
    moving-tells (sane-of (c.args.block.now) (c.args.spare.now) (c.args.words.now)
    (tells (goal.at.hop_or_lift-after-requires c).After-told-state) c.in-Moving.is)

pub tell-requires : goal.tell-requires
tell-requires c =
    let f = c.in-Moving.is in
    record {
      page_bound = page-of (c.args.block.now) (c.args.spare.now) (c.args.words.now) (tells (goal.at.tell-requires c).After-told-state) f;
      fits = step_fits (c.args.block.now) (c.args.spare.now)
          (sane-of (c.args.block.now) (c.args.spare.now) (c.args.words.now) (tells (goal.at.tell-requires c).After-told-state) f)
          c.hop_or_lift-after.ensures;
    }

pub returns-in-Moving : goal.returns-in-Moving
returns-in-Moving c =
    words-moved (c.args.block.now) (c.args.spare.now) (c.args.words.now) (tells (goal.at.returns-in-Moving c).After-told-state) c.args.next.now c.in-Moving.is
    c.hop_or_lift-after.ensures c.tell.ensures

pub lay-after-requires : goal.lay-after-requires
lay-after-requires c =
    let r = lifted-tells (sane-of (c.args.block.now) (c.args.spare.now) (c.args.words.now)
    (tells (goal.at.lay-after-requires c).After-told-state) c.in-Lifted.is) in
    record { tells = r.0; m_in_bounds = r.1 }

pub tell-requires-in-Lifted : goal.tell-requires-in-Lifted
tell-requires-in-Lifted c =
    let f = c.in-Lifted.is in
    record {
      page_bound = page-of-lifted (c.args.block.now) (c.args.spare.now) (c.args.words.now)
          (tells (goal.at.tell-requires-in-Lifted c).After-told-state) f;
      fits = step_fits (c.args.block.now) (c.args.spare.now)
          (sane-of (c.args.block.now) (c.args.spare.now) (c.args.words.now) (tells (goal.at.tell-requires-in-Lifted c).After-told-state)
          f) c.lay-after.ensures;
    }

pub returns-in-Lifted : goal.returns-in-Lifted
returns-in-Lifted c =
    words-laid (c.args.block.now) (c.args.spare.now) (c.args.words.now) (tells (goal.at.returns-in-Lifted c).After-told-state) c.args.next.now c.in-Lifted.is
    c.lay-after.ensures c.tell-in-Lifted.ensures
