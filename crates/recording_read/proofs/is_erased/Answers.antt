-- The first sample tells which of the two marks it may be, or that it is none (Erasing).
use Prim.Native.Nat.{ℕ, ◌≤◌}
use mathlib.Core.Path.{sym, ap, ◌∙◌}
use native.Mathlib.Omega.{arith}
use lib.ListN.{length}
use borrow.Author.Tests.{eqb-true, eqb-false}
use Rattle.rules.specs.Samples.{mask_of}
use Rattle.write_scan.proofs.Tests.{mask-seven, is-mask}
use Rattle.recording.specs.Remembered.{plus_plus, minus_minus}
use Rattle.recording_read.proofs.Erasing.{erased-none, erased-plus, erased-minus, erased-other}
use Rattle.recording_read.proofs.is_erased.Goals.{After-mask_of-mask, then-first-plus_plus, else-first-plus_plus}
use Rattle.recording_read.proofs.is_erased.Goals as goal

pub returns-then-is_empty : goal.returns-then-is_empty
returns-then-is_empty c = erased-none _ _ (eqb-true (length c.args.frame.now) 0 (sym c.is_empty.ensures ∙ c.if-is_empty.true))

pub plus_plus-requires : goal.plus_plus-requires
plus_plus-requires c = rw c.mask_of-mask.ensures (mask-seven _ (is-mask c.args.law))

pub minus_minus-requires : goal.minus_minus-requires
minus_minus-requires c = rw c.mask_of-mask.ensures (mask-seven _ (is-mask c.args.law))

-- a frame of samples
module _ (c : After-mask_of-mask) where
  some : 1 ≤ length c.args.frame.now
  some = let d = eqb-false (length c.args.frame.now) 0 (sym c.is_empty.ensures ∙ c.if-is_empty.false) in omega arith

pub returns-then-first-minus_minus : goal.returns-then-first-minus_minus
returns-then-first-minus_minus c =
    let m = c.mask_of-mask.ensures in
    let s = some (goal.at.returns-then-first-minus_minus c).After-mask_of-mask in
    elim c.if-first-plus_plus.branch [
      | then-first-plus_plus w ↦
          let p = eqb-true _ _ (sym w.value-is ∙ c.if-first-minus_minus.true) ∙ c.plus_plus.ensures ∙ ap (λ (mask : ℕ). plus_plus mask) m in
          rw c.all_are.ensures (erased-plus (mask_of c.args.law) c.args.frame.now s p)
      | else-first-plus_plus w ↦
          let p = eqb-true _ _ (sym w.value-is ∙ c.if-first-minus_minus.true) ∙ w.minus_minus.ensures ∙ ap (λ (mask : ℕ). minus_minus mask) m in
          rw c.all_are.ensures (erased-minus (mask_of c.args.law) c.args.frame.now s p)
    ]

pub returns-else-first-minus_minus : goal.returns-else-first-minus_minus
returns-else-first-minus_minus c =
    let m = c.mask_of-mask.ensures in
    let s = some (goal.at.returns-else-first-minus_minus c).After-mask_of-mask in
    let p = c.plus_plus.ensures ∙ ap (λ (mask : ℕ). plus_plus mask) m in
    elim c.if-first-plus_plus.branch [
      | then-first-plus_plus w ↦
          absurd (eqb-false _ _ (sym w.value-is ∙ c.if-first-minus_minus.false) w.if-first-plus_plus.true)
      | else-first-plus_plus w ↦
          let q = w.minus_minus.ensures ∙ ap (λ (mask : ℕ). minus_minus mask) m in
          erased-other (mask_of c.args.law) c.args.frame.now s (λ e. w.if-first-plus_plus.false (e ∙ sym p))
          (λ e. eqb-false _ _ (sym w.value-is ∙ c.if-first-minus_minus.false) (e ∙ sym q))
    ]
