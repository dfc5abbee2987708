use Rattle.std.proofs.Common.{◌++◌, slice_set, slice_index_or}
use mathlib.Core.Path.{ap, sym, ◌∙◌}
use mathlib.Core.List.{append-nil}
use native.Mathlib.Omega.{arith}
use native.Mathlib.Nat.{zero-add}
use lib.ListN.{drop_of_length-le}
use Rattle.std.proofs.Math.Seq.{paste}
use Rattle.std.proofs.lemmas.List.Edits.{paste_more, paste_all}
use Rattle.rules.proofs.copy_over.Goals as goal

pub loop-i-preserved : goal.loop-i-preserved
loop-i-preserved g c =
    let to = c.args.to.now in
    let from = c.args.from.now in
    let i = c.loop-i.i in
    let x = c.index-from-i.result in
    ap (λ d. slice_set d i x) c.loop-i.invariant
    ∙ ap (slice_set (paste to 0 from i) i) c.index-from-i.is
    ∙ ap (λ k. slice_set (paste to 0 from i) k (slice_index_or from i x)) (sym (zero-add i))
    ∙ paste_more to 0 from i x (omega arith) (omega arith)

pub returns-clause-after : goal.returns-clause-after
returns-clause-after g c =
    c.loop-i.invariant
    ∙ paste_all c.args.to.now 0 c.args.from.now c.loop-i.i (omega arith)
    ∙ ap (λ d. c.args.from.now ++ d) (drop_of_length-le c.args.to.now (omega arith))
    ∙ append-nil c.args.from.now
