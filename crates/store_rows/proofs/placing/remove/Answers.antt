use Prim.Native.Nat.{ℕ, ◌+◌, ◌*◌, ◌-◌}
use mathlib.Core.Path.{◌≡◌, ap, ◌∙◌}
use native.Mathlib.Omega.{arith}
use lib.ListN.{drop}
use lib.Seq.{paste}
use Rattle.store_rows.proofs.Changing.{removed}
use Rattle.store_rows.proofs.placing.remove.Goals as goal

pub returns : goal.returns
returns c =
    let s = c.args in
    let k = 1 + 3 * s.i in
    let left : 1 + 3 * s.n - (k + 3) ≡ 3 * (s.n - (s.i + 1)) = omega arith in
    removed s.table.now s.n s.i (omega arith) (omega arith) (omega arith)
    (c.copy_within.ensures.after ∙ ap (λ (x : ℕ). paste s.table.now k (drop (k + 3) s.table.now) x) left)
