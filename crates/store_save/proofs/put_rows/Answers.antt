-- The cells copied (Holding).
use mathlib.Core.Path.{ap, ◌∙◌}
use mathlib.Core.List.{List, ◌++◌}
use Prim.Native.Nat.{ℕ, ◌+◌, ◌*◌}
use lib.ListN.{drop}
use Rattle.store_save.proofs.Holding.{rows-put}
use Rattle.store_save.proofs.put_rows.Goals as goal

pub returns : goal.returns
returns c =
    let a = c.args in
    ap (λ (l : List ℕ). l ++ drop (1 + 3 * a.n) a.table.now) c.copy_over.ensures.after
    ∙ rows-put a.cells.now a.table.now a.n c.requires.1 c.requires.3
