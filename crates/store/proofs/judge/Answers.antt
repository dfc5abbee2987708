use Prim.Native.Nat.{ℕ}
use mathlib.Core.Path.{sym, ap, ◌∙◌}
use lib.ListN.{get_or}
use Rattle.std.proofs.Common.{Option}
use Rattle.std.specs.Prelude.{unwrap_or}
use Rattle.store_rows.specs.Cells.{rows_at}
use Rattle.store_rows.proofs.Cells.{length-rows}
use Rattle.store_rows.proofs.Finding.{place-or}
use Rattle.store.proofs.Looks.{look-stop, look-found}
use Rattle.store.proofs.judge.Goals as goal

pub returns-then-not-is_number : goal.returns-then-not-is_number
returns-then-not-is_number c = look-stop c.args.table.now c.args.number (sym c.is_number.ensures ∙ c.if-not-is_number.true)

pub returns : goal.returns
returns c =
    let t = c.args.table.now in
    let n = get_or t 0 0 in
    let found = place-or c.args.number n (rows_at t n 1) (length-rows t n 1)
    (c.unwrap_or.ensures ∙ ap (λ (o : Option ℕ). unwrap_or o n) c.find.ensures) in
    look-found t c.args.number (sym c.is_number.ensures ∙ c.if-not-is_number.false) found.0
