use mathlib.Core.Path.{◌≡◌, sym, ◌∙◌}
use mathlib.Core.Bool.{true, false, ◌&&◌}
use lib.Dec.{leb}
use lib.ListN.{get_or}
use native.Mathlib.Omega.{arith}
use borrow.Author.Tests.{le-leb, lt-leb}
use Rattle.store_rows.proofs.Judged.{sane-short, sane-is}
use Rattle.std.proofs.lemmas.Bool.{true≢false}
use Rattle.store_rows.specs.Cells.{rows_of}
use Rattle.store_rows.specs.Sane.{rising}
use Rattle.store_rows.proofs.rows.sane.Goals.{then-n-le-MOST_GREETINGS, else-n-le-MOST_GREETINGS}
use Rattle.store_rows.proofs.rows.sane.Goals as goal

pub returns-then-table-lt-LIST_CELLS : goal.returns-then-table-lt-LIST_CELLS
returns-then-table-lt-LIST_CELLS c = sane-short c.args.size c.args.table.now (omega arith)

pub returns-then-rises : goal.returns-then-rises
returns-then-rises c =
    let s = c.args in
    let n = get_or s.table.now 0 0 in
    let v : (leb n 32 && rising 1 0 s.size (rows_of s.table.now)) ≡ true =
    elim c.if-n-le-MOST_GREETINGS.branch [
      | then-n-le-MOST_GREETINGS w ↦
          let e : rising 1 0 s.size (rows_of s.table.now) ≡ true = sym w.rises.ensures ∙ sym w.value-is ∙ c.if-rises.true in
          rw (le-leb n 32 (omega arith), e)
      | else-n-le-MOST_GREETINGS w ↦ absurd (true≢false (sym c.if-rises.true ∙ w.value-is ∙ lt-leb n 32 (omega arith)))
    ]
    in
    c.distinct.ensures ∙ sym (sane-is s.size s.table.now (omega arith) ∙ rw v)

pub returns-else-rises : goal.returns-else-rises
returns-else-rises c =
    let s = c.args in
    let n = get_or s.table.now 0 0 in
    let v : (leb n 32 && rising 1 0 s.size (rows_of s.table.now)) ≡ false =
    elim c.if-n-le-MOST_GREETINGS.branch [
      | then-n-le-MOST_GREETINGS w ↦
          let e : rising 1 0 s.size (rows_of s.table.now) ≡ false = sym w.rises.ensures ∙ sym w.value-is ∙ c.if-rises.false in
          rw (le-leb n 32 (omega arith), e)
      | else-n-le-MOST_GREETINGS w ↦ rw (lt-leb n 32 (omega arith))
    ]
    in
    c.if-rises.false ∙ sym (sane-is s.size s.table.now (omega arith) ∙ rw v)
