use Rattle.std.proofs.Common.{sym, ◌∙◌, arith}
use Rattle.write_fractional.proofs.Keyed.{finding-hit, finding-miss, finding-end, key-told}
use Rattle.write_fractional.proofs.reducing.find_row.Goals as goal

pub returns-then-key_at-key-clause-row : goal.returns-then-key_at-key-clause-row
returns-then-key_at-key-clause-row c =
    finding-hit c.loop-k.invariant (omega arith) c.requires c.loop-k-test.true
    (sym c.key_at.ensures ∙ c.if-key_at-key.true ∙ key-told c.args.minus c.from.ensures c.from-2.ensures c.from-3.ensures)

pub loop-k-preserved : goal.loop-k-preserved
loop-k-preserved c =
    finding-miss c.loop-k.invariant (omega arith) c.requires c.loop-k-test.true
    (λ z. c.if-key_at-key.false (c.key_at.ensures ∙ z ∙ sym (key-told c.args.minus c.from.ensures c.from-2.ensures c.from-3.ensures)))

pub returns-clause-row : goal.returns-clause-row
returns-clause-row c = finding-end c.loop-k.invariant (omega arith) c.requires c.loop-k-test.false
