use Rattle.std.proofs.Common.{◌<◌, length, get_or, refl, sym, arith}
use Rattle.std.proofs.lemmas.Grind.{get_or_default_zero}
use Rattle.std.proofs.lemmas.List.Edits.{map_over_more}
use Rattle.write_zeros.proofs.Turning.{turn_word, whole_turned, flags-turned, turned-small}
use Rattle.write_zeros.proofs.turned.Goals as goal

pub loop-w-preserved : goal.loop-w-preserved
loop-w-preserved c =
    let l = c.loop-w in
    let more : l.w-index < length c.args.row.now.words = omega arith in
    map_over_more turn_word c.args.row.now.words l.w-items l.w-index (get_or l.w-items l.w-index 0) more l.invariant
    (sym (get_or_default_zero l.w-items l.w-index _ (omega (arith, c.loop-w-test.true))))

pub invariant_of-result : goal.invariant_of-result
invariant_of-result c =
    let whole = whole_turned c.args.row.now.words c.loop-w.w-index (omega arith) in
    record { small = rw (c.loop-w.invariant, whole) (turned-small c.args.row.now.words); few = c.args.row.now.few }

pub returns : goal.returns
returns c =
    let whole = whole_turned c.args.row.now.words c.loop-w.w-index (omega arith) in
    record { says = rw (c.loop-w.invariant, whole) (flags-turned c.args.row.now); size = refl }
