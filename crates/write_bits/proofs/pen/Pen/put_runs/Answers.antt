use Rattle.write_bits.proofs.Rice.{runs_none, runs-able, runs_then}
use Rattle.write_bits.proofs.pen.Pen.put_runs.Goals as goal

pub loop-v-init : goal.loop-v-init
loop-v-init c = runs_none _ _ _ _

pub put_rice-requires : goal.put_rice-requires
put_rice-requires c =
    record { s_bound = c.requires.s_bound; able = runs-able c.loop-v.invariant c.loop-v-test.true c.requires.able c.from.ensures }

pub loop-v-preserved : goal.loop-v-preserved
loop-v-preserved c = runs_then c.loop-v.invariant c.loop-v-test.true c.from.ensures c.put_rice.ensures c.put_rice.auto.out
