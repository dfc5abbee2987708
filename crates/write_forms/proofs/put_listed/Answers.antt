use Prim.Native.Nat.{◌^◌, ◌≤◌}
use native.Mathlib.Omega.{arith}
use lib.Pow.{pow_mono}
use Rattle.write_forms.proofs.Ways.{listed_start, listed-fits, listed-able, listed_then, listed-done}
use Rattle.write_forms.proofs.put_listed.Goals as goal

pub loop-run-init : goal.loop-run-init
loop-run-init c = listed_start c.args.w c.args.runs.now c.requires.by_index

pub overflow_add-place : goal.overflow_add-place
overflow_add-place c =
    let few : 2 ^ c.args.w ≤ 2 ^ 9 = pow_mono {j = 9} c.requires.w_bound.0 in
    omega (arith, c.loop-run.invariant.small)

pub put-requires : goal.put-requires
put-requires c =
    let l = c.loop-run in
    record {
      able = listed-able c.args.w c.args.runs.now l.invariant (omega arith) c.from.ensures c.requires.able;
      n_bound = (omega (arith, c.requires.w_bound.0), listed-fits c.args.w c.args.runs.now l.invariant (omega arith) c.from.ensures);
    }

pub overflow_add-at : goal.overflow_add-at
overflow_add-at c =
    let few : 2 ^ c.args.w ≤ 2 ^ 9 = pow_mono {j = 9} c.requires.w_bound.0 in
    omega (arith, c.loop-run.invariant.small)

pub loop-run-preserved : goal.loop-run-preserved
loop-run-preserved c =
    listed_then c.args.w c.args.runs.now c.loop-run.invariant (omega arith) c.from.ensures c.put.ensures c.put.auto.out

pub returns : goal.returns
returns c = listed-done c.args.w c.args.runs.now c.loop-run.invariant (omega arith)
