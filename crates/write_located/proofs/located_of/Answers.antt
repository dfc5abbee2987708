use mathlib.Core.Path.{refl}
use native.Mathlib.Omega.{arith}
use Rattle.write_scan.proofs.Tests.{mask-seven, law-for}
use Rattle.write_located.proofs.Rows.{turn-of, located-is, ways-small}
use Rattle.write_located.proofs.located_of.Goals as goal

pub overflow_add-t : goal.overflow_add-t
overflow_add-t c = omega (arith, c.requires.tallied.0.all, c.requires.frame_in.0.few)

pub values_of-v-requires : goal.values_of-v-requires
values_of-v-requires c = mask-seven _ c.requires.frame_in.1

pub plus_zero-requires : goal.plus_zero-requires
plus_zero-requires c = mask-seven _ c.requires.frame_in.1

pub ways_of-w-requires : goal.ways_of-w-requires
ways_of-w-requires c =
    let f = c.requires.frame_in.0 in
    record {
      frame_bound = (f.few, f.whole);
      in_turn = turn-of c.requires.tallied.0 (law-for c.args.mask c.requires.frame_in.1) c.args.k.row
          c.flag_of-flag.result c.plus_zero.ensures c.values_of-v.ensures;
    }

pub located_bits-requires : goal.located_bits-requires
located_bits-requires c =
    let w = ways-small c.ways_of-w.ensures in omega (arith, w.0, w.1.0, w.1.1)

pub returns : goal.returns
returns c =
    let flag = c.flag_of-flag in
    let told = c.values_of-v.ensures in
    let turn = turn-of c.requires.tallied.0 (law-for c.args.mask c.requires.frame_in.1) c.args.k.row flag.result
    c.plus_zero.ensures told in
    located-is c.requires.tallied.0 refl c.requires.row_value
    flag.ensures.0 flag.ensures.1 told turn c.ways_of-w.ensures c.located_bits.ensures
