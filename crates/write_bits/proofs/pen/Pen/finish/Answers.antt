use Rattle.std.proofs.Common.{◌-◌, ◌%◌, refl, arith}
use lib.Pow.{pow_pos}
use Rattle.rules.proofs.Octets.{length-low_bits}
use Rattle.write_bits.proofs.Finishing.{finished}
use Rattle.write_bits.proofs.pen.Pen.finish.Goals as goal

pub put-requires : goal.put-requires
put-requires c = record { able = record { room = omega (arith, c.requires.room) }; n_bound = (omega arith, pow_pos _) }

pub flush-requires : goal.flush-requires
flush-requires c =
    let e = c.put.ensures in
    let n = length-low_bits ((8 - c.args.self.held % 8) % 8) 0 in
    record {
      able = record { room = omega (arith, e.place, n, c.requires.room, c.put.auto.out) };
      held_value = omega (arith, e.place, n);
    }

pub returns : goal.returns
returns c = finished _ c.requires refl c.put.ensures c.flush.ensures (λ i. (c.type_inv.out i).fits)
