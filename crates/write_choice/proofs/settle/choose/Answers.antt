-- What is settled, and what the measures tell of the rest (Settling).
use mathlib.Core.Path.{refl}
use Rattle.write_scan.proofs.Tests.{mask-seven}
use Rattle.write_choice.proofs.Settling.{settled-chosen}
use Rattle.write_choice.proofs.settle.choose.Goals as goal

pub spread_of-l-requires : goal.spread_of-l-requires
spread_of-l-requires c = record { some = c.requires.0.some; mask_bound = mask-seven _ c.requires.1 }

pub plain_tool-requires : goal.plain_tool-requires
plain_tool-requires c = record { frame_in = c.requires; spread_is = c.spread_of-l.ensures }

pub returns-in-Some : goal.returns-in-Some
returns-in-Some c =
    let t = settled-chosen c.in-Some.ensures refl c.requires.0.few c.whole_bits-bits.ensures in
    (t.0, t.1, c.kind_of-kind.ensures c.args.mask _ c.spread_of-l.ensures)
