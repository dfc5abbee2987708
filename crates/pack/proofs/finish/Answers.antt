use mathlib.Core.Path.{◌≡◌, refl, sym, ◌∙◌}
use native.Mathlib.Omega.{arith}
use Rattle.tool_packing.proofs.Numbers.{for-done}
use Rattle.std.proofs.Common.{Ok}
use Rattle.pack.proofs.Running.{kept-most, sound-lawful}
use Rattle.pack.proofs.finish.Goals.{After-write_stream-arg-1}
use Rattle.pack.proofs.finish.Goals as goal

module _ (c : After-write_stream-arg-1) where
  well : c.args.run.packed.end ≡ Ok tt
  well = for-done c.args.run.packed.end (sym c.number_for-number.ensures ∙ omega arith)

pub write_stream-requires : goal.write_stream-requires
write_stream-requires c = (
  record {
    kept = c.requires.kept;
    one = c.requires.one;
    well = well (goal.at.write_stream-requires c).After-write_stream-arg-1;
  },
  refl,
  (kept-most c.requires.one, omega arith),
)

pub say_done-requires : goal.say_done-requires
say_done-requires c =
    let o = c.requires.one in
    ((kept-most o, omega arith), sound-lawful o (well (goal.at.say_done-requires c).After-write_stream-arg-1))
