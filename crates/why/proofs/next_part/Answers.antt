-- What is read is the part's beginning, so a part adds at most its own size.
use native.Mathlib.Omega.{arith}
use mathlib.Core.Path.{◌≡◌, sym, ◌∙◌}
use lib.ListN.{length, take}
use lib.Seq.{length-take-le}
use Rattle.tool_packing.specs.SoundParts.{part_size}
use Rattle.why.proofs.Cutting.{further}
use Rattle.why.proofs.next_part.Goals.{In-Ok}
use Rattle.why.proofs.next_part.Goals as goal

-- the part keeps its length, and what was read is its beginning
module _ (c : In-Ok) where
  part_length : length c.read_part.new.buf ≡ part_size
  part_length = c.read_part.auto.buf ∙ c.requires.part_len.0

  read_length : length (take c.in-Ok.count c.read_part.new.buf) ≡ c.in-Ok.count
  read_length = length-take-le _ _ c.in-Ok.ensures

pub slice_bounds-part_frames-end-in-Ok : goal.slice_bounds-part_frames-end-in-Ok
slice_bounds-part_frames-end-in-Ok c = sym (read_length (goal.at.slice_bounds-part_frames-end-in-Ok c).In-Ok)

pub part_frames-requires : goal.part_frames-requires
part_frames-requires c =
    let a = c.requires in
    record {
      part_len_bound = (
        omega (
          arith,
          read_length (goal.at.part_frames-requires c).In-Ok,
          part_length
              (goal.at.part_frames-requires c).In-Ok,
          c.in-Ok.ensures,
        ),
        a.part_len.1,
        a.part_len.2,
      );
      parts_in = a.parts_in;
    }

pub returns-in-Ok : goal.returns-in-Ok
returns-in-Ok c =
    let w = (goal.at.returns-in-Ok c).In-Ok in
    further _ _ part_size _ _ (omega (arith, read_length w, part_length w, c.in-Ok.ensures)) c.part_frames.ensures
