-- The settings are not refused: no sound was packed well.
use mathlib.Core.Path.{sym, ◌∙◌}
use Rattle.tool_packing.proofs.Numbers.{number-done}
use Rattle.pack.proofs.pack_file.Goals as goal

pub pack_sound-requires : goal.pack_sound-requires
pack_sound-requires c =
    let p = c.pack-packed in (
      record {
        page = c.args.page.now;
        page' = p.new.out;
        is = p.ensures;
        well = number-done p.result.end (sym c.number_of-number.ensures ∙ c.if-number-ne0.false);
      },
      c.requires.0,
      p.auto.out ∙ c.requires.1,
    )
