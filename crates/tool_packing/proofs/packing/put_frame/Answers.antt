use Rattle.tool_packing.proofs.Part.{frame-put}
use Rattle.tool_packing.proofs.packing.put_frame.Goals as goal

pub returns : goal.returns
returns c =
    frame-put c.args.sound.now c.args.from c.args.to c.args.law c.args.set c.args.at c.args.out.now
    c.write_samples.new.out c.requires.0 c.requires.1 c.write_samples.ensures
