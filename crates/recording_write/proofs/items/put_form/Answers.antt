use Rattle.recording_write.proofs.Put.{form-put}
use Rattle.recording_write.proofs.items.put_form.Goals as goal

pub returns : goal.returns
returns c =
    let w = c.write_samples-w in
    form-put c.args.frame.now c.args.by.law c.args.by.set c.requires.frame_value.1.0 c.requires.frame_value.1.1 c.requires.frame_value.0
    c.args.at c.args.out.now w.new.out c.requires.frame_in_bounds w.ensures
