use Rattle.recording.proofs.marking.heading_of.Goals as goal

pub returns : goal.returns
returns c = rw c.letter_of-letter.ensures
