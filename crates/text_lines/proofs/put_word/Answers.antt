-- The word's octets copied into their part of the octets.
use mathlib.Core.Path.{refl}
use lib.ListN.{length}
use native.Mathlib.Omega.{arith}
use Rattle.std.proofs.lemmas.Slice.{put_mid-paste}
use Rattle.text_lines.proofs.Putting.{puts_word}
use Rattle.text_lines.proofs.put_word.Goals as goal

pub returns : goal.returns
returns c =
    let a = c.args in
    let w = a.word.now in
    puts_word a.out.now w _ a.at (length w) (omega arith) refl
    (put_mid-paste a.at _ a.out.now _ w (length w) c.copy_over.ensures.after (omega arith) refl)
