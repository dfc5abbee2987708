-- A word, then a number.
use native.Mathlib.Omega.{arith}
use Rattle.text_lines.proofs.Putting.{puts_then}
use Rattle.text_lines.proofs.Spelling.{decimal-most}
use Rattle.text_lines.proofs.put_field.Goals as goal

pub put_number-requires : goal.put_number-requires
put_number-requires c =
    let w = c.put_word-next.ensures in
    omega (arith, w.place, w.size, decimal-most c.args.n)

pub returns : goal.returns
returns c =
    let w = c.put_word-next.ensures in
    let d = c.put_number.ensures in
    let most = decimal-most c.args.n in
    record { puts = puts_then w d; most = omega (arith, w.place, d.place, most) }
