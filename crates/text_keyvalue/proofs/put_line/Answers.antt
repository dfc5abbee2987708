-- A key, a number and 0A, one after another.
use native.Mathlib.Omega.{arith}
use Rattle.text_lines.proofs.Putting.{puts_then}
use Rattle.text_keyvalue.specs.Lines.{line_of}
use Rattle.text_keyvalue.proofs.Lines.{line-length, line-few}
use Rattle.text_keyvalue.proofs.put_line.Goals as goal

pub put_word-value-requires : goal.put_word-value-requires
put_word-value-requires c = let a = c.args in omega (arith, line-length a.key.now a.n)

pub put_number-end-requires : goal.put_number-end-requires
put_number-end-requires c =
    let a = c.args in
    let w = c.put_word-value.ensures in
    omega (arith, line-length a.key.now a.n, w.place, w.size)

pub put_word-requires : goal.put_word-requires
put_word-requires c =
    let a = c.args in
    let w = c.put_word-value.ensures in
    let d = c.put_number-end.ensures in
    omega (arith, line-length a.key.now a.n, w.place, w.size, d.place, d.size)

pub returns : goal.returns
unfolding line_of
returns c =
    let p = puts_then (puts_then c.put_word-value.ensures c.put_number-end.ensures) c.put_word.ensures in
    let a = c.args in
    record { puts = p; most = omega (arith, p.place, line-few a.key.now a.n (omega arith)) }
