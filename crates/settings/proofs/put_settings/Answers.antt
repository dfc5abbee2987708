use native.Mathlib.Omega.{arith}
use Rattle.rules.specs.Listing.{law_word}
use Rattle.text_keyvalue.proofs.Lines.{line-few}
use Rattle.settings.specs.Lines.{set_word, block_word, greeting_word}
use Rattle.settings.proofs.Calls.{four-puts}
use Rattle.settings.proofs.put_settings.Goals as goal

pub put_line-a-requires : goal.put_line-a-requires
put_line-a-requires c =
    let s = c.args.s in
    omega (arith, line-few law_word s.law (omega arith))

pub put_line-b-requires : goal.put_line-b-requires
put_line-b-requires c =
    let s = c.args.s in
    omega (arith, c.put_line-a.ensures.most, line-few set_word s.set (omega arith))

pub put_line-c-requires : goal.put_line-c-requires
put_line-c-requires c =
    let s = c.args.s in
    omega (arith, c.put_line-a.ensures.most, c.put_line-b.ensures.most, line-few block_word s.block (omega arith))

pub put_line-requires : goal.put_line-requires
put_line-requires c =
    omega (
      arith,
      c.put_line-a.ensures.most,
      c.put_line-b.ensures.most,
      c.put_line-c.ensures.most,
      line-few greeting_word c.args.s.greeting (omega arith),
    )

pub returns : goal.returns
returns c =
    record { puts = four-puts _ c.put_line-a.ensures.puts c.put_line-b.ensures.puts c.put_line-c.ensures.puts c.put_line.ensures.puts; most = omega arith }
