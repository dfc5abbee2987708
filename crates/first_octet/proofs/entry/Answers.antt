use mathlib.Core.Path.{refl}
use Prim.Native.Nat.{◌*◌, ◌^◌, ◌/◌, ◌%◌, ◌<◌}
use borrow.Author.Rules.{rules}
use Rattle.rules.specs.First.{rows, look_up, first_octet}
use Rattle.rules.specs.Fractional.{first_code}
use Rattle.first_octet.specs.Answers.{entry_tells, eight_from}
use Rattle.first_octet.proofs.Rule.{rule}
use Rattle.first_octet.proofs.entry.Goals as goal

pub returns : goal.returns
unfolding rows look_up first_octet first_code entry_tells eight_from
returns c =
    let h : c.args.o < 256 = search rules in
    rw c.eight.ensures (rule (λ o. eight_from (o / 8) / 2 ^ (8 * (o % 8)) % 256) refl c.args.o h)
