use mathlib.Core.Path.{refl}
use Prim.Native.Nat.{◌<◌}
use lib.ListN.{get_or}
use borrow.Author.Rules.{rules}
use Rattle.rules.specs.First.{rows, look_up, first_octet}
use Rattle.rules.specs.Fractional.{first_code}
use Rattle.first_octet.specs.Answers.{entry_tells, entries}
use Rattle.first_octet.proofs.Rule.{rule}
use Rattle.first_octet.proofs.listed.Goals as goal

pub returns : goal.returns
unfolding rows look_up first_octet first_code entry_tells
returns c = let h : c.args.o < 256 = search rules in rule (λ o. get_or (entries 256 0) o 0) refl c.args.o h
