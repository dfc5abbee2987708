-- A step hands over the octets from `at` on and the output from `to` on, whole.
use Prim.Native.Nat.{ℕ, ◌-◌}
use mathlib.Core.Path.{ap}
use mathlib.Core.List.{List, ◌++◌}
use lib.ListN.{length, take, drop, length-drop}
use Rattle.rules.specs.Frame.{read_one}
use Rattle.rules.proofs.Lent.{from_on, back_on}
use Rattle.reader.specs.declared.Report.{Report}
use Rattle.reader.specs.Answers.{ReadsInto}
use Rattle.walk.specs.Counting.{Steps}

pub step-made : (octets : List ℕ) (law set at to : ℕ) (out last : List ℕ) {r : Report}
    → ReadsInto (read_one (take (length octets - at) (drop at octets)) law set (length (take (length out - to) (drop to out)))) r
    (take (length out - to) (drop to out)) last
    → Steps octets law set at to out (take to out ++ (last ++ drop (length out - to) (drop to out))) r
step-made octets law set at to out last h =
    record {
      rest = last;
      reads = rw (from_on octets at, from_on out to, length-drop to out) at h;
      lent = ap (λ (x : List ℕ). take to out ++ x) (back_on out to last);
    }
