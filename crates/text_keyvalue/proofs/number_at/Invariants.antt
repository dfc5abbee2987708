use Prim.Native.Nat.{◌+◌, ◌≤◌}
use mathlib.Core.Path.{◌≡◌}
use lib.ListN.{drop}
use Rattle.text_keyvalue.specs.Reading.{digits_on, number, most, capped}
use Rattle.text_keyvalue.proofs.number_at.Given as goal

abbrev pub invariant-loop-i : goal.invariant-loop-i
invariant-loop-i l = (l.v ≤ most) × (capped (number l.fn.text l.fn.at) ≡ capped (digits_on l.v (l.fn.at + l.i) (drop (l.fn.at + l.i) l.fn.text)))
