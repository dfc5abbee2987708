use Rattle.tool_words.specs.Numbers.{number_from, number_in}
use lib.ListN.{length, drop}
use mathlib.Core.Path.{◌≡◌}
use Prim.Native.Nat.{◌^◌, ◌≤◌, ◌<◌}
use Rattle.tool_words.proofs.texts.number_in.Given as goal

abbrev pub invariant-loop-x : goal.invariant-loop-x
invariant-loop-x l = (length l.text ≤ 9) × (l.v < 10 ^ l.x-index) × (number_in l.text ≡ number_from l.v (drop l.x-index l.text))
