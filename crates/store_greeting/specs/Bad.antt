-- Document 02, R-6: "1 or more octets that the walk accepts with set 127"; "BAD if the walk, room never short, refuses or the greeting is
-- empty".
use Rattle.std.specs.Prelude.{ℕ, ◌*◌, List, Bool, true, false, cond, not, length, ltb}
use Rattle.rules.specs.Refusals.{Ending}
use Rattle.std.specs.Prelude.{Ok, Err}
use Rattle.rules.specs.Tools.{all_tools}
use Rattle.rules.specs.Walk.{Walked, walk_all}

abbrev pub is_done : Ending → Bool
is_done (Ok _) = true
is_done (Err w) = false

-- the tools of the store's walk
abbrev pub store_set : ℕ
store_set = all_tools

-- "room never short": a frame has an octet or more, and at most 320 samples
abbrev pub never_short : ℕ → ℕ
never_short octets = 320 * octets

-- the walk of a greeting. Its law is the greeting's own (R-8: "its law").
abbrev pub walk_of : ℕ → List ℕ → Walked
walk_of law xs = walk_all xs law store_set (never_short (length xs))

-- LONG is among the walk's refusals, so a greeting longer than a walk takes is BAD
unfoldable pub is_bad : ℕ → List ℕ → Bool
is_bad law xs = cond (ltb (length xs) 1) true (not (is_done (walk_of law xs).end))
