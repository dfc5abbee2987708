-- A stream judged with no room for its samples: "frames, octets (the place), samples, tool, bit, as g7110_walk with room never short".
use Rattle.std.specs.Prelude.{ℕ, ◌*◌, List, length}
use Rattle.rules.specs.Walk.{Walked, walk_all}

-- "room never short": a frame has 320 samples at most, and an octet at least (proofs/Checked, `check-walks`)
abbrev pub room_for : List ℕ → ℕ
room_for octets = 320 * length octets

unfoldable pub check_of : List ℕ → ℕ → ℕ → Walked
check_of octets law set = walk_all octets law set (room_for octets)
