-- Document 02, R-12: "Given a greeting's octets and its true total of samples, keep whole frames from the start as long as the walk
-- with set 127 accepts them and they don't pass the total, pads at the total kept too. Fill up to the total with constant plus zero
-- frames, longest first: 320, 240, 160, 80, 40."
use Rattle.std.specs.Prelude.{ℕ, suc, ◌-◌, ◌/◌, ◌%◌, List, [], ◌∷◌, ◌++◌, Bool, ◌&&◌, length, take, replicate, eqb, leb, ltb}
use Rattle.rules.specs.declared.Refusal.TheVariants.{Room, Law, Long}
use Rattle.rules.specs.Judged.{Asked, ask, bar, judged}
use Rattle.rules.specs.Tools.{all_tools, is_law}
use Rattle.rules.specs.First.{octet_for}
use Rattle.rules.specs.Walk.{Walked, walk_from, longest, octets_kept, samples_kept}
use Rattle.mending.specs.declared.MendRefusal.{MendRefusal}
use Rattle.mending.specs.declared.MendRefusal.TheVariants.{Frame, Total}

-- The walk that tells what is kept: its room is the total. So a frame that passes the total ends it there, with ROOM, as a damaged frame
-- ends it with its own refusal; a pad asks for no room, and is kept at the total too. Nothing behind its end is looked at.
abbrev pub walk_up_to : List ℕ → ℕ → ℕ → Walked
walk_up_to octets law total = walk_from (suc (length octets)) octets law all_tools 0 total

-- frames of each of these lengths, as many as fit in what is left; a constant plus zero frame is its first octet (tool 2) and no more
unfoldable pub fill_by : List ℕ → ℕ → List ℕ
fill_by [] left = []
fill_by (n ∷ shorter) left = replicate (left / n) (octet_for 2 n) ++ fill_by shorter (left % n)

-- "longest first: 320, 240, 160, 80, 40"
abbrev pub longest_first : List ℕ
longest_first = 320 ∷ 240 ∷ 160 ∷ 80 ∷ 40 ∷ []

abbrev pub filling : ℕ → List ℕ
filling left = fill_by longest_first left

-- a mended greeting: the walk of what is kept, the samples that are filled, and the octets, those kept and the filling
pub record Mended : Type 0 where
  pub walked : Walked
  pub filled : ℕ
  pub octets : List ℕ

abbrev pub filled_after : Walked → ℕ → ℕ
filled_after w total = total - length (samples_kept w.frames)

abbrev pub mended_by : List ℕ → ℕ → Walked → Mended
mended_by octets total w =
    record {
      walked = w;
      filled = filled_after w total;
      octets = take (octets_kept w.frames) octets ++ filling (filled_after w total);
    }

unfoldable pub mended : List ℕ → ℕ → ℕ → Mended
mended octets law total = mended_by octets total (walk_up_to octets law total)

-- "TOTAL (22) if the total isn't a multiple of 40 or is above 1,000,000"
abbrev pub most_total : ℕ
most_total = 1000000

abbrev pub is_total : ℕ → Bool
is_total total = eqb (total % 40) 0 && leb total most_total

-- a greeting that is mended, or why not
pub data Mend : Type 0 where
  mends : Mended → Mend
  declines : MendRefusal → Mend

-- "Refusals, in order: LAW, LONG for the greeting, TOTAL .., LONG for the result, ROOM"
abbrev pub mend_asks : List ℕ → ℕ → ℕ → List ℕ → ℕ → List (Asked MendRefusal)
mend_asks octets law total result room =
    ask (Frame Law) (is_law law)
    ∷ ask (Frame Long) (leb (length octets) longest)
    ∷ ask Total (is_total total)
    ∷ ask (Frame Long) (leb (length result) longest)
    ∷ bar (Frame Room) (ltb room (length result))
    ∷ []

unfoldable pub mend_of : List ℕ → ℕ → ℕ → ℕ → Mend
mend_of octets law total room =
    judged (mend_asks octets law total (mended octets law total).octets room) declines (mends (mended octets law total))
