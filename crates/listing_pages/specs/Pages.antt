-- The listing page by page: where it stands, what is still to be listed from there, and what a page holds.
use Rattle.std.specs.Prelude.{ℕ, suc, ◌+◌, ◌*◌, ◌-◌, ◌^◌, ◌≤◌, ◌<◌, ◌≡◌, List, [], ◌++◌, Option, Some, None, length, drop}
use Rattle.rules.specs.Refusals.{Ending}
use Rattle.rules.specs.Refusals.{number_of, tool_named}
use Rattle.rules.specs.Walk.{Walked, walk_from, samples_kept}
use Rattle.rules.specs.Listing.{frame_line, frame_lines, stop_line, samples_line, listing, most_listed, listed_tools}
use Rattle.reader.specs.declared.Report.{Report}
use Rattle.text_lines.specs.Puts.{Puts}
use Rattle.listing_pages.specs.declared.Stand.{Stand}
use Rattle.listing_pages.specs.declared.Page.{Page}

-- a place that the listing of a stream can reach
pub record Stands (stream : List ℕ) (s : Stand) : Type 0 where
  pub short : length stream ≤ most_listed
  pub inside : s.at ≤ length stream
  pub frames : s.frames ≤ s.at
  pub samples : s.samples ≤ 320 * s.frames

-- the last two lines
abbrev pub end_lines : Ending → ℕ → ℕ → ℕ → List ℕ
end_lines end at bit kept = stop_line (number_of end) at (tool_named end) bit ++ samples_line kept

-- the lines of a walk, after k frames that hold `kept` samples
abbrev pub lines_of : ℕ → ℕ → Walked → List ℕ
lines_of k kept w = frame_lines k w.frames ++ end_lines w.end w.place w.bit (kept + length (samples_kept w.frames))

-- the walk from a place on, whose frames and room are never short
abbrev pub walk_left : List ℕ → ℕ → ℕ → Walked
walk_left stream law at = walk_from (suc (length stream)) stream law listed_tools at (320 * length stream)

-- the lines from there on; none at the end
unfoldable pub lines_left : List ℕ → Option Stand → List ℕ
lines_left stream (Some s) = lines_of s.frames s.samples (walk_left stream s.law s.at)
lines_left stream None = []

-- how far it is to the end
unfoldable pub steps_left : List ℕ → Option Stand → ℕ
steps_left stream (Some s) = suc (length stream - s.at)
steps_left stream None = 0

-- where it goes on, the listing can
abbrev pub GoesOn : List ℕ → Option Stand → Type 0
GoesOn stream (Some s) = Stands stream s
GoesOn stream None = Unit {0}

-- text put at a place, which takes the listing from s to `next`
pub record Lists (stream : List ℕ) (s : Stand) (out : List ℕ) (to : ℕ) (next : Option Stand) (out' : List ℕ) (to' : ℕ) : Type 0 where
  pub text : List ℕ
  pub puts : Puts out to text out' to'
  pub says : lines_left stream (Some s) ≡ text ++ lines_left stream next
  pub stands : GoesOn stream next
  pub size : to' ≤ length out

-- the last two lines
pub record Ends (number tool bit : ℕ) (s : Stand) (out : List ℕ) (to : ℕ) (r : Page) (out' : List ℕ) : Type 0 where
  pub puts : Puts out to (stop_line number s.at tool bit ++ samples_line s.samples) out' r.to
  pub ended : r.next ≡ None
  pub most : r.to ≤ to + 320

-- a frame that can be counted there
abbrev pub Listable : Stand → Report → Type 0
Listable s r = (s.frames ≤ most_listed) × (s.at + r.octets ≤ most_listed) × (s.samples + r.len < 2 ^ 32)

-- where the listing stands after a frame
abbrev pub after : Stand → Report → Stand
after s r = record { law = s.law; frames = s.frames + 1; at = s.at + r.octets; samples = s.samples + r.len }

-- a frame's line, and where the listing stands after it
pub record ListsFrame (s : Stand) (r : Report) (out : List ℕ) (to : ℕ) (p : Page) (out' : List ℕ) : Type 0 where
  pub puts : Puts out to (frame_line s.frames s.at r.len r.tool r.octets r.bits) out' p.to
  pub goes : p.next ≡ Some (after s r)
  pub most : p.to ≤ to + 320

-- how the listing of a stream opens, `whole` being all of it; a refusal is all of it
pub record Opens (whole stream out : List ℕ) (r : Page) (out' : List ℕ) : Type 0 where
  pub text : List ℕ
  pub puts : Puts out 0 text out' r.to
  pub says : whole ≡ text ++ lines_left stream r.next
  pub stands : GoesOn stream r.next
  pub most : r.to ≤ 160

-- a refusal before any frame
pub record Stops (number : ℕ) (out : List ℕ) (r : Page) (out' : List ℕ) : Type 0 where
  pub puts : Puts out 0 (stop_line number 0 0 0) out' r.to
  pub ended : r.next ≡ None
  pub most : r.to ≤ 160

-- an input's first octet is its law's letter
pub record OpensInput (input out : List ℕ) (r : Page) (out' : List ℕ) : Type 0 where
  pub opens : Opens (listing input) (drop 1 input) out r out'
  pub some : (s : Stand) → r.next ≡ Some s → 1 ≤ length input
