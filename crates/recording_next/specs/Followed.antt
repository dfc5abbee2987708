-- Item after item from a place on, each call at the next place that the last one told, up to the octets' end or a refusal.
--   followed: each call is lent the room that the sound before it left.      played: each is lent as much, one output for all.
use Rattle.std.specs.Prelude.{ℕ, zero, suc, ◌+◌, ◌-◌, List, cond, length, leb}
use Rattle.std.specs.Prelude.{Ok, Err}
use Rattle.recording.specs.Items.{Item, Recorded, stopped, before, sound_of}
use Rattle.recording_next.specs.Next.{Piece, found, refused, next_of}

-- what a piece leads to: the item and then the rest, or the end at its place
abbrev pub by_piece : Piece → ℕ → (Item → ℕ → Recorded) → Recorded
by_piece (found i used t) at next = next i used
by_piece (refused w bit) at next = stopped (Err w) at bit

unfoldable pub followed : ℕ → List ℕ → ℕ → ℕ → ℕ → ℕ → Recorded
followed zero octets law set at room = stopped (Ok tt) at 0
followed (suc more) octets law set at room =
    cond (leb (length octets) at) (stopped (Ok tt) at 0)
    (by_piece (next_of octets at law set room) at
    (λ i used. before i (followed more octets law set (at + used) (room - length (sound_of i)))))

unfoldable pub played : ℕ → List ℕ → ℕ → ℕ → ℕ → ℕ → Recorded
played zero octets law set at room = stopped (Ok tt) at 0
played (suc more) octets law set at room =
    cond (leb (length octets) at) (stopped (Ok tt) at 0)
    (by_piece (next_of octets at law set room) at (λ i used. before i (played more octets law set (at + used) room)))
