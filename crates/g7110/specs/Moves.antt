-- What the calls report that a box needs where power may be cut: a put tried, the next move of closing up, a greeting moved and renumbered.
use Rattle.std.specs.Prelude.{ℕ, ◌≡◌, List, [], ◌∷◌}
use Rattle.store.specs.Calls.{number_of, answer_of, put_of}
use Rattle.store_moves.specs.declared.calls.Hop.{Hop}
use Rattle.store_moves.specs.Calls.{told_number, change_number, told_hop, next_told, change_of, table_of, moved_of, renumber_of}
use Rattle.g7110.specs.Store.{two_of}

-- "exactly what g7110_store_put would answer and report; nothing changed"
pub record TryReported (law number : ℕ) (xs b t two : List ℕ) (r : ℕ) : Type 0 where
  pub ending : r ≡ number_of (answer_of (put_of b t law number xs))
  pub report : two ≡ two_of (put_of b t law number xs)

-- "number, from, to, octets"; zeros where refused, and where all are closed up
abbrev pub hop_of : Hop → List ℕ
hop_of h = h.number ∷ h.from ∷ h.to ∷ h.octets ∷ []

pub record NextReported (b t four : List ℕ) (r : ℕ) : Type 0 where
  pub ending : r ≡ told_number (next_told b t)
  pub report : four ≡ hop_of (told_hop (next_told b t))

pub record MovedReported (number to : ℕ) (b t t' : List ℕ) (r : ℕ) : Type 0 where
  pub ending : r ≡ change_number (change_of (moved_of b t number to))
  pub table : t' ≡ table_of (moved_of b t number to) t

pub record RenumberReported (number to : ℕ) (b t t' : List ℕ) (r : ℕ) : Type 0 where
  pub ending : r ≡ change_number (change_of (renumber_of b t number to))
  pub table : t' ≡ table_of (renumber_of b t number to) t
