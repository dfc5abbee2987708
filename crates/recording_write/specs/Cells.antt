-- "a frame is its number of samples .., a loss 32768 + its length": a number of 16 bits as an entry, and the entries that all give.
use Rattle.std.specs.Prelude.{ℕ, suc, ◌+◌, ◌-◌, List, [], ◌∷◌, Bool, true, false, cond, take, ltb}
use Rattle.recording.specs.Items.{loss_from}
use Rattle.recording.specs.Files.{Entry, frame, loss, entries_octets, Given, given, wrong, given_by}

-- the length that it names, the samples that it takes, and its entry
unfoldable pub length_in : ℕ → ℕ
length_in c = cond (ltb c loss_from) c (c - loss_from)

unfoldable pub taken : ℕ → ℕ
taken c = cond (ltb c loss_from) c 0

unfoldable pub entry_by : ℕ → List ℕ → Entry
entry_by c samples = cond (ltb c loss_from) (frame (take c samples)) (loss (c - loss_from))

-- "A written frame has 1 to N + 1 octets", and so has a loss: the most that all have together
unfoldable pub most_for : List ℕ → ℕ
most_for [] = 0
most_for (c ∷ cells) = suc (length_in c) + most_for cells

-- whether entries are given, and which
abbrev pub is_given : Given → Bool
is_given (given es) = true
is_given wrong = false

abbrev pub entries_of : Given → List Entry
entries_of (given es) = es
entries_of wrong = []

-- the octets of what is given
unfoldable pub octets_given : ℕ → ℕ → List ℕ → List ℕ → List ℕ
octets_given mask set cells samples = entries_octets mask set (entries_of (given_by cells samples))
