-- The record: eight words that change in one write.
--     page in use (0, 1) | 0 still, 1 moving, 2 moving and the chunk is whole in the spare | from | to | octets | done | 0 | 0
use Rattle.std.specs.Prelude.{ℕ, zero, suc, ◌+◌, ◌-◌, ◌^◌, ◌<◌, ◌≡◌, List, [], ◌∷◌, Bool, true, false, cond, length, get_or, leb, ltb, eqb}
use Rattle.store_rows.specs.Limits.{size_of}
use Rattle.store_moves.specs.declared.steps.Move.{Move}
use Rattle.store_moves.specs.declared.steps.State.{State}
use Rattle.store_moves.specs.declared.steps.State.TheVariants.{Still, Moving, Lifted}
use Rattle.store_moves.specs.Moves.{distance, stepped}

abbrev pub move_of : List ℕ → Move
move_of w = record { from = get_or w 2 0; to = get_or w 3 0; octets = get_or w 4 0; done = get_or w 5 0 }

-- not "to not below from; from + octets past the block; done not below octets"
unfoldable pub sensible : ℕ → Move → Bool
sensible size m =
    cond (leb m.from m.to) false (cond (ltb size (m.from + m.octets)) false (cond (leb m.octets m.done) false true))

-- the move that the words tell of, with a block and a spare of these sizes; still where they tell of none: "still, or a state above 2; page
-- above 1; ..; state 2 where the distance is not below the spare; the last two not 0"
unfoldable pub told_by : ℕ → ℕ → List ℕ → State
told_by size spare w =
    cond (ltb 1 (get_or w 0 0)) Still
    (cond (ltb 0 (get_or w 6 0)) Still
    (cond (ltb 0 (get_or w 7 0)) Still
    (cond (sensible size (move_of w))
    (cond (eqb (get_or w 1 0) 1) (Moving (move_of w))
    (cond (eqb (get_or w 1 0) 2) (cond (leb spare (distance (move_of w))) Still (Lifted (move_of w))) Still))
    Still)))

abbrev pub told : List ℕ → List ℕ → List ℕ → State
told b s w = told_by (size_of b) (length s) w

abbrev pub page_of : List ℕ → ℕ
page_of w = get_or w 0 0

abbrev pub words_for : ℕ → ℕ → Move → List ℕ
words_for page state m = page ∷ state ∷ m.from ∷ m.to ∷ m.octets ∷ m.done ∷ 0 ∷ 0 ∷ []

-- still, with a page in use; "a fresh one is all 0"
abbrev pub still_with : ℕ → List ℕ
still_with page = page ∷ 0 ∷ 0 ∷ 0 ∷ 0 ∷ 0 ∷ 0 ∷ 0 ∷ []

-- "where `done` reaches `octets`, `next` is still, with the other page, and zeros"
unfoldable pub words_of : ℕ → State → List ℕ
words_of page Still = still_with (1 - page)
words_of page (Moving m) = words_for page 1 m
words_of page (Lifted m) = words_for page 2 m

-- MOVE
abbrev pub move_number : ℕ
move_number = 27

unfoldable pub step_number : State → ℕ
step_number Still = move_number
step_number (Moving m) = 0
step_number (Lifted m) = 0

-- "in `next` the record after it"; MOVE: "nothing changed"
unfoldable pub next_of : List ℕ → ℕ → State → State → List ℕ
next_of old page Still after = old
next_of old page (Moving m) after = words_of page after
next_of old page (Lifted m) after = words_of page after

-- what a step leaves of block, spare and `next`, and its number; st is what the words tell
pub record Steps (b s : List ℕ) (st : State) (page : ℕ) (n b' s' n' : List ℕ) (r : ℕ) : Type 0 where
  pub answer : r ≡ step_number st
  pub block : b' ≡ (stepped b s st).block
  pub spare : s' ≡ (stepped b s st).spare
  pub next : n' ≡ next_of n page st (stepped b s st).state

-- one chunk of the move that the record tells of
abbrev pub MoveStep : List ℕ → List ℕ → List ℕ → List ℕ → List ℕ → List ℕ → List ℕ → ℕ → Type 0
MoveStep b s w n b' s' n' r = Steps b s (told b s w) (page_of w) n b' s' n' r

-- numbers that words hold
pub record Short (m : Move) : Type 0 where
  pub from-short : m.from < 2 ^ 32
  pub to-short : m.to < 2 ^ 32
  pub octets-short : m.octets < 2 ^ 32
  pub done-short : m.done < 2 ^ 32

pub data Fits : State → Type 0 where
  fits-still : Fits Still
  fits-moving : {m : Move} → Short m → Fits (Moving m)
  fits-lifted : {m : Move} → Short m → Fits (Lifted m)

-- what lasts, with the record's words
pub record Kept : Type 0 where
  pub block : List ℕ
  pub spare : List ℕ
  pub words : List ℕ

abbrev pub kept : List ℕ → List ℕ → List ℕ → Kept
kept b s w = record { block = b; spare = s; words = w }

-- a step over the words: where they tell of no move, nothing changes
abbrev pub step_kept : Kept → State → Kept
step_kept k st =
    let l = stepped k.block k.spare st in kept l.block l.spare (next_of k.words (page_of k.words) st l.state)

-- "a start: while the record is not still: a step"
unfoldable pub start_of : ℕ → Kept → Kept
start_of zero k = k
start_of (suc n) k = start_of n (step_kept k (told k.block k.spare k.words))
