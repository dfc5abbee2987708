-- What the calls over a store of greetings report (document 02, R-6, R-8 and R-9): the number, and two numbers more; of a jump four.
use Rattle.std.specs.Prelude.{ℕ, ◌≡◌, List, [], ◌∷◌}
use Rattle.store.specs.Store.{Outcome}
use Rattle.store.specs.Calls.{number_of, first_of, second_of, answer_of, block_after, table_after, put_of, get_of, delete_of}
use Rattle.store_jump.specs.declared.jumping.Told.{Told}
use Rattle.store_jump.specs.Calls.{number_of as jump_number_of, told_of, jump_of}

-- the start and the octets moved, or the start and the octets; zeros where refused
abbrev pub two_of : Outcome → List ℕ
two_of o = first_of (answer_of o) ∷ second_of (answer_of o) ∷ []

-- the number and the report; the block and the table as the call leaves them
pub record ChangeReported (o : Outcome) (b t b' t' two : List ℕ) (r : ℕ) : Type 0 where
  pub number : r ≡ number_of (answer_of o)
  pub report : two ≡ two_of o
  pub block : b' ≡ block_after o b
  pub table : t' ≡ table_after o t

-- putting a greeting of a law
abbrev pub PutReported : ℕ → ℕ → List ℕ → List ℕ → List ℕ → List ℕ → List ℕ → List ℕ → ℕ → Type 0
PutReported law number xs b t b' t' two r = ChangeReported (put_of b t law number xs) b t b' t' two r

-- getting one
pub record GetReported (number : ℕ) (b t two : List ℕ) (r : ℕ) : Type 0 where
  pub ending : r ≡ number_of (answer_of (get_of b t number))
  pub report : two ≡ two_of (get_of b t number)

-- deleting one
pub record DeleteReported (number : ℕ) (b t t' : List ℕ) (r : ℕ) : Type 0 where
  pub ending : r ≡ number_of (answer_of (delete_of b t number))
  pub table : t' ≡ table_after (delete_of b t number) t

-- jumping to a sample of one: the frame, its octet place, the sample's place in it, the frames read; zeros where refused
abbrev pub four_of : Told → List ℕ
four_of t = t.frame ∷ t.place ∷ t.inside ∷ t.read ∷ []

pub record JumpReported (number sample : ℕ) (b t four : List ℕ) (r : ℕ) : Type 0 where
  pub ending : r ≡ jump_number_of (jump_of b t number sample)
  pub report : four ≡ four_of (told_of (jump_of b t number sample))
