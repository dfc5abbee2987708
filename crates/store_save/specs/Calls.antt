-- The contract of each public call: its answer, the lent table and the lent octets, for any block, table and text at all.
use Rattle.std.specs.Prelude.{ℕ, ◌≡◌, List, [], ◌++◌, length, drop, Ok, Err}
use Rattle.store.specs.Store.{Outcome, leaves, refused}
use Rattle.store.specs.Calls.{Answer, answer_of, table_after}
use Rattle.store_save.specs.Verdicts.{Verdict}
use Rattle.store_save.specs.Saved.{Text, saved, declined, save_of, load_of}

-- a saving tells the octets of its text
abbrev pub told_of : Text → Answer
told_of (saved text) = Ok (length text, 0)
told_of (declined w) = Err w

abbrev pub text_of : Text → List ℕ
text_of (saved text) = text
text_of (declined w) = []

-- the text at the start of what is lent, the rest as lent; nothing where it is declined
pub record Writes (x : Text) (out out' : List ℕ) (r : Answer) : Type 0 where
  pub answer : r ≡ told_of x
  pub lent : out' ≡ text_of x ++ drop (length (text_of x)) out

abbrev pub Save : List ℕ → List ℕ → List ℕ → List ℕ → Answer → Type 0
Save b t out out' r = Writes (save_of b t (length out)) out out' r

-- the table as the call leaves it; "a refused one changes nothing"
pub record Takes (o : Outcome) (t t' : List ℕ) (r : Answer) : Type 0 where
  pub answer : r ≡ answer_of o
  pub table : t' ≡ table_after o t

abbrev pub Load : List ℕ → List ℕ → List ℕ → List ℕ → Answer → Type 0
Load text b t t' r = Takes (load_of text b t) t t' r

-- in the code's steps: whether it is taken
abbrev pub verdict_of : Outcome → Verdict
verdict_of (leaves a) = Ok tt
verdict_of (refused w) = Err w
