-- What saving and loading a store's table report (document 02, R-6 and R-8): the number, and of a saving the octets of text.
use Rattle.std.specs.Prelude.{ℕ, ◌≡◌, List, [], ◌∷◌, ◌++◌, length, drop}
use Rattle.store.specs.Calls.{number_of, first_of, answer_of, table_after}
use Rattle.store_save.specs.Saved.{save_of, load_of}
use Rattle.store_save.specs.Calls.{told_of, text_of}

-- the number and the octets of text; the text at the start of what is lent, the rest as lent
pub record SavedReported (b t out out' one : List ℕ) (r : ℕ) : Type 0 where
  pub number : r ≡ number_of (told_of (save_of b t (length out)))
  pub report : one ≡ first_of (told_of (save_of b t (length out))) ∷ []
  pub lent : out' ≡ text_of (save_of b t (length out)) ++ drop (length (text_of (save_of b t (length out)))) out

-- the number; the table as the call leaves it
pub record LoadReported (text b t t' : List ℕ) (r : ℕ) : Type 0 where
  pub number : r ≡ number_of (answer_of (load_of text b t))
  pub table : t' ≡ table_after (load_of text b t) t
