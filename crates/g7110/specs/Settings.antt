-- What the calls over a box's settings report (document 02, R-13): the number, and one number more.
use Rattle.std.specs.Prelude.{ℕ, ◌≡◌, List, [], ◌∷◌, ◌++◌, length, drop}
use Rattle.std.specs.declared.option.Option.{Option}
use Rattle.settings.specs.declared.Settings.{Settings}
use Rattle.settings.specs.Lines.{settings_in}
use Rattle.settings.specs.Revisions.{Outcome, save_in, look_up, back_to}
use Rattle.settings.specs.State.{box_of}
use Rattle.settings.specs.Calls.{number_of, told_of, answer_of, cells_after, printed, text_of}

-- the number and the new revision; the 41 numbers as the call leaves them
pub record AddReported (o : Outcome) (cells cells' one : List ℕ) (r : ℕ) : Type 0 where
  pub number : r ≡ number_of (answer_of o)
  pub report : one ≡ told_of (answer_of o) ∷ []
  pub state : cells' ≡ cells_after o cells

-- saving a text
abbrev pub SaveReported : List ℕ → List ℕ → List ℕ → List ℕ → ℕ → Type 0
SaveReported text cells cells' one r = AddReported (save_in (box_of cells) (settings_in text)) cells cells' one r

-- going back to a revision
abbrev pub BackReported : ℕ → List ℕ → List ℕ → List ℕ → ℕ → Type 0
BackReported n cells cells' one r = AddReported (back_to (box_of cells) (look_up n (box_of cells).revisions)) cells cells' one r

-- the number and the octets of text; the text at the start of what is lent, the rest as lent
pub record TextReported (k : Option Settings) (text text' one : List ℕ) (r : ℕ) : Type 0 where
  pub number : r ≡ number_of (printed k)
  pub report : one ≡ told_of (printed k) ∷ []
  pub lent : text' ≡ text_of k ++ drop (length (text_of k)) text

-- a revision's text
abbrev pub RevisionReported : ℕ → List ℕ → List ℕ → List ℕ → List ℕ → ℕ → Type 0
RevisionReported n cells text text' one r = TextReported (look_up n (box_of cells).revisions) text text' one r
