-- The contract of each public call: its answer, the 41 numbers and the lent text, for all inputs.
use Rattle.settings.specs.declared.Settings.{Settings}
use Rattle.std.specs.Prelude.{Option, Some, None}
use Rattle.std.specs.Prelude.{ℕ, ◌≡◌, List, [], ◌++◌, length, drop}
use Rattle.rules.specs.Refusals.{numbered}
use Rattle.settings.specs.Answers.{Answer}
use Rattle.std.specs.Prelude.{Ok, Err}
use Rattle.settings.specs.declared.Refusal.{Refusal}
use Rattle.settings.specs.declared.Refusal.TheVariants.{Line, Gone, Spent}
use Rattle.settings.specs.Lines.{settings_in, settings_text}
use Rattle.settings.specs.Revisions.{Outcome, done, refused, save_in, look_up, back_to, wiped}
use Rattle.settings.specs.State.{box_of, laid}

-- the paper's number of a refusal; an accepted call has 0
abbrev pub refusal_number : Refusal → ℕ
refusal_number Line = 23
refusal_number Gone = 24
refusal_number Spent = 25

-- no refusal has the number 0
pub settings-not-zero : (w : Refusal) → refusal_number w ≡ 0 → ⊥
settings-not-zero Line e = cc
settings-not-zero Gone e = cc
settings-not-zero Spent e = cc

abbrev pub number_of : Answer → ℕ
number_of = numbered refusal_number

-- what an accepted call tells; a refused one reports 0
abbrev pub told_of : Answer → ℕ
told_of (Ok n) = n
told_of (Err w) = 0

-- the new revision's number, and the numbers as the call leaves them; "a refusal changes nothing"
abbrev pub answer_of : Outcome → Answer
answer_of (done b) = Ok b.last
answer_of (refused w) = Err w

abbrev pub cells_after : Outcome → List ℕ → List ℕ
cells_after (done b) cells = laid b
cells_after (refused w) cells = cells

pub record Adds (o : Outcome) (cells cells' : List ℕ) (r : Answer) : Type 0 where
  pub answer : r ≡ answer_of o
  pub state : cells' ≡ cells_after o cells

-- saving a text
abbrev pub Save : List ℕ → List ℕ → List ℕ → Answer → Type 0
Save text cells cells' r = Adds (save_in (box_of cells) (settings_in text)) cells cells' r

-- going back to a revision
abbrev pub Back : ℕ → List ℕ → List ℕ → Answer → Type 0
Back n cells cells' r = Adds (back_to (box_of cells) (look_up n (box_of cells).revisions)) cells cells' r

-- a revision's text, at the start of the lent octets
abbrev pub text_of : Option Settings → List ℕ
text_of (Some v) = settings_text v
text_of None = []

abbrev pub printed : Option Settings → Answer
printed (Some v) = Ok (length (settings_text v))
printed None = Err Gone

pub record Prints (k : Option Settings) (text text' : List ℕ) (r : Answer) : Type 0 where
  pub answer : r ≡ printed k
  pub lent : text' ≡ text_of k ++ drop (length (text_of k)) text

-- reading a revision
abbrev pub Read : ℕ → List ℕ → List ℕ → List ℕ → Answer → Type 0
Read n cells text text' r = Prints (look_up n (box_of cells).revisions) text text' r

-- the wipe
abbrev pub Wipe : List ℕ → List ℕ → Type 0
Wipe cells cells' = cells' ≡ laid (wiped (box_of cells))
