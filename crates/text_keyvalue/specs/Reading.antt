-- What it is to read a text of octets: from all of it and a place, a value and the next place, or not of this form.
-- Then a word, and a number: "decimal without leading zeros".
use Rattle.std.specs.Prelude.{ℕ, ◌+◌, ◌*◌, ◌-◌, min, List, [], ◌∷◌, Bool, true, false, cond, ◌&&◌, length, drop, eqb, leb, Option, Some, None}

pub data Read (A : Type 0) : Type 0 where
  whole : A → ℕ → Read A
  none : Read A

abbrev pub Reader : Type 0 → Type 0
Reader A = List ℕ → ℕ → Read A

abbrev pub and_then : {A B : Type 0} → Read A → (A → ℕ → Read B) → Read B
and_then (whole a i) f = f a i
and_then none f = none

infixl 20 ◌>>=◌
abbrev pub ◌>>=◌ : {A B : Type 0} → Reader A → (A → Reader B) → Reader B
◌>>=◌ p f = λ text i. and_then (p text i) (λ a j. f a text j)

abbrev pub give : {A : Type 0} → A → Reader A
give a = λ text i. whole a i

abbrev pub fail : {A : Type 0} → Reader A
fail = λ text i. none

-- whether a text begins with a word
unfoldable pub begins : List ℕ → List ℕ → Bool
begins [] text = true
begins (x ∷ word) [] = false
begins (x ∷ word) (y ∷ text) = eqb x y && begins word text

-- a word, and then p
abbrev pub after : {A : Type 0} → List ℕ → Reader A → Reader A
after word p = λ text i. cond (begins word (drop i text)) (p text (i + length word)) none

-- p, and nothing after it
abbrev pub ended : {A : Type 0} → A → Reader A
ended a = λ text i. cond (leb (length text) i) (whole a i) none

abbrev pub is_digit : ℕ → Bool
is_digit x = leb 0x30 x && leb x 0x39

-- the digits that follow place i, after those whose number is v
unfoldable pub digits_on : ℕ → ℕ → List ℕ → Read ℕ
digits_on v i [] = whole v i
digits_on v i (x ∷ text) = cond (is_digit x) (digits_on (10 * v + (x - 0x30)) (i + 1) text) (whole v i)

-- "decimal without leading zeros": 0 alone, or a digit from 1 to 9 and the digits that follow
unfoldable pub decimal_on : ℕ → List ℕ → Read ℕ
decimal_on i [] = none
decimal_on i (x ∷ text) = cond (eqb x 0x30) (whole 0 (i + 1)) (cond (is_digit x) (digits_on (x - 0x30) (i + 1) text) none)

unfoldable pub number : Reader ℕ
number text i = decimal_on i (drop i text)

-- A number is of any number of digits. This is how 32 bits hold it: 4,294,967,295 stands for itself and for all above.
abbrev pub most : ℕ
most = 4294967295

abbrev pub capped : Read ℕ → Read ℕ
capped (whole n i) = whole (min n most) i
capped none = none

-- what the code tells: a value and the next place
abbrev pub as_read : {A : Type 0} → Option (A × ℕ) → Read A
as_read (Some (a, next)) = whole a next
as_read None = none
