-- What it is to read: from all the bits and a place, a value and the next place, or a refusal and its bit. The order of the steps is the
-- order of the refusals. The bit is that of document 02, R-7: counted from 0 at the frame's start, the first bit of what was wrong
-- (proofs/WhichBit).
use Rattle.std.specs.Prelude.{ℕ, zero, suc, ◌+◌, ◌*◌, List, [], ◌∷◌, ◌++◌, cond, length, get_or, eqb, ltb}
use Rattle.rules.specs.declared.Refusal.{Refusal}
use Rattle.rules.specs.declared.Refusal.TheVariants.{Short, Align}

pub data Read (A : Type 0) : Type 0 where
  whole : A → ℕ → Read A
  refuse : Refusal → ℕ → Read A

abbrev pub Reader : Type 0 → Type 0
Reader A = List ℕ → ℕ → Read A

abbrev pub and_then : {A B : Type 0} → Read A → (A → ℕ → Read B) → Read B
and_then (whole a i) f = f a i
and_then (refuse w at) f = refuse w at

infixl 20 ◌>>=◌
abbrev pub ◌>>=◌ : {A B : Type 0} → Reader A → (A → Reader B) → Reader B
◌>>=◌ r f = λ bits i. and_then (r bits i) (λ a j. f a bits j)

abbrev pub give : {A : Type 0} → A → Reader A
give a = λ bits i. whole a i

abbrev pub fail : {A : Type 0} → Refusal → ℕ → Reader A
fail w at = λ bits i. refuse w at

-- the place where the reading stands
abbrev pub here : Reader ℕ
here = λ bits i. whole i i

-- r, read from place p on
abbrev pub from : {A : Type 0} → ℕ → Reader A → Reader A
from p r = λ bits i. r bits p

-- one bit; "octets end before the frame does" is SHORT, at the first missing bit
unfoldable pub bit : Reader ℕ
bit bits i = cond (ltb i (length bits)) (whole (get_or bits i 0) (i + 1)) (refuse Short i)

-- the number of the next n bits, after those whose number is v
unfoldable pub number_from : ℕ → ℕ → Reader ℕ
number_from v zero = give v
number_from v (suc n) = do
  a ← bit
  number_from (2 * v + a) n

abbrev pub number : ℕ → Reader ℕ
number n = number_from 0 n

-- the next n bits, after those in `done`
unfoldable pub bits_from : List ℕ → ℕ → Reader (List ℕ)
bits_from done zero = give done
bits_from done (suc n) = do
  a ← bit
  bits_from (done ++ (a ∷ [])) n

-- the next n octets, after those in `done`
unfoldable pub octets_after : List ℕ → ℕ → Reader (List ℕ)
octets_after done zero = give done
octets_after done (suc n) = do
  x ← number 8
  octets_after (done ++ (x ∷ [])) n

-- a, once the n filling bits are read; "a filling bit isn't 0" is ALIGN
unfoldable pub filled : {A : Type 0} → A → ℕ → Reader A
filled a zero = give a
filled a (suc n) = do
  at ← here
  f ← bit
  cond (eqb f 0) (filled a n) (fail Align at)
