-- Document 01, "Bodies": Rice(S, v), and runs over D places; each as it is read and as it is written.
-- D places are D flags: 0 the common kind, 1 the other.
use Rattle.std.specs.Prelude.{ℕ, zero, suc, ◌+◌, ◌*◌, ◌-◌, ◌^◌, ◌/◌, List, [], ◌∷◌, ◌++◌, cond, replicate, eqb, ltb}
use Rattle.rules.specs.declared.Refusal.TheVariants.{Run}
use Rattle.rules.specs.Bits.{low_bits}
use Rattle.rules.specs.Reading.{Reader, ◌>>=◌, give, fail, here, bit, number}

-- the zeros before a one, after k of them, of a code that begins at `start`; `left` more zeros are RUN:
-- "ends at the first one bit, or at zero N + 1, which is RUN"
unfoldable pub zeros_from : ℕ → ℕ → ℕ → Reader ℕ
zeros_from start k zero = fail Run start
zeros_from start k (suc left) = do
  a ← bit
  cond (eqb a 1) (give k) (zeros_from start (k + 1) left)

-- "k zeros and a 1, then the low S bits of v"
unfoldable pub rice : ℕ → ℕ → Reader ℕ
rice n s = do
  start ← here
  k ← zeros_from start 0 (n + 1)
  low ← number s
  give (k * 2 ^ s + low)

unfoldable pub rice_form : ℕ → ℕ → List ℕ
rice_form s v = replicate (v / 2 ^ s) 0 ++ (1 ∷ low_bits s v)

-- "a run v means v places of the common kind, then one of the other. If v equals the places left, the closing sample is
-- imagined. Reading ends when all D places are filled; a larger v is RUN, judged when v is whole."
-- Each run fills a place, so the first number, D of them, is never short.
unfoldable pub runs_from : ℕ → ℕ → ℕ → ℕ → List ℕ → Reader (List ℕ)
runs_from n s zero left done = give done
runs_from n s (suc more) left done =
    cond (eqb left 0) (give done) (do
      start ← here
      v ← rice n s
      cond (ltb left v) (fail Run start)
          (cond (eqb v left) (give (done ++ replicate v 0))
          (runs_from n s more (left - (v + 1)) (done ++ (replicate v 0 ++ (1 ∷ []))))))

abbrev pub runs : ℕ → ℕ → ℕ → Reader (List ℕ)
runs n s d = runs_from n s d d []

-- the runs of flags, c common places being open. "No run follows a run whose closing sample is the last place."
unfoldable pub runs_of : ℕ → List ℕ → List ℕ
runs_of zero [] = []
runs_of (suc c) [] = suc c ∷ []
runs_of c (zero ∷ flags) = runs_of (c + 1) flags
runs_of c (suc f ∷ flags) = c ∷ runs_of 0 flags

unfoldable pub rice_forms : ℕ → List ℕ → List ℕ
rice_forms s [] = []
rice_forms s (v ∷ vs) = rice_form s v ++ rice_forms s vs

-- the bits of flags as runs with parameter S
abbrev pub runs_form : ℕ → List ℕ → List ℕ
runs_form s flags = rice_forms s (runs_of 0 flags)
