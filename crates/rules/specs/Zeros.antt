-- Document 01, "Bodies": tools 1 to 6, each as it is read and as it is written. N is the frame's length.
use Rattle.std.specs.Prelude.{ℕ, ◌-◌, List, [], ◌∷◌, ◌++◌, map, cond, length, get_or, replicate, eqb}
use Rattle.rules.specs.Bits.{low_bits, bits_of}
use Rattle.rules.specs.Reading.{Reader, ◌>>=◌, give, bit, number, bits_from, octets_after}
use Rattle.rules.specs.First.{octet_for, rice_code}
use Rattle.rules.specs.Samples.{plus_zero, minus_zero}
use Rattle.rules.specs.Runs.{runs, runs_form}

-- what a writer puts before the body of every tool but 6
abbrev pub prefix : ℕ → ℕ → List ℕ
prefix t n = low_bits 8 (octet_for t n)

-- "Uncompressed: N octets."
abbrev pub uncompressed : ℕ → Reader (List ℕ)
uncompressed n = octets_after [] n

abbrev pub uncompressed_form : List ℕ → List ℕ
uncompressed_form s = prefix 1 (length s) ++ bits_of s

-- "Plus, minus: nothing." These are tools 2 and 3
abbrev pub constantly : ℕ → ℕ → Reader (List ℕ)
constantly n x = give (replicate n x)

abbrev pub plus_form : List ℕ → List ℕ
plus_form s = prefix 2 (length s)

abbrev pub minus_form : List ℕ → List ℕ
minus_form s = prefix 3 (length s)

-- "Constant: one octet, any."
abbrev pub constant : ℕ → Reader (List ℕ)
constant n = do
  x ← number 8
  constantly n x

abbrev pub constant_form : List ℕ → List ℕ
constant_form s = prefix 4 (length s) ++ low_bits 8 (get_or s 0 0)

-- The zero of a flag: flag 0 is the common kind, which is plus where the mark is 0 and minus where it is 1. So flag and mark are equal at
-- plus. And the flag of a zero.
abbrev pub zero_of : ℕ → ℕ → ℕ → ℕ
zero_of mask mark f = cond (eqb f mark) (plus_zero mask) (minus_zero mask)

abbrev pub flag_of : ℕ → ℕ → ℕ → ℕ
flag_of mask mark x = cond (eqb x (zero_of mask mark 0)) 0 1

-- "Binary: N bits, 1 is minus zero."
abbrev pub binary : ℕ → ℕ → Reader (List ℕ)
binary mask n = do
  flags ← bits_from [] n
  give (map (zero_of mask 0) flags)

abbrev pub binary_form : ℕ → List ℕ → List ℕ
binary_form mask s = prefix 5 (length s) ++ map (flag_of mask 0) s

-- The codes of S = 1, 2, .. in turn: for 40, for 80, and for 160, 240, 320. An S past the last has none.
unfoldable pub codes_of : ℕ → List (List ℕ)
codes_of n =
    cond (eqb n 40)
    ((0 ∷ 1 ∷ []) ∷ (1 ∷ 0 ∷ []) ∷ (1 ∷ 1 ∷ 0 ∷ []) ∷ (1 ∷ 1 ∷ 1 ∷ 0 ∷ []) ∷ (1 ∷ 1 ∷ 1 ∷ 1 ∷ []) ∷ [])
    (cond (eqb n 80)
    ((0 ∷ 1 ∷ [])
    ∷ (1 ∷ 0 ∷ [])
    ∷ (1 ∷ 1 ∷ 0 ∷ 0 ∷ [])
    ∷ (1 ∷ 1 ∷ 0 ∷ 1 ∷ [])
    ∷ (1 ∷ 1 ∷ 1 ∷ 0 ∷ [])
    ∷ (1 ∷ 1 ∷ 1 ∷ 1 ∷ [])
    ∷ [])
    ((0 ∷ 1 ∷ [])
    ∷ (1 ∷ 0 ∷ [])
    ∷ (1 ∷ 1 ∷ 0 ∷ 0 ∷ [])
    ∷ (1 ∷ 1 ∷ 0 ∷ 1 ∷ [])
    ∷ (1 ∷ 1 ∷ 1 ∷ 0 ∷ 0 ∷ [])
    ∷ (1 ∷ 1 ∷ 1 ∷ 0 ∷ 1 ∷ [])
    ∷ (1 ∷ 1 ∷ 1 ∷ 1 ∷ 0 ∷ [])
    ∷ (1 ∷ 1 ∷ 1 ∷ 1 ∷ 1 ∷ 0 ∷ [])
    ∷ (1 ∷ 1 ∷ 1 ∷ 1 ∷ 1 ∷ 1 ∷ [])
    ∷ []))

abbrev pub code_of : ℕ → ℕ → List ℕ
code_of n s = get_or (codes_of n) (s - 1) []

abbrev pub most_s : ℕ → ℕ
most_s n = length (codes_of n)

-- the same codes as a tree, for reading; 00 is tool 8, which is decided before a body is read
pub data Tree : Type 0 where
  leaf : ℕ → Tree
  fork : Tree → Tree → Tree

unfoldable pub tree_of : ℕ → Tree
tree_of n =
    fork (fork (leaf 0) (leaf 1)) (fork (leaf 2)
    (cond (eqb n 40)
    (fork (leaf 3) (fork (leaf 4) (leaf 5)))
    (cond (eqb n 80)
    (fork (fork (leaf 3) (leaf 4)) (fork (leaf 5) (leaf 6)))
    (fork (fork (leaf 3) (leaf 4)) (fork (fork (leaf 5) (leaf 6)) (fork (leaf 7) (fork (leaf 8) (leaf 9))))))))

unfoldable pub read_tree : Tree → Reader ℕ
read_tree (leaf s) = give s
read_tree (fork z o) = do
  a ← bit
  cond (eqb a 1) (read_tree o) (read_tree z)

-- "Tool 6: code of S, then runs over N."
abbrev pub plus_minus : ℕ → ℕ → ℕ → Reader (List ℕ)
plus_minus mask n mark = do
  s ← read_tree (tree_of n)
  flags ← runs n s n
  give (map (zero_of mask mark) flags)

abbrev pub plus_minus_form : ℕ → ℕ → ℕ → List ℕ → List ℕ
plus_minus_form mask mark s samples =
    rice_code (length samples) mark ++ (code_of (length samples) s ++ runs_form s (map (flag_of mask mark) samples))
