-- Laws of flags as a row of words: how a word and a row are filled.
use Prim.Native.Nat.{ℕ, zero, suc, ◌+◌, ◌*◌, ◌^◌, ◌/◌, ◌%◌, ◌≤◌, ◌<◌}
use mathlib.Core.Path.{◌≡◌, refl, ap, ◌∙◌}
use mathlib.Core.List.{List, [], ◌∷◌, ◌++◌, append-nil, append_assoc, map-append}
use mathlib.Core.Bool.{Bool, true, false, cond, not}
use mir.Val.{bool_byte}
use Rattle.std.specs.Simd.{first_chunks}
use native.Mathlib.Omega.{arith}
use native.Mathlib.Numerals.{add-one}
use native.Mathlib.Nat.{pow-suc, zero-div}
use native.Mathlib.Decide.{ℕ_discrete}
use lib.ListN.{length, get_or, take, drop, set, replicate, length-set, length-append}
use lib.Seq.{take-suc, take-add, take-suc-set, get_or-take, get_or-set_same, get_or-set_other}
use Rattle.std.proofs.lemmas.List.{drop-drop, length-take}
use lib.Dec.{eqb, lit<}
use Rattle.rules.specs.Bits.{low_bits}
use Rattle.write_scan.specs.declared.row.Row.{Row}
use Rattle.write_scan.specs.Rows.{Gathers, row_bits}
use Rattle.rules.proofs.Words.{low_bits-join}
use Rattle.write_scan.specs.Looks.{marks_of}
use Rattle.rules.proofs.Octets.{length-low_bits}

-- rows one after another, their length, and flags that are all 0
pub row-append : (a b : List ℕ) → row_bits (a ++ b) ≡ row_bits a ++ row_bits b
unfolding row_bits
row-append [] b = refl
row-append (w ∷ a) b = rw (row-append a b, append_assoc)

pub length-row_bits : (ws : List ℕ) → length (row_bits ws) ≡ 40 * length ws
unfolding row_bits
length-row_bits [] = refl
length-row_bits (w ∷ ws) = rw (length-append (low_bits 40 w) (row_bits ws), length-low_bits 40 w, length-row_bits ws) (omega arith)

pub zero_bits : (n : ℕ) → low_bits n 0 ≡ replicate n 0
unfolding low_bits
zero_bits zero = refl
zero_bits (suc n) = rw (zero-div, zero_bits n)

-- no flags, and one flag more
pub word_none : Gathers [] 0 0
unfolding low_bits
word_none = record { says = refl; fits = lit< tt }

word-one : (l : List ℕ) (j v b : ℕ) → Gathers l j v → b < 2 → Gathers (l ++ (b ∷ [])) (j + 1) (2 * v + b)
unfolding low_bits
word-one l j v b g small =
    let d : 2 * v + b ≡ v * 2 ^ 1 + b = omega arith in
    let p : 2 ^ (j + 1) ≡ 2 ^ j * 2 = rw add-one (pow-suc 2 j) in
    let m : b / 1 % 2 ≡ b = omega arith in
    record {
      says = rw (d, low_bits-join j 1 v b small, g.says, m);
      fits = omega (arith, g.fits);
    }

-- a test as a number
pub test_byte : (b : Bool) → bool_byte b ≡ cond b 1 0
test_byte true = refl
test_byte false = refl

mark_byte : (b : Bool) → bool_byte (not b) ≡ cond b 0 1
mark_byte true = refl
mark_byte false = refl

pub byte_small : (b : Bool) {n : ℕ} → n ≡ bool_byte b → n < 2
byte_small true e = rw e (lit< tt)
byte_small false e = rw e (lit< tt)

-- the same as the code has it
pub word-again : (x : ℕ) (s : List ℕ) (j : ℕ) {v b : ℕ} → Gathers (marks_of x 0 1 (take j s)) j v → j < length s
    → b ≡ bool_byte (not (eqb (get_or s j 0) x)) → Gathers (marks_of x 0 1 (take (j + 1) s)) (j + 1) (2 * v + b)
word-again x s j {v} {b} g h e =
    let f : ℕ → ℕ = λ y. cond (eqb y x) 0 1 in
    let told = e ∙ mark_byte (eqb (get_or s j 0) x) in
    let at : marks_of x 0 1 (take (j + 1) s) ≡ marks_of x 0 1 (take j s) ++ (b ∷ []) =
    rw (add-one, take-suc s j 0 h, told) (map-append f (take j s) (get_or s j 0 ∷ [])) in
    rw at (word-one (marks_of x 0 1 (take j s)) j v b g (byte_small _ e))

-- the words of a row that count
module _ (row : Row) {words : List ℕ} (e : words ≡ take row.count row.words) where
  pub words-few : length words ≤ 8
  words-few = omega (arith, row.few, ap length e, length-take row.count row.words)

  pub word-small : (i : ℕ) → i < length words → get_or words i 0 < 2 ^ 40
  word-small i h =
      let at : i < row.count = omega (arith, ap length e, length-take row.count row.words) in
      rw (e, get_or-take row.count row.words i 0 at) (row.small i)

-- words with one word more
small-set : (row : List ℕ) (i w : ℕ) → i < length row → w < 2 ^ 40 → ((j : ℕ) → get_or row j 0 < 2 ^ 40) → (j : ℕ) → Dec (j ≡ i)
    → get_or (set row i w) j 0 < 2 ^ 40
small-set row i w h small all j (yes e) = rw (e, get_or-set_same row i w 0 h) small
small-set row i w h small all j (no e) = rw (get_or-set_other row i j w 0 e) (all j)

-- words that are laid, one after another
pub record Laid (flags : List ℕ) (i : ℕ) (words : List ℕ) : Type 0 where
  pub says : row_bits (take i words) ≡ flags
  pub small : (j : ℕ) → get_or words j 0 < 2 ^ 40
  pub size : length words ≡ 8

pub laid_one : {flags more words : List ℕ} {i w : ℕ} → Laid flags i words → i < 8 → Gathers more 40 w
    → Laid (flags ++ more) (i + 1) (set words i w)
unfolding row_bits
laid_one {words = words} {i = i} {w = w} t h g =
    let inr : i < length words = omega (arith, t.size) in
    record {
      says = rw (add-one, take-suc-set words i w inr, row-append, t.says, append-nil, g.says);
      small = λ j. small-set words i w inr g.fits t.small j (ℕ_discrete j i);
      size = length-set words i w ∙ t.size;
    }

zeros-small : (n i : ℕ) → get_or (replicate n 0) i 0 < 2 ^ 40
zeros-small zero i = lit< tt
zeros-small (suc n) zero = lit< tt
zeros-small (suc n) (suc i) = zeros-small n i

pub laid-none : Laid [] 0 (replicate 8 0)
unfolding row_bits
laid-none = record { says = refl; small = zeros-small 8; size = refl }

-- the chunk at a place
pub chunk-of : (n k i : ℕ) (s : List ℕ) → i < k → get_or (first_chunks n k s) i [] ≡ take n (drop (n * i) s)
chunk-of n zero i s h = absurd (omega arith)
chunk-of n (suc k) zero s h = let e : n * 0 ≡ 0 = omega arith in rw e refl
chunk-of n (suc k) (suc i) s h =
    let e : n * suc i ≡ n + n * i = omega arith in
    rw (chunk-of n k i (drop n s) (omega arith), e, drop-drop (n * i) n s) refl

pub chunk-at : (k i : ℕ) (s : List ℕ) → i < k → get_or (first_chunks 40 k s) i [] ≡ take 40 (drop (40 * i) s)
chunk-at = chunk-of 40

-- the same as the code has it
pub laid-again : (x k : ℕ) (s : List ℕ) {words : List ℕ} {i w : ℕ} → k ≤ 8 → i < k → Laid (marks_of x 0 1 (take (40 * i) s)) i words
    → Gathers (marks_of x 0 1 (get_or (first_chunks 40 k s) i [])) 40 w → Laid (marks_of x 0 1 (take (40 * (i + 1)) s)) (i + 1) (set words i w)
laid-again x k s {words} {i} {w} few h t g =
    let f : ℕ → ℕ = λ y. cond (eqb y x) 0 1 in
    let e : 40 * (i + 1) ≡ 40 * i + 40 = omega arith in
    let at : marks_of x 0 1 (take (40 * (i + 1)) s) ≡ marks_of x 0 1 (take (40 * i) s) ++ marks_of x 0 1 (take 40 (drop (40 * i) s)) =
    rw (e, take-add (40 * i) 40 s) (map-append f (take (40 * i) s) (take 40 (drop (40 * i) s))) in
    rw at (laid_one t (omega arith) (rw (chunk-at k i s h) at g))
