-- A line as the code reads it: its number as the code holds it.
use Prim.Native.Nat.{ℕ, ◌+◌, ◌-◌, ◌^◌, ◌≤◌, ◌<◌, min}
use mathlib.Core.Path.{◌≡◌, refl, sym, ◌∙◌}
use mathlib.Core.List.{List, [], ◌∷◌}
use mathlib.Core.Bool.{Bool, true, false, cond, ◌&&◌}
use native.Mathlib.Omega.{arith}
use lib.ListN.{length, drop, length-drop, length-append}
use lib.Dec.{eqb, leb}
use borrow.Author.Tests.{le-leb, lt-leb, leb-true, leb-false}
use Rattle.rules.specs.Listing.{decimal, line_end}
use Rattle.rules.proofs.Tests.{and_right}
use Rattle.text_keyvalue.specs.Reading.{Read, whole, none, and_then, begins, number, most, capped}
use Rattle.text_keyvalue.specs.Lines.{line_of, line, ranged, is_within}
use Rattle.text_keyvalue.proofs.Decimals.{decimal-few}

-- a word that stands in a text fits it
pub begins-fits : (word text : List ℕ) → begins word text ≡ true → length word ≤ length text
unfolding begins
begins-fits [] text e = omega arith
begins-fits (x ∷ word) [] e = let z : ◌≡◌ {A = ℕ} 0 1 = cc in absurd (omega arith)
begins-fits (x ∷ word) (y ∷ text) e = let h = begins-fits word text (and_right (eqb x y) (begins word text) e) in omega arith

pub word_fits : (word text : List ℕ) (at : ℕ) → begins word (drop at text) ≡ true → length word ≤ length text - at
word_fits word text at e = omega (arith, begins-fits word (drop at text) e, length-drop at text)

-- the number is held where it is read
pub line-held : (key text : List ℕ) (at : ℕ) → capped (line key text at)
    ≡ cond (begins key (drop at text))
    (and_then (capped (number text (at + length key))) (λ n j. cond (begins line_end (drop j text)) (whole n (j + 1)) none)) none
unfolding line
line-held key text at = go (begins key (drop at text)) (number text (at + length key))
  where
    ends : (n j : ℕ) (t : Bool) → capped (cond t (whole n (j + 1)) none) ≡ cond t (whole (min n most) (j + 1)) none
    ends n j true = refl
    ends n j false = refl

    go : (t : Bool) (r : Read ℕ)
        → capped (cond t (and_then r (λ n j. cond (begins line_end (drop j text)) (whole n (j + 1)) none)) none)
        ≡ cond t (and_then (capped r) (λ n j. cond (begins line_end (drop j text)) (whole n (j + 1)) none)) none
    go true (whole n j) = ends n j (begins line_end (drop j text))
    go true none = refl
    go false r = refl

and-false : (t : Bool) → (t && false) ≡ false
and-false true = refl
and-false false = refl

-- so is one whose range the code can hold
pub ranged-held : (key : List ℕ) (low high : ℕ) (text : List ℕ) (at : ℕ) → high + 1 ≤ most
    → ranged key low high text at ≡ and_then (capped (line key text at)) (λ n j. cond (is_within low high n) (whole n j) none)
unfolding ranged
ranged-held key low high text at h = go (line key text at)
  where
    held : (m j : ℕ) (t : Bool) → leb m high ≡ t
        → cond (leb low m && t) (whole m j) none ≡ cond (leb low (min m most) && leb (min m most) high) (whole (min m most) j) none
    held m j true e = let q = leb-true m high e in let z : min m most ≡ m = omega arith in rw (z, e)
    held m j false e = let q = leb-false m high e in
        rw (lt-leb (min m most) high (omega arith), and-false (leb low m), and-false (leb low (min m most)))

    go : (r : Read ℕ) → and_then r (λ n j. cond (is_within low high n) (whole n j) none) ≡ and_then (capped r)
        (λ n j. cond (is_within low high n) (whole n j) none)
    go (whole m j) = held m j (leb m high) refl
    go none = refl

-- in the code's steps
module _ (key text : List ℕ) (at : ℕ) where
  pub line-no-key : begins key (drop at text) ≡ false → none ≡ capped (line key text at)
  line-no-key e = sym (line-held key text at ∙ rw e)

  module _ (e : begins key (drop at text) ≡ true) where
    pub line-no-number : none ≡ capped (number text (at + length key)) → none ≡ capped (line key text at)
    line-no-number f = sym (line-held key text at ∙ rw (e, ← f))

    module _ {n j : ℕ} (f : whole n j ≡ capped (number text (at + length key))) where
      pub line-no-end : begins line_end (drop j text) ≡ false → none ≡ capped (line key text at)
      line-no-end g = sym (line-held key text at ∙ rw (e, ← f, g))

      pub line-whole : begins line_end (drop j text) ≡ true → whole n (j + 1) ≡ capped (line key text at)
      line-whole g = sym (line-held key text at ∙ rw (e, ← f, g))

module _ (key : List ℕ) (low high : ℕ) (text : List ℕ) (at : ℕ) (h : high + 1 ≤ most) where
  pub ranged-none : none ≡ capped (line key text at) → none ≡ ranged key low high text at
  ranged-none e = sym (ranged-held key low high text at h ∙ rw (← e))

  module _ {n j : ℕ} (e : whole n j ≡ capped (line key text at)) where
    pub ranged-low : n < low → none ≡ ranged key low high text at
    ranged-low l = sym (ranged-held key low high text at h ∙ rw (← e, lt-leb low n l))

    pub ranged-high : high < n → none ≡ ranged key low high text at
    ranged-high l = sym (ranged-held key low high text at h ∙ rw (← e, lt-leb n high l, and-false (leb low n)))

    pub ranged-whole : low ≤ n → n ≤ high → whole n j ≡ ranged key low high text at
    ranged-whole a b = sym (ranged-held key low high text at h ∙ rw (← e, le-leb low n a, le-leb n high b))

-- a line's octets: its key's, its digits', and 0A; a number of 32 bits has at most 10 digits
pub line-length : (key : List ℕ) (n : ℕ) → length (line_of key n) ≡ length key + length (decimal n) + 1
unfolding line_of
line-length key n = simp length-append (omega arith)

pub line-few : (key : List ℕ) (n : ℕ) → n < 2 ^ 32 → length (line_of key n) ≤ length key + 11
line-few key n h = omega (arith, line-length key n, decimal-few 9 n (omega arith))
