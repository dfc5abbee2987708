-- A greeting's lines in the code's steps: R-6's three, and R-8's (`listed-parts`).
use Prim.Native.Nat.{ℕ}
use mathlib.Core.Path.{◌≡◌, refl, sym, ap, ◌∙◌}
use mathlib.Core.List.{List}
use native.Mathlib.Omega.{arith}
use Rattle.rules.specs.Listing.{law_word, samples_word}
use Rattle.store_rows.specs.declared.rows.Row.{Row}
use Rattle.store_rows.specs.Limits.{most_number}
use Rattle.store_rows.specs.Rows.{row_of}
use Rattle.store_greeting.specs.Marks.{Mark, Note}
use Rattle.text_keyvalue.specs.Reading.{Read, whole, none, and_then}
use Rattle.text_keyvalue.specs.Lines.{line, ranged}
use Rattle.text_keyvalue.proofs.Exact.{through, got-value}
use Rattle.std.specs.Prelude.{Some, None}
use Rattle.store_text.specs.Table.{prompt_word, start_word, octets_word, row}
use Rattle.store_text.specs.Noted.{Listed, mark_lines, listed}
use Rattle.store_text.specs.Passing.{head_of, headed, head_in, noted, next_of}

module _ (far : ℕ) (text : List ℕ) (at : ℕ) where
  pub no-prompt : none ≡ ranged prompt_word 1 most_number text at → none ≡ row far text at
  unfolding row
  no-prompt e = sym (rw (← e))

  module _ {n a : ℕ} (e : whole n a ≡ ranged prompt_word 1 most_number text at) where
    pub no_start : none ≡ ranged start_word 0 far text a → none ≡ row far text at
    unfolding row
    no_start f = sym (rw (← e, ← f))

    module _ {s b : ℕ} (f : whole s b ≡ ranged start_word 0 far text a) where
      pub no-octets : none ≡ ranged octets_word 0 far text b → none ≡ row far text at
      unfolding row
      no-octets g = sym (rw (← e, ← f, ← g))

      pub row-whole : {o c : ℕ} → whole o c ≡ ranged octets_word 0 far text b → whole (row_of n s o) c ≡ row far text at
      unfolding row
      row-whole g = sym (rw (← e, ← f, ← g))

-- then the law
module _ (far : ℕ) (text : List ℕ) (at : ℕ) where
  pub head-no-row : none ≡ row far text at → none ≡ headed far text at
  unfolding headed
  head-no-row e = sym (rw (← e))

  module _ {r : Row} {a : ℕ} (e : whole r a ≡ row far text at) where
    pub head-no-law : none ≡ ranged law_word 0 1 text a → none ≡ headed far text at
    unfolding headed
    head-no-law f = sym (rw (← e, ← f))

    pub head-whole : {l b : ℕ} → whole l b ≡ ranged law_word 0 1 text a → whole (head_of r l) b ≡ headed far text at
    unfolding headed
    head-whole f = sym (rw (← e, ← f))

-- a greeting's lines are those up to the law, and those after it
abbrev note_on : ℕ → ℕ → List Mark → Note
note_on l s ms = record { law = l; samples = s; marks = ms }

abbrev with : Row → Note → Listed
with r n = record { row = r; note = n }

marks-last : (r : Row) (l s : ℕ) (q : Read (List Mark))
    → and_then q (λ ms d. whole (with r (note_on l s ms)) d) ≡ and_then (and_then q (λ ms d. whole (note_on l s ms) d))
    (λ n k. whole (with r n) k)
marks-last r l s (whole ms d) = refl
marks-last r l s none = refl

module _ (text : List ℕ) where
  samples-then : (r : Row) (l : ℕ) (q : Read ℕ)
      → and_then q (λ s c. and_then (mark_lines text c) (λ ms d. whole (with r (note_on l s ms)) d))
      ≡ and_then (and_then q (λ s c. and_then (mark_lines text c) (λ ms d. whole (note_on l s ms) d))) (λ n k. whole (with r n) k)
  samples-then r l (whole s c) = marks-last r l s (mark_lines text c)
  samples-then r l none = refl

  law-then : (r : Row) (q : Read ℕ)
      → and_then q (λ l b. and_then (line samples_word text b) (λ s c. and_then (mark_lines text c) (λ ms d. whole (with r (note_on l s ms)) d)))
      ≡ and_then (and_then q (λ l b. whole (head_of r l) b)) (λ h j. and_then (noted h.law text j) (λ n k. whole (with h.row n) k))
  unfolding noted
  law-then r (whole l b) = samples-then r l (line samples_word text b)
  law-then r none = refl

  row-then : (q : Read Row) → and_then q (λ r a. and_then (ranged law_word 0 1 text a)
      (λ l b. and_then (line samples_word text b) (λ s c. and_then (mark_lines text c) (λ ms d. whole (with r (note_on l s ms)) d))))
      ≡ and_then (and_then q (λ r a. and_then (ranged law_word 0 1 text a) (λ l b. whole (head_of r l) b)))
      (λ h j. and_then (noted h.law text j) (λ n k. whole (with h.row n) k))
  row-then (whole r a) = law-then r (ranged law_word 0 1 text a)
  row-then none = refl

  pub listed-parts : (far at : ℕ)
      → listed far text at ≡ and_then (headed far text at) (λ h j. and_then (noted h.law text j) (λ n k. whole (with h.row n) k))
  unfolding listed headed
  listed-parts far at = row-then (row far text at)

  -- the law goes into the note
  pub noted-law : (law i : ℕ) {n : Note} {j : ℕ} → noted law text i ≡ whole n j → n.law ≡ law
  unfolding noted
  noted-law law i e =
      let a = through (line samples_word text i) _ e in
      let b = through (mark_lines text a.place) _ a.then in
      ap (λ (n : Note). n.law) (sym (got-value b.then))

  module _ (far at : ℕ) where
    pub listed-no-head : none ≡ headed far text at → none ≡ head_in (listed far text at)
    listed-no-head e = sym (rw (listed-parts far at, ← e))

    module _ {r : Row} {l a : ℕ} (e : whole (head_of r l) a ≡ headed far text at) where
      pub listed-astray : None ≡ next_of (noted l text a) → none ≡ head_in (listed far text at)
      listed-astray f = sym (rw (listed-parts far at, ← e) (go (noted l text a) f))
        where
          go : (q : Read Note) → None ≡ next_of q → head_in (and_then q (λ n k. whole (with r n) k)) ≡ none
          go (whole n k) f = let z : ◌≡◌ {A = ℕ} 0 1 = cc in absurd (omega arith)
          go none f = refl

      pub listed-whole : {b : ℕ} → Some b ≡ next_of (noted l text a) → whole (head_of r l) b ≡ head_in (listed far text at)
      listed-whole {b} f = sym (rw (listed-parts far at, ← e) (go (noted l text a) f (λ n j g. noted-law l a g)))
        where
          go : (q : Read Note) → Some b ≡ next_of q → ((n : Note) (j : ℕ) → q ≡ whole n j → n.law ≡ l)
              → head_in (and_then q (λ n k. whole (with r n) k)) ≡ whole (head_of r l) b
          go (whole n k) f g =
              let z : b ≡ k = cc in
              ap (λ (x : ℕ). whole (head_of r x) k) (g n k refl) ∙ ap (λ (j : ℕ). whole (head_of r l) j) (sym z)
          go none f g = let z : ◌≡◌ {A = ℕ} 0 1 = cc in absurd (omega arith)
