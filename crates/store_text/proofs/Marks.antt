-- R-8's lines of samples and marks in the code's steps: passed over (Marking), and compared one by one with given ones (`marks-on`) and
-- with marks in cells (`are-turn`).
use Prim.Native.Nat.{ℕ, suc, ◌+◌, ◌*◌, ◌-◌, ◌≤◌, ◌<◌, min}
use mathlib.Core.Path.{◌≡◌, refl, sym, ap, ◌∙◌}
use mathlib.Core.List.{List, [], ◌∷◌, ◌++◌}
use mathlib.Core.Bool.{Bool, true, false, cond}
use native.Mathlib.Omega.{arith}
use lib.ListN.{length, get_or, drop, length-append}
use lib.Seq.{drop-drop, get_or-drop}
use lib.Dec.{eqb}
use borrow.Author.Tests.{eq-eqb, ne_eqb}
use Rattle.rules.specs.Listing.{line_end, samples_word}
use Rattle.store_greeting.specs.Marks.{Mark, Note, mark_of}
use Rattle.store_notes.specs.Cells.{marks_in}
use Rattle.text_keyvalue.specs.Reading.{Read, whole, none, and_then, begins, is_digit, digits_on, decimal_on, number, most, capped}
use Rattle.text_keyvalue.specs.Lines.{line}
use Rattle.text_keyvalue.proofs.Exact.{through, passed, got-value, got-place}
use Rattle.std.specs.Prelude.{Option, Some, None}
use Rattle.store_text.specs.Noted.{mark_word, comma, mark_line, mark_lines_from, mark_lines}
use Rattle.store_text.specs.Passing.{number_then, held_mark, next_of, noted, mark_is, no_mark, marks_are, samples_is, note_is}

-- a number as it is held, and as it was read
record Number (r : Read ℕ) (n j : ℕ) : Type 0 where
  real : ℕ
  first : r ≡ whole real j
  held : n ≡ min real most

number-held : (r : Read ℕ) {n j : ℕ} → whole n j ≡ capped r → Number r n j
number-held (whole m i) {n} {j} e =
    let a : n ≡ min m most = got-value e in
    let b : j ≡ i = got-place e in
    record { real = m; first = ap (whole m) (sym b); held = a }
number-held none e = let z : ◌≡◌ {A = ℕ} 0 1 = cc in absurd (omega arith)

no_number : (r : Read ℕ) → none ≡ capped r → r ≡ none
no_number (whole m i) e = let z : ◌≡◌ {A = ℕ} 0 1 = cc in absurd (omega arith)
no_number none e = refl

-- the number is held where it is read
then-held : (word text : List ℕ) (at : ℕ) → capped (number_then word text at)
    ≡ and_then (capped (number text at)) (λ n j. cond (begins word (drop j text)) (whole n (j + length word)) none)
unfolding number_then
then-held word text at = go (number text at)
  where
    ends : (n j : ℕ) (t : Bool) → capped (cond t (whole n (j + length word)) none) ≡ cond t (whole (min n most) (j + length word)) none
    ends n j true = refl
    ends n j false = refl

    go : (r : Read ℕ) → capped (and_then r (λ n j. cond (begins word (drop j text)) (whole n (j + length word)) none))
        ≡ and_then (capped r) (λ n j. cond (begins word (drop j text)) (whole n (j + length word)) none)
    go (whole n j) = ends n j (begins word (drop j text))
    go none = refl

module _ (word text : List ℕ) (at : ℕ) where
  pub then-no-number : none ≡ capped (number text at) → none ≡ capped (number_then word text at)
  then-no-number e = sym (then-held word text at ∙ rw (← e))

  module _ {n j : ℕ} (e : whole n j ≡ capped (number text at)) where
    pub then-no-word : begins word (drop j text) ≡ false → none ≡ capped (number_then word text at)
    then-no-word f = sym (then-held word text at ∙ rw (← e, f))

    pub then-whole : begins word (drop j text) ≡ true → whole n (j + length word) ≡ capped (number_then word text at)
    then-whole f = sym (then-held word text at ∙ rw (← e, f))

-- a mark's line is a word, and two numbers with a word after each
mark-parts : (text : List ℕ) (at : ℕ) → mark_line text at
    ≡ cond (begins mark_word (drop at text))
    (and_then (number_then comma text (at + 5)) (λ o a. and_then (number_then line_end text a) (λ s b. whole (mark_of o s) b))) none
unfolding mark_line number_then
mark-parts text at = ap (λ (r : Read Mark). cond (begins mark_word (drop at text)) r none) (first (number text (at + 5)))
  where
    last : (o s j : ℕ) (t : Bool) → cond t (whole (mark_of o s) (j + 1)) none ≡ and_then (cond t (whole s (j + 1)) none)
        (λ s b. whole (mark_of o s) b)
    last o s j true = refl
    last o s j false = refl

    third : (o : ℕ) (r : Read ℕ) → and_then r (λ s k. cond (begins line_end (drop k text)) (whole (mark_of o s) (k + 1)) none)
        ≡ and_then (and_then r (λ s k. cond (begins line_end (drop k text)) (whole s (k + 1)) none)) (λ s b. whole (mark_of o s) b)
    third o (whole s k) = last o s k (begins line_end (drop k text))
    third o none = refl

    second : (o j : ℕ) (t : Bool)
        → cond t (and_then (number text (j + 1)) (λ s k. cond (begins line_end (drop k text)) (whole (mark_of o s) (k + 1)) none)) none
        ≡ and_then (cond t (whole o (j + 1)) none)
        (λ o a. and_then (and_then (number text a) (λ s k. cond (begins line_end (drop k text)) (whole s (k + 1)) none))
        (λ s b. whole (mark_of o s) b))
    second o j true = third o (number text (j + 1))
    second o j false = refl

    first : (r : Read ℕ) → and_then r (λ o j. cond (begins comma (drop j text))
        (and_then (number text (j + 1)) (λ s k. cond (begins line_end (drop k text)) (whole (mark_of o s) (k + 1)) none)) none)
        ≡ and_then (and_then r (λ o j. cond (begins comma (drop j text)) (whole o (j + 1)) none))
        (λ o a. and_then (and_then (number text a) (λ s k. cond (begins line_end (drop k text)) (whole s (k + 1)) none))
        (λ s b. whole (mark_of o s) b))
    first (whole o j) = second o j (begins comma (drop j text))
    first none = refl

mark-held : (text : List ℕ) (at : ℕ) → held_mark (mark_line text at)
    ≡ cond (begins mark_word (drop at text)) (and_then (capped (number_then comma text (at + 5)))
    (λ o a. and_then (capped (number_then line_end text a)) (λ s b. whole (mark_of o s) b))) none
mark-held text at = ap held_mark (mark-parts text at) ∙ first (begins mark_word (drop at text)) (number_then comma text (at + 5))
  where
    third : (o : ℕ) (r : Read ℕ) → held_mark (and_then r (λ s b. whole (mark_of o s) b)) ≡ and_then (capped r)
        (λ s b. whole (mark_of (min o most) s) b)
    third o (whole s b) = refl
    third o none = refl

    first : (t : Bool) (r : Read ℕ)
        → held_mark (cond t (and_then r (λ o a. and_then (number_then line_end text a) (λ s b. whole (mark_of o s) b))) none)
        ≡ cond t (and_then (capped r) (λ o a. and_then (capped (number_then line_end text a)) (λ s b. whole (mark_of o s) b))) none
    first true (whole o a) = third o (number_then line_end text a)
    first true none = refl
    first false r = refl

module _ (text : List ℕ) (at : ℕ) where
  pub no-mark : begins mark_word (drop at text) ≡ false → none ≡ held_mark (mark_line text at)
  no-mark e = sym (mark-held text at ∙ rw e)

  module _ (e : begins mark_word (drop at text) ≡ true) where
    pub mark-no-octets : none ≡ capped (number_then comma text (at + 5)) → none ≡ held_mark (mark_line text at)
    mark-no-octets f = sym (mark-held text at ∙ rw (e, ← f))

    module _ {o a : ℕ} (f : whole o a ≡ capped (number_then comma text (at + 5))) where
      pub mark-no-samples : none ≡ capped (number_then line_end text a) → none ≡ held_mark (mark_line text at)
      mark-no-samples g = sym (mark-held text at ∙ rw (e, ← f, ← g))

      pub mark-whole : {s b : ℕ} → whole s b ≡ capped (number_then line_end text a) → whole (mark_of o s) b ≡ held_mark (mark_line text at)
      mark-whole g = sym (mark-held text at ∙ rw (e, ← f, ← g))

-- a number goes on
digits-go : (v i : ℕ) (text : List ℕ) (n j : ℕ) → digits_on v i text ≡ whole n j → i ≤ j
unfolding digits_on
digits-go v i [] n j e = let z = got-place e in omega arith
digits-go v i (x ∷ text) n j e = go (is_digit x) e (digits-go (10 * v + (x - 48)) (i + 1) text n j)
  where
    go : (t : Bool) → cond t (digits_on (10 * v + (x - 48)) (i + 1) text) (whole v i) ≡ whole n j
        → (digits_on (10 * v + (x - 48)) (i + 1) text ≡ whole n j → i + 1 ≤ j) → i ≤ j
    go true e ih = let h = ih e in omega arith
    go false e ih = let z = got-place e in omega arith

number-goes : (text : List ℕ) (i n j : ℕ) → number text i ≡ whole n j → i < j
unfolding number decimal_on
number-goes text i n j e = go (drop i text) e
  where
    pick : (x : ℕ) (rest : List ℕ) (s t : Bool)
        → cond s (whole 0 (i + 1)) (cond t (digits_on (x - 48) (i + 1) rest) none) ≡ whole n j → i < j
    pick x rest true t e = let z = got-place e in omega arith
    pick x rest false true e = omega (arith, digits-go (x - 48) (i + 1) rest n j e)
    pick x rest false false e = let z : ◌≡◌ {A = ℕ} 0 1 = cc in absurd (omega arith)

    go : (rest : List ℕ) → decimal_on i rest ≡ whole n j → i < j
    go [] e = let z : ◌≡◌ {A = ℕ} 0 1 = cc in absurd (omega arith)
    go (x ∷ rest) e = pick x rest (eqb x 48) (is_digit x) e

then-goes : (word text : List ℕ) (i n j : ℕ) → number_then word text i ≡ whole n j → i < j
unfolding number_then
then-goes word text i n j e =
    let m = through (number text i) _ e in
    let o = passed (begins word (drop m.place text)) (whole m.value (m.place + length word)) m.then in
    let z = got-place o.1 in
    omega (arith, number-goes text i m.value m.place m.first)

pub mark-goes : (text : List ℕ) (i : ℕ) (m : Mark) (j : ℕ) → mark_line text i ≡ whole m j → i < j
mark-goes text i m j e =
    let k = passed (begins mark_word (drop i text)) _ (sym (mark-parts text i) ∙ e) in
    let a = through (number_then comma text (i + 5)) _ k.1 in
    let b = through (number_then line_end text a.place) _ a.then in
    let z = got-place b.then in
    omega (
      arith,
      then-goes comma text (i + 5) a.value a.place a.first,
      then-goes line_end text a.place b.value
          b.place b.first,
    )

-- a mark as it is held, and as it was read
record HeldMark (r : Read Mark) (o s j : ℕ) : Type 0 where
  real : Mark
  first : r ≡ whole real j
  octets : o ≡ min real.octets most
  samples : s ≡ min real.samples most

held-mark : (r : Read Mark) {o s j : ℕ} → whole (mark_of o s) j ≡ held_mark r → HeldMark r o s j
held-mark (whole q i) {o} {s} {j} e =
    let b : j ≡ i = got-place e in
    let m = got-value e in
    record {
      real = q;
      first = ap (whole q) (sym b);
      octets = ap (λ (m : Mark). m.octets) m;
      samples = ap (λ (m : Mark). m.samples) m;
    }
held-mark none e = let z : ◌≡◌ {A = ℕ} 0 1 = cc in absurd (omega arith)

not-mark : (r : Read Mark) → none ≡ held_mark r → r ≡ none
not-mark (whole q i) e = let z : ◌≡◌ {A = ℕ} 0 1 = cc in absurd (omega arith)
not-mark none e = refl

-- where the reading of marks stands
pub record Marking (text : List ℕ) (at i : ℕ) : Type 0 where
  pub done : List Mark
  pub few : length done ≤ length text
  pub gone : length done ≤ i
  pub left : mark_lines text at ≡ mark_lines_from (suc (length text) - length done) done text i

pub marking-first : (text : List ℕ) (at : ℕ) → Marking text at at
unfolding mark_lines
marking-first text at =
    let z : suc (length text) - 0 ≡ suc (length text) = omega arith in
    record { done = []; few = omega arith; gone = omega arith; left = rw z }

module _ {text : List ℕ} {at i : ℕ} (s : Marking text at i) where
  step : mark_lines_from (suc (length text) - length s.done) s.done text i
      ≡ cond (begins mark_word (drop i text))
      (and_then (mark_line text i) (λ m j. mark_lines_from (suc (length text) - (length s.done + 1)) (s.done ++ (m ∷ [])) text j))
      (whole s.done i)
  unfolding mark_lines_from
  step =
      let f = s.few in
      let z : suc (length text) - length s.done ≡ suc (suc (length text) - (length s.done + 1)) = omega arith in
      rw z

  pub marking-end : begins mark_word (drop i text) ≡ false → Some i ≡ next_of (mark_lines text at)
  marking-end e = sym (rw (s.left ∙ step, e))

  module _ (e : begins mark_word (drop i text) ≡ true) where
    pub marking-stuck : none ≡ held_mark (mark_line text i) → None ≡ next_of (mark_lines text at)
    marking-stuck f = sym (rw (s.left ∙ step, e, not-mark (mark_line text i) f))

    pub marking-turn : {o n j : ℕ} → i < length text → whole (mark_of o n) j ≡ held_mark (mark_line text i) → Marking text at j
    marking-turn {o} {n} {j} l f = turn (held-mark (mark_line text i) f).real (held-mark (mark_line text i) f).first
      where
        turn : (q : Mark) → mark_line text i ≡ whole q j → Marking text at j
        turn q g =
            let c : length (s.done ++ (q ∷ [])) ≡ length s.done + 1 = length-append s.done (q ∷ []) in
            record {
              done = s.done ++ (q ∷ []);
              few = let h = s.gone in omega arith;
              gone = let h = s.gone in omega (arith, mark-goes text i q j g);
              left = s.left ∙ step ∙ rw (e, g, c);
            }

    pub marking-less : {o n j : ℕ} → whole (mark_of o n) j ≡ held_mark (mark_line text i) → i < j
    marking-less {o} {n} {j} f = let h = held-mark (mark_line text i) f in mark-goes text i h.real j h.first

-- samples, then marks
next-same : (r : Read (List Mark)) (f : List Mark → Note) → next_of r ≡ next_of (and_then r (λ ms k. whole (f ms) k))
next-same (whole ms k) f = refl
next-same none f = refl

module _ (text : List ℕ) (at law : ℕ) where
  pub note-no-samples : none ≡ capped (line samples_word text at) → None ≡ next_of (noted law text at)
  unfolding noted
  note-no-samples e = sym (rw (no_number (line samples_word text at) e))

  pub note-marks : {n a : ℕ} {r : Option ℕ} → whole n a ≡ capped (line samples_word text at) → r ≡ next_of (mark_lines text a)
      → r ≡ next_of (noted law text at)
  unfolding noted
  note-marks {n} {a} {r} e f =
      let h = number-held (line samples_word text at) e in
      rw h.first (f ∙ next-same (mark_lines text a) (λ ms. record { law = law; samples = h.real; marks = ms }))

-- marks in cells, one by one
pub marks-step : (cells : List ℕ) (m j : ℕ) → j < m → marks_in (m - j) (drop (2 * j) cells)
    ≡ mark_of (get_or cells (2 * j) 0) (get_or cells (2 * j + 1) 0) ∷ marks_in (m - (j + 1)) (drop (2 * (j + 1)) cells)
unfolding marks_in
marks-step cells m j h =
    let e : m - j ≡ suc (m - (j + 1)) = omega arith in
    let a : 2 * j + 0 ≡ 2 * j = omega arith in
    let b : 2 * j + 2 ≡ 2 * (j + 1) = omega arith in
    rw (e, get_or-drop (2 * j) cells 0 0, get_or-drop (2 * j) cells 1 0, drop-drop 2 (2 * j) cells, a, b)

pub marks-none : (cells : List ℕ) (m j : ℕ) → m ≤ j → marks_in (m - j) (drop (2 * j) cells) ≡ []
unfolding marks_in
marks-none cells m j h = let e : m - j ≡ 0 = omega arith in rw e

pub marks-all : (cells : List ℕ) (m : ℕ) → marks_in m cells ≡ marks_in (m - 0) (drop (2 * 0) cells)
marks-all cells m = let e : m - 0 ≡ m = omega arith in rw e

-- a mark beside a given one
module _ (text : List ℕ) (i o s : ℕ) where
  pub is-unmarked : none ≡ held_mark (mark_line text i) → None ≡ next_of (mark_is o s text i)
  unfolding mark_is
  is-unmarked e = sym (rw (not-mark (mark_line text i) e))

  module _ (a : o < most) (b : s < most) {x n nxt : ℕ} (e : whole (mark_of x n) nxt ≡ held_mark (mark_line text i)) where
    pub is-octets : (x ≡ o → ⊥) → None ≡ next_of (mark_is o s text i)
    unfolding mark_is
    is-octets f =
        let q = held-mark (mark_line text i) e in
        let d : q.real.octets ≡ o → ⊥ = λ z. f (q.octets ∙ omega arith) in
        sym (rw (q.first, ne_eqb _ _ d))

    module _ (f : x ≡ o) where
      same-octets : (held-mark (mark_line text i) e).real.octets ≡ o
      same-octets = let g = (held-mark (mark_line text i) e).octets in omega arith

      pub is-samples : (n ≡ s → ⊥) → None ≡ next_of (mark_is o s text i)
      unfolding mark_is
      is-samples g =
          let q = held-mark (mark_line text i) e in
          let d : q.real.samples ≡ s → ⊥ = λ z. g (q.samples ∙ omega arith) in
          sym (rw (q.first, eq-eqb _ _ same-octets, ne_eqb _ _ d))

      pub is-mark : n ≡ s → Some nxt ≡ next_of (mark_is o s text i)
      unfolding mark_is
      is-mark g =
          let q = held-mark (mark_line text i) e in
          let d : q.real.samples ≡ s = let u = q.samples in omega arith in
          sym (rw (q.first, eq-eqb _ _ same-octets, eq-eqb _ _ d))

-- no mark more
module _ (text : List ℕ) (i : ℕ) where
  pub is-more : begins mark_word (drop i text) ≡ true → None ≡ next_of (no_mark text i)
  unfolding no_mark
  is-more e = sym (rw e)

  pub is-end : begins mark_word (drop i text) ≡ false → Some i ≡ next_of (no_mark text i)
  unfolding no_mark
  is-end e = sym (rw e)

-- what is compared in two steps
then-astray : {A B : Type 0} (r : Read A) (f : A → ℕ → Read B) → None ≡ next_of r → None ≡ next_of (and_then r f)
then-astray (whole a i) f e = let z : ◌≡◌ {A = ℕ} 0 1 = cc in absurd (omega arith)
then-astray none f e = refl

then-on : (r : Read ℕ) (ms : List Mark) (text : List ℕ) {j : ℕ} → Some j ≡ next_of r
    → next_of (and_then r (λ z k. marks_are ms text k)) ≡ next_of (marks_are ms text j)
then-on (whole a i) ms text {j} e = let z : j ≡ i = cc in ap (λ (k : ℕ). next_of (marks_are ms text k)) (sym z)
then-on none ms text e = let z : ◌≡◌ {A = ℕ} 0 1 = cc in absurd (omega arith)

-- a mark, and those after it
module _ (m : Mark) (ms : List Mark) (text : List ℕ) (i : ℕ) where
  pub marks-astray : None ≡ next_of (mark_is m.octets m.samples text i) → None ≡ next_of (marks_are (m ∷ ms) text i)
  unfolding marks_are
  marks-astray e = then-astray (mark_is m.octets m.samples text i) (λ z j. marks_are ms text j) e

  pub marks-on : {j : ℕ} → Some j ≡ next_of (mark_is m.octets m.samples text i)
      → next_of (marks_are (m ∷ ms) text i) ≡ next_of (marks_are ms text j)
  unfolding marks_are
  marks-on e = then-on (mark_is m.octets m.samples text i) ms text e

pub marks-done : (text : List ℕ) (i : ℕ) {r : Option ℕ} → r ≡ next_of (no_mark text i) → r ≡ next_of (marks_are [] text i)
unfolding marks_are
marks-done text i e = e

-- samples, and the marks after them
module _ (samples : ℕ) (ms : List Mark) (text : List ℕ) (i : ℕ) where
  pub note-astray : None ≡ next_of (samples_is samples text i) → None ≡ next_of (note_is samples ms text i)
  unfolding note_is
  note-astray e = then-astray (samples_is samples text i) (λ z j. marks_are ms text j) e

  pub note-on : {j : ℕ} → Some j ≡ next_of (samples_is samples text i) → next_of (note_is samples ms text i) ≡ next_of (marks_are ms text j)
  unfolding note_is
  note-on e = then-on (samples_is samples text i) ms text e

-- what is left to compare
pub record Compares (text : List ℕ) (at : ℕ) (cells : List ℕ) (m i j : ℕ) : Type 0 where
  pub says : next_of (marks_are (marks_in m cells) text at) ≡ next_of (marks_are (marks_in (m - j) (drop (2 * j) cells)) text i)

pub compares-first : (text : List ℕ) (at : ℕ) (cells : List ℕ) (m : ℕ) → Compares text at cells m at 0
compares-first text at cells m = record { says = ap (λ (l : List Mark). next_of (marks_are l text at)) (marks-all cells m) }

module _ {text cells : List ℕ} {at m i j : ℕ} (s : Compares text at cells m i j) where
  pub are-end : m ≤ j → {r : Option ℕ} → r ≡ next_of (no_mark text i) → r ≡ next_of (marks_are (marks_in m cells) text at)
  are-end h e = marks-done text i e ∙ sym (s.says ∙ ap (λ (l : List Mark). next_of (marks_are l text i)) (marks-none cells m j h))

  module _ (h : j < m) {x y : ℕ} (f : x ≡ get_or cells (2 * j) 0) (g : y ≡ get_or cells (2 * j + 1) 0) where
    abbrev more : List Mark
    more = marks_in (m - (j + 1)) (drop (2 * (j + 1)) cells)

    are-step : next_of (marks_are (marks_in m cells) text at) ≡ next_of (marks_are (mark_of x y ∷ more) text i)
    are-step =
        s.says ∙ ap (λ (l : List Mark). next_of (marks_are l text i))
        (marks-step cells m j h ∙ ap (λ (k : ℕ). mark_of k (get_or cells (2 * j + 1) 0) ∷ more) (sym f)
        ∙ ap (λ (k : ℕ). mark_of x k ∷ more) (sym g))

    pub are-astray : None ≡ next_of (mark_is x y text i) → None ≡ next_of (marks_are (marks_in m cells) text at)
    are-astray e = marks-astray (mark_of x y) more text i e ∙ sym are-step

    pub are-turn : {nxt : ℕ} → Some nxt ≡ next_of (mark_is x y text i) → Compares text at cells m nxt (j + 1)
    are-turn e = record { says = are-step ∙ marks-on (mark_of x y) more text i e }

-- samples beside given ones
module _ (text : List ℕ) (at samples : ℕ) where
  pub is_none : none ≡ capped (line samples_word text at) → None ≡ next_of (samples_is samples text at)
  unfolding samples_is
  is_none e = sym (rw (no_number (line samples_word text at) e))

  module _ {n a : ℕ} (small : samples < most) (e : whole n a ≡ capped (line samples_word text at)) where
    pub is-other : (n ≡ samples → ⊥) → None ≡ next_of (samples_is samples text at)
    unfolding samples_is
    is-other f =
        let h = number-held (line samples_word text at) e in
        let d : h.real ≡ samples → ⊥ = λ x. f (h.held ∙ omega arith) in
        sym (rw (h.first, ne_eqb _ _ d))

    pub is_same : n ≡ samples → Some a ≡ next_of (samples_is samples text at)
    unfolding samples_is
    is_same f =
        let h = number-held (line samples_word text at) e in
        let u = h.held in
        let d : h.real ≡ samples = omega arith in
        sym (rw (h.first, eq-eqb _ _ d))
