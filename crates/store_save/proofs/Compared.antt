-- Samples and marks compared one by one as they come are those that are read, compared (`note-compared`); greeting by greeting (Comparing).
use Prim.Native.Nat.{ℕ, zero, suc, ◌+◌, ◌-◌, ◌≤◌, ◌<◌}
use mathlib.Core.Path.{◌≡◌, refl, sym, ap, ◌∙◌}
use mathlib.Core.List.{List, [], ◌∷◌, ◌++◌, append_assoc, append-nil}
use mathlib.Core.Bool.{Bool, true, false, cond, ◌&&◌}
use native.Mathlib.Omega.{arith}
use lib.ListN.{length, take, drop, length-take, drop_of_length-le}
use lib.Dec.{eqb, leb, ltb}
use borrow.Author.Tests.{ltb-false}
use Rattle.rules.specs.Listing.{samples_word}
use Rattle.store_rows.specs.declared.rows.Row.{Row}
use Rattle.store_rows.specs.Limits.{largest_block}
use Rattle.store_rows.specs.Rows.{greeting}
use Rattle.store_rows.specs.Sane.{rising}
use Rattle.store_rows.proofs.Lists.{passed}
use Rattle.store_greeting.specs.Bad.{is_bad}
use Rattle.store_greeting.specs.Marks.{Mark, Note, note_of}
use Rattle.text_keyvalue.specs.Reading.{Read, whole, none, and_then, begins}
use Rattle.text_keyvalue.specs.Lines.{line}
use Rattle.text_keyvalue.proofs.Exact.{through, got-value, got-place}
use Rattle.std.specs.Prelude.{Option, Some, None}
use Rattle.store_text.specs.Noted.{Listed, mark_word, mark_line, mark_lines_from, mark_lines, listed, listed_from, listed_at, rows_listed}
use Rattle.store_text.specs.Passing.{head_of, headed, noted, next_of, mark_is, no_mark, marks_are, samples_is, note_is}
use Rattle.store_text.proofs.Lines.{listed-parts, noted-law}
use Rattle.store_text.proofs.Marks.{mark-goes, note-on}
use Rattle.store_save.specs.Saved.{any_bad, all_true, same_marks, same_note}
use Rattle.store_save.specs.Steps.{greetings_of, Fitting}
use Rattle.store_save.proofs.Bad.{part_same}

-- samples that are right, and then what is found of the marks
pub note-told : (samples : ℕ) (ms : List Mark) (text : List ℕ) (i : ℕ) {j : ℕ} {r : Option ℕ} → Some j ≡ next_of (samples_is samples text i)
    → r ≡ next_of (marks_are ms text j) → r ≡ next_of (note_is samples ms text i)
note-told samples ms text i e f = f ∙ sym (note-on samples ms text i e)

abbrev to : Bool → ℕ → Option ℕ
to t j = cond t (Some j) None

-- the marks after those that are done, compared with any
record After (done all : List Mark) (text : List ℕ) (i j : ℕ) : Type 0 where
  new : List Mark
  parts : all ≡ done ++ new
  same : (ms : List Mark) → next_of (marks_are ms text i) ≡ to (same_marks new ms) j

no_more : {done all : List Mark} {text : List ℕ} {i j : ℕ} → begins mark_word (drop i text) ≡ false → whole done i ≡ whole all j
    → After done all text i j
unfolding marks_are mark_is no_mark same_marks mark_line
no_more {done} {all} {text} {i} {j} h e = record { new = []; parts = sym (got-value e) ∙ sym (append-nil done); same = go }
  where
    p : i ≡ j
    p = got-place e

    go : (ms : List Mark) → next_of (marks_are ms text i) ≡ to (same_marks [] ms) j
    go [] = rw h (ap Some p)
    go (m ∷ ms) = rw h

one_more : {done all : List Mark} {text : List ℕ} {i j k : ℕ} (q : Mark) → begins mark_word (drop i text) ≡ true
    → mark_line text i ≡ whole q k → After (done ++ (q ∷ [])) all text k j → After done all text i j
unfolding marks_are mark_is no_mark same_marks
one_more {done} {all} {text} {i} {j} {k} q h e a =
    record { new = q ∷ a.new; parts = a.parts ∙ append_assoc done (q ∷ []) a.new; same = go }
  where
    two : (s t u : Bool) (ms : List Mark) → next_of (marks_are ms text k) ≡ to u j
        → next_of (and_then {A = ℕ} (cond s (cond t (whole 0 k) none) none) (λ z i. marks_are ms text i)) ≡ to (cond (s && t) u false) j
    two true true u ms p = p
    two true false u ms p = refl
    two false t u ms p = refl

    go : (ms : List Mark) → next_of (marks_are ms text i) ≡ to (same_marks (q ∷ a.new) ms) j
    go [] = rw h
    go (m ∷ ms) = rw e (two (eqb q.octets m.octets) (eqb q.samples m.samples) (same_marks a.new ms) ms (a.same ms))

marks-after : (more : ℕ) (done : List Mark) (text : List ℕ) (i : ℕ) (all : List Mark) (j : ℕ) → length text < i + more
    → mark_lines_from more done text i ≡ whole all j → After done all text i j
unfolding mark_lines_from begins
marks-after zero done text i all j h e = no_more (rw (drop_of_length-le text {i = i} (omega arith))) e
marks-after (suc more) done text i all j h e =
    go (begins mark_word (drop i text)) refl e (λ q k l. marks-after more (done ++ (q ∷ [])) text k all j l)
  where
    go : (t : Bool) → begins mark_word (drop i text) ≡ t
        → cond t (and_then (mark_line text i) (λ m j. mark_lines_from more (done ++ (m ∷ [])) text j)) (whole done i) ≡ whole all j
        → ((q : Mark) (k : ℕ) → length text < k + more → mark_lines_from more (done ++ (q ∷ [])) text k ≡ whole all j
        → After (done ++ (q ∷ [])) all text k j) → After done all text i j
    go true p e ih =
        let m = through (mark_line text i) _ e in
        let g = mark-goes text i m.value m.place m.first in
        one_more m.value p m.first (ih m.value m.place (omega arith) m.then)
    go false p e ih = no_more p e

marks-compared : (text : List ℕ) (i : ℕ) (all ms : List Mark) (j : ℕ) → mark_lines text i ≡ whole all j
    → next_of (marks_are ms text i) ≡ to (same_marks all ms) j
unfolding mark_lines
marks-compared text i all ms j e =
    let a = marks-after (suc (length text)) [] text i all j (omega arith) e in
    rw a.parts (a.same ms)

-- samples, then marks
samples-compared : (text : List ℕ) (i : ℕ) (g : Note) (s p : ℕ) (ms : List Mark) (j : ℕ) → line samples_word text i ≡ whole s p
    → mark_lines text p ≡ whole ms j
    → next_of (note_is g.samples g.marks text i) ≡ to (eqb s g.samples && same_marks ms g.marks) j
unfolding note_is samples_is
samples-compared text i g s p ms j e f = rw e (two (eqb s g.samples) (same_marks ms g.marks) (marks-compared text p ms g.marks j f))
  where
    two : (s u : Bool) → next_of (marks_are g.marks text p) ≡ to u j
        → next_of (and_then {A = ℕ} (cond s (whole 0 p) none) (λ z k. marks_are g.marks text k)) ≡ to (s && u) j
    two true u q = q
    two false u q = refl

note-compared : (text : List ℕ) (law i : ℕ) (n g : Note) (j : ℕ) → noted law text i ≡ whole n j
    → next_of (note_is g.samples g.marks text i) ≡ to (same_note n g) j
unfolding noted
note-compared text law i n g j e =
    let a = through (line samples_word text i) _ e in
    let b = through (mark_lines text a.place) _ a.then in
    samples-compared text i g a.value a.place b.value j a.first (b.first ∙ ap (whole b.value) (got-place b.then))
    ∙ ap (λ (m : Note). to (same_note m g) j) (got-value b.then)

-- greetings after those that are done, read by themselves
abbrev before : List Listed → Read (List Listed) → Read (List Listed)
before done (whole xs j) = whole (done ++ xs) j
before done none = none

before-before : (a b : List Listed) (r : Read (List Listed)) → before a (before b r) ≡ before (a ++ b) r
before-before a b (whole xs j) = ap (λ (l : List Listed). whole l j) (sym (append_assoc a b xs))
before-before a b none = refl

listed-alone : (far more : ℕ) (done : List Listed) (text : List ℕ) (i : ℕ)
    → listed_from far more done text i ≡ before done (listed_from far more [] text i)
unfolding listed_from
listed-alone far zero done text i = go (leb (length text) i)
  where
    go : (t : Bool) → cond t (whole done i) none ≡ before done (cond t (whole [] i) none)
    go true = ap (λ (l : List Listed). whole l i) (sym (append-nil done))
    go false = refl
listed-alone far (suc more) done text i =
    go (leb (length text) i) (listed far text i) (λ x j. listed-alone far more (done ++ (x ∷ [])) text j)
    (λ x j. listed-alone far more (x ∷ []) text j)
  where
    go : (t : Bool) (r : Read Listed)
        → ((x : Listed) (j : ℕ) → listed_from far more (done ++ (x ∷ [])) text j ≡ before (done ++ (x ∷ [])) (listed_from far more [] text j))
        → ((x : Listed) (j : ℕ) → listed_from far more (x ∷ []) text j ≡ before (x ∷ []) (listed_from far more [] text j))
        → cond t (whole done i) (and_then r (λ x j. listed_from far more (done ++ (x ∷ [])) text j))
        ≡ before done (cond t (whole [] i) (and_then r (λ x j. listed_from far more (x ∷ []) text j)))
    go true r p q = ap (λ (l : List Listed). whole l i) (sym (append-nil done))
    go false (whole x j) p q = p x j ∙ sym (before-before done (x ∷ []) (listed_from far more [] text j)) ∙ ap (before done) (sym (q x j))
    go false none p q = refl

-- where the comparing stands: the greetings that are left, still to be read and compared
pub record Comparing (far : ℕ) (text b : List ℕ) (size left at : ℕ) (answer : Bool) : Type 0 where
  pub more : ℕ
  pub new : List Listed
  pub end : ℕ
  pub low : ℕ
  pub reads : listed_from far more [] text at ≡ whole new end
  pub count : length new ≡ left
  pub rises : rising 0 low size (rows_listed new) ≡ true
  pub fine : any_bad b new ≡ false
  pub all : all_true b new ≡ answer

pub comparing-first : (far from : ℕ) {text b : List ℕ} {size n : ℕ} → Fitting b size n (listed_at far from text)
    → Comparing far text b size (n - 0) from (all_true b (greetings_of (listed_at far from text)))
comparing-first far from {text} {b} {size} {n} s = go (listed_at far from text) refl s
  where
    go : (r : Read (List Listed)) → listed_at far from text ≡ r → Fitting b size n r
        → Comparing far text b size (n - 0) from (all_true b (greetings_of r))
    go (whole xs i) e s =
        record {
          more = 32;
          new = xs;
          end = i;
          low = 0;
          reads = e;
          count = omega (arith, s.count);
          rises = s.rises;
          fine = s.fine;
          all = refl;
        }
    go none e s = let f = s.reads in let z : ◌≡◌ {A = ℕ} 0 1 = cc in absurd (omega arith)

pub comparing-end : {far : ℕ} {text b : List ℕ} {size left at : ℕ} {answer : Bool} → Comparing far text b size left at answer
    → left ≡ 0 → true ≡ answer
unfolding all_true
comparing-end {far} {text} {b} {size} {left} {at} {answer} s h = go s.new (s.count ∙ h) s.all
  where
    go : (new : List Listed) → length new ≡ 0 → all_true b new ≡ answer → true ≡ answer
    go [] l e = e
    go (x ∷ new) l e = absurd (omega arith)

-- a turn: the next greeting's lines, and those after it
record Turn (far : ℕ) (text : List ℕ) (at : ℕ) (new : List Listed) (end : ℕ) : Type 0 where
  more : ℕ
  x : Listed
  rest : List Listed
  next : ℕ
  parts : new ≡ x ∷ rest
  here : listed far text at ≡ whole x next
  reads : listed_from far more [] text next ≡ whole rest end

no-turn : {A : Type 0} {xs : List Listed} {at end n : ℕ} → whole [] at ≡ whole xs end → length xs ≡ suc n → A
no-turn {A} {xs} e l = let z : [] ≡ xs = got-value e in let m = ap length z in absurd (omega arith)

turn : (far more : ℕ) (text : List ℕ) (at : ℕ) (new : List Listed) (end n : ℕ) → listed_from far more [] text at ≡ whole new end
    → length new ≡ suc n → Turn far text at new end
unfolding listed_from
turn far zero text at new end n e l = go (leb (length text) at) e
  where
    go : (t : Bool) → cond t (whole [] at) none ≡ whole new end → Turn far text at new end
    go true e = no-turn e l
    go false e = let z : ◌≡◌ {A = ℕ} 0 1 = cc in absurd (omega arith)
turn far (suc more) text at new end n e l = go (leb (length text) at) e
  where
    last : (x : Listed) (j : ℕ) → listed far text at ≡ whole x j → (r : Read (List Listed)) → listed_from far more [] text j ≡ r
        → before (x ∷ []) r ≡ whole new end → Turn far text at new end
    last x j h (whole rest i) f g =
        record { more = more; x = x; rest = rest; next = j; parts = sym (got-value g); here = h; reads = f ∙ ap (whole rest) (got-place g) }
    last x j h none f g = let z : ◌≡◌ {A = ℕ} 0 1 = cc in absurd (omega arith)

    go : (t : Bool) → cond t (whole [] at) (and_then (listed far text at) (λ x j. listed_from far more (x ∷ []) text j)) ≡ whole new end
        → Turn far text at new end
    go true e = no-turn e l
    go false e =
        let m = through (listed far text at) _ e in
        last m.value m.place m.first (listed_from far more [] text m.place) refl
        (sym (listed-alone far more (m.value ∷ []) text m.place) ∙ m.then)

-- with the head that the code has read
pub record HeadTurn (far : ℕ) (text b : List ℕ) (size left at : ℕ) (answer : Bool) (r : Row) (law place : ℕ) : Type 0 where
  pub note : Note
  pub next : ℕ
  pub notes : noted law text place ≡ whole note next
  pub inside : r.start + r.octets ≤ size
  pub fine : is_bad law (greeting b r) ≡ false
  pub wrong : same_note note (note_of law (greeting b r)) ≡ false → false ≡ answer
  pub on : same_note note (note_of law (greeting b r)) ≡ true → Comparing far text b size left next answer

pub bad-split : (t u : Bool) → cond t true u ≡ false → (t ≡ false) × (u ≡ false)
bad-split true u e = let z : ◌≡◌ {A = ℕ} 0 1 = cc in absurd (omega arith)
bad-split false u e = (refl, e)

abbrev listed_of : Row → Note → Listed
listed_of r n = record { row = r; note = n }

build : {far : ℕ} {text b : List ℕ} {size left at : ℕ} {answer : Bool} {r : Row} {law place : ℕ} (n : Note) (rest : List Listed)
    (j more end low : ℕ)
    → n.law ≡ law → noted law text place ≡ whole n j → listed_from far more [] text j ≡ whole rest end → length rest ≡ left
    → rising 0 low size (rows_listed (listed_of r n ∷ rest)) ≡ true → any_bad b (listed_of r n ∷ rest) ≡ false
    → all_true b (listed_of r n ∷ rest) ≡ answer → HeadTurn far text b size left at answer r law place
unfolding rising rows_listed any_bad all_true
build {far} {text} {b} {size} {left} {at} {answer} {r} {law} {place} n rest j more end low l e f c g h k =
    let p = passed (ltb r.start low) _ g in
    let q = passed (ltb r.octets 0) _ p.1 in
    let u = passed (ltb size (r.start + r.octets)) _ q.1 in
    let v = bad-split (is_bad n.law (greeting b r)) (any_bad b rest) h in
    let w : is_bad law (greeting b r) ≡ false = rw l at v.0 in
    let k' : cond (same_note n (note_of law (greeting b r))) (all_true b rest) false ≡ answer = rw l at k in
    record {
      note = n;
      next = j;
      notes = e;
      inside = ltb-false size (r.start + r.octets) u.0;
      fine = w;
      wrong = λ z. rw z at k';
      on = λ z. record {
        more = more;
        new = rest;
        end = end;
        low = r.start + r.octets;
        reads = f;
        count = c;
        rises = u.1;
        fine = v.1;
        all = rw z at k';
      };
    }

module _ {far : ℕ} {text b : List ℕ} {size left at : ℕ} {answer : Bool} {n : ℕ} (s : Comparing far text b size left at answer)
    (l : left ≡ suc n) where
  pub comparing-missing : none ≡ headed far text at → false ≡ answer
  comparing-missing e =
      let t = turn far s.more text at s.new s.end n s.reads (s.count ∙ l) in
      let g : none ≡ whole t.x t.next = sym (rw (listed-parts text far at, ← e)) ∙ t.here in
      let z : ◌≡◌ {A = ℕ} 0 1 = cc in
      absurd (omega arith)

  pub comparing-turn : {r : Row} {law place : ℕ} → whole (head_of r law) place ≡ headed far text at → HeadTurn far text b
      size n at answer r law place
  comparing-turn {r} {law} {place} e =
      let t = turn far s.more text at s.new s.end n s.reads (s.count ∙ l) in
      let g : and_then (noted law text place) (λ n k. whole (listed_of r n) k) ≡ whole t.x t.next =
      sym (rw (listed-parts text far at, ← e)) ∙ t.here in
      let p = through (noted law text place) _ g in
      let x : listed_of r p.value ≡ t.x = got-value p.then in
      let k : p.place ≡ t.next = got-place p.then in
      let m : s.new ≡ listed_of r p.value ∷ t.rest = t.parts ∙ ap (λ (y : Listed). y ∷ t.rest) (sym x) in
      let c = ap length m in
      build p.value t.rest p.place t.more s.end s.low (noted-law text law place p.first) p.first
      (rw k t.reads) (omega (arith, s.count, c, l)) (rw (← m) s.rises) (rw (← m) s.fine) (rw (← m) s.all)

-- in the code's steps; `turn-lent` is the part of the block that the code lends
module _ {far : ℕ} {text b : List ℕ} {size left at : ℕ} {answer : Bool} {r : Row} {law place : ℕ}
    (t : HeadTurn far text b size left at answer r law place) where
  pub turn-lent : {from count : ℕ} → from ≡ r.start → count ≡ r.octets → take (from + count - from) (drop from b) ≡ greeting b r
  turn-lent e f = rw (e, f) (part_same b r)

  pub turn-part : {xs : List ℕ} → xs ≡ greeting b r → size ≤ largest_block → (length xs ≤ largest_block) × (is_bad law xs ≡ false)
  turn-part q h = rw q (omega (arith, t.inside, length-take r.octets (drop r.start b)), t.fine)

  pub turn-astray : {xs : List ℕ} → xs ≡ greeting b r → None ≡ next_of (note_is (note_of law xs).samples (note_of law xs).marks text place)
      → false ≡ answer
  turn-astray q e =
      let g = note_of law (greeting b r) in
      go (same_note t.note g) refl ((rw q at e) ∙ note-compared text law place t.note g t.next t.notes)
    where
      go : (u : Bool) → same_note t.note (note_of law (greeting b r)) ≡ u → None ≡ to u t.next → false ≡ answer
      go true f g = let z : ◌≡◌ {A = ℕ} 0 1 = cc in absurd (omega arith)
      go false f g = t.wrong f

  pub turn_on : {xs : List ℕ} {j : ℕ} → xs ≡ greeting b r
      → Some j ≡ next_of (note_is (note_of law xs).samples (note_of law xs).marks text place) → Comparing far text b size left j answer
  turn_on {xs} {j} q e =
      let g = note_of law (greeting b r) in
      go (same_note t.note g) refl ((rw q at e) ∙ note-compared text law place t.note g t.next t.notes)
    where
      go : (u : Bool) → same_note t.note (note_of law (greeting b r)) ≡ u → Some j ≡ to u t.next → Comparing far text b size left j answer
      go true f g = let z : j ≡ t.next = cc in rw z (t.on f)
      go false f g = let z : ◌≡◌ {A = ℕ} 0 1 = cc in absurd (omega arith)
