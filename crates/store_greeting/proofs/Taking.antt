-- A greeting's walk, 64 frames at a time. What is done after m times is the walk of 64 * m frames: `along-start`, `along-turn`. It stops at
-- a refused frame, which makes the greeting BAD (`taken-wrong`), or at the greeting's end, with the marks and the samples that the whole
-- walk gives (`taken-all`).
use Prim.Native.Nat.{ℕ, suc, ◌+◌, ◌*◌, ◌-◌, ◌≤◌, ◌<◌}
use mathlib.Core.Path.{◌≡◌, refl, sym, ap, ◌∙◌}
use mathlib.Core.List.{List, [], ◌∷◌, ◌++◌, append_assoc, append-nil}
use mathlib.Core.Bool.{Bool, true, false, cond}
use native.Mathlib.Omega.{arith}
use lib.ListN.{length, drop, set, length-append, drop_of_length-le}
use lib.Seq.{drop_at}
use lib.Dec.{ltb}
use borrow.Author.Tests.{le-ltb, ltb-true, ltb-false}
use Rattle.rules.specs.declared.Refusal.{Refusal}
use Rattle.rules.specs.Refusals.{Ending}
use Rattle.std.proofs.Common.{Ok, Err, Option, Some, None}
use Rattle.rules.specs.declared.WalkAnswer.{WalkAnswer}
use Rattle.rules.specs.Tools.{most_law}
use Rattle.rules.specs.Walk.{Delivered, Walked, stopped, walk_from, longest, octets_kept, samples_kept}
use Rattle.rules.proofs.Walk.{after, samples_kept-append, Told, walk-told, walk-on, walk_kept, walk-fuel, walk-roomy, walk-ended, walk-each}
use Rattle.walk.specs.Counting.{Counts}
use Rattle.store_greeting.specs.Bad.{is_bad, walk_of, store_set}
use Rattle.store_greeting.proofs.Bad.{walk-of}
use Rattle.store_greeting.specs.declared.marks.Tally.{Tally}
use Rattle.store_greeting.specs.Marks.{Mark, mark_of, marks_from, marks_of, mark_cells, note_of}
use Rattle.store_greeting.specs.Taking.{counted_of, tally_of, Takes, Keeps}
use Rattle.store_greeting.proofs.Marked.{marks-append, marks-one, cells-more, length-cells, two-set}

-- a greeting whose walk is refused, and one whose walk is not
bad-off : (law : ℕ) (xs : List ℕ) → 1 ≤ length xs → {r : Refusal} → (walk_of law xs).end ≡ Err r → is_bad law xs ≡ true
unfolding is_bad
bad-off law xs h e = rw (le-ltb (length xs) 1 h, e)

good-done : (law : ℕ) (xs : List ℕ) → 1 ≤ length xs → (walk_of law xs).end ≡ Ok tt → is_bad law xs ≡ false
unfolding is_bad
good-done law xs h e = rw (le-ltb (length xs) 1 h, e)

pub takes-wrong : (law : ℕ) (xs cells cells' : List ℕ) → is_bad law xs ≡ true → Takes law xs cells cells' None
unfolding tally_of
takes-wrong law xs cells cells' e = record { answer = rw e; lent = λ g _. let z : ◌≡◌ {A = Bool} true false = sym e ∙ g in cc }

module _ (law : ℕ) (xs : List ℕ) where
  -- the walk of m times 64 frames
  abbrev pub parts : ℕ → Walked
  parts m = walk_from (64 * m) xs law store_set 0 (320 * length xs)

  -- the 64 frames after it, or as many as there are
  abbrev pub next : ℕ → Walked
  next at = walk_from 64 xs law store_set at 20480

  pub record Along (m at samples : ℕ) : Type 0 where
    pub clean : (parts m).end ≡ Ok tt
    pub place : at ≡ (parts m).place
    pub before : samples ≡ length (samples_kept (parts m).frames)
    pub count : length (marks_of (parts m).frames) ≡ m

  record Ahead (m : ℕ) : Type 0 where
    rest : List Mark
    all : (note_of law xs).marks ≡ marks_of (parts m).frames ++ rest

  pub along-start : Along 0 0 0
  unfolding walk_from samples_kept marks_from
  along-start = record { clean = refl; place = refl; before = refl; count = refl }

  module _ {m at samples : ℕ} (w : Along m at samples) where
    told : Told xs law store_set (64 * m) 0 (320 * length xs) (parts m)
    told = walk-told xs law store_set (64 * m) 0 (320 * length xs)

    pub along-inside : at ≤ length xs
    along-inside = omega (arith, told.place, told.inside, w.place)

    pub along-samples : samples ≤ 320 * at
    along-samples = omega (arith, told.place, told.some, told.held, w.place, w.before)

    module _ (h : at < length xs) where
      -- all frames that were allowed are there
      pub along-full : length (parts m).frames ≡ 64 * m
      along-full = told.full w.clean (omega (arith, w.place))

      pub along-few : 64 * m ≤ at
      along-few = omega (arith, along-full, told.some, told.place, w.place)

      pub along-next : parts (m + 1) ≡ after (parts m).frames (next at)
      along-next =
          let e : 64 * (m + 1) ≡ 64 * m + 64 = omega arith in
          let room = 320 * length xs - length (samples_kept (parts m).frames) in
          ap (λ (k : ℕ). walk_from k xs law store_set 0 (320 * length xs)) e
          ∙ walk-on xs law store_set (64 * m) 64 0 (320 * length xs) w.clean ∙ ap (λ (x : Walked). after (parts m).frames x)
          (ap (λ (k : ℕ). walk_from 64 xs law store_set k room) (sym w.place)
          ∙ walk-roomy xs law store_set 64 at room 20480 (omega (arith, along-samples, w.before)) (omega arith))

      module _ (d : (next at).end ≡ Ok tt) where
        next-told : Told xs law store_set 64 at 20480 (next at)
        next-told = walk-told xs law store_set 64 at 20480

        on-by : (b : Bool) → ltb at (next at).place ≡ b → at < (next at).place
        on-by true e = ltb-true at (next at).place e
        on-by false e =
            let back = ltb-false at (next at).place e in
            absurd (omega (arith, next-told.full d (omega arith), next-told.some, next-told.place))

        pub next-on : at < (next at).place
        next-on = on-by (ltb at (next at).place) refl

        next_marks : (fs : List Delivered) → (next at).frames ≡ fs → marks_from (64 * m) samples fs ≡ mark_of at samples ∷ []
        unfolding octets_kept
        next_marks [] e =
            let none : length (next at).frames ≡ 0 = ap length e in
            let still : octets_kept (next at).frames ≡ 0 = ap octets_kept e in
            absurd (omega (arith, next-told.whole d (omega arith), next-told.place))
        next_marks (f ∷ fs) e =
            let first = (walk-each xs law store_set 64 at 20480 [] f fs e).place in
            let many : length (next at).frames ≡ suc (length fs) = ap length e in
            marks-one (64 * m) samples at f fs (omega arith) (first ∙ omega arith) (omega (arith, next-told.few))

        pub marks-next : marks_of (parts (m + 1)).frames ≡ marks_of (parts m).frames ++ (mark_of at samples ∷ [])
        marks-next =
            ap (λ (x : Walked). marks_of x.frames) along-next ∙ marks-append 0 0 (parts m).frames (next at).frames
            ∙ ap (λ (k : ℕ). marks_of (parts m).frames ++ marks_from k (0 + length (samples_kept (parts m).frames)) (next at).frames)
            (omega (arith, along-full))
            ∙ ap (λ (k : ℕ). marks_of (parts m).frames ++ marks_from (64 * m) k (next at).frames) (omega (arith, w.before))
            ∙ ap (λ (ms : List Mark). marks_of (parts m).frames ++ ms) (next_marks (next at).frames refl)

        pub along-turn : {place more : ℕ} → place ≡ (next at).place → more ≡ length (samples_kept (next at).frames)
            → Along (m + 1) place (samples + more)
        along-turn {place} {more} p s =
            record {
              clean = ap (λ (x : Walked). x.end) along-next ∙ d;
              place = p ∙ sym (ap (λ (x : Walked). x.place) along-next);
              before =
                  let kept = ap (λ (x : Walked). length (samples_kept x.frames)) along-next in
                  let both = ap length (samples_kept-append (parts m).frames (next at).frames) in
                  omega (arith, kept, both, s, w.before, length-append (samples_kept (parts m).frames) (samples_kept (next at).frames));
              count =
                  let all = ap length marks-next in
                  omega (arith, all, w.count, length-append (marks_of (parts m).frames) (mark_of at samples ∷ []));
            }

    -- the whole walk, one that more frames than octets are allowed
    module _ (l : law ≤ most_law) (g : length xs ≤ longest) where
      whole : (n : ℕ) → walk_of law xs ≡ walk_from (n + (length xs + 1)) xs law store_set 0 (320 * length xs)
      whole n =
          walk-of law xs l g ∙ walk-fuel xs law store_set (length xs + 1) (n + (length xs + 1)) 0 (320 * length xs)
          (omega arith) (omega arith)

      -- a frame that is refused
      pub along-wrong : (h : at < length xs) {r : Refusal} → (next at).end ≡ Err r → is_bad law xs ≡ true
      along-wrong h {r} d =
          let off = ap (λ (x : Walked). x.end) (along-next h) ∙ d in
          let all = whole (64 * (m + 1)) ∙ walk_kept xs law store_set (64 * (m + 1)) (length xs + 1) 0 (320 * length xs) off in
          bad-off law xs (omega arith) (ap (λ (x : Walked). x.end) all ∙ off)

      -- the greeting's end
      pub along-all : length xs ≤ at → walk_of law xs ≡ after (parts m).frames (stopped (Ok tt) at 0)
      along-all h =
          whole (64 * m) ∙ walk-on xs law store_set (64 * m) (length xs + 1) 0 (320 * length xs) w.clean
          ∙ ap (λ (x : Walked). after (parts m).frames x)
          (walk-ended xs law store_set (length xs + 1) (parts m).place (320 * length xs - length (samples_kept (parts m).frames))
          (omega (arith, w.place)) ∙ ap (λ (k : ℕ). stopped (Ok tt) k 0) (sym w.place))

      -- the greeting's marks begin with those of what was walked
      ahead : Ahead m
      ahead =
          let room = 320 * length xs - length (samples_kept (parts m).frames) in
          let rest = walk_from (length xs + 1) xs law store_set (parts m).place room in
          let e : walk_of law xs ≡ after (parts m).frames rest =
          whole (64 * m) ∙ walk-on xs law store_set (64 * m) (length xs + 1) 0 (320 * length xs) w.clean in
          record {
            rest = marks_from (0 + length (parts m).frames) (0 + length (samples_kept (parts m).frames)) rest.frames;
            all = ap (λ (x : Walked). marks_of x.frames) e ∙ marks-append 0 0 (parts m).frames rest.frames;
          }

      -- of a greeting that is not BAD: the marks after those of what was walked
      module _ (f : is_bad law xs ≡ false) where
        pub next-clean : at < length xs → (next at).end ≡ Ok tt
        next-clean h = go (next at).end refl
          where
            go : (e : Ending) → (next at).end ≡ e → e ≡ Ok tt
            go (Ok _) q = refl
            go (Err r) q = let z : ◌≡◌ {A = Bool} true false = sym (along-wrong h q) ∙ f in let k : ◌≡◌ {A = ℕ} 0 1 = cc in
                absurd (omega arith)

        pub marks-over : length xs ≤ at → drop m (note_of law xs).marks ≡ []
        marks-over h =
            let frames = ap (λ (x : Walked). x.frames) (along-all h) ∙ append-nil (parts m).frames in
            ap (λ (fs : List Delivered). drop m (marks_of fs)) frames
            ∙ drop_of_length-le (marks_of (parts m).frames) {i = m} (omega (arith, w.count))

  -- of a greeting that is not BAD: the mark of the place where the walk stands
  module _ {m at samples : ℕ} (w : Along m at samples) (l : law ≤ most_law) (g : length xs ≤ longest) (f : is_bad law xs ≡ false) where
    pub marks-here : at < length xs → drop m (note_of law xs).marks ≡ mark_of at samples ∷ drop (m + 1) (note_of law xs).marks
    marks-here h =
        let d = next-clean w l g f h in
        let a = ahead (along-turn w h d refl refl) l g in
        let old = marks_of (parts m).frames in
        let mark = mark_of at samples in
        let all : (note_of law xs).marks ≡ (old ++ (mark ∷ [])) ++ a.rest =
        a.all ∙ ap (λ (ms : List Mark). ms ++ a.rest) (marks-next w h d) in
        let one = ap (λ (ms : List Mark). drop m ms) (all ∙ append_assoc old (mark ∷ []) a.rest)
        ∙ drop_at old (mark ∷ a.rest) m w.count in
        let two = ap (λ (ms : List Mark). drop (m + 1) ms) all
        ∙ drop_at (old ++ (mark ∷ [])) a.rest (m + 1) (length-append old (mark ∷ []) ∙ ap (λ (k : ℕ). k + 1) w.count) in
        one ∙ ap (λ (ms : List Mark). mark ∷ ms) (sym two)

  -- the marks taken stand at the start of the lent cells, where they have room there
  pub record Taking (cells₀ cells : List ℕ) (m at samples : ℕ) : Type 0 where
    pub along : Along m at samples
    pub cells_are : 2 * m ≤ length cells₀ → cells ≡ mark_cells (marks_of (parts m).frames) ++ drop (2 * m) cells₀
    pub size : length cells ≡ length cells₀

  pub taking-start : (cells : List ℕ) → Taking cells cells 0 0 0
  unfolding walk_from marks_from mark_cells
  taking-start cells = record { along = along-start; cells_are = λ _. refl; size = refl }

  module _ {cells₀ cells : List ℕ} {m at samples : ℕ} (t : Taking cells₀ cells m at samples) where
    -- what is counted stays small
    pub taking-few : at < length xs → length xs ≤ longest → 64 * m ≤ longest
    taking-few h g = omega (arith, along-few t.along h)

    pub taking-heard : length xs ≤ longest → samples ≤ 320 * longest
    taking-heard g = omega (arith, along-samples t.along, along-inside t.along)

    pub taking-more : {r : WalkAnswer} → Counts (next at) r → r.samples ≤ 20480
    taking-more c = omega (arith, c.samples, (walk-told xs law store_set 64 at 20480).fits)

    pub taking-on : {r : WalkAnswer} → Counts (next at) r → r.end ≡ Ok tt → at < length xs → at < r.place
    taking-on c e h = omega (arith, c.place, next-on t.along h (sym c.end ∙ e))

    pub taking-turn : (h : at < length xs) {r : WalkAnswer} {cells' : List ℕ} → Counts (next at) r → r.end ≡ Ok tt
        → Keeps m at samples cells cells'
        → length cells' ≡ length cells → Taking cells₀ cells' (m + 1) r.place (samples + r.samples)
    taking-turn h {r} {cells'} c e kept same =
        let d = sym c.end ∙ e in
        let old = marks_of (parts m).frames in
        let front = length-cells old ∙ ap (λ (k : ℕ). 2 * k) t.along.count in
        let k : 2 * m + 2 ≡ 2 * (m + 1) = omega arith in
        record {
          along = along-turn t.along h d c.place c.samples;
          cells_are = λ g.
              kept.says (omega (arith, t.size))
              ∙ ap (λ (x : List ℕ). set (set x (2 * m) at) (2 * m + 1) samples) (t.cells_are (omega arith))
              ∙ two-set (mark_cells old) cells₀ (2 * m) at samples front (omega arith)
              ∙ ap (λ (x : List ℕ). x ++ drop (2 * m + 2) cells₀)
              (sym (cells-more old (mark_of at samples)) ∙ ap mark_cells (sym (marks-next t.along h d)))
              ∙ ap (λ (n : ℕ). mark_cells (marks_of (parts (m + 1)).frames) ++ drop n cells₀) k;
          size = same ∙ t.size;
        }

    -- the call's answers
    module _ (l : law ≤ most_law) (g : length xs ≤ longest) where
      pub taken-wrong : (h : at < length xs) {r : WalkAnswer} {why : Refusal} → Counts (next at) r → r.end ≡ Err why
          → (cells' : List ℕ) → Takes law xs cells₀ cells' None
      taken-wrong h c e cells' = takes-wrong law xs cells₀ cells' (along-wrong t.along l g h (sym c.end ∙ e))

      pub taken-all : length xs ≤ at → 1 ≤ length xs → Takes law xs cells₀ cells (Some (record { samples = samples; marks = m }))
      unfolding tally_of
      taken-all h some =
          let all = along-all t.along l g h in
          let frames = ap (λ (x : Walked). x.frames) all ∙ append-nil (parts m).frames in
          let good = good-done law xs some (ap (λ (x : Walked). x.end) all) in
          record {
            answer = rw (good, frames, ← t.along.before, t.along.count);
            lent = λ _. rw (frames, t.along.count) t.cells_are;
          }

-- an answer that counts
pub taken-told : (law : ℕ) (xs : List ℕ) {cells cells' : List ℕ} {r : Tally} → Takes law xs cells cells' (Some r)
    → (is_bad law xs ≡ false) × (r.samples ≡ (note_of law xs).samples) × (r.marks ≡ length (note_of law xs).marks)
unfolding tally_of
taken-told law xs {r = r} t = by (is_bad law xs) t.answer
  where
    by : (b : Bool) → Some r ≡ cond b None (Some (counted_of (note_of law xs)))
        → (b ≡ false) × (r.samples ≡ (note_of law xs).samples) × (r.marks ≡ length (note_of law xs).marks)
    by true e = cc
    by false e =
        let q : r ≡ counted_of (note_of law xs) = cc in
        (refl, ap (λ (x : Tally). x.samples) q, ap (λ (x : Tally). x.marks) q)

pub taken-bad : (law : ℕ) (xs : List ℕ) {cells cells' : List ℕ} → Takes law xs cells cells' None → is_bad law xs ≡ true
unfolding tally_of
taken-bad law xs t = by (is_bad law xs) t.answer
  where
    by : (b : Bool) → ◌≡◌ {A = Option Tally} None (cond b None (Some (counted_of (note_of law xs)))) → b ≡ true
    by true e = refl
    by false e = cc
