-- R-7: what stands at the bit that a refusal names: "the first bit of the run's code (RUN), listed place (PLACE ..), range case (CASE) or
-- method (METHOD); .. or wrong filling bit (ALIGN)". `Comes` says that the reading comes to an item at a place; `RunAt`, `MethodAt`, `CaseAt`,
-- `PlaceAt` and `AlignAt` which item it is, and what is wrong with it. Main statements: `tells-rest`, `tells-body`; of a frame: Bit.
use Prim.Native.Nat.{ℕ, zero, suc, ◌+◌, ◌*◌, ◌-◌, ◌^◌, ◌/◌, ◌≤◌, ◌<◌}
use native.Mathlib.Omega.{arith}
use mathlib.Core.Path.{◌≡◌, refl, sym, ap, subst, ◌∙◌}
use mathlib.Core.List.{List, [], ◌∷◌, ◌++◌, map}
use mathlib.Core.Bool.{Bool, true, false, cond, ◌&&◌, false≢true}
use lib.ListN.{length, get_or, take, drop, replicate, length-replicate, take-append-drop}
use lib.Seq.{length-take-le}
use lib.Dec.{eqb, leb, ltb}
use borrow.Author.Tests.{eqb-true, eqb-false, ltb-true, ltb-false}
use Rattle.rules.specs.declared.Refusal.{Refusal}
use Rattle.rules.specs.declared.Refusal.TheVariants.{Short, Prefix, Tool, Room, Case, Method, Run, Place, Align, Length, Set, Law, Long}
use Rattle.rules.specs.Bits.{fill_for}
use Rattle.rules.specs.Reading.{Read, whole, refuse, Reader, and_then, ◌>>=◌, give, fail, here, bit, number, filled}
use Rattle.rules.specs.Samples.{sample_of, plus_zero, minus_zero}
use Rattle.rules.specs.Runs.{zeros_from, rice, runs_from}
use Rattle.rules.specs.Zeros.{zero_of}
use Rattle.rules.specs.Located.{width_of, listed_from, listed, by_method, empty_in, lay, values_into, values_of, located}
use Rattle.rules.specs.Fractional.{radix, Coding, coding_of, digits_of, groups_from, groups_as, samples_at, fractional}
use Rattle.rules.specs.Frame.{Found, body}
use Rattle.rules.proofs.Accepted.{number-next}
use Rattle.rules.proofs.Gives.{no-refusal, same-refusal, same-value, same_place}
use Rattle.rules.proofs.Laid.{empty-most, length-lay}
use Rattle.promises.proofs.Only.{Stops, at_once, behind, stops, Only, only-give, only-bind}
use Rattle.promises.proofs.Only.{only-bit, only-number_from, only-bits_from, only-octets_after}
use Rattle.promises.proofs.Further.{Goes, short, same, Firm, firm-number_from, firm-rice, firm-runs_from}
use Rattle.promises.proofs.Further.{firm-by_method, firm-groups}
use Rattle.promises.proofs.Bounded.{width-most}
use Rattle.promises.proofs.Points.{same_bit}

-- one step after another
and-give : {A : Type 0} (m : Read A) → and_then m (λ a j. whole a j) ≡ m
and-give (whole a j) = refl
and-give (refuse w at) = refl

pub and_assoc : {A B C : Type 0} (m : Read A) (f : A → ℕ → Read B) (g : B → ℕ → Read C)
    → and_then (and_then m f) g ≡ and_then m (λ a j. and_then (f a j) g)
and_assoc (whole a j) f g = refl
and_assoc (refuse w at) f g = refl

-- a reading that is whole within the first n bits is the same whatever follows them
pub cut-firm : {A : Type 0} {p : Reader A} → Firm p → (n : ℕ) (b : List ℕ) → n ≤ length b → (i : ℕ) {a : A} {k : ℕ} → p b i ≡ whole a k
    → k ≤ n → (c : List ℕ) → p (take n b ++ c) i ≡ whole a k
cut-firm {A} {p} g n b l i {a} {k} e h c = go (g.goes (take n b) (drop n b) i)
  where
    all : p (take n b ++ drop n b) i ≡ whole a k
    all = rw (take-append-drop n b) e

    again : p (take n b) i ≡ whole a k → Goes (length (take n b)) (p (take n b) i) (p (take n b ++ c) i) → p (take n b ++ c) i ≡ whole a k
    again d (short x s past) = no-refusal (sym s ∙ d)
    again d (same s) = s ∙ d

    go : Goes (length (take n b)) (p (take n b) i) (p (take n b ++ drop n b) i) → p (take n b ++ c) i ≡ whole a k
    go (short x s past) = absurd (omega (arith, past a k all, length-take-le n b l))
    go (same s) = again (sym s ∙ all) (g.goes (take n b) c i)

-- The first n bits being as they are, whatever follows them, p from place i on reads q at place j, and then the rest
pub record Comes {A B : Type 0} (n : ℕ) (b : List ℕ) (p : Reader A) (i : ℕ) (q : Reader B) (j : ℕ) : Type 0 where
  pub onward : i ≤ j
  pub rest : B → Reader A
  pub is : (c : List ℕ) → p (take n b ++ c) i ≡ (q >>= rest) (take n b ++ c) j

comes-start : {A : Type 0} (n : ℕ) (b : List ℕ) (p : Reader A) (i : ℕ) → Comes n b p i p i
comes-start n b p i = record { onward = omega arith; rest = λ a. give a; is = λ c. sym (and-give (p (take n b ++ c) i)) }

pub comes-by : {A B : Type 0} {n : ℕ} {b : List ℕ} {p p' : Reader A} {q : Reader B} (i i' j : ℕ) → i ≤ i'
    → ((c : List ℕ) → p (take n b ++ c) i ≡ p' (take n b ++ c) i') → Comes n b p' i' q j → Comes n b p i q j
comes-by i i' j h e c = record { onward = omega (arith, c.onward); rest = c.rest; is = λ x. e x ∙ c.is x }

comes-first : {A B C : Type 0} {n : ℕ} {b : List ℕ} {p : Reader A} {q : Reader C} (f : A → Reader B) (i j : ℕ) → Comes n b p i q j
    → Comes n b (p >>= f) i q j
comes-first {n = n} {b = b} {p = p} {q = q} f i j c = record {
  onward = c.onward;
  rest = λ x. c.rest x >>= f;
  is = λ x. ap (λ m. and_then m (λ a k. f a (take n b ++ x) k)) (c.is x)
      ∙ and_assoc (q (take n b ++ x) j) (λ y k. c.rest y (take n b ++ x) k) (λ a k. f a (take n b ++ x) k);
}

-- RUN: at place `at` runs over so many places that are left are read, and the next run's code has more than N zeros, or is a larger run
pub data TooLong (n s left : ℕ) (b : List ℕ) (at : ℕ) : Type 0 where
  endless : rice n s b at ≡ refuse Run at → TooLong n s left b at
  longer : (v j : ℕ) → rice n s b at ≡ whole v j → left < v → TooLong n s left b at

pub record RunAt {A : Type 0} (n : ℕ) (b : List ℕ) (p : Reader A) (i at : ℕ) : Type 0 where
  pub len : ℕ
  pub s : ℕ
  pub more : ℕ
  pub left : ℕ
  pub done : List ℕ
  pub comes : Comes n b p i (runs_from len s (suc more) left done) at
  pub some : 1 ≤ left
  pub long : TooLong len s left b at

-- METHOD: a value is read, and its method, three bits, is 110
pub record MethodAt {A : Type 0} (n : ℕ) (b : List ℕ) (p : Reader A) (i at : ℕ) : Type 0 where
  pub len : ℕ
  pub zero-at : ℕ
  pub value : ℕ
  pub values : List ℕ
  pub cells : List ℕ
  pub comes : Comes n b p i (values_into len zero-at (value ∷ values) cells) at
  pub six : number 3 b at ≡ whole 6 (at + 3)

-- CASE: the range case is read, two bits, then the flag, and there are no such values
pub record CaseAt {A : Type 0} (n : ℕ) (b : List ℕ) (p : Reader A) (i at : ℕ) : Type 0 where
  pub mask : ℕ
  pub len : ℕ
  pub range : ℕ
  pub flag : ℕ
  pub comes : Comes n b p i (located mask len) at
  pub two : number 2 b at ≡ whole range (at + 2)
  pub one : number 1 b (at + 2) ≡ whole flag (at + 3)
  pub none : length (values_of len range flag) ≡ 0

-- PLACE: a listed place is read, of so many bits, and it is not below D, or not above those before it; or V is, not below R'^g
pub data PlaceAt {A : Type 0} (n : ℕ) (b : List ℕ) (p : Reader A) (i at : ℕ) : Type 0 where
  listed-place : (width d more : ℕ) (done : List ℕ) (x : ℕ) → width ≤ 9 → Comes n b p i (listed_from width d done (suc more)) at
      → number width b at ≡ whole x (at + width) → leb (length done) x && ltb x d ≡ false → PlaceAt n b p i at
  too_large : (c : Coding) (more : ℕ) (done : List ℕ) (v : ℕ) → Comes n b p i (groups_from c done (suc more)) at
      → number c.bits b at ≡ whole v (at + c.bits) → c.radix ^ c.group ≤ v → PlaceAt n b p i at

-- ALIGN: a frame is read to its end, and this filling bit is the first that is not 0
pub record AlignAt {A : Type 0} (n : ℕ) (b : List ℕ) (p : Reader A) (i at : ℕ) : Type 0 where
  pub found : Found
  pub comes : Comes n b p i (filled found (fill_for found.bits)) found.bits
  pub from : found.bits ≤ at
  pub to : at < found.bits + fill_for found.bits
  pub zeros : (k : ℕ) → found.bits ≤ k → k < at → get_or b k 0 ≡ 0
  pub wrong : get_or b at 0 ≡ 0 → ⊥

-- what a refusal of a body names; no other refusal arises there, and SHORT names the end of the bits
abbrev pub Names : {A : Type 0} → ℕ → List ℕ → Reader A → ℕ → ℕ → Refusal → Type 0
Names n b p i at Short = Unit {0}
Names n b p i at Case = CaseAt n b p i at
Names n b p i at Method = MethodAt n b p i at
Names n b p i at Run = RunAt n b p i at
Names n b p i at Place = PlaceAt n b p i at
Names n b p i at Align = AlignAt n b p i at
Names n b p i at Prefix = ⊥
Names n b p i at (Tool t) = ⊥
Names n b p i at Room = ⊥
Names n b p i at Length = ⊥
Names n b p i at Set = ⊥
Names n b p i at Law = ⊥
Names n b p i at Long = ⊥

-- what is named within one reading is named within another that comes to it
pub along : {A A' : Type 0} (n : ℕ) (b : List ℕ) (p : Reader A) (p' : Reader A') (i i' at : ℕ) (w : Refusal)
    → ((B : Type 0) (q : Reader B) (j : ℕ) → j ≤ at → Comes n b p i q j → Comes n b p' i' q j) → Names n b p i at w → Names n b p' i' at w
along n b p p' i i' at Short f x = tt
along n b p p' i i' at Case f x = record {
  mask = x.mask;
  len = x.len;
  range = x.range;
  flag = x.flag;
  comes = f (List ℕ) (located x.mask x.len) at (omega arith) x.comes;
  two = x.two;
  one = x.one;
  none = x.none;
}
along n b p p' i i' at Method f x = record {
  len = x.len;
  zero-at = x.zero-at;
  value = x.value;
  values = x.values;
  cells = x.cells;
  comes = f (List ℕ) (values_into x.len x.zero-at (x.value ∷ x.values) x.cells) at (omega arith) x.comes;
  six = x.six;
}
along n b p p' i i' at Run f x = record {
  len = x.len;
  s = x.s;
  more = x.more;
  left = x.left;
  done = x.done;
  comes = f (List ℕ) (runs_from x.len x.s (suc x.more) x.left x.done) at (omega arith) x.comes;
  some = x.some;
  long = x.long;
}
along n b p p' i i' at Place f (listed-place width d more done x h c e v) =
    listed-place width d more done x h (f (List ℕ) (listed_from width d done (suc more)) at (omega arith) c) e v
along n b p p' i i' at Place f (too_large c more done v x e h) =
    too_large c more done v (f (List ℕ) (groups_from c done (suc more)) at (omega arith) x) e h
along n b p p' i i' at Align f x = record {
  found = x.found;
  comes = f Found (filled x.found (fill_for x.found.bits)) x.found.bits x.from x.comes;
  from = x.from;
  to = x.to;
  zeros = x.zeros;
  wrong = x.wrong;
}
along n b p p' i i' at Prefix f x = x
along n b p p' i i' at (Tool t) f x = x
along n b p p' i i' at Room f x = x
along n b p p' i i' at Length f x = x
along n b p p' i i' at Set f x = x
along n b p p' i i' at Law f x = x
along n b p p' i i' at Long f x = x

-- so many bits, and a test of them that fails at their start, as a listed place and V are read
abbrev tested : {A : Type 0} → ℕ → (ℕ → Bool) → (ℕ → Reader A) → Refusal → Reader A
tested width test go why = here >>= (λ start. number width >>= (λ v. cond (test v) (go v) (fail why start)))

abbrev IsShort : Refusal → Type 0
IsShort u = u ≡ Short

-- the end of a frame: its filling bits
abbrev pub ended : ℕ → List ℕ → Reader Found
ended t s = here >>= (λ bits. filled (record { tool = t; samples = s; bits = bits }) (fill_for bits))

no-runs : (len s left : ℕ) (done b : List ℕ) (i : ℕ) → runs_from len s zero left done b i ≡ whole done i
unfolding runs_from
no-runs len s left done b i = refl

no-values : (len z : ℕ) (cells b : List ℕ) (i : ℕ) → values_into len z [] cells b i ≡ whole cells i
unfolding values_into
no-values len z cells b i = refl

six-refused : (len d start : ℕ) (b : List ℕ) (i : ℕ) → by_method len d start 6 b i ≡ refuse Method start
unfolding by_method
six-refused len d start b i = refl

-- Of one refusal, w at bit `at`, of bits of which the first n are held
module _ (n : ℕ) (b : List ℕ) (size : n ≤ length b) (w : Refusal) (at : ℕ) (inside : at ≤ n) where
  pub record Tells {A : Type 0} (p : Reader A) : Type 0 where
    pub on : (i : ℕ) → p b i ≡ refuse w at → Names n b p i at w

  named-short : {A : Type 0} (p : Reader A) (i : ℕ) → w ≡ Short → Names n b p i at w
  named-short p i e = subst (λ u. Names n b p i at u) (sym e) tt

  -- a reader that is refused by SHORT alone
  tells-short : {A : Type 0} {p : Reader A} → Only IsShort p → Tells p
  tells-short {p = p} o = record { on = λ i e. named-short p i (o.says b i w at e) }

  pub tells-give : {A : Type 0} (a : A) → Tells (give a)
  tells-give a = record { on = λ i e. no-refusal (sym e) }

  pub tells-cond : {A : Type 0} {p q : Reader A} (t : Bool) → (t ≡ true → Tells p) → (t ≡ false → Tells q) → Tells (cond t p q)
  tells-cond true g h = g refl
  tells-cond false g h = h refl

  pub tells-bind : {A B : Type 0} {p : Reader A} {f : A → Reader B} → Firm p → Tells p → ((a : A) → Tells (f a)) → Tells (p >>= f)
  tells-bind {A} {B} {p} {f} firm g h = record { on = λ i e. go i (stops (p b i) (λ a j. f a b j) e) }
    where
      go : (i : ℕ) → Stops (p b i) (λ a j. f a b j) w at → Names n b (p >>= f) i at w
      go i (at_once d) = along n b p (p >>= f) i i at w (λ B q j l c. comes-first f i j c) (g.on i d)
      go i (behind a k e d) =
          along n b (f a) (p >>= f) k i at w
          (λ B q j l c. comes-by i k j (firm.onward b i a k e)
          (λ x. rw (cut-firm firm n b size i e (omega (arith, c.onward)) x) refl) c)
          ((h a).on k d)

  -- the item begins where the reading stands
  starts : {A : Type 0} (p : Reader A) (i : ℕ) → at ≡ i → Comes n b p i p at
  starts p i e = subst (λ j. Comes n b p i p j) (sym e) (comes-start n b p i)

  -- runs
  data RunStops (start : ℕ) : Type 0 where
    cut : w ≡ Short → RunStops start
    no_end : w ≡ Run → at ≡ start → RunStops start

  zeros-stop : (start k left i : ℕ) → zeros_from start k left b i ≡ refuse w at → RunStops start
  unfolding zeros_from
  zeros-stop start k zero i e = no_end (sym (same-refusal e)) (sym (same_bit e))
  zeros-stop start k (suc left) i e =
      go (stops (bit b i) (λ a j. cond (eqb a 1) (give k) (zeros_from start (k + 1) left) b j) e) (λ j. zeros-stop start (k + 1) left j)
    where
      one : (j : ℕ) (t : Bool) → cond t (give k) (zeros_from start (k + 1) left) b j ≡ refuse w at
          → (zeros_from start (k + 1) left b j ≡ refuse w at → RunStops start) → RunStops start
      one j true d on = no-refusal (sym d)
      one j false d on = on d

      go : Stops (bit b i) (λ a j. cond (eqb a 1) (give k) (zeros_from start (k + 1) left) b j) w at
          → ((j : ℕ) → zeros_from start (k + 1) left b j ≡ refuse w at → RunStops start) → RunStops start
      go (at_once d) on = cut ((only-bit {K = IsShort} refl).says b i w at d)
      go (behind a j q d) on = one j (eqb a 1) d (on j)

  rice-stop : (len s i : ℕ) → rice len s b i ≡ refuse w at → RunStops i
  unfolding rice
  rice-stop len s i e =
      go (stops (zeros_from i 0 (len + 1) b i) (λ k j. (number s >>= (λ low. give (k * 2 ^ s + low))) b j) e)
    where
      low : (k j : ℕ) → Stops (number s b j) (λ low l. whole (k * 2 ^ s + low) l) w at → RunStops i
      low k j (at_once d) = cut ((only-number_from {K = IsShort} refl 0 s).says b j w at d)
      low k j (behind v l q d) = no-refusal (sym d)

      go : Stops (zeros_from i 0 (len + 1) b i) (λ k j. (number s >>= (λ low. give (k * 2 ^ s + low))) b j) w at → RunStops i
      go (at_once d) = zeros-stop i 0 (len + 1) i d
      go (behind k j q d) = low k j (stops (number s b j) (λ low l. whole (k * 2 ^ s + low) l) d)

  module _ (len s fuel left : ℕ) (done : List ℕ) where
    abbrev onward-done : ℕ → List ℕ
    onward-done v = done ++ (replicate v 0 ++ (1 ∷ []))

    data RunTurn (i : ℕ) : Type 0 where
      run-cut : w ≡ Short → RunTurn i
      run-bad : w ≡ Run → at ≡ i → 1 ≤ left → TooLong len s left b i → RunTurn i
      run_on : (v k : ℕ) → eqb left 0 ≡ false → rice len s b i ≡ whole v k → ltb left v ≡ false → eqb v left ≡ false
          → runs_from len s fuel (left - (v + 1)) (onward-done v) b k ≡ refuse w at → RunTurn i

    run-turn : (i : ℕ) → runs_from len s (suc fuel) left done b i ≡ refuse w at → RunTurn i
    unfolding runs_from
    run-turn i e = some (eqb left 0) refl e
      where
        after : ℕ → Reader (List ℕ)
        after v = cond (ltb left v) (fail Run i) (cond (eqb v left) (give (done ++ replicate v 0))
            (runs_from len s fuel (left - (v + 1)) (onward-done v)))

        over : (v k : ℕ) → eqb left 0 ≡ false → rice len s b i ≡ whole v k → (t u : Bool) → ltb left v ≡ t → eqb v left ≡ u
            → cond t (fail Run i) (cond u (give (done ++ replicate v 0))
            (runs_from len s fuel (left - (v + 1)) (onward-done v))) b k ≡ refuse w at → RunTurn i
        over v k z q true u x y d =
            run-bad (sym (same-refusal d)) (sym (same_bit d)) (let h = eqb-false left 0 z in omega arith)
            (longer v k q (ltb-true left v x))
        over v k z q false true x y d = no-refusal (sym d)
        over v k z q false false x y d = run_on v k z q x y d

        coded : eqb left 0 ≡ false → Stops (rice len s b i) (λ v k. after v b k) w at → RunTurn i
        coded z (at_once d) = refused (rice-stop len s i d)
          where
            refused : RunStops i → RunTurn i
            refused (cut u) = run-cut u
            refused (no_end u a) =
                run-bad u a (let h = eqb-false left 0 z in omega arith)
                (endless (subst (λ j. rice len s b i ≡ refuse Run j) a (subst (λ u. rice len s b i ≡ refuse u at) u d)))
        coded z (behind v k q d) = over v k z q (ltb left v) (eqb v left) refl refl d

        some : (t : Bool) → eqb left 0 ≡ t
            → cond t (give done) (here >>= (λ start. rice len s >>= (λ v. cond (ltb left v) (fail Run start)
            (cond (eqb v left) (give (done ++ replicate v 0)) (runs_from len s fuel (left - (v + 1)) (onward-done v)))))) b i ≡ refuse w at
            → RunTurn i
        some true z d = no-refusal (sym d)
        some false z d = coded z (stops (rice len s b i) (λ v k. after v b k) d)

    run-same : (c : List ℕ) (i v k : ℕ) → eqb left 0 ≡ false → rice len s c i ≡ whole v k → ltb left v ≡ false → eqb v left ≡ false
        → runs_from len s (suc fuel) left done c i ≡ runs_from len s fuel (left - (v + 1)) (onward-done v) c k
    unfolding runs_from
    run-same c i v k z q x y = rw (z, q, x, y) refl

  pub tells-runs : (len s fuel left : ℕ) (done : List ℕ) → Tells (runs_from len s fuel left done)
  tells-runs len s zero left done = record { on = λ i e. no-refusal (sym e ∙ no-runs len s left done b i) }
  tells-runs len s (suc fuel) left done = record {
    on = λ i e. go i (run-turn len s fuel left done i e)
        (λ v. tells-runs len s fuel (left - (v + 1)) (done ++ (replicate v 0 ++ (1 ∷ []))));
  }
    where
      go : (i : ℕ) → RunTurn len s fuel left done i
          → ((v : ℕ) → Tells (runs_from len s fuel (left - (v + 1)) (done ++ (replicate v 0 ++ (1 ∷ [])))))
          → Names n b (runs_from len s (suc fuel) left done) i at w
      go i (run-cut u) later = named-short (runs_from len s (suc fuel) left done) i u
      go i (run-bad u a h l) later =
          subst (λ u. Names n b (runs_from len s (suc fuel) left done) i at u) (sym u) (record {
            len = len;
            s = s;
            more = fuel;
            left = left;
            done = done;
            comes = starts (runs_from len s (suc fuel) left done) i a;
            some = h;
            long = subst (λ j. TooLong len s left b j) (sym a) l;
          })
      go i (run_on v k z q x y d) later =
          along n b (runs_from len s fuel (left - (v + 1)) (done ++ (replicate v 0 ++ (1 ∷ [])))) (runs_from len s (suc fuel) left done)
          k i at w
          (λ B r j l c. comes-by i k j ((firm-rice len s).onward b i v k q)
          (λ x'. run-same len s fuel left done (take n b ++ x') i v k z
          (cut-firm (firm-rice len s) n b size i q (omega (arith, c.onward)) x') x y) c)
          ((later v).on k d)

  -- bits that are tested
  data Turn {A : Type 0} (width : ℕ) (test : ℕ → Bool) (go : ℕ → Reader A) (why : Refusal) (i : ℕ) : Type 0 where
    bits-cut : w ≡ Short → Turn width test go why i
    bits-bad : (v : ℕ) → number width b i ≡ whole v (i + width) → test v ≡ false → w ≡ why → at ≡ i → Turn width test go why i
    bits-on : (v : ℕ) → number width b i ≡ whole v (i + width) → test v ≡ true → go v b (i + width) ≡ refuse w at
        → Turn width test go why i

  turn : {A : Type 0} (width : ℕ) (test : ℕ → Bool) (go : ℕ → Reader A) (why : Refusal) (i : ℕ)
      → tested width test go why b i ≡ refuse w at → Turn width test go why i
  turn {A} width test go why i e = one (stops (number width b i) (λ v k. cond (test v) (go v) (fail why i) b k) e)
    where
      two : (v : ℕ) → number width b i ≡ whole v (i + width) → (t : Bool) → test v ≡ t
          → cond t (go v) (fail why i) b (i + width) ≡ refuse w at → Turn width test go why i
      two v q true x d = bits-on v q x d
      two v q false x d = bits-bad v q x (sym (same-refusal d)) (sym (same_bit d))

      one : Stops (number width b i) (λ v k. cond (test v) (go v) (fail why i) b k) w at → Turn width test go why i
      one (at_once d) = bits-cut ((only-number_from {K = IsShort} refl 0 width).says b i w at d)
      one (behind v k q d) =
          let next : i + width ≡ k = number-next 0 width b i q in
          two v (subst (λ k. number width b i ≡ whole v k) (sym next) q) (test v) refl
          (subst (λ k. cond (test v) (go v) (fail why i) b k ≡ refuse w at) (sym next) d)

  -- with the first n bits held, the same bits are read, and it goes on
  on_same : {A : Type 0} (width : ℕ) (test : ℕ → Bool) (go : ℕ → Reader A) (why : Refusal) (i v : ℕ)
      → number width b i ≡ whole v (i + width) → test v ≡ true → i + width ≤ n → (c : List ℕ)
      → tested width test go why (take n b ++ c) i ≡ go v (take n b ++ c) (i + width)
  on_same width test go why i v q x h c = rw (cut-firm (firm-number_from 0 width) n b size i q h c, x) refl

  moved : (width i v : ℕ) → at ≡ i → number width b i ≡ whole v (i + width) → number width b at ≡ whole v (at + width)
  moved width i v a q = subst (λ j. number width b j ≡ whole v (j + width)) (sym a) q

  -- listed places, and V
  pub tells-listed : (width d : ℕ) (done : List ℕ) (k : ℕ) → width ≤ 9 → Tells (listed_from width d done k)
  unfolding listed_from
  tells-listed width d done zero h = tells-give (done ++ replicate (d - length done) 0)
  tells-listed width d done (suc k) h = record {
    on = λ i e. go i (turn width test next Place i e) (λ x. tells-listed width d (done ++ (replicate (x - length done) 0 ++ (1 ∷ []))) k h);
  }
    where
      test : ℕ → Bool
      test x = leb (length done) x && ltb x d

      next : ℕ → Reader (List ℕ)
      next x = listed_from width d (done ++ (replicate (x - length done) 0 ++ (1 ∷ []))) k

      go : (i : ℕ) → Turn width test next Place i → ((x : ℕ) → Tells (next x)) → Names n b (tested width test next Place) i at w
      go i (bits-cut u) later = named-short (tested width test next Place) i u
      go i (bits-bad x q f u a) later =
          subst (λ u. Names n b (tested width test next Place) i at u) (sym u)
          (listed-place width d k done x h (starts (tested width test next Place) i a) (moved width i x a q) f)
      go i (bits-on x q f e) later =
          along n b (next x) (tested width test next Place) (i + width) i at w
          (λ B r j l c. comes-by i (i + width) j (omega arith) (on_same width test next Place i x q f (omega (arith, c.onward))) c)
          ((later x).on (i + width) e)

  pub tells-groups : (c : Coding) (done : List ℕ) (m : ℕ) → Tells (groups_from c done m)
  unfolding groups_from
  tells-groups c done zero = tells-give done
  tells-groups c done (suc m) = record {
    on = λ i e. go i (turn width test next Place i e) (λ v. tells-groups c (done ++ digits_of c.radix c.group v) m);
  }
    where
      width : ℕ
      width = c.bits

      test : ℕ → Bool
      test v = ltb v (c.radix ^ c.group)

      next : ℕ → Reader (List ℕ)
      next v = groups_from c (done ++ digits_of c.radix c.group v) m

      go : (i : ℕ) → Turn width test next Place i → ((v : ℕ) → Tells (next v)) → Names n b (tested width test next Place) i at w
      go i (bits-cut u) later = named-short (tested width test next Place) i u
      go i (bits-bad v q f u a) later =
          subst (λ u. Names n b (tested width test next Place) i at u) (sym u)
          (too_large c m done v (starts (tested width test next Place) i a) (moved width i v a q) (ltb-false v (c.radix ^ c.group) f))
      go i (bits-on v q f e) later =
          along n b (next v) (tested width test next Place) (i + width) i at w
          (λ B r j l x. comes-by i (i + width) j (omega arith) (on_same width test next Place i v q f (omega (arith, x.onward))) x)
          ((later v).on (i + width) e)

  pub tells-fractional : (mask k len : ℕ) → Tells (fractional mask k len)
  unfolding groups_as
  tells-fractional mask k len =
      let c = coding_of (radix k) in
      tells-bind (firm-groups c [] (len / c.group)) (tells-groups c [] (len / c.group))
      (λ digits. tells-give (map (λ d. get_or (samples_at mask k) d 0) digits))

  -- the places of a value, by a method that is one
  pub tells-by_method : (len d start m : ℕ) → d ≤ 320 → eqb m 6 ≡ false → Tells (by_method len d start m)
  unfolding by_method listed
  tells-by_method len d start m h f =
      tells-cond (eqb m 0) (λ e. tells-short (only-bits_from refl [] d)) (λ e.
      tells-cond (leb m 4) (λ e. tells-runs len m d d []) (λ e.
      tells-cond (eqb m 5) (λ e. tells-give (replicate d 0)) (λ e.
      tells-cond (eqb m 6) (λ e. absurd (false≢true (sym f ∙ e))) (λ e.
      tells-bind (firm-number_from 0 2) (tells-short (only-number_from refl 0 2))
      (λ less. tells-listed (width_of d) d [] (less + 1) (width-most 0 d d 9 (omega arith)))))))

  -- a value: its method, and its places
  module _ (len z x : ℕ) (xs cells : List ℕ) where
    abbrev placed : ℕ → ℕ → Reader (List ℕ)
    placed start m = by_method len (empty_in z cells) start m >>= (λ flags. values_into len z xs (lay z x flags 0 cells))

    data ValueTurn (i : ℕ) : Type 0 where
      value-cut : w ≡ Short → ValueTurn i
      value-bad : number 3 b i ≡ whole 6 (i + 3) → w ≡ Method → at ≡ i → ValueTurn i
      value_on : (m : ℕ) → number 3 b i ≡ whole m (i + 3) → eqb m 6 ≡ false → placed i m b (i + 3) ≡ refuse w at → ValueTurn i

    value-turn : (i : ℕ) → values_into len z (x ∷ xs) cells b i ≡ refuse w at → ValueTurn i
    unfolding values_into
    value-turn i e = one (stops (number 3 b i) (λ m k. placed i m b k) e)
      where
        six : (m : ℕ) → m ≡ 6 → placed i m b (i + 3) ≡ refuse Method i
        six m q = rw (q, six-refused len (empty_in z cells) i b (i + 3)) refl

        two : (m : ℕ) → number 3 b i ≡ whole m (i + 3) → (t : Bool) → eqb m 6 ≡ t → placed i m b (i + 3) ≡ refuse w at → ValueTurn i
        two m q true f d =
            let is = eqb-true m 6 f in
            let why = sym (six m is) ∙ d in
            value-bad (subst (λ m. number 3 b i ≡ whole m (i + 3)) is q) (sym (same-refusal why)) (sym (same_bit why))
        two m q false f d = value_on m q f d

        one : Stops (number 3 b i) (λ m k. placed i m b k) w at → ValueTurn i
        one (at_once d) = value-cut ((only-number_from {K = IsShort} refl 0 3).says b i w at d)
        one (behind m k q d) =
            let next : i + 3 ≡ k = number-next 0 3 b i q in
            two m (subst (λ k. number 3 b i ≡ whole m k) (sym next) q) (eqb m 6) refl
            (subst (λ k. placed i m b k ≡ refuse w at) (sym next) d)

    value_same : (c : List ℕ) (i m : ℕ) → number 3 c i ≡ whole m (i + 3) → values_into len z (x ∷ xs) cells c i ≡ placed i m c (i + 3)
    unfolding values_into
    value_same c i m q = rw q refl

  pub tells-values : (len z : ℕ) (xs cells : List ℕ) → length cells ≤ 320 → Tells (values_into len z xs cells)
  tells-values len z [] cells h = record { on = λ i e. no-refusal (sym e ∙ no-values len z cells b i) }
  tells-values len z (x ∷ xs) cells h = record {
    on = λ i e. go i (value-turn len z x xs cells i e)
        (λ flags. tells-values len z xs (lay z x flags 0 cells) (omega (arith, length-lay z x flags 0 cells)));
  }
    where
      go : (i : ℕ) → ValueTurn len z x xs cells i → ((flags : List ℕ) → Tells (values_into len z xs (lay z x flags 0 cells)))
          → Names n b (values_into len z (x ∷ xs) cells) i at w
      go i (value-cut u) later = named-short (values_into len z (x ∷ xs) cells) i u
      go i (value-bad q u a) later =
          subst (λ u. Names n b (values_into len z (x ∷ xs) cells) i at u) (sym u) (record {
            len = len;
            zero-at = z;
            value = x;
            values = xs;
            cells = cells;
            comes = starts (values_into len z (x ∷ xs) cells) i a;
            six = moved 3 i 6 a q;
          })
      go i (value_on m q f e) later =
          let t = tells-bind (firm-by_method len (empty_in z cells) i m)
          (tells-by_method len (empty_in z cells) i m (omega (arith, empty-most z cells)) f) later in
          along n b (placed len z x xs cells i m) (values_into len z (x ∷ xs) cells) (i + 3) i at w
          (λ B r j l c. comes-by i (i + 3) j (omega arith)
          (λ y. value_same len z x xs cells (take n b ++ y) i m
          (cut-firm (firm-number_from 0 3) n b size i q (omega (arith, c.onward)) y)) c)
          (t.on (i + 3) e)

  -- the range case and its flag
  module _ (mask len : ℕ) where
    abbrev valued : ℕ → ℕ → Reader (List ℕ)
    valued c flag = values_into len (plus_zero mask) (map (sample_of mask) (values_of len c flag)) (replicate len (plus_zero mask))

    data CaseTurn (i : ℕ) : Type 0 where
      case-cut : w ≡ Short → CaseTurn i
      case-bad : (c flag : ℕ) → number 2 b i ≡ whole c (i + 2) → number 1 b (i + 2) ≡ whole flag (i + 3) → length (values_of len c flag) ≡ 0
          → w ≡ Case → at ≡ i → CaseTurn i
      case-on : (c flag : ℕ) → number 2 b i ≡ whole c (i + 2) → number 1 b (i + 2) ≡ whole flag (i + 3)
          → eqb (length (values_of len c flag)) 0 ≡ false → valued c flag b (i + 3) ≡ refuse w at → CaseTurn i

    case-turn : (i : ℕ) → located mask len b i ≡ refuse w at → CaseTurn i
    unfolding located
    case-turn i e = one (stops (number 2 b i) (λ c k. (number 1 >>= (λ flag. after c flag)) b k) e)
      where
        after : ℕ → ℕ → Reader (List ℕ)
        after c flag = cond (eqb (length (values_of len c flag)) 0) (fail Case i) (valued c flag)

        three : (c flag : ℕ) → number 2 b i ≡ whole c (i + 2) → number 1 b (i + 2) ≡ whole flag (i + 3) → (t : Bool)
            → eqb (length (values_of len c flag)) 0 ≡ t → cond t (fail Case i) (valued c flag) b (i + 3) ≡ refuse w at → CaseTurn i
        three c flag q r true f d =
            case-bad c flag q r (eqb-true (length (values_of len c flag)) 0 f) (sym (same-refusal d)) (sym (same_bit d))
        three c flag q r false f d = case-on c flag q r f d

        two : (c : ℕ) → number 2 b i ≡ whole c (i + 2) → Stops (number 1 b (i + 2)) (λ flag k. after c flag b k) w at → CaseTurn i
        two c q (at_once d) = case-cut ((only-number_from {K = IsShort} refl 0 1).says b (i + 2) w at d)
        two c q (behind flag k r d) =
            let next : i + 3 ≡ k = omega (arith, number-next 0 1 b (i + 2) r) in
            three c flag q (subst (λ k. number 1 b (i + 2) ≡ whole flag k) (sym next) r) (eqb (length (values_of len c flag)) 0) refl
            (subst (λ k. after c flag b k ≡ refuse w at) (sym next) d)

        one : Stops (number 2 b i) (λ c k. (number 1 >>= (λ flag. after c flag)) b k) w at → CaseTurn i
        one (at_once d) = case-cut ((only-number_from {K = IsShort} refl 0 2).says b i w at d)
        one (behind c k q d) =
            let next : i + 2 ≡ k = number-next 0 2 b i q in
            two c (subst (λ k. number 2 b i ≡ whole c k) (sym next) q)
            (stops (number 1 b (i + 2)) (λ flag k. after c flag b k)
            (subst (λ k. (number 1 >>= (λ flag. after c flag)) b k ≡ refuse w at) (sym next) d))

    case_same : (x : List ℕ) (i c flag : ℕ) → number 2 x i ≡ whole c (i + 2) → number 1 x (i + 2) ≡ whole flag (i + 3)
        → eqb (length (values_of len c flag)) 0 ≡ false → located mask len x i ≡ valued c flag x (i + 3)
    unfolding located
    case_same x i c flag q r f = rw (q, r, f) refl

  pub tells-located : (mask len : ℕ) → len ≤ 320 → Tells (located mask len)
  tells-located mask len h = record { on = λ i e. go i (case-turn mask len i e) }
    where
      go : (i : ℕ) → CaseTurn mask len i → Names n b (located mask len) i at w
      go i (case-cut u) = named-short (located mask len) i u
      go i (case-bad c flag q r f u a) =
          subst (λ u. Names n b (located mask len) i at u) (sym u) (record {
            mask = mask;
            len = len;
            range = c;
            flag = flag;
            comes = starts (located mask len) i a;
            two = moved 2 i c a q;
            one = subst (λ j. number 1 b (j + 2) ≡ whole flag (j + 3)) (sym a) r;
            none = f;
          })
      go i (case-on c flag q r f e) =
          let v = tells-values len (plus_zero mask) (map (sample_of mask) (values_of len c flag)) (replicate len (plus_zero mask))
          (omega (arith, length-replicate len (plus_zero mask))) in
          along n b (valued mask len c flag) (located mask len) (i + 3) i at w
          (λ B s j l x. comes-by i (i + 3) j (omega arith)
          (λ y. case_same mask len (take n b ++ y) i c flag
          (cut-firm (firm-number_from 0 2) n b size i q (omega (arith, x.onward)) y)
          (cut-firm (firm-number_from 0 1) n b size (i + 2) r (omega (arith, x.onward)) y) f) x)
          (v.on (i + 3) e)

  -- filling bits
  data FillStops (m i : ℕ) : Type 0 where
    fill-cut : w ≡ Short → FillStops m i
    fill-bad : w ≡ Align → i ≤ at → at < i + m → ((k : ℕ) → i ≤ k → k < at → get_or b k 0 ≡ 0) → (get_or b at 0 ≡ 0 → ⊥) → FillStops m i

  bit-read : (i v k : ℕ) → bit b i ≡ whole v k → (get_or b i 0 ≡ v) × (i + 1 ≡ k)
  unfolding bit
  bit-read i v k e = go (ltb i (length b)) e
    where
      go : (t : Bool) → cond t (whole (get_or b i 0) (i + 1)) (refuse Short i) ≡ whole v k → (get_or b i 0 ≡ v) × (i + 1 ≡ k)
      go true d = (same-value d, same_place d)
      go false d = no-refusal d

  one_more : (m i : ℕ) → get_or b i 0 ≡ 0 → FillStops m (i + 1) → FillStops (suc m) i
  one_more m i z (fill-cut u) = fill-cut u
  one_more m i z (fill-bad u l h zeros bad) = fill-bad u (omega arith) (omega arith) (λ k x y. go k x y (eqb k i) refl) bad
    where
      go : (k : ℕ) → i ≤ k → k < at → (t : Bool) → eqb k i ≡ t → get_or b k 0 ≡ 0
      go k x y true e = subst (λ j. get_or b j 0 ≡ 0) (sym (eqb-true k i e)) z
      go k x y false e = zeros k (let d = eqb-false k i e in omega arith) y

  fill_stop : {A : Type 0} (a : A) (m i : ℕ) → filled a m b i ≡ refuse w at → FillStops m i
  unfolding filled
  fill_stop a zero i e = no-refusal (sym e)
  fill_stop {A} a (suc m) i e = go (stops (bit b i) (λ f k. cond (eqb f 0) (filled a m) (fail Align i) b k) e) (λ k. fill_stop a m k)
    where
      two : (f k : ℕ) → get_or b i 0 ≡ f → i + 1 ≡ k → (t : Bool) → eqb f 0 ≡ t → cond t (filled a m) (fail Align i) b k ≡ refuse w at
          → ((k : ℕ) → filled a m b k ≡ refuse w at → FillStops m k) → FillStops (suc m) i
      two f k g q true x d later =
          one_more m i (g ∙ eqb-true f 0 x) (subst (λ k. FillStops m k) (sym q) (later k d))
      two f k g q false x d later =
          let same_at : at ≡ i = sym (same_bit d) in
          fill-bad (sym (same-refusal d)) (omega arith) (omega arith) (λ j x y. absurd (omega arith))
          (λ z. eqb-false f 0 x (sym g ∙ subst (λ j. get_or b j 0 ≡ 0) same_at z))

      go : Stops (bit b i) (λ f k. cond (eqb f 0) (filled a m) (fail Align i) b k) w at
          → ((k : ℕ) → filled a m b k ≡ refuse w at → FillStops m k) → FillStops (suc m) i
      go (at_once d) later = fill-cut ((only-bit {K = IsShort} refl).says b i w at d)
      go (behind f k q d) later = let r = bit-read i f k q in two f k r.0 r.1 (eqb f 0) refl d later

  tells-ended : (t : ℕ) (s : List ℕ) → Tells (ended t s)
  tells-ended t s = record { on = λ i e. go i (fill_stop (record { tool = t; samples = s; bits = i }) (fill_for i) i e) }
    where
      found : ℕ → Found
      found i = record { tool = t; samples = s; bits = i }

      go : (i : ℕ) → FillStops (fill_for i) i → Names n b (ended t s) i at w
      go i (fill-cut u) = named-short (ended t s) i u
      go i (fill-bad u l h zeros bad) =
          subst (λ u. Names n b (ended t s) i at u) (sym u) (record {
            found = found i;
            comes = comes-by i i i (omega arith) (λ c. refl) (comes-start n b (filled (found i) (fill_for i)) i);
            from = l;
            to = h;
            zeros = zeros;
            wrong = bad;
          })

  -- what follows once the tool is decided: a body, then the filling bits
  pub tells-rest : {p : Reader (List ℕ)} (t : ℕ) → Firm p → Tells p → Tells (p >>= ended t)
  tells-rest t firm g = tells-bind firm g (λ s. tells-ended t s)

  -- what follows tool 6's code of S, and the body of a tool that its first octet tells whole
  pub tells-coded : (mask len mark s : ℕ) → Tells (runs_from len s len len [] >>= (λ flags. give (map (zero_of mask mark) flags)))
  tells-coded mask len mark s =
      tells-bind (firm-runs_from len s len len []) (tells-runs len s len len []) (λ flags. tells-give (map (zero_of mask mark) flags))

  pub tells-body : (mask t len : ℕ) → len ≤ 320 → Tells (body mask t len)
  unfolding body
  tells-body mask t len h =
      tells-cond (eqb t 1) (λ e. tells-short (only-octets_after refl [] len)) (λ e.
      tells-cond (eqb t 2) (λ e. tells-give (replicate len (plus_zero mask))) (λ e.
      tells-cond (eqb t 3) (λ e. tells-give (replicate len (minus_zero mask))) (λ e.
      tells-cond (eqb t 4) (λ e. tells-short (only-bind (only-number_from refl 0 8) (λ x. only-give (replicate len x)))) (λ e.
      tells-cond (eqb t 5)
      (λ e. tells-short (only-bind (only-bits_from refl [] len) (λ flags. only-give (map (zero_of mask 0) flags)))) (λ e.
      tells-located mask len h)))))
