-- Where a refusal points: which bit it names, and how far past that bit the reading had looked. `Points W p` is built as readers are, step
-- by step. Main statements: `points-body`, `points-with_tool`.
use Prim.Native.Nat.{ℕ, zero, suc, ◌+◌, ◌*◌, ◌-◌, ◌^◌, ◌/◌, ◌≤◌, ◌<◌}
use native.Mathlib.Omega.{arith}
use mathlib.Core.Path.{◌≡◌, refl, sym, subst, ◌∙◌}
use mathlib.Core.List.{List, [], ◌∷◌, ◌++◌, map}
use mathlib.Core.Bool.{Bool, true, false, cond, not, ◌&&◌}
use lib.ListN.{length, get_or, replicate, length-append, length-replicate}
use lib.Dec.{eqb, leb, ltb}
use borrow.Author.Tests.{ltb-true, ltb-false, leb-true}
use Rattle.rules.specs.declared.Refusal.{Refusal}
use Rattle.rules.specs.declared.Refusal.TheVariants.{Short, Prefix, Tool, Room, Case, Method, Run, Place, Align, Length, Set, Law, Long}
use Rattle.rules.specs.Tools.{holds, is_length}
use Rattle.rules.specs.Bits.{fill_for}
use Rattle.rules.specs.Reading.{Read, whole, refuse, Reader, and_then, ◌>>=◌, give}
use Rattle.rules.specs.Reading.{fail, here, bit, number_from, bits_from, octets_after, filled}
use Rattle.rules.specs.Samples.{sample_of, plus_zero, minus_zero}
use Rattle.rules.specs.Runs.{zeros_from, rice, runs_from}
use Rattle.rules.specs.Zeros.{Tree, leaf, fork, tree_of, read_tree, zero_of, plus_minus}
use Rattle.rules.specs.Located.{width_of, listed_from, listed, by_method, empty_in, lay, values_into, values_of, located}
use Rattle.rules.specs.Fractional.{radix, Coding, bits_for, coding_of, digits_of, groups_from, groups_as, samples_at, fractional}
use Rattle.rules.specs.First.{six_not_eight}
use Rattle.rules.specs.Frame.{body, with_tool}
use Rattle.rules.proofs.Accepted.{Steps, through, steps, number-next}
use Rattle.rules.proofs.Gives.{Leaves, no-refusal, same-refusal, same-value}
use Rattle.rules.proofs.Laid.{empty-most, length-lay}
use Rattle.rules.proofs.Room.{length_most}
use Rattle.promises.proofs.Reach.{Far, far-bit, far-then, Near, near-give, near-fail}
use Rattle.promises.proofs.Reach.{near-here, near-bit, near-then, near-cond, near-more, near-number_from}
use Rattle.promises.proofs.Further.{Goes, short, same, Firm, firm-give, firm-bind, firm-cond, firm-here, firm-bit, firm-number_from}
use Rattle.promises.proofs.Further.{firm-bits_from, firm-zeros_from, firm-rice, firm-runs_from, firm-read_tree}
use Rattle.promises.proofs.Further.{firm-by_method, firm-groups, firm-fractional, firm-plus_minus, firm-body, far-firm}
use Rattle.promises.proofs.Bounded.{width-most, tree-leaves}

-- The bit that a refusal names, n bits being there. SHORT's is the first that is missing. Every other is one of those that are there, save
-- that a listed place of no bits may stand at their end. What is judged by the prefix names bit 0, and so do the refusals from 10 on.
abbrev pub BitOf : ℕ → Refusal → ℕ → Type 0
BitOf n Short at = at ≡ n
BitOf n Prefix at = (at ≡ 0) × (at < n)
BitOf n (Tool t) at = (at ≡ 0) × (at < n)
BitOf n Room at = (at ≡ 0) × (at < n)
BitOf n Case at = at < n
BitOf n Method at = at < n
BitOf n Run at = at < n
BitOf n Place at = at ≤ n
BitOf n Align at = at < n
BitOf n Length at = at ≡ 0
BitOf n Set at = at ≡ 0
BitOf n Law at = at ≡ 0
BitOf n Long at = at ≡ 0

-- How many bits, from the one that it names on, a refusal hangs on at most: the range case and its flag, the method, a run's code (zeros up
-- to zero N + 1, or N zeros, a one and S bits), a listed place or V (whose most bits are the first number: 9, or tool 11's 13), one filling
-- bit. What is judged by the prefix hangs on the prefix.
abbrev pub reach : ℕ → Refusal → ℕ
reach place Short = 0
reach place Prefix = 8
reach place (Tool t) = 8
reach place Room = 8
reach place Case = 3
reach place Method = 3
reach place Run = 330
reach place Place = place
reach place Align = 1
reach place Length = 0
reach place Set = 0
reach place Law = 0
reach place Long = 0

-- a reading from place i, n bits being there
abbrev pub Says : {A : Type 0} → ℕ → ℕ → ℕ → Read A → Type 0
Says place n i (whole a j) = (i ≤ j) × (j ≤ n)
Says place n i (refuse w at) = BitOf n w at × (i ≤ at + reach place w)

-- a reading m of n bits, and m', the same with more bits after them: where m is SHORT and m' another refusal, that one hangs on a bit past
-- the n
abbrev pub Past : {A : Type 0} → ℕ → ℕ → Read A → Read A → Type 0
Past place n m m' =
    (at : ℕ) (w : Refusal) (at' : ℕ) → m ≡ refuse Short at → m' ≡ refuse w at' → (w ≡ Short → ⊥) → n < at' + reach place w

-- a reader that stands at a place of which W holds
pub record Points {A : Type 0} (place : ℕ) (W : ℕ → Type 0) (p : Reader A) : Type 0 where
  pub says : (b : List ℕ) (i : ℕ) → W i → i ≤ length b → Says place (length b) i (p b i)
  pub past : (b c : List ℕ) (i : ℕ) → W i → i ≤ length b → Past place (length b) (p b i) (p (b ++ c) i)

-- any place; and one from lo to hi, since some item began before it
abbrev pub Any : ℕ → Type 0
Any i = Unit {0}

abbrev pub Between : ℕ → ℕ → ℕ → Type 0
Between lo hi i = (lo ≤ i) × (i ≤ hi)

-- laws of the readers that hang on no such bound
pub same_bit : {A : Type 0} {w u : Refusal} {i j : ℕ} → ◌≡◌ {A = Read A} (refuse w i) (refuse u j) → i ≡ j
same_bit e = cc

bit-short : (v i : ℕ) (t : Bool) {w : Refusal} {at : ℕ} → cond t (whole v (i + 1)) (refuse Short i) ≡ refuse w at → w ≡ Short
bit-short v i true e = no-refusal (sym e)
bit-short v i false e = sym (same-refusal e)

longer : (b c : List ℕ) (i : ℕ) → i ≤ length b → i ≤ length (b ++ c)
longer b c i h = omega (arith, length-append b c)

far-number : (v n : ℕ) → Far n (number_from v n)
far-number v n = record { goes = λ b i a j e. omega (arith, number-next v n b i e) }

pub near-zeros : (start k left : ℕ) → Near left (zeros_from start k left)
unfolding zeros_from
near-zeros start k zero = near-fail 0 Run start
near-zeros start k (suc left) =
    near-more (1 + left) (suc left) (omega arith) (near-then 1 left near-bit (λ a.
    near-cond left (eqb a 1) (near-more 0 left (omega arith) (near-give k)) (near-zeros start (k + 1) left)))

near-rice : (n s : ℕ) → Near (n + 1 + s) (rice n s)
unfolding rice
near-rice n s =
    near-more (0 + (n + 1 + (s + 0))) (n + 1 + s) (omega arith)
    (near-then 0 (n + 1 + (s + 0)) near-here (λ start. near-then (n + 1) (s + 0) (near-zeros start 0 (n + 1)) (λ k.
    near-then s 0 (near-number_from 0 s) (λ low. near-give (k * 2 ^ s + low)))))

far-zeros : (start k left : ℕ) → 1 ≤ left → Far 1 (zeros_from start k left)
unfolding zeros_from
far-zeros start k zero h = absurd (omega arith)
far-zeros start k (suc left) h =
    far-then 1 0 far-bit (λ a. far-firm (firm-cond (eqb a 1) (firm-give k) (firm-zeros_from start (k + 1) left)))

far-rice : (n s : ℕ) → Far (0 + (1 + 0)) (rice n s)
unfolding rice
far-rice n s =
    far-then 0 (1 + 0) (far-firm firm-here) (λ start. far-then 1 0 (far-zeros start 0 (n + 1) (omega arith)) (λ k.
    far-firm (firm-bind (firm-number_from 0 s) (λ low. firm-give (k * 2 ^ s + low)))))

width-of-group : (r : ℕ) → bits_for r ≤ 13
unfolding bits_for
width-of-group r = go (eqb r 2) (eqb r 4) (eqb r 3) (eqb r 5)
  where
    go : (a b c d : Bool) → cond a 1 (cond b 2 (cond c 8 (cond d 12 13))) ≤ 13
    go true b c d = omega arith
    go false true c d = omega arith
    go false false true d = omega arith
    go false false false true = omega arith
    go false false false false = omega arith

-- what a tree gives is one of its leaves
tree-gives : (P : ℕ → Type 0) (t : Tree) → Leaves P t → (b : List ℕ) (i s j : ℕ) → read_tree t b i ≡ whole s j → P s
unfolding read_tree
tree-gives P (leaf x) l b i s j e = subst P (same-value e) l
tree-gives P (fork z o) l b i s j e = go (λ k. tree-gives P z l.0 b k s j) (λ k. tree-gives P o l.1 b k s j) (steps (bit b i) _ e)
  where
    go : ((k : ℕ) → read_tree z b k ≡ whole s j → P s) → ((k : ℕ) → read_tree o b k ≡ whole s j → P s)
        → Steps (bit b i) (λ a k. cond (eqb a 1) (read_tree o) (read_tree z) b k) s j → P s
    go left right (through a k q d) = one (eqb a 1) d
      where
        one : (t : Bool) → cond t (read_tree o) (read_tree z) b k ≡ whole s j → P s
        one true d = right k d
        one false d = left k d

-- the bits of a listed place, or of V, are at most so many
module _ (place : ℕ) (nine : 9 ≤ place) where
  pub anywhere : {A : Type 0} {W : ℕ → Type 0} {p : Reader A} → Points place Any p → Points place W p
  anywhere g = record { says = λ b i v k. g.says b i tt k; past = λ b c i v k. g.past b c i tt k }

  -- one step after another
  pub earlier : {A : Type 0} (n i j : ℕ) (m : Read A) → i ≤ j → Says place n j m → Says place n i m
  earlier n i j (whole a k) h s = (omega (arith, s.0), s.1)
  earlier n i j (refuse w at) h s = (s.0, omega (arith, s.1))

  then-says : {A B : Type 0} (n i : ℕ) (m : Read A) (f : A → ℕ → Read B) → Says place n i m
      → ((a : A) (j : ℕ) → m ≡ whole a j → i ≤ j → j ≤ n → Says place n j (f a j)) → Says place n i (and_then m f)
  then-says n i (whole a j) f s h = earlier n i j (f a j) s.0 (h a j refl s.0 s.1)
  then-says n i (refuse w at) f s h = s

  says_back : {A : Type 0} (n i : ℕ) (m : Read A) → Says place n i m → (w : Refusal) (at : ℕ) → m ≡ refuse w at → i ≤ at + reach place w
  says_back n i m s w at e = (subst (λ (r : Read _). Says place n i r) e s).1

  whole_says : {A : Type 0} (n i : ℕ) (m : Read A) → Says place n i m → (a : A) (j : ℕ) → m ≡ whole a j → (i ≤ j) × (j ≤ n)
  whole_says n i m s a j e = subst (λ (r : Read _). Says place n i r) e s

  then-past : {A B : Type 0} (n : ℕ) (m m' : Read A) (f f' : A → ℕ → Read B) → Goes n m m' → Past place n m m'
      → ((a : A) (j : ℕ) → m ≡ whole a j → Past place n (f a j) (f' a j))
      → ((a : A) (j : ℕ) → m' ≡ whole a j → (w : Refusal) (at : ℕ) → f' a j ≡ refuse w at → j ≤ at + reach place w)
      → Past place n (and_then m f) (and_then m' f')
  then-past n (whole a j) m' f f' (same e) q h k = rw e (h a j refl)
  then-past n (refuse u x) m' f f' (same e) q h k = rw e (λ at w at' d d' other. absurd (other (sym (same-refusal d') ∙ same-refusal d)))
  then-past n m (whole a j) f f' (short x e past) q h k = λ at w at' d d' other. omega (arith, past a j refl, k a j refl w at' d')
  then-past n m (refuse u x') f f' (short x e past) q h k = λ at w at' d d' other. q x w at' e (rw (same-refusal d', same_bit d') refl) other

  -- The steps
  pub points-give : {A : Type 0} {W : ℕ → Type 0} (a : A) → Points place W (give a)
  points-give a = record { says = λ b i v k. (omega arith, k); past = λ b c i v k at w at' d. no-refusal (sym d) }

  pub points-fail : {A : Type 0} (lo hi : ℕ) (w : Refusal) (at : ℕ) → ((n : ℕ) → lo ≤ n → BitOf n w at) → hi ≤ at + reach place w
      → Points {A = A} place (Between lo hi) (fail w at)
  points-fail lo hi w at h l = record {
    says = λ b i v k. (h (length b) (omega (arith, v.0)), omega (arith, v.1));
    past = λ b c i v k at u at' d d' other. absurd (other (sym (same-refusal d') ∙ same-refusal d));
  }

  bit-says : (b : List ℕ) (i : ℕ) (t : Bool) → ltb i (length b) ≡ t → i ≤ length b
      → Says place (length b) i (cond t (whole (get_or b i 0) (i + 1)) (refuse Short i))
  bit-says b i true e k = (omega arith, omega (arith, ltb-true i (length b) e))
  bit-says b i false e k = (omega (arith, ltb-false i (length b) e), omega arith)

  pub points-bit : {W : ℕ → Type 0} → Points place W bit
  unfolding bit
  points-bit = record {
    says = λ b i v k. bit-says b i (ltb i (length b)) refl k;
    past = λ b c i v k at w at' d d' other. absurd (other (bit-short (get_or (b ++ c) i 0) i (ltb i (length (b ++ c))) d'));
  }

  pub points-cond : {A : Type 0} {W : ℕ → Type 0} {p q : Reader A} (t : Bool) → (t ≡ true → Points place W p) → (t ≡ false → Points place W q)
      → Points place W (cond t p q)
  points-cond true g h = g refl
  points-cond false g h = h refl

  -- the place where the reading stands
  pub points-here : {A : Type 0} {W : ℕ → Type 0} {f : ℕ → Reader A} → ((i : ℕ) → Points place (Between i i) (f i)) → Points place W (here >>= f)
  points-here g = record {
    says = λ b i v k. (g i).says b i (omega arith, omega arith) k;
    past = λ b c i v k. (g i).past b c i (omega arith, omega arith) k;
  }

  -- what a step gives, and where it leaves off, is known to the next one
  pub points-then : {A B : Type 0} {W : ℕ → Type 0} (Then : A → ℕ → Type 0) {p : Reader A} {f : A → Reader B} → Firm p → Points place W p
      → ((b : List ℕ) (i : ℕ) (a : A) (j : ℕ) → W i → p b i ≡ whole a j → Then a j) → ((a : A) → Points place (Then a) (f a)) → Points place W (p >>= f)
  points-then {A} {B} {W} Then {p} {f} firm g q h = record { says = says; past = past }
    where
      inside : (b : List ℕ) (i : ℕ) → W i → i ≤ length b → (a : A) (j : ℕ) → p b i ≡ whole a j → j ≤ length b
      inside b i v k a j e = (whole_says (length b) i (p b i) (g.says b i v k) a j e).1

      says : (b : List ℕ) (i : ℕ) → W i → i ≤ length b → Says place (length b) i (and_then (p b i) (λ a j. f a b j))
      says b i v k = then-says (length b) i (p b i) (λ a j. f a b j) (g.says b i v k) (λ a j e x y. (h a).says b j (q b i a j v e) y)

      past : (b c : List ℕ) (i : ℕ) → W i → i ≤ length b
          → Past place (length b) (and_then (p b i) (λ a j. f a b j)) (and_then (p (b ++ c) i) (λ a j. f a (b ++ c) j))
      past b c i v k =
          then-past (length b) (p b i) (p (b ++ c) i) (λ a j. f a b j) (λ a j. f a (b ++ c) j) (firm.goes b c i) (g.past b c i v k)
          (λ a j e. (h a).past b c j (q b i a j v e) (inside b i v k a j e))
          (λ a j e w at d. says_back (length (b ++ c)) j (f a (b ++ c) j)
          ((h a).says (b ++ c) j (q (b ++ c) i a j v e) (inside (b ++ c) i v (longer b c i k) a j e)) w at d)

  -- a step after which all begins anew; and one that goes on by at least k places and at most l
  pub points-bind : {A B : Type 0} {W : ℕ → Type 0} {p : Reader A} {f : A → Reader B} → Firm p → Points place W p
      → ((a : A) → Points place Any (f a)) → Points place W (p >>= f)
  points-bind firm g h = points-then (λ a. Any) firm g (λ b i a j v e. tt) h

  pub points-go : {A B : Type 0} (lo hi k l : ℕ) {p : Reader A} {f : A → Reader B} → Firm p → Far k p → Near l p → Points place (Between lo hi) p
      → ((a : A) → Points place (Between (lo + k) (hi + l)) (f a)) → Points place (Between lo hi) (p >>= f)
  points-go lo hi k l firm far near g h =
      points-then (λ a. Between (lo + k) (hi + l)) firm g
      (λ b i a j v e. (omega (arith, v.0, far.goes b i a j e), omega (arith, v.1, near.goes b i a j e))) h

  -- Every reader of a body
  pub points-number_from : {W : ℕ → Type 0} (v n : ℕ) → Points place W (number_from v n)
  unfolding number_from
  points-number_from v zero = points-give v
  points-number_from v (suc n) = points-bind firm-bit points-bit (λ a. points-number_from (2 * v + a) n)

  points-bits_from : {W : ℕ → Type 0} (done : List ℕ) (n : ℕ) → Points place W (bits_from done n)
  unfolding bits_from
  points-bits_from done zero = points-give done
  points-bits_from done (suc n) = points-bind firm-bit points-bit (λ a. points-bits_from (done ++ (a ∷ [])) n)

  points-octets_after : {W : ℕ → Type 0} (done : List ℕ) (n : ℕ) → Points place W (octets_after done n)
  unfolding octets_after
  points-octets_after done zero = points-give done
  points-octets_after done (suc n) = points-bind (firm-number_from 0 8) (points-number_from 0 8) (λ x. points-octets_after (done ++ (x ∷ [])) n)

  -- "a filling bit isn't 0"
  pub points-filled : {A : Type 0} {W : ℕ → Type 0} (a : A) (n : ℕ) → Points place W (filled a n)
  unfolding filled
  points-filled a zero = points-give a
  points-filled {A = A} {W = W} a (suc n) =
      points-here (λ at. points-go at at 1 1 firm-bit far-bit near-bit points-bit (λ f.
      points-cond (eqb f 0) (λ t. points-filled {W =
      Between (at + 1) (at + 1)} a n) (λ t. points-fail (at + 1) (at + 1) Align at (λ n h. omega arith) (omega arith))))

  -- "the first bit of the run's code": at least one bit of it has been read, at most zero N + 1
  points-zeros : (lo hi start k left : ℕ) → start < lo + left → hi + left ≤ start + 330 → Points place (Between lo hi) (zeros_from start k left)
  unfolding zeros_from
  points-zeros lo hi start k zero h l = points-fail lo hi Run start (λ n g. omega arith) (omega arith)
  points-zeros lo hi start k (suc left) h l =
      points-go lo hi 1 1 firm-bit far-bit near-bit points-bit (λ a.
      points-cond (eqb a 1) (λ t. points-give k) (λ t. points-zeros (lo + 1) (hi + 1) start (k + 1) left (omega arith) (omega arith)))

  points-rice : {W : ℕ → Type 0} (n s : ℕ) → n ≤ 320 → Points place W (rice n s)
  unfolding rice
  points-rice n s h =
      points-here (λ start. points-bind (firm-zeros_from start 0 (n + 1))
      (points-zeros start start start 0 (n + 1) (omega arith) (omega arith)) (λ k.
      points-bind (firm-number_from 0 s) (points-number_from 0 s) (λ low. points-give (k * 2 ^ s + low))))

  points-runs : {W : ℕ → Type 0} (n s fuel left : ℕ) (done : List ℕ) → n ≤ 320 → s ≤ 9 → Points place W (runs_from n s fuel left done)
  unfolding runs_from
  points-runs n s zero left done h l = points-give done
  points-runs {W = W} n s (suc fuel) left done h l =
      points-cond (eqb left 0) (λ t. points-give done) (λ t.
      points-here (λ start. points-go start start 1 (n + 1 + s) (firm-rice n s) (far-rice n s) (near-rice n s) (points-rice n s h) (λ v.
      points-cond (ltb left v) (λ t. points-fail (start + 1) (start + (n + 1 + s)) Run start (λ n g. omega arith) (omega arith)) (λ t.
      points-cond (eqb v left) (λ t. points-give (done ++ replicate v 0)) (λ t.
      points-runs {W = Between (start + 1) (start + (n + 1 + s))} n s fuel (left - (v + 1)) (done ++ (replicate v 0 ++ (1 ∷ []))) h l)))))

  points-read_tree : {W : ℕ → Type 0} (t : Tree) → Points place W (read_tree t)
  unfolding read_tree
  points-read_tree (leaf s) = points-give s
  points-read_tree (fork z o) = points-bind firm-bit points-bit (λ a. points-cond (eqb a 1) (λ t. points-read_tree o) (λ t. points-read_tree z))

  -- "a listed place", of w bits
  points-listed : {W : ℕ → Type 0} (w d : ℕ) (done : List ℕ) (k : ℕ) → w ≤ place → Points place W (listed_from w d done k)
  unfolding listed_from
  points-listed w d done zero h = points-give (done ++ replicate (d - length done) 0)
  points-listed {W = W} w d done (suc k) h =
      points-here (λ start. points-go start start w w (firm-number_from 0 w) (far-number 0 w) (near-number_from 0 w)
      (points-number_from 0 w) (λ p.
      points-cond (leb (length done) p && ltb p d)
      (λ t. points-listed {W = Between (start + w) (start + w)} w d (done ++ (replicate (p - length done) 0 ++ (1 ∷ []))) k h)
      (λ t. points-fail (start + w) (start + w) Place start (λ n g. omega arith) (omega arith))))

  -- "the method", of three bits, which have been read
  points-method : (lo hi n d start m : ℕ) → n ≤ 320 → d ≤ 320 → start < lo → hi ≤ start + 3 → Points place (Between lo hi) (by_method n d start m)
  unfolding by_method listed
  points-method lo hi n d start m h k l r =
      points-cond (eqb m 0) (λ t. points-bits_from [] d) (λ t.
      points-cond (leb m 4) (λ t. points-runs n m d d [] h (omega (arith, leb-true m 4 t))) (λ t.
      points-cond (eqb m 5) (λ t. points-give (replicate d 0)) (λ t.
      points-cond (eqb m 6) (λ t. points-fail lo hi Method start (λ n g. omega arith) r) (λ t.
      points-bind (firm-number_from 0 2) (points-number_from 0 2)
      (λ less. points-listed (width_of d) d [] (less + 1) (omega (arith, width-most 0 d d 9 (omega arith))))))))

  points-values : {W : ℕ → Type 0} (n z : ℕ) (xs cells : List ℕ) → n ≤ 320 → length cells ≤ 320 → Points place W (values_into n z xs cells)
  unfolding values_into
  points-values n z [] cells h k = points-give cells
  points-values n z (x ∷ xs) cells h k =
      let d = empty_in z cells in
      points-here (λ start. points-go start start 3 3 (firm-number_from 0 3) (far-number 0 3) (near-number_from 0 3)
      (points-number_from 0 3) (λ m.
      let places = points-method (start + 3) (start + 3) n d start m h (omega (arith, empty-most z cells)) (omega arith) (omega arith) in
      points-bind (firm-by_method n d start m) places (λ flags.
      points-values n z xs (lay z x flags 0 cells) h (omega (arith, length-lay z x flags 0 cells)))))

  -- "the range case": it and the flag have been read
  points-located : {W : ℕ → Type 0} (mask n : ℕ) → n ≤ 320 → Points place W (located mask n)
  unfolding located
  points-located mask n h =
      let z = plus_zero mask in
      points-here (λ start. points-go start start 2 2 (firm-number_from 0 2) (far-number 0 2) (near-number_from 0 2)
      (points-number_from 0 2) (λ c.
      points-go (start + 2) (start + 2) 1 1 (firm-number_from 0 1) (far-number 0 1) (near-number_from 0 1) (points-number_from 0 1) (λ flag.
      points-cond (eqb (length (values_of n c flag)) 0)
      (λ t. points-fail (start + 2 + 1) (start + 2 + 1) Case start (λ n g. omega arith) (omega arith))
      (λ t. points-values n z (map (sample_of mask) (values_of n c flag)) (replicate n z) h (omega (arith, length-replicate n z))))))

  -- V, of w bits
  points-groups : {W : ℕ → Type 0} (c : Coding) (done : List ℕ) (m : ℕ) → c.bits ≤ place → Points place W (groups_from c done m)
  unfolding groups_from
  points-groups c done zero h = points-give done
  points-groups {W = W} c done (suc m) h =
      let w = c.bits in
      points-here (λ start. points-go start start w w (firm-number_from 0 w) (far-number 0 w) (near-number_from 0 w)
      (points-number_from 0 w) (λ v.
      points-cond (ltb v (c.radix ^ c.group)) (λ t. points-groups {W = Between (start + c.bits) (start + c.bits)} c (done ++ digits_of c.radix c.group v) m h)
      (λ t. points-fail (start + w) (start + w) Place start (λ n g. omega arith) (omega arith))))

  points-fractional : {W : ℕ → Type 0} (mask k n : ℕ) → 13 ≤ place → Points place W (fractional mask k n)
  unfolding groups_as
  points-fractional mask k n h =
      let c = coding_of (radix k) in
      points-bind (firm-groups c [] (n / c.group)) (points-groups c [] (n / c.group) (omega (arith, width-of-group (radix k)))) (λ digits.
      points-give (map (λ d. get_or (samples_at mask k) d 0) digits))

  points-plus_minus : {W : ℕ → Type 0} (mask n mark : ℕ) → is_length n ≡ true → Points place W (plus_minus mask n mark)
  points-plus_minus mask n mark l =
      points-then (λ s j. s ≤ 9) (firm-read_tree (tree_of n)) (points-read_tree (tree_of n))
      (λ b i s j v e. tree-gives (λ s. s ≤ 9) (tree_of n) (tree-leaves n l) b i s j e)
      (λ s. record { says = λ b i v k. (rest s v).says b i tt k; past = λ b c i v k. (rest s v).past b c i tt k })
    where
      rest : (s : ℕ) → s ≤ 9 → Points place Any (runs_from n s n n [] >>= (λ flags. give (map (zero_of mask mark) flags)))
      rest s v = points-bind (firm-runs_from n s n n []) (points-runs n s n n [] (length_most n l) v)
          (λ flags. points-give (map (zero_of mask mark) flags))

  pub points-body : {W : ℕ → Type 0} (mask t n : ℕ) → is_length n ≡ true → Points place W (body mask t n)
  unfolding body
  points-body mask t n l =
      points-cond (eqb t 1) (λ e. points-octets_after [] n) (λ e.
      points-cond (eqb t 2) (λ e. points-give (replicate n (plus_zero mask))) (λ e.
      points-cond (eqb t 3) (λ e. points-give (replicate n (minus_zero mask))) (λ e.
      points-cond (eqb t 4) (λ e. points-bind (firm-number_from 0 8) (points-number_from 0 8) (λ x. points-give (replicate n x))) (λ e.
      points-cond (eqb t 5)
      (λ e. points-bind (firm-bits_from [] n) (points-bits_from [] n) (λ flags. points-give (map (zero_of mask 0) flags))) (λ e.
      points-located mask n (length_most n l))))))

  -- the tool is decided by the prefix, so within the first octet and the next
  points-with_tool : (set room t n : ℕ) {r : Reader (List ℕ)} → Firm r → Points place (Between 1 8) r
      → Points place (Between 1 8) (with_tool set room t n r)
  unfolding with_tool
  points-with_tool set room t n g p =
      points-cond (not (holds set t)) (λ e. points-fail 1 8 (Tool t) 0 (λ n h. (refl, h)) (omega arith)) (λ e.
      points-cond (ltb room n) (λ e. points-fail 1 8 Room 0 (λ n h. (refl, h)) (omega arith)) (λ e.
      points-bind g p (λ s.
      points-here (λ bits. points-filled (record { tool = t; samples = s; bits = bits }) (fill_for bits)))))

  pub points-own : (mask set room t n : ℕ) → is_length n ≡ true → Points place (Between 1 8) (with_tool set room t n (body mask t n))
  points-own mask set room t n l = points-with_tool set room t n (firm-body mask t n) (points-body mask t n l)

  pub points-row : (mask set room k n : ℕ) → 13 ≤ place → Points place (Between 1 8) (with_tool set room 11 n (fractional mask k n))
  points-row mask set room k n h = points-with_tool set room 11 n (firm-fractional mask k n) (points-fractional mask k n h)

  pub points-six : (mask set room t n mark : ℕ) → is_length n ≡ true
      → Points place (Between 1 8) (with_tool set room t n (plus_minus mask n mark))
  points-six mask set room t n mark l = points-with_tool set room t n (firm-plus_minus mask n mark) (points-plus_minus mask n mark l)

  pub points-six_not_eight : {W : ℕ → Type 0} → Points place W six_not_eight
  unfolding six_not_eight
  points-six_not_eight =
      points-bind firm-bit points-bit (λ a. points-cond (eqb a 1) (λ t. points-give 6) (λ t.
      points-bind firm-bit points-bit (λ c. points-cond (eqb c 1) (λ t. points-give 6) (λ t. points-give 8))))
