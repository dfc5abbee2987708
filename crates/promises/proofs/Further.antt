-- A reading looks no further than it goes: more bits after those that it had change nothing, unless it was SHORT.
-- And SHORT is only said of a reading that would go past the end.
use Prim.Native.Nat.{ℕ, zero, suc, ◌+◌, ◌*◌, ◌-◌, ◌^◌, ◌/◌, ◌≤◌, ◌<◌}
use native.Mathlib.Omega.{arith}
use native.Mathlib.Nat.{le_trans}
use mathlib.Core.Path.{◌≡◌, refl, sym, ◌∙◌}
use mathlib.Core.List.{List, [], ◌∷◌, ◌++◌, map, append-nil}
use mathlib.Core.Bool.{Bool, true, false, cond, not, ◌&&◌}
use lib.ListN.{length, get_or, take, replicate, length-append, get_or-append}
use lib.Dec.{eqb, leb, ltb}
use borrow.Author.Tests.{lt-ltb, ltb-true, ltb-false}
use Rattle.rules.specs.declared.Refusal.{Refusal}
use Rattle.rules.specs.declared.Refusal.TheVariants.{Short, Align, Run, Place, Method, Case, Tool, Room, Set, Law}
use Rattle.rules.specs.Tools.{holds, is_set, is_law}
use Rattle.rules.specs.Bits.{bits_of, value_from, fill_for}
use Rattle.rules.specs.Reading.{Read, whole, refuse, Reader, and_then, ◌>>=◌, give, fail}
use Rattle.rules.specs.Reading.{here, bit, number_from, number, bits_from, octets_after, filled}
use Rattle.rules.specs.Samples.{mask_of, sample_of, plus_zero, minus_zero}
use Rattle.rules.specs.Runs.{zeros_from, rice, runs_from}
use Rattle.rules.specs.Zeros.{Tree, leaf, fork, tree_of, read_tree, zero_of, plus_minus}
use Rattle.rules.specs.Located.{width_of, listed_from, listed, by_method, empty_in, lay, values_into, values_of, located}
use Rattle.rules.specs.First.{First, unassigned, pad, tool, fractional_row, six_or_eight, first_octet, mark_at, six_not_eight}
use Rattle.rules.specs.Fractional.{radix, Coding, group_of, coding_of, digits_of, groups_from, groups_as, samples_at, fractional}
use Rattle.rules.specs.Frame.{Found, octets_used, body, with_tool, after_first, frame, read_one}
use Rattle.rules.proofs.Accepted.{Steps, through, steps, frame-accepts, read-accepts}
use Rattle.rules.proofs.Octets.{length-bits_of, bits_of-append, bits_of-below}
use Rattle.rules.proofs.Signed.{law-mask}
use Rattle.rules.proofs.Each.{pick-below}
use Rattle.promises.proofs.Frame.{first-eight}
use Rattle.rules.proofs.Gives.{no-refusal, same_place, same-value}
use Rattle.promises.proofs.Reach.{Far, far-bit, far-then, far-cond, far-fail, Near}
use Rattle.promises.proofs.Reach.{near-give, near-bit, near-then, near-cond, near-more}

-- a reading m of bits of which there are n, and m', the same with more bits after them
pub data Goes {A : Type 0} (n : ℕ) (m m' : Read A) : Type 0 where
  short : (at : ℕ) → m ≡ refuse Short at → ((a : A) (j : ℕ) → m' ≡ whole a j → n < j) → Goes n m m'
  same : m' ≡ m → Goes n m m'

pub record Firm {A : Type 0} (p : Reader A) : Type 0 where
  pub onward : (b : List ℕ) (i : ℕ) (a : A) (j : ℕ) → p b i ≡ whole a j → i ≤ j
  pub goes : (b c : List ℕ) (i : ℕ) → Goes (length b) (p b i) (p (b ++ c) i)

pub firm-give : {A : Type 0} (a : A) → Firm (give a)
firm-give a = record { onward = λ b i c j e. omega (arith, same_place e); goes = λ b c i. same refl }

pub firm-fail : {A : Type 0} (w : Refusal) (at : ℕ) → Firm {A = A} (fail w at)
firm-fail w at = record { onward = λ b i c j e. no-refusal e; goes = λ b c i. same refl }

pub firm-here : Firm here
firm-here = record { onward = λ b i c j e. omega (arith, same_place e); goes = λ b c i. same refl }

bit-on : (n v i : ℕ) (t : Bool) {a j : ℕ} → n ≤ i → cond t (whole v (i + 1)) (refuse Short i) ≡ whole a j → n < j
bit-on n v i true h e = omega (arith, same_place e)
bit-on n v i false h e = no-refusal e

bit-goes : (b c : List ℕ) (i : ℕ) (t : Bool) → ltb i (length b) ≡ t
    → Goes (length b) (cond t (whole (get_or b i 0) (i + 1)) (refuse Short i))
    (cond (ltb i (length (b ++ c))) (whole (get_or (b ++ c) i 0) (i + 1)) (refuse Short i))
bit-goes b c i true e =
    let h = ltb-true i (length b) e in
    same (rw (lt-ltb i (length (b ++ c)) (omega (arith, length-append b c)), get_or-append b c 0 i h) refl)
bit-goes b c i false e =
    short i refl (λ a j f. bit-on (length b) (get_or (b ++ c) i 0) i (ltb i (length (b ++ c))) (ltb-false i (length b) e) f)

pub firm-bit : Firm bit
unfolding bit
firm-bit = record {
  onward = λ b i a j e. let h = bit-on i (get_or b i 0) i (ltb i (length b)) (omega arith) e in omega arith;
  goes = λ b c i. bit-goes b c i (ltb i (length b)) refl;
}

bind-onward : {A B : Type 0} {p : Reader A} {f : A → Reader B} → Firm p → ((a : A) → Firm (f a)) → (b : List ℕ) (i k : ℕ) (c : B) (j : ℕ)
    → ((a : A) (l : ℕ) → p b i ≡ whole a l → k ≤ l) → Steps (p b i) (λ a l. f a b l) c j → k ≤ j
bind-onward g h b i k c j at (through a l e d) = le_trans (at a l e) ((h a).onward b l c j d)

bind_goes : {A B : Type 0} {f : A → Reader B} → ((a : A) → Firm (f a)) → (b c : List ℕ) (m : Read A)
    → Goes (length b) (and_then m (λ a l. f a b l)) (and_then m (λ a l. f a (b ++ c) l))
bind_goes h b c (whole a l) = (h a).goes b c l
bind_goes h b c (refuse w at) = same refl

pub firm-bind : {A B : Type 0} {p : Reader A} {f : A → Reader B} → Firm p → ((a : A) → Firm (f a)) → Firm (p >>= f)
firm-bind {A} {B} {p} {f} g h = record {
  onward = λ b i c j e. bind-onward g h b i i c j (λ a l d. g.onward b i a l d) (steps (p b i) (λ a l. f a b l) e);
  goes = λ b c i. go b c i (g.goes b c i);
}
  where
    go : (b c : List ℕ) (i : ℕ) → Goes (length b) (p b i) (p (b ++ c) i)
        → Goes (length b) (and_then (p b i) (λ a l. f a b l)) (and_then (p (b ++ c) i) (λ a l. f a (b ++ c) l))
    go b c i (short at e past) =
        short at (rw e refl)
        (λ a j d. bind-onward g h (b ++ c) i (suc (length b)) a j past (steps (p (b ++ c) i) (λ a l. f a (b ++ c) l) d))
    go b c i (same e) = rw e (bind_goes h b c (p b i))

pub firm-cond : {A : Type 0} {p q : Reader A} (t : Bool) → Firm p → Firm q → Firm (cond t p q)
firm-cond true g h = g
firm-cond false g h = h

-- every reader of a body
pub firm-number_from : (v n : ℕ) → Firm (number_from v n)
unfolding number_from
firm-number_from v zero = firm-give v
firm-number_from v (suc n) = firm-bind firm-bit (λ a. firm-number_from (2 * v + a) n)

pub firm-bits_from : (done : List ℕ) (n : ℕ) → Firm (bits_from done n)
unfolding bits_from
firm-bits_from done zero = firm-give done
firm-bits_from done (suc n) = firm-bind firm-bit (λ a. firm-bits_from (done ++ (a ∷ [])) n)

pub firm-octets_after : (done : List ℕ) (n : ℕ) → Firm (octets_after done n)
unfolding octets_after
firm-octets_after done zero = firm-give done
firm-octets_after done (suc n) = firm-bind (firm-number_from 0 8) (λ x. firm-octets_after (done ++ (x ∷ [])) n)

pub firm-filled : {A : Type 0} (a : A) (n : ℕ) → Firm (filled a n)
unfolding filled
firm-filled a zero = firm-give a
firm-filled a (suc n) = firm-bind firm-here (λ at. firm-bind firm-bit (λ f. firm-cond (eqb f 0) (firm-filled a n) (firm-fail Align at)))

pub firm-zeros_from : (start k left : ℕ) → Firm (zeros_from start k left)
unfolding zeros_from
firm-zeros_from start k zero = firm-fail Run start
firm-zeros_from start k (suc left) = firm-bind firm-bit (λ a. firm-cond (eqb a 1) (firm-give k) (firm-zeros_from start (k + 1) left))

pub firm-rice : (n s : ℕ) → Firm (rice n s)
unfolding rice
firm-rice n s =
    firm-bind firm-here (λ start. firm-bind (firm-zeros_from start 0 (n + 1))
    (λ k. firm-bind (firm-number_from 0 s) (λ low. firm-give (k * 2 ^ s + low))))

pub firm-runs_from : (n s fuel left : ℕ) (done : List ℕ) → Firm (runs_from n s fuel left done)
unfolding runs_from
firm-runs_from n s zero left done = firm-give done
firm-runs_from n s (suc fuel) left done =
    firm-cond (eqb left 0) (firm-give done) (firm-bind firm-here (λ start. firm-bind (firm-rice n s) (λ v.
    firm-cond (ltb left v) (firm-fail Run start) (firm-cond (eqb v left) (firm-give (done ++ replicate v 0))
    (firm-runs_from n s fuel (left - (v + 1)) (done ++ (replicate v 0 ++ (1 ∷ []))))))))

pub firm-read_tree : (t : Tree) → Firm (read_tree t)
unfolding read_tree
firm-read_tree (leaf s) = firm-give s
firm-read_tree (fork z o) = firm-bind firm-bit (λ a. firm-cond (eqb a 1) (firm-read_tree o) (firm-read_tree z))

pub firm-listed_from : (w d : ℕ) (done : List ℕ) (k : ℕ) → Firm (listed_from w d done k)
unfolding listed_from
firm-listed_from w d done zero = firm-give (done ++ replicate (d - length done) 0)
firm-listed_from w d done (suc k) =
    firm-bind firm-here (λ start. firm-bind (firm-number_from 0 w) (λ p. firm-cond (leb (length done) p && ltb p d)
    (firm-listed_from w d (done ++ (replicate (p - length done) 0 ++ (1 ∷ []))) k) (firm-fail Place start)))

pub firm-by_method : (n d start m : ℕ) → Firm (by_method n d start m)
unfolding by_method listed
firm-by_method n d start m =
    firm-cond (eqb m 0) (firm-bits_from [] d)
    (firm-cond (leb m 4) (firm-runs_from n m d d []) (firm-cond (eqb m 5) (firm-give (replicate d 0))
    (firm-cond (eqb m 6) (firm-fail Method start) (firm-bind (firm-number_from 0 2) (λ less. firm-listed_from (width_of d) d [] (less + 1))))))

pub firm-values_into : (n z : ℕ) (xs cells : List ℕ) → Firm (values_into n z xs cells)
unfolding values_into
firm-values_into n z [] cells = firm-give cells
firm-values_into n z (x ∷ xs) cells =
    firm-bind firm-here (λ start. firm-bind (firm-number_from 0 3) (λ m. firm-bind (firm-by_method n (empty_in z cells) start m) (λ flags.
    firm-values_into n z xs (lay z x flags 0 cells))))

pub firm-located : (mask n : ℕ) → Firm (located mask n)
unfolding located
firm-located mask n =
    firm-bind firm-here (λ start. firm-bind (firm-number_from 0 2) (λ c. firm-bind (firm-number_from 0 1) (λ flag.
    firm-cond (eqb (length (values_of n c flag)) 0) (firm-fail Case start)
    (firm-values_into n (plus_zero mask) (map (sample_of mask) (values_of n c flag)) (replicate n (plus_zero mask))))))

pub firm-groups : (c : Coding) (done : List ℕ) (m : ℕ) → Firm (groups_from c done m)
unfolding groups_from
firm-groups c done zero = firm-give done
firm-groups c done (suc m) =
    firm-bind firm-here (λ start. firm-bind (firm-number_from 0 c.bits) (λ v.
    firm-cond (ltb v (c.radix ^ c.group)) (firm-groups c (done ++ digits_of c.radix c.group v) m) (firm-fail Place start)))

pub firm-fractional : (mask k n : ℕ) → Firm (fractional mask k n)
unfolding groups_as
firm-fractional mask k n =
    firm-bind (firm-groups (coding_of (radix k)) [] (n / group_of (radix k)))
    (λ digits. firm-give (map (λ d. get_or (samples_at mask k) d 0) digits))

pub firm-plus_minus : (mask n mark : ℕ) → Firm (plus_minus mask n mark)
firm-plus_minus mask n mark =
    firm-bind (firm-read_tree (tree_of n)) (λ s. firm-bind (firm-runs_from n s n n []) (λ flags. firm-give (map (zero_of mask mark) flags)))

pub firm-body : (mask t n : ℕ) → Firm (body mask t n)
unfolding body
firm-body mask t n =
    firm-cond (eqb t 1) (firm-octets_after [] n)
    (firm-cond (eqb t 2) (firm-give (replicate n (plus_zero mask)))
    (firm-cond (eqb t 3) (firm-give (replicate n (minus_zero mask)))
    (firm-cond (eqb t 4) (firm-bind (firm-number_from 0 8) (λ x. firm-give (replicate n x)))
    (firm-cond (eqb t 5) (firm-bind (firm-bits_from [] n) (λ flags. firm-give (map (zero_of mask 0) flags)))
    (firm-located mask n)))))

pub firm-with_tool : (set room t n : ℕ) {r : Reader (List ℕ)} → Firm r → Firm (with_tool set room t n r)
unfolding with_tool
firm-with_tool set room t n g =
    firm-cond (not (holds set t)) (firm-fail (Tool t) 0) (firm-cond (ltb room n) (firm-fail Room 0)
    (firm-bind g
    (λ s. firm-bind firm-here (λ bits. firm-filled (record { tool = t; samples = s; bits = bits }) (fill_for bits)))))

pub far-firm : {A : Type 0} {p : Reader A} → Firm p → Far 0 p
far-firm g = record { goes = λ b i a j e. omega (arith, g.onward b i a j e) }

-- a code of S has two bits or more
far-fork : (z o : Tree) → Far 1 (read_tree (fork z o))
unfolding read_tree
far-fork z o = far-then 1 0 far-bit (λ a. far-cond 0 (eqb a 1) (far-firm (firm-read_tree o)) (far-firm (firm-read_tree z)))

far-forks : (a b c d : Tree) → Far 2 (read_tree (fork (fork a b) (fork c d)))
unfolding read_tree
far-forks a b c d = far-then 1 1 far-bit (λ x. far-cond 1 (eqb x 1) (far-fork c d) (far-fork a b))

pub far-tree : (n : ℕ) → Far 2 (read_tree (tree_of n))
unfolding tree_of
far-tree n = far-forks _ _ _ _

far-six : (mask set room n mark : ℕ) → Far 2 (with_tool set room 6 n (plus_minus mask n mark))
unfolding with_tool
far-six mask set room n mark =
    far-cond 2 (not (holds set 6)) (far-fail 2 (Tool 6) 0) (far-cond 2 (ltb room n) (far-fail 2 Room 0)
    (far-then 2 0 (far-then 2 0 (far-tree n)
    (λ s. far-firm (firm-bind (firm-runs_from n s n n []) (λ flags. firm-give (map (zero_of mask mark) flags)))))
    (λ s. far-firm (firm-bind firm-here (λ bits. firm-filled (record { tool = 6; samples = s; bits = bits }) (fill_for bits))))))

-- tool 8 is in no set
pub eight-out : (set room n : ℕ) (r : Reader (List ℕ)) (b : List ℕ) (i : ℕ) {f : Found} {j : ℕ} {X : Type 0}
    → with_tool set room 8 n r b i ≡ whole f j → X
unfolding with_tool holds
eight-out set room n r b i e = no-refusal e

pub firm-six : Firm six_not_eight
unfolding six_not_eight
firm-six = firm-bind firm-bit
    (λ a. firm-cond (eqb a 1) (firm-give 6) (firm-bind firm-bit (λ b. firm-cond (eqb b 1) (firm-give 6) (firm-give 8))))

-- the tool is 6 or 8, decided by two bits at most
pub data SixOrEight : ℕ → Type 0 where
  six : SixOrEight 6
  eight : SixOrEight 8

pub six-or-eight : (b : List ℕ) (i t k : ℕ) → six_not_eight b i ≡ whole t k → SixOrEight t
unfolding six_not_eight
six-or-eight b i t k e = go (steps (bit b i) (λ a l. cond (eqb a 1) (give 6) (bit >>= (λ c. cond (eqb c 1) (give 6) (give 8))) b l) e)
  where
    last : (x : Bool) (m : ℕ) → cond x (give 6) (give 8) b m ≡ whole t k → SixOrEight t
    last true m d = rw (← (same-value d)) six
    last false m d = rw (← (same-value d)) eight

    second : (m : ℕ) → Steps (bit b m) (λ c l. cond (eqb c 1) (give 6) (give 8) b l) t k → SixOrEight t
    second m (through c l q d) = last (eqb c 1) l d

    first : (x : Bool) (l : ℕ) → cond x (give 6) (bit >>= (λ c. cond (eqb c 1) (give 6) (give 8))) b l ≡ whole t k → SixOrEight t
    first true l d = rw (← (same-value d)) six
    first false l d = second l (steps (bit b l) (λ c l. cond (eqb c 1) (give 6) (give 8) b l) d)

    go : Steps (bit b i) (λ a l. cond (eqb a 1) (give 6) (bit >>= (λ c. cond (eqb c 1) (give 6) (give 8))) b l) t k → SixOrEight t
    go (through a l q d) = first (eqb a 1) l d

pub near-six : Near 2 six_not_eight
unfolding six_not_eight
near-six = near-then 1 1 near-bit
    (λ a. near-cond 1 (eqb a 1) (near-more 0 1 (omega arith) (near-give 6))
    (near-then 1 0 near-bit (λ b. near-cond 0 (eqb b 1) (near-give 6) (near-give 8))))

-- where a tool 6 or 8 is accepted, the bits that decided it are within it
six-within : (mask set room n mark : ℕ) (b : List ℕ) (i : ℕ) {t k : ℕ} → six_not_eight b i ≡ whole t k → SixOrEight t → {f : Found} {j : ℕ}
    → with_tool set room t n (plus_minus mask n mark) b i ≡ whole f j → k ≤ j
six-within mask set room n mark b i {t} {k} e six {f} {j} d =
    omega (arith, near-six.goes b i t k e, (far-six mask set room n mark).goes b i f j d)
six-within mask set room n mark b i e eight d = eight-out set room n (plus_minus mask n mark) b i d

-- a bit that is there is the same with more after it
pub bit-there : (b c : List ℕ) (i : ℕ) → i < length b
    → (bit b i ≡ whole (get_or b i 0) (i + 1)) × (bit (b ++ c) i ≡ whole (get_or b i 0) (i + 1))
unfolding bit
bit-there b c i h = (
  rw (lt-ltb i (length b) h) refl,
  rw (lt-ltb i (length (b ++ c)) (omega (arith, length-append b c)), get_or-append b c 0 i h) refl,
)

pub mark-first : (n : ℕ) → mark_at n < 7
mark-first n = pick-below (leb 240 n) 6 4 (omega arith) (omega arith)

-- once the mark is read
six-goes : (mask set room n mark : ℕ) (b c : List ℕ) (i : ℕ)
    → Goes (length b) (and_then (six_not_eight b i) (λ t k. with_tool set room t n (plus_minus mask n mark) b i))
    (and_then (six_not_eight (b ++ c) i) (λ t k. with_tool set room t n (plus_minus mask n mark) (b ++ c) i))
six-goes mask set room n mark b c i = go (firm-six.goes b c i)
  where
    late : {f : Found} {j : ℕ} → ((t k : ℕ) → six_not_eight (b ++ c) i ≡ whole t k → length b < k)
        → Steps (six_not_eight (b ++ c) i) (λ t k. with_tool set room t n (plus_minus mask n mark) (b ++ c) i) f j → length b < j
    late past (through t k e d) = le_trans (past t k e) (six-within mask set room n mark (b ++ c) i e (six-or-eight (b ++ c) i t k e) d)

    on : (m : Read ℕ) → Goes (length b) (and_then m (λ t k. with_tool set room t n (plus_minus mask n mark) b i))
        (and_then m (λ t k. with_tool set room t n (plus_minus mask n mark) (b ++ c) i))
    on (whole t k) = (firm-with_tool set room t n (firm-plus_minus mask n mark)).goes b c i
    on (refuse w at) = same refl

    go : Goes (length b) (six_not_eight b i) (six_not_eight (b ++ c) i)
        → Goes (length b) (and_then (six_not_eight b i) (λ t k. with_tool set room t n (plus_minus mask n mark) b i))
        (and_then (six_not_eight (b ++ c) i) (λ t k. with_tool set room t n (plus_minus mask n mark) (b ++ c) i))
    go (short at e past) =
        short at (rw e refl) (λ f j d. late past (steps (six_not_eight (b ++ c) i) (λ t k. with_tool set room t n (plus_minus mask n mark) (b ++ c) i) d))
    go (same e) = rw e (on (six_not_eight b i))

-- what the first octet begins
after-goes : (mask set room : ℕ) (first : First) (b c : List ℕ) → 8 ≤ length b
    → Goes (length b) (after_first mask set room first b 8) (after_first mask set room first (b ++ c) 8)
unfolding after_first
after-goes mask set room unassigned b c h = same refl
after-goes mask set room pad b c h = same refl
after-goes mask set room (tool t n) b c h = (firm-with_tool set room t n (firm-body mask t n)).goes b c 8
after-goes mask set room (fractional_row k n) b c h = (firm-with_tool set room 11 n (firm-fractional mask k n)).goes b c 8
after-goes mask set room (six_or_eight n) b c h =
    let m = bit-there b c (mark_at n) (omega (arith, mark-first n)) in
    rw (m.0, m.1) (six-goes mask set room n (get_or b (mark_at n) 0) b c (mark_at n + 1))

frame-goes : (mask set room : ℕ) (b c : List ℕ) → 8 ≤ length b → Goes (length b) (frame mask set room b 0) (frame mask set room (b ++ c) 0)
unfolding frame
frame-goes mask set room b c h =
    let e : number 8 b 0 ≡ whole (value_from 0 (take 8 b)) 8 = rw (append-nil b) at (first-eight b [] h) in
    rw (e, first-eight b c h) (after-goes mask set room (first_octet (value_from 0 (take 8 b))) b c h)

-- of octets: none, or some
pub nothing-short : (mask set room : ℕ) → frame mask set room (bits_of []) 0 ≡ refuse Short 0
unfolding frame number_from bit bits_of
nothing-short mask set room = refl

octets-go : (law set room : ℕ) (x y : List ℕ) → Goes (8 * length x) (frame (mask_of law) set room (bits_of x) 0)
    (frame (mask_of law) set room (bits_of (x ++ y)) 0)
octets-go law set room [] y =
    short 0 (nothing-short (mask_of law) set room)
    (λ f j e. let a = frame-accepts (law-mask law) set room (bits_of-below y) e in omega (arith, a.octets, a.some))
octets-go law set room (o ∷ x) y =
    rw (← (length-bits_of (o ∷ x)), bits_of-append (o ∷ x) y)
    (frame-goes (mask_of law) set room (bits_of (o ∷ x)) (bits_of y) (omega (arith, length-bits_of (o ∷ x))))

goes-test : {A : Type 0} (n : ℕ) (t : Bool) (w : Refusal) (p : Reader A) (b c : List ℕ) → Goes n (p b 0) (p c 0)
    → Goes n (cond t (fail w 0) p b 0) (cond t (fail w 0) p c 0)
goes-test n true w p b c g = same refl
goes-test n false w p b c g = g

pub read_goes : (x y : List ℕ) (law set room : ℕ) → Goes (8 * length x) (read_one x law set room) (read_one (x ++ y) law set room)
unfolding read_one
read_goes x y law set room =
    let p = frame (mask_of law) set room in
    goes-test (8 * length x) (not (is_law law)) Law (cond (not (is_set set)) (fail Set 0) p) (bits_of x) (bits_of (x ++ y))
    (goes-test (8 * length x) (not (is_set set)) Set p (bits_of x) (bits_of (x ++ y)) (octets-go law set room x y))

-- Looks no further: what is not SHORT stays, whatever follows
pub looks-no-further : (x y : List ℕ) (law set room : ℕ) → ((at : ℕ) → read_one x law set room ≡ refuse Short at → ⊥)
    → read_one (x ++ y) law set room ≡ read_one x law set room
looks-no-further x y law set room h = go (read_goes x y law set room)
  where
    go : Goes (8 * length x) (read_one x law set room) (read_one (x ++ y) law set room)
        → read_one (x ++ y) law set room ≡ read_one x law set room
    go (short at e past) = absurd (h at e)
    go (same e) = e

-- and a frame is read from its own octets alone
pub cut : (x y : List ℕ) (law set room : ℕ) {f : Found} {j : ℕ} → read_one (x ++ y) law set room ≡ whole f j
    → octets_used f ≤ length x → read_one x law set room ≡ whole f j
cut x y law set room {f} {j} e h = go (read_goes x y law set room)
  where
    go : Goes (8 * length x) (read_one x law set room) (read_one (x ++ y) law set room) → read_one x law set room ≡ whole f j
    go (short at d past) = let a = read-accepts (x ++ y) law set room e in absurd (omega (arith, past f j e, a.octets))
    go (same d) = sym d ∙ e
