-- Which refusals a reader gives at all: K holds of each (`Only K p`), built as readers are, step by step.
--   only-body, only-with_tool, only-frame: of a frame.      tool-lacks: TOOL is given of a tool that the set lacks, and of no other.
use Prim.Native.Nat.{ℕ, zero, suc, ◌+◌, ◌*◌, ◌-◌, ◌^◌, ◌/◌}
use mathlib.Core.Path.{◌≡◌, refl, sym, subst}
use mathlib.Core.List.{List, [], ◌∷◌, ◌++◌, map}
use mathlib.Core.Bool.{Bool, true, false, cond, not, ◌&&◌}
use native.Mathlib.Omega.{arith}
use lib.ListN.{length, get_or, replicate}
use lib.Dec.{eqb, leb, ltb}
use borrow.Author.Tests.{not-true}
use Rattle.rules.specs.declared.Refusal.{Refusal}
use Rattle.rules.specs.declared.Refusal.TheVariants.{Short, Prefix, Tool, Room, Case, Method, Run, Place, Align, Length, Set, Law, Long}
use Rattle.rules.specs.Tools.{holds, is_set, is_law}
use Rattle.rules.specs.Bits.{bits_of, fill_for}
use Rattle.rules.specs.Reading.{Read, whole, refuse, Reader, and_then, ◌>>=◌, give, fail, here, from, bit, number_from, bits_from, octets_after, filled}
use Rattle.rules.specs.Samples.{mask_of, sample_of, plus_zero, minus_zero}
use Rattle.rules.specs.Runs.{zeros_from, rice, runs_from}
use Rattle.rules.specs.Zeros.{Tree, leaf, fork, tree_of, read_tree, zero_of, plus_minus}
use Rattle.rules.specs.Located.{width_of, listed_from, listed, by_method, empty_in, lay, values_into, values_of, located}
use Rattle.rules.specs.Fractional.{radix, Coding, coding_of, digits_of, groups_from, groups_as, samples_at, fractional}
use Rattle.rules.specs.First.{First, unassigned, pad, tool, fractional_row, six_or_eight, first_octet, mark_at, six_not_eight}
use Rattle.rules.specs.Frame.{body, with_tool, after_first, frame, read_one}
use Rattle.rules.proofs.Gives.{no-refusal, same-refusal}

-- inversion: where a reading of two steps is refused
pub data Stops {A B : Type 0} (m : Read A) (f : A → ℕ → Read B) (w : Refusal) (at : ℕ) : Type 0 where
  at_once : m ≡ refuse w at → Stops m f w at
  behind : (a : A) (k : ℕ) → m ≡ whole a k → f a k ≡ refuse w at → Stops m f w at

pub same-refused : {A B : Type 0} {w u : Refusal} {i j : ℕ} → ◌≡◌ {A = Read B} (refuse w i) (refuse u j)
    → ◌≡◌ {A = Read A} (refuse w i) (refuse u j)
same-refused {A} e = cc

pub stops : {A B : Type 0} (m : Read A) (f : A → ℕ → Read B) {w : Refusal} {at : ℕ} → and_then m f ≡ refuse w at → Stops m f w at
stops (whole a k) f e = behind a k refl e
stops (refuse u x) f e = at_once (same-refused e)

pub record Only {A : Type 0} (K : Refusal → Type 0) (p : Reader A) : Type 0 where
  pub says : (b : List ℕ) (i : ℕ) (w : Refusal) (at : ℕ) → p b i ≡ refuse w at → K w

pub only-give : {A : Type 0} {K : Refusal → Type 0} (a : A) → Only K (give a)
only-give a = record { says = λ b i w at e. no-refusal (sym e) }

pub only_here : {K : Refusal → Type 0} → Only K here
only_here = record { says = λ b i w at e. no-refusal (sym e) }

pub only-fail : {A : Type 0} {K : Refusal → Type 0} (w : Refusal) (at : ℕ) → K w → Only {A = A} K (fail w at)
only-fail {K = K} w at k = record { says = λ b i u j e. subst K (same-refusal e) k }

pub only-bind : {A B : Type 0} {K : Refusal → Type 0} {p : Reader A} {f : A → Reader B} → Only K p → ((a : A) → Only K (f a))
    → Only K (p >>= f)
only-bind {A} {B} {K} {p} {f} g h = record { says = λ b i w at e. go b i w at (stops (p b i) (λ a j. f a b j) e) }
  where
    go : (b : List ℕ) (i : ℕ) (w : Refusal) (at : ℕ) → Stops (p b i) (λ a j. f a b j) w at → K w
    go b i w at (at_once e) = g.says b i w at e
    go b i w at (behind a k q e) = (h a).says b k w at e

pub only-cond : {A : Type 0} {K : Refusal → Type 0} {p q : Reader A} (t : Bool) → (t ≡ true → Only K p) → (t ≡ false → Only K q)
    → Only K (cond t p q)
only-cond true g h = g refl
only-cond false g h = h refl

pub only-from : {A : Type 0} {K : Refusal → Type 0} {p : Reader A} (at : ℕ) → Only K p → Only K (from at p)
only-from at g = record { says = λ b i w x e. g.says b at w x e }

bit-refused : (K : Refusal → Type 0) → K Short → (v i : ℕ) (t : Bool) {w : Refusal} {at : ℕ}
    → cond t (whole v (i + 1)) (refuse Short i) ≡ refuse w at → K w
bit-refused K k v i true e = no-refusal (sym e)
bit-refused K k v i false e = subst K (same-refusal e) k

pub only-bit : {K : Refusal → Type 0} → K Short → Only K bit
unfolding bit
only-bit {K} k = record { says = λ b i w at e. bit-refused K k (get_or b i 0) i (ltb i (length b)) e }

-- Every reader of a body
pub only-number_from : {K : Refusal → Type 0} → K Short → (v n : ℕ) → Only K (number_from v n)
unfolding number_from
only-number_from k v zero = only-give v
only-number_from k v (suc n) = only-bind (only-bit k) (λ a. only-number_from k (2 * v + a) n)

pub only-bits_from : {K : Refusal → Type 0} → K Short → (done : List ℕ) (n : ℕ) → Only K (bits_from done n)
unfolding bits_from
only-bits_from k done zero = only-give done
only-bits_from k done (suc n) = only-bind (only-bit k) (λ a. only-bits_from k (done ++ (a ∷ [])) n)

pub only-octets_after : {K : Refusal → Type 0} → K Short → (done : List ℕ) (n : ℕ) → Only K (octets_after done n)
unfolding octets_after
only-octets_after k done zero = only-give done
only-octets_after k done (suc n) = only-bind (only-number_from k 0 8) (λ x. only-octets_after k (done ++ (x ∷ [])) n)

pub only-read_tree : {K : Refusal → Type 0} → K Short → (t : Tree) → Only K (read_tree t)
unfolding read_tree
only-read_tree k (leaf s) = only-give s
only-read_tree k (fork z o) =
    only-bind (only-bit k) (λ a. only-cond (eqb a 1) (λ t. only-read_tree k o) (λ t. only-read_tree k z))

pub only-zeros_from : {K : Refusal → Type 0} → K Short → K Run → (start k left : ℕ) → Only K (zeros_from start k left)
unfolding zeros_from
only-zeros_from s r start k zero = only-fail Run start r
only-zeros_from s r start k (suc left) =
    only-bind (only-bit s) (λ a. only-cond (eqb a 1) (λ t. only-give k) (λ t. only-zeros_from s r start (k + 1) left))

pub only-rice : {K : Refusal → Type 0} → K Short → K Run → (n p : ℕ) → Only K (rice n p)
unfolding rice
only-rice s r n p =
    only-bind only_here (λ start. only-bind (only-zeros_from s r start 0 (n + 1))
    (λ k. only-bind (only-number_from s 0 p) (λ low. only-give (k * 2 ^ p + low))))

pub only-runs_from : {K : Refusal → Type 0} → K Short → K Run → (n p fuel left : ℕ) (done : List ℕ) → Only K (runs_from n p fuel left done)
unfolding runs_from
only-runs_from s r n p zero left done = only-give done
only-runs_from s r n p (suc fuel) left done =
    only-cond (eqb left 0) (λ t. only-give done) (λ t. only-bind only_here (λ start. only-bind (only-rice s r n p) (λ v.
    only-cond (ltb left v) (λ t. only-fail Run start r) (λ t. only-cond (eqb v left) (λ t. only-give (done ++ replicate v 0)) (λ t.
    only-runs_from s r n p fuel (left - (v + 1)) (done ++ (replicate v 0 ++ (1 ∷ []))))))))

pub only-listed_from : {K : Refusal → Type 0} → K Short → K Place → (w d : ℕ) (done : List ℕ) (k : ℕ) → Only K (listed_from w d done k)
unfolding listed_from
only-listed_from s p w d done zero = only-give (done ++ replicate (d - length done) 0)
only-listed_from s p w d done (suc k) =
    only-bind only_here (λ start. only-bind (only-number_from s 0 w) (λ x. only-cond (leb (length done) x && ltb x d)
    (λ t. only-listed_from s p w d (done ++ (replicate (x - length done) 0 ++ (1 ∷ []))) k) (λ t. only-fail Place start p)))

pub only-groups : {K : Refusal → Type 0} → K Short → K Place → (c : Coding) (done : List ℕ) (m : ℕ) → Only K (groups_from c done m)
unfolding groups_from
only-groups s p c done zero = only-give done
only-groups s p c done (suc m) =
    only-bind only_here (λ start. only-bind (only-number_from s 0 c.bits) (λ v. only-cond (ltb v (c.radix ^ c.group))
    (λ t. only-groups s p c (done ++ digits_of c.radix c.group v) m) (λ t. only-fail Place start p)))

pub only-fractional : {K : Refusal → Type 0} → K Short → K Place → (mask k n : ℕ) → Only K (fractional mask k n)
unfolding groups_as
only-fractional s p mask k n =
    let c = coding_of (radix k) in
    only-bind (only-groups s p c [] (n / c.group)) (λ digits. only-give (map (λ d. get_or (samples_at mask k) d 0) digits))

pub only-filled : {A : Type 0} {K : Refusal → Type 0} → K Short → K Align → (a : A) (n : ℕ) → Only K (filled a n)
unfolding filled
only-filled s r a zero = only-give a
only-filled s r a (suc n) =
    only-bind only_here (λ at. only-bind (only-bit s) (λ f. only-cond (eqb f 0) (λ t. only-filled s r a n) (λ t. only-fail Align at r)))

-- what a body, and the filling bits, are refused with
pub record Bodily (K : Refusal → Type 0) : Type 0 where
  pub short : K Short
  pub case : K Case
  pub method : K Method
  pub run : K Run
  pub place : K Place
  pub align : K Align

pub only-by_method : {K : Refusal → Type 0} → K Short → K Method → K Run → K Place → (n d start m : ℕ) → Only K (by_method n d start m)
unfolding by_method listed
only-by_method s t r p n d start m =
    only-cond (eqb m 0) (λ e. only-bits_from s [] d) (λ e.
    only-cond (leb m 4) (λ e. only-runs_from s r n m d d []) (λ e.
    only-cond (eqb m 5) (λ e. only-give (replicate d 0)) (λ e.
    only-cond (eqb m 6) (λ e. only-fail Method start t) (λ e.
    only-bind (only-number_from s 0 2) (λ less. only-listed_from s p (width_of d) d [] (less + 1))))))

pub only-values_into : {K : Refusal → Type 0} → K Short → K Method → K Run → K Place → (n z : ℕ) (xs cells : List ℕ)
    → Only K (values_into n z xs cells)
unfolding values_into
only-values_into s t r p n z [] cells = only-give cells
only-values_into s t r p n z (x ∷ xs) cells =
    only-bind only_here (λ start. only-bind (only-number_from s 0 3) (λ m.
    only-bind (only-by_method s t r p n (empty_in z cells) start m) (λ flags.
    only-values_into s t r p n z xs (lay z x flags 0 cells))))

pub only-located : {K : Refusal → Type 0} → Bodily K → (mask n : ℕ) → Only K (located mask n)
unfolding located
only-located k mask n =
    only-bind only_here (λ start. only-bind (only-number_from k.short 0 2) (λ c. only-bind (only-number_from k.short 0 1) (λ flag.
    only-cond (eqb (length (values_of n c flag)) 0) (λ t. only-fail Case start k.case)
    (λ t. only-values_into k.short k.method k.run k.place n (plus_zero mask) (map (sample_of mask) (values_of n c flag))
    (replicate n (plus_zero mask))))))

pub only-plus_minus : {K : Refusal → Type 0} → K Short → K Run → (mask n mark : ℕ) → Only K (plus_minus mask n mark)
only-plus_minus s r mask n mark =
    only-bind (only-read_tree s (tree_of n)) (λ p.
    only-bind (only-runs_from s r n p n n []) (λ flags. only-give (map (zero_of mask mark) flags)))

pub only-body : {K : Refusal → Type 0} → Bodily K → (mask t n : ℕ) → Only K (body mask t n)
unfolding body
only-body k mask t n =
    let s = k.short in
    only-cond (eqb t 1) (λ e. only-octets_after s [] n) (λ e.
    only-cond (eqb t 2) (λ e. only-give (replicate n (plus_zero mask))) (λ e.
    only-cond (eqb t 3) (λ e. only-give (replicate n (minus_zero mask))) (λ e.
    only-cond (eqb t 4) (λ e. only-bind (only-number_from s 0 8) (λ x. only-give (replicate n x))) (λ e.
    only-cond (eqb t 5)
    (λ e. only-bind (only-bits_from s [] n) (λ flags. only-give (map (zero_of mask 0) flags))) (λ e.
    only-located k mask n)))))

-- the tool is decided: TOOL where the set lacks it, ROOM, the body and the filling bits
pub only-with_tool : {K : Refusal → Type 0} (set room t n : ℕ) {r : Reader (List ℕ)} → (holds set t ≡ false → K (Tool t)) → K Room → K Short → K Align
    → Only K r → Only K (with_tool set room t n r)
unfolding with_tool
only-with_tool set room t n k r s a h =
    only-cond (not (holds set t)) (λ e. only-fail (Tool t) 0 (k (not-true (holds set t) e))) (λ e.
    only-cond (ltb room n) (λ e. only-fail Room 0 r) (λ e.
    only-bind h (λ s'. only-bind only_here (λ bits. only-filled s a (record { tool = t; samples = s'; bits = bits }) (fill_for bits)))))

pub only-six : {K : Refusal → Type 0} → K Short → Only K six_not_eight
unfolding six_not_eight
only-six s =
    only-bind (only-bit s) (λ a. only-cond (eqb a 1) (λ t. only-give 6) (λ t.
    only-bind (only-bit s) (λ c. only-cond (eqb c 1) (λ t. only-give 6) (λ t. only-give 8))))

only-after_first : {K : Refusal → Type 0} → Bodily K → K Prefix → K Room → (mask set room : ℕ)
    → ((t : ℕ) → holds set t ≡ false → K (Tool t)) → (first : First) → Only K (after_first mask set room first)
unfolding after_first
only-after_first k p r mask set room h unassigned = only-fail Prefix 0 p
only-after_first k p r mask set room h pad = only-give (record { tool = 0; samples = []; bits = 8 })
only-after_first k p r mask set room h (tool t n) =
    only-with_tool set room t n (h t) r k.short k.align (only-body k mask t n)
only-after_first k p r mask set room h (fractional_row row n) =
    only-with_tool set room 11 n (h 11) r k.short k.align (only-fractional k.short k.place mask row n)
only-after_first k p r mask set room h (six_or_eight n) =
    only-from (mark_at n) (only-bind (only-bit k.short) (λ mark. only-bind (only-six k.short) (λ t.
    only-from (mark_at n + 1) (only-with_tool set room t n (h t) r k.short k.align (only-plus_minus k.short k.run mask n mark)))))

pub only-frame : {K : Refusal → Type 0} → Bodily K → K Prefix → K Room → (mask set room : ℕ)
    → ((t : ℕ) → holds set t ≡ false → K (Tool t)) → Only K (frame mask set room)
unfolding frame
only-frame k p r mask set room h =
    only-bind (only-number_from k.short 0 8) (λ o. only-after_first k p r mask set room h (first_octet o))

-- what a refused reading has passed, if LAW and SET are not what it was refused with
pub record Asked (octets : List ℕ) (law set room : ℕ) (w : Refusal) (at : ℕ) : Type 0 where
  pub lawful : is_law law ≡ true
  pub small : is_set set ≡ true
  pub framed : frame (mask_of law) set room (bits_of octets) 0 ≡ refuse w at

pub asked : (octets : List ℕ) (law set room : ℕ) (w : Refusal) (at : ℕ) → (w ≡ Law → ⊥) → (w ≡ Set → ⊥)
    → read_one octets law set room ≡ refuse w at → Asked octets law set room w at
unfolding read_one
asked octets law set room w at x y e = one (is_law law) refl (is_set set) refl e
  where
    one : (l : Bool) → is_law law ≡ l → (s : Bool) → is_set set ≡ s
        → cond (not l) (fail Law 0) (cond (not s) (fail Set 0) (frame (mask_of law) set room)) (bits_of octets) 0 ≡ refuse w at
        → Asked octets law set room w at
    one false l s t d = absurd (x (sym (same-refusal d)))
    one true l false t d = absurd (y (sym (same-refusal d)))
    one true l true t d = record { lawful = l; small = t; framed = d }

-- TOOL is given of a tool that the set lacks
abbrev Lacks : ℕ → Refusal → Type 0
Lacks set (Tool t) = holds set t ≡ false
Lacks set Short = Unit {0}
Lacks set Prefix = Unit {0}
Lacks set Room = Unit {0}
Lacks set Case = Unit {0}
Lacks set Method = Unit {0}
Lacks set Run = Unit {0}
Lacks set Place = Unit {0}
Lacks set Align = Unit {0}
Lacks set Length = Unit {0}
Lacks set Set = Unit {0}
Lacks set Law = Unit {0}
Lacks set Long = Unit {0}

pub tool-lacks : (octets : List ℕ) (law set room t at : ℕ) → read_one octets law set room ≡ refuse (Tool t) at → holds set t ≡ false
tool-lacks octets law set room t at e =
    let a = asked octets law set room (Tool t) at (λ q. let z : ◌≡◌ {A = ℕ} 0 1 = cc in omega arith)
    (λ q. let z : ◌≡◌ {A = ℕ} 0 1 = cc in omega arith) e in
    (other (mask_of law)).says (bits_of octets) 0 (Tool t) at a.framed
  where
    other : (mask : ℕ) → Only (Lacks set) (frame mask set room)
    other mask =
        only-frame (record { short = tt; case = tt; method = tt; run = tt; place = tt; align = tt }) tt tt mask set room (λ t h. h)
