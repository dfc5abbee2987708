-- What an inner reader gives: its next place is not before the last one and not past the end, and its value has its range.
-- `Gives p Q` is built as readers are, step by step.
use Prim.Native.Nat.{ℕ, zero, suc, ◌+◌, ◌*◌, ◌-◌, ◌^◌, ◌≤◌, ◌<◌, zero-le}
use mathlib.Core.Path.{◌≡◌, refl, sym, subst, ◌∙◌}
use mathlib.Core.List.{List, [], ◌∷◌, ◌++◌}
use mathlib.Core.Bool.{Bool, true, false, cond, ◌&&◌}
use native.Mathlib.Omega.{arith}
use native.Mathlib.Nat.{le_refl, zero-mul, suc-mul, lt_of_lt_of_le, mul-le-mul_right, pow-suc, one-mul, add-zero, zero-add, add-mul}
use lib.Dec.{eqb, leb, ltb, lit<}
use lib.Arith.{digits_lt}
use lib.ListN.{length, get_or, replicate, length-append, length-replicate}
use borrow.Author.Tests.{ltb-true, ltb-false, leb-true, eqb-true, eqb-false}
use Rattle.rules.specs.declared.Refusal.{Refusal}
use Rattle.rules.specs.declared.Refusal.TheVariants.{Short, Run, Method, Place}
use Rattle.rules.specs.Reading.{Read, whole, refuse, Reader, and_then, ◌>>=◌, give}
use Rattle.rules.specs.Reading.{fail, here, bit, number_from, number, bits_from, octets_after}
use Rattle.rules.specs.Runs.{zeros_from, rice, runs_from}
use Rattle.rules.specs.Zeros.{Tree, leaf, fork, read_tree}
use Rattle.rules.specs.Located.{width_of, listed_from, listed, by_method, empty_in, lay, values_into}
use Rattle.rules.specs.Fractional.{Coding, digits_of, groups_from}
use Rattle.rules.proofs.Octets.{moved_up, Below, none, more, Sized, below_at, below-append, below-replicate}
use Rattle.rules.proofs.Located.{lay-sized}
use Rattle.rules.proofs.Fractional.{length_digits}
use Rattle.rules.proofs.Tests.{and_left, and_right}

pub record Gives {A : Type 0} (p : Reader A) (Q : A → Type 0) : Type 0 where
  pub on : {b : List ℕ} {i : ℕ} {a : A} {j : ℕ} → Below 2 b → i ≤ length b → p b i ≡ whole a j → (i ≤ j) × (j ≤ length b) × Q a

-- a reading that is whole is no refusal, and tells its value and its place
pub no-refusal : {A : Type 0} {X : Type 0} {w : Refusal} {at : ℕ} {a : A} {j : ℕ} → ◌≡◌ {A = Read A} (refuse w at) (whole a j) → X
no-refusal e = let z : ◌≡◌ {A = ℕ} 0 1 = cc in absurd (omega arith)

pub same-refusal : {A : Type 0} {w u : Refusal} {i j : ℕ} → ◌≡◌ {A = Read A} (refuse w i) (refuse u j) → w ≡ u
same-refusal e = cc

pub same-value : {A : Type 0} {a c : A} {i j : ℕ} → ◌≡◌ {A = Read A} (whole a i) (whole c j) → a ≡ c
same-value e = cc

pub same_place : {A : Type 0} {a c : A} {i j : ℕ} → ◌≡◌ {A = Read A} (whole a i) (whole c j) → i ≡ j
same_place e = cc

pub gives-give : {A : Type 0} {Q : A → Type 0} (a : A) → Q a → Gives (give a) Q
gives-give {Q = Q} a q =
    record { on = λ z h e. let s = same_place e in (omega arith, omega arith, subst Q (same-value e) q) }

pub gives-fail : {A : Type 0} {Q : A → Type 0} (w : Refusal) (at : ℕ) → Gives {A = A} (fail w at) Q
gives-fail w at = record { on = λ z h e. no-refusal e }

pub gives-here : Gives here (λ i. Unit {0})
gives-here = record { on = λ z h e. let s = same_place e in (omega arith, omega arith, tt) }

pub gives-bit : Gives bit (λ a. a < 2)
unfolding bit
gives-bit = record { on = λ {b} {i} {a} {j} z h e. go b i a j z h (ltb i (length b)) refl e }
  where
    go : (b : List ℕ) (i a j : ℕ) → Below 2 b → i ≤ length b → (t : Bool) → ltb i (length b) ≡ t
        → cond t (whole (get_or b i 0) (i + 1)) (refuse Short i) ≡ whole a j → (i ≤ j) × (j ≤ length b) × (a < 2)
    go b i a j z h true t e =
        let s = same_place e in
        let v = same-value e in
        let l = ltb-true i (length b) t in
        (omega arith, omega arith, subst (λ (x : ℕ). x < 2) v (below_at z (lit< tt) i))
    go b i a j z h false t e = no-refusal e

pub gives-bind : {A B : Type 0} {p : Reader A} {Q : A → Type 0} {f : A → Reader B} {R : B → Type 0}
    → Gives p Q → ((a : A) → Q a → Gives (f a) R) → Gives (p >>= f) R
gives-bind {A} {B} {p} {Q} {f} {R} g k = record { on = λ {b} {i} {a} {j} z h e. go b i a j z h (p b i) refl e }
  where
    go : (b : List ℕ) (i : ℕ) (c : B) (j : ℕ) → Below 2 b → i ≤ length b → (m : Read A) → p b i ≡ m
        → and_then m (λ a l. f a b l) ≡ whole c j → (i ≤ j) × (j ≤ length b) × R c
    go b i c j z h (whole a l) q e =
        let s = g.on z h q in
        let t = (k a s.2).on z s.1 e in
        (omega arith, t.1, t.2)
    go b i c j z h (refuse w at) q e = no-refusal e

pub gives-cond : {A : Type 0} {p q : Reader A} {Q : A → Type 0} (t : Bool) → (t ≡ true → Gives p Q) → (t ≡ false → Gives q Q)
    → Gives (cond t p q) Q
gives-cond true g h = g refl
gives-cond false g h = h refl

pub gives_as : {A : Type 0} {p : Reader A} {Q R : A → Type 0} → ((a : A) → Q a → R a) → Gives p Q → Gives p R
gives_as f g = record { on = λ z h e. let s = g.on z h e in (s.0, s.1, f _ s.2) }

-- numbers
room_for : (v a n : ℕ) → a < 2 → (2 * v + a + 1) * 2 ^ n ≤ (v + 1) * 2 ^ suc n
room_for v a n h =
    let e : (v + 1) * (2 ^ n * 2) ≡ (2 * v + 2) * 2 ^ n = omega (arith, add-mul v 1 (2 ^ n * 2), moved_up v 2 (2 ^ n)) in
    rw (pow-suc, e) (mul-le-mul_right (2 ^ n) (omega arith))

pub gives-number_from : (v n : ℕ) → Gives (number_from v n) (λ x. x < (v + 1) * 2 ^ n)
unfolding number_from
gives-number_from v zero = gives-give v (omega arith)
gives-number_from v (suc n) =
    gives-bind gives-bit (λ a h. gives_as (λ x l. lt_of_lt_of_le l (room_for v a n h)) (gives-number_from (2 * v + a) n))

pub gives-number : (n : ℕ) → Gives (number n) (λ x. x < 2 ^ n)
gives-number n = gives_as (λ x l. rw (one-mul (2 ^ n)) at l) (gives-number_from 0 n)

pub gives-bits_from : (done : List ℕ) (n : ℕ) → Below 2 done → Gives (bits_from done n) (Sized 2 (length done + n))
unfolding bits_from
gives-bits_from done zero d = gives-give done (record { size = sym (add-zero (length done)); below = d })
gives-bits_from done (suc n) d =
    gives-bind gives-bit (λ a h. gives_as
    (λ l s. record { size = s.size ∙ simp length-append (omega arith); below = s.below })
    (gives-bits_from (done ++ (a ∷ [])) n (below-append d (more h none))))

pub gives-octets_after : (done : List ℕ) (n : ℕ) → Below 256 done → Gives (octets_after done n) (Sized 256 (length done + n))
unfolding octets_after
gives-octets_after done zero d = gives-give done (record { size = sym (add-zero (length done)); below = d })
gives-octets_after done (suc n) d =
    gives-bind (gives-number 8) (λ a h. gives_as
    (λ l s. record { size = s.size ∙ simp length-append (omega arith); below = s.below })
    (gives-octets_after (done ++ (a ∷ [])) n (below-append d (more h none))))

-- zeros, Rice codes, runs
pub gives-zeros_from : (start k left : ℕ) → Gives (zeros_from start k left) (λ r. r < k + left)
unfolding zeros_from
gives-zeros_from start k zero = gives-fail Run start
gives-zeros_from start k (suc left) =
    gives-bind gives-bit (λ a h. gives-cond (eqb a 1) (λ t. gives-give k (omega arith))
    (λ t. gives_as (λ r l. omega arith) (gives-zeros_from start (k + 1) left)))

pub gives-rice : (n s : ℕ) → Gives (rice n s) (λ v. v < (n + 1) * 2 ^ s)
unfolding rice
gives-rice n s =
    gives-bind gives-here (λ start u.
    gives-bind (gives-zeros_from start 0 (n + 1)) (λ k h.
    gives-bind (gives-number s) (λ low l.
    gives-give (k * 2 ^ s + low) (digits_lt (omega arith) l))))

pub gives-runs_from : (n s most left : ℕ) (done : List ℕ) → left ≤ most → Below 2 done
    → Gives (runs_from n s most left done) (Sized 2 (length done + left))
unfolding runs_from
gives-runs_from n s zero left done h d = gives-give done (record { size = omega arith; below = d })
gives-runs_from n s (suc most) left done h d =
    gives-cond (eqb left 0)
    (λ t. let z = eqb-true left 0 t in gives-give done (record { size = omega arith; below = d }))
    (λ t. gives-bind gives-here (λ start u. gives-bind (gives-rice n s) (λ v r.
    gives-cond (ltb left v) (λ c. gives-fail Run start) (λ c.
    gives-cond (eqb v left)
    (λ e. gives-give (done ++ replicate v 0) (record {
      size = let w = eqb-true v left e in simp (length-append, length-replicate) (omega arith);
      below = below-append d (below-replicate v {x = 0} (lit< tt));
    }))
    (λ e. let o = ltb-false left v c in let ne = eqb-false v left e in
    gives_as (λ l k. record { size = k.size ∙ simp (length-append, length-replicate) (omega arith); below = k.below })
    (gives-runs_from n s most (left - (v + 1)) (done ++ (replicate v 0 ++ (1 ∷ []))) (omega arith)
    (below-append d (below-append (below-replicate v {x = 0} (lit< tt)) (more {x = 1} (lit< tt) none)))))))))

-- what holds of every leaf holds of what a tree gives
abbrev pub Leaves : (ℕ → Type 0) → Tree → Type 0
Leaves P (leaf s) = P s
Leaves P (fork z o) = Leaves P z × Leaves P o

pub gives-read_tree : (P : ℕ → Type 0) (t : Tree) → Leaves P t → Gives (read_tree t) P
unfolding read_tree
gives-read_tree P (leaf s) h = gives-give s h
gives-read_tree P (fork z o) h =
    gives-bind gives-bit (λ a l. gives-cond (eqb a 1) (λ t. gives-read_tree P o h.1) (λ t. gives-read_tree P z h.0))

-- places that are listed
pub gives-listed_from : (w d : ℕ) (done : List ℕ) (count : ℕ) → length done ≤ d → Below 2 done
    → Gives (listed_from w d done count) (Sized 2 d)
unfolding listed_from
gives-listed_from w d done zero h l =
    gives-give (done ++ replicate (d - length done) 0) (record {
      size = simp (length-append, length-replicate) (omega arith);
      below = below-append l (below-replicate (d - length done) {x = 0} (lit< tt));
    })
gives-listed_from w d done (suc count) h l =
    gives-bind gives-here (λ start u. gives-bind (gives-number w) (λ p r.
    gives-cond (leb (length done) p && ltb p d)
    (λ t. let a = leb-true (length done) p (and_left (leb (length done) p) (ltb p d) t) in
    let c = ltb-true p d (and_right (leb (length done) p) (ltb p d) t) in
    gives-listed_from w d (done ++ (replicate (p - length done) 0 ++ (1 ∷ []))) count
    (simp (length-append, length-replicate) (omega arith))
    (below-append l (below-append (below-replicate (p - length done) {x = 0} (lit< tt)) (more {x = 1} (lit< tt) none))))
    (λ t. gives-fail Place start)))

pub gives-by_method : (n d start m : ℕ) → Gives (by_method n d start m) (Sized 2 d)
unfolding by_method listed
gives-by_method n d start m =
    gives-cond (eqb m 0) (λ t. gives_as (λ l s. record { size = s.size ∙ zero-add d; below = s.below }) (gives-bits_from [] d none)) (λ t.
    gives-cond (leb m 4)
    (λ t. gives_as (λ l s. record { size = s.size ∙ zero-add d; below = s.below }) (gives-runs_from n m d d [] (le_refl d) none)) (λ t.
    gives-cond (eqb m 5)
    (λ t. gives-give (replicate d 0) (record { size = length-replicate d 0; below = below-replicate d {x = 0} (lit< tt) })) (λ t.
    gives-cond (eqb m 6) (λ t. gives-fail Method start) (λ t.
    gives-bind (gives-number 2) (λ less h. gives-listed_from (width_of d) d [] (less + 1) zero-le none)))))

-- the values in turn
pub gives-values_into : (n z : ℕ) {xs : List ℕ} (cells : List ℕ) → z < 256 → Below 256 xs → Below 256 cells
    → Gives (values_into n z xs cells) (Sized 256 (length cells))
unfolding values_into
gives-values_into n z cells g none c = gives-give cells (record { size = refl; below = c })
gives-values_into n z cells g (more {x = x} {l = xs} h t) c =
    gives-bind gives-here (λ start u. gives-bind (gives-number 3) (λ m r.
    gives-bind (gives-by_method n (empty_in z cells) start m) (λ flags f.
    let s = lay-sized z x flags 0 g h c in
    gives_as (λ l k. record { size = k.size ∙ s.size; below = k.below })
    (gives-values_into n z (lay z x flags 0 cells) g t s.below))))

-- groups of digits
pub gives-groups_from : (c : Coding) (done : List ℕ) (count : ℕ)
    → Gives (groups_from c done count) (λ digits. length digits ≡ length done + count * c.group)
unfolding groups_from
gives-groups_from c done zero = gives-give done (omega (arith, zero-mul c.group))
gives-groups_from c done (suc count) =
    gives-bind gives-here (λ start u. gives-bind (gives-number c.bits) (λ v h.
    gives-cond (ltb v (c.radix ^ c.group))
    (λ t. gives_as (λ digits e. e ∙ simp (length-append, length_digits) (omega (arith, suc-mul count c.group)))
    (gives-groups_from c (done ++ digits_of c.radix c.group v) count))
    (λ t. gives-fail Place start)))
