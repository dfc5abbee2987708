-- "An accepted one has at most 402 (320 empty runs with S = 9: 3,213 bits)." Tool 11 leaves that as it is: it has at most 81
-- (`bounded-eleven`).
use Prim.Native.Nat.{ℕ, zero, suc, ◌+◌, ◌*◌, ◌-◌, ◌^◌, ◌/◌, ◌≤◌, ◌<◌, max}
use native.Mathlib.Omega.{arith}
use native.Mathlib.Nat.{mul-le-mul, mul-le-mul_left, mul-suc, div-add-mod'}
use lib.Pow.{pow_mono, shr_le, high}
use mathlib.Core.Path.{◌≡◌, refl, sym, ap, ◌∙◌}
use mathlib.Core.List.{List, [], ◌∷◌, ◌++◌, map, append-nil}
use mathlib.Core.Bool.{Bool, true, false, cond, not, ◌&&◌, ◌||◌, false≢true}
use lib.ListN.{length, replicate, length-append, length-replicate, length-map}
use lib.IntN.{pos, negsuc}
use lib.Dec.{eqb, leb, ltb}
use borrow.Author.Tests.{le-leb, eq-eqb, ne_eqb, eqb-true, eqb-false, leb-true, ltb-true, ltb-false, not-true}
use Rattle.rules.specs.declared.Refusal.{Refusal}
use Rattle.rules.specs.declared.Refusal.TheVariants.{Run, Place, Method, Case, Tool, Room, Set, Law}
use Rattle.rules.specs.Tools.{holds, is_set, is_law, is_length}
use Rattle.rules.specs.Bits.{low_bits, bits_of, fill_for, pack}
use Rattle.rules.specs.Reading.{whole, Reader, ◌>>=◌, give, fail, here, from, bit, number, bits_from, octets_after, filled}
use Rattle.rules.specs.Samples.{mask_of, sample_of, plus_zero, minus_zero}
use Rattle.rules.specs.Runs.{zeros_from, rice, rice_form, runs_from, runs_of, rice_forms}
use Rattle.rules.specs.Zeros.{Tree, leaf, fork, tree_of, read_tree, zero_of, flag_of, codes_of, code_of, most_s, plus_minus, plus_minus_form}
use Rattle.rules.specs.First.{First, unassigned, pad, tool, fractional_row, six_or_eight}
use Rattle.rules.specs.First.{base_of, rice_code, rows, look_up, first_octet, mark_at, six_not_eight}
use Rattle.rules.specs.Fractional.{row_count, body_bits, fractional}
use Rattle.rules.specs.Frame.{Found, octets_used, body, with_tool, after_first, frame, read_one}
use Rattle.rules.specs.Located.{width_from, width_of, listed_from, listed, by_method, empty_in, lay, values_into, values_of, located}
use Rattle.rules.specs.Chooses.{count_of}
use Rattle.rules.proofs.Octets.{Below, none, bits_of-below, length-low_bits}
use Rattle.rules.proofs.Laid.{empty-all, lay-count}
use Rattle.rules.proofs.Signed.{LawMask, sample_of-one-to-one, law-mask}
use Rattle.rules.proofs.Gives.{Gives, gives-bit, gives-number, gives-zeros_from, gives-rice}
use Rattle.rules.proofs.Gives.{gives-runs_from, gives-by_method, gives-read_tree, Leaves, no-refusal, same_place, same-value}
use Rattle.rules.proofs.Accepted.{Steps, through, steps, not-refused, filled_is, number-next}
use Rattle.rules.proofs.Tests.{and_left, and_right, all_below-at, by_length}
use Rattle.rules.proofs.Each.{or_right, Each, nothing, next}
use Rattle.promises.proofs.Further.{SixOrEight, six, eight, six-or-eight, eight-out, mark-first}
use Rattle.promises.proofs.Rows.{few-values}
use Rattle.promises.proofs.Methods.{ones}
use Rattle.promises.proofs.Zeros.{is_zero}
use Rattle.promises.proofs.Forms.{rice-restores, plus_minus_form-below}
use Rattle.promises.proofs.Written.{read-bits}
use Rattle.promises.proofs.Frame.{found_at}
use Rattle.rules.proofs.Room.{length_most}
use Rattle.rules.proofs.Firsts.{as_written, first-as-written}
use Rattle.promises.proofs.Reach.{Near, near-fail, near-give, near-here, near-bit, near-then, near-cond, near-more, near-number_from}
use Rattle.rules.proofs.Fractional.{body-bits-most}
use Rattle.promises.proofs.Fractional.{near-fractional, fractional-most}

-- A reading's cost by what it gives: from place i to j, with c saved up and k of the value left, j + c is at most i + k
pub record Costs {A : Type 0} (c : ℕ) (k : A → ℕ) (p : Reader A) : Type 0 where
  pub goes : (b : List ℕ) → Below 2 b → (i : ℕ) → i ≤ length b → (a : A) (j : ℕ) → p b i ≡ whole a j → j + c ≤ i + k a

pub costs-near : {A : Type 0} (k : ℕ) {p : Reader A} → Near k p → Costs 0 (λ a. k) p
costs-near k g = record { goes = λ b z i h a j e. omega (arith, g.goes b i a j e) }

costs-give : {A : Type 0} (c : ℕ) (k : A → ℕ) (a : A) → c ≤ k a → Costs c k (give a)
costs-give c k a h = record { goes = λ b z i l v j e. rw (← (same-value e), ← (same_place e)) (omega arith) }

costs-fail : {A : Type 0} (c : ℕ) (k : A → ℕ) (w : Refusal) (at : ℕ) → Costs c k (fail w at)
costs-fail c k w at = record { goes = λ b z i l v j e. no-refusal e }

costs-cond : {A : Type 0} {c : ℕ} {k : A → ℕ} {p q : Reader A} (t : Bool) → (t ≡ true → Costs c k p) → (t ≡ false → Costs c k q)
    → Costs c k (cond t p q)
costs-cond true g h = g refl
costs-cond false g h = h refl

costs-then : {A B : Type 0} {Q : A → Type 0} {p : Reader A} {f : A → Reader B} (c : ℕ) (k : A → ℕ) (d : A → ℕ) (l : A → B → ℕ)
    (C : ℕ) (L : B → ℕ)
    → Gives p Q → Costs c k p → ((a : A) → Q a → Costs (d a) (l a) (f a)) → ((a : A) (r : B) → Q a → k a + l a r + C ≤ c + d a + L r)
    → Costs C L (p >>= f)
costs-then {A} {B} {Q} {p} {f} c k d l C L v g h s = record { goes = λ b z i m a j e. go b z i m a j (steps (p b i) (λ a m. f a b m) e) }
  where
    go : (b : List ℕ) → Below 2 b → (i : ℕ) → i ≤ length b → (r : B) (j : ℕ) → Steps (p b i) (λ a m. f a b m) r j → j + C ≤ i + L r
    go b z i m r j (through a n e q) =
        let u = v.on z m e in
        omega (arith, g.goes b z i m a n e, (h a u.2).goes b z n u.1 r j q, s a r u.2)

-- bits and octets
pub near-bits_from : (done : List ℕ) (n : ℕ) → Near n (bits_from done n)
unfolding bits_from
near-bits_from done zero = near-give done
near-bits_from done (suc n) = near-more (1 + n) (suc n) (omega arith) (near-then 1 n near-bit (λ a. near-bits_from (done ++ (a ∷ [])) n))

near-octets_after : (done : List ℕ) (n : ℕ) → Near (8 * n) (octets_after done n)
unfolding octets_after
near-octets_after done zero = near-give done
near-octets_after done (suc n) =
    near-more (8 + 8 * n) (8 * suc n) (omega arith) (near-then 8 (8 * n) (near-number_from 0 8) (λ x. near-octets_after (done ++ (x ∷ [])) n))

-- a Rice code of v: the zeros, a one, and S bits
costs-zeros_from : (start k left : ℕ) → Costs k (λ r. r + 1) (zeros_from start k left)
unfolding zeros_from
costs-zeros_from start k zero = costs-fail k (λ r. r + 1) Run start
costs-zeros_from start k (suc left) =
    costs-then 0 (λ a. 1) (λ a. k + 1) (λ a r. r + 1) k (λ r. r + 1) gives-bit (costs-near 1 near-bit)
    (λ a h. costs-cond (eqb a 1) (λ t. costs-give (k + 1) (λ r. r + 1) k (omega arith)) (λ t. costs-zeros_from start (k + 1) left))
    (λ a r h. omega arith)

-- a step that stays where it is
costs-here : {B : Type 0} {f : ℕ → Reader B} (c : ℕ) (k : B → ℕ) → ((i : ℕ) → Costs c k (f i)) → Costs c k (here >>= f)
costs-here c k g = record { goes = λ b z i h a j e. (g i).goes b z i h a j e }

pub costs-rice : (n s : ℕ) → Costs 0 (λ v. v / 2 ^ s + 1 + s) (rice n s)
unfolding rice
costs-rice n s =
    costs-here 0 (λ v. v / 2 ^ s + 1 + s) (λ start.
    costs-then 0 (λ k. k + 1) (λ k. k) (λ k v. v / 2 ^ s + s) 0 (λ v. v / 2 ^ s + 1 + s) (gives-zeros_from start 0 (n + 1))
    (costs-zeros_from start 0 (n + 1))
    (λ k h. costs-then 0 (λ low. s) (λ low. k) (λ low v. v / 2 ^ s) k (λ v. v / 2 ^ s + s) (gives-number s)
    (costs-near s (near-number_from 0 s))
    (λ low l. costs-give k (λ v. v / 2 ^ s) (k * 2 ^ s + low) (omega (arith, high k s l)))
    (λ low v l. omega arith))
    (λ k v h. omega arith))

-- the zeros of a code: at most v, and at most half of v where S is 1 or more
half : (v s : ℕ) → 1 ≤ s → 2 * (v / 2 ^ s) ≤ v
half v s h = omega (arith, mul-le-mul_left (v / 2 ^ s) (pow_mono {i = 1} {j = s} h), div-add-mod' v (2 ^ s))

-- the last run: no closing place
last : (v left s : ℕ) → v ≡ left → (left ≡ 0 → ⊥) → s ≤ 9 → v / 2 ^ s + 1 + s ≤ 10 * left
last v left zero e n h = omega (arith, shr_le v 0)
last v left (suc s) e n h = omega (arith, half v (suc s) (omega arith))

-- what was saved up is paid
paid : {A : Type 0} {p : Reader A} (c k l : ℕ) → c + k ≤ l → Costs 0 (λ a. k) p → Costs c (λ a. l) p
paid c k l h g = record { goes = λ b z i m a j e. omega (arith, g.goes b z i m a j e) }

-- over so many places, with S at most 9: ten bits a place
pub costs-runs : (n s fuel left : ℕ) (done : List ℕ) → s ≤ 9 → Costs 0 (λ flags. 10 * left) (runs_from n s fuel left done)
unfolding runs_from
costs-runs n s zero left done h = costs-give 0 (λ flags. 10 * left) done (omega arith)
costs-runs n s (suc fuel) left done h =
    costs-cond (eqb left 0) (λ t. costs-give 0 (λ flags. 10 * left) done (omega arith))
    (λ t. costs-here 0 (λ flags. 10 * left) (λ start.
    costs-then 0 (λ v. v / 2 ^ s + 1 + s) (λ v. v / 2 ^ s + 1 + s) (λ v flags. 10 * left) 0 (λ flags. 10 * left)
    (gives-rice n s) (costs-rice n s)
    (λ v q. costs-cond (ltb left v) (λ c. costs-fail (v / 2 ^ s + 1 + s) (λ flags. 10 * left) Run start) (λ c.
    let o = ltb-false left v c in
    let some = eqb-false left 0 t in
    costs-cond (eqb v left)
    (λ e. costs-give (v / 2 ^ s + 1 + s) (λ flags. 10 * left) (done ++ replicate v 0) (last v left s (eqb-true v left e) some h))
    (λ e. let ne = eqb-false v left e in
    paid (v / 2 ^ s + 1 + s) (10 * (left - (v + 1))) (10 * left) (omega (arith, shr_le v s))
    (costs-runs n s fuel (left - (v + 1)) (done ++ (replicate v 0 ++ (1 ∷ []))) h))))
    (λ v r q. omega arith)))

-- how many are marked in lists put together
ones-append : (a b : List ℕ) → ones (a ++ b) ≡ ones a + ones b
unfolding count_of
ones-append [] b = omega arith
ones-append (x ∷ a) b = let e = ones-append a b in omega arith

ones-zeros : (n : ℕ) → ones (replicate n 0) ≡ 0
unfolding count_of
ones-zeros zero = refl
ones-zeros (suc n) = let e = ones-zeros n in omega arith

ones-one : ones (1 ∷ []) ≡ 1
unfolding count_of
ones-one = refl

costs-as : {A : Type 0} {p : Reader A} (c d : ℕ) (k l : A → ℕ) → ((a : A) → d + k a ≤ c + l a) → Costs c k p → Costs d l p
costs-as c d k l h g = record { goes = λ b z i m a j e. omega (arith, g.goes b z i m a j e, h a) }

-- the same with S at most 4, by the places marked: a bit a place, and five for each that is marked
costs-marked : (n s fuel left : ℕ) (done : List ℕ) → s ≤ 4 → Costs (5 * ones done) (λ flags. left + 5 * ones flags + 5)
    (runs_from n s fuel left done)
unfolding runs_from
costs-marked n s zero left done h = costs-give (5 * ones done) (λ flags. left + 5 * ones flags + 5) done (omega arith)
costs-marked n s (suc fuel) left done h =
    costs-cond (eqb left 0) (λ t. costs-give (5 * ones done) (λ flags. left + 5 * ones flags + 5) done (omega arith))
    (λ t. costs-here (5 * ones done) (λ flags. left + 5 * ones flags + 5) (λ start.
    costs-then 0 (λ v. v / 2 ^ s + 1 + s) (λ v. 5 * ones done + (v / 2 ^ s + 1 + s)) (λ v flags. left + 5 * ones flags + 5)
    (5 * ones done) (λ flags. left + 5 * ones flags + 5)
    (gives-rice n s) (costs-rice n s)
    (λ v q. costs-cond (ltb left v)
    (λ c. costs-fail (5 * ones done + (v / 2 ^ s + 1 + s)) (λ flags. left + 5 * ones flags + 5) Run start) (λ c.
    let o = ltb-false left v c in
    costs-cond (eqb v left)
    (λ e. costs-give (5 * ones done + (v / 2 ^ s + 1 + s)) (λ flags. left + 5 * ones flags + 5) (done ++ replicate v 0)
    (omega (arith, ones-append done (replicate v 0), ones-zeros v, shr_le v s)))
    (λ e. let ne = eqb-false v left e in
    let done' = done ++ (replicate v 0 ++ (1 ∷ [])) in
    let more : ones done' ≡ ones done + 1 =
    omega (arith, ones-append done (replicate v 0 ++ (1 ∷ [])), ones-append (replicate v 0) (1 ∷ []), ones-zeros v, ones-one) in
    costs-as (5 * ones done') (5 * ones done + (v / 2 ^ s + 1 + s)) (λ flags. left - (v + 1) + 5 * ones flags + 5)
    (λ flags. left + 5 * ones flags + 5)
    (λ flags. omega (arith, shr_le v s))
    (costs-marked n s fuel (left - (v + 1)) done' h))))
    (λ v r q. omega arith)))

-- ceil(log2 D) is no more than it need be
pub width-most : (w m d r : ℕ) → d ≤ 2 ^ (w + r) → width_from w m d ≤ w + r
unfolding width_from
width-most w zero d r h = omega arith
width-most w (suc m) d zero h =
    let e : w + 0 ≡ w = omega arith in
    let f : d ≤ 2 ^ w = rw e at h in
    rw (le-leb d (2 ^ w) f) (omega arith)
width-most w (suc m) d (suc r) h =
    step (leb d (2 ^ w)) (let e : w + suc r ≡ w + 1 + r = omega arith in width-most (w + 1) m d r (rw e at h))
  where
    step : (b : Bool) → width_from (w + 1) m d ≤ w + 1 + r → cond b w (width_from (w + 1) m d) ≤ w + suc r
    step true g = omega arith
    step false g = omega arith

pub near-listed_from : (w d : ℕ) (done : List ℕ) (k : ℕ) → Near (w * k) (listed_from w d done k)
unfolding listed_from
near-listed_from w d done zero = near-more 0 (w * 0) (omega arith) (near-give (done ++ replicate (d - length done) 0))
near-listed_from w d done (suc k) =
    near-more (0 + (w + w * k)) (w * suc k) (omega (arith, mul-suc w k))
    (near-then 0 (w + w * k) near-here (λ start. near-then w (w * k) (near-number_from 0 w) (λ p.
    near-cond (w * k) (leb (length done) p && ltb p d) (near-listed_from w d (done ++ (replicate (p - length done) 0 ++ (1 ∷ []))) k)
    (near-fail (w * k) Place start))))

-- the flags of a value, in a frame of 320 or less
pub costs-method : (n d start m : ℕ) → d ≤ 320 → Costs 0 (λ flags. 38 + d + 5 * ones flags) (by_method n d start m)
unfolding by_method listed
costs-method n d start m h =
    costs-cond (eqb m 0)
    (λ t. costs-as 0 0 (λ flags. d) (λ flags. 38 + d + 5 * ones flags) (λ flags. omega arith) (costs-near d (near-bits_from [] d)))
    (λ t. costs-cond (leb m 4)
    (λ t. costs-as (5 * ones []) 0 (λ flags. d + 5 * ones flags + 5) (λ flags. 38 + d + 5 * ones flags) (λ flags. omega arith)
    (costs-marked n m d d [] (leb-true m 4 t)))
    (λ t. costs-cond (eqb m 5) (λ t. costs-give 0 (λ flags. 38 + d + 5 * ones flags) (replicate d 0) (omega arith))
    (λ t. costs-cond (eqb m 6) (λ t. costs-fail 0 (λ flags. 38 + d + 5 * ones flags) Method start)
    (λ t. costs-then 0 (λ less. 2) (λ less. 0) (λ less flags. 36) 0 (λ flags. 38 + d + 5 * ones flags) (gives-number 2)
    (costs-near 2 (near-number_from 0 2))
    (λ less q. let w = width-most 0 d d 9 (omega arith) in
    costs-near 36 (near-more (width_of d * (less + 1)) 36 (mul-le-mul {n₂ = 9} {m₂ = 4} w (omega arith))
    (near-listed_from (width_of d) d [] (less + 1))))
    (λ less flags q. omega arith)))))

-- the values of a frame of 320 or less: what is marked for one is no longer empty for the next
costs-values : (n z : ℕ) {xs : List ℕ} (cells : List ℕ) → Each (λ x. not (eqb x z)) xs → empty_in z cells ≤ 320
    → Costs 0 (λ r. length xs * 361 + 5 * empty_in z cells) (values_into n z xs cells)
unfolding values_into
costs-values n z cells nothing h = costs-give 0 (λ r. 0 * 361 + 5 * empty_in z cells) cells (omega arith)
costs-values n z cells (next {x = x} {s = xs} g t) h =
    let d = empty_in z cells in
    let total = suc (length xs) * 361 + 5 * d in
    costs-here 0 (λ r. total) (λ start.
    costs-then 0 (λ m. 3) (λ m. 3) (λ m r. total) 0 (λ r. total) (gives-number 3) (costs-near 3 (near-number_from 0 3))
    (λ m q. costs-then 0 (λ flags. 38 + d + 5 * ones flags) (λ flags. 41 + d + 5 * ones flags) (λ flags r. total) 3
    (λ r. total) (gives-by_method n d start m) (costs-method n d start m h)
    (λ flags f. let left = lay-count z x flags cells (not-true (eqb x z) g) f.size in
    paid (41 + d + 5 * ones flags) (length xs * 361 + 5 * empty_in z (lay z x flags 0 cells)) total (omega arith)
    (costs-values n z (lay z x flags 0 cells) t (omega arith)))
    (λ flags r f. omega arith))
    (λ m r q. omega arith))

pub costs-located : {mask : ℕ} → LawMask mask → (n : ℕ) → n ≤ 320 → Costs 0 (λ s. 2686) (located mask n)
unfolding located
costs-located {mask} l n h =
    costs-here 0 (λ s. 2686) (λ start.
    costs-then 0 (λ c. 2) (λ c. 2) (λ c s. 2686) 0 (λ s. 2686) (gives-number 2) (costs-near 2 (near-number_from 0 2))
    (λ c p. costs-then 0 (λ flag. 1) (λ flag. 3) (λ flag s. 2686) 2 (λ s. 2686) (gives-number 1) (costs-near 1 (near-number_from 0 1))
    (λ flag q. let v = few-values n c flag p q in
    let e = empty-all (plus_zero mask) n in
    let k : length (map (sample_of mask) (values_of n c flag)) ≡ length (values_of n c flag) =
    length-map (values_of n c flag) (sample_of mask) in
    costs-cond (eqb (length (values_of n c flag)) 0) (λ t. costs-fail 3 (λ s. 2686) Case start)
    (λ t. paid 3 (length (map (sample_of mask) (values_of n c flag)) * 361 + 5 * empty_in (plus_zero mask) (replicate n (plus_zero mask)))
    2686 (omega (arith, v.few))
    (costs-values n (plus_zero mask) (replicate n (plus_zero mask)) (v.apart l) (omega arith))))
    (λ flag s q. omega arith))
    (λ c s p. omega arith))

-- the code of S
unfoldable pub depth : Tree → ℕ
depth (leaf s) = 0
depth (fork z o) = 1 + max (depth z) (depth o)

pub near-tree : (t : Tree) → Near (depth t) (read_tree t)
unfolding read_tree depth
near-tree (leaf s) = near-give s
near-tree (fork z o) =
    near-then 1 (max (depth z) (depth o)) near-bit (λ a. near-cond (max (depth z) (depth o)) (eqb a 1)
    (near-more (depth o) (max (depth z) (depth o)) (omega arith) (near-tree o))
    (near-more (depth z) (max (depth z) (depth o)) (omega arith) (near-tree z)))

pub tree-depth : (n : ℕ) → is_length n ≡ true → leb (depth (tree_of n)) 6 ≡ true
unfolding tree_of depth
tree-depth n l = by_length (λ n. leb (depth (tree_of n)) 6 ≡ true) refl refl refl refl refl n l

pub tree-leaves : (n : ℕ) → is_length n ≡ true → Leaves (λ s. s ≤ 9) (tree_of n)
unfolding tree_of
tree-leaves n l = by_length (λ n. Leaves (λ s. s ≤ 9) (tree_of n)) (omega arith) (omega arith) (omega arith) (omega arith) (omega arith) n l

pub costs-plus_minus : (mask n mark : ℕ) → is_length n ≡ true → Costs 0 (λ s. 6 + 10 * n) (plus_minus mask n mark)
costs-plus_minus mask n mark l =
    costs-then 0 (λ r. 6) (λ r. 0) (λ r s. 10 * n) 0 (λ s. 6 + 10 * n) (gives-read_tree (λ s. s ≤ 9) (tree_of n) (tree-leaves n l))
    (costs-near 6 (near-more (depth (tree_of n)) 6 (leb-true (depth (tree_of n)) 6 (tree-depth n l)) (near-tree (tree_of n))))
    (λ r h. costs-then 0 (λ flags. 10 * n) (λ flags. 0) (λ flags s. 0) 0 (λ s. 10 * n) (gives-runs_from n r n n [] (omega arith) none)
    (costs-runs n r n n [] h)
    (λ flags q. costs-give 0 (λ s. 0) (map (zero_of mask mark) flags) (omega arith))
    (λ flags s q. omega arith))
    (λ r s h. omega arith)

-- the bodies of the other tools
cheap : {A : Type 0} (k : ℕ) {p : Reader A} → k ≤ 2686 → Near k p → Costs 0 (λ s. 2686) p
cheap k h g = costs-near 2686 (near-more k 2686 h g)

pub costs-fractional : (mask k n : ℕ) → n ≤ 320 → Costs 0 (λ s. 2686) (fractional mask k n)
costs-fractional mask k n h = cheap (body_bits k n) (omega (arith, body-bits-most k n h)) (near-fractional mask k n)

pub costs-body : {mask : ℕ} → LawMask mask → (t n : ℕ) → n ≤ 320 → Costs 0 (λ s. 2686) (body mask t n)
unfolding body
costs-body {mask} l t n h =
    costs-cond (eqb t 1) (λ e. cheap (8 * n) (omega arith) (near-octets_after [] n))
    (λ e. costs-cond (eqb t 2) (λ e. cheap 0 (omega arith) (near-give (replicate n (plus_zero mask))))
    (λ e. costs-cond (eqb t 3) (λ e. cheap 0 (omega arith) (near-give (replicate n (minus_zero mask))))
    (λ e. costs-cond (eqb t 4) (λ e. cheap (8 + 0) (omega arith) (near-then 8 0 (near-number_from 0 8) (λ x. near-give (replicate n x))))
    (λ e. costs-cond (eqb t 5)
    (λ e. cheap (n + 0) (omega arith) (near-then n 0 (near-bits_from [] n) (λ flags. near-give (map (zero_of mask 0) flags))))
    (λ e. costs-located l n h)))))

-- a frame whose body begins at place i
with_tool-bits : (set room t n k : ℕ) {r : Reader (List ℕ)} {b : List ℕ} → Below 2 b → (i : ℕ) → i ≤ length b → Costs 0 (λ s. k) r
    → {f : Found} {j : ℕ} → with_tool set room t n r b i ≡ whole f j → f.bits ≤ i + k
unfolding with_tool
with_tool-bits set room t n k {r} {b} z i h g {f} {j} e =
    let p = not-refused (not (holds set t)) (Tool t) 0 _ b i e in
    let q = not-refused (ltb room n) Room 0 _ b i p.1 in
    go (steps (r b i) _ q.1)
  where
    go : Steps (r b i) (λ s m. filled (record { tool = t; samples = s; bits = m }) (fill_for m) b m) f j → f.bits ≤ i + k
    go (through s m d c) =
        let w = filled_is (record { tool = t; samples = s; bits = m }) (fill_for m) b m c in
        rw (← w.0) (omega (arith, g.goes b z i h s m d))

-- each first octet that begins samples has one of the five lengths
abbrev pub plain : First → Bool
plain unassigned = true
plain pad = true
plain (tool t n) = is_length n
plain (fractional_row k n) = is_length n
plain (six_or_eight n) = is_length n

pub first_plain : (o : ℕ) → o < 256 → plain (first_octet o) ≡ true
unfolding first_octet look_up rows
first_plain o h = all_below-at (λ o. plain (first_octet o)) 256 refl o h

after-bits : {mask : ℕ} → LawMask mask → (set room : ℕ) (first : First) → plain first ≡ true → {b : List ℕ} → Below 2 b → 8 ≤ length b
    → {f : Found} {j : ℕ} → after_first mask set room first b 8 ≡ whole f j → f.bits ≤ 3213
unfolding after_first
after-bits l set room unassigned p z h e = no-refusal e
after-bits l set room pad p z h {f} {j} e = let v : record { tool = 0; samples = []; bits = 8 } ≡ f = same-value e in
    rw (← v) (omega arith)
after-bits {mask} l set room (tool t n) p z h e =
    omega (arith, with_tool-bits set room t n 2686 z 8 h (costs-body l t n (length_most n p)) e)
after-bits {mask} l set room (fractional_row k n) p z h e =
    omega (arith, with_tool-bits set room 11 n 2686 z 8 h (costs-fractional mask k n (length_most n p)) e)
after-bits {mask} l set room (six_or_eight n) p {b} z h {f} {j} e = go (steps (bit b (mark_at n)) _ e)
  where
    decided : (mark m : ℕ) → Steps (six_not_eight b m) (λ t k. with_tool set room t n (plus_minus mask n mark) b (mark_at n + 1)) f j
        → f.bits ≤ 3213
    decided mark m (through t k q d) =
        let cost = with_tool-bits set room t n (6 + 10 * n) z (mark_at n + 1) (omega (arith, mark-first n)) (costs-plus_minus mask n mark p) d in
        omega (arith, mark-first n, length_most n p, cost)

    go : Steps (bit b (mark_at n))
        (λ mark m. (six_not_eight >>= (λ t. from (mark_at n + 1) (with_tool set room t n (plus_minus mask n mark)))) b m) f j
        → f.bits ≤ 3213
    go (through mark m q d) = decided mark m (steps (six_not_eight b m) _ d)

frame-bits : {mask : ℕ} → LawMask mask → (set room : ℕ) {b : List ℕ} → Below 2 b → {f : Found} {j : ℕ}
    → frame mask set room b 0 ≡ whole f j → f.bits ≤ 3213
unfolding frame
frame-bits {mask} l set room {b} z {f} {j} e = go (steps (number 8 b 0) _ e)
  where
    go : Steps (number 8 b 0) (λ o k. after_first mask set room (first_octet o) b k) f j → f.bits ≤ 3213
    go (through o k q d) =
        let g = (gives-number 8).on z (omega arith) q in
        let p : 8 ≡ k = number-next 0 8 b 0 q in
        after-bits l set room (first_octet o) (first_plain o g.2) z (omega (arith, g.1)) (rw (← p) at d)

-- Bounded: "An accepted one has at most 402", 3,213 bits
pub bounded : (octets : List ℕ) (law set room : ℕ) {f : Found} {j : ℕ} → read_one octets law set room ≡ whole f j
    → (f.bits ≤ 3213) × (octets_used f ≤ 402)
unfolding read_one
bounded octets law set room e =
    let p = not-refused (not (is_law law)) Law 0 _ (bits_of octets) 0 e in
    let q = not-refused (not (is_set set)) Set 0 _ (bits_of octets) 0 p.1 in
    let b = frame-bits (law-mask law) set room (bits_of-below octets) q.1 in
    (b, omega arith)

-- Tool 11: "worked out anew", it has at most 648 bits, 81 octets
with_tool-tool : (set room t n : ℕ) (r : Reader (List ℕ)) (b : List ℕ) (i : ℕ) {f : Found} {j : ℕ}
    → with_tool set room t n r b i ≡ whole f j → f.tool ≡ t
unfolding with_tool
with_tool-tool set room t n r b i {f} {j} e =
    let p = not-refused (not (holds set t)) (Tool t) 0 _ b i e in
    let q = not-refused (ltb room n) Room 0 _ b i p.1 in
    go (steps (r b i) _ q.1)
  where
    go : Steps (r b i) (λ s m. filled (record { tool = t; samples = s; bits = m }) (fill_for m) b m) f j → f.tool ≡ t
    go (through s m d c) = ap (λ (x : Found). x.tool) (sym (filled_is (record { tool = t; samples = s; bits = m }) (fill_for m) b m c).0)

row-bits : (mask set room n k : ℕ) → is_length n ≡ true → k < row_count n → {b : List ℕ} → Below 2 b → 8 ≤ length b
    → {f : Found} {j : ℕ} → with_tool set room 11 n (fractional mask k n) b 8 ≡ whole f j → f.bits ≤ 648
row-bits mask set room n k len few {b} z h {f} {j} e =
    let m = fractional-most n k len few in
    let g : Costs 0 (λ s. 640) (fractional mask k n) = costs-near 640 (near-more (body_bits k n) 640 m (near-fractional mask k n)) in
    omega (arith, with_tool-bits set room 11 n 640 z 8 h g e)

after-eleven : (mask set room o : ℕ) (first : First) → as_written o first ≡ true → {b : List ℕ} → Below 2 b → 8 ≤ length b
    → {f : Found} {j : ℕ} → after_first mask set room first b 8 ≡ whole f j → f.tool ≡ 11 → f.bits ≤ 648
unfolding after_first
after-eleven mask set room o unassigned w z h e is = no-refusal e
after-eleven mask set room o pad w z h {f} {j} e is =
    let v : record { tool = 0; samples = []; bits = 8 } ≡ f = same-value e in
    let t : 0 ≡ f.tool = ap (λ (x : Found). x.tool) v in
    absurd (omega arith)
after-eleven mask set room o (tool t n) w {b} z h {f} {j} e is =
    let other = and_left (not (eqb t 6 || eqb t 11)) _ (and_right (is_length n) _ w) in
    let eleven : t ≡ 11 = sym (with_tool-tool set room t n (body mask t n) b 8 e) ∙ is in
    absurd (false≢true (rw eleven at other))
after-eleven mask set room o (fractional_row k n) w z h e is =
    let few = and_left (ltb k (row_count n)) _ (and_right (is_length n) _ w) in
    row-bits mask set room n k (and_left (is_length n) _ w) (ltb-true k (row_count n) few) z h e
after-eleven mask set room o (six_or_eight n) w {b} z h {f} {j} e is = go (steps (bit b (mark_at n)) _ e)
  where
    decide : (mark t : ℕ) → SixOrEight t → with_tool set room t n (plus_minus mask n mark) b (mark_at n + 1) ≡ whole f j → f.bits ≤ 648
    decide mark t six d = absurd (omega (arith, is, with_tool-tool set room 6 n (plus_minus mask n mark) b (mark_at n + 1) d))
    decide mark t eight d = eight-out set room n (plus_minus mask n mark) b (mark_at n + 1) d

    decided : (mark m : ℕ) → Steps (six_not_eight b m) (λ t k. with_tool set room t n (plus_minus mask n mark) b (mark_at n + 1)) f j → f.bits ≤ 648
    decided mark m (through t k q d) = decide mark t (six-or-eight b m t k q) d

    go : Steps (bit b (mark_at n)) (λ mark m. (six_not_eight >>= (λ t. from (mark_at n + 1) (with_tool set room t n (plus_minus mask n mark)))) b m) f j
        → f.bits ≤ 648
    go (through mark m q d) = decided mark m (steps (six_not_eight b m) _ d)

frame-eleven : (mask set room : ℕ) {b : List ℕ} → Below 2 b → {f : Found} {j : ℕ} → frame mask set room b 0 ≡ whole f j
    → f.tool ≡ 11 → f.bits ≤ 648
unfolding frame
frame-eleven mask set room {b} z {f} {j} e is = go (steps (number 8 b 0) _ e)
  where
    go : Steps (number 8 b 0) (λ o k. after_first mask set room (first_octet o) b k) f j → f.bits ≤ 648
    go (through o k q d) =
        let g = (gives-number 8).on z (omega arith) q in
        let p : 8 ≡ k = number-next 0 8 b 0 q in
        after-eleven mask set room o (first_octet o) (first-as-written o g.2) z (omega (arith, g.1)) (rw (← p) at d) is

pub bounded-eleven : (octets : List ℕ) (law set room : ℕ) {f : Found} {j : ℕ} → read_one octets law set room ≡ whole f j → f.tool ≡ 11
    → (f.bits ≤ 648) × (octets_used f ≤ 81)
unfolding read_one
bounded-eleven octets law set room e is =
    let p = not-refused (not (is_law law)) Law 0 _ (bits_of octets) 0 e in
    let q = not-refused (not (is_set set)) Set 0 _ (bits_of octets) 0 p.1 in
    let b = frame-eleven (mask_of law) set room (bits_of-below octets) q.1 is in
    (b, omega arith)

-- It is reached: 320 of the rare zero, each an empty run, with S = 9
runs-of-rare : (n : ℕ) → runs_of 0 (replicate n 1) ≡ replicate n 0
unfolding runs_of
runs-of-rare zero = refl
runs-of-rare (suc n) = ap (λ l. 0 ∷ l) (runs-of-rare n)

empty_runs : (n : ℕ) → length (rice_forms 9 (replicate n 0)) ≡ 10 * n
unfolding rice_forms rice_form
empty_runs zero = refl
empty_runs (suc n) = let e = empty_runs n in simp (length-append, length-low_bits) (omega arith)

map-replicate : (f : ℕ → ℕ) (n x : ℕ) → map f (replicate n x) ≡ replicate n (f x)
map-replicate f zero x = refl
map-replicate f (suc n) x = ap (λ l. f x ∷ l) (map-replicate f n x)

each-replicate : (p : ℕ → Bool) (n x : ℕ) → p x ≡ true → Each p (replicate n x)
each-replicate p zero x h = nothing
each-replicate p (suc n) x h = next h (each-replicate p n x h)

zeros_differ : {mask : ℕ} → LawMask mask → eqb (minus_zero mask) (plus_zero mask) ≡ false
zeros_differ {mask} l =
    ne_eqb (minus_zero mask) (plus_zero mask)
    (λ e. let d : negsuc 0 ≡ pos 0 = sample_of-one-to-one l (negsuc 0) (pos 0) (omega arith) (omega arith) e in
    let z : ◌≡◌ {A = ℕ} 0 1 = cc in omega arith)

-- n of the rare zero, written with the mark for the other
unfoldable pub rare_frame : ℕ → ℕ → List ℕ
rare_frame mask n = replicate n (minus_zero mask)

pub rare-length : (mask n : ℕ) → length (rare_frame mask n) ≡ n
unfolding rare_frame
rare-length mask n = length-replicate n (minus_zero mask)

rare-flags : {mask : ℕ} → LawMask mask → (n : ℕ) → map (flag_of mask 0) (rare_frame mask n) ≡ replicate n 1
unfolding rare_frame
rare-flags {mask} l n =
    let flag : flag_of mask 0 (minus_zero mask) ≡ 1 = rw (zeros_differ l) refl in
    map-replicate (flag_of mask 0) n (minus_zero mask) ∙ ap (replicate n) flag

rare-zeros : (mask n : ℕ) → Each (is_zero mask) (rare_frame mask n)
unfolding rare_frame
rare-zeros mask n = each-replicate (is_zero mask) n (minus_zero mask)
    (rw (eq-eqb (minus_zero mask) (minus_zero mask) refl) (or_right (eqb (minus_zero mask) (plus_zero mask)) true refl))

rare-bits : {mask : ℕ} → LawMask mask → (n : ℕ) → length (plus_minus_form mask 0 9 (rare_frame mask n)) ≡ length
    (rice_code n 0) + (length (code_of n 9) + 10 * n)
rare-bits {mask} l n =
    rw (rare-length mask n, rare-flags l n, runs-of-rare n)
    (length-append (rice_code n 0) (code_of n 9 ++ rice_forms 9 (replicate n 0)) ∙ ap (λ k. length (rice_code n 0) + k)
    (length-append (code_of n 9) (rice_forms 9 (replicate n 0)) ∙ ap (λ k. length (code_of n 9) + k) (empty_runs n)))

pub longest-bits : (law : ℕ) → length (plus_minus_form (mask_of law) 0 9 (rare_frame (mask_of law) 320)) ≡ 3213
unfolding base_of low_bits codes_of
longest-bits law = rare-bits (law-mask law) 320

length-320 : (mask : ℕ) → is_length (length (rare_frame mask 320)) ≡ true
length-320 mask = rw (rare-length mask 320) refl

nine : (mask : ℕ) → 9 ≤ most_s (length (rare_frame mask 320))
unfolding codes_of
nine mask = rw (rare-length mask 320) (omega arith)

six-held : holds 127 6 ≡ true
unfolding holds
six-held = refl

-- the octets that a reader of either law accepts as that frame: 402 of them
pub longest-read : (law : ℕ) → is_law law ≡ true
    → read_one (pack (plus_minus_form (mask_of law) 0 9 (rare_frame (mask_of law) 320))) law 127 320 ≡ found_at 6 (rare_frame (mask_of law) 320) 3213
longest-read law i =
    let mask = mask_of law in
    let s = rare_frame mask 320 in
    let form = plus_minus_form mask 0 9 s in
    let l = length-320 mask in
    let most = nine mask in
    let e : read_one (pack form ++ []) law 127 320 ≡ found_at 6 s (length form)
    = read-bits law 127 320 [] i refl (plus_minus_form-below mask 0 9 s l (omega arith) (omega arith) most)
    ∙ (rice-restores mask 0 9 s l (omega arith) (omega arith) most (rare-zeros mask 320)).reads 127 320 (bits_of []) six-held
    (omega (arith, rare-length mask 320)) in
    rw (append-nil (pack form), longest-bits law) at e
