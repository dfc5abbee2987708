-- How many bits a reading asks for at most. So SHORT is said of 441 octets at most: with more behind its place a frame is never SHORT.
-- Main statements: `short-octets`, `walk-short-octets`.
use Prim.Native.Nat.{ℕ, zero, suc, ◌+◌, ◌*◌, ◌-◌, ◌^◌, ◌/◌, ◌≤◌, ◌<◌, max}
use native.Mathlib.Omega.{arith}
use native.Mathlib.Nat.{add-mul, one-mul, mul-one, mul-le-mul_left, mul-le-mul_right, mul-le-mul, mul-suc}
use mathlib.Core.Path.{◌≡◌, refl, sym, ap, ◌∙◌}
use mathlib.Core.List.{List, [], ◌∷◌, ◌++◌, map}
use mathlib.Core.Bool.{Bool, true, false, cond, not, ◌&&◌}
use lib.ListN.{length, get_or, take, drop, replicate, length-map, length-drop}
use lib.Dec.{eqb, leb, ltb}
use lib.Pow.{shr_le}
use borrow.Author.Tests.{ltb-false, leb-true, eqb-false, not-true}
use Rattle.rules.specs.declared.Refusal.{Refusal}
use Rattle.rules.specs.declared.Refusal.TheVariants.{Short, Prefix, Run, Place, Method, Case, Align, Tool, Room, Law, Set, Long}
use Rattle.std.proofs.Common.{Err}
use Rattle.rules.specs.Refusals.{refusal_number}
use Rattle.rules.specs.Tools.{holds, is_length, is_law, is_set}
use Rattle.rules.specs.Bits.{bits_of, value_from, fill_for}
use Rattle.rules.specs.Reading.{Read, whole, refuse, Reader, and_then, ◌>>=◌, give, fail}
use Rattle.rules.specs.Reading.{here, bit, number_from, number, bits_from, octets_after, filled}
use Rattle.rules.specs.Samples.{mask_of, sample_of, plus_zero, minus_zero}
use Rattle.rules.specs.Runs.{zeros_from, rice, runs_from}
use Rattle.rules.specs.Zeros.{Tree, leaf, fork, tree_of, read_tree, zero_of, plus_minus}
use Rattle.rules.specs.Located.{width_of, listed_from, listed, by_method, empty_in, lay, values_into, values_of, located}
use Rattle.rules.specs.First.{First, unassigned, pad, tool, fractional_row, six_or_eight, first_octet, mark_at, six_not_eight}
use Rattle.rules.specs.Fractional.{radix, Coding, group_of, coding_of, body_bits, digits_of, groups_from, groups_as, samples_at, fractional}
use Rattle.rules.specs.Frame.{Found, body, with_tool, after_first, frame, read_one}
use Rattle.rules.specs.Walk.{Walked, stopped, walk_all, samples_kept}
use Rattle.rules.proofs.Octets.{Below, none, Sized, bits_of-below, length-bits_of}
use Rattle.rules.proofs.Gives.{same-refusal, Gives, gives-bit, gives-number, gives-zeros_from, gives-rice}
use Rattle.rules.proofs.Gives.{gives-runs_from, gives-by_method, gives-read_tree, gives-bits_from, gives-groups_from, no-refusal}
use Rattle.rules.proofs.Accepted.{gives-fractional, gives-plus_minus, gives-body}
use Rattle.rules.proofs.Laid.{empty-all, lay-count}
use Rattle.rules.proofs.Each.{Each, nothing, next}
use Rattle.rules.proofs.Signed.{LawMask, law-mask}
use Rattle.rules.proofs.Room.{length_most}
use Rattle.promises.proofs.Reach.{near-bit, near-more, near-number_from}
use Rattle.rules.proofs.Fractional.{body-bits-most}
use Rattle.promises.proofs.Fractional.{near-groups}
use Rattle.promises.proofs.Rows.{few-values}
use Rattle.promises.proofs.Methods.{ones}
use Rattle.promises.proofs.Bounded.{Costs, costs-near, near-bits_from, costs-rice, costs-runs, costs-method, width-most}
use Rattle.promises.proofs.Bounded.{depth, near-tree, tree-depth, tree-leaves, costs-plus_minus, costs-fractional, costs-body, plain}
use Rattle.promises.proofs.Further.{bit-there, mark-first, nothing-short}
use Rattle.promises.proofs.Refused.{refused-walk, Begins, walkable, unlawful, no-set, too_long, walk_begins}
use Rattle.promises.proofs.Points.{same_bit, near-zeros}
use Rattle.promises.proofs.Bit.{first-of-bits, frame-after, short-bit, ended_by}

-- SHORT at a place, with c saved up, comes within k places of where the reading began
pub record Asks {A : Type 0} (c k : ℕ) (p : Reader A) : Type 0 where
  pub asks : (b : List ℕ) → Below 2 b → (i : ℕ) → i ≤ length b → (at : ℕ) → p b i ≡ refuse Short at → at + c < i + k

asks_give : {A : Type 0} (c k : ℕ) (a : A) → Asks c k (give a)
asks_give c k a = record { asks = λ b z i h at e. no-refusal (sym e) }

asks-fail : {A : Type 0} (c k : ℕ) (w : Refusal) (at : ℕ) → (w ≡ Short → ⊥) → Asks {A = A} c k (fail w at)
asks-fail c k w at other = record { asks = λ b z i h at e. absurd (other (same-refusal e)) }

asks-bit : Asks 0 1 bit
unfolding bit
asks-bit = record { asks = λ b z i h at e. go (get_or b i 0) i (ltb i (length b)) at e }
  where
    go : (v i : ℕ) (t : Bool) (at : ℕ) → cond t (whole v (i + 1)) (refuse Short i) ≡ refuse Short at → at + 0 < i + 1
    go v i true at e = no-refusal (sym e)
    go v i false at e = omega (arith, same_bit e)

asks-cond : {A : Type 0} {c k : ℕ} {p q : Reader A} (t : Bool) → (t ≡ true → Asks c k p) → (t ≡ false → Asks c k q) → Asks c k (cond t p q)
asks-cond true g h = g refl
asks-cond false g h = h refl

asks-here : {A : Type 0} {f : ℕ → Reader A} (c k : ℕ) → ((i : ℕ) → Asks c k (f i)) → Asks c k (here >>= f)
asks-here c k g = record { asks = λ b z i h at e. (g i).asks b z i h at e }

-- what was saved up is paid
pays : {A : Type 0} {p : Reader A} (c k l : ℕ) → c + k ≤ l → Asks 0 k p → Asks c l p
pays c k l h g = record { asks = λ b z i m at e. omega (arith, g.asks b z i m at e) }

asks-then : {A B : Type 0} {Q : A → Type 0} {p : Reader A} {f : A → Reader B} (c k : ℕ) (cost : A → ℕ) → Gives p Q
    → Costs 0 cost p → Asks c k p → ((a : A) → Q a → Asks (c + cost a) k (f a)) → Asks c k (p >>= f)
asks-then {A} {B} {Q} {p} {f} c k cost v g s h = record { asks = λ b z i m at e. go b z i m at (p b i) refl e }
  where
    go : (b : List ℕ) → Below 2 b → (i : ℕ) → i ≤ length b → (at : ℕ) (r : Read A) → p b i ≡ r
        → and_then r (λ a j. f a b j) ≡ refuse Short at → at + c < i + k
    go b z i m at (whole a j) q e =
        let u = v.on z m q in
        omega (arith, g.goes b z i m a j q, (h a u.2).asks b z j u.1 at e)
    go b z i m at (refuse w x) q e = s.asks b z i m at (q ∙ rw (same-refusal e, same_bit e) refl)

-- numbers, flags, octets
asks-bits : {A : Type 0} {f : ℕ → Reader A} (k : ℕ) → ((a : ℕ) → Asks 0 k (f a)) → Asks 0 (suc k) (bit >>= f)
asks-bits k g =
    asks-then 0 (suc k) (λ a. 1) gives-bit (costs-near 1 near-bit) (pays 0 1 (suc k) (omega arith) asks-bit)
    (λ a h. pays (0 + 1) k (suc k) (omega arith) (g a))

asks-number_from : (v n : ℕ) → Asks 0 n (number_from v n)
unfolding number_from
asks-number_from v zero = asks_give 0 0 v
asks-number_from v (suc n) = asks-bits n (λ a. asks-number_from (2 * v + a) n)

asks-bits_from : (done : List ℕ) (n : ℕ) → Asks 0 n (bits_from done n)
unfolding bits_from
asks-bits_from done zero = asks_give 0 0 done
asks-bits_from done (suc n) = asks-bits n (λ a. asks-bits_from (done ++ (a ∷ [])) n)

-- a number of w bits, and then what asks for k
asks-number : {A : Type 0} {f : ℕ → Reader A} (c w k : ℕ) → c + w ≤ k → ((x : ℕ) → x < 2 ^ w → Asks (c + w) k (f x))
    → Asks c k (number w >>= f)
asks-number c w k h g = asks-then c k (λ x. w) (gives-number w) (costs-near w (near-number_from 0 w)) (pays c w k h (asks-number_from 0 w)) g

asks-octets_after : (done : List ℕ) (n : ℕ) → Asks 0 (8 * n) (octets_after done n)
unfolding octets_after
asks-octets_after done zero = asks_give 0 (8 * 0) done
asks-octets_after done (suc n) =
    asks-number 0 8 (8 * suc n) (omega arith)
    (λ x h. pays (0 + 8) (8 * n) (8 * suc n) (omega arith) (asks-octets_after (done ++ (x ∷ [])) n))

is-not : (w : Refusal) → (refusal_number w ≡ 1 → ⊥) → w ≡ Short → ⊥
is-not w h e = h (ap refusal_number e)

asks-filled : {A : Type 0} (a : A) (n : ℕ) → Asks 0 n (filled a n)
unfolding filled
asks-filled a zero = asks_give 0 0 a
asks-filled a (suc n) =
    asks-here 0 (suc n) (λ at. asks-bits n
    (λ f. asks-cond (eqb f 0) (λ t. asks-filled a n) (λ t. asks-fail 0 n Align at (is-not Align (omega arith)))))

-- a Rice code: zeros up to zero N + 1, or fewer, a one and S bits
asks-zeros : (start k left : ℕ) → Asks 0 left (zeros_from start k left)
unfolding zeros_from
asks-zeros start k zero = asks-fail 0 0 Run start (is-not Run (omega arith))
asks-zeros start k (suc left) = asks-bits left (λ a. asks-cond (eqb a 1) (λ t. asks_give 0 left k) (λ t. asks-zeros start (k + 1) left))

asks-rice : (n s : ℕ) → Asks 0 (n + 1 + s) (rice n s)
unfolding rice
asks-rice n s =
    asks-here 0 (n + 1 + s) (λ start.
    asks-then 0 (n + 1 + s) (λ k. n + 1) (gives-zeros_from start 0 (n + 1)) (costs-near (n + 1) (near-zeros start 0 (n + 1)))
    (pays 0 (n + 1) (n + 1 + s) (omega arith) (asks-zeros start 0 (n + 1))) (λ k h.
    asks-number (0 + (n + 1)) s (n + 1 + s) (omega arith) (λ low l. asks_give (0 + (n + 1) + s) (n + 1 + s) (k * 2 ^ s + low))))

-- runs over so many places, c bits a place being enough for S: and the last run may be one that is too long
run-cost : (c s v left : ℕ) → s + 1 ≤ c → v < left → v / 2 ^ s + 1 + s + (left - (v + 1)) * c ≤ left * c
run-cost c s v left h k =
    let e : (v + 1 + (left - (v + 1))) * c ≡ left * c = ap (λ x. x * c) (omega arith) in
    omega (
      arith,
      add-mul (v + 1) (left - (v + 1)) c,
      add-mul v 1 c,
      one-mul c,
      mul-one v,
      (let l : 1 ≤ c = omega arith in mul-le-mul_left v l),
      shr_le v s,
    )

asks-runs : (c n s fuel left : ℕ) (done : List ℕ) → s + 1 ≤ c → Asks 0 (left * c + n) (runs_from n s fuel left done)
unfolding runs_from
asks-runs c n s zero left done h = asks_give 0 (left * c + n) done
asks-runs c n s (suc fuel) left done h =
    let most = left * c + n in
    asks-cond (eqb left 0) (λ t. asks_give 0 most done) (λ t.
    let some = eqb-false left 0 t in
    let room : c ≤ left * c = (let l : 1 ≤ left = omega arith in rw (one-mul c) at (mul-le-mul_right c l)) in
    asks-here 0 most (λ start.
    asks-then 0 most (λ v. v / 2 ^ s + 1 + s) (gives-rice n s) (costs-rice n s)
    (pays 0 (n + 1 + s) most (omega arith) (asks-rice n s)) (λ v q.
    let spent = 0 + (v / 2 ^ s + 1 + s) in
    asks-cond (ltb left v) (λ t. asks-fail spent most Run start (is-not Run (omega arith))) (λ t.
    asks-cond (eqb v left) (λ e. asks_give spent most (done ++ replicate v 0)) (λ e.
    let less = run-cost c s v left h (omega (arith, ltb-false left v t, eqb-false v left e)) in
    pays spent ((left - (v + 1)) * c + n) most (omega arith)
    (asks-runs c n s fuel (left - (v + 1)) (done ++ (replicate v 0 ++ (1 ∷ []))) h))))))

-- the code of S
asks-tree : (t : Tree) → Asks 0 (depth t) (read_tree t)
unfolding read_tree depth
asks-tree (leaf s) = asks_give 0 0 s
asks-tree (fork z o) =
    let most = max (depth z) (depth o) in
    pays 0 (suc most) (1 + most) (omega arith) (asks-bits most (λ a.
    asks-cond (eqb a 1) (λ t. pays 0 (depth o) most (omega arith) (asks-tree o)) (λ t. pays 0 (depth z) most (omega arith) (asks-tree z))))

-- listed places, of w bits each
asks-listed : (w d : ℕ) (done : List ℕ) (k : ℕ) → Asks 0 (w * k) (listed_from w d done k)
unfolding listed_from
asks-listed w d done zero = asks_give 0 (w * 0) (done ++ replicate (d - length done) 0)
asks-listed w d done (suc k) =
    let more = mul-suc w k in
    asks-here 0 (w * suc k) (λ start. asks-number 0 w (w * suc k) (omega arith) (λ p h.
    asks-cond (leb (length done) p && ltb p d)
    (λ t. pays (0 + w) (w * k) (w * suc k) (omega arith) (asks-listed w d (done ++ (replicate (p - length done) 0 ++ (1 ∷ []))) k))
    (λ t. asks-fail (0 + w) (w * suc k) Place start (is-not Place (omega arith)))))

asks-method : (n d start m : ℕ) → d ≤ 320 → Asks 0 (d * 5 + n + 38) (by_method n d start m)
unfolding by_method listed
asks-method n d start m h =
    let most = d * 5 + n + 38 in
    asks-cond (eqb m 0) (λ t. pays 0 d most (omega arith) (asks-bits_from [] d)) (λ t.
    asks-cond (leb m 4) (λ t. pays 0 (d * 5 + n) most (omega arith) (asks-runs 5 n m d d [] (omega (arith, leb-true m 4 t)))) (λ t.
    asks-cond (eqb m 5) (λ t. asks_give 0 most (replicate d 0)) (λ t.
    asks-cond (eqb m 6) (λ t. asks-fail 0 most Method start (is-not Method (omega arith))) (λ t.
    asks-number 0 2 most (omega arith) (λ less l.
    let w = width-most 0 d d 9 (omega arith) in
    let small = mul-le-mul {n₂ = 9} {m₂ = 4} w (let k : less + 1 ≤ 4 = omega arith in k) in
    pays (0 + 2) (width_of d * (less + 1)) most (omega arith) (asks-listed (width_of d) d [] (less + 1)))))))

-- the values of a frame: what is marked for one is no longer empty for the next
asks-values : (n z : ℕ) {xs : List ℕ} (cells : List ℕ) → Each (λ x. not (eqb x z)) xs → empty_in z cells ≤ 320
    → Asks 0 (length xs * 361 + 5 * empty_in z cells + n + 41) (values_into n z xs cells)
unfolding values_into
asks-values n z cells nothing h = asks_give 0 (0 * 361 + 5 * empty_in z cells + n + 41) cells
asks-values n z cells (next {x = x} {s = xs} g t) h =
    let d = empty_in z cells in
    let most = suc (length xs) * 361 + 5 * d + n + 41 in
    asks-here 0 most (λ start. asks-number 0 3 most (omega arith) (λ m q.
    asks-then (0 + 3) most (λ flags. 38 + d + 5 * ones flags) (gives-by_method n d start m) (costs-method n d start m h)
    (pays (0 + 3) (d * 5 + n + 38) most (omega arith) (asks-method n d start m h)) (λ flags f.
    let left = lay-count z x flags cells (not-true (eqb x z) g) f.size in
    let spent = 0 + 3 + (38 + d + 5 * ones flags) in
    pays spent (length xs * 361 + 5 * empty_in z (lay z x flags 0 cells) + n + 41) most (omega arith)
    (asks-values n z (lay z x flags 0 cells) t (omega arith)))))

asks-located : {mask : ℕ} → LawMask mask → (n : ℕ) → n ≤ 320 → Asks 0 3047 (located mask n)
unfolding located
asks-located {mask} l n h =
    asks-here 0 3047 (λ start. asks-number 0 2 3047 (omega arith) (λ c p. asks-number (0 + 2) 1 3047 (omega arith) (λ flag q.
    let v = few-values n c flag p q in
    let e = empty-all (plus_zero mask) n in
    let values = map (sample_of mask) (values_of n c flag) in
    let k : length values ≡ length (values_of n c flag) = length-map (values_of n c flag) (sample_of mask) in
    asks-cond (eqb (length (values_of n c flag)) 0) (λ t. asks-fail (0 + 2 + 1) 3047 Case start (is-not Case (omega arith))) (λ t.
    pays (0 + 2 + 1) (length values * 361 + 5 * empty_in (plus_zero mask) (replicate n (plus_zero mask)) + n + 41) 3047 (omega (arith, v.few))
    (asks-values n (plus_zero mask) (replicate n (plus_zero mask)) (v.apart l) (omega arith))))))

-- tool 6: the code of S, at most six bits, and runs over N places
asks-six : (mask n mark : ℕ) → is_length n ≡ true → Asks 0 3526 (plus_minus mask n mark)
asks-six mask n mark l =
    let few = leb-true (depth (tree_of n)) 6 (tree-depth n l) in
    let small = length_most n l in
    asks-then 0 3526 (λ s. 6) (gives-read_tree (λ s. s ≤ 9) (tree_of n) (tree-leaves n l))
    (costs-near 6 (near-more (depth (tree_of n)) 6 few (near-tree (tree_of n))))
    (pays 0 (depth (tree_of n)) 3526 (omega arith) (asks-tree (tree_of n))) (λ s h.
    asks-then (0 + 6) 3526 (λ flags. 10 * n) (gives-runs_from n s n n [] (omega arith) none) (costs-runs n s n n [] h)
    (pays (0 + 6) (n * 10 + n) 3526 (omega arith) (asks-runs 10 n s n n [] (omega arith))) (λ flags q.
    asks_give (0 + 6 + 10 * n) 3526 (map (zero_of mask mark) flags)))

-- tool 11: groups of so many bits each
asks-groups : (c : Coding) (done : List ℕ) (k : ℕ) → Asks 0 (c.bits * k) (groups_from c done k)
unfolding groups_from
asks-groups c done zero = asks_give 0 (c.bits * 0) done
asks-groups c done (suc k) =
    let w = c.bits in
    let more = mul-suc w k in
    asks-here 0 (w * suc k) (λ start. asks-number 0 w (w * suc k) (omega arith) (λ v h.
    asks-cond (ltb v (c.radix ^ c.group))
    (λ t. pays (0 + w) (w * k) (w * suc k) (omega arith) (asks-groups c (done ++ digits_of c.radix c.group v) k))
    (λ t. asks-fail (0 + w) (w * suc k) Place start (is-not Place (omega arith)))))

asks-fractional : (mask k n : ℕ) → n ≤ 320 → Asks 0 3047 (fractional mask k n)
unfolding groups_as
asks-fractional mask k n h =
    let c = coding_of (radix k) in
    let m = n / group_of (radix k) in
    let most = body-bits-most k n h in
    asks-then 0 3047 (λ digits. body_bits k n) (gives-groups_from c [] m) (costs-near (body_bits k n) (near-groups c [] m))
    (pays 0 (body_bits k n) 3047 (omega arith) (asks-groups c [] m)) (λ digits q.
    asks_give (0 + body_bits k n) 3047 (map (λ d. get_or (samples_at mask k) d 0) digits))

asks-body : {mask : ℕ} → LawMask mask → (t n : ℕ) → n ≤ 320 → Asks 0 3047 (body mask t n)
unfolding body
asks-body {mask} l t n h =
    asks-cond (eqb t 1) (λ e. pays 0 (8 * n) 3047 (omega arith) (asks-octets_after [] n)) (λ e.
    asks-cond (eqb t 2) (λ e. asks_give 0 3047 (replicate n (plus_zero mask))) (λ e.
    asks-cond (eqb t 3) (λ e. asks_give 0 3047 (replicate n (minus_zero mask))) (λ e.
    asks-cond (eqb t 4) (λ e. asks-number 0 8 3047 (omega arith) (λ x q. asks_give (0 + 8) 3047 (replicate n x))) (λ e.
    asks-cond (eqb t 5) (λ e.
    asks-then 0 3047 (λ flags. n) (gives-bits_from [] n none) (costs-near n (near-bits_from [] n))
    (pays 0 n 3047 (omega arith) (asks-bits_from [] n))
    (λ flags q. asks_give (0 + n) 3047 (map (zero_of mask 0) flags))) (λ e.
    asks-located l n h)))))

-- a body that asks for k at most and has c bits at most, and then its filling
asks-with_tool : (set room t n c k : ℕ) {r : Reader (List ℕ)} → c + 7 ≤ k → Gives r (Sized 256 n) → Costs 0 (λ s. c) r → Asks 0 k r
    → Asks 0 k (with_tool set room t n r)
unfolding with_tool
asks-with_tool set room t n c k h gives g s =
    asks-cond (not (holds set t)) (λ e. asks-fail 0 k (Tool t) 0 (is-not (Tool t) (omega arith))) (λ e.
    asks-cond (ltb room n) (λ e. asks-fail 0 k Room 0 (is-not Room (omega arith))) (λ e.
    asks-then 0 k (λ s. c) gives g s (λ samples q. asks-here (0 + c) k (λ bits.
    pays (0 + c) (fill_for bits) k (omega arith) (asks-filled (record { tool = t; samples = samples; bits = bits }) (fill_for bits))))))

-- the frame: 3,533 bits at most
asks-six_not_eight : Asks 0 2 six_not_eight
unfolding six_not_eight
asks-six_not_eight =
    asks-bits 1 (λ a. asks-cond (eqb a 1) (λ t. asks_give 0 1 6)
    (λ t. asks-bits 0 (λ c. asks-cond (eqb c 1) (λ t. asks_give 0 0 6) (λ t. asks_give 0 0 8))))

-- the tool is 6, or 8, which is in no set
asks-six-or-eight : {mask : ℕ} → LawMask mask → (set room n mark t : ℕ) → is_length n ≡ true
    → Asks 0 3526 (with_tool set room t n (plus_minus mask n mark))
asks-six-or-eight {mask} l set room n mark t len =
    asks-with_tool set room t n (6 + 10 * n) 3526 (omega (arith, length_most n len)) (gives-plus_minus l n mark)
    (costs-plus_minus mask n mark len) (asks-six mask n mark len)

after-asks : {mask : ℕ} → LawMask mask → (set room : ℕ) (first : First) → plain first ≡ true → {b : List ℕ} → Below 2 b → 8 ≤ length b
    → (at : ℕ) → after_first mask set room first b 8 ≡ refuse Short at → at < 3533
unfolding after_first
after-asks l set room unassigned p z h at e = absurd (is-not Prefix (omega arith) (same-refusal e))
after-asks l set room pad p z h at e = no-refusal (sym e)
after-asks {mask} l set room (tool t n) p {b} z h at e =
    let small = length_most n p in
    let a = asks-with_tool set room t n 2686 3047 (omega arith) (gives-body l t n p) (costs-body l t n small) (asks-body l t n small) in
    omega (arith, a.asks b z 8 h at e)
after-asks {mask} l set room (fractional_row k n) p {b} z h at e =
    let small = length_most n p in
    let a = asks-with_tool set room 11 n 2686 3047 (omega arith) (gives-fractional l k n p) (costs-fractional mask k n small)
    (asks-fractional mask k n small) in
    omega (arith, a.asks b z 8 h at e)
after-asks {mask} l set room (six_or_eight n) p {b} z h at e =
    let m = bit-there b [] (mark_at n) (omega (arith, mark-first n)) in
    go (six_not_eight b (mark_at n + 1)) refl (rw m.0 at e)
  where
    go : (r : Read ℕ) → six_not_eight b (mark_at n + 1) ≡ r
        → and_then r (λ t k. with_tool set room t n (plus_minus mask n (get_or b (mark_at n) 0)) b (mark_at n + 1)) ≡ refuse Short at → at < 3533
    go (whole t k) q d =
        let i : mark_at n + 1 ≤ length b = omega (arith, mark-first n) in
        let a = asks-six-or-eight l set room n (get_or b (mark_at n) 0) t p in
        omega (arith, mark-first n, a.asks b z (mark_at n + 1) i at d)
    go (refuse w x) q d =
        omega (
          arith,
          mark-first n,
          asks-six_not_eight.asks b z (mark_at n + 1) (omega (arith, mark-first n))
              at (q ∙ rw (same-refusal d, same_bit d) refl),
        )

octets-ask : (law set room : ℕ) (octets : List ℕ) (at : ℕ) → frame (mask_of law) set room (bits_of octets) 0 ≡ refuse Short at → at < 3533
octets-ask law set room [] at e = omega (arith, same_bit (sym (nothing-short (mask_of law) set room) ∙ e))
octets-ask law set room (o ∷ octets) at e = some (bits_of (o ∷ octets)) (bits_of-below (o ∷ octets))
    (omega (arith, length-bits_of (o ∷ octets))) e
  where
    some : (b : List ℕ) → Below 2 b → 8 ≤ length b → frame (mask_of law) set room b 0 ≡ refuse Short at → at < 3533
    some b z h d =
        after-asks (law-mask law) set room (first_octet (value_from 0 (take 8 b))) (first-of-bits b z h)
        z h at (sym (frame-after (mask_of law) set room b h) ∙ d)

read-asks : (octets : List ℕ) (law set room at : ℕ) → read_one octets law set room ≡ refuse Short at → at < 3533
unfolding read_one
read-asks octets law set room at e = test (not (is_law law)) Law (is-not Law (omega arith)) _ e (λ d.
    test (not (is_set set)) Set (is-not Set (omega arith)) _ d (λ d. octets-ask law set room octets at d))
  where
    test : (t : Bool) (w : Refusal) → (w ≡ Short → ⊥) → (p : Reader Found) → cond t (fail w 0) p (bits_of octets) 0 ≡ refuse Short at
        → (p (bits_of octets) 0 ≡ refuse Short at → at < 3533) → at < 3533
    test true w other p d h = absurd (other (same-refusal d))
    test false w other p d h = h d

-- so of 442 octets or more none is SHORT
pub short-octets : (octets : List ℕ) (law set room at : ℕ) → read_one octets law set room ≡ refuse Short at → length octets ≤ 441
short-octets octets law set room at e = omega (arith, short-bit octets law set room at e, read-asks octets law set room at e)

-- and a walk that ends with SHORT ends within the last 441 octets of its stream
pub walk-short-octets : (octets : List ℕ) (law set room : ℕ) → (walk_all octets law set room).end ≡ Err Short
    → length octets ≤ (walk_all octets law set room).place + 441
walk-short-octets octets law set room e = go (walk_begins octets law set room)
  where
    v : Walked
    v = walk_all octets law set room

    never-so : (w : Refusal) → (w ≡ Short → ⊥) → v ≡ stopped (Err w) 0 0 → length octets ≤ v.place + 441
    never-so w other d = absurd (other (ended_by (ap (λ (x : Walked). x.end) (sym d) ∙ e)))

    go : Begins octets law set v → length octets ≤ v.place + 441
    go (walkable t) =
        let r = refused-walk octets law set room Short t e in
        omega (
          arith,
          length-drop v.place octets,
          short-octets (drop v.place octets) law set (room - length (samples_kept v.frames))
              v.bit r.rest,
        )
    go (unlawful l d) = never-so Law (is-not Law (omega arith)) d
    go (no-set l d) = never-so Set (is-not Set (omega arith)) d
    go (too_long l d) = never-so Long (is-not Long (omega arith)) d
