-- From the body to the frame: the prefix of each tool and length, and the filling bits.
use Prim.Native.Nat.{ℕ, zero, suc, ◌+◌, ◌*◌, ◌-◌, ◌^◌, ◌/◌, ◌≤◌, ◌<◌}
use native.Mathlib.Omega.{arith}
use mathlib.Core.Path.{◌≡◌, refl, sym, ap, ◌∙◌}
use mathlib.Core.List.{List, [], ◌∷◌, ◌++◌, append_assoc}
use mathlib.Core.Bool.{Bool, true, false, cond, false≢true}
use lib.ListN.{length, take, drop, replicate, length-append, length-replicate, take-append-drop}
use lib.Seq.{take-append-add, length-take-le}
use lib.Pow.{high}
use lib.Dec.{ltb}
use borrow.Author.Tests.{le-ltb, eq-eqb, ltb-true}
use Rattle.rules.specs.Tools.{holds, is_length}
use Rattle.rules.specs.Bits.{low_bits, value_from, octets_for, fill_for}
use Rattle.rules.specs.Reading.{Read, whole, Reader, bit, number}
use Rattle.rules.specs.First.{six_or_eight, first_octet, base_of, octet_for, rice_code, length_code, is_long, mark_at, six_not_eight}
use Rattle.rules.specs.Zeros.{codes_of, code_of, most_s, plus_minus}
use Rattle.rules.specs.Fractional.{first_code, row_count, fractional}
use Rattle.rules.specs.Frame.{Found, body, with_tool, after_first, frame}
use Rattle.rules.proofs.Octets.{Below, none, more, value-from, value-below, below-append, below-take, below-replicate}
use Rattle.rules.proofs.Firsts.{has_own, own-low, first-of, rows_few, row_first, first-of-six}
use Rattle.rules.proofs.Codes.{bit-seam}
use Rattle.rules.proofs.Tests.{all_below, all_below-at, by_length}
use Rattle.rules.proofs.Each.{Each, nothing, next, all, each_all}
use Rattle.promises.proofs.Back.{Back, back-give, back-bit, back-number, back-first, back-value, back-filled}

-- a frame read whole: its tool, its samples and its bits, and all its octets
abbrev pub found_at : ℕ → List ℕ → ℕ → Read Found
found_at t s bits = whole (record { tool = t; samples = s; bits = bits }) (8 * octets_for bits)

-- bits and the 0 bits that fill their last octet
abbrev pub filled_bits : List ℕ → List ℕ
filled_bits b = b ++ replicate (fill_for (length b)) 0

-- the tool is decided, `pre` is read, and the body's bits follow
with-tool : (set room t n : ℕ) {p : Reader (List ℕ)} (pre b post s : List ℕ) → holds set t ≡ true → n ≤ room → Back p b s
    → with_tool set room t n p (filled_bits (pre ++ b) ++ post) (length pre) ≡ found_at t s (length (pre ++ b))
unfolding with_tool
with-tool set room t n pre b post s h r back =
    let fill : List ℕ = replicate (fill_for (length (pre ++ b))) 0 in
    let e : (((pre ++ b) ++ fill) ++ post) ≡ pre ++ (b ++ (fill ++ post)) = simp append_assoc in
    let l : length pre + length b ≡ length (pre ++ b) = sym (length-append pre b) in
    let f = (back-filled {A = Found} (record { tool = t; samples = s; bits = length (pre ++ b) }) (fill_for (length (pre ++ b)))
    ).reads (pre ++ b) post in
    let end : length (pre ++ b) + length fill ≡ 8 * octets_for (length (pre ++ b)) =
    omega (arith, length-replicate {A = ℕ} (fill_for (length (pre ++ b))) 0) in
    rw (h, le-ltb room n r, e, back.reads pre (fill ++ post), l)
    ((rw (append_assoc pre b (fill ++ post)) at f) ∙ ap (whole (record { tool = t; samples = s; bits = length (pre ++ b) })) end)

-- Tools 1 to 5 and 7: a first octet of their own
own-octet : (n t : ℕ) → is_length n ≡ true → has_own n t ≡ true → octet_for t n < 256
unfolding base_of
own-octet n t l own =
    ltb-true (octet_for t n) 256
    (all_below-at (λ t. ltb (octet_for t n) 256) 8
    (by_length (λ n. all_below (λ t. ltb (octet_for t n) 256) 8 ≡ true) refl refl refl refl refl n l) t (own-low n t own))

pub read-own : (mask set room t n : ℕ) (b post s : List ℕ) → is_length n ≡ true → has_own n t ≡ true → holds set t ≡ true → n ≤ room
    → Back (body mask t n) b s
    → frame mask set room (filled_bits (low_bits 8 (octet_for t n) ++ b) ++ post) 0 ≡ found_at t s (length (low_bits 8 (octet_for t n) ++ b))
unfolding frame after_first
read-own mask set room t n b post s l own h r back =
    let o = octet_for t n in
    let fill : List ℕ = replicate (fill_for (length (low_bits 8 o ++ b))) 0 in
    let e : ((low_bits 8 o ++ b) ++ fill) ++ post ≡ low_bits 8 o ++ (b ++ (fill ++ post)) = simp append_assoc in
    let first : number 8 (filled_bits (low_bits 8 o ++ b) ++ post) 0 ≡ whole o (length (low_bits 8 o))
    = rw e (back-first (back-number 8 o (own-octet n t l own)) (b ++ (fill ++ post))) in
    rw (first, first-of n t l own) (with-tool set room t n (low_bits 8 o) b post s h r back)

-- Tool 11: its first octet tells its row
codes-small : (n k : ℕ) → is_length n ≡ true → k < row_count n → first_code n + k < 256
unfolding first_code row_count
codes-small n k l h =
    omega (
      arith,
      h,
      rows_few n l,
      by_length (λ n. first_code n ≤ 28) (omega arith) (omega arith) (omega arith) (omega arith)
          (omega arith) n l,
    )

pub read-row : (mask set room k n : ℕ) (b post s : List ℕ) → is_length n ≡ true → k < row_count n → holds set 11 ≡ true → n ≤ room
    → Back (fractional mask k n) b s → frame mask set room (filled_bits (low_bits 8 (first_code n + k) ++ b) ++ post) 0 ≡ found_at 11 s
    (length (low_bits 8 (first_code n + k) ++ b))
unfolding frame after_first
read-row mask set room k n b post s l few h r back =
    let o = first_code n + k in
    let fill : List ℕ = replicate (fill_for (length (low_bits 8 o ++ b))) 0 in
    let e : ((low_bits 8 o ++ b) ++ fill) ++ post ≡ low_bits 8 o ++ (b ++ (fill ++ post)) = simp append_assoc in
    let first : number 8 (filled_bits (low_bits 8 o ++ b) ++ post) 0 ≡ whole o (length (low_bits 8 o))
    = rw e (back-first (back-number 8 o (codes-small n k l few)) (b ++ (fill ++ post))) in
    rw (first, row_first n k l few) (with-tool set room 11 n (low_bits 8 o) b post s h r back)

-- Tool 6: the first octet has its code, and bits of what follows
value-append : (u : ℕ) (a b : List ℕ) → value_from u (a ++ b) ≡ value_from (value_from u a) b
unfolding value_from
value-append u [] b = refl
value-append u (x ∷ a) b = value-append (2 * u + x) a b

pub first-eight : (bits post : List ℕ) → 8 ≤ length bits → number 8 (bits ++ post) 0 ≡ whole (value_from 0 (take 8 bits)) 8
first-eight bits post h =
    let l : length (take 8 bits) ≡ 8 = length-take-le 8 bits h in
    let e : bits ++ post ≡ take 8 bits ++ (drop 8 bits ++ post) =
    rw (← (append_assoc (take 8 bits) (drop 8 bits) post), take-append-drop 8 bits) refl in
    rw e (rw l at (back-first (back-value 0 (take 8 bits)) (drop 8 bits ++ post)))

pub value-small : {l : List ℕ} (k : ℕ) → Below 2 l → length l ≡ k → value_from 0 l < 2 ^ k
value-small k b e = rw e at (value-below b)

begins : (code rest : List ℕ) (m : ℕ) → length code + m ≡ 8 → Below 2 code → Below 2 rest → m ≤ length rest
    → (value_from 0 (take 8 (code ++ rest)) / 2 ^ m ≡ value_from 0 code) × (value_from 0 (take 8 (code ++ rest)) < 256)
begins code rest m e b c h =
    let t : take 8 (code ++ rest) ≡ code ++ take m rest = rw e at (take-append-add code rest m) in
    let l : length (take m rest) ≡ m = length-take-le m rest h in
    let v : value_from 0 (take 8 (code ++ rest)) ≡ value_from 0 code * 2 ^ m + value_from 0 (take m rest)
    = rw (t, value-append 0 code (take m rest)) (rw l at (value-from (value_from 0 code) (take m rest))) in (
      rw v (high (value_from 0 code) m (value-small m (below-take m c) l)),
      value-small 8 (below-take 8 (below-append b c)) (length-take-le 8 (code ++ rest) (omega (arith, length-append code rest))),
    )

-- the code before its last bit, the mark
abbrev rice_front : ℕ → List ℕ
rice_front n = length_code n ++ cond (is_long n) (1 ∷ 0 ∷ []) (0 ∷ 1 ∷ [])

-- of the five lengths: the mark stands last, at its place; the code is at most an octet, and bits
pub record RiceCode (n : ℕ) : Type 0 where
  pub last : (mark : ℕ) → rice_code n mark ≡ rice_front n ++ (mark ∷ [])
  pub place : length (rice_front n) ≡ mark_at n
  pub short : mark_at n < 8
  pub front : all (λ a. ltb a 2) (rice_front n) ≡ true

pub rice-code : (n : ℕ) → is_length n ≡ true → RiceCode n
unfolding base_of low_bits
rice-code n l = by_length RiceCode
    (record { last = λ mark. refl; place = refl; short = omega arith; front = refl })
    (record { last = λ mark. refl; place = refl; short = omega arith; front = refl })
    (record { last = λ mark. refl; place = refl; short = omega arith; front = refl })
    (record { last = λ mark. refl; place = refl; short = omega arith; front = refl })
    (record { last = λ mark. refl; place = refl; short = omega arith; front = refl }) n l

below_each : {m : ℕ} {l : List ℕ} → Each (λ a. ltb a m) l → Below m l
below_each nothing = none
below_each {m} (next {x = a} h t) = more (ltb-true a m h) (below_each t)

pub code_below : (n mark : ℕ) → is_length n ≡ true → mark < 2 → Below 2 (rice_code n mark)
code_below n mark l m =
    let c = rice-code n l in
    rw (c.last mark) (below-append (below_each (each_all (λ a. ltb a 2) (rice_front n) c.front)) (more m none))

-- the codes of S are bits
pub code_of-below : (n s : ℕ) → is_length n ≡ true → 1 ≤ s → s ≤ most_s n → Below 2 (code_of n s)
unfolding codes_of
code_of-below n s l h k =
    let e : s ≡ s - 1 + 1 = omega arith in
    let bits : ℕ → ℕ → Bool = λ n k. all (λ a. ltb a 2) (code_of n (k + 1)) in
    rw e (below_each (each_all (λ a. ltb a 2) (code_of n (s - 1 + 1)) (all_below-at (bits n) (most_s n)
    (by_length (λ n. all_below (bits n) (most_s n) ≡ true) refl refl refl refl refl n l) (s - 1) (omega arith))))

-- a code of S is not 00
abbrev starts_six : List ℕ → Bool
starts_six [] = false
starts_six (suc zero ∷ code) = true
starts_six (suc (suc a) ∷ code) = false
starts_six (zero ∷ []) = false
starts_six (zero ∷ (zero ∷ code)) = false
starts_six (zero ∷ (suc zero ∷ code)) = true
starts_six (zero ∷ (suc (suc a) ∷ code)) = false

data NotEight : List ℕ → Type 0 where
  one : {b : List ℕ} → NotEight (1 ∷ b)
  zero_one : {b : List ℕ} → NotEight (0 ∷ (1 ∷ b))

not_eight : (code : List ℕ) → starts_six code ≡ true → NotEight code
not_eight [] e = absurd (false≢true e)
not_eight (suc zero ∷ code) e = one
not_eight (suc (suc a) ∷ code) e = absurd (false≢true e)
not_eight (zero ∷ []) e = absurd (false≢true e)
not_eight (zero ∷ (zero ∷ code)) e = absurd (false≢true e)
not_eight (zero ∷ (suc zero ∷ code)) e = zero_one
not_eight (zero ∷ (suc (suc a) ∷ code)) e = absurd (false≢true e)

six-code : (n s : ℕ) → is_length n ≡ true → 1 ≤ s → s ≤ most_s n → NotEight (code_of n s)
unfolding codes_of
six-code n s l h k =
    let e : s ≡ s - 1 + 1 = omega arith in
    rw e (not_eight (code_of n (s - 1 + 1)) (all_below-at (λ k. starts_six (code_of n (k + 1))) (most_s n)
    (by_length (λ n. all_below (λ k. starts_six (code_of n (k + 1))) (most_s n) ≡ true) refl refl refl refl refl n l) (s - 1) (omega arith)))

-- the tool is decided
decided : {code : List ℕ} → NotEight code → (front rest : List ℕ)
    → (j : ℕ) × (six_not_eight (front ++ (code ++ rest)) (length front) ≡ whole 6 j)
unfolding six_not_eight
decided (one {b = b}) front rest =
    let t : Back six_not_eight (1 ∷ []) 6 = back-bit _ 1 (back-give 6) in (length front + 1, t.reads front (b ++ rest))
decided (zero_one {b = b}) front rest =
    let t : Back six_not_eight (0 ∷ (1 ∷ [])) 6 = back-bit _ 0 (back-bit _ 1 (back-give 6)) in (length front + 2, t.reads front (b ++ rest))

six-steps : (mask set room n mark o j : ℕ) (w : List ℕ) (r : Read Found) → number 8 w 0 ≡ whole o 8 → first_octet o ≡ six_or_eight n
    → bit w (mark_at n) ≡ whole mark (mark_at n + 1) → six_not_eight w (mark_at n + 1) ≡ whole 6 j
    → with_tool set room 6 n (plus_minus mask n mark) w (mark_at n + 1) ≡ r → frame mask set room w 0 ≡ r
unfolding frame after_first
six-steps mask set room n mark o j w r e f g h t = rw (e, f, g, h) t

-- with its filling bits a form is an octet or more
an-octet : (a b : List ℕ) → 1 ≤ length a → 8 ≤ length a + length (b ++ replicate (fill_for (length (a ++ b))) 0)
an-octet a b h = simp (length-append, length-replicate) (omega arith)

six-frame : (mask set room n mark : ℕ) (front code b post s : List ℕ) → NotEight code → length front ≡ mark_at n → mark_at n < 8
    → Below 2 (front ++ (mark ∷ [])) → Below 2 (code ++ b)
    → ((o : ℕ) → o < 256 → o / 2 ^ (8 - length (front ++ (mark ∷ []))) ≡ value_from 0 (front ++ (mark ∷ [])) → first_octet o ≡ six_or_eight n)
    → holds set 6 ≡ true → n ≤ room → Back (plus_minus mask n mark) (code ++ b) s
    → frame mask set room (filled_bits ((front ++ (mark ∷ [])) ++ (code ++ b)) ++ post) 0 ≡ found_at 6 s
    (length ((front ++ (mark ∷ [])) ++ (code ++ b)))
six-frame mask set room n mark front code b post s d e f c low g h k back =
    let pre = front ++ (mark ∷ []) in
    let body = code ++ b in
    let fill : List ℕ = replicate (fill_for (length (pre ++ body))) 0 in
    let w = filled_bits (pre ++ body) ++ post in
    let lp : length pre ≡ mark_at n + 1 = rw (length-append front (mark ∷ []), e) refl in
    let at : w ≡ front ++ (mark ∷ (code ++ (b ++ (fill ++ post)))) = simp append_assoc in
    let on : w ≡ pre ++ (code ++ (b ++ (fill ++ post))) = simp append_assoc in
    let start : w ≡ (pre ++ (body ++ fill)) ++ post = simp append_assoc in
    let size = an-octet pre body (omega arith) in
    let six = decided d pre (b ++ (fill ++ post)) in
    let eight = begins pre (body ++ fill) (8 - length pre) (omega arith) c
    (below-append low (below-replicate (fill_for (length (pre ++ body))) {x = 0} (omega arith))) (omega arith) in
    six-steps mask set room n mark (value_from 0 (take 8 (pre ++ (body ++ fill)))) six.0 w (found_at 6 s (length (pre ++ body)))
    (rw start (first-eight (pre ++ (body ++ fill)) post (omega (arith, length-append pre (body ++ fill)))))
    (g (value_from 0 (take 8 (pre ++ (body ++ fill)))) eight.1 eight.0)
    (rw (at, ← e) (bit-seam front mark (code ++ (b ++ (fill ++ post)))))
    (rw (on, ← lp) six.1)
    (rw (← lp) (with-tool set room 6 n pre body post s h k back))

pub read-six : (mask set room n mark r : ℕ) (b post s : List ℕ) → is_length n ≡ true → mark < 2 → 1 ≤ r → r ≤ most_s n
    → Below 2 (code_of n r ++ b) → holds set 6 ≡ true → n ≤ room → Back (plus_minus mask n mark) (code_of n r ++ b) s
    → frame mask set room (filled_bits (rice_code n mark ++ (code_of n r ++ b)) ++ post) 0 ≡ found_at 6 s
    (length (rice_code n mark ++ (code_of n r ++ b)))
read-six mask set room n mark r b post s l m p q low h k back =
    let c = rice-code n l in
    let e = c.last mark in
    rw e (six-frame mask set room n mark (rice_front n) (code_of n r) b post s (six-code n r l p q) c.place c.short
    (rw e at (code_below n mark l m)) low
    (λ o g f. first-of-six n mark o l m g
    (eq-eqb (o / 2 ^ (8 - length (rice_code n mark))) (value_from 0 (rice_code n mark)) (rw (← e) at f))) h k back)
