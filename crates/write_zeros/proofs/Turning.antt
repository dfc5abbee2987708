-- Laws of a row of the flags of plus zero, turned into one of the flags of the common zero.
use Prim.Native.Nat.{ℕ, zero, suc, ◌+◌, ◌*◌, ◌-◌, ◌^◌, ◌/◌, ◌%◌, ◌≤◌, ◌<◌}
use mathlib.Core.Path.{◌≡◌, refl, sym, ap, ap₂, ◌∙◌}
use mathlib.Core.List.{List, [], ◌∷◌, ◌++◌, map, append-nil, map-append}
use mathlib.Core.Bool.{Bool, true, false, cond, ◌||◌}
use native.Mathlib.Omega.{arith}
use native.Mathlib.Nat.{pow-suc}
use native.Mathlib.Decide.{dec_lt}
use borrow.Author.Tests.{eqb-true}
use lib.ListN.{length, get_or, take, drop}
use lib.Dec.{eqb, ltb, lit<}
use Rattle.std.proofs.lemmas.List.{take-map, take_all, drop_all}
use Rattle.write_scan.specs.declared.row.Row.{Row}
use Rattle.rules.specs.Bits.{low_bits}
use Rattle.rules.specs.Samples.{plus_zero, minus_zero}
use Rattle.rules.specs.Zeros.{zero_of, flag_of}
use Rattle.rules.specs.Chooses.{count_of}
use Rattle.write_scan.specs.Rows.{row_bits, flags_in, RowIs}
use Rattle.rules.proofs.Words.{low_bits-join}
use Rattle.write_scan.proofs.Rows.{word-small}
use Rattle.write_scan.specs.Looks.{marks_of, two_zeros}
use Rattle.rules.proofs.Counts.{count-le}
use Rattle.write_zeros.specs.Rice.{turns_of}
use Rattle.write_zeros.proofs.TwoZeros.{two-zeros}

-- a word by its highest bit and the rest
with-top : (n b r : ℕ) → b < 2 → r < 2 ^ n → low_bits (suc n) (b * 2 ^ n + r) ≡ b ∷ low_bits n r
unfolding low_bits
with-top n b r small h =
    let m : b / 1 % 2 ≡ b = omega arith in
    let e : suc n ≡ 1 + n = omega arith in
    ap (λ (k : ℕ). low_bits k (b * 2 ^ n + r)) e ∙ (rw m at (low_bits-join 1 n b r h))

-- all its flags turned, the highest and the rest
turned-top : (n b r : ℕ) {w v : ℕ} → b < 2 → r < 2 ^ n → w ≡ b * 2 ^ n + r → v ≡ (1 - b) * 2 ^ n + (2 ^ n - 1 - r)
    → low_bits n (2 ^ n - 1 - r) ≡ turns_of true (low_bits n r) → low_bits (suc n) v ≡ turns_of true (low_bits (suc n) w)
turned-top n b r small h e f ih =
    rw (e, f, with-top n (1 - b) (2 ^ n - 1 - r) (omega arith) (omega arith), with-top n b r small h)
    (ap (λ (l : List ℕ). (1 - b) ∷ l) ih)

turn_more : (n w : ℕ) → w < 2 ^ suc n → ((w : ℕ) → w < 2 ^ n → low_bits n (2 ^ n - 1 - w) ≡ turns_of true (low_bits n w)) → Dec (w < 2 ^ n)
    → low_bits (suc n) (2 ^ suc n - 1 - w) ≡ turns_of true (low_bits (suc n) w)
turn_more n w h ih (yes p) = turned-top n 0 w (omega arith) p (omega arith) (omega (arith, pow-suc 2 n)) (ih w p)
turn_more n w h ih (no p) =
    let q : w - 2 ^ n < 2 ^ n = omega (arith, pow-suc 2 n) in
    turned-top n 1 (w - 2 ^ n) (omega arith) q (omega arith) (omega (arith, pow-suc 2 n)) (ih (w - 2 ^ n) q)

turn-bits : (n w : ℕ) → w < 2 ^ n → low_bits n (2 ^ n - 1 - w) ≡ turns_of true (low_bits n w)
unfolding low_bits
turn-bits zero w h = refl
turn-bits (suc n) w h = turn_more n w h (turn-bits n) (dec_lt w (2 ^ n))

pub turns-none : (l : List ℕ) → turns_of false l ≡ l
turns-none [] = refl
turns-none (x ∷ l) = ap (λ (k : List ℕ). x ∷ k) (turns-none l)

-- a row's words, as the code turns them
abbrev pub turn_word : ℕ → ℕ
turn_word w = 0xFFFFFFFFFF - w

pub whole_turned : (words : List ℕ) (i : ℕ) → length words ≤ i → map turn_word (take i words) ++ drop i words ≡ map turn_word words
whole_turned words i h = rw (take_all i words h, drop_all i words h) (append-nil _)

row-turned : (words : List ℕ) → ((i : ℕ) → i < length words → get_or words i 0 < 2 ^ 40)
    → row_bits (map turn_word words) ≡ turns_of true (row_bits words)
unfolding row_bits
row-turned [] h = refl
row-turned (w ∷ words) h =
    ap₂ (λ (a b : List ℕ). a ++ b) (turn-bits 40 w (h 0 (omega arith))) (row-turned words (λ i k. h (suc i) (omega arith)))
    ∙ sym (map-append (λ f. cond true (1 - f) f) (low_bits 40 w) (row_bits words))

pub flags-turned : (row : Row) → row_bits (take row.count (map turn_word row.words)) ≡ turns_of true (flags_in row)
flags-turned row =
    ap row_bits (take-map turn_word row.count row.words) ∙ row-turned (take row.count row.words) (λ i h. word-small row refl i h)

pub turned-small : (words : List ℕ) → (i : ℕ) → get_or (map turn_word words) i 0 < 2 ^ 40
turned-small [] i = lit< tt
turned-small (w ∷ words) zero = omega arith
turned-small (w ∷ words) (suc i) = turned-small words i

-- the row of the flags of plus zero is that of binary
pub row-flags : (mask : ℕ) {x k : ℕ} (frame : List ℕ) {row : Row} → x ≡ plus_zero mask → RowIs (marks_of x 0 1 frame) k row
    → RowIs (map (flag_of mask 0) frame) k row
row-flags mask frame e row = rw (ap (λ (z : ℕ). marks_of z 0 1 frame) e) at row

-- where all samples are p or q, those that are not q are those that are p
marks-turned : (p q : ℕ) → (p ≡ q → ⊥) → (s : List ℕ) → count_of (λ x. eqb x p || eqb x q) s ≡ length s
    → turns_of true (marks_of p 0 1 s) ≡ marks_of q 0 1 s
unfolding count_of
marks-turned p q ne [] h = refl
marks-turned p q ne (x ∷ s) h = step (eqb x p) (eqb x q) refl refl h (count-le (λ x. eqb x p || eqb x q) s) (marks-turned p q ne s)
  where
    step : (a b : Bool) → eqb x p ≡ a → eqb x q ≡ b → cond (a || b) 1 0 + count_of (λ x. eqb x p || eqb x q) s ≡ suc (length s)
        → count_of (λ x. eqb x p || eqb x q) s ≤ length s
        → (count_of (λ x. eqb x p || eqb x q) s ≡ length s → turns_of true (marks_of p 0 1 s) ≡ marks_of q 0 1 s)
        → (1 - cond a 0 1) ∷ turns_of true (marks_of p 0 1 s) ≡ cond b 0 1 ∷ marks_of q 0 1 s
    step true true e f c le ih = absurd (ne (sym (eqb-true x p e) ∙ eqb-true x q f))
    step true false e f c le ih = ap (λ (l : List ℕ). 1 ∷ l) (ih (omega arith))
    step false true e f c le ih = ap (λ (l : List ℕ). 0 ∷ l) (ih (omega arith))
    step false false e f c le ih = absurd (omega arith)

-- the flags of the common zero by those of plus zero
pub common-turned : (mask plus minus : ℕ) (s : List ℕ) → two_zeros mask s ≡ true
    → turns_of (ltb plus minus) (marks_of (plus_zero mask) 0 1 s) ≡ marks_of (zero_of mask (cond (ltb plus minus) 1 0) 0) 0 1 s
common-turned mask plus minus s zeros = go (ltb plus minus)
  where
    go : (b : Bool) → turns_of b (marks_of (plus_zero mask) 0 1 s) ≡ marks_of (zero_of mask (cond b 1 0) 0) 0 1 s
    go true = marks-turned (plus_zero mask) (minus_zero mask) (two-zeros mask) s (eqb-true _ _ zeros)
    go false = turns-none (marks_of (plus_zero mask) 0 1 s)
