-- A number as it is written (rules, specs/Listing) is read as itself, and no other text is.
use Prim.Native.Nat.{ℕ, zero, suc, ◌+◌, ◌*◌, ◌-◌, ◌^◌, ◌/◌, ◌%◌, ◌≤◌, ◌<◌}
use mathlib.Core.Path.{◌≡◌, refl, sym, ap, ◌∙◌}
use mathlib.Core.List.{List, [], ◌∷◌, ◌++◌, append-nil}
use mathlib.Core.Bool.{Bool, true, false, cond}
use native.Mathlib.Omega.{arith}
use native.Mathlib.Nat.{pow-suc, pow-le-pow_right}
use lib.ListN.{length, length-append}
use lib.Dec.{eqb, ltb}
use borrow.Author.Tests.{lt-ltb, le-ltb, ltb-true, ltb-false, le-leb, ne_eqb, eqb-true, eqb-false}
use Rattle.rules.specs.Listing.{digits_from, decimal}
use Rattle.text_keyvalue.specs.Reading.{whole, none, is_digit, digits_on, decimal_on}
use Rattle.text_keyvalue.proofs.Numbers.{digit-range}

pub is_digit_lem : (x : ℕ) → 48 ≤ x → x ≤ 57 → is_digit x ≡ true
is_digit_lem x a b = rw (le-leb 48 x a, le-leb x 57 b)

-- digits are put before what stands
digits-least : (more n : ℕ) (text : List ℕ) → length text ≤ length (digits_from more n text)
unfolding digits_from
digits-least zero n text = omega arith
digits-least (suc more) n text = go (ltb n 10) (digits-least more (n / 10) ((48 + n % 10) ∷ text))
  where
    go : (t : Bool) → suc (length text) ≤ length (digits_from more (n / 10) ((48 + n % 10) ∷ text))
        → length text ≤ length (cond t ((48 + n) ∷ text) (digits_from more (n / 10) ((48 + n % 10) ∷ text)))
    go true h = omega arith
    go false h = omega arith

-- a digit, as the reading takes it
one-digit : (v i d : ℕ) (text : List ℕ) → d ≤ 9 → digits_on v i ((48 + d) ∷ text) ≡ digits_on (10 * v + d) (i + 1) text
unfolding digits_on
one-digit v i d text h =
    let e : 48 + d - 48 ≡ d = omega arith in
    rw (is_digit_lem (48 + d) (omega arith) (omega arith), e)

-- k digits are read as their number, and what follows them goes on from there
pub digits-back : (more n k i : ℕ) (text : List ℕ) → 1 ≤ n → n < 10 ^ more → length (digits_from more n text) ≡ k + length text
    → decimal_on i (digits_from more n text) ≡ digits_on n (i + k) text
unfolding digits_from decimal_on
digits-back zero n k i text p h l = absurd (omega arith)
digits-back (suc more) n k i text p h l =
    go (ltb n 10) refl l
    (λ k p h l. digits-back more (n / 10) k i ((48 + n % 10) ∷ text) p h l ∙ one-digit (n / 10) (i + k) (n % 10) text (omega arith))
  where
    go : (t : Bool) → ltb n 10 ≡ t → length (cond t ((48 + n) ∷ text) (digits_from more (n / 10) ((48 + n % 10) ∷ text))) ≡ k + length text
        → ((k : ℕ) → 1 ≤ n / 10 → n / 10 < 10 ^ more → length (digits_from more (n / 10) ((48 + n % 10) ∷ text)) ≡ k + suc (length text)
        → decimal_on i (digits_from more (n / 10) ((48 + n % 10) ∷ text)) ≡ digits_on (10 * (n / 10) + n % 10) (i + k + 1) text)
        → decimal_on i (cond t ((48 + n) ∷ text) (digits_from more (n / 10) ((48 + n % 10) ∷ text))) ≡ digits_on n (i + k) text
    go true e l ih =
        let q = ltb-true n 10 e in
        let a : 48 + n - 48 ≡ n = omega arith in
        let b : 1 ≡ k = omega arith in
        rw (ne_eqb (48 + n) 48 (λ z. omega arith), is_digit_lem (48 + n) (omega arith) (omega arith), a, b)
    go false e l ih =
        let q = ltb-false n 10 e in
        let m = digits-least more (n / 10) ((48 + n % 10) ∷ text) in
        let s : n < 10 ^ more * 10 = rw (pow-suc 10 more) at h in
        let a : 10 * (n / 10) + n % 10 ≡ n = omega arith in
        let b : i + (k - 1) + 1 ≡ i + k = omega arith in
        rw (a, b) at (ih (k - 1) (omega arith) (omega arith) (omega arith))

-- a text that goes on with no digit
abbrev pub NoDigit : List ℕ → Type 0
NoDigit [] = Unit {0}
NoDigit (x ∷ text) = is_digit x ≡ false

digits-over : (v i : ℕ) (text : List ℕ) → NoDigit text → digits_on v i text ≡ whole v i
unfolding digits_on
digits-over v i [] h = refl
digits-over v i (x ∷ text) h = rw h

-- digits before other digits
digits-before : (more n : ℕ) (a b : List ℕ) → digits_from more n a ++ b ≡ digits_from more n (a ++ b)
unfolding digits_from
digits-before zero n a b = refl
digits-before (suc more) n a b = go (ltb n 10) (digits-before more (n / 10) ((48 + n % 10) ∷ a) b)
  where
    go : (t : Bool) → digits_from more (n / 10) ((48 + n % 10) ∷ a) ++ b ≡ digits_from more (n / 10) ((48 + n % 10) ∷ (a ++ b))
        → cond t ((48 + n) ∷ a) (digits_from more (n / 10) ((48 + n % 10) ∷ a)) ++ b
        ≡ cond t ((48 + n) ∷ (a ++ b)) (digits_from more (n / 10) ((48 + n % 10) ∷ (a ++ b)))
    go true e = refl
    go false e = e

pub decimal-back : (n i : ℕ) (rest : List ℕ) → n < 10 ^ 20 → NoDigit rest
    → decimal_on i (decimal n ++ rest) ≡ whole n (i + length (decimal n))
unfolding digits_from decimal_on
decimal-back zero i rest h e = refl
decimal-back (suc n) i rest h e =
    let l : length (digits_from 20 (suc n) rest) ≡ length (decimal (suc n)) + length rest =
    ap length (sym (digits-before 20 (suc n) [] rest)) ∙ length-append (decimal (suc n)) rest in
    ap (decimal_on i) (digits-before 20 (suc n) [] rest) ∙ digits-back 20 (suc n) (length (decimal (suc n))) i rest (omega arith) h l
    ∙ digits-over (suc n) (i + length (decimal (suc n))) rest e

-- What was read as a number: its digits, and how they are written.
record Digits (v i : ℕ) (text : List ℕ) (n j : ℕ) : Type 0 where
  digits : List ℕ
  rest : List ℕ
  parts : text ≡ digits ++ rest
  place : j ≡ i + length digits
  shift : (more : ℕ) (t : List ℕ) → digits_from (length digits + more) n t ≡ digits_from more v (digits ++ t)
  large : (m : ℕ) → 10 ^ m ≤ v → 10 ^ (m + length digits) ≤ n

no_more : (v i : ℕ) (text : List ℕ) (n j : ℕ) → whole v i ≡ whole n j → Digits v i text n j
no_more v i text n j e =
    let a : v ≡ n = cc in
    let b : i ≡ j = cc in
    record {
      digits = [];
      rest = text;
      parts = refl;
      place = omega arith;
      shift = λ more t. let z : 0 + more ≡ more = omega arith in rw (z, a);
      large = λ m h. let z : m + 0 ≡ m = omega arith in rw (z, ← a) h;
    }

-- a digit after others is written after them
one_more : (v x more : ℕ) (t : List ℕ) → 1 ≤ v → 48 ≤ x → x ≤ 57 → digits_from (suc more) (10 * v + (x - 48)) t ≡ digits_from more v (x ∷ t)
unfolding digits_from
one_more v x more t p a b =
    let e : (10 * v + (x - 48)) / 10 ≡ v = omega arith in
    let f : 48 + (10 * v + (x - 48)) % 10 ≡ x = omega arith in
    rw (le-ltb (10 * v + (x - 48)) 10 (omega arith), e, f)

digits-only : (v i : ℕ) (text : List ℕ) (n j : ℕ) → 1 ≤ v → digits_on v i text ≡ whole n j → Digits v i text n j
unfolding digits_on
digits-only v i [] n j p e = no_more v i [] n j e
digits-only v i (x ∷ text) n j p e = go (is_digit x) refl e (digits-only (10 * v + (x - 48)) (i + 1) text n j (omega arith))
  where
    go : (t : Bool) → is_digit x ≡ t → cond t (digits_on (10 * v + (x - 48)) (i + 1) text) (whole v i) ≡ whole n j
        → (digits_on (10 * v + (x - 48)) (i + 1) text ≡ whole n j → Digits (10 * v + (x - 48)) (i + 1) text n j) → Digits v i (x ∷ text) n j
    go true q e ih =
        let d = digit-range x q in
        let r = ih e in
        let s = r.digits in
        record {
          digits = x ∷ r.digits;
          rest = r.rest;
          parts = ap (λ (l : List ℕ). x ∷ l) r.parts;
          place = omega (arith, r.place);
          shift = λ more t.
              let z : suc (length r.digits) + more ≡ length r.digits + suc more = omega arith in
              rw z (r.shift (suc more) t ∙ one_more v x more (r.digits ++ t) p d.0 d.1);
          large = λ m h.
              let z : m + suc (length r.digits) ≡ suc m + length r.digits = omega arith in
              rw z (r.large (suc m) (rw (pow-suc 10 m) (omega arith)));
        }
    go false q e ih = no_more v i (x ∷ text) n j e

-- the whole of a number that was read, and what follows it
pub record Written (i : ℕ) (text : List ℕ) (n j : ℕ) : Type 0 where
  pub rest : List ℕ
  pub parts : text ≡ decimal n ++ rest
  pub place : j ≡ i + length (decimal n)

few : (k n : ℕ) → 10 ^ k ≤ n → n < 10 ^ 20 → k < 20
few k n a b = go (ltb k 20) refl
  where
    go : (t : Bool) → ltb k 20 ≡ t → k < 20
    go true e = ltb-true k 20 e
    go false e = absurd (omega (arith, pow-le-pow_right {n = 10} (omega arith) {i = 20} {j = k} (ltb-false k 20 e)))

first-digit : (x i : ℕ) (text : List ℕ) (n j : ℕ) → 49 ≤ x → x ≤ 57 → n < 10 ^ 20 → Digits (x - 48) (i + 1) text n j
    → Written i (x ∷ text) n j
unfolding digits_from
first-digit x i text n j a b h r =
    let l : 10 ^ length r.digits ≤ n = let z : 0 + length r.digits ≡ length r.digits = omega arith in
    rw z at (r.large 0 (omega arith)) in
    let k = few (length r.digits) n l h in
    let z : length r.digits + suc (19 - length r.digits) ≡ 20 = omega arith in
    let y : 48 + (x - 48) ≡ x = omega arith in
    let e : decimal n ≡ x ∷ r.digits = rw z at (r.shift (suc (19 - length r.digits)) [])
    ∙ rw (lt-ltb (x - 48) 10 (omega arith), y, append-nil) in
    record { rest = r.rest; parts = rw e (ap (λ (l : List ℕ). x ∷ l) r.parts); place = rw e (omega (arith, r.place)) }

pub decimal-only : (i : ℕ) (text : List ℕ) (n j : ℕ) → n < 10 ^ 20 → decimal_on i text ≡ whole n j → Written i text n j
unfolding decimal_on digits_from
decimal-only i [] n j h e = let z : ◌≡◌ {A = ℕ} 0 1 = cc in absurd (omega arith)
decimal-only i (x ∷ text) n j h e = go (eqb x 48) refl (is_digit x) refl e
  where
    go : (s : Bool) → eqb x 48 ≡ s → (t : Bool) → is_digit x ≡ t
        → cond s (whole 0 (i + 1)) (cond t (digits_on (x - 48) (i + 1) text) none) ≡ whole n j → Written i (x ∷ text) n j
    go true p t q e =
        let a : 0 ≡ n = cc in
        let b : i + 1 ≡ j = cc in
        record { rest = text; parts = rw (← a, eqb-true x 48 p); place = rw (← a) (omega arith) }
    go false p true q e =
        let d = digit-range x q in
        let m = eqb-false x 48 p in
        first-digit x i text n j (omega arith) (omega arith) h (digits-only (x - 48) (i + 1) text n j (omega arith) e)
    go false p false q e = let z : ◌≡◌ {A = ℕ} 0 1 = cc in absurd (omega arith)

-- a number below 10 to the k has at most k digits
digits-few : (more k n : ℕ) (text : List ℕ) → n < 10 ^ suc k → length (digits_from more n text) ≤ suc k + length text
unfolding digits_from
digits-few zero k n text h = omega arith
digits-few (suc more) zero n text h = go (ltb n 10) refl
  where
    go : (t : Bool) → ltb n 10 ≡ t → length (cond t ((48 + n) ∷ text) (digits_from more (n / 10) ((48 + n % 10) ∷ text))) ≤ 1 + length text
    go true e = omega arith
    go false e = absurd (omega (arith, ltb-false n 10 e))
digits-few (suc more) (suc k) n text h =
    go (ltb n 10)
    (digits-few more k (n / 10) ((48 + n % 10) ∷ text) (let l : n < 10 ^ suc k * 10 = rw (pow-suc 10 (suc k)) at h in omega arith))
  where
    go : (t : Bool) → length (digits_from more (n / 10) ((48 + n % 10) ∷ text)) ≤ suc k + suc (length text)
        → length (cond t ((48 + n) ∷ text) (digits_from more (n / 10) ((48 + n % 10) ∷ text))) ≤ suc (suc k) + length text
    go true e = omega arith
    go false e = omega arith

pub decimal-few : (k n : ℕ) → n < 10 ^ suc k → length (decimal n) ≤ suc k
decimal-few k n h = omega (arith, digits-few 20 k n [] h)
