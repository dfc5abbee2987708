-- "Room is never short": a frame has at most 320 samples (`read-most`), so more room changes nothing (`read-room`).
use Prim.Native.Nat.{ℕ, ◌+◌, ◌≤◌, zero-le}
use mathlib.Core.Path.{◌≡◌, refl}
use mathlib.Core.List.{List}
use mathlib.Core.Bool.{Bool, true, false, cond, not}
use native.Mathlib.Omega.{arith}
use lib.Dec.{eqb, lit≤}
use lib.ListN.{length}
use borrow.Author.Tests.{le-ltb, eqb-true}
use Rattle.rules.specs.declared.Refusal.TheVariants.{Law, Set}
use Rattle.rules.specs.Tools.{is_length, is_law, is_set}
use Rattle.rules.specs.Bits.{bits_of}
use Rattle.rules.specs.Reading.{Read, whole, refuse, Reader, and_then, fail, bit, number}
use Rattle.rules.specs.First.{First, unassigned, pad, tool, fractional_row, six_or_eight, first_octet, mark_at, six_not_eight}
use Rattle.rules.specs.Samples.{mask_of}
use Rattle.rules.specs.Frame.{Found, with_tool, after_first, frame, read_one}
use Rattle.rules.proofs.Octets.{Below, bits_of-below}
use Rattle.rules.proofs.Tests.{and_left, or_cases, by_length}
use Rattle.rules.proofs.Firsts.{as_written, first-as-written}
use Rattle.rules.proofs.Gives.{gives-number}
use Rattle.rules.proofs.Accepted.{read-accepts}

pub length_most : (n : ℕ) → is_length n ≡ true → n ≤ 320
length_most n h = by_length (λ n. n ≤ 320) (lit≤ tt) (lit≤ tt) (lit≤ tt) (lit≤ tt) (lit≤ tt) n h

-- two readings that go on alike
alike : {A B : Type 0} (r : Read A) (f g : A → ℕ → Read B) → ((a : A) (i : ℕ) → r ≡ whole a i → f a i ≡ g a i) → and_then r f ≡ and_then r g
alike (whole a i) f g h = h a i refl
alike (refuse w at) f g h = refl

module _ (mask set room : ℕ) (enough : 320 ≤ room) where
  with-tool : (t n : ℕ) (r : Reader (List ℕ)) → is_length n ≡ true → (b : List ℕ) (i : ℕ)
      → with_tool set room t n r b i ≡ with_tool set 320 t n r b i
  unfolding with_tool
  with-tool t n r l b i =
      let m = length_most n l in
      rw (le-ltb room n (omega arith), le-ltb 320 n m)

  after_first_lem : (o : ℕ) (first : First) → as_written o first ≡ true → (b : List ℕ) (i : ℕ)
      → after_first mask set room first b i ≡ after_first mask set 320 first b i
  unfolding after_first
  after_first_lem o unassigned w b i = refl
  after_first_lem o pad w b i = refl
  after_first_lem o (tool t n) w b i = with-tool t n _ (and_left (is_length n) _ w) b i
  after_first_lem o (fractional_row k n) w b i = with-tool 11 n _ (and_left (is_length n) _ w) b i
  after_first_lem o (six_or_eight n) w b i =
      alike (bit b (mark_at n)) _ _
      (λ mark k p. alike (six_not_eight b k) _ _ (λ t j q. with-tool t n _ (and_left (is_length n) _ w) b (mark_at n + 1)))

  one-frame : {b : List ℕ} → Below 2 b → frame mask set room b 0 ≡ frame mask set 320 b 0
  unfolding frame
  one-frame {b} z =
      alike (number 8 b 0) _ _ (λ o k p.
      let g = (gives-number 8).on z zero-le p in
      after_first_lem o (first_octet o) (first-as-written o g.2) b k)

-- "Order: LAW, SET", then the frame
guarded : (r r' : Reader Found) (b : List ℕ) → r b 0 ≡ r' b 0 → (p q : Bool)
    → cond p (fail Law 0) (cond q (fail Set 0) r) b 0 ≡ cond p (fail Law 0) (cond q (fail Set 0) r') b 0
guarded r r' b e true q = refl
guarded r r' b e false true = refl
guarded r r' b e false false = e

pub read-room : (octets : List ℕ) (law set room : ℕ) → 320 ≤ room → read_one octets law set room ≡ read_one octets law set 320
unfolding read_one
read-room octets law set room h =
    guarded (frame (mask_of law) set room) (frame (mask_of law) set 320) (bits_of octets)
    (one-frame (mask_of law) set room h (bits_of-below octets)) (not (is_law law)) (not (is_set set))

-- an accepted frame has at most 320 samples
pub read-most : (octets : List ℕ) (law set room : ℕ) {f : Found} {j : ℕ} → read_one octets law set room ≡ whole f j
    → length f.samples ≤ 320
read-most octets law set room {f} e =
    let n = length f.samples in
    or_cases (n ≤ 320) (eqb n 0) (is_length n) (read-accepts octets law set room e).size (λ z. omega (arith, eqb-true n 0 z))
    (λ l. length_most n l)
