-- The first octet of a frame: it is read whole, and what it begins has one of the five lengths.
use Prim.Native.Nat.{ℕ, ◌+◌, ◌-◌, ◌≤◌, ◌<◌}
use mathlib.Core.Path.{◌≡◌, refl, ap, ◌∙◌}
use mathlib.Core.List.{List, [], ◌∷◌}
use mathlib.Core.Bool.{Bool, true, false, not, ◌&&◌, ◌||◌, false≢true}
use native.Mathlib.Omega.{arith}
use lib.Dec.{eqb, leb, ltb, lit<}
use lib.ListN.{length, get_or}
use borrow.Author.Tests.{eqb-true, eqb-false, ltb-true}
use Rattle.rules.specs.declared.Refusal.TheVariants.{Short}
use Rattle.rules.specs.Tools.{is_length}
use Rattle.rules.specs.Bits.{low_bits, bits_of}
use Rattle.rules.specs.Reading.{whole, refuse, bit, number_from}
use Rattle.rules.specs.First.{First, pad, rows, look_up, first_octet, octet_for}
use Rattle.rules.specs.Fractional.{first_code, row_count}
use Rattle.rules.specs.Frame.{with_tool, after_first, frame}
use Rattle.rules.proofs.Octets.{value-low_bits}
use Rattle.rules.proofs.Tests.{and_left, and_right}
use Rattle.rules.proofs.Firsts.{rows_few, as_written, first-as-written}
use Rattle.read_bits.proofs.Window.{number-there}
use Rattle.first_octet.specs.declared.Begins.{Begins}
use Rattle.first_octet.specs.declared.Begins.TheVariants.{Unassigned, Pad, Tool, SixOrEight}
use Rattle.first_octet.specs.Answers.{tool_with, as_first}
use Rattle.read_opening.specs.Opening.{row_in, body_by}

first_read : (s : List ℕ) → 1 ≤ length s → get_or s 0 0 < 256 → number_from 0 8 (bits_of s) 0 ≡ whole (get_or s 0 0) 8
unfolding bits_of low_bits
first_read [] h o = absurd (omega arith)
first_read (x ∷ s) h o =
    number-there (x ∷ s) 0 8 0 (omega arith) ∙ ap (λ (v : ℕ). whole v 8) (value-low_bits 0 8 x ∙ omega arith)

pub opened : (s : List ℕ) → 1 ≤ length s → get_or s 0 0 < 256 → (f : First) → f ≡ first_octet (get_or s 0 0)
    → (mask set room : ℕ) → after_first mask set room f (bits_of s) 8 ≡ frame mask set room (bits_of s) 0
unfolding frame
opened s h o f e mask set room = rw (first_read s h o, e)

pub zero-pad : (o : ℕ) → o ≡ 0 → pad ≡ first_octet o
unfolding first_octet look_up rows
zero-pad o e = rw e

pub no-octets : (s : List ℕ) → length s ≡ 0 → (mask set room : ℕ) → refuse Short 0 ≡ frame mask set room (bits_of s) 0
unfolding frame bits_of number_from bit
no-octets [] h mask set room = refl
no-octets (x ∷ s) h mask set room = absurd (omega arith)

-- what first octet o tells with tool t: that length and row are known, and which body it is
pub record Known (o t n : ℕ) : Type 0 where
  pub len : is_length n ≡ true
  pub row : row_in o t n < 12
  pub code : t ≡ 11 → first_code n ≤ o
  pub says : (mask set room : ℕ) (b : List ℕ) (i : ℕ)
      → with_tool set room t n (body_by mask t n (row_in o t n)) b i ≡ after_first mask set room (tool_with o t n) b i

known : (o t n : ℕ) (eleven : Bool) → eqb t 11 ≡ eleven → as_written o (tool_with o t n) ≡ true → Known o t n
unfolding body_by after_first
known o t n true e q =
    let k = o - first_code n in
    let is : t ≡ 11 = eqb-true t 11 e in
    let w : is_length n && (ltb k (row_count n) && eqb o (first_code n + k)) ≡ true = rw e at q in
    let len = and_left (is_length n) (ltb k (row_count n) && eqb o (first_code n + k)) w in
    let both = and_right (is_length n) (ltb k (row_count n) && eqb o (first_code n + k)) w in
    let low = ltb-true k (row_count n) (and_left (ltb k (row_count n)) (eqb o (first_code n + k)) both) in
    let sum = eqb-true o (first_code n + k) (and_right (ltb k (row_count n)) (eqb o (first_code n + k)) both) in
    record {
      len = len;
      row = rw e (omega (arith, rows_few n len, low));
      code = λ z. omega (arith, sum);
      says = λ mask set room b i. rw is refl;
    }
known o t n false e q =
    let w : is_length n && (not (eqb t 6 || eqb t 11) && (leb 8 t || eqb o (octet_for t n))) ≡ true = rw e at q in
    let len = and_left (is_length n) _ w in
    let six = not-six (eqb t 6) (eqb t 11) (and_left (not (eqb t 6 || eqb t 11)) _ (and_right (is_length n) _ w)) in
    record {
      len = len;
      row = rw e (lit< tt);
      code = λ z. absurd (eqb-false t 11 e z);
      says = λ mask set room b i. rw (e, six) refl;
    }
  where
    not-six : (a b : Bool) → not (a || b) ≡ true → a ≡ false
    not-six true b h = absurd (false≢true h)
    not-six false b h = refl

-- where an octet begins a frame, the length is one of the five, and its row one of the twelve
abbrev pub LengthKnown : ℕ → Begins → Type 0
LengthKnown o Unassigned = Unit {0}
LengthKnown o Pad = Unit {0}
LengthKnown o (Tool t n) = Known o t n
LengthKnown o (SixOrEight n) = is_length n ≡ true

pub length-known : (o : ℕ) → o < 256 → (b : Begins) → as_first o b ≡ first_octet o → LengthKnown o b
length-known o h b e = go b (ap (as_written o) e ∙ first-as-written o h)
  where
    go : (b : Begins) → as_written o (as_first o b) ≡ true → LengthKnown o b
    go Unassigned q = tt
    go Pad q = tt
    go (Tool t n) q = known o t n (eqb t 11) refl q
    go (SixOrEight n) q = and_left (is_length n) _ q
