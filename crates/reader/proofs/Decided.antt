-- The tool is decided: TOOL, ROOM, the body as it was read, and the filling.
use Prim.Native.Nat.{ℕ, ◌*◌, ◌≤◌, ◌<◌}
use mathlib.Core.Path.{◌≡◌, sym}
use mathlib.Core.List.{List}
use mathlib.Core.Bool.{true, false, cond}
use lib.Dec.{eqb, lit≤}
use lib.ListN.{length}
use borrow.Author.Tests.{lt-ltb, le-ltb, ne_eqb}
use Rattle.rules.specs.declared.Refusal.{Refusal}
use Rattle.rules.specs.declared.Refusal.TheVariants.{Tool, Room}
use Rattle.rules.specs.Tools.{holds, is_length}
use Rattle.rules.specs.Bits.{bits_of}
use Rattle.rules.specs.Reading.{whole, refuse, Reader}
use Rattle.rules.specs.Samples.{mask_of}
use Rattle.rules.specs.Located.{located}
use Rattle.rules.specs.Fractional.{fractional}
use Rattle.rules.specs.Frame.{body, with_tool}
use Rattle.read_opening.specs.Opening.{body_by}
use Rattle.rules.proofs.Octets.{Sized, length-bits_of, bits_of-below}
use Rattle.rules.proofs.Tests.{by_length}
use Rattle.rules.proofs.Signed.{LawMask, law-mask}
use Rattle.rules.proofs.Accepted.{gives-fractional, gives-plus_minus, gives-body}
use Rattle.rules.proofs.Gives.{Gives, gives-cond}
use Rattle.reader.specs.Answers.{finish}

module _ (set room t n : ℕ) (r : Reader (List ℕ)) (b : List ℕ) (i : ℕ) where
  pub no-tool : holds set t ≡ false → refuse (Tool t) 0 ≡ with_tool set room t n r b i
  unfolding with_tool
  no-tool h = rw h

  pub no_room : holds set t ≡ true → room < n → refuse Room 0 ≡ with_tool set room t n r b i
  unfolding with_tool
  no_room h l = rw (h, lt-ltb room n l)

  pub no_body : holds set t ≡ true → n ≤ room → {w : Refusal} {at : ℕ} → r b i ≡ refuse w at
      → refuse w at ≡ with_tool set room t n r b i
  unfolding with_tool
  no_body h l e = rw (h, le-ltb room n l, e)

  pub with-body : holds set t ≡ true → n ≤ room → {s : List ℕ} {j : ℕ} → r b i ≡ whole s j
      → finish t s j b ≡ with_tool set room t n r b i
  unfolding with_tool
  with-body h l e = rw (h, le-ltb room n l, e)

gives-body_by : {mask : ℕ} → LawMask mask → (t n mark : ℕ) → is_length n ≡ true → Gives (body_by mask t n mark) (Sized 256 n)
unfolding body_by
gives-body_by l t n mark len =
    gives-cond (eqb t 6) (λ e. gives-plus_minus l n mark) (λ e.
    gives-cond (eqb t 11) (λ e. gives-fractional l mark n len) (λ e. gives-body l t n len))

-- a body that was read whole ends within the octets
pub body-within : (law t n mark : ℕ) → is_length n ≡ true → (s : List ℕ) (i : ℕ) {x : List ℕ} {j : ℕ} → i ≤ 8 * length s
    → body_by (mask_of law) t n mark (bits_of s) i ≡ whole x j → j ≤ 8 * length s
body-within law t n mark len s i h e =
    rw length-bits_of at ((gives-body_by (law-mask law) t n mark len).on (bits_of-below s) (rw length-bits_of h) e).1

-- and has the frame's length
pub body-size : (law t n mark : ℕ) → is_length n ≡ true → (s : List ℕ) (i : ℕ) {x : List ℕ} {j : ℕ} → i ≤ 8 * length s
    → body_by (mask_of law) t n mark (bits_of s) i ≡ whole x j → n ≡ length x
body-size law t n mark len s i h e =
    sym ((gives-body_by (law-mask law) t n mark len).on (bits_of-below s) (rw length-bits_of h) e).2.size

-- the last of the tools, 7 and 11
pub last-body : (mask t n mark : ℕ) → (t ≡ 1 → ⊥) → (t ≡ 2 → ⊥) → (t ≡ 3 → ⊥) → (t ≡ 4 → ⊥) → (t ≡ 5 → ⊥) → (t ≡ 6 → ⊥)
    → body_by mask t n mark ≡ cond (eqb t 11) (fractional mask mark n) (located mask n)
unfolding body_by body
last-body mask t n mark a b c d e f = rw (ne_eqb t 1 a, ne_eqb t 2 b, ne_eqb t 3 c, ne_eqb t 4 d, ne_eqb t 5 e, ne_eqb t 6 f)

-- the lengths' range
pub length-range : (n : ℕ) → is_length n ≡ true → (1 ≤ n) × (n ≤ 320)
length-range n h =
    by_length (λ n. (1 ≤ n) × (n ≤ 320)) (lit≤ tt, lit≤ tt) (lit≤ tt, lit≤ tt) (lit≤ tt, lit≤ tt) (lit≤ tt, lit≤ tt) (lit≤ tt, lit≤ tt) n h
