-- R-14 of whole frames, by their first octet: one of 02 to 1F is refused by TOOL, ROOM, SHORT or PLACE alone (`four-refusals`); TOOL 11 is
-- given with every set up to 127 (`tool-eleven`), and with no other (`tool-eleven-only`).
use Prim.Native.Nat.{ℕ, ◌/◌, ◌%◌, ◌≤◌, ◌<◌}
use native.Mathlib.Omega.{arith}
use mathlib.Core.Path.{◌≡◌, refl, sym, ap, ◌∙◌}
use mathlib.Core.List.{List, ◌∷◌, ◌++◌}
use mathlib.Core.Bool.{Bool, true, false, false≢true}
use lib.Dec.{leb}
use borrow.Author.Tests.{eq-eqb, leb-true, leb-false, le-leb}
use Rattle.rules.specs.declared.Refusal.{Refusal}
use Rattle.rules.specs.declared.Refusal.TheVariants.{Tool}
use Rattle.rules.specs.Tools.{holds, is_set, is_law}
use Rattle.rules.specs.Bits.{low_bits, bits_of}
use Rattle.rules.specs.Samples.{mask_of}
use Rattle.rules.specs.Reading.{whole, refuse, number}
use Rattle.rules.specs.Fractional.{fractional}
use Rattle.rules.specs.Frame.{with_tool, after_first, frame, read_one}
use Rattle.rules.proofs.Octets.{length-low_bits}
use Rattle.rules.proofs.Firsts.{row_of}
use Rattle.promises.proofs.Back.{back-number, back-first}
use Rattle.promises.proofs.Before.{eleven-out}
use Rattle.promises.proofs.Only.{asked, tool-lacks}
use Rattle.promises.proofs.Fractional.{OneOfFour, eleven-refused}

-- the frame is its first octet's row
row_read : (o : ℕ) (octets : List ℕ) (law set room : ℕ) (low : 0x02 ≤ o) (high : o ≤ 0x1F) → is_law law ≡ true → is_set set ≡ true
    → read_one (o ∷ octets) law set room
    ≡ with_tool set room 11 (row_of o low high).n (fractional (mask_of law) (row_of o low high).row (row_of o low high).n)
    (low_bits 8 o ++ bits_of octets) 8
unfolding read_one bits_of frame after_first
row_read o octets law set room low high l s =
    let first : number 8 (low_bits 8 o ++ bits_of octets) 0 ≡ whole o 8 =
    back-first (back-number 8 o (omega arith)) (bits_of octets) ∙ ap (λ i. whole o i) (length-low_bits 8 o) in
    rw (l, s, first, (row_of o low high).is) refl

pub four-refusals : (o : ℕ) (octets : List ℕ) (law set room : ℕ) (w : Refusal) (at : ℕ) → 0x02 ≤ o → o ≤ 0x1F → is_law law ≡ true
    → is_set set ≡ true → read_one (o ∷ octets) law set room ≡ refuse w at → OneOfFour w
four-refusals o octets law set room w at low high l s e =
    let r = row_of o low high in
    eleven-refused (mask_of law) set room r.n r.row r.len r.few (low_bits 8 o ++ bits_of octets) w at
    (sym (row_read o octets law set room low high l s) ∙ e)

-- "Only sets up to 127 now give TOOL 11"
eleven-in : (set : ℕ) → 127 < set → set ≤ 255 → holds set 11 ≡ true
unfolding holds
eleven-in set l h = eq-eqb (set / 128 % 2) 1 (omega arith)

pub tool-eleven : (o : ℕ) (octets : List ℕ) (law set room : ℕ) → 0x02 ≤ o → o ≤ 0x1F → is_law law ≡ true → set ≤ 127
    → read_one (o ∷ octets) law set room ≡ refuse (Tool 11) 0
unfolding with_tool
tool-eleven o octets law set room low high l h =
    row_read o octets law set room low high l (le-leb set 255 (omega arith)) ∙ rw (eleven-out set h) refl

pub tool-eleven-only : (octets : List ℕ) (law set room at : ℕ) → read_one octets law set room ≡ refuse (Tool 11) at → set ≤ 127
tool-eleven-only octets law set room at e = go (leb set 127) refl
  where
    small : set ≤ 255
    small = leb-true set 255 (asked octets law set room (Tool 11) at (λ q. let z : ◌≡◌ {A = ℕ} 0 1 = cc in omega arith)
        (λ q. let z : ◌≡◌ {A = ℕ} 0 1 = cc in omega arith) e).small

    go : (t : Bool) → leb set 127 ≡ t → set ≤ 127
    go true q = leb-true set 127 q
    go false q =
        absurd (false≢true (sym (tool-lacks octets law set room 11 at e) ∙ eleven-in set (leb-false set 127 q) small))
