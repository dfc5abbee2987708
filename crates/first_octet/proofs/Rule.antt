-- The rule of the table of first octets: each entry tells what `first_octet` says of its place.
use mathlib.Core.Path.{◌≡◌, refl, ap}
use mathlib.Core.Bool.{Bool, true, false, ◌&&◌}
use Prim.Native.Nat.{ℕ, ◌<◌}
use lib.Dec.{eqb}
use borrow.Author.Tests.{eqb-true}
use Rattle.rules.specs.First.{First, unassigned, pad, tool, fractional_row, six_or_eight, first_octet}
use Rattle.first_octet.specs.Answers.{entry_tells}
use Rattle.rules.proofs.Tests.{and_left, and_right, all_below, all_below-at}

-- two answers of the map are the same
abbrev same : First → First → Bool
same unassigned g = elim g [ unassigned ↦ true | pad ↦ false | tool u m ↦ false | fractional_row u m ↦ false | six_or_eight m ↦ false ]
same pad g = elim g [ unassigned ↦ false | pad ↦ true | tool u m ↦ false | fractional_row u m ↦ false | six_or_eight m ↦ false ]
same (tool t n) g =
    elim g [ unassigned ↦ false | pad ↦ false | tool u m ↦ eqb t u && eqb n m | fractional_row u m ↦ false | six_or_eight m ↦ false ]
same (fractional_row t n) g =
    elim g [ unassigned ↦ false | pad ↦ false | tool u m ↦ false | fractional_row u m ↦ eqb t u && eqb n m | six_or_eight m ↦ false ]
same (six_or_eight n) g = elim g [ unassigned ↦ false | pad ↦ false | tool u m ↦ false | fractional_row u m ↦ false | six_or_eight m ↦ eqb n m ]

told : (f g : First) → same f g ≡ true → f ≡ g
told unassigned unassigned t = refl
told unassigned pad t = cc
told unassigned (tool u m) t = cc
told unassigned (fractional_row u m) t = cc
told unassigned (six_or_eight m) t = cc
told pad unassigned t = cc
told pad pad t = refl
told pad (tool u m) t = cc
told pad (fractional_row u m) t = cc
told pad (six_or_eight m) t = cc
told (tool v n) unassigned t = cc
told (tool v n) pad t = cc
told (tool v n) (tool u m) t =
    rw (eqb-true v u (and_left (eqb v u) (eqb n m) t), eqb-true n m (and_right (eqb v u) (eqb n m) t))
told (tool v n) (fractional_row u m) t = cc
told (tool v n) (six_or_eight m) t = cc
told (fractional_row v n) unassigned t = cc
told (fractional_row v n) pad t = cc
told (fractional_row v n) (tool u m) t = cc
told (fractional_row v n) (fractional_row u m) t =
    rw (eqb-true v u (and_left (eqb v u) (eqb n m) t), eqb-true n m (and_right (eqb v u) (eqb n m) t))
told (fractional_row v n) (six_or_eight m) t = cc
told (six_or_eight n) unassigned t = cc
told (six_or_eight n) pad t = cc
told (six_or_eight n) (tool u m) t = cc
told (six_or_eight n) (fractional_row u m) t = cc
told (six_or_eight n) (six_or_eight m) t = ap six_or_eight (eqb-true n m t)

abbrev right : (ℕ → ℕ) → ℕ → Bool
right entry o = same (entry_tells o (entry o)) (first_octet o)

pub rule : (entry : ℕ → ℕ) → all_below (right entry) 256 ≡ true → (o : ℕ) → o < 256 → entry_tells o (entry o) ≡ first_octet o
rule entry t o h = told _ _ (all_below-at (right entry) 256 t o h)
