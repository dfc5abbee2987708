-- The values by the flag, then their octets.
use Prim.Native.Nat.{ℕ, ◌≤◌}
use mathlib.Core.Path.{◌≡◌, refl}
use mathlib.Core.List.{List, [], ◌∷◌, map}
use native.Mathlib.Omega.{arith}
use Rattle.rules.specs.Samples.{sample_of}
use Rattle.rules.specs.Located.{RangeCase, case0, case_of, values_of}
use Rattle.read_located.specs.declared.Row.{Row}
use Rattle.read_located.specs.Valued.{RowOf}
use Rattle.read_located.proofs.Rows.{Three, three, is-case0}
use Rattle.read_located.proofs.Rows.{too_short, with-flag, without-flag, row_as, none-as}
use Rattle.read_located.proofs.three_values.Goals.{Start}
use Rattle.read_located.proofs.three_values.Goals as goal

module _ (c : Start) where
  octets : Three c.args.mask
  octets = three c.args.mask (omega arith)

  module _ (r : RangeCase) (e : case_of 0 ≡ r) (h : r.from ≤ c.args.n) {xs : List ℕ} {w : Row} where
    flagged : c.args.flag ≡ 1 → map (sample_of c.args.mask) r.flag1 ≡ xs → RowOf xs w
        → RowOf (map (sample_of c.args.mask) (values_of c.args.n 0 c.args.flag)) w
    flagged f m t = row_as c.args.mask (with-flag c.args.n 0 c.args.flag r e h f) m t

    plain : (c.args.flag ≡ 1 → ⊥) → map (sample_of c.args.mask) r.flag0 ≡ xs → RowOf xs w
        → RowOf (map (sample_of c.args.mask) (values_of c.args.n 0 c.args.flag)) w
    plain f m t = row_as c.args.mask (without-flag c.args.n 0 c.args.flag r e h f) m t

-- the row's octets
three_of : (a b d : ℕ) → RowOf (a ∷ b ∷ d ∷ []) (record { count = 3; octets = a ∷ b ∷ d ∷ [] })
three_of a b d = record { values = refl; some = omega arith; few = omega arith; room = refl }

pub returns-then-n-lt240 : goal.returns-then-n-lt240
returns-then-n-lt240 c =
    let a = c.args in
    none-as a.mask (too_short a.n 0 a.flag case0 (is-case0 0 refl) (omega arith)) refl

pub returns-then-flag-eq1 : goal.returns-then-flag-eq1
returns-then-flag-eq1 c =
    let t = octets (goal.at.returns-then-flag-eq1 c).Start in
    flagged (goal.at.returns-then-flag-eq1 c).Start case0 (is-case0 0 refl) (omega arith) (omega arith)
    (rw (t.one, t.minus, t.less)) (three_of _ _ _)

pub returns-else-flag-eq1 : goal.returns-else-flag-eq1
returns-else-flag-eq1 c =
    let t = octets (goal.at.returns-else-flag-eq1 c).Start in
    plain (goal.at.returns-else-flag-eq1 c).Start case0 (is-case0 0 refl) (omega arith) c.if-flag-eq1.false
    (rw (t.one, t.minus, t.less)) (three_of _ _ _)
