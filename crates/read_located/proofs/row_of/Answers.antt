-- Row by row (Rows): the values by the case and the flag, then their octets.
use Prim.Native.Nat.{ℕ, ◌≤◌}
use mathlib.Core.Path.{◌≡◌, refl}
use mathlib.Core.List.{List, [], ◌∷◌, map}
use native.Mathlib.Omega.{arith}
use Rattle.rules.specs.Samples.{sample_of}
use Rattle.rules.specs.Located.{RangeCase, case1, case2, case3, case_of, values_of}
use Rattle.read_located.specs.declared.Row.{Row}
use Rattle.read_located.specs.Valued.{RowOf}
use Rattle.read_located.proofs.Rows.{Three, three, is-case1, is-case2, is-case3}
use Rattle.read_located.proofs.Rows.{with-flag, without-flag, no_row, row_as, none-as}
use Rattle.read_located.proofs.row_of.Goals.{Start}
use Rattle.read_located.proofs.row_of.Goals as goal

module _ (c : Start) where
  octets : Three c.args.mask
  octets = three c.args.mask (omega arith)

  module _ (r : RangeCase) (e : case_of c.args.case ≡ r) (h : r.from ≤ c.args.n) {xs : List ℕ} {w : Row} where
    flagged : c.args.flag ≡ 1 → map (sample_of c.args.mask) r.flag1 ≡ xs → RowOf xs w
        → RowOf (map (sample_of c.args.mask) (values_of c.args.n c.args.case c.args.flag)) w
    flagged f m t = row_as c.args.mask (with-flag c.args.n c.args.case c.args.flag r e h f) m t

    plain : (c.args.flag ≡ 1 → ⊥) → map (sample_of c.args.mask) r.flag0 ≡ xs → RowOf xs w
        → RowOf (map (sample_of c.args.mask) (values_of c.args.n c.args.case c.args.flag)) w
    plain f m t = row_as c.args.mask (without-flag c.args.n c.args.case c.args.flag r e h f) m t

-- a row's first octets
two_of : (a b d : ℕ) → RowOf (a ∷ b ∷ []) (record { count = 2; octets = a ∷ b ∷ d ∷ [] })
two_of a b d = record { values = refl; some = omega arith; few = omega arith; room = refl }

one_of : (a b d : ℕ) → RowOf (a ∷ []) (record { count = 1; octets = a ∷ b ∷ d ∷ [] })
one_of a b d = record { values = refl; some = omega arith; few = omega arith; room = refl }

pub returns-then-n-lt80 : goal.returns-then-n-lt80
returns-then-n-lt80 c =
    let a = c.args in none-as a.mask (no_row a.n a.case a.flag (omega arith)) refl

pub returns-then-case-eq0 : goal.returns-then-case-eq0
returns-then-case-eq0 c =
    let e : c.args.case ≡ 0 = omega arith in rw e c.three_values.ensures

pub returns-then-flag-eq1 : goal.returns-then-flag-eq1
returns-then-flag-eq1 c =
    let t = octets (goal.at.returns-then-flag-eq1 c).Start in
    flagged (goal.at.returns-then-flag-eq1 c).Start case1 (is-case1 c.args.case (omega arith)) (omega arith) (omega arith)
    (rw (t.one, t.minus)) (two_of _ _ _)

pub returns-else-flag-eq1 : goal.returns-else-flag-eq1
returns-else-flag-eq1 c =
    let t = octets (goal.at.returns-else-flag-eq1 c).Start in
    plain (goal.at.returns-else-flag-eq1 c).Start case1 (is-case1 c.args.case (omega arith)) (omega arith) c.if-flag-eq1.false
    (rw (t.one, t.minus)) (two_of _ _ _)

pub returns-then-flag-eq1-2 : goal.returns-then-flag-eq1-2
returns-then-flag-eq1-2 c =
    let a = c.args in
    none-as a.mask (with-flag a.n a.case a.flag case2 (is-case2 a.case (omega arith)) (omega arith) (omega arith)) refl

pub returns-else-flag-eq1-2 : goal.returns-else-flag-eq1-2
returns-else-flag-eq1-2 c =
    let t = octets (goal.at.returns-else-flag-eq1-2 c).Start in
    plain (goal.at.returns-else-flag-eq1-2 c).Start case2 (is-case2 c.args.case (omega arith)) (omega arith) c.if-flag-eq1-2.false
    (rw (t.minus, t.less)) (two_of _ _ _)

pub returns-then-flag-eq1-3 : goal.returns-then-flag-eq1-3
returns-then-flag-eq1-3 c =
    let t = octets (goal.at.returns-then-flag-eq1-3 c).Start in
    flagged (goal.at.returns-then-flag-eq1-3 c).Start case3 (is-case3 c.args.case (omega arith)) (omega arith) (omega arith)
    (rw t.one) (one_of _ _ _)

pub returns-else-flag-eq1-3 : goal.returns-else-flag-eq1-3
returns-else-flag-eq1-3 c =
    let a = c.args in
    none-as a.mask (without-flag a.n a.case a.flag case3 (is-case3 a.case (omega arith)) (omega arith) c.if-flag-eq1-3.false) refl
