-- By its method (Ways): absent, or the method's bits and then marks, runs or a list.
use Prim.Native.Nat.{ℕ, ◌+◌, ◌-◌, ◌≤◌}
use mathlib.Core.Path.{◌≡◌, refl}
use mathlib.Core.List.{◌++◌}
use native.Mathlib.Omega.{arith}
use lib.ListN.{take}
use Rattle.rules.specs.Bits.{low_bits}
use Rattle.rules.specs.Runs.{rice_forms}
use Rattle.rules.proofs.Octets.{length-low_bits}
use Rattle.write_bits.proofs.Putting.{puts_then, puts-as, able-as, able-then}
use Rattle.write_forms.specs.Ways.{marks_form, way_of}
use Rattle.write_forms.proofs.Pieces.{bits-length}
use Rattle.write_forms.proofs.Values.{number-then}
use Rattle.write_forms.proofs.Ways.{way-absent, way-marks, way-runs, way-listed}
use Rattle.write_forms.proofs.put_value.Goals.{Start}
use Rattle.write_forms.proofs.put_value.Goals as goal

module _ (c : Start) where
  absent : c.args.w.method ≡ 5 → low_bits 3 5 ≡ way_of c.args.w c.args.runs.now
  absent e = way-absent c.args.w.method c.args.w.d c.args.w.count (take c.args.w.runs c.args.runs.now) e

  marks : c.args.w.method ≡ 0 → low_bits 3 0 ++ marks_form c.args.w.count (take c.args.w.runs c.args.runs.now) ≡ way_of c.args.w c.args.runs.now
  marks e = way-marks c.args.w.method c.args.w.d c.args.w.count (take c.args.w.runs c.args.runs.now) e

  in-runs : (c.args.w.method ≡ 0 → ⊥) → c.args.w.method ≤ 4 → {v s : ℕ} → v ≡ c.args.w.method → s ≡ c.args.w.method
      → low_bits 3 v ++ rice_forms s (take c.args.w.runs c.args.runs.now) ≡ way_of c.args.w c.args.runs.now
  in-runs n h e f = way-runs c.args.w.method c.args.w.d c.args.w.count (take c.args.w.runs c.args.runs.now) n h e f

pub put-requires : goal.put-requires
put-requires c =
    record {
      able = able-as c.requires.able (omega (arith, bits-length 3 5 (absent (goal.at.put-requires c).Start c.in-5.is)));
      n_bound = (omega arith, omega arith);
    }

pub returns-in-5 : goal.returns-in-5
returns-in-5 c = puts-as c.put.ensures (absent (goal.at.returns-in-5 c).Start c.in-5.is)

pub put-requires-in-0-clause-able : goal.put-requires-in-0-clause-able
put-requires-in-0-clause-able c =
    able-as c.requires.able (omega (arith, number-then 3 0 _ (marks (goal.at.put-requires-in-0-clause-able c).Start c.in-0.is)))

pub put_marks-requires-clause-able : goal.put_marks-requires-clause-able
put_marks-requires-clause-able c =
    able-then _ c.requires.able c.put-in-0.ensures c.put-in-0.auto.out
    (omega (arith, number-then 3 0 _ (marks (goal.at.put_marks-requires-clause-able c).Start c.in-0.is), length-low_bits 3 0))

pub returns-in-0 : goal.returns-in-0
returns-in-0 c = puts-as (puts_then c.put-in-0.ensures c.put_marks.ensures) (marks (goal.at.returns-in-0 c).Start c.in-0.is)

pub put-requires-in-1-to-4-clause-able : goal.put-requires-in-1-to-4-clause-able
put-requires-in-1-to-4-clause-able c =
    let e = in-runs (goal.at.put-requires-in-1-to-4-clause-able c).Start (λ z. omega arith) (omega arith) refl refl in
    able-as c.requires.able (omega (arith, number-then 3 _ _ e))

pub put_runs-requires-clause-able : goal.put_runs-requires-clause-able
put_runs-requires-clause-able c =
    let e = in-runs (goal.at.put_runs-requires-clause-able c).Start (λ z. omega arith) (omega arith) c.from.ensures c.from-in-1-to-4.ensures in
    able-then _ c.requires.able c.put-in-1-to-4.ensures c.put-in-1-to-4.auto.out
    (omega (arith, number-then 3 _ _ e, length-low_bits 3 c.from.result))

pub returns-in-1-to-4 : goal.returns-in-1-to-4
returns-in-1-to-4 c =
    puts-as (puts_then c.put-in-1-to-4.ensures c.put_runs.ensures)
    (in-runs (goal.at.returns-in-1-to-4 c).Start (λ z. omega arith) (omega arith) c.from.ensures c.from-in-1-to-4.ensures)

pub put-requires-in_default-clause-able : goal.put-requires-in_default-clause-able
put-requires-in_default-clause-able c =
    let w = c.args.w in
    let e = way-listed w.method w.d w.count (take w.runs c.args.runs.now) (λ z. omega arith) (omega arith) refl refl in
    able-as c.requires.able (omega (arith, number-then 5 _ _ e))

pub put_listed-requires-clause-able : goal.put_listed-requires-clause-able
put_listed-requires-clause-able c =
    let w = c.args.w in
    let e = way-listed w.method w.d w.count (take w.runs c.args.runs.now) (λ z. omega arith) (omega arith) c.width_of.ensures.0 refl in
    able-then _ c.requires.able c.put-in_default.ensures c.put-in_default.auto.out
    (omega (arith, number-then 5 _ _ e, length-low_bits 5 (28 + w.count - 1)))

pub returns-in_default : goal.returns-in_default
returns-in_default c =
    let w = c.args.w in
    puts-as (puts_then c.put-in_default.ensures c.put_listed.ensures)
    (way-listed w.method w.d w.count (take w.runs c.args.runs.now) (λ z. omega arith) (omega arith) c.width_of.ensures.0 refl)
