-- Row by row, beside the notes' heads (Matched).
use Prim.Native.Nat.{ℕ, ◌+◌, ◌*◌, ◌<◌}
use mathlib.Core.Path.{◌≡◌, sym, ap, ap₂, ◌∙◌}
use mathlib.Core.List.{List, ◌∷◌}
use native.Mathlib.Omega.{arith}
use lib.ListN.{drop, length}
use Rattle.store_rows.specs.declared.rows.Row.{Row}
use Rattle.store_rows.specs.Cells.{row_at, rows_at, rows_in}
use Rattle.store_rows.proofs.Cells.{length-rows}
use Rattle.store_rows.proofs.Left.{left, left-all}
use Rattle.store_notes.specs.Cells.{in_row}
use Rattle.store_notes.specs.Sane.{matched}
use Rattle.store_notes.proofs.Matched.{matched-law, matched-many, matched-turn}
use mathlib.Core.Bool.{false}
use Rattle.store_notes.proofs.fits.Goals.{After-head_at-h}
use Rattle.store_notes.proofs.fits.Goals.{then-h-gt-MOST_LAW-via-then-h-gt-MOST_LAW, then-h-gt-MOST_LAW-via-else-h-gt-MOST_LAW+then-most-h}
use Rattle.store_notes.proofs.fits.Goals as goal

pub loop-i-init : goal.loop-i-init
loop-i-init c =
    let s = c.args in
    let all : rows_in c.into_iter-i-iterator.result.iter.cells.now ≡ rows_at s.table.now s.n 1 =
    rw (c.into_iter-i-iterator.ensures.into_iter_gives, c.enumerate-i-items.ensures.source) c.greetings.ensures
    in
    let z : c.into_iter-i-iterator.result.count ≡ 0 = rw c.into_iter-i-iterator.ensures.into_iter_gives c.enumerate-i-items.ensures.count in
    record {
      match = rw (all, z) (ap (λ (x : List Row). matched (rows_at s.table.now s.n 1) x) (left-all (drop 97 s.table.now) s.n));
      all = rw (all, z) (omega (arith, length-rows s.table.now s.n 1));
    }

-- a row, and the head of its note
module _ (c : After-head_at-h) where
  abbrev t : List ℕ
  t = c.args.table.now

  abbrev u : List ℕ
  u = drop 97 t

  abbrev rest : List Row
  rest = rows_in c.next.new.self.iter.cells.now

  here : matched (rows_at t c.args.n 1) (rows_at u c.args.n 1) ≡ matched (c.in-Some.r ∷ rest) (left u c.args.n c.in-Some.i)
  here =
      c.loop-i.invariant.match
      ∙ ap₂ matched c.in-Some.ensures.steps.0 (ap (λ (k : ℕ). left u c.args.n k) (sym c.in-Some.ensures.steps.1))

  among : c.in-Some.i < c.args.n
  among = omega (arith, c.loop-i.invariant.all, ap length c.in-Some.ensures.steps.0, c.in-Some.ensures.steps)

  head : in_row c.head_at-h.result ≡ row_at u (1 + 3 * c.in-Some.i)
  head = ap in_row c.head_at-h.ensures.0

pub returns-then-h-gt-MOST_LAW : goal.returns-then-h-gt-MOST_LAW
returns-then-h-gt-MOST_LAW c =
    let k = (goal.at.returns-then-h-gt-MOST_LAW c).After-head_at-h in
    let out : matched (c.in-Some.r ∷ rest k) (left (u k) c.args.n c.in-Some.i) ≡ false =
    elim c.then-h-gt-MOST_LAW.branch [
      | then-h-gt-MOST_LAW-via-then-h-gt-MOST_LAW w ↦
          matched-law (u k) c.args.n c.in-Some.i c.in-Some.r (rest k) (head k) (among k) (omega arith)
      | then-h-gt-MOST_LAW-via-else-h-gt-MOST_LAW+then-most-h w ↦
          matched-many (u k) c.args.n c.in-Some.i c.in-Some.r (rest k) (head k) (among k) (omega arith) (omega arith)
    ]
    in
    sym (here k ∙ out)

pub loop-i-preserved : goal.loop-i-preserved
loop-i-preserved c =
    let k = (goal.at.loop-i-preserved c).After-head_at-h in
    let steps = c.in-Some.ensures.steps in
    record {
      match =
          here k ∙ matched-turn (u k) c.args.n c.in-Some.i c.in-Some.r (rest k) (head k) (among k) (omega arith) (omega arith)
          ∙ ap (λ (j : ℕ). matched (rest k) (left (u k) c.args.n j)) (omega (arith, steps));
      all = omega (arith, c.loop-i.invariant.all, ap length steps.0, steps);
    }

pub returns : goal.returns
unfolding matched
returns c =
    sym (c.loop-i.invariant.match
    ∙ ap (λ (x : List Row). matched x (left (drop 97 c.args.table.now) c.args.n c.loop-i.i-iterator.count)) c.in-None.ensures.steps.0.0)
