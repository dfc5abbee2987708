use native.Mathlib.Omega.{arith}
use Rattle.store_moves.proofs.Stepping.{onward-end, onward-more}
use Rattle.store_moves.proofs.steps.grown.Goals as goal

pub returns-then-m-done : goal.returns-then-m-done
returns-then-m-done c = let s = c.args in onward-end s.m s.k (omega arith)

pub returns : goal.returns
returns c = let s = c.args in onward-more s.m s.k (omega arith)
