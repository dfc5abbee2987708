-- The first code, that of S and the runs: three pieces, one after the other.
use Prim.Native.Nat.{ℕ, ◌+◌}
use mathlib.Core.Path.{◌≡◌, ap, ◌∙◌}
use mathlib.Core.List.{List, ◌++◌}
use native.Mathlib.Omega.{arith}
use lib.ListN.{length, take, length-append}
use Rattle.rules.specs.First.{rice_code}
use Rattle.rules.specs.Runs.{rice_forms}
use Rattle.rules.specs.Zeros.{code_of}
use Rattle.write_bits.proofs.Putting.{puts_then, puts-as, able-as, able-then}
use Rattle.write_forms.proofs.Pieces.{bits-length, length_three}
use Rattle.write_forms.proofs.put_plus_minus.Goals.{Start}
use Rattle.write_forms.proofs.put_plus_minus.Goals as goal

module _ (c : Start) where
  abbrev first : List ℕ
  first = rice_code c.args.n c.args.r.mark

  abbrev code : List ℕ
  code = code_of c.args.n c.args.r.s

  abbrev runs : List ℕ
  runs = rice_forms c.args.r.s (take c.args.r.count c.args.runs.now)

  sizes : length (first ++ (code ++ runs)) ≡ length first + (length code + length runs)
  sizes = length_three first code runs

pub put_start-requires : goal.put_start-requires
put_start-requires c =
    record {
      mark_bound = c.requires.rice_ready.mark;
      able = able-as c.requires.able (omega (arith, sizes (goal.at.put_start-requires c).Start));
    }

pub put-requires : goal.put-requires
put-requires c =
    let k = c.code_of-k.ensures in record {
      able = able-then _ c.requires.able c.put_start.ensures c.put_start.auto.out
          (omega (arith, sizes (goal.at.put-requires c).Start, bits-length _ _ k.says));
      n_bound = (omega (arith, k.few), k.fits);
    }

pub put_runs-requires : goal.put_runs-requires
put_runs-requires c =
    let q = c.requires.rice_ready in let put = c.put in record {
      s_bound = omega (arith, q.most);
      able = able-then (length (rice_forms c.args.r.s (take c.args.r.count c.args.runs.now))) c.requires.able (puts_then c.put_start.ensures put.ensures)
          (put.auto.out ∙ c.put_start.auto.out)
          (rw length-append (omega (arith, sizes (goal.at.put_runs-requires c).Start, ap length c.code_of-k.ensures.says)));
    }

pub returns : goal.returns
returns c =
    puts_then c.put_start.ensures
    (puts_then (puts-as c.put.ensures c.code_of-k.ensures.says) c.put_runs.ensures)
