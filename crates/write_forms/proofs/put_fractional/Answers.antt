-- The first octet, then the body by its row, by one pen.
use Prim.Native.Nat.{ℕ, ◌+◌, ◌≤◌}
use mathlib.Core.Path.{◌≡◌, ap, ap₂, ◌∙◌}
use mathlib.Core.List.{List, ◌++◌}
use mathlib.Core.Bool.{Bool, true, false, cond}
use native.Mathlib.Omega.{arith}
use lib.Dec.{eqb}
use lib.ListN.{length, length-append}
use Rattle.rules.specs.Bits.{low_bits}
use Rattle.rules.specs.Fractional.{first_code, fractional_body}
use Rattle.rules.proofs.Octets.{length-low_bits}
use Rattle.write_scan.proofs.Tests.{law-for}
use Rattle.write_bits.specs.Puts.{Puts}
use Rattle.write_bits.proofs.Putting.{puts_then, puts-as, able-then}
use Rattle.write_fractional.specs.Digits.{body_in, DigitsFit}
use Rattle.write_fractional.proofs.Digits.{digits-fit-row, body-told}
use Rattle.write_forms.proofs.Form.{fresh-is, fresh-able, packed}
use Rattle.write_forms.proofs.put_fractional.Goals.{Start, After-row_at, After-put_body}
use Rattle.write_forms.proofs.put_fractional.Goals as goal

first_small : (n : ℕ) → first_code n ≤ 28
unfolding first_code
first_small n = go (eqb n 40) (eqb n 80) (eqb n 160) (eqb n 240)
  where
    go : (a b c d : Bool) → cond a 2 (cond b 14 (cond c 20 (cond d 24 28))) ≤ 28
    go true b c d = omega arith
    go false true c d = omega arith
    go false false true d = omega arith
    go false false false true = omega arith
    go false false false false = omega arith

-- the first octet, and the body
module _ (c : Start) where
  abbrev code : ℕ
  code = first_code (length c.args.frame.now) + c.args.k

  abbrev body : List ℕ
  body = fractional_body c.args.mask c.args.k c.args.frame.now

  sizes : length (low_bits 8 code ++ body) ≡ 8 + length body
  sizes = length-append (low_bits 8 code) body ∙ ap (λ (k : ℕ). k + length body) (length-low_bits 8 code)

pub put-requires : goal.put-requires
put-requires c =
    record {
      able = fresh-able (fresh-is c.new-pen.ensures) (omega (arith, c.requires.samples_len_bound, sizes (goal.at.put-requires c).Start));
      n_bound = (
        omega arith,
        omega (arith, c.from.ensures, c.first_code.ensures, first_small (length c.args.frame.now), c.requires.frame_in.2),
      );
    }

pub row_at-requires : goal.row_at-requires
row_at-requires c = c.requires.frame_in.2

-- once the row is known
module _ (c : After-row_at) where
  fit : DigitsFit c.args.mask c.row_at.result c.args.frame.now
  fit = digits-fit-row (law-for c.args.mask c.requires.frame_in.1) c.args.k c.requires.frame_in.2 c.row_at.ensures
      c.args.frame.now c.requires.by_index

  body_is : body_in c.args.mask c.row_at.result c.args.frame.now ≡ fractional_body c.args.mask c.args.k c.args.frame.now
  body_is =
      body-told (law-for c.args.mask c.requires.frame_in.1) c.args.k c.requires.frame_in.2 c.row_at.ensures
      c.args.frame.now c.requires.by_index

pub put_body-requires : goal.put_body-requires
put_body-requires c =
    let put = c.put in record {
      frame_in = c.requires.frame_in.0;
      digits_fit = fit (goal.at.put_body-requires c).After-row_at;
      able = able-then (length (body_in c.args.mask c.row_at.result c.args.frame.now))
          (fresh-able (fresh-is c.new-pen.ensures) c.requires.samples_len_bound) put.ensures put.auto.out
          (omega (
            arith,
            sizes (goal.at.put_body-requires c).Start,
            ap length (body_is (goal.at.put_body-requires c).After-row_at),
            length-low_bits 8 (c.from.result + c.args.k),
          ));
    }

module _ (c : After-put_body) where
  laid : Puts c.args.out.now c.new-pen.result
      (low_bits 8 (first_code (length c.args.frame.now) + c.args.k) ++ fractional_body c.args.mask c.args.k c.args.frame.now)
      c.put_body.new.out c.put_body.new.pen
  laid =
      puts-as (puts_then {b = body_in c.args.mask c.row_at.result c.args.frame.now} c.put.ensures c.put_body.ensures)
      (ap₂ ◌++◌ (ap (low_bits 8) (ap (λ (x : ℕ). x + c.args.k) (c.from.ensures ∙ c.first_code.ensures)))
      (body-told (law-for c.args.mask c.requires.frame_in.1) c.args.k c.requires.frame_in.2 c.row_at.ensures
      c.args.frame.now c.requires.by_index))

pub finish-requires : goal.finish-requires
finish-requires c =
    able-then 0 (fresh-able (fresh-is c.new-pen.ensures) c.requires.samples_len_bound) (laid (goal.at.finish-requires c).After-put_body)
    (c.put_body.auto.out ∙ c.put.auto.out) (omega arith)

pub returns : goal.returns
returns c = packed (fresh-is c.new-pen.ensures) (laid (goal.at.returns c).After-put_body) c.finish.ensures
