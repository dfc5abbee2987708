-- Whole octets, or the row of fractional-bit (Planned): the form of the tool that it is.
use Prim.Native.Nat.{ℕ}
use mathlib.Core.Path.{◌≡◌, refl, sym, ap, ◌∙◌}
use mathlib.Core.List.{List}
use native.Mathlib.Omega.{arith}
use lib.ListN.{length}
use Rattle.rules.specs.Bits.{bits_of}
use Rattle.rules.specs.Chooses.{form_of}
use Rattle.rules.proofs.Octets.{Below, below_all, length-bits_of}
use Rattle.write_scan.proofs.Tests.{law-for}
use Rattle.write_forms.specs.Forms.{whole_octets, row_form}
use Rattle.write_forms.proofs.Whole.{whole-form, whole_length}
use Rattle.writer.proofs.Planned.{row-form, row-few, row-digits}
use Rattle.writer.proofs.put_plain.Goals.{Start}
use Rattle.writer.proofs.put_plain.Goals as goal

module _ (c : Start) where
  abbrev tool : ℕ
  tool = c.args.p.choice.tool

  abbrev form : List ℕ
  form = form_of c.args.mask tool c.args.frame.now

  whole_is : (tool ≡ 11 → ⊥) → bits_of (whole_octets tool c.args.frame.now) ≡ form
  whole_is other = let k = c.requires.plain_is.kind other in whole-form c.args.mask tool c.args.frame.now k.0 k.1

  row_is : tool ≡ 11 → row_form c.args.mask (length c.args.frame.now) c.args.p.row c.args.frame.now ≡ form
  row_is e =
      row-form c.args.mask (length c.args.frame.now) c.args.frame.now c.args.p refl c.requires.plain_is e
      ∙ ap (λ (k : ℕ). form_of c.args.mask k c.args.frame.now) (sym e)

pub put_whole-requires : goal.put_whole-requires
put_whole-requires c =
    let other = c.if-p-eq11.false in
    let e = ap length (whole_is (goal.at.put_whole-requires c).Start other) in
    let size = whole_length (c.args.p.choice.tool) c.args.frame.now refl in
    record {
      le_tool = c.requires.plain_is.kind other;
      frame_in = c.requires.frame_in.0;
      tool_in_bounds = omega (
        arith,
        e,
        size,
        length-bits_of
            (whole_octets (c.args.p.choice.tool) c.args.frame.now),
        c.requires.samples_len_bound,
      );
    }

pub returns-else-p-eq11 : goal.returns-else-p-eq11
returns-else-p-eq11 c =
    rw (whole_is (goal.at.returns-else-p-eq11 c).Start c.if-p-eq11.false) at c.put_whole.ensures

pub put_fractional-requires : goal.put_fractional-requires
put_fractional-requires c =
    let eleven = c.if-p-eq11.true in
    let octets = c.shared_slice_known-1.given in
    let b : Below 256 c.args.frame.now = below_all c.args.frame.now (λ i. (octets i).fits) in
    let p = c.args.p in
    record {
      frame_in = (
        c.requires.frame_in.0,
        c.requires.frame_in.1,
        row-few c.args.mask (length c.args.frame.now) c.args.frame.now p
            refl c.requires.plain_is eleven,
      );
      by_index = row-digits c.args.mask (length c.args.frame.now) c.args.frame.now p refl c.requires.plain_is eleven
          (law-for c.args.mask c.requires.frame_in.1) b;
      samples_len_bound = rw (row_is (goal.at.put_fractional-requires c).Start eleven) c.requires.samples_len_bound;
    }

pub returns-then-p-eq11 : goal.returns-then-p-eq11
returns-then-p-eq11 c =
    rw (row_is (goal.at.returns-then-p-eq11 c).Start c.if-p-eq11.true) at c.put_fractional.ensures
