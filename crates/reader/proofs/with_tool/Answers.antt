-- TOOL, ROOM, the body, ALIGN (Decided), as the definition has them.
use Prim.Native.Nat.{ℕ, ◌*◌, ◌^◌, ◌≤◌}
use mathlib.Core.Path.{◌≡◌, sym, ap, ◌∙◌}
use mathlib.Core.List.{List}
use native.Mathlib.Omega.{arith}
use lib.ListN.{length}
use Rattle.std.proofs.Common.{Ok}
use Rattle.rules.specs.Bits.{bits_of}
use Rattle.rules.specs.Reading.{Read}
use Rattle.rules.specs.Samples.{mask_of}
use Rattle.read_opening.specs.Opening.{body_of}
use Rattle.read_bits.specs.Outcomes.{next_of}
use Rattle.read_bits.proofs.Told.{handed_on}
use Rattle.law.proofs.Mask.{mask-small, mask-odd}
use Rattle.read_bodies.specs.Bodied.{FillsBody}
use Rattle.read_bodies.proofs.Told.{body-whole, body-length, body_refused}
use Rattle.reader.proofs.Told.{takes-whole, takes-stop, finish-stop, finish-done}
use Rattle.reader.proofs.Decided.{no_body, with-body, body-within, body-size}
use Rattle.reader.proofs.with_tool.Goals.{After-body_of}
use Rattle.reader.proofs.with_tool.Goals as goal

pub body_of-requires : goal.body_of-requires
body_of-requires c =
    (c.requires.0, c.requires.1, omega (arith, mask-small c.args.law), omega (arith, mask-odd c.args.law), c.requires.3)

-- the body's answer
module _ (c : After-body_of) where
  abbrev found : Read (List ℕ)
  found = body_of (mask_of c.args.law) c.args.h (bits_of c.args.octets.now) c.args.h.at

  fills : FillsBody found (2 ^ 41) c.args.samples.now c.body_of.new.samples c.body_of.result
  fills = rw c.mask_of.ensures at c.body_of.ensures

  lent : length c.body_of.new.samples ≡ 320
  lent = body-length fills c.requires.3

  module _ {p : ℕ × ℕ} (e : c.body_of.result ≡ Ok p) where
    -- read whole, it ends within the octets
    within : (p.1 ≤ 8 * length c.args.octets.now) × (p.1 ≤ 2 ^ 41)
    within = (
      body-within c.args.law c.args.h.tool c.args.h.len c.args.h.mark c.requires.0.len c.args.octets.now
          c.args.h.at
          (omega (arith, c.requires.0.at, c.requires.2))
          (body-whole fills e).says,
      omega (arith, rw (ap next_of e) at fills.next),
    )

    -- and it has the frame's length
    sized : c.args.h.len ≡ length (body-whole fills e).s
    sized = body-size c.args.law c.args.h.tool c.args.h.len c.args.h.mark c.requires.0.len
        c.args.octets.now c.args.h.at
        (omega (arith, c.requires.0.at, c.requires.2))
        (body-whole fills e).says

pub filling-requires : goal.filling-requires
filling-requires c = within (goal.at.filling-requires c).After-body_of c.in_ok-bits.was

pub returns-in_err-admitted : goal.returns-in_err-admitted
returns-in_err-admitted c =
    rw (handed_on c.from_residual.result c.from_residual.ensures.1) (takes-stop (c.in_err-admitted.ensures _ _ _) c.requires.3)

pub returns-in_err-bits : goal.returns-in_err-bits
returns-in_err-bits c =
    let held = c.in_ok-admitted.ensures in
    let b = (goal.at.returns-in_err-bits c).After-body_of in
    rw (handed_on c.from_residual-in_err-bits.result c.from_residual-in_err-bits.ensures.1)
    (takes-stop (sym (no_body _ _ _ _ _ _ _ held.0 held.1 (body_refused (fills b) c.in_err-bits.was))) (lent b))

pub returns-in_err-filling : goal.returns-in_err-filling
returns-in_err-filling c =
    let held = c.in_ok-admitted.ensures in
    let b = (goal.at.returns-in_err-filling c).After-body_of in
    let w = body-whole (fills b) c.in_ok-bits.was in
    rw (handed_on c.from_residual-in_err-filling.result c.from_residual-in_err-filling.ensures.1)
    (takes-stop (sym (with-body _ _ _ _ _ _ _ held.0 held.1 w.says) ∙ finish-stop _ _ _ _ c.in_err-filling.ensures) (lent b))

pub returns : goal.returns
returns c =
    let held = c.in_ok-admitted.ensures in
    let b = (goal.at.returns c).After-body_of in
    let w = body-whole (fills b) c.in_ok-bits.was in
    takes-whole (sym (with-body _ _ _ _ _ _ _ held.0 held.1 w.says) ∙ finish-done _ _ _ _ c.in_ok-filling.ensures)
    (sized b c.in_ok-bits.was) (within b c.in_ok-bits.was).1 w.samples (lent b)
