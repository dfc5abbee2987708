-- The first octet decides (Openings).
use native.Mathlib.Omega.{arith}
use mathlib.Core.Path.{◌∙◌}
use Prim.Native.Nat.{◌-◌}
use lib.ListN.{length}
use Rattle.listing_pages.proofs.Openings.{first_some, first_none, stops-input, input_none, input-a, input-m, input-other, opens-input}
use Rattle.listing_pages.proofs.open_listing.Goals as goal

pub returns-in_default : goal.returns-in_default
returns-in_default c =
    let input = c.args.input.now in
    stops-input input (input_none input (first_none input (rw c.in_default.is at c.first.ensures.value))) c.refused.ensures

pub returns-in-65 : goal.returns-in-65
returns-in-65 c =
    let input = c.args.input.now in
    let f = first_some input (rw c.in-Some.is at c.first.ensures.value) in
    opens-input input f.0 0 (length input - 1) (omega arith) (input-a input f.0 (f.1 ∙ c.in-65.is)) c.open_stream.ensures

pub returns-in-77 : goal.returns-in-77
returns-in-77 c =
    let input = c.args.input.now in
    let f = first_some input (rw c.in-Some.is at c.first.ensures.value) in
    opens-input input f.0 1 (length input - 1) (omega arith) (input-m input f.0 (f.1 ∙ c.in-77.is)) c.open_stream-in-77.ensures

pub returns-in_default-letter : goal.returns-in_default-letter
returns-in_default-letter c =
    let input = c.args.input.now in
    let f = first_some input (rw c.in-Some.is at c.first.ensures.value) in
    stops-input input (input-other input f.0 (λ e. omega (arith, f.1)) (λ e. omega (arith, f.1))) c.refused-in_default-letter.ensures
