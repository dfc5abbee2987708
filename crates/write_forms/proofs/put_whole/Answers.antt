-- The first octet, and what follows it: the samples, one of them, or nothing (Whole).
use borrow.Author.Rules.{rules}
use Prim.Native.Nat.{ℕ, ◌+◌, ◌≤◌}
use mathlib.Core.Path.{refl, ap, ◌∙◌}
use native.Mathlib.Omega.{arith}
use lib.ListN.{length, get_or, set, length-set}
use Rattle.rules.specs.First.{octet_for}
use Rattle.write_forms.proofs.Whole.{octets-some, set-octets, whole-samples, whole-one, whole-two}
use Rattle.write_forms.proofs.put_whole.Goals as goal

pub bounds-out-0 : goal.bounds-out-0
bounds-out-0 c = omega (arith, octets-some c.args.tool (length c.args.frame.now), c.requires.tool_in_bounds)

pub put_samples-requires : goal.put_samples-requires
put_samples-requires c =
    let room : 1 + length c.args.frame.now ≤ length c.args.out.now = rw c.in-1.is at c.requires.tool_in_bounds in
    omega (arith, length-set c.args.out.now 0 c.octet_for.result)

pub returns-in-1 : goal.returns-in-1
returns-in-1 c =
    rw c.in-1.is
    (whole-samples c.args.frame.now refl
    (c.octet_for.ensures ∙ ap (λ (t : ℕ). octet_for t (length c.args.frame.now)) c.in-1.is)
    (omega (arith, octets-some c.args.tool (length c.args.frame.now), c.requires.tool_in_bounds)) c.put_samples.ensures
    (λ i. (c.slice_known-in-1-1.given i).fits))

pub bounds-out-1 : goal.bounds-out-1
bounds-out-1 c =
    let room : 2 ≤ length c.args.out.now = rw c.in-4.is at c.requires.tool_in_bounds in
    omega (arith, length-set c.args.out.now 0 c.octet_for.result)

pub returns-in-4 : goal.returns-in-4
returns-in-4 c =
    let room : 2 ≤ length c.args.out.now = rw c.in-4.is at c.requires.tool_in_bounds in
    rw c.in-4.is
    (whole-two c.args.frame.now refl refl
    (c.octet_for.ensures ∙ ap (λ (t : ℕ). octet_for t (length c.args.frame.now)) c.in-4.is)
    (omega arith) (set-octets (set c.args.out.now 0 c.octet_for.result)
    1 (get_or c.args.frame.now 0 0) (c.shared_slice_known-1.given 0).fits
    (set-octets c.args.out.now 0 c.octet_for.result (search rules)
    (λ i. (c.slice_known-1.given i).fits))))

pub returns-in_default : goal.returns-in_default
returns-in_default c =
    whole-one c.args.frame.now refl
    c.args.tool (λ e. omega arith) (λ e. omega arith) c.octet_for.ensures
    (omega (arith, octets-some c.args.tool (length c.args.frame.now), c.requires.tool_in_bounds))
    (set-octets c.args.out.now 0 c.octet_for.result (search rules)
    (λ i. (c.slice_known-1.given i).fits))
