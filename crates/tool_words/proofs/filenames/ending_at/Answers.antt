use Rattle.tool_words.proofs.Names.{place-step, place_end}
use Rattle.tool_words.specs.Names.{place_from, ending_at}
use lib.ListN.{length, drop}
use native.Mathlib.Omega.{arith}
use mathlib.Core.Path.{refl, sym, ◌∙◌, ap}
use Prim.Native.Nat.{◌+◌, ℕ}
use Rattle.tool_words.proofs.filenames.ending_at.Goals as goal

pub loop-i-init : goal.loop-i-init
unfolding ending_at
loop-i-init c = (omega arith, refl)

pub loop-i-preserved : goal.loop-i-preserved
loop-i-preserved c =
    let name = c.args.name.now in
    let l = c.loop-i in (
      omega (arith, c.place_after-place.ensures.most),
      l.invariant.1 ∙ place-step name (length name) l.place l.i (omega arith)
          ∙ ap (λ (p : ℕ). place_from (length name) p (l.i + 1) (drop (l.i + 1) name)) (sym c.place_after-place.ensures.value),
    )

pub returns : goal.returns
returns c =
    let name = c.args.name.now in
    let l = c.loop-i in
    record { value = sym (l.invariant.1 ∙ place_end name (length name) l.place l.i (omega arith)); most = omega arith }
