-- The zeros of flags, as the cells that two kinds mark.
use Prim.Native.Nat.{ℕ, zero, suc, ◌≤◌, ◌<◌}
use mathlib.Core.Path.{◌≡◌, refl, sym, ap, ◌∙◌}
use mathlib.Core.List.{List, map}
use native.Mathlib.Omega.{arith}
use lib.ListN.{length, length-map}
use Rattle.rules.specs.Reading.{Read, whole}
use Rattle.rules.proofs.Octets.{Below, none, more}
use Rattle.read_bits.specs.Outcomes.{got}
use Rattle.read_runs.specs.Flagged.{kind_of, kinds}
use Rattle.read_runs.proofs.Answer.{MarksAs}
use Rattle.read_bodies.specs.Bodied.{FillsBody}

-- two kinds are all that flags of 0 and 1 tell
kind-flag : (g : ℕ → ℕ) (f : ℕ) → f < 2 → kind_of (g 0) (g 1) f ≡ g f
kind-flag g zero h = refl
kind-flag g (suc zero) h = refl
kind-flag g (suc (suc f)) h = absurd (omega arith)

kinds-map : (g : ℕ → ℕ) {flags : List ℕ} → Below 2 flags → kinds (g 0) (g 1) flags ≡ map g flags
kinds-map g none = refl
kinds-map g (more h b) = rw (kind-flag g _ h, kinds-map g b)

-- n flags as the zeros that g gives them
pub zeros-filled : {flags-found found : Read (List ℕ)} {n near far common other : ℕ} {old new : List ℕ} {count next : ℕ} (g : ℕ → ℕ)
    → MarksAs flags-found n near common other old new count next → common ≡ g 0 → other ≡ g 1
    → ((flags : List ℕ) → flags-found ≡ whole flags next → found ≡ whole (map g flags) next) → n ≤ 320 → near ≤ far
    → FillsBody found far old new (got n next)
zeros-filled {n = n} {far = far} {old = old} {new = new} {next = next} g m c o e h k =
    let l : length (map g m.flags) ≡ n = length-map m.flags g ∙ m.size in
    let s : kinds (g 0) (g 1) m.flags ≡ map g m.flags = kinds-map g m.below in
    rw (e m.flags m.says)
    (record {
      end = ap (λ (x : ℕ). got x next) (sym l);
      next = let q = m.next in omega arith;
      samples = (m.made ∙ rw (c, o, s, l), rw l h);
    })
