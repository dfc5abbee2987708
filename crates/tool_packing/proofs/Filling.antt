-- A sound filled up, octet by octet.
use Prim.Native.Nat.{ℕ, ◌+◌, ◌≤◌}
use native.Mathlib.Omega.{arith}
use mathlib.Core.Path.{◌≡◌, refl, ap, ◌∙◌}
use mathlib.Core.List.{List, ◌++◌, append_assoc}
use lib.ListN.{take, drop, replicate, length-replicate}
use lib.Seq.{take_all, paste}
use Rattle.rules.specs.Samples.{mask_of, plus_zero}
use Rattle.rules.proofs.Lent.{Filling}
use Rattle.tool_packing.specs.Cuts.{to_fill, FillsUp}

pub fill_done : {sound₀ sound : List ℕ} {len more plus i : ℕ} {law : ℕ} → Filling sound₀ len more plus sound i → more ≤ i
    → more ≡ to_fill len → plus ≡ plus_zero (mask_of law) → FillsUp len law sound₀ sound more
fill_done {sound₀} {len = len} {more = more} {plus = plus} {i = i} f g e p =
    let n : i ≡ more = omega (arith, f.most) in
    let z = replicate more plus in
    record {
      added = e;
      lent =
          f.is ∙ ap (paste sound₀ len z) n ∙ ap (λ (x : List ℕ). take len sound₀ ++ x ++ drop (len + more) sound₀)
          (take_all more z (omega (arith, length-replicate more plus))) ∙ append_assoc (take len sound₀) z (drop (len + more) sound₀)
          ∙ rw (e, p) refl;
    }
