-- Cells raised and then written are opened (`opened-is`); cells lowered are shut (`shut-is`).
use Prim.Native.Nat.{ℕ, ◌+◌, ◌-◌, ◌≤◌}
use mathlib.Core.Path.{◌≡◌, ap, ◌∙◌}
use mathlib.Core.List.{List, ◌++◌, append_assoc}
use native.Mathlib.Omega.{arith}
use lib.ListN.{length, take, drop}
use lib.Seq.{paste, length-take-le, drop_at, take-append-le, take-take}
use Rattle.store_rows.specs.Changed.{written}
use Rattle.store_notes.specs.Changed.{opened, shut}

pub opened-is : (cells : List ℕ) (at used : ℕ) (new : List ℕ) {c₁ c₂ : List ℕ} → at ≤ used → used + length new ≤ length cells
    → c₁ ≡ paste cells (at + length new) (drop at cells) (used - at) → c₂ ≡ written c₁ at new → c₂ ≡ opened cells at used new
unfolding written opened
opened-is cells at used new {c₁} {c₂} h g p q =
    let d = length new in
    let up = take (at + d) cells in
    let lu = length-take-le (at + d) cells (omega arith) in
    let moved = take (used - at) (drop at cells) in
    let rest = moved ++ drop (at + d + (used - at)) cells in
    let far : at + d + (used - at) ≡ used + d = omega arith in
    let e : c₁ ≡ up ++ rest = p ∙ append_assoc up moved (drop (at + d + (used - at)) cells) in
    let u : take at c₁ ≡ take at cells =
    ap (λ (x : List ℕ). take at x) e ∙ take-append-le at up rest (omega arith) ∙ take-take at (at + d) cells (omega arith)
    in
    let v : drop (at + d) c₁ ≡ moved ++ drop (used + d) cells =
    ap (λ (x : List ℕ). drop (at + d) x) e ∙ drop_at up rest (at + d) lu ∙ ap (λ (x : ℕ). moved ++ drop x cells) far
    in
    q ∙ rw (u, v)

pub shut-is : (cells : List ℕ) (at used by : ℕ) {c₁ : List ℕ} → at + by ≤ used
    → c₁ ≡ paste cells at (drop (at + by) cells) (used - (at + by)) → c₁ ≡ shut cells at used by
unfolding shut
shut-is cells at used by h p =
    let far : at + (used - (at + by)) ≡ used - by = omega arith in
    let moved = take (used - (at + by)) (drop (at + by) cells) in
    p ∙ append_assoc (take at cells) moved (drop (at + (used - (at + by))) cells)
    ∙ ap (λ (x : ℕ). take at cells ++ (moved ++ drop x cells)) far
