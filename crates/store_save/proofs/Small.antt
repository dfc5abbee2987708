-- A greeting that is not BAD has a law that there is (`fine-law`) and is counted (`tally-wrong`), and its marks are small enough for cells
-- (`taken-small`).
use Prim.Native.Nat.{ℕ, zero, suc, ◌*◌, ◌≤◌, ◌<◌}
use mathlib.Core.Path.{◌≡◌, refl, sym, ap, subst, ◌∙◌}
use mathlib.Core.List.{List, [], ◌∷◌, ◌++◌}
use mathlib.Core.Bool.{Bool, true, false}
use native.Mathlib.Omega.{arith}
use lib.ListN.{length, get_or, drop, take-append-drop}
use lib.Dec.{ltb}
use borrow.Author.Tests.{ltb-true, ltb-false}
use Rattle.rules.specs.Tools.{most_law}
use Rattle.store_greeting.specs.Bad.{is_bad}
use Rattle.store_greeting.proofs.Bad.{bad-empty, bad-law}
use Rattle.store_greeting.specs.Marks.{Mark, note_of, mark_cells}
use Rattle.store_greeting.specs.declared.marks.Tally.{Tally}
use Rattle.std.specs.Prelude.{Option, None}
use Rattle.store_greeting.specs.Taking.{Takes}
use Rattle.store_greeting.proofs.Taking.{taken-bad}
use Rattle.store_greeting.proofs.Bounds.{Small, note-small}
use Rattle.store_notes.specs.declared.Head.{Head}
use Rattle.store_notes.specs.Changed.{Taken}
use Rattle.store_notes.proofs.Taken.{taken-cells}

-- a greeting that is not BAD
module _ (law : ℕ) (xs : List ℕ) (f : is_bad law xs ≡ false) where
  no : {A : Type 0} → true ≡ is_bad law xs → A
  no e = let g = e ∙ f in let z : ◌≡◌ {A = ℕ} 0 1 = cc in absurd (omega arith)

  pub fine-some : 1 ≤ length xs
  fine-some = go (ltb (length xs) 1) refl
    where
      go : (t : Bool) → ltb (length xs) 1 ≡ t → 1 ≤ length xs
      go true e = no (bad-empty law xs (ltb-true (length xs) 1 e))
      go false e = ltb-false (length xs) 1 e

  pub fine-law : law ≤ 1
  fine-law = go (ltb most_law law) refl
    where
      go : (t : Bool) → ltb most_law law ≡ t → law ≤ 1
      go true e = no (bad-law law xs fine-some (ltb-true most_law law e))
      go false e = ltb-false most_law law e

-- in cells
cell-small : (most : ℕ) (ms : List Mark) (rest : List ℕ) (place count : ℕ) → Small place count ms → place < most → count < most
    → (j : ℕ) → j < 2 * length ms → get_or (mark_cells ms ++ rest) j 0 < most
unfolding mark_cells Small
cell-small most [] rest place count h a b j l = absurd (omega arith)
cell-small most (m ∷ ms) rest place count h a b zero l = omega (arith, h.0)
cell-small most (m ∷ ms) rest place count h a b (suc zero) l = omega (arith, h.1)
cell-small most (m ∷ ms) rest place count h a b (suc (suc j)) l = cell-small most ms rest place count h.2 a b j (omega arith)

-- the cells of marks that were taken
pub taken-small : {head : Head} {xs cells : List ℕ} → Taken head xs cells → 2 * head.marks ≤ length cells
    → (j : ℕ) → j < 2 * head.marks → get_or cells j 0 < 4294967295
taken-small {head} {xs} {cells} t h j l =
    let ms = (note_of head.law xs).marks in
    let k = t.heard in
    let rest = drop (2 * head.marks) cells in
    let all : cells ≡ mark_cells ms ++ rest = sym (take-append-drop (2 * head.marks) cells)
    ∙ ap (λ (x : List ℕ). x ++ rest) (taken-cells t h) in
    let s = (note-small head.law xs).1 in
    let c = cell-small 4294967295 ms rest (length xs) (320 * length xs) s (omega (arith, k.short)) (omega (arith, k.short)) j
    (omega (arith, k.count)) in
    subst (λ (x : List ℕ). get_or x j 0 < 4294967295) (sym all) c

-- a greeting that is not BAD is counted
pub tally-wrong : {law : ℕ} {xs cells cells' : List ℕ} {r : Option Tally} → Takes law xs cells cells' r → is_bad law xs ≡ false
    → {A : Type 0} → r ≡ None → A
tally-wrong {law} {xs} t f e =
    let b = taken-bad law xs (rw e at t) in
    let z : ◌≡◌ {A = Bool} true false = sym b ∙ f in
    let k : ◌≡◌ {A = ℕ} 0 1 = cc in
    absurd (omega arith)
