-- A text read into a lent table, greeting by greeting (Stand).
use Prim.Native.Nat.{ℕ, suc, ◌+◌, ◌*◌, ◌-◌, ◌≤◌, ◌<◌}
use mathlib.Core.Path.{◌≡◌, refl, sym, ap, ◌∙◌}
use mathlib.Core.List.{List, [], ◌∷◌, ◌++◌, append_assoc, append-nil}
use native.Mathlib.Omega.{arith}
use lib.ListN.{length, take, drop, set, length-set, length-append, take-append-drop}
use lib.Seq.{take-suc-set, drop-set-lt}
use borrow.Author.Tests.{lt-leb}
use Rattle.rules.proofs.Lent.{drop-further}
use Rattle.store_rows.specs.declared.rows.Row.{Row}
use Rattle.store_rows.specs.Cells.{cells_of, laid}
use Rattle.text_keyvalue.specs.Reading.{Read, whole, none, and_then}
use Rattle.std.specs.Prelude.{Some, None}
use Rattle.store_text.specs.Table.{most_place, row, rows_from, table_in}
use Rattle.store_text.specs.Fills.{PutsRow, Fills}
use Rattle.store_rows.proofs.Cells.{cells-snoc}
use Rattle.store_text.proofs.Exact.{ending}

-- three cells stored one after another
pub three-cells : (l : List ℕ) (i a b c : ℕ) → i + 3 ≤ length l
    → take (i + 3) (set (set (set l i a) (i + 1) b) (i + 2) c) ≡ take i l ++ (a ∷ b ∷ c ∷ [])
three-cells l i a b c h =
    let x : i + 3 ≡ suc (i + 2) = omega arith in
    let y : i + 2 ≡ suc (i + 1) = omega arith in
    let z : i + 1 ≡ suc i = omega arith in
    let l₁ = set l i a in
    let l₂ = set l₁ (i + 1) b in
    let n₁ = length-set l i a in
    let n₂ = length-set l₁ (i + 1) b in
    ap (λ (n : ℕ). take n (set l₂ (i + 2) c)) x ∙ take-suc-set l₂ (i + 2) c (omega arith) ∙ ap (λ (n : ℕ). take n l₂ ++ (c ∷ [])) y
    ∙ ap (λ (t : List ℕ). t ++ (c ∷ [])) (take-suc-set l₁ (i + 1) b (omega arith))
    ∙ ap (λ (n : ℕ). (take n l₁ ++ (b ∷ [])) ++ (c ∷ [])) z
    ∙ ap (λ (t : List ℕ). (t ++ (b ∷ [])) ++ (c ∷ [])) (take-suc-set l i a (omega arith)) ∙ simp append_assoc

pub three-rest : (l : List ℕ) (i a b c : ℕ) → drop (i + 3) (set (set (set l i a) (i + 1) b) (i + 2) c) ≡ drop (i + 3) l
three-rest l i a b c =
    drop-set-lt (i + 3) (set (set l i a) (i + 1) b) (i + 2) c (omega arith) ∙ drop-set-lt (i + 3) (set l i a) (i + 1) b (omega arith)
    ∙ drop-set-lt (i + 3) l i a (omega arith)

-- rows that are done stand in the cells behind the first
pub record Rowed (cells₀ cells : List ℕ) (done : List Row) (k : ℕ) : Type 0 where
  pub filled : take (1 + 3 * k) cells ≡ take 1 cells₀ ++ cells_of done
  pub rest : drop (1 + 3 * k) cells ≡ drop (1 + 3 * k) cells₀

pub rowed-first : (cells : List ℕ) → Rowed cells cells [] 0
unfolding cells_of
rowed-first cells = record { filled = sym (append-nil (take 1 cells)); rest = refl }

pub rowed-turn : {cells₀ cells cells' : List ℕ} {done : List Row} {k : ℕ} {r : Row} → Rowed cells₀ cells done k
    → PutsRow r (1 + 3 * k) cells cells' → Rowed cells₀ cells' (done ++ (r ∷ [])) (k + 1)
rowed-turn {cells₀} {cells} {cells'} {done} {k} {r} s p =
    let m : 1 + 3 * (k + 1) ≡ 1 + 3 * k + 3 = omega arith in
    record {
      filled =
          rw m (p.says ∙ rw (s.filled, cells-snoc done r)
          (append_assoc (take 1 cells₀) (cells_of done) (r.number ∷ r.start ∷ r.octets ∷ [])));
      rest = rw m (p.rest ∙ drop-further cells cells₀ (1 + 3 * k) (1 + 3 * k + 3) (omega arith) s.rest);
    }

first-set : (x k : ℕ) (cells a b : List ℕ) → cells ≡ (x ∷ a) ++ b → set cells 0 k ≡ (k ∷ a) ++ b
first-set x k cells a b e = ap (λ (l : List ℕ). set l 0 k) e

-- the count goes into the first cell
pub rowed-laid : {cells : List ℕ} {done : List Row} {k : ℕ} (cells₀ : List ℕ) → 1 ≤ length cells₀ → length done ≡ k
    → Rowed cells₀ cells done k → set cells 0 k ≡ laid done cells₀
unfolding laid
rowed-laid [] l n s = absurd (omega arith)
rowed-laid {cells} {done} {k} (x ∷ t) l n s =
    let c : cells ≡ (x ∷ cells_of done) ++ drop (1 + 3 * k) (x ∷ t) = sym (take-append-drop (1 + 3 * k) cells) ∙ rw (s.filled, s.rest) in
    rw n (first-set x k cells (cells_of done) (drop (1 + 3 * k) (x ∷ t)) c)

-- where the reading stands: what is left of it is all of it
pub record Stand (text cells₀ cells : List ℕ) (k at : ℕ) : Type 0 where
  pub done : List Row
  pub count : length done ≡ k
  pub few : k ≤ 32
  pub left : table_in text ≡ rows_from (32 - k) done text at
  pub rows : Rowed cells₀ cells done k

pub stand-first : (text cells : List ℕ) → Stand text cells cells 0 0
stand-first text cells = record { done = []; count = refl; few = omega arith; left = refl; rows = rowed-first cells }

pub no-count : {n : ℕ} → None ≡ Some n → n ≤ 32
no-count q = let z : ◌≡◌ {A = ℕ} 0 1 = cc in absurd (omega arith)

wrong : {found : Read (List Row)} → found ≡ none → (cells cells' : List ℕ) → Fills found cells cells' None
wrong e cells cells' = rw e (record { count = refl; filled = tt; few = λ n q. no-count q })

module _ {text cells₀ cells : List ℕ} {k at : ℕ} (s : Stand text cells₀ cells k at) where
  pub stand-end : 97 ≤ length cells₀ → length text ≤ at → Fills (table_in text) cells₀ (set cells 0 k) (Some k)
  stand-end l h =
      let e : table_in text ≡ whole s.done at = s.left ∙ ending (32 - k) s.done text at h in
      rw e (record {
        count = ap Some (sym s.count);
        filled = rowed-laid cells₀ (omega arith) s.count s.rows;
        few = λ n q. let z : k ≡ n = cc in let f = s.few in omega arith;
      })

  pub stand-full : (cells' : List ℕ) → at < length text → k ≡ 32 → Fills (table_in text) cells₀ cells' None
  unfolding rows_from
  stand-full cells' h n =
      let z : 32 - k ≡ 0 = omega arith in
      wrong (s.left ∙ rw (z, lt-leb (length text) at h)) cells₀ cells'

  module _ (h : at < length text) (n : k ≡ 32 → ⊥) where
    step : rows_from (32 - k) s.done text at ≡ and_then (row most_place text at)
        (λ r j. rows_from (32 - (k + 1)) (s.done ++ (r ∷ [])) text j)
    unfolding rows_from
    step = let f = s.few in let z : 32 - k ≡ suc (32 - (k + 1)) = omega arith in rw (z, lt-leb (length text) at h)

    pub stand-none : (cells' : List ℕ) → none ≡ row most_place text at → Fills (table_in text) cells₀ cells' None
    stand-none cells' e = wrong (s.left ∙ step ∙ rw (← e)) cells₀ cells'

    pub stand-turn : {cells' : List ℕ} {r : Row} {j : ℕ} → whole r j ≡ row most_place text at → PutsRow r (1 + 3 * k) cells cells'
        → Stand text cells₀ cells' (k + 1) j
    stand-turn {cells'} {r} {j} e p =
        record {
          done = s.done ++ (r ∷ []);
          count = length-append s.done (r ∷ []) ∙ ap (λ (n : ℕ). n + 1) s.count;
          few = let f = s.few in omega arith;
          left = s.left ∙ step ∙ rw (← e);
          rows = rowed-turn s.rows p;
        }
