-- The front of a table (`front`). A row put in (`inserted`) and taken out (`removed`): the cells are then those of the list so changed.
use Prim.Native.Nat.{ℕ, ◌+◌, ◌*◌, ◌-◌, ◌≤◌, ◌<◌}
use mathlib.Core.Path.{◌≡◌, sym, ap, ◌∙◌}
use mathlib.Core.List.{List, ◌∷◌, ◌++◌, append_assoc}
use native.Mathlib.Omega.{arith}
use lib.ListN.{length, take, drop, get_or, set, length-append, length-drop}
use lib.Seq.{paste, drop_at, take-add, length-take-le, take-append-le, take-take, length_paste_head, drop-cons}
use Rattle.store_rows.specs.declared.rows.Row.{Row}
use Rattle.store_rows.specs.Cells.{rows_at, rows_of, cells_of, laid}
use Rattle.store_rows.specs.Changed.{insert_at, remove_at, row_laid}
use Rattle.store_rows.proofs.Cells.{length-rows, take-rows, drop-rows, cells-rows, cells-append, cells-cons}

-- the front of a table
pub front : (t : List ℕ) (i : ℕ) → 1 + 3 * i ≤ length t → take (1 + 3 * i) t ≡ get_or t 0 0 ∷ cells_of (rows_at t i 1)
front t i h =
    take-add 1 (3 * i) t ∙ ap (λ (x : List ℕ). take 1 t ++ x) (sym (cells-rows t i 1 h))
    ∙ ap (λ (x : List ℕ). take 1 x ++ cells_of (rows_at t i 1)) (drop-cons t 0 0 (omega arith))

module _ (t : List ℕ) (n i : ℕ) (e : n ≡ get_or t 0 0) where
  pub inserted : {t₁ t₂ : List ℕ} (r : Row) → 4 + 3 * n ≤ length t → i ≤ n
      → t₁ ≡ paste t (1 + 3 * i + 3) (drop (1 + 3 * i) t) (1 + 3 * n - (1 + 3 * i)) → t₂ ≡ row_laid t₁ (1 + 3 * i) r
      → set t₂ 0 (n + 1) ≡ laid (insert_at i r (rows_of t)) t
  unfolding laid row_laid
  inserted {t₁} {t₂} r h g p q =
      let k = 1 + 3 * i in
      let m = 1 + 3 * n - k in
      let up = take (k + 3) t ++ take m (drop k t) in
      let ld = length-drop k t in
      let lu : length up ≡ k + 3 + m = length_paste_head t (k + 3) (drop k t) m (omega arith) (omega arith) in
      let lt = length-take-le (k + 3) t (omega arith) in
      let after = take m (drop k t) ++ drop (k + 3 + m) t in
      let moved : t₁ ≡ take (k + 3) t ++ after = p ∙ append_assoc (take (k + 3) t) (take m (drop k t)) (drop (k + 3 + m) t) in
      let u : take k t₁ ≡ take k t =
      ap (λ (x : List ℕ). take k x) moved ∙ take-append-le k (take (k + 3) t) after (omega arith) ∙ take-take k (k + 3) t (omega arith)
      in
      let v : drop (k + 3) t₁ ≡ after = ap (λ (x : List ℕ). drop (k + 3) x) moved ∙ drop_at (take (k + 3) t) after (k + 3) lt in
      let rows = rows_of t in
      let a = rows_at t i 1 in
      let z = rows_at t (n - i) k in
      let m3 : m ≡ 3 * (n - i) = omega arith in
      let cz : take m (drop k t) ≡ cells_of z = ap (λ (x : ℕ). take x (drop k t)) m3 ∙ sym (cells-rows t (n - i) k (omega arith)) in
      let ins : insert_at i r rows ≡ a ++ (r ∷ z) =
      ap (λ (x : ℕ). insert_at i r (rows_at t x 1)) (sym e) ∙ ap (λ (x : List Row). x ++ (r ∷ drop i (rows_at t n 1))) (take-rows t n 1 i g)
      ∙ ap (λ (x : List Row). a ++ (r ∷ x)) (drop-rows t n 1 i g)
      in
      let len : length (a ++ (r ∷ z)) ≡ n + 1 = omega (arith, length-append a (r ∷ z), length-rows t i 1, length-rows t (n - i) k) in
      let far : k + 3 + m ≡ 1 + 3 * (n + 1) = omega arith in
      let end = drop (1 + 3 * (n + 1)) t in
      let s : t₂ ≡ (get_or t 0 0 ∷ cells_of a) ++ (r.number ∷ r.start ∷ r.octets ∷ (cells_of z ++ end)) =
      q ∙ rw (u, v, front t i (omega arith), cz, far)
      in
      let joined = append_assoc (cells_of a) (cells_of (r ∷ z)) end ∙ ap (λ (x : List ℕ). cells_of a ++ (x ++ end)) (cells-cons r z) in
      ap (λ (x : List ℕ). set x 0 (n + 1)) s ∙ sym (rw (ins, len, cells-append a (r ∷ z)) (ap (λ (x : List ℕ). (n + 1) ∷ x) joined))

  pub removed : {t₁ : List ℕ} → 1 + 3 * n ≤ length t → i < n → t₁ ≡ paste t (1 + 3 * i) (drop (1 + 3 * i + 3) t) (3 * (n - (i + 1)))
      → set t₁ 0 (n - 1) ≡ laid (remove_at i (rows_of t)) t
  unfolding laid
  removed {t₁} h g p =
      let k = 1 + 3 * i in
      let m = n - (i + 1) in
      let a = rows_at t i 1 in
      let z = rows_at t m (k + 3) in
      let k3 : k + 3 ≡ 1 + 3 * (i + 1) = omega arith in
      let cz : take (3 * m) (drop (k + 3) t) ≡ cells_of z = sym (cells-rows t m (k + 3) (omega arith)) in
      let del : remove_at i (rows_of t) ≡ a ++ z =
      ap (λ (x : ℕ). remove_at i (rows_at t x 1)) (sym e)
      ∙ ap (λ (x : List Row). x ++ drop (i + 1) (rows_at t n 1)) (take-rows t n 1 i (omega arith))
      ∙ ap (λ (x : List Row). a ++ x) (drop-rows t n 1 (i + 1) (omega arith) ∙ ap (λ (x : ℕ). rows_at t m x) (sym k3))
      in
      let len : length (a ++ z) ≡ n - 1 = omega (arith, length-append a z, length-rows t i 1, length-rows t m (k + 3)) in
      let far : k + 3 * m ≡ 1 + 3 * (n - 1) = omega arith in
      let s : t₁ ≡ ((get_or t 0 0 ∷ cells_of a) ++ cells_of z) ++ drop (1 + 3 * (n - 1)) t = p ∙ rw (front t i (omega arith), cz, far) in
      ap (λ (x : List ℕ). set x 0 (n - 1)) s ∙ sym (rw (del, len, cells-append a z))
