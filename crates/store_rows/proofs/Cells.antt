-- Rows and the cells that they lie in: `rows_snoc`, `cells-rows` (the cells of rows are those they are read from), `rows-laid` (laid, they
-- read back), `laid-again` (laid over fewer, as if laid at once).
use Prim.Native.Nat.{ℕ, zero, suc, ◌+◌, ◌*◌, ◌-◌, ◌≤◌, ◌<◌}
use mathlib.Core.Path.{◌≡◌, refl, sym, ap, ◌∙◌}
use mathlib.Core.List.{List, [], ◌∷◌, ◌++◌, append_assoc}
use native.Mathlib.Omega.{arith}
use native.Mathlib.Nat.{not-suc-le-zero}
use native.Mathlib.Numerals.{add-one}
use lib.ListN.{length, take, drop, get_or, set, length-append}
use lib.Seq.{drop_at, drop-cons, drop-drop, append_snoc, get_or-append-add, set_at}
use Rattle.store_rows.specs.declared.rows.Row.{Row}
use Rattle.store_rows.specs.Rows.{held}
use Rattle.store_rows.specs.Cells.{row_at, rows_at, rows_of, cells_of, laid}
use Rattle.store_rows.specs.Changed.{nth}
use Rattle.store_rows.proofs.Lists.{same-get_d}

pub row_is : (t : List ℕ) (k : ℕ) {a b c : ℕ} → a ≡ get_or t k 0 → b ≡ get_or t (k + 1) 0 → c ≡ get_or t (k + 2) 0
    → ◌≡◌ {A = Row} (record { number = a; start = b; octets = c }) (row_at t k)
row_is t k e f g = rw (e, f, g)

pub row_same : (t u : List ℕ) (k : ℕ) → drop k t ≡ drop k u → row_at t k ≡ row_at u k
row_same t u k e =
    row_is u k (same-get_d k k t u e (omega arith)) (same-get_d k (k + 1) t u e (omega arith)) (same-get_d k (k + 2) t u e (omega arith))

rows-snoc' : (t : List ℕ) (i k : ℕ) → rows_at t (suc i) k ≡ rows_at t i k ++ (row_at t (k + 3 * i) ∷ [])
unfolding rows_at
rows-snoc' t zero k = ap (λ (x : ℕ). row_at t x ∷ []) (omega arith)
rows-snoc' t (suc i) k =
    ap (λ (x : List Row). row_at t k ∷ x) (rows-snoc' t i (k + 3) ∙ ap (λ (x : ℕ). rows_at t i (k + 3) ++ (row_at t x ∷ [])) (omega arith))

pub rows_snoc : (t : List ℕ) (i k : ℕ) → rows_at t (i + 1) k ≡ rows_at t i k ++ (row_at t (k + 3 * i) ∷ [])
rows_snoc t i k = rw (add-one i) (rows-snoc' t i k)

pub length-rows : (t : List ℕ) (n k : ℕ) → length (rows_at t n k) ≡ n
unfolding rows_at
length-rows t zero k = refl
length-rows t (suc n) k = ap suc (length-rows t n (k + 3))

pub take-rows : (t : List ℕ) (n k i : ℕ) → i ≤ n → take i (rows_at t n k) ≡ rows_at t i k
unfolding rows_at
take-rows t n k zero h = refl
take-rows t zero k (suc i) h = absurd (not-suc-le-zero h)
take-rows t (suc n) k (suc i) h = ap (λ (x : List Row). row_at t k ∷ x) (take-rows t n (k + 3) i (omega arith))

pub drop-rows : (t : List ℕ) (n k i : ℕ) → i ≤ n → drop i (rows_at t n k) ≡ rows_at t (n - i) (k + 3 * i)
unfolding rows_at
drop-rows t n k zero h = let e : n - 0 ≡ n = omega arith in let f : k + 3 * 0 ≡ k = omega arith in rw (e, f)
drop-rows t zero k (suc i) h = absurd (not-suc-le-zero h)
drop-rows t (suc n) k (suc i) h =
    let e : suc n - suc i ≡ n - i = omega arith in
    let f : k + 3 + 3 * i ≡ k + 3 * suc i = omega arith in
    rw (e, ← f) (drop-rows t n (k + 3) i (omega arith))

-- row i of a table
pub nth-rows : (t : List ℕ) (n k i : ℕ) → i < n → nth i (rows_at t n k) ≡ row_at t (k + 3 * i)
unfolding rows_at
nth-rows t zero k i h = absurd (not-suc-le-zero h)
nth-rows t (suc n) k zero h = ap (λ (y : ℕ). row_at t y) (omega arith)
nth-rows t (suc n) k (suc i) h = nth-rows t n (k + 3) i (omega arith) ∙ ap (λ (y : ℕ). row_at t y) (omega arith)

pub held-snoc : (rs : List Row) (r : Row) → held (rs ++ (r ∷ [])) ≡ held rs + r.octets
unfolding held
held-snoc [] r = omega arith
held-snoc (a ∷ rs) r = omega (arith, held-snoc rs r)

pub cells-cons : (r : Row) (z : List Row) → cells_of (r ∷ z) ≡ r.number ∷ r.start ∷ r.octets ∷ cells_of z
unfolding cells_of
cells-cons r z = refl

pub cells-append : (a b : List Row) → cells_of (a ++ b) ≡ cells_of a ++ cells_of b
unfolding cells_of
cells-append [] b = refl
cells-append (r ∷ a) b = ap (λ (x : List ℕ). r.number ∷ r.start ∷ r.octets ∷ x) (cells-append a b)

pub cells-snoc : (rs : List Row) (r : Row) → cells_of (rs ++ (r ∷ [])) ≡ cells_of rs ++ (r.number ∷ r.start ∷ r.octets ∷ [])
unfolding cells_of
cells-snoc rs r = cells-append rs (r ∷ [])

pub length-cells : (rs : List Row) → length (cells_of rs) ≡ 3 * length rs
unfolding cells_of
length-cells [] = refl
length-cells (a ∷ rs) = omega (arith, length-cells rs)

-- three cells of a table
pub drop-three : (t : List ℕ) (k : ℕ) → k + 3 ≤ length t
    → drop k t ≡ get_or t k 0 ∷ get_or t (k + 1) 0 ∷ get_or t (k + 2) 0 ∷ drop (k + 3) t
drop-three t k h =
    let a : suc k ≡ k + 1 = omega arith in
    let b : suc (k + 1) ≡ k + 2 = omega arith in
    let c : suc (k + 2) ≡ k + 3 = omega arith in
    let u = rw a at (drop-cons t k 0 (omega arith)) in
    let v = rw b at (drop-cons t (k + 1) 0 (omega arith)) in
    let w = rw c at (drop-cons t (k + 2) 0 (omega arith)) in
    u ∙ ap (λ (x : List ℕ). get_or t k 0 ∷ x) (v ∙ ap (λ (x : List ℕ). get_or t (k + 1) 0 ∷ x) w)

pub set-second : (p rest : List ℕ) (a b c v k : ℕ) → length p ≡ k → set (p ++ (a ∷ b ∷ c ∷ rest)) (k + 1) v ≡ p ++ (a ∷ v ∷ c ∷ rest)
set-second p rest a b c v k e =
    ap (λ (x : List ℕ). set x (k + 1) v) (sym (append_snoc p a (b ∷ c ∷ rest)))
    ∙ set_at (p ++ (a ∷ [])) b (c ∷ rest) v (k + 1) (omega (arith, length-append p (a ∷ []))) ∙ append_snoc p a (v ∷ c ∷ rest)

-- the cells of rows are the cells that they are read from
pub cells-rows : (t : List ℕ) (n k : ℕ) → k + 3 * n ≤ length t → cells_of (rows_at t n k) ≡ take (3 * n) (drop k t)
unfolding rows_at cells_of
cells-rows t zero k h = refl
cells-rows t (suc n) k h =
    let e : 3 * suc n ≡ suc (suc (suc (3 * n))) = omega arith in
    rw (e, drop-three t k (omega arith), cells-rows t n (k + 3) (omega arith))

-- rows laid are the rows read
rows-from : (p : List ℕ) (rows : List Row) (rest : List ℕ) (k : ℕ) → length p ≡ k
    → rows_at (p ++ (cells_of rows ++ rest)) (length rows) k ≡ rows
unfolding rows_at cells_of
rows-from p [] rest k e = refl
rows-from p (r ∷ rows) rest k e =
    let more = cells_of rows ++ rest in
    let t = p ++ (r.number ∷ r.start ∷ r.octets ∷ more) in
    let q = p ++ (r.number ∷ r.start ∷ r.octets ∷ []) in
    let c : p ++ (cells_of (r ∷ rows) ++ rest) ≡ t = ap (λ (x : List ℕ). p ++ (x ++ rest)) (cells-cons r rows) in
    let g : (j : ℕ) → get_or t (k + j) 0 ≡ get_or (r.number ∷ r.start ∷ r.octets ∷ more) j 0 =
    λ j. ap (λ (x : ℕ). get_or t (x + j) 0) (sym e) ∙ get_or-append-add p (r.number ∷ r.start ∷ r.octets ∷ more) j 0
    in
    let z : k + 0 ≡ k = omega arith in
    let s : t ≡ q ++ more = sym (append_assoc p (r.number ∷ r.start ∷ r.octets ∷ []) more) in
    let ih = rows-from q rows rest (k + 3) (omega (arith, length-append p (r.number ∷ r.start ∷ r.octets ∷ []))) in
    let u : rows_at t (length rows) (k + 3) ≡ rows = ap (λ (x : List ℕ). rows_at x (length rows) (k + 3)) s ∙ ih in
    let first : row_at t k ≡ r = sym (row_is t k (sym (rw z at (g 0))) (sym (g 1)) (sym (g 2))) in
    ap (λ (x : List ℕ). rows_at x (suc (length rows)) k) c
    ∙ (ap (λ (x : Row). x ∷ rows_at t (length rows) (k + 3)) first ∙ ap (λ (x : List Row). r ∷ x) u)

pub rows-laid : (rows : List Row) (t : List ℕ) → rows_of (laid rows t) ≡ rows
unfolding laid
rows-laid rows t = rows-from (length rows ∷ []) rows (drop (1 + 3 * length rows) t) 1 refl

pub count-laid : (rows : List Row) (t : List ℕ) → get_or (laid rows t) 0 0 ≡ length rows
unfolding laid
count-laid rows t = refl

pub laid-again : (a b : List Row) (t : List ℕ) → length b ≤ length a → laid a (laid b t) ≡ laid a t
unfolding laid
laid-again a b t h =
    let head = length b ∷ cells_of b in
    let far = 1 + 3 * length b in
    let more = 3 * length a - 3 * length b in
    let f : 1 + 3 * length a ≡ far + more = omega arith in
    let d : drop (1 + 3 * length a) (head ++ drop far t) ≡ drop (1 + 3 * length a) t =
    ap (λ (x : ℕ). drop x (head ++ drop far t)) f ∙ sym (drop-drop more far (head ++ drop far t))
    ∙ ap (λ (x : List ℕ). drop more x) (drop_at head (drop far t) far (omega (arith, length-cells b)))
    ∙ drop-drop more far t ∙ ap (λ (x : ℕ). drop x t) (sym f)
    in
    ap (λ (x : List ℕ). (length a ∷ cells_of a) ++ x) d
