-- A number among the greetings: `find_absent` (it is absent exactly where its place is past them). A gap that is found is inside, among the
-- greetings: `gap-fits`. Then the loops that look and count.
use Prim.Native.Nat.{ℕ, suc, ◌+◌, ◌*◌, ◌≤◌, ◌<◌}
use mathlib.Core.Path.{◌≡◌, refl, sym, ap, ◌∙◌}
use mathlib.Core.List.{List, [], ◌∷◌}
use mathlib.Core.Bool.{Bool, true, false, cond, not, ◌||◌}
use native.Mathlib.Omega.{arith}
use lib.ListN.{length}
use lib.Dec.{eqb, ltb}
use borrow.Author.Tests.{lt-ltb, le-ltb, ltb-false}
use Rattle.store_rows.specs.declared.rows.Row.{Row}
use Rattle.std.proofs.Common.{Option, Some, None, ltb-true}
use Rattle.std.specs.Prelude.{unwrap_or, IfSome}
use Rattle.std.specs.Option.{is_some}
use Rattle.std.proofs.lemmas.Bool.{not-true, not-false}
use Rattle.std.specs.List.{fold, list_any, position, position_or_len, sum_by}
use Rattle.store_rows.specs.Rows.{held}
use Rattle.store_rows.specs.Cells.{row_at, rows_at}
use Rattle.store_rows.specs.Sane.{rising}
use Rattle.store_rows.specs.Finding.{absent, find_from, place_of, gap_from}
use Rattle.store_rows.proofs.Cells.{rows_snoc, held-snoc}
use Rattle.store_rows.proofs.Rising.{rising-head}

-- absent, by the place
absent_more : {a : Bool} (i f n : ℕ) (b : Bool) → a ≡ not (ltb f (i + suc n)) → cond b false a ≡ not (ltb (cond b i f) (i + suc n))
absent_more i f n true e = rw (lt-ltb i (i + suc n) (omega arith))
absent_more i f n false e = e

pub find_absent : (x i : ℕ) (rs : List Row) → absent x rs ≡ not (ltb (find_from x i rs) (i + length rs))
unfolding absent find_from
find_absent x i [] = let e : i + 0 ≡ i = omega arith in rw (e, le-ltb i i (omega arith))
find_absent x i (r ∷ rs) =
    let f = find_from x (i + 1) rs in
    absent_more i f (length rs) (eqb r.number x) (find_absent x (i + 1) rs ∙ ap (λ (y : ℕ). not (ltb f y)) (omega arith))

pub found_here : (x i n : ℕ) (rs : List Row) {f : ℕ} → f ≡ find_from x i rs → i + length rs ≡ n → f < n → absent x rs ≡ false
found_here x i n rs {f} e l h = rw (find_absent x i rs, ← e, l, lt-ltb f n h)

pub found_nowhere : (x i n : ℕ) (rs : List Row) {f : ℕ} → f ≡ find_from x i rs → i + length rs ≡ n → n ≤ f → absent x rs ≡ true
found_nowhere x i n rs {f} e l h = rw (find_absent x i rs, ← e, l, le-ltb f n h)

-- a gap that is found
pub record Fits (want size far : ℕ) (i at : ℕ) : Type 0 where
  pub among : i ≤ far
  pub inside : at + want ≤ size

gap-case : {want size far : ℕ} {j s : ℕ} {more : Option (ℕ × ℕ)} (at i k : ℕ) (b : Bool) → ltb k (at + want) ≡ b → k ≤ size → i ≤ far
    → (Some (j, s) ≡ more → Fits want size far j s) → Some (j, s) ≡ cond b more (Some (i, at)) → Fits want size far j s
gap-case at i k true t g h f e = f e
gap-case {want} {j = j} {s} at i k false t g h f e =
    let p : ◌≡◌ {A = ℕ × ℕ} (j, s) (i, at) = cc in
    let a : j ≡ i = ap (λ (q : ℕ × ℕ). q.0) p in
    let b : s ≡ at = ap (λ (q : ℕ × ℕ). q.1) p in
    record { among = omega arith; inside = omega (arith, ltb-false k (at + want) t) }

no_gap : {want size far j s : ℕ} → ◌≡◌ {A = Option (ℕ × ℕ)} (Some (j, s)) None → Fits want size far j s
no_gap e = cc

fits_more : {want size far far' j s : ℕ} → far ≤ far' → Fits want size far j s → Fits want size far' j s
fits_more h f = record { among = omega (arith, f.among); inside = f.inside }

pub gap-fits : (want size least at i : ℕ) (rows : List Row) {j s : ℕ} → rising least at size rows ≡ true
    → Some (j, s) ≡ gap_from want size at i rows → Fits want size (i + length rows) j s
unfolding gap_from
gap-fits want size least at i [] h e = gap-case at i size (ltb size (at + want)) refl (omega arith) (omega arith) no_gap e
gap-fits want size least at i (r ∷ rows) h e =
    let n = rising-head least at size r rows h in
    gap-case at i r.start (ltb r.start (at + want)) refl (omega (arith, n.0.inside)) (omega arith)
    (λ q. fits_more (omega arith) (gap-fits want size least (r.start + r.octets) (i + 1) rows n.1 q)) e

-- its place, as a search tells it
find-first : (x i : ℕ) (rs : List Row) → find_from x i rs ≡ i + position_or_len (λ r. eqb r.number x) rs
unfolding find_from
find-first x i [] = omega arith
find-first x i (r ∷ rs) = go (eqb r.number x) _ (find-first x (i + 1) rs)
  where
    go : {f : ℕ} (b : Bool) (p : ℕ) → f ≡ i + 1 + p → cond b i f ≡ i + cond (not b) (1 + p) 0
    go true p e = omega arith
    go false p e = omega (arith, e)

find_few : (x i : ℕ) (rs : List Row) → find_from x i rs ≤ i + length rs
unfolding find_from
find_few x i [] = omega arith
find_few x i (r ∷ rs) = go (eqb r.number x) (find_few x (i + 1) rs)
  where
    go : {f : ℕ} (b : Bool) → f ≤ i + 1 + length rs → cond b i f ≤ i + suc (length rs)
    go true h = omega arith
    go false h = omega (arith, h)

found-case : (b : Bool) (f n : ℕ) {k : ℕ} → ltb f n ≡ b → Some k ≡ cond b (Some f) None → (k ≡ f) × (f < n)
found-case true f n q e = (cc, ltb-true f n q)
found-case false f n q e = cc

past-case : (b : Bool) (f n : ℕ) → ltb f n ≡ b → ◌≡◌ {A = Option ℕ} None (cond b (Some f) None) → n ≤ f
past-case true f n q e = cc
past-case false f n q e = ltb-false f n q

-- a search among rows of which the first is at i, and that end before n
module _ (x i n : ℕ) (rs : List Row) (l : i + length rs ≡ n) where
  pub place-on : {k : ℕ} → Some k ≡ position (λ r. eqb r.number x) rs → (i + k ≡ find_from x i rs) × (i + k < n)
  place-on e =
      let f = position_or_len (λ (r : Row). eqb r.number x) rs in
      let g = found-case (ltb f (length rs)) f (length rs) refl e in
      (omega (arith, g.0, find-first x i rs), omega (arith, g, l))

  pub place-past : None ≡ position (λ r. eqb r.number x) rs → n ≡ find_from x i rs
  place-past e =
      let f = position_or_len (λ (r : Row). eqb r.number x) rs in
      let g = past-case (ltb f (length rs)) f (length rs) refl e in
      omega (arith, g, l, find-first x i rs, find_few x i rs)

-- the place that was found, or none where they end
pub place-told : (x n : ℕ) (rs : List Row) {o : Option ℕ} → length rs ≡ n → unwrap_or o n ≡ find_from x 0 rs → IfSome o (λ i. i < n)
    → o ≡ place_of x rs
unfolding place_of
place-told x n rs {o = Some i} l e h = rw (found_here x 0 n rs e (omega (arith, l)) h, ← e)
place-told x n rs {o = None} l e h = rw (found_nowhere x 0 n rs e (omega (arith, l)) (omega arith))

pub place-some : (x : ℕ) (rs : List Row) {i : ℕ} → place_of x rs ≡ Some i → (absent x rs ≡ false) × (i ≡ find_from x 0 rs) × (i < length rs)
unfolding place_of
place-some x rs {i} e = go (absent x rs) refl e
  where
    go : (b : Bool) → absent x rs ≡ b → cond b None (Some (find_from x 0 rs)) ≡ Some i
        → (absent x rs ≡ false) × (i ≡ find_from x 0 rs) × (i < length rs)
    go true q e = cc
    go false q e =
        let f : i ≡ find_from x 0 rs = cc in
        (q, f, omega (arith, f, ltb-true (find_from x 0 rs) (0 + length rs) (not-false _ (sym (find_absent x 0 rs) ∙ q))))

pub place-none : (x : ℕ) (rs : List Row) → place_of x rs ≡ None → absent x rs ≡ true
unfolding place_of
place-none x rs e = go (absent x rs) refl e
  where
    go : (b : Bool) → absent x rs ≡ b → cond b None (Some (find_from x 0 rs)) ≡ None → absent x rs ≡ true
    go true q e = q
    go false q e = cc

pub place-there : (x : ℕ) (rs : List Row) → is_some (place_of x rs) ≡ not (absent x rs)
unfolding place_of
place-there x rs = go (absent x rs)
  where
    go : (b : Bool) → is_some (cond b None (Some (find_from x 0 rs))) ≡ not b
    go true = refl
    go false = refl

-- or the place past them
pub place-or : (x n : ℕ) (rs : List Row) {f : ℕ} → length rs ≡ n → f ≡ unwrap_or (place_of x rs) n → (f ≡ find_from x 0 rs) × (f ≤ n)
unfolding place_of
place-or x n rs {f} l e =
    let g = e ∙ go (absent x rs) refl in
    (g, omega (arith, g, find_few x 0 rs, l))
  where
    go : (b : Bool) → absent x rs ≡ b → unwrap_or (cond b None (Some (find_from x 0 rs))) n ≡ find_from x 0 rs
    go false q = refl
    go true q =
        let past = ltb-false (find_from x 0 rs) (0 + length rs) (not-true _ (sym (find_absent x 0 rs) ∙ q)) in
        omega (arith, past, find_few x 0 rs, l)

pub any-absent : (x : ℕ) (rs : List Row) → list_any (λ r. eqb r.number x) rs ≡ not (absent x rs)
unfolding absent
any-absent x [] = refl
any-absent x (r ∷ rs) = go (eqb r.number x) _ (any-absent x rs)
  where
    go : {a : Bool} (b c : Bool) → a ≡ not c → (b || a) ≡ not (cond b false c)
    go true c e = refl
    go false c e = e

-- the loop that looks for a gap
module _ (want size at i : ℕ) where
  pub gap-end : {n : ℕ} → i ≡ n → at + want ≤ size → Some (n, at) ≡ gap_from want size at i []
  unfolding gap_from
  gap-end e f = rw (le-ltb size (at + want) f, e)

  pub gap-none : size < at + want → None ≡ gap_from want size at i []
  unfolding gap_from
  gap-none f = rw (lt-ltb size (at + want) f)

  module _ (r : Row) (rs : List Row) where
    pub gap_here : at + want ≤ r.start → Some (i, at) ≡ gap_from want size at i (r ∷ rs)
    unfolding gap_from
    gap_here a = rw (le-ltb r.start (at + want) a)

    pub gap-turn : r.start < at + want → gap_from want size at i (r ∷ rs) ≡ gap_from want size (r.start + r.octets) (i + 1) rs
    unfolding gap_from
    gap-turn a = rw (lt-ltb r.start (at + want) a)

pub held-turn : {r : Row} {sum : ℕ} (t : List ℕ) (i : ℕ) → r ≡ row_at t (1 + 3 * i) → sum ≡ held (rows_at t i 1)
    → sum + r.octets ≡ held (rows_at t (i + 1) 1)
held-turn t i e s = rw (rows_snoc t i 1, held-snoc (rows_at t i 1) (row_at t (1 + 3 * i)), ← s, e)

pub held-sum : (rs : List Row) → sum_by (λ r. r.octets) rs ≡ held rs
unfolding held
held-sum rs = go rs 0 ∙ omega arith
  where
    go : (rs : List Row) (a : ℕ) → fold (λ (s : ℕ) (r : Row). s + r.octets) a rs ≡ a + held rs
    go [] a = omega arith
    go (r ∷ rs) a = go rs (a + r.octets) ∙ omega arith
