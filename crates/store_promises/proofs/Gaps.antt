-- A gap that is found: the greetings before it rise below it, those behind it rise above it (`gap-split`). It is the lowest: `lowest-gap`,
-- `no_gap`.
use Prim.Native.Nat.{ℕ, suc, ◌+◌, ◌≤◌, ◌<◌}
use mathlib.Core.Path.{◌≡◌, refl, ap, ◌∙◌}
use mathlib.Core.List.{List, [], ◌∷◌, ◌++◌}
use mathlib.Core.Bool.{Bool, true, false, cond}
use native.Mathlib.Omega.{arith}
use native.Mathlib.Decide.{dec_lt}
use lib.ListN.{length, take, drop}
use lib.Dec.{ltb}
use borrow.Author.Tests.{ltb-false, ltb-true}
use Rattle.store_rows.specs.declared.rows.Row.{Row}
use Rattle.std.specs.Prelude.{Option, Some, None}
use Rattle.store_rows.specs.Rows.{row_of, Kept, contents}
use Rattle.store_rows.specs.Finding.{gap_from, lowest_gap}
use Rattle.store_rows.specs.Sane.{rising}
use Rattle.store_rows.specs.Changed.{insert_at, written}
use Rattle.store_rows.proofs.Rising.{Next, rising-head}
use Rattle.store_promises.specs.Kept.{Clear}
use Rattle.store_promises.proofs.Rising.{rising-nil, rising-cons, rising-join}
use Rattle.store_promises.proofs.Contents.{kept, contents-append, contents-cons, below-reads, above-reads, own-part}

pub record Split (want size lo i : ℕ) (rows : List Row) (j s : ℕ) : Type 0 where
  pub k : ℕ
  pub index : j ≡ i + k
  pub over : lo ≤ s
  pub inside : s + want ≤ size
  pub below : rising 1 lo s (take k rows) ≡ true
  pub above : rising 1 (s + want) size (drop k rows) ≡ true

split-here : {want size lo i : ℕ} {rows : List Row} {j s : ℕ} → j ≡ i → s ≡ lo → lo + want ≤ size → rising 1 (lo + want) size rows ≡ true
    → Split want size lo i rows j s
split-here {want} {size} {lo} {i} {rows} e f g h =
    rw (e, f) (record { k = 0; index = omega arith; over = omega arith; inside = g; below = rising-nil 1 lo lo; above = h })

split-later : {want size lo i : ℕ} {r : Row} {rows : List Row} {j s : ℕ} → Next 1 lo size r
    → Split want size (r.start + r.octets) (i + 1) rows j s → Split want size lo i (r ∷ rows) j s
split-later {want} {size} {lo} {i} {r} {rows} {j} {s} n p =
    record {
      k = suc p.k;
      index = omega (arith, p.index);
      over = omega (arith, p.over, n.above);
      inside = p.inside;
      below = rising-cons 1 lo s r (take p.k rows) (record { above = n.above; some = n.some; inside = p.over }) p.below;
      above = p.above;
    }

-- the two numbers of a gap
abbrev index_of : Option (ℕ × ℕ) → ℕ
index_of (Some (i, at)) = i
index_of None = 0

abbrev place_of : Option (ℕ × ℕ) → ℕ
place_of (Some (i, at)) = at
place_of None = 0

gap-cases : (want size lo i : ℕ) (rows : List Row) {j s : ℕ} {more : Option (ℕ × ℕ)} (k : ℕ) (b : Bool) → ltb k (lo + want) ≡ b
    → (lo + want ≤ k → (lo + want ≤ size) × (rising 1 (lo + want) size rows ≡ true))
    → (Some (j, s) ≡ more → Split want size lo i rows j s) → Some (j, s) ≡ cond b more (Some (i, lo)) → Split want size lo i rows j s
gap-cases want size lo i rows k true t g f e = f e
gap-cases want size lo i rows {j} {s} k false t g f e =
    let a : j ≡ i = ap index_of e in
    let b : s ≡ lo = ap place_of e in
    let q = g (ltb-false k (lo + want) t) in
    split-here a b q.0 q.1

no-split : {want size lo i : ℕ} {rows : List Row} {j s : ℕ} → ◌≡◌ {A = Option (ℕ × ℕ)} (Some (j, s)) None → Split want size lo i rows j s
no-split e = let z : ◌≡◌ {A = ℕ} 0 1 = cc in absurd (omega arith)

pub gap-split : (want size lo i : ℕ) (rows : List Row) {j s : ℕ} → lo ≤ size → rising 1 lo size rows ≡ true
    → Some (j, s) ≡ gap_from want size lo i rows → Split want size lo i rows j s
unfolding gap_from
gap-split want size lo i [] g h e =
    gap-cases want size lo i [] size (ltb size (lo + want)) refl (λ q. (q, rising-nil 1 (lo + want) size)) no-split e
gap-split want size lo i (r ∷ rows) g h e =
    let n = rising-head 1 lo size r rows h in
    let m = n.0 in
    gap-cases want size lo i (r ∷ rows) r.start (ltb r.start (lo + want)) refl
    (λ q. (
      omega (arith, m.inside),
      rising-cons 1 (lo + want) size r rows
          (record { above = q; some = m.some; inside = m.inside }) n.1,
    ))
    (λ q. split-later m (gap-split want size (r.start + r.octets) (i + 1) rows m.inside n.1 q)) e

-- put in a gap: the new greeting reads as given, every other as before; the rows still rise
module _ (b xs : List ℕ) (size x : ℕ) (rows : List Row) (j s : ℕ) (f : size ≤ length b) (o : 1 ≤ length xs)
    (h : rising 1 0 size rows ≡ true)
    (e : Some (j, s) ≡ lowest_gap (length xs) size rows) where
  gap : Split (length xs) size 0 0 rows j s
  gap = gap-split (length xs) size 0 0 rows (omega arith) h e

  at-k : j ≡ gap.k
  at-k = omega (arith, gap.index)

  pub gap-inside : s + length xs ≤ size
  gap-inside = gap.inside

  pub gap-rises : rising 1 0 size (insert_at j (row_of x s (length xs)) rows) ≡ true
  gap-rises =
      rw at-k
      (rising-join (take gap.k rows) (row_of x s (length xs)) (drop gap.k rows) 0 size o gap.over gap.inside
      gap.below gap.above)

  pub gap-reads : contents (written b s xs) (insert_at j (row_of x s (length xs)) rows)
      ≡ contents b (take j rows) ++ (kept x xs ∷ contents b (drop j rows))
  gap-reads =
      let g = gap in
      let w = written b s xs in
      let l : s + length xs ≤ length b = omega (arith, g.inside) in
      let r = row_of x s (length xs) in
      rw at-k (contents-append w (take g.k rows) (r ∷ drop g.k rows)
      ∙ ap (λ (y : List Kept). contents w (take g.k rows) ++ y) (contents-cons w r (drop g.k rows)) ∙ rw (
        below-reads b xs s l (take g.k rows) 0 g.below,
        above-reads b xs s l (drop g.k rows) (s + length xs) size (omega arith) g.above,
        own-part b xs s l,
      ))

-- no lower place is clear; where no gap is found, none is
abbrev pub Bounds : ℕ → ℕ → ℕ → Option (ℕ × ℕ) → Type 0
Bounds p want size (Some (j, s)) = s ≤ p
Bounds p want size None = size < p + want

bounds-cases : (p want size lo i : ℕ) (more : Option (ℕ × ℕ)) (b : Bool) → lo ≤ p → (b ≡ true → Bounds p want size more)
    → Bounds p want size (cond b more (Some (i, lo)))
bounds-cases p want size lo i more true l f = f refl
bounds-cases p want size lo i more false l f = l

pub gap-lowest : (p want size lo i : ℕ) (rows : List Row) → 1 ≤ want → lo ≤ p → rising 1 lo size rows ≡ true → Clear p want rows
    → p + want ≤ size → Bounds p want size (gap_from want size lo i rows)
unfolding gap_from Clear
gap-lowest p want size lo i [] w l h c q =
    bounds-cases p want size lo i None (ltb size (lo + want)) l (λ t. let z = ltb-true size (lo + want) t in absurd (omega arith))
gap-lowest p want size lo i (r ∷ rows) w l h c q =
    let n = rising-head 1 lo size r rows h in
    let m = n.0 in
    bounds-cases p want size lo i (gap_from want size (r.start + r.octets) (i + 1) rows) (ltb r.start (lo + want)) l (λ t.
    let z = ltb-true r.start (lo + want) t in
    gap-lowest p want size (r.start + r.octets) (i + 1) rows w (past m z (dec_lt p (r.start + r.octets))) n.1 c.1 q)
  where
    past : Next 1 lo size r → r.start < lo + want → Dec (p < r.start + r.octets) → r.start + r.octets ≤ p
    past m z (yes y) = absurd (c.0 y (omega arith))
    past m z (no y) = omega arith

-- and the gap itself is clear
below-clear : (s want lo : ℕ) (rows : List Row) → rising 1 lo s rows ≡ true → Clear s want rows
unfolding Clear
below-clear s want lo [] h = tt
below-clear s want lo (r ∷ rows) h =
    let n = rising-head 1 lo s r rows h in
    let m = n.0.inside in
    ((λ a b. absurd (omega arith)), below-clear s want (r.start + r.octets) rows n.1)

above-clear : (s want lo size : ℕ) (rows : List Row) → s + want ≤ lo → rising 1 lo size rows ≡ true → Clear s want rows
unfolding Clear
above-clear s want lo size [] l h = tt
above-clear s want lo size (r ∷ rows) l h =
    let n = rising-head 1 lo size r rows h in
    let m = n.0.above in
    ((λ a b. absurd (omega arith)), above-clear s want (r.start + r.octets) size rows (omega arith) n.1)

clear-append : (s want : ℕ) (a c : List Row) → Clear s want a → Clear s want c → Clear s want (a ++ c)
unfolding Clear
clear-append s want [] c x y = y
clear-append s want (r ∷ a) c x y = (x.0, clear-append s want a c x.1 y)

pub split-clear : {want size j s : ℕ} (rows : List Row) (p : Split want size 0 0 rows j s)
    → Clear s want (take p.k rows ++ drop p.k rows)
split-clear {want} {size} {j} {s} rows p =
    clear-append s want (take p.k rows) (drop p.k rows) (below-clear s want 0 (take p.k rows) p.below)
    (above-clear s want (s + want) size (drop p.k rows) (omega arith) p.above)
