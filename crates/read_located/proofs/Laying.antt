-- A turn of the loop that puts marks into the empty cells, in place.
use Prim.Native.Nat.{ℕ, suc, ◌+◌, ◌≤◌, ◌<◌}
use mathlib.Core.Path.{◌≡◌, refl, sym, ap, ◌∙◌}
use mathlib.Core.List.{List, [], ◌∷◌, ◌++◌, append_assoc}
use mathlib.Core.Bool.{Bool, true, false, cond}
use native.Mathlib.Omega.{arith}
use native.Mathlib.Nat.{add-zero}
use native.Mathlib.Numerals.{add-one}
use lib.Dec.{eqb}
use lib.ListN.{length, get_or, take, drop, set, length-set}
use lib.Seq.{drop-cons, take-suc, take_all, length-take-le, get_or-take, get_or_at, set_at}
use Rattle.read_located.specs.Valued.{fill_in}

length-fill_in : (z : ℕ) (marks : List ℕ) (p : ℕ) (cells : List ℕ) → length (fill_in z marks p cells) ≡ length cells
unfolding fill_in
length-fill_in z marks p [] = refl
length-fill_in z marks p (y ∷ cells) = ap suc (length-fill_in z marks (cond (eqb y z) (p + 1) p) cells)

-- a cell, and the mark that it uses up
fill_in-cons : (z : ℕ) (marks : List ℕ) (p y : ℕ) (cells : List ℕ)
    → fill_in z marks p (y ∷ cells) ≡ cond (eqb y z) (get_or marks p 0) y ∷ fill_in z marks (p + cond (eqb y z) 1 0) cells
unfolding fill_in
fill_in-cons z marks p y cells = go (eqb y z)
  where
    go : (b : Bool) → ◌≡◌ {A = List ℕ} (cond b (get_or marks p 0) y ∷ fill_in z marks (cond b (p + 1) p) cells)
        (cond b (get_or marks p 0) y ∷ fill_in z marks (p + cond b 1 0) cells)
    go true = refl
    go false = rw (add-zero p)

-- the first i cells have had their turn, and have used p marks
pub record Laying (z : ℕ) (marks old : List ℕ) (n i p : ℕ) (new : List ℕ) : Type 0 where
  pub made : new ≡ take i (fill_in z marks 0 (take n old)) ++ drop i old
  pub left : drop i (fill_in z marks 0 (take n old)) ≡ fill_in z marks p (drop i (take n old))
  pub used : p ≤ i
  pub within : i ≤ n
  pub fits : n ≤ 320
  pub before : length old ≡ 320
  pub room : length new ≡ 320

pub laying-none : (z : ℕ) (marks old : List ℕ) (n : ℕ) → n ≤ 320 → length old ≡ 320 → Laying z marks old n 0 0 old
laying-none z marks old n h l =
    record { made = refl; left = refl; used = omega arith; within = omega arith; fits = h; before = l; room = l }

same_head : {a b : ℕ} {l k : List ℕ} → ◌≡◌ {A = List ℕ} (a ∷ l) (b ∷ k) → a ≡ b
same_head e = cc

same-tail : {a b : ℕ} {l k : List ℕ} → ◌≡◌ {A = List ℕ} (a ∷ l) (b ∷ k) → l ≡ k
same-tail e = cc

module _ {z : ℕ} {marks old : List ℕ} {n i p : ℕ} {new : List ℕ} (g : Laying z marks old n i p new) where
  cells-length : length (take n old) ≡ n
  cells-length = let f = g.fits in let b = g.before in length-take-le n old (omega arith)

  made-length : length (fill_in z marks 0 (take n old)) ≡ n
  made-length = length-fill_in z marks 0 (take n old) ∙ cells-length

  pub laying-all : n ≤ i → new ≡ fill_in z marks 0 (take n old) ++ drop n old
  laying-all h =
      let w = g.within in
      let l = made-length in
      let e : i ≡ n = omega arith in
      let t : take n (fill_in z marks 0 (take n old)) ≡ fill_in z marks 0 (take n old) =
      take_all n (fill_in z marks 0 (take n old)) (omega arith) in
      rw e at g.made ∙ ap (λ (k : List ℕ). k ++ drop n old) t

  module _ (h : i < n) where
    abbrev taken : ℕ → ℕ
    taken y = cond (eqb y z) (get_or marks p 0) y

    done-length : length (take i (fill_in z marks 0 (take n old))) ≡ i
    done-length = let l = made-length in length-take-le i (fill_in z marks 0 (take n old)) (omega arith)

    old-split : drop i old ≡ get_or old i 0 ∷ drop (suc i) old
    old-split = let f = g.fits in let b = g.before in drop-cons old i 0 (omega arith)

    still : get_or new i 0 ≡ get_or old i 0
    still = rw (g.made, old-split) (get_or_at (take i (fill_in z marks 0 (take n old))) (get_or old i 0) (drop (suc i) old) 0 i done-length)

    cells-split : drop i (take n old) ≡ get_or old i 0 ∷ drop (suc i) (take n old)
    cells-split =
        let l = cells-length in
        drop-cons (take n old) i 0 (omega arith) ∙ ap (λ (a : ℕ). a ∷ drop (suc i) (take n old)) (get_or-take n old i 0 h)

    both : get_or (fill_in z marks 0 (take n old)) i 0 ∷ drop (suc i) (fill_in z marks 0 (take n old))
        ≡ taken (get_or old i 0) ∷ fill_in z marks (p + cond (eqb (get_or old i 0) z) 1 0) (drop (suc i) (take n old))
    both =
        let l = made-length in
        sym (drop-cons (fill_in z marks 0 (take n old)) i 0 (omega arith)) ∙ g.left ∙ ap (λ (k : List ℕ). fill_in z marks p k) cells-split
        ∙ fill_in-cons z marks p (get_or old i 0) (drop (suc i) (take n old))

    pub laying-turn : {v u : ℕ} → v ≡ taken (get_or new i 0) → u ≡ cond (eqb (get_or new i 0) z) 1 0 → u ≤ 1
        → Laying z marks old n (i + 1) (p + u) (set new i v)
    laying-turn {v} {u} e f k =
        let l = made-length in
        let s : v ≡ get_or (fill_in z marks 0 (take n old)) i 0 = e ∙ ap taken still ∙ sym (same_head both) in
        let t : p + u ≡ p + cond (eqb (get_or old i 0) z) 1 0 = ap (λ (a : ℕ). p + a) (f ∙ ap (λ (a : ℕ). cond (eqb a z) 1 0) still) in
        let m : set new i v ≡ take i (fill_in z marks 0 (take n old)) ++ (v ∷ drop (suc i) old) =
        rw (g.made, old-split) (set_at (take i (fill_in z marks 0 (take n old))) (get_or old i 0) (drop (suc i) old) v i done-length)
        in
        let j : take (suc i) (fill_in z marks 0 (take n old)) ≡ take i (fill_in z marks 0 (take n old)) ++ (v ∷ []) =
        take-suc (fill_in z marks 0 (take n old)) i 0 (omega arith)
        ∙ ap (λ (a : ℕ). take i (fill_in z marks 0 (take n old)) ++ (a ∷ [])) (sym s)
        in
        record {
          made = rw (add-one i, j) (m ∙ simp append_assoc);
          left = rw (add-one i, t) (same-tail both);
          used = let q = g.used in omega arith;
          within = omega arith;
          fits = g.fits;
          before = g.before;
          room = length-set new i v ∙ g.room;
        }
