-- Cells put in from a place on: none, one, and one part after another.
use Prim.Native.Nat.{ℕ, zero, suc, ◌+◌, ◌≤◌, ◌<◌}
use mathlib.Core.Path.{◌≡◌, refl, sym, ap, ◌∙◌}
use mathlib.Core.List.{List, [], ◌∷◌, ◌++◌, append_assoc}
use native.Mathlib.Omega.{arith}
use native.Mathlib.Nat.{add-zero, zero-add}
use native.Mathlib.Numerals.{add-one}
use lib.ListN.{length, take, drop, set, replicate}
use lib.ListN.{length-append, length-drop, take-append-drop}
use lib.Seq.{length-take-le, take_at, drop_at, drop-drop, set_split}
use Rattle.read_runs.specs.Flagged.{kind_of, kinds, Put}

pub put-none : (old : List ℕ) (from : ℕ) → Put old from [] old
put-none old from = record { made = rw (add-zero from) (sym (take-append-drop from old)) }

pub put_one : (old : List ℕ) (i x : ℕ) → i < length old → Put old i (x ∷ []) (set old i x)
put_one old i x h = record { made = rw (add-one i) (set_split old i x h) }

module _ {old xs new : List ℕ} {from : ℕ} (p : Put old from xs new) (h : from + length xs ≤ length old) where
  front : length (take from old ++ xs) ≡ from + length xs
  front = let e = length-take-le from old (omega arith) in simp (length-append) (omega arith)

  split : new ≡ (take from old ++ xs) ++ drop (from + length xs) old
  split = p.made ∙ sym (append_assoc (take from old) xs (drop (from + length xs) old))

  pub put-length : length new ≡ length old
  put-length =
      let f = front in
      ap length split ∙ rw (length-append (take from old ++ xs) (drop (from + length xs) old), length-drop) (omega arith)

  -- one part after another
  pub put_then : {i : ℕ} {ys both after : List ℕ} → from + length xs ≡ i → Put new i ys after → xs ++ ys ≡ both → Put old from both after
  put_then {i} {ys} {both} {after} e q s =
      let f = front ∙ e in
      let t : take i new ≡ take from old ++ xs = ap (λ (l : List ℕ). take i l) split
      ∙ take_at (take from old ++ xs) (drop (from + length xs) old) i f in
      let d : drop i new ≡ drop (from + length xs) old =
      ap (λ (l : List ℕ). drop i l) split ∙ drop_at (take from old ++ xs) (drop (from + length xs) old) i f in
      let k : length both ≡ length xs + length ys = ap length (sym s) ∙ length-append xs ys in
      let m : from + length xs + length ys ≡ from + length both = omega arith in
      let g : drop (i + length ys) new ≡ drop (from + length both) old =
      sym (drop-drop (length ys) i new) ∙ ap (λ (l : List ℕ). drop (length ys) l) d ∙ drop-drop (length ys) (from + length xs) old
      ∙ ap (λ (j : ℕ). drop j old) m
      in
      record { made = rw (q.made, t, g, ← s) (simp append_assoc) }

-- from the first cell on
pub put_first : {old xs new : List ℕ} {n : ℕ} → Put old 0 xs new → length xs ≡ n → new ≡ xs ++ drop n old
put_first {old} {xs} p e = p.made ∙ ap (λ (j : ℕ). xs ++ drop j old) (zero-add (length xs) ∙ e)

-- the kinds of two parts, and of common places
pub length-kinds : (common other : ℕ) (l : List ℕ) → length (kinds common other l) ≡ length l
length-kinds common other [] = refl
length-kinds common other (f ∷ l) = ap suc (length-kinds common other l)

pub kinds-append : (common other : ℕ) (l k : List ℕ) → kinds common other (l ++ k) ≡ kinds common other l ++ kinds common other k
kinds-append common other [] k = refl
kinds-append common other (f ∷ l) k = ap (λ (t : List ℕ). kind_of common other f ∷ t) (kinds-append common other l k)

pub kinds-common : (common other n : ℕ) → kinds common other (replicate n 0) ≡ replicate n common
kinds-common common other zero = refl
kinds-common common other (suc n) = ap (λ (t : List ℕ). common ∷ t) (kinds-common common other n)
