-- Greetings and their notes, side by side: put together and taken apart (`along-join`, `along-apart`), with one put in (`along-inserted`),
-- with one taken out (`along-removed`). `True` is so pair by pair (`true-along`, `along-true`). A note by its greeting's number:
-- `under-put`, `under-other`.
use Prim.Native.Nat.{ℕ, suc, ◌+◌}
use mathlib.Core.Path.{◌≡◌, refl, sym, ap, ◌∙◌}
use mathlib.Core.List.{List, [], ◌∷◌, ◌++◌}
use mathlib.Core.Bool.{cond}
use native.Mathlib.Omega.{arith}
use lib.ListN.{length, take, drop, length-take, take-append-drop}
use lib.Dec.{eqb}
use borrow.Author.Tests.{eq-eqb, ne_eqb}
use Rattle.store_rows.specs.declared.rows.Row.{Row}
use Rattle.store_rows.specs.Rows.{Kept, contents}
use Rattle.store_greeting.specs.Marks.{Note, note_of}
use Rattle.store_notes.specs.Notes.{True, insert_note}
use Rattle.store_rows.specs.Closing.{closed_rows}
use Rattle.store_promises.specs.Kept.{Known, noted, unknown, note_under, Along}
use Rattle.store_promises.proofs.Numbers.{Fresh}
use Rattle.store_promises.proofs.Contents.{contents-append}

pub length-contents : (b : List ℕ) (rows : List Row) → length (contents b rows) ≡ length rows
unfolding contents
length-contents b [] = refl
length-contents b (r ∷ rows) = ap suc (length-contents b rows)

module _ (p : Kept → Note → Type 0) where
  pub along-length : (ks : List Kept) (notes : List Note) → Along p ks notes → length ks ≡ length notes
  unfolding Along
  along-length [] [] h = refl
  along-length [] (n ∷ notes) h = absurd h
  along-length (k ∷ ks) [] h = absurd h
  along-length (k ∷ ks) (n ∷ notes) h = ap suc (along-length ks notes h.1)

  pub along-join : (a : List Kept) (m : List Note) (c : List Kept) (q : List Note) → Along p a m → Along p c q → Along p (a ++ c) (m ++ q)
  unfolding Along
  along-join [] [] c q h g = g
  along-join [] (n ∷ m) c q h g = absurd h
  along-join (k ∷ a) [] c q h g = absurd h
  along-join (k ∷ a) (n ∷ m) c q h g = (h.0, along-join a m c q h.1 g)

  pub along-apart : (a : List Kept) (m : List Note) (c : List Kept) (q : List Note) → length a ≡ length m → Along p (a ++ c) (m ++ q)
      → Along p a m × Along p c q
  unfolding Along
  along-apart [] [] c q l h = (tt, h)
  along-apart [] (n ∷ m) c q l h = absurd (omega arith)
  along-apart (k ∷ a) [] c q l h = absurd (omega arith)
  along-apart (k ∷ a) (n ∷ m) c q l h = let i = along-apart a m c q (omega arith) h.1 in ((h.0, i.0), i.1)

  pub along-cons : (k : Kept) (n : Note) (c : List Kept) (q : List Note) → p k n → Along p c q → Along p (k ∷ c) (n ∷ q)
  unfolding Along
  along-cons k n c q h g = (h, g)

  pub along-rest : (k : Kept) (n : Note) (c : List Kept) (q : List Note) → Along p (k ∷ c) (n ∷ q) → Along p c q
  unfolding Along
  along-rest k n c q h = h.1

  -- one put in with its note
  pub along-inserted : (b : List ℕ) (i : ℕ) (rows : List Row) (notes : List Note) (k : Kept) (n : Note) → length notes ≡ length rows → p k n
      → Along p (contents b rows) notes → Along p (contents b (take i rows) ++ (k ∷ contents b (drop i rows))) (insert_note i n notes)
  along-inserted b i rows notes k n same h g =
      let s : contents b (take i rows) ++ contents b (drop i rows) ≡ contents b rows =
      sym (contents-append b (take i rows) (drop i rows)) ∙ ap (contents b) (take-append-drop i rows) in
      let l : length (contents b (take i rows)) ≡ length (take i notes) =
      length-contents b (take i rows) ∙ omega (arith, length-take i rows, length-take i notes) in
      let q = along-apart (contents b (take i rows)) (take i notes) (contents b (drop i rows)) (drop i notes) l
      (rw (s, take-append-drop i notes) g) in
      along-join (contents b (take i rows)) (take i notes) (k ∷ contents b (drop i rows)) (n ∷ drop i notes) q.0
      (along-cons k n (contents b (drop i rows)) (drop i notes) h q.1)

  -- one taken out with its note
  pub along-removed : (a : List Kept) (k : Kept) (c : List Kept) (m : List Note) (n : Note) (q : List Note) → length a ≡ length m
      → Along p (a ++ (k ∷ c)) (m ++ (n ∷ q)) → Along p (a ++ c) (m ++ q)
  along-removed a k c m n q l h =
      let s = along-apart a m (k ∷ c) (n ∷ q) l h in
      along-join a m c q s.0 (along-rest k n c q s.1)

-- a note is what the walk gives
abbrev pub IsTrue : Kept → Note → Type 0
IsTrue k n = n ≡ note_of n.law k.octets

pub true-along : (ks : List Kept) (notes : List Note) → True ks notes → Along IsTrue ks notes
unfolding Along True
true-along [] [] h = tt
true-along [] (n ∷ notes) h = absurd h
true-along (k ∷ ks) [] h = absurd h
true-along (k ∷ ks) (n ∷ notes) h = (h.0, true-along ks notes h.1)

pub along-true : (ks : List Kept) (notes : List Note) → Along IsTrue ks notes → True ks notes
unfolding Along True
along-true [] [] h = tt
along-true [] (n ∷ notes) h = absurd h
along-true (k ∷ ks) [] h = absurd h
along-true (k ∷ ks) (n ∷ notes) h = (h.0, along-true ks notes h.1)

-- notes by number
under-past : (x : ℕ) (a c : List Row) (m q : List Note) → length a ≡ length m → Fresh x a → note_under x (a ++ c) (m ++ q) ≡ note_under x c q
unfolding note_under Fresh
under-past x [] c [] q l f = refl
under-past x [] c (n ∷ m) q l f = absurd (omega arith)
under-past x (r ∷ a) c [] q l f = absurd (omega arith)
under-past x (r ∷ a) c (n ∷ m) q l f = rw (ne_eqb r.number x f.0) (under-past x a c m q (omega arith) f.1)

under-here : (x : ℕ) (r : Row) (c : List Row) (n : Note) (q : List Note) → r.number ≡ x → note_under x (r ∷ c) (n ∷ q) ≡ noted n
unfolding note_under
under-here x r c n q e = rw (eq-eqb r.number x e)

pub under-put : (x : ℕ) (a : List Row) (r : Row) (c : List Row) (m : List Note) (n : Note) (q : List Note) → length a ≡ length m → Fresh x a
    → r.number ≡ x → note_under x (a ++ (r ∷ c)) (m ++ (n ∷ q)) ≡ noted n
under-put x a r c m n q l f e = under-past x a (r ∷ c) m (n ∷ q) l f ∙ under-here x r c n q e

pub under-other : (x : ℕ) (a : List Row) (r : Row) (c : List Row) (m : List Note) (n : Note) (q : List Note) → length a ≡ length m
    → (r.number ≡ x → ⊥) → note_under x (a ++ (r ∷ c)) (m ++ (n ∷ q)) ≡ note_under x (a ++ c) (m ++ q)
unfolding note_under
under-other x [] r c [] n q l f = rw (ne_eqb r.number x f)
under-other x [] r c (o ∷ m) n q l f = absurd (omega arith)
under-other x (y ∷ a) r c [] n q l f = absurd (omega arith)
under-other x (y ∷ a) r c (o ∷ m) n q l f = ap (λ (k : Known). cond (eqb y.number x) (noted o) k)
    (under-other x a r c m n q (omega arith) f)

pub under_none : (x : ℕ) (rows : List Row) (notes : List Note) → Fresh x rows → note_under x rows notes ≡ unknown
unfolding note_under Fresh
under_none x [] notes f = refl
under_none x (r ∷ rows) [] f = refl
under_none x (r ∷ rows) (n ∷ notes) f = rw (ne_eqb r.number x f.0) (under_none x rows notes f.1)

pub under-closed : (x at : ℕ) (rows : List Row) (notes : List Note) → note_under x (closed_rows at rows) notes ≡ note_under x rows notes
unfolding note_under closed_rows
under-closed x at [] notes = refl
under-closed x at (r ∷ rows) [] = refl
under-closed x at (r ∷ rows) (n ∷ notes) =
    ap (λ (k : Known). cond (eqb r.number x) (noted n) k) (under-closed x (at + r.octets) rows notes)
