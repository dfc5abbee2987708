-- A word at a place of a text, as the library tests it.
use Prim.Native.Nat.{ℕ, ◌≤◌}
use mathlib.Core.Path.{◌≡◌, refl, ap, ◌∙◌}
use mathlib.Core.List.{List, [], ◌∷◌}
use mathlib.Core.Bool.{Bool, true, false, ◌&&◌}
use Rattle.std.proofs.Common.{min}
use Rattle.std.specs.List.{starts_with}
use lib.ListN.{length, drop, drop_of_length-le}
use lib.Dec.{eqb, leb}
use borrow.Author.Tests.{leb-true, leb-false}
use native.Mathlib.Omega.{arith}
use Rattle.text_keyvalue.specs.Reading.{begins}

starts-begins : (word text : List ℕ) → starts_with eqb text word ≡ begins word text
unfolding begins
starts-begins [] text = refl
starts-begins (x ∷ word) [] = refl
starts-begins (x ∷ word) (y ∷ text) = ap (λ b. eqb x y && b) (starts-begins word text)

pub has_begins : (word text : List ℕ) (at : ℕ) → starts_with eqb (drop (min at (length text)) text) word ≡ begins word (drop at text)
has_begins word text at = ap (λ (t : List ℕ). starts_with eqb t word) (drop-min text at) ∙ starts-begins word (drop at text)
  where
    drop-min : (text : List ℕ) (at : ℕ) → drop (min at (length text)) text ≡ drop at text
    drop-min text at = go (leb at (length text)) refl
      where
        go : (t : Bool) → leb at (length text) ≡ t → drop (min at (length text)) text ≡ drop at text
        go true e = let m : min at (length text) ≡ at = omega (arith, leb-true at (length text) e) in rw m
        go false e =
            let h = leb-false at (length text) e in
            let m : min at (length text) ≡ length text = omega arith in
            let q : length text ≤ at = omega arith in
            let p : length text ≤ length text = omega arith in
            rw (m, drop_of_length-le text p, drop_of_length-le text q)
