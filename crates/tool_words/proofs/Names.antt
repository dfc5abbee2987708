-- Laws of names of files: where an ending begins, and the name of what is written, as its two parts.
use Prim.Native.Nat.{ℕ, ◌+◌, ◌≤◌, ◌<◌}
use mathlib.Core.Path.{◌≡◌, sym, ap, ◌∙◌}
use mathlib.Core.List.{List, ◌∷◌, ◌++◌}
use mathlib.Core.Bool.{Bool}
use native.Mathlib.Omega.{arith}
use native.Mathlib.Numerals.{add-one}
use lib.ListN.{length, get_or, take, drop, length-drop, drop_of_length-le}
use lib.Seq.{drop-cons, take_all}
use Rattle.std.specs.Prelude.{Some, None}
use Rattle.tool_words.specs.Names.{place_after, place_from, ending_at, law_told, new_ending, new_name}

-- an ending's place: one octet more, and the end
module _ (name : List ℕ) (none place i : ℕ) where
  pub place-step : i < length name
      → place_from none place i (drop i name) ≡ place_from none (place_after none place i (get_or name i 0)) (i + 1) (drop (i + 1) name)
  unfolding place_from
  place-step h =
      ap (place_from none place i) (drop-cons name i 0 h)
      ∙ ap (λ (n : ℕ). place_from none (place_after none place i (get_or name i 0)) (i + 1) (drop n name)) (sym (add-one i))

  pub place_end : length name ≤ i → place_from none place i (drop i name) ≡ place
  unfolding place_from
  place_end h = rw (drop_of_length-le name h)

-- the name of what is written, as its two parts
module _ (packs : Bool) (law : ℕ) (name : List ℕ) where
  pub name-appended : (e : List ℕ) → law_told packs name ≡ None → e ≡ 0x2E ∷ new_ending packs law → name ++ e ≡ new_name packs law name
  unfolding new_name
  name-appended e t l = rw (t, l)

  pub name-replaced : (at l : ℕ) (e : List ℕ) → law_told packs name ≡ Some l → at ≡ ending_at name → 4 ≡ length e
      → e ≡ 0x2E ∷ new_ending packs law → take at name ++ take 3 (drop 1 e) ≡ new_name packs law name
  unfolding new_name
  name-replaced at l e t p n q = rw (t, take_all 3 (drop 1 e) (omega (arith, length-drop 1 e)), p, q)
