-- Laws of the bits of Rice codes.
use Prim.Native.Nat.{ℕ, ◌+◌, ◌*◌, ◌-◌, ◌^◌, ◌/◌, ◌%◌, ◌≤◌, ◌<◌}
use mathlib.Core.Path.{◌≡◌, refl, ◌∙◌}
use mathlib.Core.List.{List, [], ◌∷◌, ◌++◌, append-nil, append_assoc}
use native.Mathlib.Omega.{arith}
use native.Mathlib.Numerals.{add-one}
use lib.Dec.{lit<}
use lib.ListN.{length, get_or, take, length-append, length-replicate}
use lib.Seq.{take-suc, take-add}
use lib.Pow.{shl_exact}
use Rattle.rules.specs.Runs.{rice_form, rice_forms}
use Rattle.rules.proofs.Octets.{length-low_bits}

pub length-rice_form : (s v : ℕ) → length (rice_form s v) ≡ v / 2 ^ s + 1 + s
unfolding rice_form
length-rice_form s v = simp (length-append, length-replicate, length-low_bits) (omega arith)

-- what the code has for 2 ^ s
pub one_shifted : (s : ℕ) → s ≤ 15 → (1 * 2 ^ s) % 2 ^ 64 ≡ 2 ^ s
one_shifted s h = shl_exact {a = 1} 1 s 64 (lit< tt) (omega arith) ∙ omega arith

-- runs: those done, and one more
pub forms-append : (s : ℕ) (a b : List ℕ) → rice_forms s (a ++ b) ≡ rice_forms s a ++ rice_forms s b
unfolding rice_forms
forms-append s [] b = refl
forms-append s (v ∷ a) b = rw (forms-append s a b, append_assoc)

pub forms-suc : (s : ℕ) (l : List ℕ) (j : ℕ) → j < length l
    → rice_forms s (take (j + 1) l) ≡ rice_forms s (take j l) ++ rice_form s (get_or l j 0)
unfolding rice_forms
forms-suc s l j h = rw (add-one, take-suc l j 0, forms-append, append-nil)

pub forms-le : (s : ℕ) (l : List ℕ) (i n : ℕ) → i ≤ n → length (rice_forms s (take i l)) ≤ length (rice_forms s (take n l))
forms-le s l i n h =
    let e : n ≡ i + (n - i) = omega arith in
    rw (e, take-add i (n - i) l, forms-append, length-append) (omega arith)
