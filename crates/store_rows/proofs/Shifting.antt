-- Octets moved down, front to back: `shift_none` (not yet), `shift_same` (moved nowhere).
use Prim.Native.Nat.{ℕ, ◌+◌, ◌≤◌}
use mathlib.Core.Path.{◌≡◌, refl, sym, ap, ◌∙◌}
use mathlib.Core.List.{List, ◌++◌, append_assoc}
use native.Mathlib.Omega.{arith}
use lib.ListN.{length, take, drop, take-append-drop}
use lib.Seq.{paste, paste-zero, drop-drop}

-- i octets of n are moved
pub record Shifting (b : List ℕ) (from to n i : ℕ) (b' : List ℕ) : Type 0 where
  pub is : b' ≡ paste b to (drop from b) i
  pub within : i ≤ n
  pub size : length b' ≡ length b

pub shift_none : (b : List ℕ) (from to n : ℕ) → Shifting b from to n 0 b
shift_none b from to n = record { is = paste-zero b to (drop from b); within = omega arith; size = refl }

pub shift_same : (b : List ℕ) (to n : ℕ) → to + n ≤ length b → b ≡ paste b to (drop to b) n
shift_same b to n h =
    sym (append_assoc (take to b) (take n (drop to b)) (drop (to + n) b)
    ∙ ap (λ (x : List ℕ). take to b ++ (take n (drop to b) ++ x)) (sym (drop-drop n to b))
    ∙ ap (λ (x : List ℕ). take to b ++ x) (take-append-drop n (drop to b)) ∙ take-append-drop to b)
