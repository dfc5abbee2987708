-- The least and the greatest of the samples so far.
use Prim.Native.Nat.{ℕ, ◌+◌, ◌<◌, min, max}
use mathlib.Core.Path.{◌≡◌, refl, ◌∙◌}
use mathlib.Core.List.{List}
use lib.ListN.{length, get_or, take}
use Rattle.rules.specs.Samples.{signed, on_line}
use Rattle.rules.specs.Chooses.{least_of, greatest_of}
use Rattle.write_scan.proofs.Looking.{least_more, greatest-more}

pub record ExtentTurn (s : List ℕ) (mask least greatest i : ℕ) : Type 0 where
  pub low : least ≡ least_of mask (take i s)
  pub high : greatest ≡ greatest_of mask (take i s)

pub extent-none : (s : List ℕ) (mask : ℕ) → ExtentTurn s mask 255 0 0
unfolding least_of greatest_of
extent-none s mask = record { low = refl; high = refl }

pub extent-turn : {s : List ℕ} {mask least greatest i : ℕ} → ExtentTurn s mask least greatest i → i < length s
    → {p lower higher : ℕ} → p ≡ on_line (signed mask (get_or s i 0)) → lower ≡ min least p → higher ≡ max greatest p
    → ExtentTurn s mask lower higher (i + 1)
extent-turn {s} {mask} {i = i} t h e f g =
    record { low = f ∙ least_more s i h mask t.low e; high = g ∙ greatest-more s i h mask t.high e }
