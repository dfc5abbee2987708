-- A frame through a master and back is each sample to linear PCM and back (`master-back`): octet for octet by A (`a_back`), and but for 7F,
-- which returns as FF, by mu (`mu-back`). A value and its shift: `shift_back`.
use Prim.Native.Nat.{ℕ, suc, ◌+◌, ◌*◌}
use mathlib.Core.Path.{◌≡◌, refl, ap, ◌∙◌}
use mathlib.Core.Bool.{Bool, true, false, cond}
use mathlib.Core.List.{List, [], ◌∷◌, map}
use native.Mathlib.Omega.{arith}
use lib.Dec.{eqb}
use lib.IntN.{ℤ, pos, negsuc, ◌*ℤ◌}
use lib.Signed.{shr_z}
use Rattle.rules.proofs.Octets.{Below}
use Rattle.linear.specs.Equations.{to_pcm, from_pcm}
use Rattle.linear.proofs.Returns.{a-frame-returns, mu-frame-returns, minus_as_plus}
use Rattle.linear_masters.specs.Masters.{unit_of, sample_for, value_for}

-- shifted up and down again
shift-8 : (v : ℤ) → shr_z (v *ℤ pos 8) 8 ≡ v
shift-8 (pos a) = ap pos (omega arith)
shift-8 (negsuc a) = let z : suc a * 8 ≡ suc (a * 8 + 7) = omega arith in rw z (ap negsuc (omega arith))

shift-4 : (v : ℤ) → shr_z (v *ℤ pos 4) 4 ≡ v
shift-4 (pos a) = ap pos (omega arith)
shift-4 (negsuc a) = let z : suc a * 4 ≡ suc (a * 4 + 3) = omega arith in rw z (ap negsuc (omega arith))

pub shift_back : (law : ℕ) (v : ℤ) → shr_z (v *ℤ pos (unit_of law)) (unit_of law) ≡ v
shift_back law v = go (eqb law 0)
  where
    go : (b : Bool) → shr_z (v *ℤ pos (cond b 8 4)) (cond b 8 4) ≡ v
    go true = shift-8 v
    go false = shift-4 v

-- a frame to a master and back, as to linear values and back
pub master-back : (law : ℕ) (s : List ℕ) → map (sample_for law) (map (value_for law) s) ≡ map (from_pcm law) (map (to_pcm law) s)
master-back law [] = refl
master-back law (o ∷ s) = rw (shift_back law (to_pcm law o), master-back law s)

pub a_back : {s : List ℕ} → Below 256 s → map (sample_for 0) (map (value_for 0) s) ≡ map (λ o. o) s
a_back {s} b = master-back 0 s ∙ a-frame-returns b

pub mu-back : {s : List ℕ} → Below 256 s → map (sample_for 1) (map (value_for 1) s) ≡ map minus_as_plus s
mu-back {s} b = master-back 1 s ∙ mu-frame-returns b
