-- Laws of tests, of the two masks, and of a frame's length.
use Prim.Native.Nat.{ℕ, ◌%◌, ◌≤◌, ◌<◌}
use mathlib.Core.Path.{◌≡◌, refl}
use mathlib.Core.List.{List}
use mathlib.Core.Bool.{Bool, true, false, cond, ◌&&◌}
use native.Mathlib.Omega.{arith}
use borrow.Author.Tests.{eqb-true}
use lib.ListN.{length}
use lib.Dec.{eqb}
use Rattle.rules.specs.Samples.{mask_of}
use Rattle.rules.specs.Tools.{is_length}
use Rattle.rules.proofs.Tests.{or_cases, by_length}
use Rattle.rules.proofs.Signed.{LawMask, law-mask}
use Rattle.write_scan.specs.Looks.{is_mask, FrameIn}

-- a test that fails
pub never : false ≡ true → ⊥
never e = let z : ◌≡◌ {A = ℕ} 0 1 = cc in omega arith

pub and_zero : (b : Bool) → (b && false) ≡ false
and_zero true = refl
and_zero false = refl

-- the masks have seven bits
pub mask-seven : (mask : ℕ) → is_mask mask ≡ true → mask < 128
mask-seven mask h = or_cases (mask < 128) (eqb mask 0x55) (eqb mask 0x7F) h (λ e. omega (arith, eqb-true mask 0x55 e))
    (λ e. omega (arith, eqb-true mask 0x7F e))

-- each is a law's
pub law-for : (mask : ℕ) → is_mask mask ≡ true → LawMask mask
law-for mask h = or_cases (LawMask mask) (eqb mask 0x55) (eqb mask 0x7F) h (λ e. rw (eqb-true mask 0x55 e) (law-mask 0))
    (λ e. rw (eqb-true mask 0x7F e) (law-mask 1))

pub is-mask : (law : ℕ) → is_mask (mask_of law) ≡ true
is-mask law = go (eqb law 0)
  where
    go : (b : Bool) → is_mask (cond b 0x55 0x7F) ≡ true
    go true = refl
    go false = refl

-- a length's samples are a frame
length-in : (n : ℕ) → is_length n ≡ true → (1 ≤ n) × ((n ≤ 320) × (n % 40 ≡ 0))
length-in n h =
    let in_order : (k : ℕ) → Type 0 = λ k. (1 ≤ k) × ((k ≤ 320) × (k % 40 ≡ 0)) in
    by_length in_order (omega arith) (omega arith) (omega arith) (omega arith) (omega arith) n h

pub frame-in : (frame : List ℕ) → is_length (length frame) ≡ true → FrameIn frame
frame-in frame h = let l = length-in (length frame) h in record { some = l.0; few = l.1.0; whole = l.1.1 }
