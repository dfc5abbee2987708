-- How far a reading goes, if it is whole: at least (`Far`) and at most (`Near`) so many places on.
use Prim.Native.Nat.{ℕ, zero, suc, ◌+◌, ◌*◌, ◌≤◌}
use native.Mathlib.Omega.{arith}
use mathlib.Core.Path.{◌≡◌}
use mathlib.Core.List.{List}
use mathlib.Core.Bool.{Bool, true, false, cond}
use lib.ListN.{length, get_or}
use lib.Dec.{ltb}
use Rattle.rules.specs.declared.Refusal.{Refusal}
use Rattle.rules.specs.declared.Refusal.TheVariants.{Short}
use Rattle.rules.specs.Reading.{whole, refuse, Reader, ◌>>=◌, give, fail, here, bit, number_from}
use Rattle.rules.proofs.Gives.{no-refusal, same_place}
use Rattle.rules.proofs.Accepted.{Steps, through, steps}

-- one bit is one place
bit-next : (v i : ℕ) (t : Bool) {a j : ℕ} → cond t (whole v (i + 1)) (refuse Short i) ≡ whole a j → i + 1 ≡ j
bit-next v i true e = same_place e
bit-next v i false e = no-refusal e

pub record Far {A : Type 0} (k : ℕ) (p : Reader A) : Type 0 where
  pub goes : (b : List ℕ) (i : ℕ) (a : A) (j : ℕ) → p b i ≡ whole a j → i + k ≤ j

pub far-fail : {A : Type 0} (k : ℕ) (w : Refusal) (at : ℕ) → Far {A = A} k (fail w at)
far-fail k w at = record { goes = λ b i a j e. no-refusal e }

pub far-bit : Far 1 bit
unfolding bit
far-bit = record { goes = λ b i a j e. omega (arith, bit-next (get_or b i 0) i (ltb i (length b)) e) }

pub far-then : {A B : Type 0} (k l : ℕ) {p : Reader A} {f : A → Reader B} → Far k p → ((a : A) → Far l (f a)) → Far (k + l) (p >>= f)
far-then {A} {B} k l {p} {f} g h = record { goes = λ b i c j e. go b i c j (steps (p b i) (λ a m. f a b m) e) }
  where
    go : (b : List ℕ) (i : ℕ) (c : B) (j : ℕ) → Steps (p b i) (λ a m. f a b m) c j → i + (k + l) ≤ j
    go b i c j (through a m e d) = omega (arith, g.goes b i a m e, (h a).goes b m c j d)

pub far-cond : {A : Type 0} (k : ℕ) {p q : Reader A} (t : Bool) → Far k p → Far k q → Far k (cond t p q)
far-cond k true g h = g
far-cond k false g h = h

pub record Near {A : Type 0} (k : ℕ) (p : Reader A) : Type 0 where
  pub goes : (b : List ℕ) (i : ℕ) (a : A) (j : ℕ) → p b i ≡ whole a j → j ≤ i + k

pub near-give : {A : Type 0} (a : A) → Near 0 (give a)
near-give a = record { goes = λ b i c j e. omega (arith, same_place e) }

pub near-fail : {A : Type 0} (k : ℕ) (w : Refusal) (at : ℕ) → Near {A = A} k (fail w at)
near-fail k w at = record { goes = λ b i a j e. no-refusal e }

pub near-here : Near 0 here
near-here = record { goes = λ b i c j e. omega (arith, same_place e) }

pub near-bit : Near 1 bit
unfolding bit
near-bit = record { goes = λ b i a j e. omega (arith, bit-next (get_or b i 0) i (ltb i (length b)) e) }

pub near-then : {A B : Type 0} (k l : ℕ) {p : Reader A} {f : A → Reader B} → Near k p → ((a : A) → Near l (f a)) → Near (k + l) (p >>= f)
near-then {A} {B} k l {p} {f} g h = record { goes = λ b i c j e. go b i c j (steps (p b i) (λ a m. f a b m) e) }
  where
    go : (b : List ℕ) (i : ℕ) (c : B) (j : ℕ) → Steps (p b i) (λ a m. f a b m) c j → j ≤ i + (k + l)
    go b i c j (through a m e d) = omega (arith, g.goes b i a m e, (h a).goes b m c j d)

pub near-cond : {A : Type 0} (k : ℕ) {p q : Reader A} (t : Bool) → Near k p → Near k q → Near k (cond t p q)
near-cond k true g h = g
near-cond k false g h = h

pub near-more : {A : Type 0} (k l : ℕ) {p : Reader A} → k ≤ l → Near k p → Near l p
near-more k l h g = record { goes = λ b i a j e. omega (arith, g.goes b i a j e) }

-- a number is so many bits
pub near-number_from : (v n : ℕ) → Near n (number_from v n)
unfolding number_from
near-number_from v zero = near-give v
near-number_from v (suc n) = near-more (1 + n) (suc n) (omega arith) (near-then 1 n near-bit (λ a. near-number_from (2 * v + a) n))
