-- The digits of a number, found from the last one: `rest` is still to be spelled, its last digit at place `from` of 20 octets.
use Prim.Native.Nat.{ℕ, zero, suc, ◌+◌, ◌*◌, ◌-◌, ◌^◌, ◌/◌, ◌%◌, ◌≤◌, ◌<◌}
use mathlib.Core.Path.{◌≡◌, sym, ◌∙◌}
use mathlib.Core.List.{List, [], ◌∷◌}
use native.Mathlib.Omega.{arith}
use mathlib.Core.Bool.{Bool, true, false, cond}
use lib.Dec.{ltb}
use lib.ListN.{length, take, drop, set, length-set, length-drop}
use native.Mathlib.Nat.{pow-suc}
use lib.Seq.{set_split, drop_at, length-take-le, take_all}
use borrow.Author.Tests.{lt-ltb, le-ltb}
use Rattle.rules.specs.Listing.{digits_from, decimal}

pub record Spelling (n : ℕ) (octets : List ℕ) (from rest : ℕ) : Type 0 where
  pub size : length octets ≡ 20
  pub most : from ≤ 19
  pub left : rest < 10 ^ suc from
  pub says : digits_from (suc from) rest (drop (suc from) octets) ≡ decimal n

-- a digit put at a place, with the digits after it
put-digit : (o : List ℕ) (from d : ℕ) → from < length o → drop from (set o from d) ≡ d ∷ drop (suc from) o
put-digit o from d h = rw (set_split o from d h, drop_at (take from o) (d ∷ drop (suc from) o) from (length-take-le from o (omega arith)))

-- ten or more has a digit before its last one
pub spelling-room : (from rest : ℕ) → rest < 10 ^ suc from → 10 ≤ rest → 1 ≤ from
spelling-room zero rest l h = absurd (omega arith)
spelling-room (suc from) rest l h = omega arith

module _ {n : ℕ} {o : List ℕ} {rest : ℕ} where
  turn : (from : ℕ) → Spelling n o (suc from) rest → 10 ≤ rest → Spelling n (set o (suc from) (48 + rest % 10)) from (rest / 10)
  unfolding digits_from
  turn from s h =
      let l : rest < 10 ^ suc from * 10 = rw (pow-suc 10 (suc from)) at s.left in
      record {
        size = length-set o (suc from) (48 + rest % 10) ∙ s.size;
        most = omega arith;
        left = omega arith;
        says = rw (put-digit o (suc from) (48 + rest % 10) (omega arith)) (sym (rw (le-ltb rest 10 h)) ∙ s.says);
      }

  pub spelling-turn : (from : ℕ) → Spelling n o from rest → 10 ≤ rest → Spelling n (set o from (48 + rest % 10)) (from - 1) (rest / 10)
  spelling-turn zero s h = absurd (omega (arith, spelling-room zero rest s.left h))
  spelling-turn (suc from) s h = let e : suc from - 1 ≡ from = omega arith in rw e (turn from s h)

  pub spelling-end : (from : ℕ) → Spelling n o from rest → rest < 10 → take (20 - from) (drop from (set o from (48 + rest))) ≡ decimal n
  unfolding digits_from
  spelling-end from s h =
      take_all (20 - from) (drop from (set o from (48 + rest))) (rw (length-drop, length-set) (omega (arith, s.size)))
      ∙ rw (put-digit o from (48 + rest) (omega arith)) (sym (rw (lt-ltb rest 10 h)) ∙ s.says)

-- a number has at most 20 digits
digits-most : (more n : ℕ) (text : List ℕ) → length (digits_from more n text) ≤ more + length text
unfolding digits_from
digits-most zero n text = omega arith
digits-most (suc more) n text = go (ltb n 10) (digits-most more (n / 10) ((48 + n % 10) ∷ text))
  where
    go : (t : Bool) → length (digits_from more (n / 10) ((48 + n % 10) ∷ text)) ≤ more + suc (length text)
        → length (cond t ((48 + n) ∷ text) (digits_from more (n / 10) ((48 + n % 10) ∷ text))) ≤ suc more + length text
    go true h = omega arith
    go false h = omega arith

pub decimal-most : (n : ℕ) → length (decimal n) ≤ 20
decimal-most n = digits-most 20 n []
