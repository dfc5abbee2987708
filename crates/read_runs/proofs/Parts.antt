-- The n low bits of v in parts, the highest first, put into cells from a place on.
use Prim.Native.Nat.{ℕ, ◌+◌, ◌-◌, ◌^◌, ◌/◌, ◌%◌, ◌≤◌, ◌<◌}
use mathlib.Core.Path.{◌≡◌, refl, sym, ap, ◌∙◌}
use mathlib.Core.List.{List, ◌++◌}
use native.Mathlib.Omega.{arith}
use native.Mathlib.Nat.{div-one}
use lib.ListN.{length, set}
use lib.Pow.{shr-shr}
use Rattle.rules.specs.Bits.{low_bits}
use Rattle.rules.proofs.Octets.{length-low_bits}
use Rattle.read_runs.specs.Flagged.{kind_of, kinds, Put}
use Rattle.read_runs.proofs.Puts.{put-none, put_one, put_then, put-length, length-kinds, kinds-append}
use Rattle.rules.proofs.Words.{low_bits-split, low_bits-mod}

-- the first j of n bits, and the next k
pub next-bits : (n v j k : ℕ) → j + k ≤ n → low_bits j (v / 2 ^ (n - j)) ++ low_bits k (v / 2 ^ (n - (j + k))) ≡ low_bits
    (j + k) (v / 2 ^ (n - (j + k)))
next-bits n v j k h =
    let w = v / 2 ^ (n - (j + k)) in
    let e : n - (j + k) + k ≡ n - j = omega arith in
    let f : w / 2 ^ k ≡ v / 2 ^ (n - j) = shr-shr v (n - (j + k)) k ∙ ap (λ (i : ℕ). v / 2 ^ i) e in
    rw (← f) (sym (low_bits-split j k w))

-- only the low m bits count
pub low-bits : (k m v : ℕ) → k ≤ m → low_bits k (v % 2 ^ m) ≡ low_bits k v
low-bits k m v h = let e : m - k + k ≡ m = omega arith in rw e at (low_bits-mod k (m - k) v)

-- the first j are put in
pub record Spreading (common other : ℕ) (old : List ℕ) (from n v j : ℕ) (new : List ℕ) : Type 0 where
  pub put : Put old from (kinds common other (low_bits j (v / 2 ^ (n - j)))) new
  pub within : j ≤ n
  pub fits : from + n ≤ 320
  pub before : length old ≡ 320
  pub room : length new ≡ 320

pub spreading-none : (common other : ℕ) (old : List ℕ) (from n v : ℕ) → from + n ≤ 320 → length old ≡ 320
    → Spreading common other old from n v 0 old
unfolding low_bits
spreading-none common other old from n v f h = record { put = put-none old from; within = omega arith; fits = f; before = h; room = h }

module _ {common other : ℕ} {old new : List ℕ} {from n v j : ℕ} (g : Spreading common other old from n v j new) where
  size : length (kinds common other (low_bits j (v / 2 ^ (n - j)))) ≡ j
  size = length-kinds common other (low_bits j (v / 2 ^ (n - j))) ∙ length-low_bits j (v / 2 ^ (n - j))

  pub spreading-turn : (k : ℕ) {i : ℕ} {xs after : List ℕ} → j + k ≤ n
      → xs ≡ kinds common other (low_bits k (v / 2 ^ (n - (j + k)))) → from + j ≡ i → Put new i xs after
      → Spreading common other old from n v (j + k) after
  spreading-turn k {i} {xs} {after} h e a p =
      let s = size in
      let f = g.fits in
      let b = g.before in
      let r = g.room in
      let t = length-kinds common other (low_bits k (v / 2 ^ (n - (j + k)))) ∙ length-low_bits k (v / 2 ^ (n - (j + k))) in
      let o : length xs ≡ k = ap length e ∙ t in
      let c : kinds common other (low_bits j (v / 2 ^ (n - j))) ++ xs ≡ kinds common other (low_bits (j + k) (v / 2 ^ (n - (j + k)))) =
      rw e (sym (kinds-append common other (low_bits j (v / 2 ^ (n - j))) (low_bits k (v / 2 ^ (n - (j + k)))))
      ∙ ap (kinds common other) (next-bits n v j k h))
      in
      record {
        put = put_then g.put (omega arith) (omega arith) p c;
        within = h;
        fits = g.fits;
        before = g.before;
        room = put-length p (omega arith) ∙ g.room;
      }

  pub spreading-one : {x : ℕ} → j < n → x ≡ kind_of common other (v / 2 ^ (n - (j + 1)) % 2)
      → Spreading common other old from n v (j + 1) (set new (from + j) x)
  unfolding low_bits
  spreading-one {x} h e =
      let f = g.fits in
      let r = g.room in
      let w = v / 2 ^ (n - (j + 1)) in
      spreading-turn 1 (omega arith) (rw (div-one w, e)) refl (put_one new (from + j) x (omega arith))

  pub spreading-eight : {x i : ℕ} {after : List ℕ} → j + 8 ≤ n → x ≡ v / 2 ^ (n - (j + 8)) % 256 → from + j ≡ i
      → Put new i (kinds common other (low_bits 8 x)) after → Spreading common other old from n v (j + 8) after
  spreading-eight {x} h e a p =
      spreading-turn 8 h (ap (kinds common other) (ap (λ (y : ℕ). low_bits 8 y) e ∙ low-bits 8 8 (v / 2 ^ (n - (j + 8))) (omega arith))) a p

  pub spreading-all : n ≤ j → Put old from (kinds common other (low_bits n v)) new
  spreading-all h =
      let w = g.within in
      let e : j ≡ n = omega arith in
      let z : n - n ≡ 0 = omega arith in
      let p = rw e at g.put in
      rw (z, div-one v) at p

-- the rest, at most eight
pub spreading-rest : {common other : ℕ} {old new after : List ℕ} {from n v j x : ℕ} → Spreading common other old from n v j new
    → n - j ≤ 8 → x ≡ v % 256
    → Put new (from + j) (kinds common other (low_bits (n - j) x)) after → Put old from (kinds common other (low_bits n v)) after
spreading-rest {common} {other} {old} {new} {after} {from} {n} {v} {j} {x} g h e p =
    let w = g.within in
    let k = n - j in
    let z : n - (j + k) ≡ 0 = omega arith in
    let f : low_bits k x ≡ low_bits k (v / 2 ^ (n - (j + k))) = ap (λ (y : ℕ). low_bits k y) e ∙ low-bits k 8 v h ∙ rw (z, div-one v) in
    spreading-all (spreading-turn g k (omega arith) (ap (kinds common other) f) refl p) (omega arith)

-- a whole window, in four
pub spreading-whole : (common other : ℕ) {old a b c d : List ℕ} (from v : ℕ)
    → Put old from (kinds common other (low_bits 8 (v / 2 ^ 24 % 256))) a
    → Put a (from + 8) (kinds common other (low_bits 8 (v / 2 ^ 16 % 256))) b
    → Put b (from + 16) (kinds common other (low_bits 8 (v / 2 ^ 8 % 256))) c
    → Put c (from + 24) (kinds common other (low_bits 8 (v % 256))) d → from + 32 ≤ 320 → length old ≡ 320
    → Put old from (kinds common other (low_bits 32 v)) d
spreading-whole common other {old} from v p q r s f b =
    let none = spreading-none common other old from 32 v f b in
    let one = spreading-eight none (omega arith) refl (omega arith) p in
    let two = spreading-eight one (omega arith) refl (omega arith) q in
    let three = spreading-eight two (omega arith) refl (omega arith) r in
    let e : v % 256 ≡ v / 2 ^ (32 - (24 + 8)) % 256 = omega arith in
    let four = spreading-eight three (omega arith) e (omega arith) s in
    spreading-all four (omega arith)
