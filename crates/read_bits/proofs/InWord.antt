-- A word of bits from a place on: opened over octets (holds_opened), moved on (holds_on), and the Rice code at its start (rice-held,
-- fits-run).
use Prim.Native.Nat.{ℕ, suc, ◌+◌, ◌*◌, ◌-◌, ◌^◌, ◌/◌, ◌%◌, ◌≤◌, ◌<◌}
use mathlib.Core.Path.{◌≡◌, sym, ◌∙◌, ap}
use mathlib.Core.List.{List}
use native.Mathlib.Omega.{arith}
use native.Mathlib.Nat.{mul-le-mul, mod-lt, mod-eq_of_lt, add-zero, sub-zero, le-div_iff_mul-le, pow-suc}
use lib.ListN.{length, get_or}
use lib.Arith.{digits_mod}
use lib.Count.{count_leading_zeros}
use lib.Pow.{pow_pos, pow-add, shr_lt, shl-shr, shr-shr, field, mod-mod-pow}
use Rattle.rules.specs.Bits.{bits_of}
use Rattle.rules.specs.Reading.{whole}
use Rattle.rules.specs.Runs.{zeros_from, rice}
use Rattle.read_bits.specs.Windows.{Ahead, Holds, run_in}
use Rattle.read_bits.proofs.Leading.{Lead, lead, lead_zero, lead-one}
use Rattle.read_bits.proofs.Window.{number-ahead, cut-bit}
use Rattle.read_bits.proofs.Shift.{power_small, power-whole}
use Rattle.read_bits.proofs.ZeroRun.{zeros-skip, zeros-one}

-- bit i of a word shifted up by j is its bit j + i
shift-bit : (w j i : ℕ) → j + i < 64 → w * 2 ^ j % 2 ^ 64 / 2 ^ (64 - suc i) % 2 ≡ w / 2 ^ (64 - suc (j + i)) % 2
shift-bit w j i h =
    let a = 64 - suc i in
    let r = 64 - suc (j + i) in
    let e : 64 ≡ i + 1 + a = omega arith in
    let g : a ≡ j + r = omega arith in
    let f : w * 2 ^ j % 2 ^ 64 / 2 ^ a ≡ w * 2 ^ j / 2 ^ a % 2 ^ (i + 1) = ap (λ (x : ℕ). w * 2 ^ j % 2 ^ x / 2 ^ a) e
    ∙ field (w * 2 ^ j) (i + 1) a in
    let d : w * 2 ^ j / 2 ^ a ≡ w / 2 ^ r = ap (λ (x : ℕ). w * 2 ^ j / 2 ^ x) g ∙ sym (shr-shr (w * 2 ^ j) j r)
    ∙ ap (λ (x : ℕ). x / 2 ^ r) (shl-shr w j) in
    ap (λ (x : ℕ). x % 2) f ∙ mod-mod-pow (w * 2 ^ j / 2 ^ a) i 1 ∙ ap (λ (x : ℕ). x % 2) d

pub holds-none : (s : List ℕ) (at n : ℕ) {w good : ℕ} → w ≡ 0 → good ≡ 0 → Holds s at n w good
holds-none s at n {w} {good} z e =
    record {
      same = λ j h. absurd (omega arith);
      there = omega arith;
      small = omega arith;
      few = omega arith;
      long = λ h. absurd (omega arith);
    }

-- eight octets, shifted up to a place among them
pub holds_opened : (s : List ℕ) (at n from skip : ℕ) {w good : ℕ} → Ahead 64 (bits_of s) (8 * from) w → at ≡ 8 * from + skip
    → skip < 64 → good ≤ 64 - skip → good ≤ 8 * length s - at → 32 ≤ n → Holds s at n (w * 2 ^ skip % 2 ^ 64) good
holds_opened s at n from skip {w} {good} a e h g t b =
    record {
      same = λ j l.
          let f : 8 * from + (skip + j) ≡ at + j = omega arith in
          shift-bit w skip j (omega arith) ∙ a.same (skip + j) (omega arith) ∙ ap (λ (k : ℕ). get_or (bits_of s) k 0) f;
      there = t;
      small = mod-lt (w * 2 ^ skip) (pow_pos 64);
      few = omega arith;
      long = λ l. b;
    }

pub holds_on : (s : List ℕ) (at n size : ℕ) {w good : ℕ} → Holds s at n w good → size ≤ good → size < 64
    → Holds s (at + size) n (w * 2 ^ size % 2 ^ 64) (good - size)
holds_on s at n size {w} {good} t h k =
    let a = t.there in
    let b = t.few in
    record {
      same = λ j l.
          let f : at + (size + j) ≡ at + size + j = omega arith in
          shift-bit w size j (omega arith) ∙ t.same (size + j) (omega arith) ∙ ap (λ (i : ℕ). get_or (bits_of s) i 0) f;
      there = omega arith;
      small = mod-lt (w * 2 ^ size) (pow_pos 64);
      few = omega arith;
      long = λ l. t.long (omega arith);
    }

-- the leading zeros of a word, counted in its first 32 bits
pub lead-word : (w : ℕ) → w < 2 ^ 64 → count_leading_zeros 32 (w / 2 ^ 32) < 32 → Lead 64 w (count_leading_zeros 32 (w / 2 ^ 32))
lead-word w b h =
    let z = count_leading_zeros 32 (w / 2 ^ 32) in
    let l = lead 32 (w / 2 ^ 32) (omega arith) in
    let e : 2 ^ (64 - z) ≡ 2 ^ (32 - z) * 2 ^ 32 = let f : 64 - z ≡ 32 - z + 32 = omega arith in rw f (pow-add 2 (32 - z) 32) in
    let g : 2 ^ (64 - suc z) ≡ 2 ^ (32 - suc z) * 2 ^ 32 = let f : 64 - suc z ≡ 32 - suc z + 32 = omega arith in
    rw f (pow-add 2 (32 - suc z) 32) in
    record { below = omega (arith, l.below); most = omega arith; above = λ k. omega (arith, l.above h) }

-- what stands from the one on
pub record FromOne (w z s : ℕ) : Type 0 where
  pub least : 2 ^ s ≤ w / 2 ^ (64 - (z + (s + 1)))
  pub most : w / 2 ^ (64 - (z + (s + 1))) < 2 ^ s * 2

pub from_one : {w z : ℕ} (s : ℕ) → Lead 64 w z → z < 32 → s ≤ 9 → FromOne w z s
from_one {w} {z} s l h m =
    let k = 64 - (z + (s + 1)) in
    let e : 64 - z ≡ suc s + k = omega arith in
    let f : 64 - suc z ≡ s + k = omega arith in
    let p : 2 ^ (s + k) ≡ 2 ^ s * 2 ^ k = pow-add 2 s k in
    let a : 2 ^ s * 2 ^ k ≤ w = rw (← p, ← f) (l.above (omega arith)) in
    record { least = (le-div_iff_mul-le (pow_pos k)).1 a; most = rw (← (pow-suc 2 s)) (shr_lt (suc s) k (rw e at l.below)) }

-- the run of a code that stands whole at the word's start
pub rice-held : (o : List ℕ) (at n s : ℕ) {w good z : ℕ} → Holds o at n w good → z ≡ count_leading_zeros 32 (w / 2 ^ 32) → z < 32
    → s ≤ 9 → z + (s + 1) ≤ good → rice n s (bits_of o) at ≡ whole (run_in w z s) (at + (z + (s + 1)))
unfolding rice
rice-held o at n s {w} {good} {z} t c h m g =
    let b = bits_of o in
    let a = t.there in
    let few = t.few in
    let lg = t.long (omega arith) in
    let l : Lead 64 w z = rw c (lead-word w t.small (rw (← c) h)) in
    let bit : (i : ℕ) → i < z → get_or b (at + 0 + i) 0 ≡ 0 = λ i k.
    let f : at + i ≡ at + 0 + i = omega arith in
    ap (λ (x : ℕ). get_or b x 0) (sym f) ∙ sym (t.same i (omega arith)) ∙ lead_zero l i k
    in
    let one : get_or b (at + (0 + z)) 0 ≡ 1 =
    let f : at + z ≡ at + (0 + z) = omega arith in
    ap (λ (x : ℕ). get_or b x 0) (sym f) ∙ sym (t.same z (omega arith)) ∙ lead-one l (omega arith)
    in
    let zs : zeros_from at 0 (n + 1) b at ≡ whole z (at + z + 1) =
    let e : at + (0 + z) + 1 ≡ at + z + 1 = omega arith in
    let f : 0 + z ≡ z = omega arith in
    rw (sub-zero (n + 1), add-zero at) at (zeros-skip o at n 0 z (omega arith) (omega arith) bit)
    ∙ zeros-one o at n (0 + z) (omega arith) (omega arith) one ∙ rw (e, f)
    in
    let x = w / 2 ^ (64 - (z + (s + 1))) in
    let fo = from_one s l h m in
    let low : Ahead s b (at + z + 1) (x % 2 ^ s) =
    record {
      same = λ j k.
          let e : 64 - (z + (s + 1)) + (s - suc j) ≡ 64 - suc (z + 1 + j) = omega arith in
          let f : at + (z + 1 + j) ≡ at + z + 1 + j = omega arith in
          cut-bit w (64 - (z + (s + 1))) s j k ∙ ap (λ (y : ℕ). w / 2 ^ y % 2) e ∙ t.same (z + 1 + j) (omega arith)
          ∙ ap (λ (y : ℕ). get_or b y 0) f;
      small = mod-lt x (pow_pos s);
    }
    in
    let v : x % 2 ^ s ≡ x - 2 ^ s =
    let lo = fo.least in
    let hi = fo.most in
    let e : x ≡ 1 * 2 ^ s + (x - 2 ^ s) = omega arith in
    ap (λ (y : ℕ). y % 2 ^ s) e ∙ digits_mod 1 (omega arith)
    in
    let e : at + z + 1 + s ≡ at + (z + (s + 1)) = omega arith in
    rw (zs, number-ahead o (at + z + 1) s (x % 2 ^ s) low (omega arith), v, e)

-- the shifts that make a run out of a word lose nothing
pub record FitsRun (w z s : ℕ) : Type 0 where
  pub zeros : z * 2 ^ s % 2 ^ 64 ≡ z * 2 ^ s
  pub one : 1 * 2 ^ s % 2 ^ 64 ≡ 2 ^ s
  pub least : 2 ^ s ≤ w / 2 ^ (64 - (z + (s + 1)))
  pub small : run_in w z s ≤ 20000

pub fits-run : (w z s : ℕ) → w < 2 ^ 64 → z ≡ count_leading_zeros 32 (w / 2 ^ 32) → z < 32 → s ≤ 9 → FitsRun w z s
fits-run w z s b c h m =
    let l : Lead 64 w z = rw c (lead-word w b (rw (← c) h)) in
    let f = from_one s l h m in
    let lo = f.least in
    let hi = f.most in
    let p = power_small s m in
    let j : z ≤ 32 = omega arith in
    let q : z * 2 ^ s ≤ 32 * 512 = mul-le-mul j p in
    record { zeros = mod-eq_of_lt (omega arith); one = power-whole s (omega arith); least = lo; small = omega arith }
