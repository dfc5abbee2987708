-- Laws of a decimal number, digit by digit.
use Prim.Native.Nat.{ℕ, ◌+◌, ◌*◌, ◌-◌, ◌≤◌, ◌<◌, ◌^◌}
use mathlib.Core.Path.{◌≡◌}
use mathlib.Core.List.{List}
use native.Mathlib.Omega.{arith}
use native.Mathlib.Numerals.{add-one}
use native.Mathlib.Nat.{pow-suc, pow-le-pow_right}
use lib.ListN.{length, get_or, drop, drop_of_length-le}
use lib.Seq.{drop-cons}
use borrow.Author.Tests.{le-leb, lt-leb}
use Rattle.std.specs.Prelude.{Some, None}
use Rattle.tool_words.specs.Numbers.{number_from}

module _ (text : List ℕ) (v i : ℕ) where
  pub number-end : length text ≤ i → number_from v (drop i text) ≡ Some v
  unfolding number_from
  number-end h = rw (drop_of_length-le text h)

  module _ (h : i < length text) where
    pub number_step : 48 ≤ get_or text i 0 → get_or text i 0 ≤ 57
        → number_from v (drop i text) ≡ number_from (10 * v + (get_or text i 0 - 48)) (drop (i + 1) text)
    unfolding number_from
    number_step a b = rw (add-one, drop-cons text i 0 h, le-leb 48 (get_or text i 0) a, le-leb (get_or text i 0) 57 b)

    pub number-low : get_or text i 0 < 48 → number_from v (drop i text) ≡ None
    unfolding number_from
    number-low a = rw (drop-cons text i 0 h, lt-leb 48 (get_or text i 0) a)

    pub number-high : 57 < get_or text i 0 → number_from v (drop i text) ≡ None
    unfolding number_from
    number-high a = rw (drop-cons text i 0 h, le-leb 48 (get_or text i 0) (omega arith), lt-leb (get_or text i 0) 57 a)

-- i digits are less than 10 to the i; nine of them fit 32 bits
pub digits_more : (v d i : ℕ) → v < 10 ^ i → d ≤ 9 → 10 * v + d < 10 ^ (i + 1)
digits_more v d i h k = rw (add-one, pow-suc) (omega arith)

pub digits-few : (v i : ℕ) → v < 10 ^ i → i ≤ 8 → v < 100000000
digits-few v i h k = omega (arith, pow-le-pow_right {n = 10} (omega arith) {i = i} {j = 8} k)
