-- What each S would need, and the least.
use Rattle.std.specs.Prelude.{ℕ, ◌+◌, ◌≤◌, ◌≡◌, List, length, get_or}
use Rattle.rules.specs.Runs.{rice_forms}
use Rattle.rules.specs.Chooses.{least_s}
use Rattle.write_measure.specs.declared.Least.{Least}

-- the bits of runs with parameter S, and some more that go with S
abbrev pub bits_with : List ℕ → List ℕ → ℕ → ℕ
bits_with extra runs s = get_or extra s 0 + length (rice_forms s runs)

pub record LeastIs (f : ℕ → ℕ) (most : ℕ) (r : Least) : Type 0 where
  pub s : r.s ≡ least_s f most
  pub bits : r.bits ≡ f r.s
  pub from : 1 ≤ r.s
  pub to : r.s ≤ most
  pub small : r.bits ≤ 200000000
