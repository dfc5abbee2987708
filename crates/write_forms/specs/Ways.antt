-- A value's places from its runs. The first `count` runs end with an occurrence; one more may be open at the end.
use Rattle.std.specs.Prelude.{ℕ, ◌+◌, ◌-◌, ◌≤◌, ◌<◌, ◌≡◌, List, [], ◌∷◌, ◌++◌, cond, length, get_or, take, replicate, eqb, leb}
use Rattle.rules.specs.Bits.{low_bits}
use Rattle.rules.specs.Runs.{rice_forms}
use Rattle.rules.specs.Located.{width_of}
use Rattle.rules.specs.Chooses.{numbers_form}
use Rattle.write_located.specs.declared.Way.{Way}

-- the places at which runs end, counted from p
unfoldable pub places_by : ℕ → List ℕ → List ℕ
places_by p [] = []
places_by p (v ∷ runs) = (p + v) ∷ places_by (p + v + 1) runs

abbrev pub listed_form : ℕ → ℕ → List ℕ → List ℕ
listed_form w count runs = numbers_form w (places_by 0 (take count runs))

-- "D bits, where a 1 is an occurrence": with S = 0 a run is its zeros and a 1, and what is open is zeros alone
abbrev pub marks_form : ℕ → List ℕ → List ℕ
marks_form count runs = rice_forms 0 (take count runs) ++ replicate (get_or runs count 0) 0

unfoldable pub way_form : ℕ → ℕ → ℕ → List ℕ → List ℕ
way_form method d count runs =
    cond (eqb method 5) (low_bits 3 5)
    (cond (eqb method 0) (low_bits 3 0 ++ marks_form count runs)
    (cond (leb method 4) (low_bits 3 method ++ rice_forms method runs)
    (low_bits 5 (28 + count - 1) ++ listed_form (width_of d) count runs)))

-- "two bits for count less one, then that many places of ceil(log2 D) bits, rising, each below D"
pub record ListedReady (d count : ℕ) (runs : List ℕ) : Type 0 where
  pub some : 1 ≤ count
  pub few : count ≤ 4
  pub places : (i : ℕ) → get_or (places_by 0 (take count runs)) i 0 < d

pub record WayReady (method d count : ℕ) (runs : List ℕ) : Type 0 where
  pub most : d ≤ 320
  pub within : count ≤ length runs
  pub listed : (method ≡ 5 → ⊥) → 4 < method → ListedReady d count runs

-- a value as planned
abbrev pub way_of : Way → List ℕ → List ℕ
way_of w runs = way_form w.method w.d w.count (take w.runs runs)

pub record WayPlanned (w : Way) (runs : List ℕ) : Type 0 where
  pub few : w.runs ≤ 321
  pub size : length runs ≡ 321
  pub ready : WayReady w.method w.d w.count (take w.runs runs)
