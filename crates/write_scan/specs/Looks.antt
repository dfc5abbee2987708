-- What the samples of a frame have in common, and how many of them are a value.
use Rattle.std.specs.Prelude.{ℕ, ◌+◌, ◌-◌, ◌%◌, ◌≤◌, ◌≡◌, List, map, Bool, cond, ◌&&◌, ◌||◌, length, eqb, leb, ltb}
use Rattle.rules.specs.Samples.{plus_zero, minus_zero}
use Rattle.rules.specs.Chooses.{count_of, every, least_of, greatest_of}
use Rattle.write_scan.specs.declared.Spread.{Spread}
use Rattle.write_scan.specs.declared.Extent.{Extent}

-- each element that is x as one number, each other as another
abbrev pub marks_of : ℕ → ℕ → ℕ → List ℕ → List ℕ
marks_of x hit miss s = map (λ y. cond (eqb y x) hit miss) s

-- how many are this one
abbrev pub count_is : ℕ → List ℕ → ℕ
count_is y s = count_of (λ x. eqb x y) s

-- all samples from -k to k - 1, by their least and greatest on the line; and from -2 to 1
abbrev pub near_by : ℕ → ℕ → ℕ → Bool
near_by k least greatest = leb (128 - k) least && leb greatest (127 + k)

abbrev pub near : ℕ → ℕ → Bool
near least greatest = near_by 2 least greatest

-- frames of the two zeros only
abbrev pub two_zeros : ℕ → List ℕ → Bool
two_zeros mask s = every (λ x. eqb x (plus_zero mask) || eqb x (minus_zero mask)) s

-- what the bits that any sets, and those that all set, tell of a frame
pub record SpreadIs (mask first : ℕ) (s : List ℕ) (r : Spread) : Type 0 where
  pub same : eqb r.any r.all ≡ every (λ x. eqb x first) s
  pub zeros : eqb (r.any % 128) 0 ≡ two_zeros mask s
  pub close : ltb (r.any % 128) 2 ≡ near (least_of mask s) (greatest_of mask s)
  pub about : ltb (r.any % 128) 4 ≡ near_by 4 (least_of mask s) (greatest_of mask s)

-- the least and the greatest of a frame, on the line
pub record ExtentIs (mask : ℕ) (s : List ℕ) (r : Extent) : Type 0 where
  pub least : r.least ≡ least_of mask s
  pub greatest : r.greatest ≡ greatest_of mask s

-- one of the two masks
abbrev pub is_mask : ℕ → Bool
is_mask mask = eqb mask 0x55 || eqb mask 0x7F

-- a frame's samples, 40 to a word
pub record FrameIn (frame : List ℕ) : Type 0 where
  pub some : 1 ≤ length frame
  pub few : length frame ≤ 320
  pub whole : length frame % 40 ≡ 0
