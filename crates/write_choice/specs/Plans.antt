-- The choice, and what a plan tells of it: the tool, its bits, and what its form needs.
use Rattle.std.specs.Prelude.{ℕ, ◌/◌, ◌≤◌, ◌<◌, ◌≡◌, List, [], ◌∷◌, map, length, Option, Some, None}
use Rattle.std.specs.Prelude.{true, false, cond, ◌&&◌, eqb}
use Rattle.rules.specs.Tools.{holds}
use Rattle.rules.specs.Samples.{plus_zero, minus_zero}
use Rattle.rules.specs.Zeros.{flag_of}
use Rattle.rules.specs.Chooses.{choose, chosen_tool, form_of, least_of, greatest_of, has_row, row_number, frame_row}
use Rattle.write_scan.specs.Looks.{near, two_zeros}
use Rattle.write_scan.specs.declared.row.Row.{Row}
use Rattle.write_scan.specs.Rows.{RowIs}
use Rattle.write_offers.specs.declared.Choice.{Choice}
use Rattle.write_offers.specs.Ties.{taken, ChosenIs}
use Rattle.write_choice.specs.declared.settle.Settled.{Settled}
use Rattle.write_choice.specs.declared.settle.Settled.TheVariants.{Tool, Of}
use Rattle.write_choice.specs.declared.settle.Kind.{Kind}
use Rattle.write_choice.specs.declared.settle.Kind.TheVariants.{TwoZeros, Near, Short, Far}
use Rattle.write_choice.specs.declared.plans.Plain.{Plain}
use Rattle.write_choice.specs.declared.plans.ZerosPlan.{ZerosPlan}
use Rattle.write_choice.specs.declared.plans.ZerosPlan.TheVariants.{Whole, Binary, Rice}
use Rattle.write_choice.specs.declared.plans.NearPlan.{NearPlan}
use Rattle.write_choice.specs.declared.plans.NearPlan.TheVariants.{Last, Values}
use Rattle.write_zeros.specs.declared.Zeros.{Zeros}
use Rattle.write_located.specs.declared.Located.{Located}
use Rattle.write_zeros.specs.Rice.{RiceIs}
use Rattle.write_located.specs.Rows.{LocatedIs}

-- the tools that are measured
abbrev pub measured : List ℕ
measured = 5 ∷ 6 ∷ 7 ∷ 11 ∷ []

-- the tool of a frame of one value, if the set has it
abbrev pub value_tool : ℕ → ℕ → ℕ → Option ℕ
value_tool mask set x = cond (holds set 2 && eqb x (plus_zero mask)) (Some 2)
    (cond (holds set 3 && eqb x (minus_zero mask)) (Some 3) (cond (holds set 4) (Some 4) None))

-- a frame that the look leaves: the choice lies among the tools that are measured. And one with a sample below -2 or above 1: among the
-- last two
pub record Left (mask set : ℕ) (s : List ℕ) : Type 0 where
  pub later : chosen_tool mask set s ≡ choose mask set s measured
  pub far : near (least_of mask s) (greatest_of mask s) ≡ false → chosen_tool mask set s ≡ choose mask set s (11 ∷ [])

-- a tool of 1 to 4 that is settled, or the frame is left
abbrev pub SettledTool : ℕ → ℕ → List ℕ → Option ℕ → Type 0
SettledTool mask set s (Some t) = (t ≡ chosen_tool mask set s) × ((1 ≤ t) × (t ≤ 4))
SettledTool mask set s None = Left mask set s

-- the paper's choice, told as a tool and its bits
pub record Chosen (mask set : ℕ) (s : List ℕ) (r : Choice) : Type 0 where
  pub tool : r.tool ≡ chosen_tool mask set s
  pub bits : r.bits ≡ length (form_of mask (chosen_tool mask set s) s)
  pub small : r.bits ≤ 1000000000

-- a form that needs no runs: whole octets, or fractional-bit with the frame's row
pub record PlainIs (mask : ℕ) (s : List ℕ) (p : Plain) : Type 0 where
  pub row : p.choice.tool ≡ 11 → (p.row ≡ row_number (frame_row mask s)) × (has_row (frame_row mask s) ≡ true)
  pub kind : (p.choice.tool ≡ 11 → ⊥) → (1 ≤ p.choice.tool) × (p.choice.tool ≤ 4)

-- the last of the tie order
pub record LastIs (mask set : ℕ) (s : List ℕ) (r : Plain) : Type 0 where
  pub chosen : ChosenIs mask set s (11 ∷ []) r.choice
  pub plain : PlainIs mask s r

-- a plan for a frame of the two zeros: the tool and its bits, and what its form needs, the row of flags, which are 1 at minus zero,
-- or runs
abbrev pub zeros_choice : ZerosPlan → Choice
zeros_choice (Whole c) = c
zeros_choice (Binary bits) = record { tool = 5; bits = bits }
zeros_choice (Rice z) = record { tool = 6; bits = z.bits }

abbrev pub ZerosNeeds : ℕ → List ℕ → ZerosPlan → Row → List ℕ → Type 0
ZerosNeeds mask s (Whole c) row runs = (1 ≤ c.tool) × (c.tool ≤ 4)
ZerosNeeds mask s (Binary bits) row runs = RowIs (map (flag_of mask 0) s) (length s / 40) row
ZerosNeeds mask s (Rice z) row runs = RiceIs mask s z runs

pub record ZerosPlanned (mask set : ℕ) (s : List ℕ) (p : ZerosPlan) (row : Row) (runs : List ℕ) : Type 0 where
  pub chosen : Chosen mask set s (zeros_choice p)
  pub needs : ZerosNeeds mask s p row runs

-- the best of uncompressed and binary, as a plan; and of these and Rice
abbrev pub plain_by : Choice → ZerosPlan
plain_by best = cond (eqb best.tool 5) (Binary best.bits) (Whole best)

abbrev pub zeros_by : Choice → Zeros → ZerosPlan
zeros_by best rice = cond (eqb best.tool 6) (Rice rice) (plain_by best)

-- a frame of 80 samples or more from -2 to 1 that has a 1 or a -2
pub record NearFrame (mask : ℕ) (s : List ℕ) : Type 0 where
  pub other : two_zeros mask s ≡ false
  pub close : near (least_of mask s) (greatest_of mask s) ≡ true
  pub long : 80 ≤ length s

-- what the kind of a frame tells of its samples: whether all are zeros, and whether all are from -2 to 1
abbrev pub OfKind : ℕ → List ℕ → Kind → Type 0
OfKind mask s TwoZeros = (two_zeros mask s ≡ true) × (near (least_of mask s) (greatest_of mask s) ≡ true)
OfKind mask s Near = NearFrame mask s
OfKind mask s Short = (two_zeros mask s ≡ false) × (near (least_of mask s) (greatest_of mask s) ≡ true) × (length s < 80)
OfKind mask s Far = (two_zeros mask s ≡ false) × (near (least_of mask s) (greatest_of mask s) ≡ false)

-- a frame that is left, and of which kind it is
abbrev pub KindIs : ℕ → ℕ → List ℕ → Kind → Type 0
KindIs mask set s kind = (Left mask set s) × (OfKind mask s kind)

-- what the look tells: the paper's choice, of tools 1 to 4; or the frame is left. Its kind is told in both cases
abbrev pub Settles : ℕ → ℕ → List ℕ → Settled → Type 0
Settles mask set s (Tool c kind) = (Chosen mask set s c) × ((1 ≤ c.tool) × (c.tool ≤ 4)) × (OfKind mask s kind)
Settles mask set s (Of kind) = KindIs mask set s kind

-- a plan for such a frame
abbrev pub near_choice : NearPlan → Choice
near_choice (Last p) = p.choice
near_choice (Values w) = record { tool = 7; bits = w.bits }

abbrev pub NearNeeds : ℕ → List ℕ → NearPlan → List ℕ → List ℕ → List ℕ → Type 0
NearNeeds mask s (Last p) a b c = PlainIs mask s p
NearNeeds mask s (Values w) a b c = LocatedIs mask s w a b c

pub record NearPlanned (mask set : ℕ) (s : List ℕ) (p : NearPlan) (a b c : List ℕ) : Type 0 where
  pub chosen : Chosen mask set s (near_choice p)
  pub needs : NearNeeds mask s p a b c

-- value-location where its octets are not more than those of the last of the tie order
abbrev pub seven_or : Plain → Located → ℕ
seven_or last w = cond (taken last.choice true w.bits) 7 last.choice.tool

abbrev pub near_by : Plain → Located → NearPlan
near_by last w = cond (eqb (seven_or last w) 7) (Values w) (Last last)
