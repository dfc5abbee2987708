-- The tie order, tool by tool: of a tool and of what was best among those after it, the tool where its octets are not more.
use Rattle.std.specs.Prelude.{ℕ, ◌≤◌, ◌≡◌, List, Bool, cond, ◌&&◌, length, leb}
use Rattle.rules.specs.Bits.{octets_for}
use Rattle.rules.specs.Chooses.{choose, form_of}
use Rattle.write_offers.specs.declared.Choice.{Choice}

-- whether a tool is taken
abbrev pub taken : Choice → Bool → ℕ → Bool
taken best offered bits = offered && leb (octets_for bits) (octets_for best.bits)

pub record BetterIs (best : Choice) (t : ℕ) (offered : Bool) (bits : ℕ) (r : Choice) : Type 0 where
  pub tool : r.tool ≡ cond (taken best offered bits) t best.tool
  pub size : r.bits ≡ cond (taken best offered bits) bits best.bits
  pub small : r.bits ≤ 1000000000

-- the best of some tools and of uncompressed
pub record ChosenIs (mask set : ℕ) (s ts : List ℕ) (r : Choice) : Type 0 where
  pub tool : r.tool ≡ choose mask set s ts
  pub bits : r.bits ≡ length (form_of mask (choose mask set s ts) s)
  pub small : r.bits ≤ 1000000000
