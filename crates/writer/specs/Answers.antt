-- What a writing reports, apart from the output.
use Rattle.std.specs.Prelude.{ℕ, ◌≡◌, List, ◌++◌, cond, length, drop, ltb}
use Rattle.rules.specs.declared.Refusal.TheVariants.{Room}
use Rattle.rules.specs.declared.WriteAnswer.{WriteAnswer}
use Rattle.rules.specs.Bits.{low_bits, bits_of, octets_for, pack}
use Rattle.rules.specs.Chooses.{Written, Write, wrote, declined, chosen_tool, form_of, write_one}
use Rattle.rules.specs.Calls.{write_end, written_bits, write_tool, Writes}
use Rattle.write_bits.specs.Puts.{Packed}
use Rattle.write_forms.specs.Forms.{whole_octets}
use Rattle.write_offers.specs.declared.Choice.{Choice}
use Rattle.write_choice.specs.Plans.{Chosen}

pub record Tells (written : Write) (r : WriteAnswer) : Type 0 where
  pub end : r.end ≡ write_end written
  pub octets : r.octets ≡ octets_for (length (written_bits written))
  pub bits : r.bits ≡ length (written_bits written)
  pub tool : r.tool ≡ write_tool written

-- "ROOM means the chosen form's octets for a writer"
unfoldable pub fitting : ℕ → Written → Write
fitting room w = cond (ltb room (octets_for (length w.bits))) (declined Room) (wrote w)

-- "Zero samples give one octet 00."
abbrev pub pad : Written
pad = record { tool = 0; bits = low_bits 8 0 }

-- the chosen form of some samples
abbrev pub full : ℕ → ℕ → List ℕ → Written
full mask set s = record { tool = chosen_tool mask set s; bits = form_of mask (chosen_tool mask set s) s }

-- and of tools 1 to 4
abbrev pub plain : ℕ → List ℕ → Written
plain t s = record { tool = t; bits = bits_of (whole_octets t s) }

-- a form put where there is room for it, else nothing
unfoldable pub fitted : List ℕ → List ℕ → List ℕ
fitted form out = cond (ltb (length out) (octets_for (length form))) out (pack form ++ drop (octets_for (length form)) out)

-- the chosen form put so; its tool and its bits are told in any case
pub record PutsChosen (mask set : ℕ) (s out out' : List ℕ) (c : Choice) : Type 0 where
  pub chosen : Chosen mask set s c
  pub lent : out' ≡ fitted (full mask set s).bits out

abbrev pub WritesForm : Written → List ℕ → List ℕ → WriteAnswer → Type 0
WritesForm w out out' r = Writes (fitting (length out) w) r out out'

abbrev pub PacksForm : ℕ → ℕ → List ℕ → List ℕ → List ℕ → ℕ → Type 0
PacksForm mask t s out out' r = Packed (form_of mask t s) out out' r

-- a frame written, or its refusal
abbrev pub WritesOne : ℕ → List ℕ → ℕ → ℕ → List ℕ → List ℕ → WriteAnswer → Type 0
WritesOne n samples law set out out' r = Writes (write_one n samples law set (length out)) r out out'
