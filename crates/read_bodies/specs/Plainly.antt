-- What a plain body gives, as the code tells it before a sample is laid.
use Rattle.std.specs.Prelude.{ℕ, ◌+◌, ◌*◌, ◌≤◌, ◌<◌, ◌≡◌, List, length, take, drop, replicate, Ok, Err}
use Rattle.std.specs.declared.result.Result.{Result}
use Rattle.rules.specs.Bits.{fill_for}
use Rattle.rules.specs.Reading.{Read, whole, refuse}
use Rattle.read_bits.specs.declared.Stop.{Stop}
use Rattle.read_bodies.specs.declared.plain.Plain.{Plain}
use Rattle.read_bodies.specs.declared.plain.Plain.TheVariants.{Octets, Same}

-- its samples
abbrev pub laid_by : Plain → List ℕ → ℕ → List ℕ
laid_by Octets octets n = take n (drop 1 octets)
laid_by (Same x) octets n = replicate n x

-- its octets are there, and room for it
abbrev pub Lies : Plain → List ℕ → ℕ → ℕ → Type 0
Lies Octets octets n room = (n < length octets) × (n ≤ room)
Lies (Same x) octets n room = n ≤ room

-- the body p is that of the reading, up to so many bits; it ends with an octet, and where there is room for N samples it can be laid
pub record Given (found : Read (List ℕ)) (octets : List ℕ) (n : ℕ) (p : Plain) (bits : ℕ) : Type 0 where
  pub says : found ≡ whole (laid_by p octets n) bits
  pub size : length (laid_by p octets n) ≡ n
  pub ends : fill_for bits ≡ 0
  pub few : bits ≤ 8 + 8 * n
  pub lies : (room : ℕ) → n ≤ room → Lies p octets n room

-- the reading of the body
abbrev pub PlainIs : Read (List ℕ) → List ℕ → ℕ → Result (Plain × ℕ) Stop → Type 0
PlainIs found octets n (Ok p) = Given found octets n p.0 p.1
PlainIs found octets n (Err s) = found ≡ refuse s.why s.bit
