-- What is written stands within the lent buffer.
use Prim.Native.Nat.{ℕ, ◌≤◌}
use native.Mathlib.Omega.{arith}
use mathlib.Core.Path.{ap, ◌∙◌}
use mathlib.Core.List.{List}
use lib.ListN.{length, drop, length-append}
use Rattle.rules.specs.declared.Frame.{Frame}
use Rattle.rules.specs.declared.WriteAnswer.{WriteAnswer}
use Rattle.rules.specs.declared.ReadAnswer.{ReadAnswer}
use Rattle.rules.specs.Bits.{pack}
use Rattle.rules.specs.Chooses.{Write}
use Rattle.rules.specs.Calls.{Writes, written_bits}
use Rattle.rules.proofs.Octets.{length-pack}
use Rattle.promises.proofs.RoundTrip.{Restored}
use Rattle.round_trip.specs.Returned.{Restores}

pub within : {m : Write} {w : WriteAnswer} {out out' : List ℕ} → Writes m w out out' → w.octets ≤ length out'
within {m} {w} {out} {out'} c =
    let b = written_bits m in
    let l = ap length c.lent ∙ length-append (pack b) (drop (length (pack b)) out) in
    omega (arith, c.octets, length-pack b, l)

-- the promise, as the contract says it
pub restores-by : {f : Frame} {w : WriteAnswer} {into into' : List ℕ} {r : ReadAnswer} → Restored f w into into' r
    → Restores f (record { wrote = w; read = r })
restores-by t = record { end = t.end; frame = t.frame; octets = t.octets; bits = t.bits; tool = t.tool }
