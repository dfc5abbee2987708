use Prim.Native.Nat.{◌-◌}
use Rattle.rules.specs.Bits.{bits_of}
use Rattle.read_located.proofs.Listing.{Listing}
use Rattle.read_located.proofs.places.Given as goal

-- Each turn reads one place (Listing); the measure is the places left.
abbrev pub invariant-loop-read : goal.invariant-loop-read
invariant-loop-read l =
    Listing (bits_of l.octets) l.at l.d l.width l.count l.common l.other l.initial.cells l.cells l.least l.place l._read

abbrev pub decreases-loop-read : goal.decreases-loop-read
decreases-loop-read l = l.count - l._read
