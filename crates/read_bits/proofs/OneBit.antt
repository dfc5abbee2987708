-- One bit of octets: there, or missing.
use Prim.Native.Nat.{ℕ, ◌+◌, ◌*◌, ◌/◌, ◌≤◌, ◌<◌}
use mathlib.Core.Path.{◌≡◌}
use mathlib.Core.List.{List}
use native.Mathlib.Omega.{arith}
use lib.ListN.{length, get_or}
use borrow.Author.Tests.{lt-ltb, le-ltb}
use Rattle.rules.specs.declared.Refusal.TheVariants.{Short}
use Rattle.rules.specs.Bits.{bits_of}
use Rattle.rules.specs.Reading.{whole, refuse, bit}
use Rattle.rules.proofs.Octets.{length-bits_of}

pub bit-there : (s : List ℕ) (at : ℕ) → at / 8 < length s → bit (bits_of s) at ≡ whole (get_or (bits_of s) at 0) (at + 1)
unfolding bit
bit-there s at h = rw (length-bits_of, lt-ltb at (8 * length s) (omega arith))

pub bit-missing : (s : List ℕ) (at : ℕ) → length s ≤ at / 8 → bit (bits_of s) at ≡ refuse Short at
unfolding bit
bit-missing s at h = rw (length-bits_of, le-ltb at (8 * length s) (omega arith))
