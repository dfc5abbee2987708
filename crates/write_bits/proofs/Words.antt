-- A word's bits as octets.
use Prim.Native.Nat.{ℕ, ◌/◌, ◌%◌, ◌^◌}
use mathlib.Core.Path.{◌≡◌}
use mathlib.Core.List.{List, [], ◌∷◌, append-nil}
use Rattle.rules.specs.Bits.{low_bits, bits_of}
use Rattle.rules.proofs.Words.{low_bits-split, low_bits-mod}

-- 32 bits as the octets that hold them
abbrev pub octets_of : ℕ → List ℕ
octets_of w = w / 2 ^ 24 % 256 ∷ w / 2 ^ 16 % 256 ∷ w / 2 ^ 8 % 256 ∷ w % 256 ∷ []

pub bits_of-word : (w : ℕ) → bits_of (octets_of w) ≡ low_bits 32 w
unfolding bits_of
bits_of-word w =
    let o : (x : ℕ) → low_bits 8 (x % 256) ≡ low_bits 8 x = low_bits-mod 8 0 in
    rw (low_bits-split 8 24 w, low_bits-split 8 16 w, low_bits-split 8 8 w, o, o, o, o, append-nil)
