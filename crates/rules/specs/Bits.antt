-- Document 01, "Bodies": octets as bits. "Bits go highest first; the last octet is filled with 0 bits."
use Rattle.std.specs.Prelude.{ℕ, zero, suc, ◌+◌, ◌*◌, ◌-◌, ◌^◌, ◌/◌, ◌%◌, List, [], ◌∷◌, ◌++◌, length, take, drop, replicate}

-- the low n bits of v, highest first
unfoldable pub low_bits : ℕ → ℕ → List ℕ
low_bits zero v = []
low_bits (suc n) v = v / 2 ^ n % 2 ∷ low_bits n v

-- octets as bits
unfoldable pub bits_of : List ℕ → List ℕ
bits_of [] = []
bits_of (o ∷ os) = low_bits 8 o ++ bits_of os

-- the number that bits are, after those whose number is v
unfoldable pub value_from : ℕ → List ℕ → ℕ
value_from v [] = v
value_from v (a ∷ l) = value_from (2 * v + a) l

-- "octets used are bits divided by 8, rounded up"
abbrev pub octets_for : ℕ → ℕ
octets_for bits = (bits + 7) / 8

-- the 0 bits that fill the last octet
abbrev pub fill_for : ℕ → ℕ
fill_for bits = 8 * octets_for bits - bits

-- n octets from bits, eight at a time
unfoldable pub octets_from : ℕ → List ℕ → List ℕ
octets_from zero bits = []
octets_from (suc n) bits = value_from 0 (take 8 bits) ∷ octets_from n (drop 8 bits)

-- the octets of bits, the last one filled
unfoldable pub pack : List ℕ → List ℕ
pack bits = octets_from (octets_for (length bits)) (bits ++ replicate (fill_for (length bits)) 0)
