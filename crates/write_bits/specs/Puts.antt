-- A pen: the bits that it has put are those of the octets before its place, and then those that it holds.
use Rattle.std.specs.Prelude.{ℕ, ◌+◌, ◌*◌, ◌≤◌, ◌≡◌, List, ◌++◌, length, take, drop}
use Rattle.rules.specs.Bits.{low_bits, bits_of, octets_for, pack}
use Rattle.write_bits.specs.declared.pen.Pen.{Pen}

unfoldable pub pen_bits : List ℕ → Pen → List ℕ
pen_bits o p = bits_of (take p.at o) ++ low_bits p.held p.word

-- a pen with room for n more bits
pub record Able (o : List ℕ) (p : Pen) (n : ℕ) : Type 0 where
  pub room : 8 * p.at + p.held + n ≤ 8 * length o

-- the bits put after those that were there; what is past the pen's new place is as it was
pub record Puts (o : List ℕ) (p : Pen) (bits o' : List ℕ) (p' : Pen) : Type 0 where
  pub says : pen_bits o' p' ≡ pen_bits o p ++ bits
  pub rest : drop p'.at o' ≡ drop p'.at o
  pub place : 8 * p'.at + p'.held ≡ 8 * p.at + p.held + length bits
  pub grows : p.at ≤ p'.at

-- a word of 32 bits stored as four octets
pub record Stores (o : List ℕ) (at w : ℕ) (o' : List ℕ) : Type 0 where
  pub says : bits_of (take (at + 4) o') ≡ bits_of (take at o) ++ low_bits 32 w
  pub rest : drop (at + 4) o' ≡ drop (at + 4) o

-- all that the pen holds stored, where it is whole octets
pub record Flushes (o : List ℕ) (p : Pen) (o' : List ℕ) (n : ℕ) : Type 0 where
  pub says : bits_of (take n o') ≡ pen_bits o p
  pub rest : drop n o' ≡ drop n o
  pub size : 8 * n ≡ 8 * p.at + p.held

-- all that the pen has put, packed: so many octets, and what is past them as it was
pub record Packed (bits o o' : List ℕ) (n : ℕ) : Type 0 where
  pub size : n ≡ octets_for (length bits)
  pub lent : o' ≡ pack bits ++ drop n o
