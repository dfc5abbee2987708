-- The 44 octets that are written before a sound read back as the heading of a sound of that size.
use Prim.Native.Nat.{ℕ, ◌+◌, ◌*◌, ◌/◌, ◌%◌, ◌<◌}
use mathlib.Core.Path.{◌≡◌}
use native.Mathlib.Omega.{arith}
use borrow.Author.Tests.{eq-eqb}
use Rattle.std.specs.Prelude.{Ok}
use Rattle.tool_sound.specs.declared.wave.Heading.TheVariants.{Sound}
use Rattle.tool_sound.specs.Headings.{half_at, word_at, chunks_from, heading_of, heading_for}

-- four octets make their number again
word_back : (n : ℕ) → n < 4294967296
    → n % 256 + 256 * (n / 256 % 256) + 65536 * (n / 256 / 256 % 256 + 256 * (n / 256 / 256 / 256 % 256)) ≡ n
word_back n h = omega arith

pub reads-back : (n : ℕ) → n < 4294967296 → n % 2 ≡ 0 → heading_of (heading_for n) ≡ Ok (Sound n)
unfolding chunks_from word_at half_at
reads-back n h e = rw (word_back n h, eq-eqb (n % 2) 0 e)
