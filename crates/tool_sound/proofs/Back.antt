-- A recording through a master and back: octet for octet, but for 7F of mu, which returns as FF.
use Prim.Native.Nat.{ℕ, ◌-◌, ◌/◌, ◌<◌}
use mathlib.Core.Path.{◌≡◌, refl, ap, ◌∙◌}
use mathlib.Core.List.{List, map}
use native.Mathlib.Omega.{arith}
use lib.IntN.{ℤ, pos, negsuc}
use lib.Signed.{mag}
use borrow.Author.Tests.{lt-ltb, le-ltb}
use Rattle.rules.proofs.Octets.{Below, none, more}
use Rattle.linear.specs.Equations.{to_pcm, from_pcm}
use Rattle.linear.proofs.Returns.{a-returns, mu-returns, minus_as_plus}
use Rattle.tool_sound.specs.Masters.{value_of, low_of, high_of, values_of, pairs_of, value_for, sound_of, master_of}
use Rattle.linear_masters.proofs.Values.{mag-value}
use Rattle.linear_masters.proofs.Back.{shift_back}

-- a value of 16 bits from its octets
value-back : (v : ℤ) → mag v < 32768 → value_of (low_of v) (high_of v) ≡ v
unfolding value_of low_of high_of
value-back (pos n) h = rw (lt-ltb (n / 256) 128 (omega arith)) (ap pos (omega arith))
value-back (negsuc n) h = rw (le-ltb (255 - n / 256) 128 (omega arith)) (ap negsuc (omega arith))

-- the sound of the master of a sound: each sample to linear PCM and back
pub sound_back : (law : ℕ) {s : List ℕ} → Below 256 s → sound_of law (master_of law s) ≡ map (λ o. from_pcm law (to_pcm law o)) s
unfolding values_of pairs_of
sound_back law none = refl
sound_back law (more {x = o} {l = s} h t) =
    let a = value-back (value_for law o) (mag-value law o h) in
    let b = shift_back law (to_pcm law o) in
    rw (a, b, sound_back law t)

same_map : (f g : ℕ → ℕ) → ((o : ℕ) → o < 256 → f o ≡ g o) → {s : List ℕ} → Below 256 s → map f s ≡ map g s
same_map f g e none = refl
same_map f g e (more {x = o} {l = s} h t) = rw (e o h, same_map f g e t)

-- "octet for octet the recording"
pub a_back : {s : List ℕ} → Below 256 s → sound_of 0 (master_of 0 s) ≡ map (λ o. o) s
a_back b = sound_back 0 b ∙ same_map _ (λ o. o) a-returns b

-- "but for 7F as FF"
pub mu-back : {s : List ℕ} → Below 256 s → sound_of 1 (master_of 1 s) ≡ map minus_as_plus s
mu-back b = sound_back 1 b ∙ same_map _ minus_as_plus mu-returns b
