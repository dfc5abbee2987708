-- The shift of the tools is that of the calls to a master and back (linear_masters): one value and one sample are the same by both
-- (`same-sample`, `same-value`), and so are a sound and a master (`sound-shifted`, `master-shifted`).
use Prim.Native.Nat.{ℕ}
use mathlib.Core.Path.{◌≡◌, refl}
use mathlib.Core.List.{List, map}
use lib.IntN.{ℤ}
use Rattle.linear_masters.specs.Masters as calls
use Rattle.tool_sound.specs.Masters.{values_of, pairs_of, sample_for, value_for, sound_of, master_of}

pub same-sample : (law : ℕ) (v : ℤ) → sample_for law v ≡ calls.sample_for law v
same-sample law v = refl

pub same-value : (law o : ℕ) → value_for law o ≡ calls.value_for law o
same-value law o = refl

pub sound-shifted : (law : ℕ) (master : List ℕ) → sound_of law master ≡ map (calls.sample_for law) (values_of master)
sound-shifted law master = refl

pub master-shifted : (law : ℕ) (sound : List ℕ) → master_of law sound ≡ pairs_of (map (calls.value_for law) sound)
master-shifted law sound = refl
