-- The chunks of a heading: one for each turn of the loop, and none.
use Prim.Native.Nat.{ℕ, ◌+◌}
use mathlib.Core.Path.{◌≡◌}
use mathlib.Core.Bool.{Bool}
use mathlib.Core.List.{List}
use native.Mathlib.Numerals.{add-one}
use Rattle.std.specs.Prelude.{Result, Err}
use Rattle.tool_sound.specs.declared.wave.Step.{Step}
use Rattle.tool_sound.specs.declared.wave.Wrong.{Wrong}
use Rattle.tool_sound.specs.declared.wave.Wrong.TheVariants.{ManyChunks}
use Rattle.tool_sound.specs.Headings.{step_at, onward, chunks_from}

-- a turn of the loop
pub turn : (left k : ℕ) (l : List ℕ) (at : ℕ) (seen : Bool) {s : Result Step Wrong} → left ≡ k + 1 → s ≡ step_at l at seen
    → chunks_from left l at seen ≡ onward at s (chunks_from k l)
unfolding chunks_from
turn left k l at seen h e = rw (h, add-one, e)

-- no chunk is left
pub no_more : (left : ℕ) (l : List ℕ) (at : ℕ) (seen : Bool) → left ≡ 0 → chunks_from left l at seen ≡ Err ManyChunks
unfolding chunks_from
no_more left l at seen e = rw e
