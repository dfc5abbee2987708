-- A file that is a recording has its heading.
use Prim.Native.Nat.{ℕ}
use native.Mathlib.Omega.{arith}
use mathlib.Core.Path.{◌≡◌, refl, ap, ◌∙◌}
use mathlib.Core.List.{List}
use mathlib.Core.Bool.{Bool, true, false, cond}
use Rattle.text_keyvalue.specs.Reading.{begins}
use Rattle.recording.specs.Remembered.{Headed, heading, no_heading, headed}
use Rattle.tool_playback.specs.declared.kinds.Kind.TheVariants.{Stream, Recording, Headless}
use Rattle.tool_playback.specs.Kinds.{heading_start, kind_by, kind_of}

pub recording-headed : (octets : List ℕ) {law : ℕ} → kind_of octets ≡ Recording law → headed octets ≡ heading law
unfolding kind_of
recording-headed octets {law} e = go (headed octets) refl e
  where
    same : {a b : ℕ} → Recording a ≡ Recording b → a ≡ b
    same e = cc

    other : (b : Bool) {A : Type 0} → cond b Headless Stream ≡ Recording law → A
    other true e = let z : ◌≡◌ {A = ℕ} 0 1 = cc in absurd (omega arith)
    other false e = let z : ◌≡◌ {A = ℕ} 0 1 = cc in absurd (omega arith)

    go : (h : Headed) → headed octets ≡ h → kind_by h (cond (begins heading_start octets) Headless Stream) ≡ Recording law
        → headed octets ≡ heading law
    go (heading l) q e = q ∙ ap heading (same e)
    go no_heading q e = other (begins heading_start octets) e
