-- What is written of a frame, in the code's steps.
use Prim.Native.Nat.{ℕ, ◌+◌, ◌≤◌}
use native.Mathlib.Omega.{arith}
use mathlib.Core.Path.{◌≡◌, sym}
use mathlib.Core.List.{List}
use lib.ListN.{length, take}
use Rattle.rules.specs.Listing.{field, line_end, frame_word, at_word}
use Rattle.text_lines.specs.Puts.{Puts}
use Rattle.text_lines.proofs.Putting.{puts_then}
use Rattle.reasons.specs.declared.Reasons.{Reasons}
use Rattle.std.specs.Prelude.{Result, Ok}
use Rattle.rules.specs.declared.Refusal.{Refusal}
use Rattle.reasons.specs.Why.{why_one}
use Rattle.why.specs.Shows.{head_line, frame_text, Shows}

pub head-put : (k place : ℕ) {o o₁ o₂ o₃ : List ℕ} {a b c : ℕ}
    → Puts o 0 (field frame_word k) o₁ a → Puts o₁ a (field at_word place) o₂ b → Puts o₂ b line_end o₃ c → a ≤ 0 + 6 + 20 → b ≤ a + 4 + 20
    → (Puts o 0 (head_line k place) o₃ c) × (c ≤ 51)
unfolding head_line
head-put k place p q r l m = (puts_then p (puts_then q r), omega (arith, r.place))

pub shown : (frame : List ℕ) (k place law set : ℕ) {n : ℕ} (r : Reasons) {text text' : List ℕ}
    → ◌≡◌ {A = Result Reasons Refusal} (Ok r) (why_one (length frame) frame law set) → Puts text 0 (frame_text k place r) text' n
    → Shows frame k place law set (take n text')
shown frame k place law set r e p = record { reasons = r; why = sym e; says = p.says }
