-- The lines of an answer in the code's steps: one text after another.
use Prim.Native.Nat.{ℕ, ◌+◌, ◌≤◌}
use mathlib.Core.Path.{◌≡◌, sym, ap, ◌∙◌}
use mathlib.Core.List.{List, ◌++◌}
use mathlib.Core.Bool.{Bool}
use native.Mathlib.Omega.{arith}
use lib.ListN.{length, drop, take-append-drop}
use Rattle.rules.specs.Listing.{field, line_end, octets_word}
use Rattle.text_lines.specs.Puts.{Puts}
use Rattle.text_lines.proofs.Putting.{puts_then}
use Rattle.reasons.specs.declared.Reasons.{Reasons}
use Rattle.reasons.specs.Lines.{tool_key, state_key, why_key, winner_key, by_key, fields_line}
use Rattle.reasons.specs.Lines.{by_word, winner_line, first_lines, later_lines, lines_of}
use Rattle.reasons.specs.Calls.{Prints}

pub fields-put : (tool why octets : ℕ) (word : List ℕ) {o o₁ o₂ o₃ o₄ o₅ o₆ : List ℕ} {at a b c d e f : ℕ}
    → Puts o at (field tool_key tool) o₁ a → Puts o₁ a state_key o₂ b → Puts o₂ b word o₃ c → Puts o₃ c (field why_key why) o₄ d
    → Puts o₄ d (field octets_word octets) o₅ e → Puts o₅ e line_end o₆ f → length word ≤ 4 → a ≤ at + 5 + 10 → d ≤ c + 5 + 10
    → e ≤ d + 8 + 10 → (Puts o at (fields_line tool word why octets) o₆ f) × (f ≤ at + 60)
unfolding fields_line
fields-put tool why octets word p q r s t u short k l m =
    (puts_then p (puts_then q (puts_then r (puts_then s (puts_then t u)))), omega (arith, q.place, r.place, u.place))

pub winner-put : (winner : ℕ) (tie : Bool) {o o₁ o₂ o₃ o₄ : List ℕ} {at a b c d : ℕ}
    → Puts o at (field winner_key winner) o₁ a → Puts o₁ a by_key o₂ b → Puts o₂ b (by_word tie) o₃ c → Puts o₃ c line_end o₄ d
    → Puts o at (winner_line winner tie) o₄ d
unfolding winner_line
winner-put winner tie p q r s = puts_then p (puts_then q (puts_then r s))

pub lines-put : (r : Reasons) {o o₁ o₂ o₃ : List ℕ} {at a b c : ℕ}
    → Puts o at (first_lines r.states) o₁ a → Puts o₁ a (later_lines r.states) o₂ b → Puts o₂ b (winner_line r.winner r.tie) o₃ c
    → Puts o at (lines_of r) o₃ c
unfolding lines_of
lines-put r p q s = puts_then p (puts_then q s)

-- text put at the start of what is lent
pub at_first : (r : Reasons) {text text' : List ℕ} {n : ℕ} → Puts text 0 (lines_of r) text' n → Prints r text text' n
at_first r {text} {text'} {n} p =
    let l : n ≡ length (lines_of r) = p.place ∙ omega arith in
    record {
      octets = l;
      lent = sym (take-append-drop n text') ∙ rw (p.says, p.rest) (ap (λ (k : ℕ). lines_of r ++ drop k text) l);
    }
