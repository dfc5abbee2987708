-- The contracts of the calls (specs/Calls) in the code's steps.
use Prim.Native.Nat.{ℕ}
use mathlib.Core.Path.{◌≡◌, sym, ap, ◌∙◌}
use mathlib.Core.List.{List, ◌++◌}
use native.Mathlib.Omega.{arith}
use lib.ListN.{length, drop, take-append-drop}
use Rattle.rules.specs.Listing.{law_word}
use Rattle.text_lines.specs.Puts.{Puts}
use Rattle.text_lines.proofs.Putting.{puts_then}
use Rattle.text_keyvalue.specs.Lines.{line_of}
use Rattle.settings.specs.declared.Settings.{Settings}
use Rattle.std.specs.Prelude.{Option, Some, None}
use Rattle.settings.specs.Answers.{Answer}
use Rattle.std.specs.Prelude.{Ok, Err}
use Rattle.settings.specs.declared.Refusal.TheVariants.{Line, Gone}
use Rattle.settings.specs.Lines.{set_word, block_word, greeting_word, settings_text}
use Rattle.settings.specs.Revisions.{Box, save_in, back_to, add_to}
use Rattle.settings.specs.Calls.{Adds, Prints}

-- the four lines, one after another
pub four-puts : (s : Settings) {o o₁ o₂ o₃ o₄ : List ℕ} {a b c d : ℕ}
    → Puts o 0 (line_of law_word s.law) o₁ a → Puts o₁ a (line_of set_word s.set) o₂ b → Puts o₂ b (line_of block_word s.block) o₃ c
    → Puts o₃ c (line_of greeting_word s.greeting) o₄ d → Puts o 0 (settings_text s) o₄ d
unfolding settings_text
four-puts s p q r t = puts_then p (puts_then q (puts_then r t))

-- a save and a going back are refused, or add
module _ (b : Box) (cells : List ℕ) where
  pub save-line : {g : Option Settings} → g ≡ None → Adds (save_in b g) cells cells (Err Line)
  save-line e = record { answer = rw e; state = rw e }

  pub save-adds : {g : Option Settings} (v : Settings) {cells' : List ℕ} {r : Answer} → g ≡ Some v → Adds (add_to b v) cells cells' r
      → Adds (save_in b g) cells cells' r
  save-adds v e a = rw e a

  pub back-gone : {k : Option Settings} → k ≡ None → Adds (back_to b k) cells cells (Err Gone)
  back-gone e = record { answer = rw e; state = rw e }

  pub back-adds : {k : Option Settings} (v : Settings) {cells' : List ℕ} {r : Answer} → k ≡ Some v → Adds (add_to b v) cells cells' r
      → Adds (back_to b k) cells cells' r
  back-adds v e a = rw e a

-- a revision's text, or none
module _ (text : List ℕ) where
  pub read-gone : {k : Option Settings} → k ≡ None → Prints k text text (Err Gone)
  read-gone e = record { answer = rw e; lent = rw e }

  pub read-text : {k : Option Settings} (v : Settings) {text' : List ℕ} {n : ℕ} → k ≡ Some v → Puts text 0 (settings_text v) text' n
      → Prints k text text' (Ok n)
  read-text v {text'} {n} e p =
      let l : n ≡ length (settings_text v) = p.place ∙ omega arith in
      record {
        answer = rw (e, l);
        lent = rw e (sym (take-append-drop n text') ∙ rw (p.says, p.rest) (ap (λ (k : ℕ). settings_text v ++ drop k text) l));
      }
