-- The heading of A, that of mu, or none (Whole).
use Prim.Native.Nat.{ℕ}
use mathlib.Core.Path.{◌≡◌, sym, ap, ◌∙◌}
use mathlib.Core.List.{List}
use mathlib.Core.Bool.{Bool}
use Rattle.text_keyvalue.specs.Reading.{begins}
use Rattle.recording_read.proofs.Whole.{headed-a, headed-mu, headed-none}
use Rattle.recording_read.proofs.law_in.Goals as goal

-- the octets that were compared are the heading's
compared : {word : List ℕ} {r b : Bool} (head text : List ℕ) → word ≡ head → r ≡ begins word text → r ≡ b → begins head text ≡ b
compared head text w e f = ap (λ (h : List ℕ). begins h text) (sym w) ∙ sym e ∙ f

pub returns-then-has_word : goal.returns-then-has_word
returns-then-has_word c = headed-a _ (compared _ _ c.heading_of.ensures c.has_word.ensures c.if-has_word.true)

pub returns-then-has_word-2 : goal.returns-then-has_word-2
returns-then-has_word-2 c =
    headed-mu _ (compared _ _ c.heading_of.ensures c.has_word.ensures c.if-has_word.false)
    (compared _ _ c.heading_of-else-has_word.ensures c.has_word-else-has_word.ensures c.if-has_word-2.true)

pub returns-else-has_word-2 : goal.returns-else-has_word-2
returns-else-has_word-2 c =
    headed-none _ (compared _ _ c.heading_of.ensures c.has_word.ensures c.if-has_word.false)
    (compared _ _ c.heading_of-else-has_word.ensures c.has_word-else-has_word.ensures c.if-has_word-2.false)
