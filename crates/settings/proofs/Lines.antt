-- The text of settings in the code's steps; what is written is read, and nothing else.
use Prim.Native.Nat.{ℕ, ◌≤◌, ◌<◌}
use mathlib.Core.Path.{◌≡◌, sym, ap, ◌∙◌}
use mathlib.Core.List.{List}
use native.Mathlib.Omega.{arith}
use lib.ListN.{length}
use lib.Dec.{leb}
use borrow.Author.Tests.{le-leb, lt-leb, leb-true}
use Rattle.rules.specs.Tools.{most_law, all_tools}
use Rattle.rules.specs.Listing.{law_word}
use Rattle.settings.specs.declared.Settings.{Settings}
use Rattle.std.specs.Prelude.{Some, None}
use Rattle.text_keyvalue.specs.Reading.{Read, whole, none}
use Rattle.text_keyvalue.specs.Lines.{ranged}
use Rattle.settings.specs.Lines.{set_word, block_word, greeting_word, most_block, most_greeting}
use Rattle.settings.specs.Lines.{four_lines, settings, settings_text, given, settings_in}
use Rattle.text_keyvalue.proofs.Exact.{Back, back-bind, back_last, back_alone, back-ranged, Stands, chain, stands-alone, got-value}
use Rattle.text_keyvalue.proofs.Exact.{got-place}
use Rattle.text_keyvalue.proofs.Exact.{ranged-only, through, passed}

-- line after line, as the code reads them: a line is there, or the text is no settings
module _ (text : List ℕ) where
  pub no-law : none ≡ ranged law_word 0 most_law text 0 → None ≡ settings_in text
  unfolding settings four_lines
  no-law e = sym (rw (← e))

  module _ {law a : ℕ} (e : whole law a ≡ ranged law_word 0 most_law text 0) where
    pub no-set : none ≡ ranged set_word 0 all_tools text a → None ≡ settings_in text
    unfolding settings four_lines
    no-set f = sym (rw (← e, ← f))

    module _ {set b : ℕ} (f : whole set b ≡ ranged set_word 0 all_tools text a) where
      pub no_block : none ≡ ranged block_word 1 most_block text b → None ≡ settings_in text
      unfolding settings four_lines
      no_block g = sym (rw (← e, ← f, ← g))

      module _ {block c : ℕ} (g : whole block c ≡ ranged block_word 1 most_block text b) where
        pub no-greeting : none ≡ ranged greeting_word 0 most_greeting text c → None ≡ settings_in text
        unfolding settings four_lines
        no-greeting h = sym (rw (← e, ← f, ← g, ← h))

        module _ {greeting d : ℕ} (h : whole greeting d ≡ ranged greeting_word 0 most_greeting text c) where
          pub more-after : d < length text → None ≡ settings_in text
          unfolding settings four_lines
          more-after l = sym (rw (← e, ← f, ← g, ← h, lt-leb (length text) d l))

          pub all_read : length text ≤ d → Some (record { law = law; set = set; block = block; greeting = greeting }) ≡ settings_in text
          unfolding settings four_lines
          all_read l = sym (rw (← e, ← f, ← g, ← h, le-leb (length text) d l))

-- the values that a box takes
pub record Sound (s : Settings) : Type 0 where
  pub law : s.law ≤ most_law
  pub set : s.set ≤ all_tools
  pub least : 1 ≤ s.block
  pub most : s.block ≤ most_block
  pub greeting : s.greeting ≤ most_greeting

-- the four lines are read back, and so is a text of them alone
four-back : (s : Settings) → Sound s → Back four_lines (settings_text s) s
unfolding four_lines settings_text
four-back s h =
    back-bind (ranged law_word 0 most_law) _ (back-ranged law_word 0 most_law s.law (omega arith) (omega arith) h.law)
    (back-bind (ranged set_word 0 all_tools) _ (back-ranged set_word 0 all_tools s.set (omega arith) (omega arith) h.set)
    (back-bind (ranged block_word 1 most_block) _ (back-ranged block_word 1 most_block s.block (omega arith) h.least h.most)
    (back_last (ranged greeting_word 0 most_greeting) _
    (back-ranged greeting_word 0 most_greeting s.greeting (omega arith) (omega arith) h.greeting))))

-- what is written is read back
pub settings-back : (s : Settings) → Sound s → settings_in (settings_text s) ≡ Some s
unfolding settings
settings-back s h = ap given (back_alone four_lines (four-back s h))

given_is : (r : Read Settings) (s : Settings) → given r ≡ Some s → (i : ℕ) × (r ≡ whole s i)
given_is (whole t i) s e = (i, let z : t ≡ s = cc in ap (λ (u : Settings). whole u i) z)
given_is none s e = let z : ◌≡◌ {A = ℕ} 0 1 = cc in absurd (omega arith)

settled : {text : List ℕ} {s t : Settings} {i j k : ℕ} → s ≡ t → j ≡ k → (Sound s) × (Stands text i (settings_text s) j)
    → (Sound t) × (Stands text i (settings_text t) k)
settled m n h = rw (← m, ← n) h

-- and nothing else is read as settings
four-only : (text : List ℕ) (s : Settings) (i j : ℕ) → four_lines text i ≡ whole s j → (Sound s) × (Stands text i (settings_text s) j)
unfolding four_lines settings_text
four-only text s i j e =
    let a = through (ranged law_word 0 most_law text i) _ e in
    let b = through (ranged set_word 0 all_tools text a.place) _ a.then in
    let c = through (ranged block_word 1 most_block text b.place) _ b.then in
    let d = through (ranged greeting_word 0 most_greeting text c.place) _ c.then in
    let p = ranged-only law_word 0 most_law text i a.value a.place (omega arith) a.first in
    let q = ranged-only set_word 0 all_tools text a.place b.value b.place (omega arith) b.first in
    let r = ranged-only block_word 1 most_block text b.place c.value c.place (omega arith) c.first in
    let t = ranged-only greeting_word 0 most_greeting text c.place d.value d.place (omega arith) d.first in
    let m = got-value d.then in
    let n = got-place d.then in
    settled m n (
      record { law = p.most; set = q.most; least = r.least; most = r.most; greeting = t.most },
      chain p.says (chain q.says (chain r.says t.says)),
    )

pub settings-only : (text : List ℕ) (s : Settings) → settings_in text ≡ Some s → (Sound s) × (text ≡ settings_text s)
unfolding settings
settings-only text s e =
    let g = given_is (settings text 0) s e in
    let m = through (four_lines text 0) _ g.1 in
    let o = passed (leb (length text) m.place) _ m.then in
    let f = four-only text s 0 m.place (m.first ∙ ap (λ (v : Settings). whole v m.place) (got-value o.1)) in
    (f.0, stands-alone f.1 (leb-true (length text) m.place o.0))
