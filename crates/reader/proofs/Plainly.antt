-- A frame of tools 1 to 4: its reading, and what of it is to be laid, by what its body gives (`gives`).
use Prim.Native.Nat.{ℕ, ◌≤◌}
use mathlib.Core.Path.{◌≡◌, sym, ap, ◌∙◌}
use mathlib.Core.List.{List}
use mathlib.Core.Bool.{true}
use native.Mathlib.Omega.{arith}
use borrow.Author.Tests.{ne_eqb}
use Rattle.std.proofs.Common.{Result, Ok, Err}
use Rattle.rules.specs.Tools.{holds}
use Rattle.rules.specs.Bits.{bits_of, fill_for}
use Rattle.rules.specs.Samples.{mask_of}
use Rattle.rules.specs.Reading.{whole, filled}
use Rattle.rules.specs.Frame.{body}
use Rattle.rules.specs.Calls.{read_samples}
use Rattle.read_bits.specs.declared.Stop.{Stop}
use Rattle.read_opening.specs.declared.Head.{Head}
use Rattle.read_opening.specs.Opening.{body_by, body_of, HeadFits}
use Rattle.read_bodies.specs.declared.plain.Plain.{Plain}
use Rattle.read_bodies.specs.Plainly.{PlainIs, laid_by}
use Rattle.reader.specs.declared.Taken.{Taken}
use Rattle.reader.specs.Answers.{after_head, finish}
use Rattle.reader.specs.Taken.{taken, Gives}
use Rattle.reader.proofs.Decided.{no_body, with-body, length-range}

finish-whole : (t : ℕ) (s : List ℕ) (j : ℕ) (b : List ℕ) → fill_for j ≡ 0
    → whole (record { tool = t; samples = s; bits = j }) j ≡ finish t s j b
unfolding filled
finish-whole t s j b e = rw e

plain_body : (mask t n mark : ℕ) → t ≤ 4 → body_by mask t n mark ≡ body mask t n
unfolding body_by
plain_body mask t n mark h = rw (ne_eqb t 6 (omega arith), ne_eqb t 11 (omega arith))

module _ (law set room : ℕ) (h : Head) (octets : List ℕ) (f : HeadFits h) (low : h.tool ≤ 4)
    (held : holds set h.tool ≡ true) (roomy : h.len ≤ room) where
  body_is : body_of (mask_of law) h (bits_of octets) h.at ≡ body (mask_of law) h.tool h.len (bits_of octets) 8
  body_is =
      let e : h.at ≡ 8 = f.whole-octet (omega arith) in
      rw (plain_body (mask_of law) h.tool h.len h.mark low, e)

  whole_is : (s : List ℕ) (j : ℕ) → body (mask_of law) h.tool h.len (bits_of octets) 8 ≡ whole s j → fill_for j ≡ 0
      → whole (record { tool = h.tool; samples = s; bits = j }) j ≡ after_head law set room h octets
  whole_is s j e z =
      finish-whole h.tool s j (bits_of octets) z
      ∙ with-body set room h.tool h.len (body_of (mask_of law) h) (bits_of octets) h.at held roomy (body_is ∙ e)

  abbrev accepted : ℕ → ℕ → Result Taken Stop
  accepted n bits = Ok (record { tool = h.tool; len = n; bits = bits })

  pub gives : (r : Result (Plain × ℕ) Stop) → PlainIs (body (mask_of law) h.tool h.len (bits_of octets) 8) octets h.len r
      → Gives (after_head law set room h octets) octets h room r
  gives (Ok p) g =
      let found = whole_is (laid_by p.0 octets h.len) p.1 g.says g.ends in
      let n = (length-range h.len f.len).1 in
      let b = g.few in
      record {
        says = sym (ap taken found)
            ∙ ap (λ (x : ℕ). accepted x p.1) g.size;
        few = omega arith;
        samples = ap read_samples found;
        lies = g.lies room roomy;
      }
  gives (Err s) e = sym (no_body set room h.tool h.len (body_of (mask_of law) h) (bits_of octets) h.at held roomy (body_is ∙ e))
