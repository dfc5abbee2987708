-- Nothing else fits: each call's contract determines the answer and the lent outputs, for all inputs, refused ones too (`only-read`,
-- `only-write`); and the paper's numbers, with the tool that TOOL gives, determine how a call ended (`endings-one-to-one`).
use Prim.Native.Nat.{ℕ, ◌<◌}
use native.Mathlib.Omega.{arith}
use mathlib.Core.Path.{◌≡◌, refl, sym, ap, ◌∙◌}
use mathlib.Core.List.{List}
use Rattle.rules.specs.declared.Refusal as rules
use Rattle.rules.specs.declared.Refusal.TheVariants.{Short, Prefix, Tool, Room, Case, Method, Run, Place, Align, Length, Set, Law, Long}
use Rattle.std.proofs.Common.{Ok, Err}
use Rattle.rules.specs.Refusals as refusals
use Rattle.promises.proofs.Fits as fits
use Rattle.recording.specs.declared.Refusal.TheVariants.{Head, Frame}
use Rattle.recording.specs.Endings.{Ending}
use Rattle.recording.specs.declared.FileRead.{FileRead}
use Rattle.recording.specs.declared.FileWritten.{FileWritten}
use Rattle.recording.specs.Items.{File}
use Rattle.recording.specs.Files.{Filed}
use Rattle.recording.specs.Calls.{number_of, tool_named, Reads, Writes}

pub record SameRead (r s : FileRead) (o₁ o₂ c₁ c₂ : List ℕ) : Type 0 where
  pub answer : r ≡ s
  pub lent : o₁ ≡ o₂
  pub told : c₁ ≡ c₂

same_read : (r s : FileRead) → r.end ≡ s.end → r.law ≡ s.law → r.items ≡ s.items → r.octets ≡ s.octets
    → r.samples ≡ s.samples → r.bit ≡ s.bit → r ≡ s
same_read r s e l i o x b = λ k. record { end = e k; law = l k; items = i k; octets = o k; samples = x k; bit = b k }

pub only-read : {f : File} {r s : FileRead} {out o₁ o₂ cells c₁ c₂ : List ℕ} → Reads f r out o₁ cells c₁ → Reads f s out o₂ cells c₂
    → SameRead r s o₁ o₂ c₁ c₂
only-read {r = r} {s = s} a b =
    record {
      answer = same_read r s (a.end ∙ sym b.end) (a.law ∙ sym b.law) (a.items ∙ sym b.items) (a.octets ∙ sym b.octets)
          (a.samples ∙ sym b.samples) (a.bit ∙ sym b.bit);
      lent = a.lent ∙ sym b.lent;
      told = a.told ∙ sym b.told;
    }

pub record SameWritten (r s : FileWritten) (o₁ o₂ : List ℕ) : Type 0 where
  pub answer : r ≡ s
  pub lent : o₁ ≡ o₂

same-written : (r s : FileWritten) → r.end ≡ s.end → r.octets ≡ s.octets → r ≡ s
same-written r s e o = λ k. record { end = e k; octets = o k }

pub only-write : {f : Filed} {r s : FileWritten} {out o₁ o₂ : List ℕ} → Writes f r out o₁ → Writes f s out o₂ → SameWritten r s o₁ o₂
only-write {r = r} {s = s} a b =
    record { answer = same-written r s (a.end ∙ sym b.end) (a.octets ∙ sym b.octets); lent = a.lent ∙ sym b.lent }

-- every number of document 01 is one of 1 to 13, so neither HEAD's nor that of a clean end
numbered : (w : rules.Refusal) → (0 < refusals.refusal_number w) × (refusals.refusal_number w < 14)
numbered Short = (omega arith, omega arith)
numbered Prefix = (omega arith, omega arith)
numbered (Tool t) = (omega arith, omega arith)
numbered Room = (omega arith, omega arith)
numbered Case = (omega arith, omega arith)
numbered Method = (omega arith, omega arith)
numbered Run = (omega arith, omega arith)
numbered Place = (omega arith, omega arith)
numbered Align = (omega arith, omega arith)
numbered Length = (omega arith, omega arith)
numbered Set = (omega arith, omega arith)
numbered Law = (omega arith, omega arith)
numbered Long = (omega arith, omega arith)

same-refusal : {w u : rules.Refusal} → ◌≡◌ {A = refusals.Ending} (Err w) (Err u) → w ≡ u
same-refusal e = cc

pub endings-one-to-one : (a b : Ending) → number_of a ≡ number_of b → tool_named a ≡ tool_named b → a ≡ b
endings-one-to-one (Ok _) (Ok _) n t = refl
endings-one-to-one (Ok _) (Err Head) n t = absurd (omega arith)
endings-one-to-one (Ok _) (Err (Frame u)) n t = absurd (omega (arith, numbered u))
endings-one-to-one (Err Head) (Ok _) n t = absurd (omega arith)
endings-one-to-one (Err Head) (Err Head) n t = refl
endings-one-to-one (Err Head) (Err (Frame u)) n t = absurd (omega (arith, numbered u))
endings-one-to-one (Err (Frame w)) (Ok _) n t = absurd (omega (arith, numbered w))
endings-one-to-one (Err (Frame w)) (Err Head) n t = absurd (omega (arith, numbered w))
endings-one-to-one (Err (Frame w)) (Err (Frame u)) n t =
    ap (λ v. Err (Frame v)) (same-refusal (fits.endings-one-to-one (Err w) (Err u) n t))
