-- Nothing else fits: each call's contract determines the answer and the lent output, for all inputs, refused ones too;
-- and the paper's numbers, with the tool that TOOL gives, determine how a call ended.
use Prim.Native.Nat.{ℕ}
use mathlib.Core.Path.{◌≡◌, refl, sym, ap₂, ◌∙◌}
use mathlib.Core.List.{List}
use mathlib.Core.Bool.{cond}
use lib.Dec.{eqb}
use Rattle.rules.specs.declared.Refusal.TheVariants.{Short, Prefix, Tool, Room, Case, Method, Run, Place, Align, Length, Set, Law, Long}
use Rattle.rules.specs.Refusals.{Ending}
use Rattle.std.proofs.Common.{Ok, Err}
use Rattle.rules.specs.declared.Frame.{Frame}
use Rattle.rules.specs.declared.ReadAnswer.{ReadAnswer}
use Rattle.rules.specs.declared.WalkAnswer.{WalkAnswer}
use Rattle.rules.specs.declared.WriteAnswer.{WriteAnswer}
use Rattle.rules.specs.Refusals.{number_of, tool_named}
use Rattle.rules.specs.Reading.{Read}
use Rattle.rules.specs.Frame.{Found}
use Rattle.rules.specs.Chooses.{Write}
use Rattle.rules.specs.Walk.{Walked}
use Rattle.rules.specs.Calls.{IsFrame, Reads, Writes, Walks}

-- how a call ended, by its number and the tool that it names
abbrev ending_of : ℕ → ℕ → Ending
ending_of n t =
    cond (eqb n 1) (Err Short)
    (cond (eqb n 2) (Err Prefix)
    (cond (eqb n 3) (Err (Tool t))
    (cond (eqb n 4) (Err Room)
    (cond (eqb n 5) (Err Case)
    (cond (eqb n 6) (Err Method)
    (cond (eqb n 7) (Err Run)
    (cond (eqb n 8) (Err Place)
    (cond (eqb n 9) (Err Align)
    (cond (eqb n 10) (Err Length)
    (cond (eqb n 11) (Err Set)
    (cond (eqb n 12) (Err Law)
    (cond (eqb n 13) (Err Long) (Ok tt)))))))))))))

told : (e : Ending) → ending_of (number_of e) (tool_named e) ≡ e
told (Ok _) = refl
told (Err Short) = refl
told (Err Prefix) = refl
told (Err (Tool t)) = refl
told (Err Room) = refl
told (Err Case) = refl
told (Err Method) = refl
told (Err Run) = refl
told (Err Place) = refl
told (Err Align) = refl
told (Err Length) = refl
told (Err Set) = refl
told (Err Law) = refl
told (Err Long) = refl

pub endings-one-to-one : (a b : Ending) → number_of a ≡ number_of b → tool_named a ≡ tool_named b → a ≡ b
endings-one-to-one a b n t = sym (told a) ∙ ap₂ ending_of n t ∙ told b

same-frame : (f g : Frame) → f.samples ≡ g.samples → f.len ≡ g.len → f ≡ g
same-frame f g s l = λ i. record { samples = s i; len = l i }

frame-only : {s : List ℕ} {f g : Frame} → IsFrame s f → IsFrame s g → f ≡ g
frame-only {f = f} {g = g} a b = same-frame f g (a.samples ∙ sym b.samples) (a.len ∙ sym b.len)

-- one answer and one output
pub record Same {A : Type 0} (r s : A) (out out' : List ℕ) : Type 0 where
  pub answer : r ≡ s
  pub lent : out ≡ out'

same_read : (r s : ReadAnswer) → r.end ≡ s.end → r.frame ≡ s.frame → r.octets ≡ s.octets → r.bits ≡ s.bits
    → r.tool ≡ s.tool → r.bit ≡ s.bit → r ≡ s
same_read r s e f o b t w = λ i. record { end = e i; frame = f i; octets = o i; bits = b i; tool = t i; bit = w i }

same_write : (r s : WriteAnswer) → r.end ≡ s.end → r.octets ≡ s.octets → r.bits ≡ s.bits → r.tool ≡ s.tool → r ≡ s
same_write r s e o b t = λ i. record { end = e i; octets = o i; bits = b i; tool = t i }

same-walk : (r s : WalkAnswer) → r.end ≡ s.end → r.frames ≡ s.frames → r.octets ≡ s.octets → r.samples ≡ s.samples
    → r.place ≡ s.place → r.bit ≡ s.bit → r ≡ s
same-walk r s e f o x p w = λ i. record { end = e i; frames = f i; octets = o i; samples = x i; place = p i; bit = w i }

-- Reading one frame (`ReadFrame` is `Reads` of the definition's reading)
pub only-read : {found : Read Found} {r s : ReadAnswer} {out o₁ o₂ : List ℕ} → Reads found r out o₁ → Reads found s out o₂ → Same r s o₁ o₂
only-read {r = r} {s = s} a b =
    record {
      answer =
          same_read r s (a.end ∙ sym b.end) (frame-only a.frame b.frame) (a.octets ∙ sym b.octets)
          (a.bits ∙ sym b.bits) (a.tool ∙ sym b.tool)
          (a.bit ∙ sym b.bit);
      lent = a.lent ∙ sym b.lent;
    }

-- Writing one frame (`WriteFrame` and `WriteSamples` are `Writes` of the definition's writing)
pub only-write : {written : Write} {r s : WriteAnswer} {out o₁ o₂ : List ℕ} → Writes written r out o₁ → Writes written s out o₂
    → Same r s o₁ o₂
only-write {r = r} {s = s} a b =
    record {
      answer = same_write r s (a.end ∙ sym b.end) (a.octets ∙ sym b.octets) (a.bits ∙ sym b.bits) (a.tool ∙ sym b.tool);
      lent = a.lent ∙ sym b.lent;
    }

-- Walking a stream (`Walk` is `Walks` of the definition's walk)
pub only-walk : {walked : Walked} {r s : WalkAnswer} {out o₁ o₂ : List ℕ} → Walks walked r out o₁ → Walks walked s out o₂ → Same r s o₁ o₂
only-walk {r = r} {s = s} a b =
    record {
      answer =
          same-walk r s (a.end ∙ sym b.end) (a.frames ∙ sym b.frames) (a.octets ∙ sym b.octets)
          (a.samples ∙ sym b.samples) (a.place ∙ sym b.place)
          (a.bit ∙ sym b.bit);
      lent = a.lent ∙ sym b.lent;
    }
