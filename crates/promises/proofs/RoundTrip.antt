-- Demand 2 by the contracts alone: what the writing call leaves in a lent output, the reading call gives back as the frame.
use Prim.Native.Nat.{ℕ, ◌%◌, ◌≤◌}
use native.Mathlib.Omega.{arith}
use mathlib.Core.Path.{◌≡◌, refl, sym, ◌∙◌}
use mathlib.Core.List.{List, [], ◌++◌, append-nil}
use mathlib.Core.Bool.{true, ◌||◌}
use lib.ListN.{length, take, drop}
use lib.Seq.{take_at}
use Rattle.std.proofs.Common.{Ok}
use Rattle.rules.specs.declared.Frame.{Frame}
use Rattle.rules.specs.declared.ReadAnswer.{ReadAnswer}
use Rattle.rules.specs.declared.WriteAnswer.{WriteAnswer}
use lib.Dec.{eqb, lit≤}
use borrow.Author.Tests.{eqb-true}
use Rattle.rules.specs.Tools.{holds, is_set, is_length}
use Rattle.rules.specs.Samples.{mask_of}
use Rattle.rules.specs.Bits.{octets_for, pack}
use Rattle.rules.specs.Chooses.{Written, Write, wrote, declined, write_one}
use Rattle.rules.specs.Calls.{IsFrame, Reads, ReadFrame, write_end, Writes, WriteFrame, at_start}
use Rattle.rules.proofs.Octets.{Below, length-pack}
use Rattle.rules.proofs.Tests.{and_left, or_cases, by_length}
use Rattle.promises.proofs.Frame.{found_at}
use Rattle.promises.proofs.Written.{back, wrote_by, frames-of, tool-held}

-- the frame is restored, with the same octets, bits and tool, and its samples stand at the start of the reader's output
pub record Restored (f : Frame) (w : WriteAnswer) (into into' : List ℕ) (r : ReadAnswer) : Type 0 where
  pub end : r.end ≡ Ok tt
  pub frame : IsFrame (take f.len f.samples) r.frame
  pub octets : r.octets ≡ w.octets
  pub bits : r.bits ≡ w.bits
  pub tool : r.tool ≡ w.tool
  pub lent : into' ≡ at_start (take f.len f.samples) into

-- a writing that ended well wrote something
data WellWritten (m : Write) : Type 0 where
  well : (v : Written) → m ≡ wrote v → WellWritten m

well-written : (m : Write) → write_end m ≡ Ok tt → WellWritten m
well-written (wrote v) e = well v refl
well-written (declined w) e = let z : ◌≡◌ {A = ℕ} 0 1 = cc in absurd (omega arith)

pub restored : (f : Frame) (law set : ℕ) (out out' : List ℕ) (w : WriteAnswer) → f.len ≤ length f.samples → Below 256 f.samples
    → WriteFrame f law set out out' w → w.end ≡ Ok tt
    → (reader : ℕ) (more into into' : List ℕ) (r : ReadAnswer) → is_set reader ≡ true → (1 ≤ w.tool → holds reader w.tool ≡ true)
    → f.len ≤ length into → ReadFrame (take w.octets out' ++ more) law reader into into' r → Restored f w into into' r
restored f law set out out' w h b c e reader more into into' r i held room d =
    go (well-written (write_one f.len f.samples law set (length out)) (sym c.end ∙ e))
  where
    go : WellWritten (write_one f.len f.samples law set (length out)) → Restored f w into into' r
    go (well v q) =
        let c' : Writes (wrote v) w out out' = rw q at c in
        let t : w.tool ≡ v.tool = c'.tool in
        let n : w.octets ≡ octets_for (length v.bits) = c'.octets in
        let l = length-pack v.bits in
        let o : take w.octets out' ≡ pack v.bits =
        rw c'.lent (take_at (pack v.bits) (drop (length (pack v.bits)) out) w.octets (l ∙ sym n)) in
        let k = back f.len f.samples law set (length out) v h b q reader (length into) more i (rw t at held) room in
        let d' : Reads (found_at v.tool (take f.len f.samples) (length v.bits)) r into into' = rw (o, k) at d in
        record {
          end = d'.end;
          frame = d'.frame;
          octets = d'.octets ∙ sym n;
          bits = d'.bits ∙ sym c'.bits;
          tool = d'.tool ∙ sym t;
          lent = d'.lent;
        }

-- by the writer's own set, from the written octets alone
pub returned : (f : Frame) (law set : ℕ) (out out' : List ℕ) (w : WriteAnswer) → length f.samples ≡ 320 → Below 256 f.samples
    → WriteFrame f law set out out' w → w.end ≡ Ok tt
    → (into into' : List ℕ) (r : ReadAnswer) → f.len ≤ length into → ReadFrame (take w.octets out') law set into into' r
    → Restored f w into into' r
returned f law set out out' w s b c e into into' r room d =
    go (well-written (write_one f.len f.samples law set (length out)) (sym c.end ∙ e))
  where
    at_most : (n : ℕ) → eqb n 0 || is_length n ≡ true → n ≤ 320
    at_most n h =
        or_cases (n ≤ 320) (eqb n 0) (is_length n) h (λ z. omega (arith, eqb-true n 0 z))
        (by_length (λ n. n ≤ 320) (lit≤ tt) (lit≤ tt) (lit≤ tt) (lit≤ tt) (lit≤ tt) n)

    go : WellWritten (write_one f.len f.samples law set (length out)) → Restored f w into into' r
    go (well v q) =
        let c' : Writes (wrote v) w out out' = rw q at c in
        let k = wrote_by f.len f.samples law set (length out) v q in
        let n : f.len ≤ length f.samples = omega (arith, at_most f.len k.allowed) in
        let fs = frames-of f.len f.samples n b k.allowed in
        restored f law set out out' w n b c e set [] into into' r (and_left (is_set set) (eqb (set % 2) 1) k.odd)
        (λ h. rw c'.tool (rw k.is at (tool-held (mask_of law) set k.odd fs (rw k.is (rw c'.tool at h)))))
        room (rw (append-nil (take w.octets out')) d)
