-- Demand 1. A refused walk is the accepted walk of the octets before the refused frame, and then that frame's refusal.
-- A refused single call changes nothing, and reports nothing but its refusal.
use Prim.Native.Nat.{ℕ, suc, ◌+◌, ◌-◌, ◌≤◌, ◌<◌}
use native.Mathlib.Omega.{arith}
use mathlib.Core.Path.{◌≡◌, refl, sym, ap, ◌∙◌}
use mathlib.Core.List.{List, ◌++◌}
use mathlib.Core.Bool.{Bool, true, false, cond, not}
use lib.Dec.{leb}
use borrow.Author.Tests.{leb-true, leb-false}
use lib.ListN.{length, take, drop, replicate, length-drop, length-append, take-append-drop}
use lib.Seq.{length-take-le, drop-append-le}
use Rattle.rules.specs.declared.Refusal.{Refusal}
use Rattle.rules.specs.declared.Refusal.TheVariants.{Law, Set, Long}
use Rattle.rules.specs.Tools.{is_law, is_set}
use Rattle.std.proofs.Common.{Ok, Err}
use Rattle.rules.specs.declared.Frame.{Frame}
use Rattle.rules.specs.declared.ReadAnswer.{ReadAnswer}
use Rattle.rules.specs.declared.WalkAnswer.{WalkAnswer}
use Rattle.rules.specs.declared.WriteAnswer.{WriteAnswer}
use Rattle.rules.specs.Refusals.{refusal_tool}
use Rattle.rules.specs.Reading.{whole, refuse}
use Rattle.rules.specs.Frame.{Found, octets_used, read_one}
use Rattle.rules.specs.Walk.{Walked, stopped, longest, walk_from, walk_all, octets_kept, samples_kept}
use Rattle.rules.specs.Bits.{octets_from, pack}
use Rattle.rules.specs.Chooses.{declined, write_one}
use Rattle.rules.specs.Calls.{Reads, ReadFrame, Writes, WriteFrame, Walk}
use Rattle.promises.proofs.Further.{cut}
use Rattle.promises.proofs.Walks.{WalkOf, ended, refused, delivers, uses, Walkable, walk-all-of, walk-all-only}

-- what a walk that ended with refusal r is, from place `at` on
record Broken (octets : List ℕ) (law set at room : ℕ) (r : Refusal) (w : Walked) : Type 0 where
  from : at ≤ w.place
  inside : w.place < length octets
  kept : WalkOf (take w.place octets) law set at room (record { frames = w.frames; end = Ok tt; place = w.place; bit = 0 })
  rest : read_one (drop w.place octets) law set (room - length (samples_kept w.frames)) ≡ refuse r w.bit
  octets-kept : at + octets_kept w.frames ≡ w.place

-- the frame at a place is read from the octets up to any place behind it
pub cut_at : (octets : List ℕ) (law set at p room : ℕ) {f : Found} {j : ℕ} → at + octets_used f ≤ p → p ≤ length octets
    → read_one (drop at octets) law set room ≡ whole f j → read_one (drop at (take p octets)) law set room ≡ whole f j
cut_at octets law set at p room {f} h k e =
    let l : length (take p octets) ≡ p = length-take-le p octets k in
    let s : drop at octets ≡ drop at (take p octets) ++ drop p octets
    = ap (drop at) (sym (take-append-drop p octets)) ∙ drop-append-le at (take p octets) (drop p octets) (omega arith) in
    cut (drop at (take p octets)) (drop p octets) law set room (rw s at e) (omega (arith, length-drop at (take p octets)))

broken : {octets : List ℕ} {law set at room : ℕ} {w : Walked} (r : Refusal) → WalkOf octets law set at room w → w.end ≡ Err r
    → Broken octets law set at room r w
unfolding octets_kept samples_kept
broken r (ended h) e = let z : ◌≡◌ {A = ℕ} 0 1 = cc in absurd (omega arith)
broken {octets} {law} {set} {at} {room} r (refused {w = w} {bit = bit} h d) e =
    let same : w ≡ r = cc in
    let none : room - 0 ≡ room = omega arith in
    record {
      from = omega arith;
      inside = h;
      kept = ended {at = at} (omega (arith, length-take-le at octets (omega arith)));
      rest = rw (none, ← same) d;
      octets-kept = omega arith;
    }
broken {octets} {law} {set} {at} {room} r (delivers {f = f} {rest = w} h d t) e =
    let i = broken r t e in
    let u = uses octets law set at room h d in
    let p = w.place in
    let m : room - length (f.samples ++ samples_kept w.frames) ≡ room - length f.samples - length (samples_kept w.frames)
    = omega (arith, length-append f.samples (samples_kept w.frames)) in
    record {
      from = omega (arith, i.from);
      inside = i.inside;
      kept = delivers {at = at} (omega (arith, length-take-le p octets (omega (arith, i.inside)), i.from))
          (cut_at octets law set at p room i.from (omega (arith, i.inside)) d) i.kept;
      rest = rw m i.rest;
      octets-kept = omega (arith, i.octets-kept);
    }

-- Demand 1, of a walk: p is the place of the refused frame
pub record RefusedAt (octets : List ℕ) (law set room : ℕ) (r : Refusal) (w : Walked) : Type 0 where
  pub inside : w.place < length octets
  pub kept : walk_all (take w.place octets) law set room ≡ record { frames = w.frames; end = Ok tt; place = w.place; bit = 0 }
  pub rest : read_one (drop w.place octets) law set (room - length (samples_kept w.frames)) ≡ refuse r w.bit
  pub used : octets_kept w.frames ≡ w.place

pub refused-walk : (octets : List ℕ) (law set room : ℕ) (r : Refusal) → Walkable octets law set
    → (walk_all octets law set room).end ≡ Err r → RefusedAt octets law set room r (walk_all octets law set room)
refused-walk octets law set room r t e =
    let w = walk_all octets law set room in
    let b = broken r (walk-all-of octets law set room t) e in
    let l = length-take-le w.place octets (omega (arith, b.inside)) in
    record {
      inside = b.inside;
      kept = walk-all-only (record { lawful = t.lawful; small = t.small; short = omega (arith, b.inside, t.short) }) b.kept;
      rest = b.rest;
      used = omega (arith, b.octets-kept);
    }

-- "LAW, SET and LONG refuse a walk before any frame, with place 0."; every other walk begins
pub data Begins (octets : List ℕ) (law set : ℕ) (w : Walked) : Type 0 where
  walkable : Walkable octets law set → Begins octets law set w
  unlawful : is_law law ≡ false → w ≡ stopped (Err Law) 0 0 → Begins octets law set w
  no-set : is_set set ≡ false → w ≡ stopped (Err Set) 0 0 → Begins octets law set w
  too_long : longest < length octets → w ≡ stopped (Err Long) 0 0 → Begins octets law set w

pub walk_begins : (octets : List ℕ) (law set room : ℕ) → Begins octets law set (walk_all octets law set room)
unfolding walk_all
walk_begins octets law set room = go (is_law law) (is_set set) (leb (length octets) longest) refl refl refl
  where
    go : (a b c : Bool) → is_law law ≡ a → is_set set ≡ b → leb (length octets) longest ≡ c
        → Begins octets law set (cond (not a) (stopped (Err Law) 0 0) (cond (not b) (stopped (Err Set) 0 0)
        (cond (not c) (stopped (Err Long) 0 0) (walk_from (suc (length octets)) octets law set 0 room))))
    go false b c d e f = unlawful d refl
    go true false c d e f = no-set e refl
    go true true false d e f = too_long (leb-false (length octets) longest f) refl
    go true true true d e f = walkable (record { lawful = d; small = e; short = leb-true (length octets) longest f })

-- Demand 1, of a single call: "writes nothing and reports 0 samples, 0 octets used, 0 bits and tool 0, save that TOOL gives the tool"
-- but for the refusal's bit
pub record Nothing (w : Refusal) (at : ℕ) (r : ReadAnswer) (out out' : List ℕ) : Type 0 where
  pub end : r.end ≡ Err w
  pub len : r.frame.len ≡ 0
  pub samples : r.frame.samples ≡ replicate 320 0
  pub octets : r.octets ≡ 0
  pub bits : r.bits ≡ 0
  pub tool : r.tool ≡ refusal_tool w
  pub bit : r.bit ≡ at
  pub lent : out' ≡ out

pub refused-read : (octets : List ℕ) (law set : ℕ) (out out' : List ℕ) (r : ReadAnswer) (w : Refusal) (at : ℕ)
    → read_one octets law set (length out) ≡ refuse w at → ReadFrame octets law set out out' r → Nothing w at r out out'
refused-read octets law set out out' r w at e c =
    let d : Reads (refuse w at) r out out' = rw e at c in
    record {
      end = d.end;
      len = d.frame.len;
      samples = d.frame.samples;
      octets = d.octets;
      bits = d.bits;
      tool = d.tool;
      bit = d.bit;
      lent = d.lent;
    }

pub record NothingWritten (w : Refusal) (r : WriteAnswer) (out out' : List ℕ) : Type 0 where
  pub end : r.end ≡ Err w
  pub octets : r.octets ≡ 0
  pub bits : r.bits ≡ 0
  pub tool : r.tool ≡ 0
  pub lent : out' ≡ out

pub refused-write : (f : Frame) (law set : ℕ) (out out' : List ℕ) (r : WriteAnswer) (w : Refusal)
    → write_one f.len f.samples law set (length out) ≡ declined w → WriteFrame f law set out out' r → NothingWritten w r out out'
unfolding pack octets_from
refused-write f law set out out' r w e c =
    let d : Writes (declined w) r out out' = rw e at c in
    record { end = d.end; octets = d.octets; bits = d.bits; tool = d.tool; lent = d.lent }

-- of a walk, output beyond the samples kept is as lent, and so is all of it where none is kept
pub walk-lent : (octets : List ℕ) (law set : ℕ) (out out' : List ℕ) (r : WalkAnswer) → Walk octets law set out out' r
    → out' ≡ samples_kept (walk_all octets law set (length out)).frames ++ drop r.samples out
walk-lent octets law set out out' r c = rw c.samples c.lent
