-- Part after part: what is kept is the packing of one sound, no longer than the longest stream, and the run comes nearer to its end.
use Prim.Native.Nat.{ℕ, ◌+◌, ◌*◌, ◌-◌, ◌/◌, ◌≤◌, ◌<◌}
use native.Mathlib.Omega.{arith}
use mathlib.Core.Path.{◌≡◌, refl, sym, ◌∙◌}
use mathlib.Core.List.{List, [], ◌++◌}
use mathlib.Core.Bool.{Bool, true, false, cond}
use lib.ListN.{length, take, length-append}
use borrow.Author.Tests.{eqb-true}
use Rattle.rules.specs.Refusals.{Ending}
use Rattle.std.proofs.Common.{Ok, Err}
use Rattle.rules.specs.Tools.{is_law, is_length}
use Rattle.rules.specs.Walk.{longest}
use Rattle.rules.proofs.Octets.{Below}
use Rattle.rules.proofs.Tests.{by_length}
use Rattle.pack.specs.declared.Job.{Job}
use Rattle.tool_packing.specs.declared.packing.PackAnswer.{PackAnswer}
use Rattle.tool_packing.specs.Packing.{PackFile}
use Rattle.tool_packing.specs.Parts.{PackOn}
use Rattle.tool_packing.proofs.Whole.{pack-inside, well-packed}
use Rattle.tool_packing.proofs.Parts.{begun, carried_on}
use Rattle.tool_packing.proofs.Onward.{Adds, on-adds, on-takes-room}
use Rattle.pack.specs.declared.Run.{Run}
use Rattle.tool_packing.specs.SoundParts.{part_size, goes_on}
use Rattle.pack.specs.Runs.{page_size, OneSound, NextOctets, Stands, Turns, StartsWell, steps_left}

never : {A : Type 0} → false ≡ true → A
never e = let z : ◌≡◌ {A = ℕ} 0 1 = cc in absurd (omega arith)

-- it goes on only after a full part that was packed well
pub goes_on_lem : (e : Ending) (count : ℕ) → goes_on e count ≡ true → (e ≡ Ok tt) × (count ≡ part_size)
goes_on_lem (Ok _) count h = (refl, eqb-true count part_size h)
goes_on_lem (Err why) count h = never h

-- what is kept is no longer than the longest stream
pub kept-most : {s : Job} {kept : List ℕ} {run : Run} → OneSound s kept run → run.packed.octets ≤ longest
kept-most {s} {kept} o = (pack-inside o.sound s.law s.set s.length longest [] kept o.is).octets

-- by a law
pub sound-lawful : {s : Job} {kept : List ℕ} {run : Run} → OneSound s kept run → run.packed.end ≡ Ok tt → is_law s.law ≡ true
sound-lawful {s} o e = (well-packed o.sound s.law s.set s.length longest (sym o.is.end ∙ e)).lawful

-- a run that does not go on is nearer to its end, and so is one that took room
steps-end : (run r : Run) → run.more ≡ true → r.more ≡ false → run.packed.octets ≤ r.packed.octets → steps_left r < steps_left run
unfolding steps_left
steps-end run r m e g = rw (m, e) (omega arith)

steps_on : (run r : Run) → run.more ≡ true → run.packed.octets < r.packed.octets → r.packed.octets ≤ longest
    → steps_left r < steps_left run
unfolding steps_left
steps_on run r m g h = go r.more
  where
    go : (b : Bool) → cond b 1 0 + (longest - r.packed.octets) < cond run.more 1 0 + (longest - run.packed.octets)
    go true = rw m (omega (arith, g, h))
    go false = rw m (omega (arith, g, h))

-- a part is a multiple of every frame length
part-multiple : (n parts : ℕ) → is_length n ≡ true → parts * part_size ≡ parts * (part_size / n) * n
part-multiple n parts i =
    by_length (λ n. parts * part_size ≡ parts * (part_size / n) * n) (omega arith) (omega arith) (omega arith) (omega arith) (omega arith) n i

-- a part that was packed after what stands
module _ (s : Job) (run : Run) (w : Stands s run) (m : run.more ≡ true) (part page page' : List ℕ) (b : Below 256 part)
    (h : length part ≤ part_size)
    (k : length page ≡ page_size) {p : PackAnswer} (t : PackOn run.packed part s.law s.set s.length page page' p) where
  pub part-adds : Adds (length part) (length page) run.packed p
  part-adds = on-adds part s.law s.set s.length page page' (kept-most w.one) t

  more-kept : PackFile (w.one.sound ++ part) s.law s.set s.length (w.kept ++ take (p.octets - run.packed.octets) page') p
  more-kept =
      let o = w.one in
      carried_on o.sound part s.law s.set s.length (o.parts * (part_size / s.length)) w.kept page page'
      (o.whole m ∙ part-multiple s.length o.parts o.allowed) b (omega (arith, h, k)) o.is t

  pub next-octets : NextOctets s run.packed p (take (p.octets - run.packed.octets) page')
  next-octets = record { sound = w.one.sound; part = part; kept = w.kept; was = w.one.is; is = more-kept }

  -- and was kept
  pub part-taken : (count : ℕ) → count ≤ length part → (r : Run) → r.packed ≡ p → r.more ≡ goes_on p.end count → Turns s run r
  part-taken count c r q e = go r.more refl
    where
      full : r.more ≡ true → (p.end ≡ Ok tt) × (length part ≡ part_size)
      full x = let g = goes_on_lem p.end count (sym e ∙ x) in (g.0, omega (arith, h, c, g.1))

      one : OneSound s (w.kept ++ take (p.octets - run.packed.octets) page') r
      one =
          record {
            sound = w.one.sound ++ part;
            is = rw q more-kept;
            allowed = w.one.allowed;
            parts = w.one.parts + 1;
            whole = λ x. omega (arith, w.one.whole m, (full x).1, length-append w.one.sound part);
          }

      same : r.packed.octets ≡ p.octets
      same = rw q refl

      taken : r.more ≡ true → run.packed.octets < p.octets
      taken x = on-takes-room part s.law s.set s.length page page' b (omega (arith, (full x).1)) t (full x).0

      go : (x : Bool) → r.more ≡ x → Turns s run r
      go true x =
          let g = taken x in
          record {
            stands = record {
              kept = w.kept ++ take (p.octets - run.packed.octets) page';
              one = one;
              frames = λ i. rw q (omega (arith, part-adds.frames, w.frames m, g, h));
              samples = λ i. rw q (omega (arith, part-adds.samples, w.samples m, g, h));
            };
            less = steps_on run r m (omega (arith, g, same)) (omega (arith, same, part-adds.octets));
          }
      go false x =
          record {
            stands = record {
              kept = w.kept ++ take (p.octets - run.packed.octets) page';
              one = one;
              frames = λ i. never (sym x ∙ i);
              samples = λ i. never (sym x ∙ i);
            };
            less = steps-end run r m x (omega (arith, same, part-adds.grows));
          }

-- before the first part: no sound, by settings that are not refused, and nothing kept
pub stands-first : (s : Job) (run : Run) → StartsWell s run.packed → Stands s run
stands-first s run w =
    let i = pack-inside [] s.law s.set s.length (length w.page) w.page w.page' w.is in
    record {
      kept = [];
      one = record {
        sound = [];
        is = begun s.law s.set s.length w.page w.page' w.is w.well;
        allowed = (well-packed [] s.law s.set s.length (length w.page) (sym w.is.end ∙ w.well)).allowed;
        parts = 0;
        whole = λ m. refl;
      };
      frames = λ m. omega (arith, i.frames);
      samples = λ m. omega (arith, i.samples);
    }
