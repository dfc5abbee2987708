use Prim.Native.Nat.{◌+◌, ◌-◌, ◌≤◌}
use mathlib.Core.Path.{◌≡◌, refl, sym, ◌∙◌}
use native.Mathlib.Omega.{arith}
use lib.ListN.{length}
use Rattle.rules.specs.declared.Refusal.{Refusal}
use Rattle.std.proofs.Common.{Ok, Err}
use Rattle.rules.proofs.Lent.{lent_length}
use Rattle.tool_packing.specs.Packing.{Packs}
use Rattle.tool_packing.proofs.Lengths.{Fits, next_fits}
use Rattle.tool_packing.proofs.Way.{packed, Packing, pack-start, pack-done, pack-turn, pack-refused}
use Rattle.tool_packing.proofs.packing.frames.Goals.{Else-len-eq0, After-put_frame-r}
use Rattle.tool_packing.proofs.packing.frames.Goals as goal

-- the next length fits in the sound left
module _ (c : Else-len-eq0) where
  some : 1 ≤ c.next_length-len.result
  some = omega arith

  fits : Fits (length c.args.sound.now - c.frames.from)
      c.next_length-len.result
  fits = next_fits c.args.n _ c.next_length-len.result
      c.next_length-len.ensures some

-- a frame that was put
module _ (c : After-put_frame-r) where
  some' : 1 ≤ c.next_length-len.result
  some' = omega arith

  turned : c.put_frame-r.result.end ≡ Ok tt → Packing c.args.sound.now
      c.args.law
      c.args.set
      c.args.n
      c.args.out.now c.put_frame-r.new.out
      (c.frames.from + c.next_length-len.result)
      (c.frames.at + c.put_frame-r.result.octets)
      (c.frames.count + 1)
  turned e = pack-turn _ _ _ _ _ c.frames.invariant
      c.requires.0
      c.requires.1 c.next_length-len.ensures
      some' refl c.put_frame-r.ensures e

  refused : (why : Refusal) → c.put_frame-r.result.end ≡ Err why
      → Packs c.args.law
      c.args.set
      (packed c.args.sound.now
      c.args.law
      c.args.set
      c.args.n
      c.args.out.now)
      (record {
        end = Err why;
        frames = c.frames.count;
        samples = c.frames.from;
        octets = c.frames.at;
      })
      c.args.out.now
      c.put_frame-r.new.out
  refused why e = pack-refused _ _ _ _ _ c.frames.invariant
      c.requires.0
      c.requires.1 c.next_length-len.ensures
      some' refl c.put_frame-r.ensures why e

pub frames-init : goal.frames-init
frames-init c = pack-start c.args.sound.now c.args.law c.args.set
    c.args.n c.args.out.now

pub overflow_add-to : goal.overflow_add-to
overflow_add-to c = omega (arith, (fits c).within, c.frames.invariant.inside)

pub put_frame-r-requires : goal.put_frame-r-requires
put_frame-r-requires c =
    let f = fits (goal.at.put_frame-r-requires c).Else-len-eq0 in
    let w = c.frames.invariant in
    (omega arith, omega (arith, f.within, w.inside), omega (arith, w.kept.room, lent_length w.kept))

pub frames-smaller : goal.frames-smaller
frames-smaller c = omega (
  arith,
  (fits (goal.at.frames-smaller c).Else-len-eq0).within,
  (fits (goal.at.frames-smaller c).Else-len-eq0).some,
)

pub frames-preserved : goal.frames-preserved
frames-preserved c = turned (goal.at.frames-preserved c).After-put_frame-r c.in-Ok.is

pub shape_of-out-then-len-eq0 : goal.shape_of-out-then-len-eq0
shape_of-out-then-len-eq0 c = lent_length c.frames.invariant.kept

pub returns-then-len-eq0 : goal.returns-then-len-eq0
returns-then-len-eq0 c = pack-done _ _ _ _ _ c.frames.invariant
    (sym c.next_length-len.ensures ∙ c.if-len-eq0.true) c.last_end-end.ensures

pub shape_of-out-in-Err : goal.shape_of-out-in-Err
shape_of-out-in-Err c = c.put_frame-r.auto.out
    ∙ lent_length c.frames.invariant.kept

pub returns-in-Err : goal.returns-in-Err
returns-in-Err c = refused (goal.at.returns-in-Err c).After-put_frame-r c.in-Err.why c.in-Err.is
