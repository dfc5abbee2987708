use Prim.Native.Nat.{ℕ, ◌≤◌}
use native.Mathlib.Omega.{arith}
use mathlib.Core.Path.{◌≡◌, refl, sym, ◌∙◌}
use mathlib.Core.Bool.{true, false, false≢true}
use Rattle.std.proofs.Common.{Ok, Err}
use Rattle.std.specs.Result.{is_err}
use Rattle.rules.specs.Refusals.{Ending}
use Rattle.rules.specs.declared.Refusal.{Refusal}
use mathlib.Core.List.{List}
use lib.ListN.{length, take}
use lib.Seq.{length-take-le}
use Rattle.tool_packing.specs.declared.packing.PackAnswer.{PackAnswer}
use Rattle.tool_packing.specs.Packing.{Pack}
use Rattle.tool_packing.proofs.Part.{stays-refused, part-packed}
use Rattle.tool_packing.proofs.Whole.{Inside, pack-inside}
use Rattle.tool_packing.proofs.packing.pack_on.Goals.{After-pack-p}
use Rattle.tool_packing.proofs.packing.pack_on.Goals as goal

-- the part's packing keeps within the part and the room
part-inside : (part : List ℕ) (law set n : ℕ) (page : List ℕ) (room : ℕ) → room ≤ length page → {rest : List ℕ} {r : PackAnswer}
    → Pack part law set n (take room page) rest r → Inside (length part) room r
part-inside part law set n page room h t = rw (length-take-le room page h) at (pack-inside part law set n _ _ _ t)

module _ (c : After-pack-p) where
  fits : c.room_on-room.result ≤ length c.args.page.now
  fits = omega (arith, c.room_on-room.ensures)

  inside : Inside (length c.args.part.now) c.room_on-room.result c.pack-p.result
  inside = part-inside c.args.part.now c.args.law c.args.set c.args.n c.args.page.now
      c.room_on-room.result fits c.pack-p.ensures

refusal_in : (e : Ending) → is_err e ≡ true → (why : Refusal) × (e ≡ Err why)
refusal_in (Ok _) t = absurd (false≢true t)
refusal_in (Err why) t = (why, refl)

well : (e : Ending) → is_err e ≡ false → e ≡ Ok tt
well (Ok _) t = refl
well (Err why) t = absurd (false≢true (sym t))

pub returns-then-is_err : goal.returns-then-is_err
returns-then-is_err c =
    let e = refusal_in c.args.done.end (sym c.is_err.ensures.value ∙ c.if-is_err.true) in
    stays-refused c.args.done c.args.part.now c.args.law c.args.set c.args.n c.args.page.now e.0 e.1

pub slice_bounds-pack-end-2 : goal.slice_bounds-pack-end-2
slice_bounds-pack-end-2 c = sym (length-take-le _ _ (omega (arith, c.room_on-room.ensures)))

pub overflow_add-result : goal.overflow_add-result
overflow_add-result c =
    omega (arith, (inside (goal.at.overflow_add-result c).After-pack-p).frames, c.requires.1)

pub overflow_add-result-2 : goal.overflow_add-result-2
overflow_add-result-2 c = omega (arith, (inside (goal.at.overflow_add-result-2 c).After-pack-p).samples, c.requires.2)

pub overflow_add-result-3 : goal.overflow_add-result-3
overflow_add-result-3 c =
    omega (arith, (inside (goal.at.overflow_add-result-3 c).After-pack-p).octets, c.room_on-room.ensures, c.requires.0)

pub returns : goal.returns
returns c =
    let p = c.pack-p in
    part-packed c.args.done c.args.part.now c.args.law c.args.set c.args.n c.room_on-room.result
    c.args.page.now p.new.out (well c.args.done.end (sym c.is_err.ensures.value ∙ c.if-is_err.false))
    c.room_on-room.ensures p.ensures
