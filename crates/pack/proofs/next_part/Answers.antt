use Prim.Native.Nat.{ℕ, ◌+◌, ◌-◌, ◌≤◌}
use native.Mathlib.Omega.{arith}
use mathlib.Core.Path.{◌≡◌, refl, sym, ◌∙◌}
use mathlib.Core.List.{List}
use lib.ListN.{length, take}
use lib.Seq.{length-take-le}
use Rattle.rules.proofs.Octets.{Below, below_all, below-take}
use Rattle.tool_packing.proofs.Onward.{Adds}
use Rattle.tool_packing.specs.SoundParts.{part_size}
use Rattle.pack.specs.declared.Run.{Run}
use Rattle.pack.specs.Runs.{NextOctets}
use Rattle.pack.proofs.Running.{kept-most, part-adds, next-octets, part-taken}
use Rattle.pack.proofs.next_part.Goals.{After-filled_up-filled, After-pack_on-p}
use Rattle.pack.proofs.next_part.Goals as goal

-- the part, as it is read and filled up
module _ (c : After-filled_up-filled) where
  abbrev count : ℕ
  count = c.in-Ok.heard.count

  abbrev size : ℕ
  size = count + c.filled_up-filled.result

  abbrev part : List ℕ
  part = take size c.filled_up-filled.new.part

  part_length : length part ≡ size
  part_length =
      let a : length c.filled_up-filled.new.part ≡ part_size = c.filled_up-filled.auto.part
      ∙ c.read_part.auto.part
      ∙ c.requires.2 in
      length-take-le size c.filled_up-filled.new.part (omega (arith, a, c.filled_up-filled.ensures.most))

  part-most : length part ≤ part_size
  part-most = omega (arith, part_length, c.filled_up-filled.ensures.most)

-- and as it is packed
module _ (c : After-pack_on-p) where
  abbrev count' : ℕ
  count' = c.in-Ok.heard.count

  abbrev size' : ℕ
  size' = count' + c.filled_up-filled.result

  abbrev part' : List ℕ
  part' = take size' c.filled_up-filled.new.part

  part_length' : length part' ≡ size'
  part_length' =
      let a : length c.filled_up-filled.new.part ≡ part_size = c.filled_up-filled.auto.part
      ∙ c.read_part.auto.part
      ∙ c.requires.2 in
      length-take-le size' c.filled_up-filled.new.part (omega (arith, a, c.filled_up-filled.ensures.most))

  part-most' : length part' ≤ part_size
  part-most' = omega (arith, part_length', c.filled_up-filled.ensures.most)

  octets : Below 256 (take ((c.in-Ok.heard.count) + c.filled_up-filled.result) c.filled_up-filled.new.part)
  octets = below-take ((c.in-Ok.heard.count) + c.filled_up-filled.result)
      (below_all c.filled_up-filled.new.part (λ i. (c.slice_known-4-1.given i).fits))

  abbrev page : List ℕ
  page = c.pack_on-p.new.page

  adds : Adds (length (take ((c.in-Ok.heard.count) + c.filled_up-filled.result) c.filled_up-filled.new.part))
      (length c.args.page.now) c.args.run.packed c.pack_on-p.result
  adds =
      part-adds c.args.job c.args.run c.requires.0 c.requires.1
      (take ((c.in-Ok.heard.count) + c.filled_up-filled.result) c.filled_up-filled.new.part) c.args.page.now
      page octets part-most'
      c.requires.3 c.pack_on-p.ensures

  paged : c.pack_on-p.result.octets - c.args.run.packed.octets ≤ length page
  paged = omega (arith, adds.paged, c.pack_on-p.auto.page)

  next : NextOctets c.args.job c.args.run.packed c.pack_on-p.result
      (take (c.pack_on-p.result.octets - c.args.run.packed.octets) page)
  next =
      next-octets c.args.job c.args.run c.requires.0 c.requires.1
      (take ((c.in-Ok.heard.count) + c.filled_up-filled.result) c.filled_up-filled.new.part) c.args.page.now
      page octets part-most'
      c.requires.3 c.pack_on-p.ensures

pub slice_bounds-pack_on-end-2 : goal.slice_bounds-pack_on-end-2
slice_bounds-pack_on-end-2 c = sym (part_length (goal.at.slice_bounds-pack_on-end-2 c).After-filled_up-filled)

pub pack_on-p-requires : goal.pack_on-p-requires
pack_on-p-requires c =
    let w = c.requires.0 in
    let most = kept-most w.one in
    let l = part-most (goal.at.pack_on-p-requires c).After-filled_up-filled in
    (most, omega (arith, w.frames c.requires.1, most, l), omega (arith, w.samples c.requires.1, most, l))

pub slice_bounds-keep_part-end : goal.slice_bounds-keep_part-end
slice_bounds-keep_part-end c = paged (goal.at.slice_bounds-keep_part-end c).After-pack_on-p

pub slice_bounds-keep_part-end-2 : goal.slice_bounds-keep_part-end-2
slice_bounds-keep_part-end-2 c = sym (length-take-le _ _ (paged (goal.at.slice_bounds-keep_part-end-2 c).After-pack_on-p))

pub keep_part-requires : goal.keep_part-requires
keep_part-requires c = next (goal.at.keep_part-requires c).After-pack_on-p

pub returns : goal.returns
returns c =
    let r : Run = record {
      packed = c.pack_on-p.result;
      filled = c.filled_up-filled.result;
      more = c.may_go_on.result;
      left = c.in-Ok.heard.left;
    } in let t =
    part-taken c.args.job c.args.run c.requires.0 c.requires.1
    (take ((c.in-Ok.heard.count) + c.filled_up-filled.result) c.filled_up-filled.new.part) c.args.page.now
    (c.pack_on-p.new.page) (octets (goal.at.returns c).After-pack_on-p)
    (part-most (goal.at.returns c).After-filled_up-filled) c.requires.3 c.pack_on-p.ensures (c.in-Ok.heard.count)
    (omega (arith, part_length (goal.at.returns c).After-filled_up-filled)) r refl c.may_go_on.ensures
    in t
