use Rattle.std.proofs.Common.{ℕ, List, ◌≡◌, ◌<◌, length, get_or, take, ap, ◌∙◌, refl, arith}
use lib.ListN.{length-map}
use Rattle.rules.specs.Fractional.{coding, group_of, bits_for, Packs}
use Rattle.rules.proofs.Fractional.{packs-of}
use Rattle.write_bits.specs.declared.pen.Pen.{Pen}
use Rattle.write_bits.specs.Puts.{Able, Puts}
use Rattle.write_bits.proofs.Putting.{puts-as}
use Rattle.write_fractional.specs.Digits.{body_in, groups_in}
use Rattle.write_fractional.proofs.grouping.put_body.Goals.{After-digits_of, In_default}
use Rattle.write_fractional.proofs.grouping.put_body.Goals as goal

-- where R' is k: g digits make a group, in w bits
module _ (c : After-digits_of) {k g w : ℕ} (e : c.args.row.radix ≡ k) (ge : group_of k ≡ g) (we : bits_for k ≡ w) where
  abbrev digits : List ℕ
  digits = take (length c.args.frame.now) c.digits_of.new.digits

  size : length digits ≡ length c.args.frame.now
  size = ap length c.digits_of.ensures ∙ length-map c.args.frame.now _

  form : groups_in (coding k g w) digits ≡ body_in c.args.mask c.args.row c.args.frame.now
  form = rw (size, c.digits_of.ensures, e, ge, we) refl

  asked : Packs (coding k g w) (length digits) × (((i : ℕ) → get_or digits i 0 < k)
      × Able c.args.out.now c.args.pen.now (length (groups_in (coding k g w) digits)))
  asked =
      let f = c.requires.frame_in in
      let fit = c.requires.digits_fit in (
        rw size (rw (e, ge, we) at (packs-of c.args.row.radix (length c.args.frame.now) fit.some fit.few f.few f.whole)),
        (
          λ i. rw (c.digits_of.ensures, ← e) (fit.each i),
          rw form c.requires.able,
        ),
      )

  done : {o : List ℕ} {q : Pen} → Puts c.args.out.now c.args.pen.now (groups_in (coding k g w) digits) o q
      → Puts c.args.out.now c.args.pen.now (body_in c.args.mask c.args.row c.args.frame.now) o q
  done put = puts-as put form

six : (c : In_default) → c.args.row.radix ≡ 6
six c = omega arith

pub put_groups-requires : goal.put_groups-requires
unfolding group_of bits_for
put_groups-requires c =
    let r = asked (goal.at.put_groups-requires c).After-digits_of {g = 1} {w = 1} c.in-2.is refl refl in
    record { packs = r.0; by_index = r.1.0; able = r.1.1 }

pub put_groups-requires-in-3 : goal.put_groups-requires-in-3
unfolding group_of bits_for
put_groups-requires-in-3 c =
    let r = asked (goal.at.put_groups-requires-in-3 c).After-digits_of {g = 5} {w = 8} c.in-3.is refl refl in
    record { packs = r.0; by_index = r.1.0; able = r.1.1 }

pub put_groups-requires-in-4 : goal.put_groups-requires-in-4
unfolding group_of bits_for
put_groups-requires-in-4 c =
    let r = asked (goal.at.put_groups-requires-in-4 c).After-digits_of {g = 1} {w = 2} c.in-4.is refl refl in
    record { packs = r.0; by_index = r.1.0; able = r.1.1 }

pub put_groups-requires-in-5 : goal.put_groups-requires-in-5
unfolding group_of bits_for
put_groups-requires-in-5 c =
    let r = asked (goal.at.put_groups-requires-in-5 c).After-digits_of {g = 5} {w = 12} c.in-5.is refl refl in
    record { packs = r.0; by_index = r.1.0; able = r.1.1 }

pub put_groups-requires-in_default : goal.put_groups-requires-in_default
unfolding group_of bits_for
put_groups-requires-in_default c =
    let at = goal.at.put_groups-requires-in_default c in
    let r = asked at.After-digits_of {g = 5} {w = 13} (six at.In_default) refl refl in
    record { packs = r.0; by_index = r.1.0; able = r.1.1 }

pub returns-in-2 : goal.returns-in-2
unfolding group_of bits_for
returns-in-2 c = done (goal.at.returns-in-2 c).After-digits_of {g = 1} {w = 1} c.in-2.is refl refl c.put_groups.ensures

pub returns-in-3 : goal.returns-in-3
unfolding group_of bits_for
returns-in-3 c = done (goal.at.returns-in-3 c).After-digits_of {g = 5} {w = 8} c.in-3.is refl refl c.put_groups-in-3.ensures

pub returns-in-4 : goal.returns-in-4
unfolding group_of bits_for
returns-in-4 c = done (goal.at.returns-in-4 c).After-digits_of {g = 1} {w = 2} c.in-4.is refl refl c.put_groups-in-4.ensures

pub returns-in-5 : goal.returns-in-5
unfolding group_of bits_for
returns-in-5 c = done (goal.at.returns-in-5 c).After-digits_of {g = 5} {w = 12} c.in-5.is refl refl c.put_groups-in-5.ensures

pub returns-in_default : goal.returns-in_default
unfolding group_of bits_for
returns-in_default c =
    let at = goal.at.returns-in_default c in
    done at.After-digits_of {g = 5} {w = 13} (six at.In_default) refl refl c.put_groups-in_default.ensures
