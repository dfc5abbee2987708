-- Of the two zeros, near 0, or last (Plans): value-location asks for samples near 0, and for 80 of them.
use mathlib.Core.Path.{◌≡◌, refl, sym}
use borrow.Author.Tests.{lt-leb}
use Rattle.std.proofs.Common.{inl, inr}
use Rattle.write_choice.specs.declared.settle.Kind.{Kind}
use Rattle.write_choice.specs.Plans.{Chosen, KindIs}
use Rattle.write_choice.proofs.Planning.{last-left}
use Rattle.writer.proofs.fit_left.Goals.{Start}
use Rattle.writer.proofs.fit_left.Goals as goal

kind : (c : Start) {k : Kind} → c.args.kind ≡ k → KindIs c.args.mask c.args.set c.args.frame.now k
kind c e = rw e at c.requires.kind_is

pub fit_zeros-requires : goal.fit_zeros-requires
fit_zeros-requires c =
    let l = kind (goal.at.fit_zeros-requires c).Start c.in-TwoZeros.is in
    record { frame_in = c.requires.frame_in; left = (l.0, l.1.0) }

pub fit_near-requires : goal.fit_near-requires
fit_near-requires c = record { frame_in = c.requires.frame_in; left = kind (goal.at.fit_near-requires c).Start c.in-Near.is }

pub fit_plain-requires : goal.fit_plain-requires
fit_plain-requires c =
    let last = c.last_of-last.ensures in
    let start = (goal.at.fit_plain-requires c).Start in
    let chosen : Chosen c.args.mask c.args.set c.args.frame.now c.last_of-last.result.choice =
    elim c.in-Short.is [
      | inl e ↦ let l = kind start e in last-left refl l.0 l.1.0 (sym l.1.1) (lt-leb 80 _ l.1.2) last
      | inr e ↦ let l = kind start e in last-left refl l.0 l.1.0 (sym l.1.1) refl last
    ] in
    record { frame_in = c.requires.frame_in; chosen = (chosen, last.plain) }
