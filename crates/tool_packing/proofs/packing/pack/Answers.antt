use mathlib.Core.Path.{sym, ◌∙◌}
use lib.ListN.{length}
use Rattle.rules.specs.Tools.{writer_asks}
use Rattle.rules.proofs.Guards.{all-met}
use Rattle.tool_packing.proofs.Ordered.{stops, packs-as, refuses, no_length, the-frames}
use Rattle.tool_packing.proofs.packing.pack.Goals as goal

-- LENGTH
pub returns-in-Ok : goal.returns-in-Ok
returns-in-Ok c =
    let a = c.args in
    let met = all-met (writer_asks a.law a.set) (sym c.in-Ok.ensures) in
    stops c.stopped-in-Ok.ensures a.law a.set _
    (no_length a.sound.now a.law a.set a.n (length a.out.now) met.0 met.1.0
    (sym c.is_length.ensures ∙ c.if-not-is_length.true)) a.out.now

pub frames-requires : goal.frames-requires
frames-requires c =
    let a = c.args in
    let met = all-met (writer_asks a.law a.set) (sym c.in-Ok-2.ensures) in
    (met.0, met.1.0)

-- LAW or SET
pub returns-in-Err : goal.returns-in-Err
returns-in-Err c =
    let a = c.args in
    stops c.stopped.ensures a.law a.set _ (refuses a.sound.now a.law a.set a.n (length a.out.now) (sym c.in-Err.ensures))
    a.out.now

pub returns-in-Ok-2 : goal.returns-in-Ok-2
returns-in-Ok-2 c =
    let a = c.args in
    let met = all-met (writer_asks a.law a.set) (sym c.in-Ok-2.ensures) in
    packs-as (the-frames a.sound.now a.law a.set a.n (length a.out.now) met.0 met.1.0
    (sym c.is_length.ensures ∙ c.if-not-is_length.false))
    c.frames.ensures
