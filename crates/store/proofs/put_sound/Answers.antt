-- FULL, NOROOM; then it fits (Called).
use native.Mathlib.Omega.{arith}
use Rattle.store.proofs.Called.{put_full, put-no-room, put-fits}
use Rattle.store.proofs.put_sound.Goals as goal

pub returns-then-sought-ge-MOST_GREETINGS : goal.returns-then-sought-ge-MOST_GREETINGS
returns-then-sought-ge-MOST_GREETINGS c =
    let a = c.args in
    let p = c.requires in
    put_full a.block.now a.table.now a.sought.size a.head.law a.sought.number a.octets.now p.looked.0 p.taken.heard.lawful
    p.looked.1 p.taken.heard.fine (omega arith)

pub returns-then-sought-behind : goal.returns-then-sought-behind
returns-then-sought-behind c =
    let held = c.held-behind.ensures in
    let a = c.args in
    let p = c.requires in
    put-no-room a.block.now a.table.now a.sought.size a.head.law a.sought.number a.octets.now p.looked.0 p.taken.heard.lawful
    p.looked.1 p.taken.heard.fine (omega arith) held.0 (omega (arith, held.1))

pub fit-requires : goal.fit-requires
fit-requires c =
    let held = c.held-behind.ensures in
    let p = c.requires in
    let k = p.looked.0 in
    let q = p.size_in_bounds in
    record {
      n_value = (k.count, omega arith, omega (arith, q.2), q.0, q.1);
      noted = (k.noted, held.0, omega (arith, held.1, c.if-sought-behind.false));
      taken = p.taken;
    }

pub returns : goal.returns
returns c =
    let held = c.held-behind.ensures in
    let a = c.args in
    let p = c.requires in
    put-fits a.block.now a.table.now a.sought.size a.head.law a.sought.number a.octets.now p.looked.0 p.taken.heard.lawful
    p.looked.1 p.taken.heard.fine (omega arith) held.0 (omega (arith, held.1, c.if-sought-behind.false)) c.fit.ensures
