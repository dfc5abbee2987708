-- TAKEN, longer than the block, BAD; then what was taken of the walk is the greeting's note (Called).
use native.Mathlib.Omega.{arith}
use Rattle.store_greeting.proofs.Taking.{taken-bad}
use Rattle.store_notes.proofs.Taken.{taken}
use Rattle.store.proofs.Called.{put-taken, put-long, put-bad}
use Rattle.store.proofs.put_among.Goals as goal

pub returns-then-sought : goal.returns-then-sought
returns-then-sought c =
    let a = c.args in
    let p = c.requires in
    put-taken a.block.now a.table.now a.sought.size a.law a.sought.number a.octets.now p.looked p.size_in_bounds.2 (omega arith)

pub returns-then-sought-octets : goal.returns-then-sought-octets
returns-then-sought-octets c =
    let a = c.args in
    let p = c.requires in
    put-long a.block.now a.table.now a.sought.size a.law a.sought.number a.octets.now p.looked p.size_in_bounds.2 (omega arith)
    c.over_long.ensures (omega arith)

pub put_sound-requires : goal.put_sound-requires
put_sound-requires c =
    let p = c.requires in
    let k = taken c.take.ensures c.in-Some.is (omega arith) (omega arith) c.take.auto.marks in
    record {
      looked = (p.looked, omega arith);
      size_in_bounds = (p.size_in_bounds.0, p.size_in_bounds.1, p.size_in_bounds.3, omega arith);
      taken = k;
    }

pub returns-in-None : goal.returns-in-None
returns-in-None c =
    let a = c.args in
    let p = c.requires in
    put-bad a.block.now a.table.now a.sought.size a.law a.sought.number a.octets.now p.looked p.size_in_bounds.2 (omega arith)
    (taken-bad _ _ (rw c.in-None.is at c.take.ensures))

pub returns-in-Some : goal.returns-in-Some
returns-in-Some c = c.put_sound.ensures
