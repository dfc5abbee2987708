-- What an answer tells by how it ends: a frame that was read, or a refusal.
use Prim.Native.Nat.{ℕ, ◌≤◌}
use mathlib.Core.Path.{◌≡◌, refl}
use mathlib.Core.List.{List}
use native.Mathlib.Omega.{arith}
use lib.ListN.{length}
use Rattle.rules.specs.declared.Refusal.{Refusal}
use Rattle.std.proofs.Common.{Ok, Err}
use Rattle.rules.specs.Reading.{Read, whole, refuse}
use Rattle.rules.specs.Frame.{Found, read_one}
use Rattle.rules.proofs.Accepted.{read-accepts, read-uses}
use Rattle.reader.specs.declared.Report.{Report}
use Rattle.reader.specs.Answers.{Tells}

-- an accepted frame
pub record Accepts (found : Read Found) (r : Report) : Type 0 where
  pub frame : Found
  pub next : ℕ
  pub is : found ≡ whole frame next
  pub tells : Tells (whole frame next) r

pub accepted : {found : Read Found} {r : Report} → Tells found r → r.end ≡ Ok tt → Accepts found r
accepted {found = whole f i} t e = record { frame = f; next = i; is = refl; tells = t }
accepted {found = refuse v k} t e = let d = t.end in let z : ◌≡◌ {A = ℕ} 0 1 = cc in absurd (omega arith)

-- a refused one
pub refused : {found : Read Found} {why : Refusal} {r : Report} → Tells found r → r.end ≡ Err why → found ≡ refuse why r.bit
refused {found = whole f i} t e = let d = t.end in let z : ◌≡◌ {A = ℕ} 0 1 = cc in absurd (omega arith)
refused {found = refuse v k} {why = why} {r} t e =
    let d = t.end in
    let same : v ≡ why = cc in
    rw (same, t.bit)

-- an accepted frame has one octet or more, no more than there are, and fits the room
pub record Bounds (octets : List ℕ) (room : ℕ) (r : Report) : Type 0 where
  pub some : 1 ≤ r.octets
  pub inside : r.octets ≤ length octets
  pub fits : r.len ≤ room

pub read-bounds : (octets : List ℕ) (law set room : ℕ) {r : Report} → Tells (read_one octets law set room) r → r.end ≡ Ok tt
    → Bounds octets room r
read-bounds octets law set room t e =
    let a = accepted t e in
    let u = read-uses octets law set room a.is in
    let f = (read-accepts octets law set room a.is).fits in
    record {
      some = omega (arith, a.tells.octets, u.0);
      inside = omega (arith, a.tells.octets, u.1);
      fits = omega (arith, a.tells.len, f);
    }
