-- Greetings in order of start, apart and inside: `rising-head` (the first, and the rest), `rising-next` (row i of a table), and the loop
-- that judges them.
use Prim.Native.Nat.{ℕ, zero, suc, ◌+◌, ◌*◌, ◌≤◌, ◌<◌}
use mathlib.Core.Path.{◌≡◌, refl}
use mathlib.Core.List.{List, [], ◌∷◌}
use mathlib.Core.Bool.{Bool, true, false}
use native.Mathlib.Omega.{arith}
use native.Mathlib.Nat.{not-suc-le-zero}
use lib.ListN.{get_or}
use lib.Dec.{ltb}
use borrow.Author.Tests.{le-ltb, ltb-false}
use Rattle.store_rows.specs.declared.rows.Row.{Row}
use Rattle.store_rows.specs.Rows.{held}
use Rattle.store_rows.specs.Cells.{row_at, rows_at}
use Rattle.store_rows.specs.Sane.{rising}
use Rattle.store_rows.proofs.Lists.{passed}

-- a row of rows that rise
pub record Next (least to size : ℕ) (r : Row) : Type 0 where
  pub above : to ≤ r.start
  pub some : least ≤ r.octets
  pub inside : r.start + r.octets ≤ size

not_true : (b : Bool) → (b ≡ true → ⊥) → b ≡ false
not_true true never = absurd (never refl)
not_true false never = refl

pub rising-head : (least at size : ℕ) (r : Row) (rs : List Row) → rising least at size (r ∷ rs) ≡ true
    → Next least at size r × (rising least (r.start + r.octets) size rs ≡ true)
unfolding rising
rising-head least at size r rs e =
    let a = passed (ltb r.start at) _ e in
    let b = passed (ltb r.octets least) _ a.1 in
    let c = passed (ltb size (r.start + r.octets)) _ b.1 in
    (record { above = ltb-false _ _ a.0; some = ltb-false _ _ b.0; inside = ltb-false _ _ c.0 }, c.1)

pub rising-next : (t : List ℕ) (least size at n k i : ℕ) → i < n → rising least at size (rows_at t n k) ≡ true
    → Next least (at + held (rows_at t i k)) size (row_at t (k + 3 * i))
unfolding rows_at held
rising-next t least size at zero k i h e = absurd (not-suc-le-zero h)
rising-next t least size at (suc n) k zero h e =
    let a = (rising-head least at size (row_at t k) (rows_at t n (k + 3)) e).0 in
    let z : k + 3 * 0 ≡ k = omega arith in
    let y : at + 0 ≡ at = omega arith in
    rw (z, y) a
rising-next t least size at (suc n) k (suc i) h e =
    let a = rising-head least at size (row_at t k) (rows_at t n (k + 3)) e in
    let b = rising-next t least size (get_or t (k + 1) 0 + get_or t (k + 2) 0) n (k + 3) i (omega arith) a.1 in
    let z : k + 3 + 3 * i ≡ k + 3 * suc i = omega arith in
    let b' = rw z at b in
    record { above = omega (arith, a.0.above, b'.above); some = b'.some; inside = b'.inside }

-- the loop that judges them
module _ {least at size : ℕ} {r : Row} (rs : List Row) where
  pub rising-turn : Next least at size r → rising least at size (r ∷ rs) ≡ rising least (r.start + r.octets) size rs
  unfolding rising
  rising-turn n =
      rw (le-ltb r.start at n.above, le-ltb r.octets least n.some, le-ltb size (r.start + r.octets) n.inside)

  pub rising-stops : (Next least at size r → ⊥) → rising least at size (r ∷ rs) ≡ false
  rising-stops never = not_true _ (λ e. never ((rising-head least at size r rs e).0))

-- those that rise are inside, one behind another
pub rising-held : (least at size : ℕ) (rs : List Row) → at ≤ size → rising least at size rs ≡ true → at + held rs ≤ size
unfolding held
rising-held least at size [] h e = omega arith
rising-held least at size (r ∷ rs) h e =
    let n = rising-head least at size r rs e in
    let i = rising-held least (r.start + r.octets) size rs n.0.inside n.1 in
    omega (arith, n.0.above, i)

pub rising-within : (least size : ℕ) (rs : List Row) → rising least 0 size rs ≡ true → held rs ≤ size
rising-within least size rs e = omega (arith, rising-held least 0 size rs (omega arith) e)
