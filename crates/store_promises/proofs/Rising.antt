-- Greetings in order of start, apart and inside: made, joined, one taken out. What they hold.
use Prim.Native.Nat.{ℕ, ◌+◌, ◌≤◌}
use mathlib.Core.Path.{◌≡◌, refl, ap}
use mathlib.Core.List.{List, [], ◌∷◌, ◌++◌}
use mathlib.Core.Bool.{true}
use native.Mathlib.Omega.{arith}
use lib.ListN.{take, drop, take-append-drop}
use borrow.Author.Tests.{le-ltb}
use Rattle.store_rows.specs.declared.rows.Row.{Row}
use Rattle.store_rows.specs.Rows.{held}
use Rattle.store_rows.specs.Sane.{rising}
use Rattle.store_rows.specs.Changed.{insert_at}
use Rattle.store_rows.specs.Closing.{moved_to, closed_rows}
use Rattle.store_rows.proofs.Rising.{Next, rising-head}

pub rising-cons : (least at size : ℕ) (r : Row) (rs : List Row) → Next least at size r → rising least (r.start + r.octets) size rs ≡ true
    → rising least at size (r ∷ rs) ≡ true
unfolding rising
rising-cons least at size r rs n e =
    rw (le-ltb r.start at n.above, le-ltb r.octets least n.some, le-ltb size (r.start + r.octets) n.inside) e

pub rising-nil : (least at size : ℕ) → rising least at size [] ≡ true
unfolding rising
rising-nil least at size = refl

pub rising-lower : (lo m size : ℕ) (rows : List Row) → lo ≤ m → rising 1 m size rows ≡ true → rising 1 lo size rows ≡ true
rising-lower lo m size [] h e = rising-nil 1 lo size
rising-lower lo m size (r ∷ rows) h e =
    let n = rising-head 1 m size r rows e in
    let q = n.0 in
    rising-cons 1 lo size r rows (record { above = omega (arith, q.above); some = q.some; inside = q.inside }) n.1

-- greetings of one octet or more are greetings of any number of octets
pub rising-any : (lo size : ℕ) (rows : List Row) → rising 1 lo size rows ≡ true → rising 0 lo size rows ≡ true
rising-any lo size [] e = rising-nil 0 lo size
rising-any lo size (r ∷ rows) e =
    let n = rising-head 1 lo size r rows e in
    let q = n.0 in
    rising-cons 0 lo size r rows (record { above = q.above; some = omega arith; inside = q.inside })
    (rising-any (r.start + r.octets) size rows n.1)

-- what lies inside a size lies inside a larger one
pub rising-in : (lo size more : ℕ) (rows : List Row) → size ≤ more → rising 1 lo size rows ≡ true → rising 1 lo more rows ≡ true
rising-in lo size more [] h e = rising-nil 1 lo more
rising-in lo size more (r ∷ rows) h e =
    let n = rising-head 1 lo size r rows e in
    let q = n.0 in
    rising-cons 1 lo more r rows (record { above = q.above; some = q.some; inside = omega (arith, q.inside) })
    (rising-in (r.start + r.octets) size more rows h n.1)

pub rising-remove : (a : List Row) (r : Row) (c : List Row) (lo size : ℕ) → rising 1 lo size (a ++ (r ∷ c)) ≡ true
    → rising 1 lo size (a ++ c) ≡ true
rising-remove [] r c lo size e =
    let n = rising-head 1 lo size r c e in
    let q = n.0 in
    rising-lower lo (r.start + r.octets) size c (omega (arith, q.above)) n.1
rising-remove (x ∷ a) r c lo size e =
    let n = rising-head 1 lo size x (a ++ (r ∷ c)) e in
    rising-cons 1 lo size x (a ++ c) n.0 (rising-remove a r c (x.start + x.octets) size n.1)

-- rows before, one, and rows behind
pub rising-join : (a : List Row) (r : Row) (c : List Row) (lo size : ℕ) → 1 ≤ r.octets → lo ≤ r.start → r.start + r.octets ≤ size
    → rising 1 lo r.start a ≡ true → rising 1 (r.start + r.octets) size c ≡ true → rising 1 lo size (a ++ (r ∷ c)) ≡ true
rising-join [] r c lo size o l g h f = rising-cons 1 lo size r c (record { above = l; some = o; inside = g }) f
rising-join (x ∷ a) r c lo size o l g h f =
    let n = rising-head 1 lo r.start x a h in
    let m = n.0 in
    rising-cons 1 lo size x (a ++ (r ∷ c)) (record { above = m.above; some = m.some; inside = omega (arith, m.inside) })
    (rising-join a r c (x.start + x.octets) size o m.inside g n.1 f)

-- closed up they rise, and end where what they hold ends
pub closing-rises : (rows : List Row) (at lo size : ℕ) → rising 1 lo size rows ≡ true
    → rising 1 at (at + held rows) (closed_rows at rows) ≡ true
unfolding held closed_rows
closing-rises [] at lo size h = rising-nil 1 at (at + 0)
closing-rises (r ∷ rows) at lo size h =
    let n = rising-head 1 lo size r rows h in
    let e : at + r.octets + held rows ≡ at + (r.octets + held rows) = omega arith in
    rising-cons 1 at (at + (r.octets + held rows)) (moved_to at r) (closed_rows (at + r.octets) rows)
    (record { above = omega arith; some = n.0.some; inside = omega arith })
    (rw e at (closing-rises rows (at + r.octets) (r.start + r.octets) size n.1))

pub held-append : (a c : List Row) → held (a ++ c) ≡ held a + held c
unfolding held
held-append [] c = omega arith
held-append (r ∷ a) c = omega (arith, held-append a c)

pub held_cons : (r : Row) (c : List Row) → held (r ∷ c) ≡ r.octets + held c
unfolding held
held_cons r c = refl

pub held-closed : (at : ℕ) (rows : List Row) → held (closed_rows at rows) ≡ held rows
unfolding held closed_rows
held-closed at [] = refl
held-closed at (r ∷ rows) = omega (arith, held-closed (at + r.octets) rows)

pub held-inserted : (i : ℕ) (r : Row) (rows : List Row) → held (insert_at i r rows) ≡ held rows + r.octets
held-inserted i r rows =
    let e = ap held (take-append-drop i rows) in
    omega (arith, held-append (take i rows) (r ∷ drop i rows), held_cons r (drop i rows), held-append (take i rows) (drop i rows), e)

-- greetings that rise hold no more than their room
pub held-within : (rows : List Row) (lo size : ℕ) → rising 1 lo size rows ≡ true → lo ≤ size → lo + held rows ≤ size
unfolding held
held-within [] lo size h l = omega arith
held-within (r ∷ rows) lo size h l =
    let n = rising-head 1 lo size r rows h in
    omega (arith, held-within rows (r.start + r.octets) size n.1 n.0.inside, n.0.above)
