-- The moves, one after another, end at what closing up leaves, and move as many octets (`moves-close`); one move for each greeting that is
-- not in its place is enough. The block is then what closing up leaves, all octets of it (`closing-block`), with one gap, behind all
-- (`closed-gap`).
use Prim.Native.Nat.{ℕ, zero, suc, ◌+◌, ◌≤◌, min}
use mathlib.Core.Path.{◌≡◌, refl, sym, ap, subst, ◌∙◌}
use mathlib.Core.List.{List, [], ◌∷◌, ◌++◌, append_assoc}
use mathlib.Core.Bool.{Bool, true, false, cond}
use native.Mathlib.Omega.{arith}
use lib.ListN.{length, take, drop, length-drop, take-append-drop}
use lib.Seq.{paste, drop-drop, drop-paste}
use lib.Dec.{eqb}
use borrow.Author.Tests.{eqb-true, eq-eqb, ne_eqb, lt-ltb, le-ltb}
use Rattle.store_rows.specs.declared.rows.Row.{Row}
use Rattle.std.specs.Prelude.{Option, Some, None}
use Rattle.store_rows.specs.Limits.{largest_block}
use Rattle.store_rows.specs.Rows.{held, greeting, Kept, contents}
use Rattle.store_rows.specs.Finding.{gap_from}
use Rattle.store_rows.specs.Sane.{rising}
use Rattle.store_rows.specs.Changed.{nth}
use Rattle.store_rows.specs.Closing.{moved_to, closed_rows, bodies, closed_block, moved_from}
use Rattle.store_rows.proofs.Lists.{same_drop}
use Rattle.store_rows.proofs.Rising.{Next, rising-head}
use Rattle.store_greeting.specs.Marks.{Note}
use Rattle.store_promises.proofs.Rising.{held-append, held_cons}
use Rattle.store_moves.specs.Next.{next_from, next_of, moved_at}
use Rattle.store_cut.specs.Lasting.{Lasting, made_all}
use Rattle.store_cut.specs.Writes.{move_writes, closing_writes}
use Rattle.store_cut.specs.Closing.{closing_rows, closing_sum, apart_from}
use Rattle.store_cut.proofs.Cut.{Rests, Away, next-away, rising-among, goes-row, goes-rows, in_place, below, due-made, due-block}
use Rattle.store_cut.proofs.Cut.{one, others, made-append}

-- a greeting's start does not change where closing up puts the others
closed_same : (at to : ℕ) (pre : List Row) (r : Row) (post : List Row)
    → closed_rows at (pre ++ (moved_to to r ∷ post)) ≡ closed_rows at (pre ++ (r ∷ post))
unfolding closed_rows
closed_same at to [] r post = refl
closed_same at to (a ∷ pre) r post = ap (λ (x : List Row). moved_to at a ∷ x) (closed_same (at + a.octets) to pre r post)

-- one that moves is counted once, and then it is in its place
moved-less : (at to : ℕ) (pre : List Row) (r : Row) (post : List Row) → to ≡ at + held pre → (r.start ≡ to → ⊥)
    → (moved_from at (pre ++ (r ∷ post)) ≡ r.octets + moved_from at (pre ++ (moved_to to r ∷ post)))
    × (apart_from at (pre ++ (r ∷ post)) ≡ 1 + apart_from at (pre ++ (moved_to to r ∷ post)))
unfolding moved_from apart_from held
moved-less at to [] r post e f =
    let z : to ≡ at = omega arith in
    let g : r.start ≡ at → ⊥ = λ q. f (q ∙ sym z) in
    (rw (ne_eqb r.start at g, eq-eqb to at z) (omega arith), rw (ne_eqb r.start at g, eq-eqb to at z) (omega arith))
moved-less at to (a ∷ pre) r post e f =
    let w = moved-less (at + a.octets) to pre r post (omega arith) f in
    (omega (arith, w.0), omega (arith, w.1))

-- all in their places
pub record Shut (at : ℕ) (rows : List Row) : Type 0 where
  pub rows_are : closed_rows at rows ≡ rows
  pub none : moved_from at rows ≡ 0
  pub stays : (b : List ℕ) → bodies b rows ++ drop (at + held rows) b ≡ drop at b

-- octets from a place on, in two parts
from_place : (b rest : List ℕ) (at n k : ℕ) → rest ++ drop (at + n + k) b ≡ drop (at + n) b
    → (take n (drop at b) ++ rest) ++ drop (at + (n + k)) b ≡ drop at b
from_place b rest at n k e =
    let z : at + (n + k) ≡ at + n + k = omega arith in
    append_assoc (take n (drop at b)) rest (drop (at + (n + k)) b)
    ∙ ap (λ (x : ℕ). take n (drop at b) ++ (rest ++ drop x b)) z
    ∙ ap (λ (x : List ℕ). take n (drop at b) ++ x) (e ∙ sym (drop-drop n at b)) ∙ take-append-drop n (drop at b)

next-closed : (i at : ℕ) (rows : List Row) → None ≡ next_from i at rows → Shut at rows
unfolding next_from closed_rows moved_from bodies held
next-closed i at [] e =
    let z : at + 0 ≡ at = omega arith in
    record { rows_are = refl; none = refl; stays = λ b. ap (λ (x : ℕ). drop x b) z }
next-closed i at (r ∷ rows) e = go (λ q. next-closed (i + 1) (at + r.octets) rows q) (eqb r.start at) refl e
  where
    go : (None ≡ next_from (i + 1) (at + r.octets) rows → Shut (at + r.octets) rows) → (x : Bool) → eqb r.start at ≡ x
        → None ≡ cond x (next_from (i + 1) (at + r.octets) rows) (Some (i, at)) → Shut at (r ∷ rows)
    go more true h q =
        let w = more q in
        record {
          rows_are =
              ap (λ (x : Row). x ∷ closed_rows (at + r.octets) rows) (in_place at r (eqb-true r.start at h))
              ∙ ap (λ (x : List Row). r ∷ x) w.rows_are;
          none = rw h (omega (arith, w.none));
          stays = λ b. ap (λ (x : ℕ). (take r.octets (drop x b) ++ bodies b rows) ++ drop (at + (r.octets + held rows)) b)
              (eqb-true r.start at h) ∙ from_place b (bodies b rows) at r.octets (held rows) (w.stays b);
        }
    go more false h q = let z : ◌≡◌ {A = ℕ} 0 1 = cc in absurd (omega arith)

apart_none : (i at : ℕ) (rows : List Row) → apart_from at rows ≤ 0 → None ≡ next_from i at rows
unfolding next_from apart_from
apart_none i at [] h = refl
apart_none i at (r ∷ rows) h = go (λ q. apart_none (i + 1) (at + r.octets) rows q) (eqb r.start at) refl
  where
    go : (apart_from (at + r.octets) rows ≤ 0 → None ≡ next_from (i + 1) (at + r.octets) rows) → (x : Bool) → eqb r.start at ≡ x
        → None ≡ cond (eqb r.start at) (next_from (i + 1) (at + r.octets) rows) (Some (i, at))
    go more true e = rw e (more (omega (arith, h)))
    go more false e = absurd (omega (arith, rw e at h))

-- the rows and the sum, as closing up leaves and reports them
pub record Closes (n : ℕ) (rows : List Row) (d : Option (ℕ × ℕ)) : Type 0 where
  pub rows_are : closing_rows n rows d ≡ closed_rows 0 rows
  pub sum : closing_sum n rows d ≡ moved_from 0 rows

shut-closes : (n : ℕ) (rows : List Row) (d : Option (ℕ × ℕ)) → d ≡ None → Shut 0 rows → Closes n rows d
unfolding closing_rows closing_sum
shut-closes zero rows d e s = record { rows_are = sym s.rows_are; sum = sym s.none }
shut-closes (suc n) rows d e s = rw e (record { rows_are = sym s.rows_are; sum = sym s.none })

closes-step : (n : ℕ) (rows : List Row) (d : Option (ℕ × ℕ)) → d ≡ next_of rows → apart_from 0 rows ≤ suc n
    → ((rows' : List Row) → apart_from 0 rows' ≤ n → Closes n rows' (next_of rows')) → Closes (suc n) rows d
unfolding closing_rows closing_sum
closes-step n rows None e h f = shut-closes (suc n) rows None refl (next-closed 0 0 rows e)
closes-step n rows (Some (i, at)) e h f =
    let a = next-away 0 0 rows e in
    let rows' = a.pre ++ (moved_to at a.row ∷ a.post) in
    let k : i ≡ length a.pre = omega (arith, a.index) in
    let m = goes-rows rows a.pre a.row a.post i at a.is k in
    let r = goes-row rows a.pre a.row a.post i a.is k in
    let less = moved-less 0 at a.pre a.row a.post a.place a.far in
    let was : apart_from 0 rows ≡ 1 + apart_from 0 rows' = ap (λ (x : List Row). apart_from 0 x) a.is ∙ less.1 in
    let sum : moved_from 0 rows ≡ a.row.octets + moved_from 0 rows' = ap (λ (x : List Row). moved_from 0 x) a.is ∙ less.0 in
    let w = f rows' (omega arith) in
    record {
      rows_are =
          ap (λ (x : List Row). closing_rows n x (next_of x)) m ∙ w.rows_are ∙ closed_same 0 at a.pre a.row a.post
          ∙ ap (λ (x : List Row). closed_rows 0 x) (sym a.is);
      sum =
          ap (λ (x : Row). x.octets + closing_sum n (moved_at i at rows) (next_of (moved_at i at rows))) r
          ∙ ap (λ (x : List Row). a.row.octets + closing_sum n x (next_of x)) m
          ∙ ap (λ (x : ℕ). a.row.octets + x) w.sum ∙ sym sum;
    }

pub moves-close : (n : ℕ) (rows : List Row) → apart_from 0 rows ≤ n → Closes n rows (next_of rows)
moves-close zero rows h =
    let e = apart_none 0 0 rows h in
    shut-closes zero rows (next_of rows) (sym e) (next-closed 0 0 rows e)
moves-close (suc n) rows h = closes-step n rows (next_of rows) refl h (λ x g. moves-close n x g)

-- ---- the block: all octets of it

-- the octets of greetings, one behind another
unfoldable joined : List Kept → List ℕ
joined [] = []
joined (k ∷ ks) = k.octets ++ joined ks

bodies-joined : (b : List ℕ) (rows : List Row) → bodies b rows ≡ joined (contents b rows)
unfolding bodies contents joined
bodies-joined b [] = refl
bodies-joined b (r ∷ rows) = ap (λ (x : List ℕ). greeting b r ++ x) (bodies-joined b rows)

held_same : (to : ℕ) (pre : List Row) (r : Row) (post : List Row) → held (pre ++ (moved_to to r ∷ post)) ≡ held (pre ++ (r ∷ post))
unfolding held
held_same to [] r post = refl
held_same to (a ∷ pre) r post = ap (λ (x : ℕ). a.octets + x) (held_same to pre r post)

-- one move leaves the block that closing up is to leave
moved-closed : (b b' : List ℕ) (to : ℕ) (pre : List Row) (r : Row) (post : List Row) → to ≡ held pre
    → b' ≡ paste b to (drop r.start b) r.octets → to + r.octets ≤ length b → r.octets ≤ length (drop r.start b)
    → contents b' (pre ++ (moved_to to r ∷ post)) ≡ contents b (pre ++ (r ∷ post))
    → closed_block b' (pre ++ (moved_to to r ∷ post)) ≡ closed_block b (pre ++ (r ∷ post))
moved-closed b b' to pre r post p e h g c =
    let rows = pre ++ (r ∷ post) in
    let rows' = pre ++ (moved_to to r ∷ post) in
    let w = held-append pre (r ∷ post) in
    let v = held_cons r post in
    let d : drop (to + r.octets) b' ≡ drop (to + r.octets) b = rw e (drop-paste b to (drop r.start b) r.octets (omega arith) g) in
    ap (λ (x : List ℕ). x ++ drop (held rows') b') (bodies-joined b' rows' ∙ ap joined c ∙ sym (bodies-joined b rows))
    ∙ ap (λ (x : ℕ). bodies b rows ++ drop x b') (held_same to pre r post)
    ∙ ap (λ (x : List ℕ). bodies b rows ++ x) (same_drop (to + r.octets) (held rows) b' b d (omega arith))

module _ {size page : ℕ} {K : List Kept} {N : List Note} {rows : List Row} {l : Lasting} {i at : ℕ} (z : Rests size K N page rows l)
    (e : Some (i, at) ≡ next_of rows) where
  abbrev next : Away 0 0 rows i at
  next = next-away 0 0 rows e

  abbrev there : List Row
  there = next.pre ++ (moved_to at next.row ∷ next.post)

  abbrev then : List ℕ
  then = (made_all (move_writes page l (nth i rows) at (moved_at i at rows) N) l).block

  rows-there : moved_at i at rows ≡ there
  rows-there = goes-rows rows next.pre next.row next.post i at next.is (omega (arith, next.index))

  pub apart-less : apart_from 0 rows ≡ 1 + apart_from 0 (moved_at i at rows)
  apart-less =
      ap (λ (x : List Row). apart_from 0 x) next.is ∙ (moved-less 0 at next.pre next.row next.post next.place next.far).1
      ∙ ap (λ (x : List Row). 1 + apart_from 0 x) (sym rows-there)

  pub due-closed : closed_block then (moved_at i at rows) ≡ closed_block l.block rows
  due-closed =
      let rises = subst (λ (x : List Row). rising 1 0 (min size largest_block) x ≡ true) next.is z.fine.rises in
      let a = rising-among next.pre next.row next.post 0 (min size largest_block) rises in
      let long = z.fine.long in
      let low = below z e in
      let d = length-drop next.row.start l.block in
      let c : contents then there ≡ contents l.block (next.pre ++ (next.row ∷ next.post)) =
      ap (λ (x : List Row). contents then x) (sym rows-there) ∙ (due-made z e).fine.reads ∙ sym z.fine.reads
      ∙ ap (λ (x : List Row). contents l.block x) next.is in
      ap (λ (x : List Row). closed_block then x) rows-there
      ∙ moved-closed l.block then at next.pre next.row next.post (omega (arith, next.place)) (due-block z e)
      (omega (arith, a.inside)) (omega (arith, a.inside)) c
      ∙ ap (λ (x : List Row). closed_block l.block x) (sym next.is)

shut-block : (b : List ℕ) (rows : List Row) → Shut 0 rows → closed_block b rows ≡ b
shut-block b rows s =
    let z : 0 + held rows ≡ held rows = omega arith in
    ap (λ (x : ℕ). bodies b rows ++ drop x b) (sym z) ∙ s.stays b

block-step : (n : ℕ) {size page : ℕ} {K : List Kept} {N : List Note} {rows : List Row} {l : Lasting} (z : Rests size K N page rows l)
    (x : Option (ℕ × ℕ))
    → x ≡ next_of rows → apart_from 0 rows ≤ suc n
    → ((i at : ℕ) → Some (i, at) ≡ next_of rows → apart_from 0 (moved_at i at rows) ≤ n
    → (made_all (others n z i at) (made_all (one n z i at) l)).block ≡ closed_block (made_all (one n z i at) l).block (moved_at i at rows))
    → (made_all (closing_writes (suc n) page l rows N x) l).block ≡ closed_block l.block rows
unfolding closing_writes made_all
block-step n {rows = rows} {l = l} z None e h f = sym (shut-block l.block rows (next-closed 0 0 rows e))
block-step n {l = l} z (Some (i, at)) e h f =
    ap (λ (x : Lasting). x.block) (made-append (one n z i at) (others n z i at) l)
    ∙ f i at e (omega (arith, apart-less z e)) ∙ due-closed z e

-- all moves made: the block is what closing up leaves, all octets of it
pub closing-block : (n : ℕ) {size page : ℕ} {K : List Kept} {N : List Note} {rows : List Row} {l : Lasting} → Rests size K N page rows l
    → apart_from 0 rows ≤ n → (made_all (closing_writes n page l rows N (next_of rows)) l).block ≡ closed_block l.block rows
unfolding closing_writes made_all
closing-block zero {rows = rows} {l = l} z h = sym (shut-block l.block rows (next-closed 0 0 rows (apart_none 0 0 rows h)))
closing-block (suc n) {rows = rows} z h = block-step n z (next_of rows) refl h (λ i at e g. closing-block n (due-made z e) g)

-- one move for each greeting is enough
pub apart-few : (at : ℕ) (rows : List Row) → apart_from at rows ≤ length rows
unfolding apart_from
apart-few at [] = omega arith
apart-few at (r ∷ rows) = go (eqb r.start at) (apart-few (at + r.octets) rows)
  where
    go : (x : Bool) → apart_from (at + r.octets) rows ≤ length rows → cond x 0 1 + apart_from (at + r.octets) rows ≤ suc (length rows)
    go true h = omega arith
    go false h = omega arith

-- ---- a gap behind them

-- greetings closed up leave one gap, behind them
pub closed-gap : (want size at i : ℕ) (rows : List Row) → 1 ≤ want → at + held rows + want ≤ size
    → Some (i + length rows, at + held rows) ≡ gap_from want size at i (closed_rows at rows)
unfolding gap_from closed_rows held
closed-gap want size at i [] w h =
    let z : i + 0 ≡ i = omega arith in
    let y : at + 0 ≡ at = omega arith in
    rw (le-ltb size (at + want) (omega arith), z, y) refl
closed-gap want size at i (r ∷ rows) w h =
    let more = closed-gap want size (at + r.octets) (i + 1) rows w (omega arith) in
    let z : i + 1 + length rows ≡ i + suc (length rows) = omega arith in
    let y : at + r.octets + held rows ≡ at + (r.octets + held rows) = omega arith in
    rw (lt-ltb at (at + want) (omega arith)) (rw (z, y) at more)

-- where none has moved, they are closed up
pub unmoved : (at lo size : ℕ) (rows : List Row) → rising 1 lo size rows ≡ true → moved_from at rows ≡ 0 → closed_rows at rows ≡ rows
unfolding moved_from closed_rows
unmoved at lo size [] h e = refl
unmoved at lo size (r ∷ rows) h e =
    go (λ q. unmoved (at + r.octets) (r.start + r.octets) size rows next_row.1 q) (eqb r.start at) refl e
  where
    next_row : Next 1 lo size r × (rising 1 (r.start + r.octets) size rows ≡ true)
    next_row = rising-head 1 lo size r rows h

    go : (moved_from (at + r.octets) rows ≡ 0 → closed_rows (at + r.octets) rows ≡ rows) → (x : Bool) → eqb r.start at ≡ x
        → cond x 0 r.octets + moved_from (at + r.octets) rows ≡ 0 → moved_to at r ∷ closed_rows (at + r.octets) rows ≡ r ∷ rows
    go more true q f =
        ap (λ (x : Row). x ∷ closed_rows (at + r.octets) rows) (in_place at r (eqb-true r.start at q))
        ∙ ap (λ (x : List Row). r ∷ x) (more (omega arith))
    go more false q f = let o = next_row.0.some in absurd (omega arith)
