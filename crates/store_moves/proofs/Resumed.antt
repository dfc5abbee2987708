-- Any cuts, then steps until still: the block is the one that the move was to leave (`resume`, `resume-move`).
use Prim.Native.Nat.{ℕ, ◌+◌, ◌≤◌, ◌<◌}
use mathlib.Core.Path.{◌≡◌, refl, sym, ap, ◌∙◌}
use mathlib.Core.List.{List, ◌++◌, append_assoc}
use mathlib.Core.Bool.{Bool, true, false}
use native.Mathlib.Omega.{arith}
use lib.ListN.{length, take, drop, length-drop}
use lib.Seq.{paste, drop-paste, length-paste, take_at, length-take-le}
use borrow.Author.Tests.{leb-true, leb-false}
use Rattle.store_rows.specs.Limits.{size_of}
use Rattle.store_moves.specs.declared.steps.Move.{Move}
use Rattle.store_moves.specs.declared.steps.State.{State}
use Rattle.store_moves.specs.declared.steps.State.TheVariants.{Moving, Lifted}
use Rattle.store_moves.specs.Moves.{Lasts, lasts, distance, source, place, direct, hop, lift, stepped, finish, ahead, Torn, Cut, sane-still}
use Rattle.store_moves.specs.Moves.{cut-direct, cut-lift, cut-lay, Tells, Sane, sane-moving, sane-lifted, goal, Reached, here}
use Rattle.store_moves.specs.Moves.{one-step, one-cut}
use Rattle.store_moves.proofs.Torn.{direct-again, lift-again, lay-again}
use Rattle.store_moves.proofs.Moved.{hop-some, lift-some, goal-step, sane-step, finish-whole, start-whole}

-- (a), (b): the step that was cut, made again, leaves all as if it had not been cut
pub again : {b s : List ℕ} {st : State} {b' s' : List ℕ} → Sane b s st → Cut b s st b' s' → stepped b' s' st ≡ stepped b s st
again {s = s} (sane-moving {m} t) (cut-direct h torn) = direct-again s m t.down h torn
again {b = b} (sane-moving {m} t) (cut-lift h torn) = lift-again b m h torn
again {s = s} (sane-lifted {m} t d) (cut-lay torn) = lay-again s m torn
again {b = b} {s = s} sane-still x3 = elim x3 [ ]

tells-torn : {b b' : List ℕ} {m : Move} → Tells b m → length b' ≡ length b → Tells b' m
tells-torn t e = record { down = t.down; inside = omega (arith, t.inside); some = t.some }

pub sane-cut : {b s : List ℕ} {st : State} {b' s' : List ℕ} → Sane b s st → Cut b s st b' s' → Sane b' s' st
sane-cut (sane-moving t) (cut-direct h torn) = sane-moving (tells-torn t torn.size)
sane-cut (sane-moving t) (cut-lift h torn) = sane-moving t
sane-cut (sane-lifted t d) (cut-lay torn) = sane-lifted (tells-torn t torn.size) d
sane-cut {b = b} {s = s} sane-still x3 = elim x3 [ ]

pub goal-cut : {b s : List ℕ} {st : State} {b' s' : List ℕ} → Sane b s st → Cut b s st b' s' → goal b' s' st ≡ goal b s st
goal-cut {b} {s} {st} {b'} {s'} h c =
    sym (goal-step b' s' st (sane-cut h c)) ∙ ap (λ (l : Lasts). goal l.block l.spare l.state) (again h c) ∙ goal-step b s st h

-- what is reached tells of the same end
pub record Same (l k : Lasts) : Type 0 where
  pub sane : Sane k.block k.spare k.state
  pub end : goal k.block k.spare k.state ≡ goal l.block l.spare l.state

pub reached-same : {l k : Lasts} → Sane l.block l.spare l.state → Reached l k → Same l k
reached-same h here = record { sane = h; end = refl }
reached-same h (one-step {k} r) =
    let i = reached-same h r in
    record {
      sane = sane-step k.block k.spare k.state i.sane;
      end = goal-step k.block k.spare k.state i.sane ∙ i.end;
    }
reached-same h (one-cut {k} r c) =
    let i = reached-same h r in
    record { sane = sane-cut i.sane c; end = goal-cut i.sane c ∙ i.end }

-- (d) any cuts, then steps until still: the same block as with none
pub resume : (n n' : ℕ) {l k : Lasts} → Sane l.block l.spare l.state → Reached l k → ahead l.state ≤ n → ahead k.state ≤ n'
    → (finish n' k).block ≡ (finish n l).block
resume n n' {l} {k} h r g g' =
    let i = reached-same h r in
    (finish-whole n' k i.sane g').block ∙ i.end ∙ sym (finish-whole n l h g).block

-- of a move from its start on
pub resume-move : (n : ℕ) (b s : List ℕ) (from to octets : ℕ) {k : Lasts} → to < from → from + octets ≤ size_of b → 0 < octets
    → Reached (lasts b s (Moving (record { from = from; to = to; octets = octets; done = 0 }))) k → ahead k.state ≤ n
    → (finish n k).block ≡ paste b to (drop from b) octets
resume-move n b s from to octets {k} h f g r e =
    let i = reached-same (sane-moving (record { down = h; inside = f; some = g })) r in
    (finish-whole n k i.sane e).block ∙ i.end ∙ start-whole b s from to octets

-- ---- all octets of a step written, and the record not: that is a cut too

take-front : (b xs : List ℕ) (at n : ℕ) → at ≤ length b → take at (paste b at xs n) ≡ take at b
take-front b xs at n h =
    ap (λ (x : List ℕ). take at x) (append_assoc (take at b) (take n xs) (drop (at + n) b))
    ∙ take_at (take at b) (take n xs ++ drop (at + n) b) at (length-take-le at b h)

pub torn-paste : (b xs : List ℕ) (at n : ℕ) → at + n ≤ length b → n ≤ length xs → Torn at n b (paste b at xs n)
torn-paste b xs at n h g =
    record {
      before = take-front b xs at n (omega arith);
      behind = drop-paste b at xs n (omega arith) g;
      size = length-paste b at xs n h g;
    }

pub cut-late : (b s : List ℕ) (m : Move) → Tells b m → Cut b s (Moving m) (stepped b s (Moving m)).block (stepped b s (Moving m)).spare
unfolding stepped
cut-late b s m t = go (direct s m) refl
  where
    go : (x : Bool) → direct s m ≡ x → Cut b s (Moving m) (stepped b s (Moving m)).block (stepped b s (Moving m)).spare
    go true e =
        let g = hop-some m t.down t.some in
        let d = t.down in
        let i = t.inside in
        rw e (cut-direct (leb-true (length s) (distance m) e)
        (torn-paste b (drop (source m) b) (place m) (hop m) (omega (arith, g)) (omega (arith, g, length-drop (source m) b))))
    go false e =
        let h = leb-false (length s) (distance m) e in
        let g = lift-some s m h t.some in
        let i = t.inside in
        rw e (cut-lift h (torn-paste s (drop (source m) b) 0 (lift s m) (omega (arith, g)) (omega (arith, g, length-drop (source m) b))))

pub cut-late-2 : (b s : List ℕ) (m : Move) → Tells b m → distance m < length s
    → Cut b s (Lifted m) (stepped b s (Lifted m)).block (stepped b s (Lifted m)).spare
unfolding stepped
cut-late-2 b s m t h =
    let g = lift-some s m h t.some in
    let d = t.down in
    let i = t.inside in
    cut-lay (torn-paste b s (place m) (lift s m) (omega (arith, g)) g.2)
