-- Steps of a move, cut anywhere: each write that is cut is a step that is cut (`one-step`), so what lasts stands for the same store
-- (`steps-run`); made whole they are the steps (`steps-made`). A start then loads that store (`start-loads`).
use Prim.Native.Nat.{ℕ, zero, suc, ◌+◌, ◌-◌, ◌≤◌, ◌<◌}
use mathlib.Core.Path.{◌≡◌, refl, sym, ap, subst, ◌∙◌}
use mathlib.Core.List.{List, ◌∷◌, ◌++◌}
use mathlib.Core.Bool.{Bool, true, false}
use native.Mathlib.Omega.{arith}
use lib.ListN.{length, take, drop, length-drop}
use lib.Seq.{take_at, length-take-le}
use borrow.Author.Tests.{leb-true, leb-false}
use Rattle.store_rows.specs.declared.rows.Row.{Row}
use Rattle.store_rows.specs.Rows.{Kept}
use Rattle.store_rows.specs.Changed.{written}
use Rattle.store_greeting.specs.Marks.{Note}
use Rattle.store_promises.proofs.Contents.{length-written, high_part}
use Rattle.store_moves.specs.declared.steps.Move.{Move}
use Rattle.store_moves.specs.declared.steps.State.{State}
use Rattle.store_moves.specs.declared.steps.State.TheVariants.{Still, Moving, Lifted}
use Rattle.store_moves.specs.Moves.{Lasts, lasts, distance, source, place, direct, hop, lift, onward, stepped, step, finish, Torn}
use Rattle.store_moves.specs.Moves.{Cut as StepCut, cut-direct, cut-lift, cut-lay, Tells, Sane, sane-moving, sane-lifted}
use Rattle.store_moves.specs.Record.{words_of}
use Rattle.store_moves.proofs.Stepping.{laid-paste, step-still, step-direct, step-lift, step-lay}
use Rattle.store_moves.proofs.Moved.{hop-some, lift-some, sane-step}
use Rattle.store_cut.specs.Lasting.{Lasting, lasting, Write, to_block, to-spare, to-record, made_all, cut-block, cut-spare}
use Rattle.store_cut.specs.Lasting.{cut_record, Run, all, cut, on}
use Rattle.store_cut.specs.Writes.{step_writes, steps_writes}
use Rattle.store_cut.proofs.Stands.{Stands, Bears, bears, stands-cut, stands-step}

-- octets written whole are a write that was cut late
pub written-torn : (b xs : List ℕ) (at n : ℕ) → length xs ≡ n → at + n ≤ length b → Torn at n b (written b at xs)
unfolding written
written-torn b xs at n e h =
    let f : at + length xs ≤ length b = omega arith in
    let k : at + n ≡ at + length xs = omega arith in
    record {
      before = take_at (take at b) (xs ++ drop (at + length xs) b) at (length-take-le at b (omega arith));
      behind =
          ap (λ (x : ℕ). drop x (written b at xs)) k ∙ high_part b xs at f (at + length xs) (omega arith)
          ∙ ap (λ (x : ℕ). drop x b) (sym k);
      size = length-written b at xs f;
    }

-- what the writes of a step come to: a step that is cut, or the step, and what follows
pub data Went (page : ℕ) (b s p q : List ℕ) (st : State) (ws : List Write) : Lasting → Type 0 where
  torn : {b' s' : List ℕ} → StepCut b s st b' s' → Went page b s p q st ws (lasting b' s' p q (words_of page st))
  went : {l' : Lasting} → Run ws (lasting (stepped b s st).block (stepped b s st).spare p q (words_of page (stepped b s st).state)) l'
      → Went page b s p q st ws l'

-- lengths of the chunks
pub hop-long : (b : List ℕ) (m : Move) → Tells b m → (length (take (hop m) (drop (source m) b)) ≡ hop m) × (place m + hop m ≤ length b)
    × (hop m ≤ length (drop (source m) b))
hop-long b m t =
    let g = hop-some m t.down t.some in
    let d = t.down in
    let i = t.inside in
    let h : hop m ≤ length (drop (source m) b) = omega (arith, g, length-drop (source m) b) in
    (length-take-le (hop m) (drop (source m) b) h, omega (arith, g), h)

pub lift-long : (b s : List ℕ) (m : Move) → Tells b m → distance m < length s
    → (length (take (lift s m) (drop (source m) b)) ≡ lift s m) × (0 + lift s m ≤ length s) × (lift s m ≤ length (drop (source m) b))
lift-long b s m t d =
    let g = lift-some s m d t.some in
    let i = t.inside in
    let h : lift s m ≤ length (drop (source m) b) = omega (arith, g, length-drop (source m) b) in
    (length-take-le (lift s m) (drop (source m) b) h, omega (arith, g), h)

pub lay-long : (b s : List ℕ) (m : Move) → Tells b m → distance m < length s
    → (length (take (lift s m) s) ≡ lift s m) × (place m + lift s m ≤ length b) × (lift s m ≤ length s)
lay-long b s m t d =
    let g = lift-some s m d t.some in
    let i = t.inside in
    let k = t.down in
    (length-take-le (lift s m) s g.2, omega (arith, g), g.2)

-- what a step leaves, as its writes leave it
pub direct_is : (b s : List ℕ) (m : Move) → Tells b m → length s ≤ distance m
    → stepped b s (Moving m) ≡ lasts (written b (place m) (take (hop m) (drop (source m) b))) s (onward m (hop m))
unfolding hop
direct_is b s m t h =
    step-direct b s m h refl (laid-paste b (drop (source m) b) (place m) (hop m) (hop-long b m t).2 refl refl) refl

pub lift-is : (b s : List ℕ) (m : Move) → Tells b m → distance m < length s
    → stepped b s (Moving m) ≡ lasts b (written s 0 (take (lift s m) (drop (source m) b))) (Lifted m)
unfolding lift
lift-is b s m t d =
    let z : source m + lift s m - source m ≡ lift s m = omega arith in
    step-lift b s m t d refl (ap (λ (k : ℕ). take k (drop (source m) b)) (sym z)) refl

pub lay-is : (b s : List ℕ) (m : Move) → stepped b s (Lifted m) ≡ lasts (written b (place m) (take (lift s m) s)) s (onward m (lift s m))
unfolding lift
lay-is b s m = step-lay b s m refl refl refl refl

module _ (page : ℕ) (b s p q : List ℕ) (m : Move) (ws : List Write) (t : Tells b m) where
  -- a run on what a step leaves
  follows : (st : State) {x : Lasts} {l' : Lasting} → stepped b s st ≡ x
      → Run ws (lasting x.block x.spare p q (words_of page x.state)) l' → Went page b s p q st ws l'
  follows st {x} {l'} e r =
      went (subst (λ (y : Lasts). Run ws (lasting y.block y.spare p q (words_of page y.state)) l') (sym e) r)

  direct-run : {l' : Lasting} → length s ≤ distance m
      → Run (to_block (place m) (take (hop m) (drop (source m) b)) ∷ to-record (words_of page (onward m (hop m))) ∷ ws)
      (lasting b s p q (words_of page (Moving m))) l' → Went page b s p q (Moving m) ws l'
  direct-run h (cut (cut-block {b' = b'} c)) = torn (cut-direct h (subst (λ (k : ℕ). Torn (place m) k b b') (hop-long b m t).0 c))
  direct-run h (on (cut cut_record)) =
      torn (cut-direct h (written-torn b (take (hop m) (drop (source m) b)) (place m) (hop m) (hop-long b m t).0 (hop-long b m t).1))
  direct-run h (on (on r)) = follows (Moving m) (direct_is b s m t h) r

  lift-run : {l' : Lasting} → distance m < length s
      → Run (to-spare 0 (take (lift s m) (drop (source m) b)) ∷ to-record (words_of page (Lifted m)) ∷ ws)
      (lasting b s p q (words_of page (Moving m))) l' → Went page b s p q (Moving m) ws l'
  lift-run d (cut (cut-spare {s' = s'} c)) = torn (cut-lift d (subst (λ (k : ℕ). Torn 0 k s s') (lift-long b s m t d).0 c))
  lift-run d (on (cut cut_record)) =
      torn (cut-lift d (written-torn s (take (lift s m) (drop (source m) b)) 0 (lift s m) (lift-long b s m t d).0
      (lift-long b s m t d).1))
  lift-run d (on (on r)) = follows (Moving m) (lift-is b s m t d) r

  lay-run : {l' : Lasting} → distance m < length s
      → Run (to_block (place m) (take (lift s m) s) ∷ to-record (words_of page (onward m (lift s m))) ∷ ws)
      (lasting b s p q (words_of page (Lifted m))) l' → Went page b s p q (Lifted m) ws l'
  lay-run d (cut (cut-block {b' = b'} c)) = torn (cut-lay (subst (λ (k : ℕ). Torn (place m) k b b') (lay-long b s m t d).0 c))
  lay-run d (on (cut cut_record)) =
      torn (cut-lay (written-torn b (take (lift s m) s) (place m) (lift s m) (lay-long b s m t d).0 (lay-long b s m t d).1))
  lay-run d (on (on r)) = follows (Lifted m) (lay-is b s m) r

pub one-step : (page : ℕ) (b s p q : List ℕ) (st : State) (ws : List Write) {l' : Lasting} → Sane b s st
    → Run (step_writes page b s st ++ ws) (lasting b s p q (words_of page st)) l' → Went page b s p q st ws l'
unfolding step_writes stepped
one-step page b s p q Still ws z r = went r
one-step page b s p q (Moving m) ws {l'} (sane-moving t) r = go (direct s m) refl
  where
    go : (x : Bool) → direct s m ≡ x → Went page b s p q (Moving m) ws l'
    go true e = direct-run page b s p q m ws t (leb-true (length s) (distance m) e) (rw e at r)
    go false e = lift-run page b s p q m ws t (leb-false (length s) (distance m) e) (rw e at r)
one-step page b s p q (Lifted m) ws (sane-lifted t d) r = lay-run page b s p q m ws t d r

-- a step that was cut stands for the same store; where it was not, by what follows
bears-went : {size page : ℕ} {K : List Kept} {N : List Note} {rows : List Row} (b s p q : List ℕ) (st : State) (ws : List Write)
    {l' : Lasting}
    → Stands size K N page st rows (lasting b s p q (words_of page st))
    → (Run ws (lasting (stepped b s st).block (stepped b s st).spare p q (words_of page (stepped b s st).state)) l' → Bears size K N l')
    → Went page b s p q st ws l' → Bears size K N l'
bears-went b s p q st ws z f (torn c) = bears (stands-cut b s p q st z c)
bears-went b s p q st ws z f (went r) = f r

-- steps, cut in any write
pub steps-run : (n : ℕ) {size page : ℕ} {K : List Kept} {N : List Note} {rows : List Row} (l : Lasts) (p q : List ℕ) {l' : Lasting}
    → Stands size K N page l.state rows (lasting l.block l.spare p q (words_of page l.state))
    → Run (steps_writes n page l) (lasting l.block l.spare p q (words_of page l.state)) l' → Bears size K N l'
unfolding steps_writes
steps-run zero l p q z all = bears z
steps-run (suc n) {size} {page} {K} {N} {rows} l p q {l'} z r =
    bears-went l.block l.spare p q l.state (steps_writes n page (step l)) z
    (λ x. steps-run n (step l) p q (stands-step l.block l.spare p q l.state z) x)
    (one-step page l.block l.spare p q l.state (steps_writes n page (step l)) z.sane r)

-- made whole
one-made : (page : ℕ) (b s p q : List ℕ) (st : State) (ws : List Write) → Sane b s st
    → made_all (step_writes page b s st ++ ws) (lasting b s p q (words_of page st))
    ≡ made_all ws (lasting (stepped b s st).block (stepped b s st).spare p q (words_of page (stepped b s st).state))
unfolding step_writes made_all
one-made page b s p q Still ws z =
    ap (λ (x : Lasts). made_all ws (lasting x.block x.spare p q (words_of page x.state))) (sym (step-still b s refl))
one-made page b s p q (Moving m) ws (sane-moving t) = go (direct s m) refl
  where
    go : (x : Bool) → direct s m ≡ x → made_all (step_writes page b s (Moving m) ++ ws) (lasting b s p q (words_of page (Moving m)))
        ≡ made_all ws (lasting (stepped b s (Moving m)).block (stepped b s (Moving m)).spare p q
        (words_of page (stepped b s (Moving m)).state))
    go true e =
        rw e (ap (λ (x : Lasts). made_all ws (lasting x.block x.spare p q (words_of page x.state)))
        (sym (direct_is b s m t (leb-true (length s) (distance m) e))))
    go false e =
        rw e (ap (λ (x : Lasts). made_all ws (lasting x.block x.spare p q (words_of page x.state)))
        (sym (lift-is b s m t (leb-false (length s) (distance m) e))))
one-made page b s p q (Lifted m) ws (sane-lifted t d) =
    ap (λ (x : Lasts). made_all ws (lasting x.block x.spare p q (words_of page x.state))) (sym (lay-is b s m))

pub steps-made : (n page : ℕ) (l : Lasts) (p q : List ℕ) → Sane l.block l.spare l.state
    → made_all (steps_writes n page l) (lasting l.block l.spare p q (words_of page l.state))
    ≡ lasting (finish n l).block (finish n l).spare p q (words_of page (finish n l).state)
unfolding steps_writes finish made_all
steps-made zero page l p q z = refl
steps-made (suc n) page l p q z =
    one-made page l.block l.spare p q l.state (steps_writes n page (step l)) z
    ∙ steps-made n page (step l) p q (sane-step l.block l.spare l.state z)

-- the spare keeps its length
lifted-spare : (b s : List ℕ) (m : Move) → Tells b m → distance m < length s
    → length (written s 0 (take (lift s m) (drop (source m) b))) ≡ length s
lifted-spare b s m t h =
    let c = lift-long b s m t h in
    length-written s 0 (take (lift s m) (drop (source m) b)) (omega (arith, c.0, c.1))

step-spare : (b s : List ℕ) (st : State) → Sane b s st → length (stepped b s st).spare ≡ length s
step-spare b s Still z = ap (λ (x : Lasts). length x.spare) (step-still b s refl)
step-spare b s (Moving m) (sane-moving t) = go (direct s m) refl
  where
    go : (x : Bool) → direct s m ≡ x → length (stepped b s (Moving m)).spare ≡ length s
    go true e = ap (λ (x : Lasts). length x.spare) (direct_is b s m t (leb-true (length s) (distance m) e))
    go false e =
        let h = leb-false (length s) (distance m) e in
        ap (λ (x : Lasts). length x.spare) (lift-is b s m t h) ∙ lifted-spare b s m t h
step-spare b s (Lifted m) (sane-lifted t d) = ap (λ (x : Lasts). length x.spare) (lay-is b s m)

pub finish-spare : (n : ℕ) (l : Lasts) → Sane l.block l.spare l.state → length (finish n l).spare ≡ length l.spare
unfolding finish
finish-spare zero l z = refl
finish-spare (suc n) l z =
    finish-spare n (step l) (sane-step l.block l.spare l.state z) ∙ step-spare l.block l.spare l.state z
