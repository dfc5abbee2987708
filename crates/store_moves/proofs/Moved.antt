-- Steps until still make the move as a whole (`finish-whole`, `move-whole`).
use Prim.Native.Nat.{ℕ, zero, suc, ◌+◌, ◌-◌, ◌*◌, ◌≤◌, ◌<◌, min}
use mathlib.Core.Path.{◌≡◌, refl, sym, ap, ◌∙◌}
use mathlib.Core.List.{List, ◌++◌}
use mathlib.Core.Bool.{Bool, true, false}
use native.Mathlib.Omega.{arith}
use lib.ListN.{length, take, drop, length-drop}
use lib.Seq.{paste, paste-zero, length-paste, take-paste}
use lib.Dec.{leb}
use borrow.Author.Tests.{leb-true, leb-false}
use Rattle.store_rows.proofs.Hopping.{shift_rest}
use Rattle.store_rows.specs.Limits.{size_of}
use Rattle.store_moves.specs.declared.steps.Move.{Move}
use Rattle.store_moves.specs.declared.steps.State.{State}
use Rattle.store_moves.specs.declared.steps.State.TheVariants.{Still, Moving, Lifted}
use Rattle.store_moves.specs.Moves.{Lasts, lasts, distance, left, source, place, direct, hop, lift, done_more, onward, stepped, step}
use Rattle.store_moves.specs.Moves.{finish, ahead, Tells, Sane, sane-still, sane-moving, sane-lifted, rest, goal}

-- k octets moved down, then the others: all of them moved
parts : (b : List ℕ) (p q k n : ℕ) → p ≤ q → q + n ≤ length b → k ≤ n
    → paste (paste b p (drop q b) k) (p + k) (drop (q + k) (paste b p (drop q b) k)) (n - k) ≡ paste b p (drop q b) n
parts b p q k n h f g =
    let l = length-paste b p (drop q b) k (omega arith) (omega (arith, length-drop q b)) in shift_rest b q p n k refl l h f g refl

pub hop-some : (m : Move) → m.to < m.from → m.done < m.octets → (0 < hop m) × (hop m ≤ left m) × (hop m ≤ distance m)
unfolding hop
hop-some m h g = (omega arith, omega arith, omega arith)

pub lift-some : (s : List ℕ) (m : Move) → distance m < length s → m.done < m.octets
    → (0 < lift s m) × (lift s m ≤ left m) × (lift s m ≤ length s)
unfolding lift
lift-some s m h g = (omega arith, omega arith, omega arith)

-- one chunk moved, and the rest
rest-parts : {b : List ℕ} {m : Move} (k : ℕ) → Tells b m → k ≤ left m
    → rest (paste b (place m) (drop (source m) b) k) (done_more m k) ≡ rest b m
rest-parts {b} {m} k t h =
    let b' = paste b (place m) (drop (source m) b) k in
    let x : m.to + (m.done + k) ≡ place m + k = omega arith in
    let y : m.from + (m.done + k) ≡ source m + k = omega arith in
    let z : m.octets - (m.done + k) ≡ left m - k = omega arith in
    let d = t.down in
    let i = t.inside in
    let o = t.some in
    ap (λ (v : ℕ). paste b' v (drop (m.from + (m.done + k)) b') (m.octets - (m.done + k))) x
    ∙ ap (λ (v : ℕ). paste b' (place m + k) (drop v b') (m.octets - (m.done + k))) y
    ∙ ap (λ (v : ℕ). paste b' (place m + k) (drop (source m + k) b') v) z
    ∙ parts b (place m) (source m) k (left m) (omega arith) (omega arith) h

-- where all is done there is no rest
goal-onward : (b s : List ℕ) (m : Move) (k : ℕ) → goal b s (onward m k) ≡ rest b (done_more m k)
unfolding goal onward
goal-onward b s m k = go (leb m.octets (m.done + k)) refl
  where
    go : (x : Bool) → leb m.octets (m.done + k) ≡ x → goal b s (onward m k) ≡ rest b (done_more m k)
    go true e =
        let h = leb-true m.octets (m.done + k) e in
        let z : m.octets - (m.done + k) ≡ 0 = omega arith in
        rw (e, z) (paste-zero b (m.to + (m.done + k)) (drop (m.from + (m.done + k)) b))
    go false e = rw e refl

-- the spare with the chunk in it
lifted-length : {b : List ℕ} (s : List ℕ) {m : Move} → Tells b m → distance m < length s
    → length (paste s 0 (drop (source m) b) (lift s m)) ≡ length s
lifted-length {b} s {m} t h =
    let g = lift-some s m h t.some in
    let i = t.inside in
    let o = t.some in
    length-paste s 0 (drop (source m) b) (lift s m) (omega (arith, g)) (omega (arith, g, length-drop (source m) b))

same-lift : (s s' : List ℕ) (m : Move) → length s' ≡ length s → lift s' m ≡ lift s m
unfolding lift
same-lift s s' m e = ap (λ (x : ℕ). min (left m) x) e

lifted-chunk : {b : List ℕ} (s : List ℕ) {m : Move} → Tells b m → distance m < length s
    → take (lift s m) (paste s 0 (drop (source m) b) (lift s m)) ≡ take (lift s m) (drop (source m) b)
lifted-chunk {b} s {m} t h =
    let g = lift-some s m h t.some in
    let i = t.inside in
    let o = t.some in
    let src = drop (source m) b in
    let z : 0 + lift s m ≡ lift s m = omega arith in
    ap (λ (x : ℕ). take x (paste s 0 src (lift s m))) (sym z)
    ∙ take-paste s 0 src (lift s m) (omega arith) (omega (arith, g, length-drop (source m) b))

goal-lifted : {b : List ℕ} (s : List ℕ) {m : Move} → Tells b m → distance m < length s
    → goal b (paste s 0 (drop (source m) b) (lift s m)) (Lifted m) ≡ rest b m
unfolding goal
goal-lifted {b} s {m} t h =
    let k = lift s m in
    let src = drop (source m) b in
    let s' = paste s 0 src k in
    let g = lift-some s m h t.some in
    rw (same-lift s s' m (lifted-length s t h))
    (ap (λ (x : List ℕ). rest (take (place m) b ++ x ++ drop (place m + k) b) (done_more m k)) (lifted-chunk s t h)
    ∙ rest-parts k t g.1)

-- a step leaves the goal where it was
pub goal-step : (b s : List ℕ) (st : State) → Sane b s st
    → goal (stepped b s st).block (stepped b s st).spare (stepped b s st).state ≡ goal b s st
unfolding stepped goal
goal-step b s Still h = refl
goal-step b s (Moving m) (sane-moving t) = go (direct s m) refl
  where
    go : (x : Bool) → direct s m ≡ x
        → goal (stepped b s (Moving m)).block (stepped b s (Moving m)).spare (stepped b s (Moving m)).state ≡ rest b m
    go true e =
        let k = hop m in
        rw e (goal-onward (paste b (place m) (drop (source m) b) k) s m k ∙ rest-parts k t (hop-some m t.down t.some).1)
    go false e = rw e (goal-lifted s t (leb-false (length s) (distance m) e))
goal-step b s (Lifted m) (sane-lifted t d) = goal-onward (paste b (place m) s (lift s m)) s m (lift s m)

-- at the start the goal is the move as a whole
pub start-whole : (b s : List ℕ) (from to octets : ℕ)
    → goal b s (Moving (record { from = from; to = to; octets = octets; done = 0 })) ≡ paste b to (drop from b) octets
unfolding goal
start-whole b s from to octets =
    let x : to + 0 ≡ to = omega arith in
    let y : from + 0 ≡ from = omega arith in
    let z : octets - 0 ≡ octets = omega arith in
    ap (λ (v : ℕ). paste b v (drop (from + 0) b) (octets - 0)) x ∙ ap (λ (v : ℕ). paste b to (drop v b) (octets - 0)) y
    ∙ ap (λ (v : ℕ). paste b to (drop from b) v) z

-- ---- a step keeps the record's sense, and brings the end nearer

sane-onward : {b b' : List ℕ} (s : List ℕ) {m : Move} (k : ℕ) → Tells b m → length b' ≡ length b → Sane b' s (onward m k)
unfolding onward
sane-onward {b} {b'} s {m} k t l = go (leb m.octets (m.done + k)) refl
  where
    go : (x : Bool) → leb m.octets (m.done + k) ≡ x → Sane b' s (onward m k)
    go true e = rw e sane-still
    go false e =
        let h = leb-false m.octets (m.done + k) e in
        rw e (sane-moving {m = done_more m k} (record { down = t.down; inside = omega (arith, t.inside); some = h }))

pub hopped-length : {b : List ℕ} {m : Move} (k : ℕ) → Tells b m → k ≤ left m
    → length (paste b (place m) (drop (source m) b) k) ≡ length b
hopped-length {b} {m} k t h =
    let d = t.down in
    let i = t.inside in
    let o = t.some in
    length-paste b (place m) (drop (source m) b) k (omega arith) (omega (arith, length-drop (source m) b))

pub laid-length : {b : List ℕ} (s : List ℕ) {m : Move} → Tells b m → distance m < length s
    → length (paste b (place m) s (lift s m)) ≡ length b
laid-length {b} s {m} t h =
    let d = t.down in
    let i = t.inside in
    let o = t.some in
    let g = lift-some s m h o in
    length-paste b (place m) s (lift s m) (omega (arith, g)) g.2

pub sane-step : (b s : List ℕ) (st : State) → Sane b s st
    → Sane (stepped b s st).block (stepped b s st).spare (stepped b s st).state
unfolding stepped
sane-step b s Still h = sane-still
sane-step b s (Moving m) (sane-moving t) = go (direct s m) refl
  where
    go : (x : Bool) → direct s m ≡ x
        → Sane (stepped b s (Moving m)).block (stepped b s (Moving m)).spare (stepped b s (Moving m)).state
    go true e = rw e (sane-onward s (hop m) t (hopped-length (hop m) t (hop-some m t.down t.some).1))
    go false e =
        let h = leb-false (length s) (distance m) e in
        rw e (sane-lifted t (omega (arith, lifted-length s t h)))
sane-step b s (Lifted m) (sane-lifted t d) = sane-onward s (lift s m) t (laid-length s t d)

ahead-onward : (m : Move) (k : ℕ) → 0 < k → k ≤ left m → ahead (onward m k) + 2 ≤ 2 * left m
unfolding ahead onward
ahead-onward m k h g = go (leb m.octets (m.done + k)) refl
  where
    go : (x : Bool) → leb m.octets (m.done + k) ≡ x → ahead (onward m k) + 2 ≤ 2 * left m
    go true e = rw e (omega arith)
    go false e = rw e (omega arith)

pub ahead_step : (b s : List ℕ) (st : State) → Sane b s st → ahead (stepped b s st).state ≤ ahead st - 1
unfolding stepped ahead
ahead_step b s Still h = omega arith
ahead_step b s (Moving m) (sane-moving t) = go (direct s m) refl
  where
    go : (x : Bool) → direct s m ≡ x → ahead (stepped b s (Moving m)).state ≤ 2 * left m - 1
    go true e =
        let g = hop-some m t.down t.some in
        rw e (omega (arith, ahead-onward m (hop m) g.0 g.1))
    go false e = rw e (omega arith)
ahead_step b s (Lifted m) (sane-lifted t d) =
    let g = lift-some s m d t.some in
    omega (arith, ahead-onward m (lift s m) g.0 g.1)

-- ---- steps until Still

pub record Whole (l k : Lasts) : Type 0 where
  pub block : k.block ≡ goal l.block l.spare l.state
  pub ended : k.state ≡ Still

none_ahead : (b s : List ℕ) (st : State) → Sane b s st → ahead st ≤ 0 → st ≡ Still
unfolding ahead
none_ahead b s Still h g = refl
none_ahead b s (Moving m) (sane-moving t) g = let o = t.some in absurd (omega arith)
none_ahead b s (Lifted m) (sane-lifted t d) g = let o = t.some in absurd (omega arith)

-- from wherever the move stands
pub finish-whole : (n : ℕ) (l : Lasts) → Sane l.block l.spare l.state → ahead l.state ≤ n → Whole l (finish n l)
unfolding finish goal
finish-whole zero l h g =
    let e = none_ahead l.block l.spare l.state h g in
    record { block = ap (λ (x : State). goal l.block l.spare x) (sym e); ended = e }
finish-whole (suc n) l h g =
    let b = l.block in
    let s = l.spare in
    let st = l.state in
    let w = finish-whole n (step l) (sane-step b s st h) (omega (arith, ahead_step b s st h)) in
    record { block = w.block ∙ goal-step b s st h; ended = w.ended }

-- from the start
pub move-whole : (n : ℕ) (b s : List ℕ) (from to octets : ℕ) → to < from → from + octets ≤ size_of b → 0 < octets → 2 * octets ≤ n
    → (finish n (lasts b s (Moving (record { from = from; to = to; octets = octets; done = 0 })))).block ≡ paste b to (drop from b) octets
unfolding goal ahead
move-whole n b s from to octets h f g e =
    let m : Move = record { from = from; to = to; octets = octets; done = 0 } in
    let w = finish-whole n (lasts b s (Moving m)) (sane-moving (record { down = h; inside = f; some = g })) (omega arith) in
    w.block ∙ start-whole b s from to octets
