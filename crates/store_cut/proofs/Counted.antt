-- How many writes a move asks for: a chunk has as many octets as the distance or the spare has, whichever is more, but for the last one
-- (`chunks-enough`). Directly it is two writes a chunk, octets and record (`direct-few`); through the spare four (`spare-few`). With the
-- text and the record before them: `move-few`. All moves, and a put with its octets, text and record: `closing-few`, `put-few`.
use Prim.Native.Nat.{ℕ, zero, suc, ◌+◌, ◌-◌, ◌*◌, ◌/◌, ◌≤◌, ◌<◌}
use mathlib.Core.Path.{◌≡◌, refl, sym, ap, subst, ◌∙◌}
use mathlib.Core.List.{List, []}
use mathlib.Core.Bool.{Bool, true, false, cond}
use native.Mathlib.Omega.{arith}
use native.Mathlib.Nat.{zero-mul, suc-mul, mod-lt, div-add-mod'}
use lib.ListN.{length, take, drop, length-append}
use lib.Dec.{leb}
use borrow.Author.Tests.{le-leb, lt-leb, leb-true, leb-false}
use Rattle.store_rows.specs.declared.rows.Row.{Row}
use Rattle.std.specs.Prelude.{Option, Some, None}
use Rattle.store_rows.specs.Rows.{Kept}
use Rattle.store_rows.specs.Changed.{nth, written}
use Rattle.store_greeting.specs.Marks.{Note}
use Rattle.store.specs.Store.{leaves, After}
use Rattle.store.specs.Calls.{put_of}
use Rattle.store_promises.specs.Told.{Store, rows_in, notes_for}
use Rattle.store_promises.proofs.Contents.{length-written}
use Rattle.store_promises.proofs.Promises.{Keeps}
use Rattle.store_moves.specs.declared.steps.Move.{Move}
use Rattle.store_moves.specs.declared.steps.State.{State}
use Rattle.store_moves.specs.declared.steps.State.TheVariants.{Still, Moving, Lifted}
use Rattle.store_moves.specs.Next.{next_of, moved_at}
use Rattle.store_moves.specs.Moves.{Lasts, lasts, distance, left, source, place, hop, lift, done_more, onward, stepped, Tells}
use Rattle.store_moves.proofs.Stepping.{onward-end, onward-more}
use Rattle.store_cut.specs.Lasting.{Lasting, Write}
use Rattle.store_cut.specs.Writes.{step_writes, steps_writes, begun, move_writes, closing_writes, put_writes}
use Rattle.store_cut.specs.Closing.{wider, chunks, closing_most}
use Rattle.store_cut.specs.Runs.{contents_of, putting_writes}
use Rattle.store_cut.proofs.Steps.{hop-long, lift-long, lay-long, direct_is, lift-is, lay-is}
use Rattle.store_cut.proofs.Cut.{Rests, Either, before, after, due-made, due-spare, due-tells, one, others}
use Rattle.store_cut.proofs.Puts.{put_order}

-- no writes where all is still
still-none : (n page : ℕ) (b s : List ℕ) → steps_writes n page (lasts b s Still) ≡ []
unfolding steps_writes step_writes stepped
still-none zero page b s = refl
still-none (suc n) page b s = still-none n page b s

-- after a chunk of k octets: none are left, or fewer by k
after-chunk : (n page most : ℕ) (b s : List ℕ) (m : Move) (k : ℕ)
    → (m.done + k < m.octets → length (steps_writes n page (lasts b s (Moving (done_more m k)))) ≤ most)
    → length (steps_writes n page (lasts b s (onward m k))) ≤ most
after-chunk n page most b s m k f = go (leb m.octets (m.done + k)) refl
  where
    go : (x : Bool) → leb m.octets (m.done + k) ≡ x → length (steps_writes n page (lasts b s (onward m k))) ≤ most
    go true e =
        let h = onward-end m k (leb-true m.octets (m.done + k) e) in
        let z : length (steps_writes n page (lasts b s (onward m k))) ≡ 0 =
        ap (λ (st : State). length (steps_writes n page (lasts b s st))) (sym h) ∙ ap length (still-none n page b s) in
        omega arith
    go false e =
        let h = leb-false m.octets (m.done + k) e in
        let z = ap (λ (st : State). length (steps_writes n page (lasts b s st))) (onward-more m k h) in
        omega (arith, z, f h)

hop-all : (m : Move) → m.done + hop m < m.octets → hop m ≡ distance m
unfolding hop
hop-all m h = omega arith

lift-all : (s : List ℕ) (m : Move) → m.done + lift s m < m.octets → lift s m ≡ length s
unfolding lift
lift-all s m h = omega arith

-- a step and what follows it
step-more : (n page : ℕ) (b s : List ℕ) (st : State) {x : Lasts} → stepped b s st ≡ x
    → length (steps_writes (suc n) page (lasts b s st)) ≡ length (step_writes page b s st) + length (steps_writes n page x)
unfolding steps_writes
step-more n page b s st e =
    length-append (step_writes page b s st) (steps_writes n page (stepped b s st))
    ∙ ap (λ (y : Lasts). length (step_writes page b s st) + length (steps_writes n page y)) e

direct-two : (page : ℕ) (b s : List ℕ) (m : Move) → length s ≤ distance m → length (step_writes page b s (Moving m)) ≡ 2
unfolding step_writes
direct-two page b s m h = rw (le-leb (length s) (distance m) h) refl

lift-two : (page : ℕ) (b s : List ℕ) (m : Move) → distance m < length s → length (step_writes page b s (Moving m)) ≡ 2
unfolding step_writes
lift-two page b s m h = rw (lt-leb (length s) (distance m) h) refl

lay-two : (page : ℕ) (b s : List ℕ) (m : Move) → length (step_writes page b s (Lifted m)) ≡ 2
unfolding step_writes
lay-two page b s m = refl

none_yet : (page : ℕ) (l : Lasts) → length (steps_writes 0 page l) ≡ 0
unfolding steps_writes
none_yet page l = refl

-- the record's move, some octets further
told-on : {b b' : List ℕ} {m : Move} (k : ℕ) → Tells b m → length b' ≡ length b → m.done + k < m.octets → Tells b' (done_more m k)
told-on k t e h = record { down = t.down; inside = omega (arith, t.inside); some = h }

-- lengths of block and spare after a chunk
hopped : (b : List ℕ) (m : Move) → Tells b m → length (written b (place m) (take (hop m) (drop (source m) b))) ≡ length b
hopped b m t =
    let c = hop-long b m t in
    length-written b (place m) (take (hop m) (drop (source m) b)) (omega (arith, c.0, c.1))

laid : (b s : List ℕ) (m : Move) → Tells b m → distance m < length s → length (written b (place m) (take (lift s m) s)) ≡ length b
laid b s m t h =
    let c = lay-long b s m t h in
    length-written b (place m) (take (lift s m) s) (omega (arith, c.0, c.1))

lifted : (b s : List ℕ) (m : Move) → Tells b m → distance m < length s
    → length (written s 0 (take (lift s m) (drop (source m) b))) ≡ length s
lifted b s m t h =
    let c = lift-long b s m t h in
    length-written s 0 (take (lift s m) (drop (source m) b)) (omega (arith, c.0, c.1))

-- ---- directly

pub direct-few : (k n page : ℕ) (b s : List ℕ) (m : Move) → Tells b m → length s ≤ distance m → left m ≤ k * distance m
    → length (steps_writes n page (lasts b s (Moving m))) ≤ 2 * k
direct-few k zero page b s m t h g = omega (arith, none_yet page (lasts b s (Moving m)))
direct-few zero (suc n) page b s m t h g = let o = t.some in absurd (omega (arith, zero-mul (distance m)))
direct-few (suc k) (suc n) page b s m t h g =
    let b' = written b (place m) (take (hop m) (drop (source m) b)) in
    let more = after-chunk n page (2 * k) b' s m (hop m)
    (λ q. direct-few k n page b' s (done_more m (hop m)) (told-on (hop m) t (hopped b m t) q) h
    (omega (arith, hop-all m q, suc-mul k (distance m)))) in
    omega (arith, step-more n page b s (Moving m) (direct_is b s m t h), direct-two page b s m h, more)

-- ---- through the spare

lay-few : (k n page : ℕ) (b s : List ℕ) (m : Move) → Tells b m → distance m < length s → left m ≤ suc k * length s
    → ((n : ℕ) (b' : List ℕ) (m' : Move) → Tells b' m' → distance m' < length s → left m' ≤ k * length s
    → length (steps_writes n page (lasts b' s (Moving m'))) ≤ 4 * k)
    → length (steps_writes n page (lasts b s (Lifted m))) ≤ 2 + 4 * k
lay-few k zero page b s m t h g f = omega (arith, none_yet page (lasts b s (Lifted m)))
lay-few k (suc n) page b s m t h g f =
    let b' = written b (place m) (take (lift s m) s) in
    let more = after-chunk n page (4 * k) b' s m (lift s m)
    (λ q. f n b' (done_more m (lift s m)) (told-on (lift s m) t (laid b s m t h) q) h
    (omega (arith, lift-all s m q, suc-mul k (length s)))) in
    omega (arith, step-more n page b s (Lifted m) (lay-is b s m), lay-two page b s m, more)

spare-turn : (k n page : ℕ) (b s : List ℕ) (m : Move) → Tells b m → distance m < length s → left m ≤ suc k * length s
    → ((n : ℕ) (b' s' : List ℕ) (m' : Move) → Tells b' m' → distance m' < length s' → left m' ≤ k * length s'
    → length (steps_writes n page (lasts b' s' (Moving m'))) ≤ 4 * k)
    → length (steps_writes n page (lasts b s (Moving m))) ≤ 4 * suc k
spare-turn k zero page b s m t h g f = omega (arith, none_yet page (lasts b s (Moving m)))
spare-turn k (suc n) page b s m t h g f =
    let s' = written s 0 (take (lift s m) (drop (source m) b)) in
    let e : length s' ≡ length s = lifted b s m t h in
    let more = lay-few k n page b s' m t (omega arith) (rw e g) (λ j b₁ m₁ t₁ h₁ g₁. f j b₁ s' m₁ t₁ h₁ g₁) in
    omega (arith, step-more n page b s (Moving m) (lift-is b s m t h), lift-two page b s m h, more)

pub spare-few : (k n page : ℕ) (b s : List ℕ) (m : Move) → Tells b m → distance m < length s → left m ≤ k * length s
    → length (steps_writes n page (lasts b s (Moving m))) ≤ 4 * k
spare-few zero n page b s m t h g = let o = t.some in absurd (omega (arith, zero-mul (length s)))
spare-few (suc k) n page b s m t h g = spare-turn k n page b s m t h g (λ j b₁ s₁ m₁ t₁ h₁ g₁. spare-few k j page b₁ s₁ m₁ t₁ h₁ g₁)

-- ---- of a whole move

-- so many chunks are enough: "n / max(distance, spare)", rounded up
pub chunks-enough : (n w : ℕ) → 1 ≤ w → n ≤ (n + w - 1) / w * w
chunks-enough n w h = omega (arith, div-add-mod' (n + w - 1) w, mod-lt (n + w - 1) {m = w} h)

pub move-few : (k page : ℕ) (l : Lasting) (r : Row) (to : ℕ) (rows : List Row) (notes : List Note) → Tells l.block (begun to r)
    → r.octets ≤ k * wider (r.start - to) (length l.spare) → length (move_writes page l r to rows notes) ≤ 2 + 4 * k
unfolding move_writes
move-few k page l r to rows notes t g = go (leb (length l.spare) (r.start - to)) refl g
  where
    go : (x : Bool) → leb (length l.spare) (r.start - to) ≡ x → r.octets ≤ k * cond x (r.start - to) (length l.spare)
        → length (move_writes page l r to rows notes) ≤ 2 + 4 * k
    go true e q =
        let f = direct-few k (2 * r.octets) page l.block l.spare (begun to r) t (leb-true (length l.spare) (r.start - to) e)
        (omega arith) in
        omega arith
    go false e q =
        let f = spare-few k (2 * r.octets) page l.block l.spare (begun to r) t (leb-false (length l.spare) (r.start - to) e)
        (omega arith) in
        omega arith

-- ---- of all moves, and of a put

wider-some : (d spare : ℕ) → 1 ≤ d → 1 ≤ wider d spare
wider-some d spare h = go (leb spare d) refl
  where
    go : (x : Bool) → leb spare d ≡ x → 1 ≤ cond x d spare
    go true e = h
    go false e = let k = leb-false spare d e in omega arith

few-step : (n : ℕ) {size page : ℕ} {K : List Kept} {N : List Note} {rows : List Row} {l : Lasting} (z : Rests size K N page rows l)
    (x : Option (ℕ × ℕ)) → x ≡ next_of rows
    → ((i at : ℕ) → Some (i, at) ≡ next_of rows
    → length (others n z i at) ≤ closing_most n (length l.spare) (moved_at i at rows) (next_of (moved_at i at rows)))
    → length (closing_writes (suc n) page l rows N x) ≤ closing_most (suc n) (length l.spare) rows x
unfolding closing_writes closing_most
few-step n z None e f = omega arith
few-step n {page = page} {N = N} {rows = rows} {l = l} z (Some (i, at)) e f =
    let t = due-tells z e in
    let r = nth i rows in
    let d : 1 ≤ r.start - at = omega (arith, t.down) in
    let w = wider (r.start - at) (length l.spare) in
    let few = move-few (chunks r.octets (r.start - at) (length l.spare)) page l r at (moved_at i at rows) N t
    (chunks-enough r.octets w (wider-some (r.start - at) (length l.spare) d)) in
    omega (arith, length-append (one n z i at) (others n z i at), few, f i at e)

pub closing-few : (n : ℕ) {size page : ℕ} {K : List Kept} {N : List Note} {rows : List Row} {l : Lasting} → Rests size K N page rows l
    → length (closing_writes n page l rows N (next_of rows)) ≤ closing_most n (length l.spare) rows (next_of rows)
unfolding closing_writes closing_most
closing-few zero z = omega arith
closing-few (suc n) {page = page} {N = N} {rows = rows} {l = l} z =
    few-step n z (next_of rows) refl (λ i at e.
    subst (λ (k : ℕ). length (others n z i at) ≤ closing_most n k (moved_at i at rows) (next_of (moved_at i at rows))) (due-spare z e)
    (closing-few n (due-made z e)))

moves-few : {size page : ℕ} {K : List Kept} {N : List Note} {rows : List Row} {l : Lasting} → Rests size K N page rows l → (ws : List Write)
    → Either (ws ≡ []) (ws ≡ closing_writes (length rows) page l rows N (next_of rows))
    → length ws ≤ closing_most (length rows) (length l.spare) rows (next_of rows)
moves-few z ws (before q) = omega (arith, ap length q)
moves-few {rows = rows} z ws (after q) = omega (arith, ap length q, closing-few (length rows) z)

-- a put: its moves, if any; then its octets, the text and the record
pub put-few : {size page : ℕ} {s : Store} {l : Lasting} (k : Keeps size s) (law x : ℕ) (xs : List ℕ)
    → (z : Rests size (contents_of s) (notes_for s) page (rows_in s) l) → s.block ≡ l.block → {a : After}
    → put_of s.block s.table law x xs ≡ leaves a
    → length (putting_writes l s law x xs (leaves a)) ≤ closing_most (length (rows_in s)) (length l.spare) (rows_in s) (next_of (rows_in s)) +
    3
put-few {size} {page} {s} {l} k law x xs z b e =
    let o = put_order k law x xs z b e in
    let last = put_writes o.last-page o.block-then o.rows_then (notes_for s) law x xs (Some (o.index, o.place)) in
    omega (arith, ap length o.is, length-append o.moves last, moves-few z o.moves o.moves-are)
