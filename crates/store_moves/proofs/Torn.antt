-- A step that was cut, made again, leaves what it would have left (`direct-again`, `lift-again`, `lay-again`; `again`).
use Prim.Native.Nat.{ℕ, ◌+◌, ◌≤◌, ◌<◌}
use mathlib.Core.Path.{◌≡◌, ap, ◌∙◌}
use mathlib.Core.List.{List, ◌++◌}
use native.Mathlib.Omega.{arith}
use lib.ListN.{length, take, drop}
use lib.Seq.{paste}
use borrow.Author.Tests.{le-leb, lt-leb}
use Rattle.store_rows.proofs.Lists.{same_drop}
use Rattle.store_moves.specs.declared.steps.Move.{Move}
use Rattle.store_moves.specs.declared.steps.State.TheVariants.{Moving, Lifted}
use Rattle.store_moves.specs.Moves.{lasts, distance, source, place, hop, lift, onward, stepped, Torn}

-- the same octets, laid over what is torn there
pub laid-again : {at n : ℕ} {b b' : List ℕ} (xs : List ℕ) → Torn at n b b' → paste b' at xs n ≡ paste b at xs n
laid-again {at} {n} {b} {b'} xs t =
    ap (λ (x : List ℕ). x ++ take n xs ++ drop (at + n) b') t.before ∙ ap (λ (x : List ℕ). take at b ++ take n xs ++ x) t.behind

-- the octets' old place begins behind what is torn
pub hop-again : {at n : ℕ} {b b' : List ℕ} (from : ℕ) → at + n ≤ from → Torn at n b b'
    → paste b' at (drop from b') n ≡ paste b at (drop from b) n
hop-again {at} {n} {b} {b'} from h t =
    ap (λ (x : List ℕ). take at b' ++ take n x ++ drop (at + n) b') (same_drop (at + n) from b' b t.behind h)
    ∙ laid-again (drop from b) t

hop-least : (m : Move) → hop m ≤ distance m
unfolding hop
hop-least m = omega arith

-- (a) octets that go directly
pub direct-again : {b b' : List ℕ} (s : List ℕ) (m : Move) → m.to < m.from → length s ≤ distance m → Torn (place m) (hop m) b b'
    → stepped b' s (Moving m) ≡ stepped b s (Moving m)
unfolding stepped
direct-again {b} {b'} s m d h t =
    rw (le-leb (length s) (distance m) h)
    (ap (λ (x : List ℕ). lasts x s (onward m (hop m))) (hop-again (source m) (omega (arith, hop-least m)) t))

-- (b) octets that go into the spare
pub lift-again : {s s' : List ℕ} (b : List ℕ) (m : Move) → distance m < length s → Torn 0 (lift s m) s s'
    → stepped b s' (Moving m) ≡ stepped b s (Moving m)
unfolding stepped lift
lift-again {s} {s'} b m h t =
    rw (t.size, lt-leb (length s) (distance m) h)
    (ap (λ (x : List ℕ). lasts b x (Lifted m)) (laid-again (drop (source m) b) t))

-- (b) octets that go out of it
pub lay-again : {b b' : List ℕ} (s : List ℕ) (m : Move) → Torn (place m) (lift s m) b b'
    → stepped b' s (Lifted m) ≡ stepped b s (Lifted m)
unfolding stepped
lay-again {b} {b'} s m t = ap (λ (x : List ℕ). lasts x s (onward m (lift s m))) (laid-again s t)
