-- A move down within one block, chunk by chunk, with a spare: what a step leaves, what a cut may leave of it, and the block in the end.
use Rattle.std.specs.Prelude.{ℕ, zero, suc, ◌+◌, ◌-◌, ◌*◌, ◌≤◌, ◌<◌, min, ◌≡◌, List, Bool, cond, length, take, drop, leb}
use Rattle.std.proofs.Math.Seq.{paste}
use Rattle.store_rows.specs.Limits.{size_of}
use Rattle.store_moves.specs.declared.steps.Move.{Move}
use Rattle.store_moves.specs.declared.steps.State.{State}
use Rattle.store_moves.specs.declared.steps.State.TheVariants.{Still, Moving, Lifted}

-- block, spare, and what the record tells
pub record Lasts : Type 0 where
  pub block : List ℕ
  pub spare : List ℕ
  pub state : State

abbrev pub lasts : List ℕ → List ℕ → State → Lasts
lasts b s st = record { block = b; spare = s; state = st }

-- "distance d = from − to, left = octets − done"
abbrev pub distance : Move → ℕ
distance m = m.from - m.to

abbrev pub left : Move → ℕ
left m = m.octets - m.done

-- where the next octets lie, and where they go: "from `from + done` to `to + done`"
abbrev pub source : Move → ℕ
source m = m.from + m.done

abbrev pub place : Move → ℕ
place m = m.to + m.done

-- "where d ≥ the spare's length" they go directly
abbrev pub direct : List ℕ → Move → Bool
direct s m = leb (length s) (distance m)

-- the next chunk: "min(left, d)" directly, "min(left, spare)" through the spare
unfoldable pub hop : Move → ℕ
hop m = min (left m) (distance m)

unfoldable pub lift : List ℕ → Move → ℕ
lift s m = min (left m) (length s)

abbrev pub done_more : Move → ℕ → Move
done_more m k = record { from = m.from; to = m.to; octets = m.octets; done = m.done + k }

-- "`done` grows"; "where `done` reaches `octets`, `next` is still"
unfoldable pub onward : Move → ℕ → State
onward m k = cond (leb m.octets (m.done + k)) Still (Moving (done_more m k))

-- a step: octets go directly, or into the spare, or out of it
unfoldable pub stepped : List ℕ → List ℕ → State → Lasts
stepped b s Still = lasts b s Still
stepped b s (Moving m) =
    cond (direct s m)
    (lasts (paste b (place m) (drop (source m) b) (hop m)) s (onward m (hop m)))
    (lasts b (paste s 0 (drop (source m) b) (lift s m)) (Lifted m))
stepped b s (Lifted m) = lasts (paste b (place m) s (lift s m)) s (onward m (lift s m))

abbrev pub step : Lasts → Lasts
step l = stepped l.block l.spare l.state

-- steps until still, where the fuel is enough (`ahead`)
unfoldable pub finish : ℕ → Lasts → Lasts
finish zero l = l
finish (suc n) l = finish n (step l)

-- the steps that are ahead, at most
unfoldable pub ahead : State → ℕ
ahead Still = 0
ahead (Moving m) = 2 * left m
ahead (Lifted m) = 2 * left m - 1

-- b' is b but for anything in [at, at + n)
pub record Torn (at n : ℕ) (b b' : List ℕ) : Type 0 where
  pub before : take at b' ≡ take at b
  pub behind : drop (at + n) b' ≡ drop (at + n) b
  pub size : length b' ≡ length b

-- what a step that is cut may leave: "any other write may be cut anywhere and leave anything in the octets that it covers"; the record is
-- the old one
pub data Cut (b s : List ℕ) : State → List ℕ → List ℕ → Type 0 where
  cut-direct : {m : Move} {b' : List ℕ} → length s ≤ distance m → Torn (place m) (hop m) b b' → Cut b s (Moving m) b' s
  cut-lift : {m : Move} {s' : List ℕ} → distance m < length s → Torn 0 (lift s m) s s' → Cut b s (Moving m) b s'
  cut-lay : {m : Move} {b' : List ℕ} → Torn (place m) (lift s m) b b' → Cut b s (Lifted m) b' s

-- the record tells of a move in this block
pub record Tells (b : List ℕ) (m : Move) : Type 0 where
  pub down : m.to < m.from
  pub inside : m.from + m.octets ≤ size_of b
  pub some : m.done < m.octets

pub data Sane (b s : List ℕ) : State → Type 0 where
  sane-still : Sane b s Still
  sane-moving : {m : Move} → Tells b m → Sane b s (Moving m)
  sane-lifted : {m : Move} → Tells b m → distance m < length s → Sane b s (Lifted m)

-- the octets that are not done, moved all at once
abbrev pub rest : List ℕ → Move → List ℕ
rest b m = paste b (place m) (drop (source m) b) (left m)

-- the block that a move, wherever it stands, is to leave
unfoldable pub goal : List ℕ → List ℕ → State → List ℕ
goal b s Still = b
goal b s (Moving m) = rest b m
goal b s (Lifted m) = rest (paste b (place m) s (lift s m)) (done_more m (lift s m))

-- all that cuts and starts can come to: steps, and steps that are cut, in any order
pub data Reached (l : Lasts) : Lasts → Type 0 where
  here : Reached l l
  one-step : {k : Lasts} → Reached l k → Reached l (step k)
  one-cut : {k : Lasts} {b' s' : List ℕ} → Reached l k → Cut k.block k.spare k.state b' s' → Reached l (lasts b' s' k.state)
