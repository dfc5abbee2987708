-- R-6: "A put takes the lowest gap that holds it; if none does, all greetings first close up from 0 in their order", of the answer that a
-- put gives: `put-placed`.
use Prim.Native.Nat.{ℕ, ◌+◌, ◌≤◌, ◌<◌}
use mathlib.Core.Path.{◌≡◌, refl}
use mathlib.Core.List.{List, [], ◌∷◌, ◌++◌}
use native.Mathlib.Omega.{arith}
use lib.ListN.{length}
use Rattle.store_rows.specs.declared.rows.Row.{Row}
use Rattle.std.specs.Prelude.{Option, Some, None}
use Rattle.store_rows.specs.Limits.{size_of}
use Rattle.store_rows.specs.Rows.{row_of, held}
use Rattle.store_rows.specs.Finding.{lowest_gap}
use Rattle.store_rows.specs.Cells.{rows_of}
use Rattle.store_rows.specs.Changed.{insert_at, written}
use Rattle.store_rows.specs.Closing.{closed_rows, closed_block, moved_from}
use Rattle.store_notes.specs.Cells.{notes_of}
use Rattle.store.specs.Store.{leaves, After, put_at}
use Rattle.store.specs.Calls.{put_of}
use Rattle.store_promises.specs.Kept.{Clear}
use Rattle.store_promises.proofs.Gaps.{Bounds}
use Rattle.store_promises.proofs.Granted.{put-granted, sane-rows, behind-all}
use Rattle.store_promises.proofs.Promises.{Lowest, put_lowest}

-- the start that it tells is clear and inside, and no lower place is; there the octets are written, and nothing moves
pub record InGap (b : List ℕ) (size : ℕ) (rows : List Row) (x : ℕ) (xs : List ℕ) (a : After) : Type 0 where
  pub clear : Clear a.first (length xs) rows
  pub inside : a.first + length xs ≤ size
  pub lowest : (p : ℕ) → p < a.first → Clear p (length xs) rows → ⊥
  pub block : a.block ≡ written b a.first xs
  pub place : ℕ
  pub among : a.rows ≡ insert_at place (row_of x a.first (length xs)) rows
  pub moved : a.second ≡ 0

-- or no place is clear and inside: all close up from 0 in their order, and the new one stands behind them
pub record Behind (b : List ℕ) (size : ℕ) (rows : List Row) (x : ℕ) (xs : List ℕ) (a : After) : Type 0 where
  pub nowhere : (p : ℕ) → Clear p (length xs) rows → p + length xs ≤ size → ⊥
  pub start : a.first ≡ held rows
  pub inside : a.first + length xs ≤ size
  pub block : a.block ≡ written (closed_block b rows) (held rows) xs
  pub closed : a.rows ≡ closed_rows 0 rows ++ (row_of x (held rows) (length xs) ∷ [])
  pub moved : a.second ≡ moved_from 0 rows

pub data Placed (b : List ℕ) (size : ℕ) (rows : List Row) (x : ℕ) (xs : List ℕ) (a : After) : Type 0 where
  in-gap : InGap b size rows x xs a → Placed b size rows x xs a
  behind : Behind b size rows x xs a → Placed b size rows x xs a

pub put-placed : (b t : List ℕ) (law x : ℕ) (xs : List ℕ) (a : After) → put_of b t law x xs ≡ leaves a
    → Placed b (size_of b) (rows_of t) x xs a
put-placed b t law x xs a e = go (lowest_gap (length xs) (size_of b) (rows_of t)) low.clear low.least (put-granted b t law x xs a e).is
  where
    low : Lowest (length xs) (size_of b) (rows_of t) (lowest_gap (length xs) (size_of b) (rows_of t))
    low = put_lowest b t law x xs a e

    go : (g : Option (ℕ × ℕ)) → ((i at : ℕ) → g ≡ Some (i, at) → Clear at (length xs) (rows_of t) × (at + length xs ≤ size_of b))
        → ((p : ℕ) → Clear p (length xs) (rows_of t) → p + length xs ≤ size_of b → Bounds p (length xs) (size_of b) g)
        → a ≡ put_at b (rows_of t) (notes_of t) law x xs g → Placed b (size_of b) (rows_of t) x xs a
    go (Some (i, at)) c l m =
        let inside = (c i at refl).1 in
        rw m (in-gap (record {
          clear = (c i at refl).0;
          inside = inside;
          lowest = λ p h q. let n = l p q (omega arith) in absurd (omega arith);
          block = refl;
          place = i;
          among = refl;
          moved = refl;
        }))
    go None c l m =
        let k = put-granted b t law x xs a e in
        let rows = rows_of t in
        rw m (behind (record {
          nowhere = λ p q h. let n = l p q h in absurd (omega arith);
          start = refl;
          inside = k.room;
          block = refl;
          closed = behind-all (size_of b) rows (row_of x (held rows) (length xs)) (sane-rows (size_of b) t k.sane).rises;
          moved = refl;
        }))
