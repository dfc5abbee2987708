-- What lasts stands for a store of greetings (`Stands`): steps until still leave it in the block, and its text is in the page that is then
-- in use. A step that is cut leaves it so (`stands-cut`), and so does a step (`stands-step`).
use Prim.Native.Nat.{ℕ, ◌-◌, ◌≤◌, min}
use mathlib.Core.Path.{◌≡◌, refl, sym, ap, subst}
use mathlib.Core.List.{List, []}
use mathlib.Core.Bool.{true}
use native.Mathlib.Omega.{arith}
use lib.ListN.{length}
use Rattle.store_rows.specs.declared.rows.Row.{Row}
use Rattle.store_rows.specs.Limits.{largest_block}
use Rattle.store_rows.specs.Rows.{Kept, contents}
use Rattle.store_rows.specs.Sane.{rising}
use Rattle.store_greeting.specs.Marks.{Note}
use Rattle.store_promises.proofs.Numbers.{Distinct}
use Rattle.store_moves.specs.declared.steps.State.{State}
use Rattle.store_moves.specs.declared.steps.State.TheVariants.{Still}
use Rattle.store_moves.specs.Moves.{stepped, Cut, Sane, sane-still, goal}
use Rattle.store_moves.specs.Record.{words_of, still_with}
use Rattle.store_moves.proofs.Moved.{goal-step, sane-step}
use Rattle.store_moves.proofs.Resumed.{sane-cut, goal-cut}
use Rattle.store_cut.specs.Lasting.{Lasting, lasting, page_in}
use Rattle.store_cut.specs.Writes.{text_of}

-- greetings in a block of a size: what they read, and their numbers
pub record Fine (size : ℕ) (K : List Kept) (b : List ℕ) (rows : List Row) : Type 0 where
  pub long : length b ≡ size
  pub few : length rows ≤ 32
  pub rises : rising 1 0 (min size largest_block) rows ≡ true
  pub apart : Distinct rows
  pub reads : contents b rows ≡ K

-- a page's text of these greetings: as it is saved; a fresh store's is empty, of a block of any size
pub data Says (size : ℕ) (rows : List Row) (notes : List Note) (text : List ℕ) : Type 0 where
  saved : text ≡ text_of size rows notes → Says size rows notes text
  empty : text ≡ [] → rows ≡ [] → notes ≡ [] → Says size rows notes text

-- the page in use while a move is under way is `page`; the text is in the other, which is in use when it is still
pub record Stands (size : ℕ) (K : List Kept) (N : List Note) (page : ℕ) (st : State) (rows : List Row) (l : Lasting) : Type 0 where
  pub small : page ≤ 1
  pub words : l.words ≡ words_of page st
  pub sane : Sane l.block l.spare st
  pub text : Says size rows N (page_in (1 - page) l)
  pub fine : Fine size K (goal l.block l.spare st) rows

-- some move, or none, and some rows
pub record Bears (size : ℕ) (K : List Kept) (N : List Note) (l : Lasting) : Type 0 where
  pub page : ℕ
  pub state : State
  pub rows : List Row
  pub stands : Stands size K N page state rows l

pub bears : {size page : ℕ} {K : List Kept} {N : List Note} {st : State} {rows : List Row} {l : Lasting} → Stands size K N page st rows l
    → Bears size K N l
bears {page = page} {st = st} {rows = rows} s = record { page = page; state = st; rows = rows; stands = s }

module _ {size page : ℕ} {K : List Kept} {N : List Note} {rows : List Row} (b s p q : List ℕ) (st : State) where
  -- a step that is cut
  pub stands-cut : {b' s' : List ℕ} → Stands size K N page st rows (lasting b s p q (words_of page st)) → Cut b s st b' s'
      → Stands size K N page st rows (lasting b' s' p q (words_of page st))
  stands-cut {b'} {s'} z c =
      record {
        small = z.small;
        words = refl;
        sane = sane-cut z.sane c;
        text = z.text;
        fine = rw (goal-cut z.sane c) z.fine;
      }

  -- a step
  pub stands-step : Stands size K N page st rows (lasting b s p q (words_of page st))
      → Stands size K N page (stepped b s st).state rows
      (lasting (stepped b s st).block (stepped b s st).spare p q (words_of page (stepped b s st).state))
  stands-step z =
      record {
        small = z.small;
        words = refl;
        sane = sane-step b s st z.sane;
        text = z.text;
        fine = rw (goal-step b s st z.sane) z.fine;
      }

-- at rest
pub rests : {size page : ℕ} {K : List Kept} {N : List Note} {rows : List Row} (b s p q : List ℕ) → page ≤ 1
    → Says size rows N (page_in page (lasting b s p q (still_with page))) → Fine size K b rows
    → Stands size K N (1 - page) Still rows (lasting b s p q (still_with page))
unfolding words_of goal
rests {size} {page} {K} {N} {rows} b s p q h e f =
    let z : 1 - (1 - page) ≡ page = omega arith in
    record {
      small = omega arith;
      words = ap (λ (k : ℕ). still_with k) (sym z);
      sane = sane-still;
      text = subst (λ (k : ℕ). Says size rows N (page_in k (lasting b s p q (still_with page)))) (sym z) e;
      fine = f;
    }
