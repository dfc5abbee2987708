-- A put as one order of writes: `try`, moves until `next` has none where it reports octets moved, `put`, the text, the record.
--   `put-writes-cut`: cut anywhere it stands for the store before the put or the one after it.
--   `put-writes-made`: with no cut it leaves what g7110_store_put alone leaves, every octet of the block.
--   `put-tells`: the start that the last `put` reports, and the moves' sum, are what g7110_store_put alone tells.
use Prim.Native.Nat.{ℕ, ◌+◌, ◌≤◌, ◌<◌, min}
use mathlib.Core.Path.{◌≡◌, refl, sym, ap, subst, ◌∙◌}
use mathlib.Core.List.{List, [], ◌++◌}
use mathlib.Core.Bool.{true}
use native.Mathlib.Omega.{arith}
use lib.ListN.{length, get_or}
use borrow.Author.Tests.{ne_eqb, leb-true}
use Rattle.rules.specs.Tools.{most_law}
use Rattle.store_rows.specs.declared.rows.Row.{Row}
use Rattle.std.specs.Prelude.{Option, Some, None}
use Rattle.store_rows.specs.Limits.{largest_block, size_of}
use Rattle.store_rows.specs.Rows.{held, Kept, contents}
use Rattle.store_rows.specs.Finding.{absent, lowest_gap}
use Rattle.store_rows.specs.Cells.{rows_of}
use Rattle.store_rows.specs.Closing.{closed_rows, closed_block, moved_from}
use Rattle.store_rows.proofs.Closed.{length-closed}
use Rattle.store_greeting.specs.Marks.{Note}
use Rattle.store_notes.specs.Cells.{notes_of}
use Rattle.store.specs.declared.Refusal.{Refusal}
use Rattle.std.specs.Prelude.{Ok}
use Rattle.store.specs.Store.{Outcome, leaves, refused, After, put_at, put_in}
use Rattle.store.specs.Calls.{Answer, first_of, answer_of, put_of, block_after, table_after}
use Rattle.store_promises.specs.Told.{putting, Store, rows_in, notes_for, see}
use Rattle.store_promises.proofs.Rising.{held-closed}
use Rattle.store_promises.proofs.Numbers.{fresh-of, absent-of, fresh-closed}
use Rattle.store_promises.proofs.Granted.{Granted, sane-rows, put-granted, good-some}
use Rattle.store_promises.proofs.Promises.{Keeps}
use Rattle.store_moves.specs.Record.{page_of}
use Rattle.store_moves.specs.Next.{next_of}
use Rattle.store_moves.specs.Steps.{gap_tells}
use Rattle.store_moves.proofs.Calling.{tried-put, tried-fits}
use Rattle.store_cut.specs.Lasting.{Lasting, Write, made_all, Run, all}
use Rattle.store_cut.specs.Writes.{closing_writes, put_writes}
use Rattle.store_cut.specs.Closing.{closing_rows}
use Rattle.store_cut.specs.Runs.{contents_of, closes_up, rows_then_by, sum_then, last_put, put_then, put_by, putting_writes, put_tells, Alike}
use Rattle.store_cut.proofs.Stands.{Bears}
use Rattle.store_cut.proofs.Cut.{Rests, rests-bears, Either, before, after, Ends, closing-made, closing_then, made-append}
use Rattle.store_cut.proofs.Closing.{moves-close, apart-few, closing-block, closed-gap, unmoved}
use Rattle.store_cut.proofs.Calls.{Laid, laid-gap, laid-behind, Made, last-cut, last_made}

pub page-of : {size page : ℕ} {K : List Kept} {N : List Note} {rows : List Row} {l : Lasting} → Rests size K N page rows l
    → page_of l.words ≡ page
page-of z = ap (λ (w : List ℕ). get_or w 0 0) z.words

no_gap : {A : Type 0} {i at : ℕ} → ◌≡◌ {A = Option (ℕ × ℕ)} (Some (i, at)) None → A
no_gap e = let z : ◌≡◌ {A = ℕ} 0 1 = cc in absurd (omega arith)

-- the order of writes of a put that is accepted
pub record Order (size page : ℕ) (s : Store) (l : Lasting) (law x : ℕ) (xs : List ℕ) (ws : List Write) : Type 0 where
  pub moves : List Write
  pub last-page : ℕ
  pub rows_then : List Row
  pub block-then : List ℕ
  pub index : ℕ
  pub place : ℕ
  pub is : ws ≡ moves ++ put_writes last-page block-then rows_then (notes_for s) law x xs (Some (index, place))
  pub laid : Laid law x xs s block-then rows_then index place
  pub long : length block-then ≡ size
  pub moves-are : Either (moves ≡ []) (moves ≡ closing_writes (length (rows_in s)) page l (rows_in s) (notes_for s) (next_of (rows_in s)))

module _ {size page : ℕ} {s : Store} {l : Lasting} (k : Keeps size s) (law x : ℕ) (xs : List ℕ)
    (z : Rests size (contents_of s) (notes_for s) page (rows_in s) l) (b : s.block ≡ l.block) {a : After}
    (e : put_of s.block s.table law x xs ≡ leaves a) where
  abbrev rows : List Row
  rows = rows_in s

  abbrev next : Store
  next = see (putting law x xs) s

  granted : Granted s.block s.table law x xs a
  granted = put-granted s.block s.table law x xs a e

  some : 1 ≤ length xs
  some = good-some law xs granted.good

  sized : min size largest_block ≡ size_of s.block
  sized = ap (λ (y : ℕ). min y largest_block) (sym k.long)

  -- ---- a gap is found
  module _ {i at : ℕ} (g : Some (i, at) ≡ lowest_gap (length xs) (size_of s.block) rows) where
    gap : Some (i, at) ≡ lowest_gap (length xs) (min size largest_block) rows
    gap = subst (λ (y : ℕ). Some (i, at) ≡ lowest_gap (length xs) y rows) (sym sized) g

    none-moved : a.second ≡ 0
    none-moved =
        ap (λ (y : After). y.second) granted.is
        ∙ ap (λ (d : Option (ℕ × ℕ)). (put_at s.block rows (notes_for s) law x xs d).second) (sym g)

    here : Laid law x xs s l.block rows i at
    here = subst (λ (y : List ℕ). Laid law x xs s y rows i at) b (laid-gap law x xs e g)

    gap-writes : putting_writes l s law x xs (leaves a) ≡ put_writes page l.block rows (notes_for s) law x xs (Some (i, at))
    unfolding putting_writes put_by closes_up rows_then_by put_then made_all
    gap-writes =
        ap (λ (m : ℕ). put_by m l rows (notes_for s) law x xs) none-moved
        ∙ ap (λ (p : ℕ). put_writes p l.block rows (notes_for s) law x xs (lowest_gap (length xs) (size_of l.block) rows)) (page-of z)
        ∙ ap (λ (d : Option (ℕ × ℕ)). put_writes page l.block rows (notes_for s) law x xs d)
        (sym (subst (λ (y : List ℕ). Some (i, at) ≡ lowest_gap (length xs) (size_of y) rows) b g))

    gap-cut : {l' : Lasting} → Run (putting_writes l s law x xs (leaves a)) l l'
        → Either (Bears size (contents_of s) (notes_for s) l') (Bears size (contents_of next) (notes_for next) l')
    gap-cut {l'} r = last-cut k law x xs z gap here (subst (λ (ws : List Write). Run ws l l') gap-writes r)

    gap-made : Made size next (made_all (putting_writes l s law x xs (leaves a)) l)
    gap-made = subst (λ (ws : List Write). Made size next (made_all ws l)) (sym gap-writes) (last_made k law x xs z gap here)

    gap-tells : put_tells l s law x xs (leaves a) ≡ Ok (a.first, a.second)
    unfolding last_put closes_up rows_then_by sum_then made_all
    gap-tells =
        let in_block : put_in s.block (size_of s.block) rows (notes_for s) law x xs ≡ leaves a = rw granted.sane at e in
        let same = subst (λ (y : List ℕ). put_in y (size_of y) rows (notes_for s) law x xs ≡ leaves a) b in_block in
        ap {B = Answer} (λ (m : ℕ). Ok (first_of (last_put m l rows (notes_for s) law x xs), sum_then m rows)) none-moved
        ∙ ap {B = Answer} (λ (o : Outcome). Ok (first_of (answer_of o), 0)) same ∙ ap {B = Answer} (λ (m : ℕ). Ok (a.first, m)) (sym none-moved)

  -- ---- none is: all close up first
  module _ (g : None ≡ lowest_gap (length xs) (size_of s.block) rows) where
    abbrev moves : List Write
    moves = closing_writes (length rows) page l rows (notes_for s) (next_of rows)

    abbrev shut : Lasting
    shut = made_all moves l

    abbrev rows₁ : List Row
    rows₁ = closing_rows (length rows) rows (next_of rows)

    ends : Ends size (contents_of s) (notes_for s) rows₁ shut
    ends = closing-made (length rows) z

    rows-closed : rows₁ ≡ closed_rows 0 rows
    rows-closed = (moves-close (length rows) rows (apart-few 0 rows)).rows_are

    block_closed : closed_block s.block rows ≡ shut.block
    block_closed =
        ap (λ (y : List ℕ). closed_block y rows) b ∙ sym (closing-block (length rows) z (apart-few 0 rows))

    behind : (size' : ℕ) → size' ≡ size_of s.block → Some (length rows, held rows) ≡ lowest_gap (length xs) size' (closed_rows 0 rows)
    behind size' q =
        let room = granted.room in
        let y : 0 + length rows ≡ length rows = omega arith in
        let v : 0 + held rows ≡ held rows = omega arith in
        rw (y, v) at (closed-gap (length xs) size' 0 0 rows some (omega arith))

    gap₁ : (size' : ℕ) → size' ≡ size_of s.block → Some (length rows, held rows) ≡ lowest_gap (length xs) size' rows₁
    gap₁ size' q = rw rows-closed (behind size' q)

    there : Laid law x xs s shut.block rows₁ (length rows) (held rows)
    there =
        subst (λ (y : List ℕ). Laid law x xs s y rows₁ (length rows) (held rows)) block_closed
        (subst (λ (rs : List Row). Laid law x xs s (closed_block s.block rows) rs (length rows) (held rows)) (sym rows-closed)
        (laid-behind law x xs e g))

    all_moved : a.second ≡ moved_from 0 rows
    all_moved =
        ap (λ (y : After). y.second) granted.is
        ∙ ap (λ (d : Option (ℕ × ℕ)). (put_at s.block rows (notes_for s) law x xs d).second) (sym g)

    some-moved : a.second ≡ 0 → ⊥
    some-moved q =
        let o = sane-rows (size_of s.block) s.table granted.sane in
        let c = unmoved 0 0 (size_of s.block) rows o.rises (sym all_moved ∙ q) in
        no_gap (subst (λ (rs : List Row). Some (length rows, held rows) ≡ lowest_gap (length xs) (size_of s.block) rs) c
        (behind (size_of s.block) refl) ∙ sym g)

    abbrev last : List Write
    last = put_writes ends.page shut.block rows₁ (notes_for s) law x xs (Some (length rows, held rows))

    same_size : size_of shut.block ≡ size_of s.block
    same_size = ap (λ (y : ℕ). min y largest_block) (ends.rests.fine.long ∙ sym k.long)

    closing-moves : closes_up a.second l rows (notes_for s) ≡ moves
    unfolding closes_up
    closing-moves =
        rw (ne_eqb a.second 0 some-moved)
        (ap (λ (p : ℕ). closing_writes (length rows) p l rows (notes_for s) (next_of rows)) (page-of z))

    rows_then : rows_then_by a.second rows ≡ rows₁
    unfolding rows_then_by
    rows_then = rw (ne_eqb a.second 0 some-moved) refl

    last-writes : put_then shut rows₁ (notes_for s) law x xs ≡ last
    unfolding put_then
    last-writes =
        ap (λ (p : ℕ). put_writes p shut.block rows₁ (notes_for s) law x xs (lowest_gap (length xs) (size_of shut.block) rows₁))
        (page-of ends.rests)
        ∙ ap (λ (d : Option (ℕ × ℕ)). put_writes ends.page shut.block rows₁ (notes_for s) law x xs d) (sym (gap₁ (size_of shut.block) same_size))

    closing-writes : putting_writes l s law x xs (leaves a) ≡ moves ++ last
    unfolding putting_writes put_by
    closing-writes =
        ap (λ (ws : List Write). ws ++ put_then (made_all ws l) (rows_then_by a.second rows) (notes_for s) law x xs) closing-moves
        ∙ ap (λ (rs : List Row). moves ++ put_then shut rs (notes_for s) law x xs) rows_then
        ∙ ap (λ (ws : List Write). moves ++ ws) last-writes

    closing-put-cut : {l' : Lasting} → Run (putting_writes l s law x xs (leaves a)) l l'
        → Either (Bears size (contents_of s) (notes_for s) l') (Bears size (contents_of next) (notes_for next) l')
    closing-put-cut {l'} r =
        go (closing_then (length rows) last z (subst (λ (ws : List Write). Run ws l l') closing-writes r))
      where
        go : Either (Bears size (contents_of s) (notes_for s) l') (Run last shut l')
            → Either (Bears size (contents_of s) (notes_for s) l') (Bears size (contents_of next) (notes_for next) l')
        go (before y) = before y
        go (after r') = last-cut k law x xs ends.rests (gap₁ (min size largest_block) sized) there r'

    closing-put-made : Made size next (made_all (putting_writes l s law x xs (leaves a)) l)
    closing-put-made =
        subst (λ (y : Lasting). Made size next y)
        (sym (ap (λ (ws : List Write). made_all ws l) closing-writes ∙ made-append moves last l))
        (last_made k law x xs ends.rests (gap₁ (min size largest_block) sized) there)

    -- the last put moves nothing, and lies behind all
    last-tells : answer_of (put_in shut.block (size_of shut.block) rows₁ (notes_for s) law x xs) ≡ Ok (held rows, 0)
    last-tells =
        let g₁ = granted in
        let n = size_of shut.block in
        let few : length rows₁ < 32 = omega (arith, g₁.few, ap length rows-closed, length-closed 0 rows) in
        let room : held rows₁ + length xs ≤ n = omega (arith, g₁.room, ap held rows-closed, held-closed 0 rows, same_size) in
        let free : absent x rows₁ ≡ true = rw rows-closed
        (absent-of x (closed_rows 0 rows) (fresh-closed x 0 rows (fresh-of x rows g₁.fresh))) in
        tried-put shut.block n rows₁ (notes_for s) law x xs
        ∙ sym (tried-fits n rows₁ law x xs (leb-true law most_law g₁.lawful) g₁.number free g₁.good few room refl)
        ∙ ap (λ (d : Option (ℕ × ℕ)). gap_tells rows₁ d) (sym (gap₁ n same_size))

    closing-tells : put_tells l s law x xs (leaves a) ≡ Ok (a.first, a.second)
    unfolding last_put sum_then
    closing-tells =
        let start : a.first ≡ held rows =
        ap (λ (y : After). y.first) granted.is ∙ ap (λ (d : Option (ℕ × ℕ)). (put_at s.block rows (notes_for s) law x xs d).first) (sym g) in
        let sum : sum_then a.second rows ≡ a.second =
        rw (ne_eqb a.second 0 some-moved) ((moves-close (length rows) rows (apart-few 0 rows)).sum ∙ sym all_moved) in
        let last-put : last_put a.second l rows (notes_for s) law x xs ≡ Ok (held rows, 0) =
        ap (λ (ws : List Write). answer_of (put_in (made_all ws l).block (size_of (made_all ws l).block) (rows_then_by a.second rows)
        (notes_for s)
        law x xs)) closing-moves
        ∙ ap (λ (rs : List Row). answer_of (put_in shut.block (size_of shut.block) rs (notes_for s) law x xs)) rows_then ∙ last-tells in
        ap {B = Answer} (λ (r : Answer). Ok (first_of r, sum_then a.second rows)) last-put
        ∙ ap {B = Answer} (λ (m : ℕ). Ok (m, sum_then a.second rows)) (sym start) ∙ ap {B = Answer} (λ (m : ℕ). Ok (a.first, m)) sum

  -- ---- either: the moves, if any, and the last writes
  order-of : (p : Option (ℕ × ℕ)) → p ≡ lowest_gap (length xs) (size_of s.block) rows
      → Order size page s l law x xs (putting_writes l s law x xs (leaves a))
  order-of (Some (i, at)) g =
      record {
        moves = [];
        last-page = page;
        rows_then = rows;
        block-then = l.block;
        index = i;
        place = at;
        is = gap-writes g;
        laid = here g;
        long = z.fine.long;
        moves-are = before refl;
      }
  order-of None g =
      record {
        moves = moves g;
        last-page = (ends g).page;
        rows_then = rows₁ g;
        block-then = (shut g).block;
        index = length rows;
        place = held rows;
        is = closing-writes g;
        laid = there g;
        long = (ends g).rests.fine.long;
        moves-are = after refl;
      }

  granted-cut : {l' : Lasting} (p : Option (ℕ × ℕ)) → p ≡ lowest_gap (length xs) (size_of s.block) rows
      → Run (putting_writes l s law x xs (leaves a)) l l'
      → Either (Bears size (contents_of s) (notes_for s) l') (Bears size (contents_of next) (notes_for next) l')
  granted-cut (Some (i, at)) g r = gap-cut g r
  granted-cut None g r = closing-put-cut g r

  granted-made : (p : Option (ℕ × ℕ)) → p ≡ lowest_gap (length xs) (size_of s.block) rows
      → Made size next (made_all (putting_writes l s law x xs (leaves a)) l)
  granted-made (Some (i, at)) g = gap-made g
  granted-made None g = closing-put-made g

  granted-tells : (p : Option (ℕ × ℕ)) → p ≡ lowest_gap (length xs) (size_of s.block) rows
      → put_tells l s law x xs (leaves a) ≡ Ok (a.first, a.second)
  granted-tells (Some (i, at)) g = gap-tells g
  granted-tells None g = closing-tells g

  pub put_order : Order size page s l law x xs (putting_writes l s law x xs (leaves a))
  put_order = order-of (lowest_gap (length xs) (size_of s.block) rows) refl

-- ---- a put, granted or refused

-- a refused one changes nothing
pub alike-rests : {size page : ℕ} {r s : Store} {l : Lasting} → Alike r s → Rests size (contents_of s) (notes_for s) page (rows_in s) l
    → Rests size (contents_of r) (notes_for r) page (rows_in r) l
alike-rests {size} {page} {r} {s} {l} a z =
    let c : contents_of r ≡ contents_of s = ap (λ (y : List ℕ). contents y (rows_in r)) a.block ∙ ap (contents s.block) a.rows in
    rw (c, a.notes, a.rows) z

pub put_refused : (s : Store) (law x : ℕ) (xs : List ℕ) {w : Refusal} → put_of s.block s.table law x xs ≡ refused w
    → Alike (see (putting law x xs) s) s
put_refused s law x xs e =
    record {
      block = ap (λ (o : Outcome). block_after o s.block) e;
      rows = ap (λ (o : Outcome). rows_of (table_after o s.table)) e;
      notes = ap (λ (o : Outcome). notes_of (table_after o s.table)) e;
    }

module _ {size page : ℕ} {s : Store} {l : Lasting} (k : Keeps size s) (law x : ℕ) (xs : List ℕ)
    (z : Rests size (contents_of s) (notes_for s) page (rows_in s) l) (b : s.block ≡ l.block) where
  pub put-writes-cut : {l' : Lasting} (o : Outcome) → put_of s.block s.table law x xs ≡ o → Run (putting_writes l s law x xs o) l l'
      → Either (Bears size (contents_of s) (notes_for s) l')
      (Bears size (contents_of (see (putting law x xs) s)) (notes_for (see (putting law x xs) s)) l')
  unfolding putting_writes
  put-writes-cut (refused w) e all = before (rests-bears z)
  put-writes-cut (leaves a) e r = granted-cut k law x xs z b e (lowest_gap (length xs) (size_of s.block) (rows_in s)) refl r

  pub put-writes-made : (o : Outcome) → put_of s.block s.table law x xs ≡ o
      → Made size (see (putting law x xs) s) (made_all (putting_writes l s law x xs o) l)
  unfolding putting_writes made_all
  put-writes-made (refused w) e =
      let a = put_refused s law x xs e in
      record { page = page; rests = alike-rests a z; block = sym b ∙ sym a.block }
  put-writes-made (leaves a) e = granted-made k law x xs z b e (lowest_gap (length xs) (size_of s.block) (rows_in s)) refl

  -- "with no cut the put tells what g7110_store_put alone would"
  pub put-tells : (o : Outcome) → put_of s.block s.table law x xs ≡ o → put_tells l s law x xs o ≡ answer_of o
  put-tells (refused w) e = refl
  put-tells (leaves a) e = granted-tells k law x xs z b e (lowest_gap (length xs) (size_of s.block) (rows_in s)) refl
