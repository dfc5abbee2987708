-- Octets moved are exactly the summed lengths of those whose start changed: `put-moved`.
use Prim.Native.Nat.{ℕ, ◌+◌}
use mathlib.Core.Path.{◌≡◌, refl, sym, ap, ◌∙◌}
use mathlib.Core.List.{List, [], ◌∷◌, ◌++◌}
use mathlib.Core.Bool.{cond}
use lib.ListN.{length, take, drop, take-append-drop}
use lib.Seq.{append_snoc}
use lib.Dec.{eqb}
use borrow.Author.Tests.{eq-eqb, ne_eqb}
use Rattle.store_rows.specs.declared.rows.Row.{Row}
use Rattle.std.specs.Prelude.{Option, Some, None}
use Rattle.store_rows.specs.Limits.{size_of}
use Rattle.store_rows.specs.Rows.{row_of, held}
use Rattle.store_rows.specs.Finding.{lowest_gap}
use Rattle.store_rows.specs.Cells.{rows_of}
use Rattle.store_notes.specs.Cells.{notes_of}
use Rattle.store_rows.specs.Changed.{insert_at}
use Rattle.store_rows.specs.Closing.{moved_to, closed_rows, moved_from}
use Rattle.store.specs.Store.{leaves, After, put_at}
use Rattle.store.specs.Calls.{put_of}
use Rattle.store_promises.specs.Kept.{start_of, changed}
use Rattle.store_promises.proofs.Numbers.{Fresh, Distinct, distinct-behind}
use Rattle.store_promises.proofs.Granted.{sane-rows, sane-distinct, put-granted, put-fresh, behind-all}

-- the start of a greeting among others
start-at : (pre : List Row) (r : Row) (post : List Row) → Fresh r.number pre → start_of r.number (pre ++ (r ∷ post)) ≡ r.start
unfolding start_of Fresh
start-at [] r post f = rw (eq-eqb r.number r.number refl)
start-at (y ∷ pre) r post f = rw (ne_eqb y.number r.number f.0) (start-at pre r post f.1)

start-past : (y : ℕ) (pre : List Row) (r : Row) (post : List Row) → (r.number ≡ y → ⊥)
    → start_of y (pre ++ (r ∷ post)) ≡ start_of y (pre ++ post)
unfolding start_of
start-past y [] r post n = rw (ne_eqb r.number y n)
start-past y (z ∷ pre) r post n = ap (λ (s : ℕ). cond (eqb z.number y) z.start s) (start-past y pre r post n)

-- one put in among them changes no start
changed-none : (x : ℕ) (after pre rows : List Row) → Distinct (pre ++ rows) → Fresh x rows
    → ((y : ℕ) → (x ≡ y → ⊥) → start_of y after ≡ start_of y (pre ++ rows)) → changed rows after ≡ 0
unfolding changed Fresh
changed-none x after pre [] d f h = refl
changed-none x after pre (r ∷ rows) d f h =
    let own : start_of r.number after ≡ r.start =
    h r.number (λ q. f.0 (sym q)) ∙ start-at pre r rows (distinct-behind pre r rows d).0 in
    let s = append_snoc pre r rows in
    let rest = changed-none x after (pre ++ (r ∷ [])) rows (rw s d) f.1 (λ y n. h y n ∙ ap (start_of y) (sym s)) in
    rw (own, eq-eqb r.start r.start refl, rest)

-- numbers that none of the first has
unfoldable Apart : List Row → List Row → Type 0
Apart pre [] = Unit {0}
Apart pre (r ∷ rows) = Fresh r.number pre × Apart pre rows

fresh-snoc : (y : ℕ) (pre : List Row) (r : Row) → Fresh y pre → (r.number ≡ y → ⊥) → Fresh y (pre ++ (r ∷ []))
unfolding Fresh
fresh-snoc y [] r f n = (n, tt)
fresh-snoc y (z ∷ pre) r f n = (f.0, fresh-snoc y pre r f.1 n)

apart_more : (pre rows : List Row) (r : Row) → Fresh r.number rows → Apart pre rows → Apart (pre ++ (r ∷ [])) rows
unfolding Apart Fresh
apart_more pre [] r f a = tt
apart_more pre (y ∷ rows) r f a = (fresh-snoc y.number pre r a.0 (λ q. f.0 (sym q)), apart_more pre rows r f.1 a.1)

apart_none : (rows : List Row) → Apart [] rows
unfolding Apart Fresh
apart_none [] = tt
apart_none (r ∷ rows) = (tt, apart_none rows)

-- closed up, each is where closing up puts it
changed-closed : (pre rows rest : List Row) (at : ℕ) → Distinct rows → Apart pre rows
    → changed rows (pre ++ (closed_rows at rows ++ rest)) ≡ moved_from at rows
unfolding changed closed_rows moved_from Distinct Apart
changed-closed pre [] rest at d p = refl
changed-closed pre (r ∷ rows) rest at d p =
    let m = moved_to at r in
    let more = closed_rows (at + r.octets) rows ++ rest in
    let own : start_of r.number (pre ++ (m ∷ more)) ≡ at = start-at pre m more p.0 in
    let ih = changed-closed (pre ++ (m ∷ [])) rows rest (at + r.octets) d.3 (apart_more pre rows m d.2 p.1) in
    let s = append_snoc pre m more in
    let tl : changed rows (pre ++ (m ∷ more)) ≡ moved_from (at + r.octets) rows = ap (changed rows) (sym s) ∙ ih in
    rw (own, tl)

module _ (b t : List ℕ) (law x : ℕ) (xs : List ℕ) {a : After} (e : put_of b t law x xs ≡ leaves a) where
  distinct : Distinct (rows_of t)
  distinct = sane-distinct (size_of b) t (put-granted b t law x xs a e).sane

  moved_in : (g : Option (ℕ × ℕ)) → (put_at b (rows_of t) (notes_of t) law x xs g).second ≡ changed (rows_of t)
      (put_at b (rows_of t) (notes_of t) law x xs g).rows
  moved_in (Some (i, s)) =
      let rows = rows_of t in
      let new = row_of x s (length xs) in
      let k = take-append-drop i rows in
      sym (changed-none x (insert_at i new rows) [] rows distinct (put-fresh b t law x xs e)
      (λ y n. start-past y (take i rows) new (drop i rows) n ∙ ap (start_of y) k))
  moved_in None =
      let rows = rows_of t in
      let new = row_of x (held rows) (length xs) in
      let o = sane-rows (size_of b) t (put-granted b t law x xs a e).sane in
      sym (ap (changed rows) (behind-all (size_of b) rows new o.rises) ∙ changed-closed [] rows (new ∷ []) 0 distinct (apart_none rows))

  pub put-moved : a.second ≡ changed (rows_of t) a.rows
  put-moved = rw (put-granted b t law x xs a e).is (moved_in (lowest_gap (length xs) (size_of b) (rows_of t)))
