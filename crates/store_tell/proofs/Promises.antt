-- What is promised of the calls that tell of a store. What a get gives, the info tells, refusals too (`info-as-got`). Asked at 0, 1 and so
-- on up to ABSENT, the calls tell the table's greetings, all of them, in order of start, each once (`at-lists`). What is held and what is
-- free are the size (`totals-size`); a put of at most the largest gap's octets moves none (`gap-moves-none`), and where a greeting is put
-- into a gap, it has no more octets than the largest (`gap-is-largest`).
use Prim.Native.Nat.{ℕ, zero, suc, ◌+◌, ◌-◌, ◌≤◌, ◌<◌, max}
use mathlib.Core.Path.{◌≡◌, refl, sym, ap, ◌∙◌}
use mathlib.Core.List.{List, [], ◌∷◌}
use mathlib.Core.Bool.{Bool, true, false, cond, not}
use native.Mathlib.Omega.{arith}
use lib.ListN.{length, get_or, drop}
use lib.Seq.{drop-cons}
use lib.Dec.{ltb}
use borrow.Author.Tests.{lt-ltb, le-ltb, ltb-true, ltb-false}
use Rattle.rules.proofs.Judged.{judged-ap}
use Rattle.store_rows.specs.declared.rows.Row.{Row}
use Rattle.std.proofs.Common.{Option, Some, None, Ok, Err}
use Rattle.store_rows.specs.Limits.{size_of}
use Rattle.store_rows.specs.Rows.{row_of, held}
use Rattle.store_rows.specs.Finding.{find_from, gap_from, lowest_gap}
use Rattle.store_rows.specs.Cells.{rows_of}
use Rattle.store_rows.specs.Changed.{nth}
use Rattle.store_rows.specs.Sane.{rising, numbered, sane_of}
use Rattle.store_greeting.specs.Bad.{is_done, walk_of, is_bad}
use Rattle.store_notes.specs.Cells.{notes_of}
use Rattle.store_notes.specs.Sane.{sane_store}
use Rattle.store.specs.declared.Refusal.TheVariants.{Absent}
use Rattle.store.specs.Store.{After, leaves, refused, put_at, fitted, gotten, put_in, get_in}
use Rattle.store.specs.Calls.{first_of, second_of, number_of, answer_of, put_order, find_order, put_of, get_of}
use Rattle.store.proofs.Only.{outcome-leaves}
use Rattle.store_rows.proofs.Lists.{passed, both}
use Rattle.store_rows.proofs.Rising.{rising-head}
use Rattle.store_notes.proofs.Matched.{sane-noted}
use Rattle.store_notes.proofs.Pairs.{sane-old}
use Rattle.store_tell.specs.Tells.{tell_at, largest_from, largest_gap}
use Rattle.store_tell.specs.Calls.{Told, told_number_of, entry_in, sums_in, info_of, at_of, totals_for}

-- ---- what a get gives, the info tells

pub record AsGot (b t : List ℕ) (x : ℕ) : Type 0 where
  pub ending : told_number_of (info_of b t x) ≡ number_of (answer_of (get_of b t x))
  pub start : (entry_in (info_of b t x)).start ≡ first_of (answer_of (get_of b t x))
  pub octets : (entry_in (info_of b t x)).octets ≡ second_of (answer_of (get_of b t x))

pub info-as-got : (b t : List ℕ) (x : ℕ) → AsGot b t x
unfolding info_of get_in
info-as-got b t x =
    let asks = find_order b t x in
    let i = find_from x 0 (rows_of t) in
    let is : Told = Ok (tell_at (rows_of t) (notes_of t) i) in
    let got = leaves (gotten b (rows_of t) (notes_of t) (nth i (rows_of t))) in
    record {
      ending = judged-ap told_number_of Err is asks ∙ sym (judged-ap (λ o. number_of (answer_of o)) refused got asks);
      start = judged-ap (λ r. (entry_in r).start) Err is asks ∙ sym (judged-ap (λ o. first_of (answer_of o)) refused got asks);
      octets = judged-ap (λ r. (entry_in r).octets) Err is asks ∙ sym (judged-ap (λ o. second_of (answer_of o)) refused got asks);
    }

-- ---- all of them, by their places

abbrev row_in : Told → Row
row_in r = row_of (entry_in r).number (entry_in r).start (entry_in r).octets

-- the greetings that n calls tell, from a place on
unfoldable pub told_from : List ℕ → List ℕ → ℕ → ℕ → List Row
told_from b t i zero = []
told_from b t i (suc n) = row_in (at_of b t i) ∷ told_from b t (i + 1) n

-- a table that calls leave
pub record Lists (b t : List ℕ) : Type 0 where
  pub all : told_from b t 0 (length (rows_of t)) ≡ rows_of t
  pub ends : (i : ℕ) → length (rows_of t) ≤ i → at_of b t i ≡ Err Absent
  pub in_order : rising 1 0 (size_of b) (rows_of t) ≡ true
  pub each-once : numbered (rows_of t) ≡ true

module _ (b t : List ℕ) (s : sane_store (size_of b) t ≡ true) where
  told-row : (i : ℕ) → i < length (rows_of t) → row_in (at_of b t i) ≡ nth i (rows_of t)
  unfolding at_of
  told-row i h = rw (s, lt-ltb i (length (rows_of t)) h)

  told-rows : (n i : ℕ) → i + n ≡ length (rows_of t) → told_from b t i n ≡ drop i (rows_of t)
  unfolding told_from
  told-rows zero i e = sym (none (rows_of t) i (omega arith))
    where
      none : (rows : List Row) (i : ℕ) → length rows ≤ i → drop i rows ≡ []
      none [] zero h = refl
      none [] (suc i) h = refl
      none (r ∷ rows) zero h = absurd (omega arith)
      none (r ∷ rows) (suc i) h = none rows i (omega arith)
  told-rows (suc n) i e =
      let one : i + 1 ≡ suc i = omega arith in
      let rest = told-rows n (i + 1) (omega arith) ∙ ap (λ (k : ℕ). drop k (rows_of t)) one in
      rw (told-row i (omega arith), rest) (sym (drop-cons (rows_of t) i (row_of 0 0 0) (omega arith)))

  numbers-once : numbered (rows_of t) ≡ true
  unfolding sane_of
  numbers-once =
      let a = passed (ltb (length t) 97) _ (sane-old (size_of b) t s) in
      let c = passed (ltb 32 (get_or t 0 0)) _ a.1 in
      (both (rising 1 0 (size_of b) (rows_of t)) _ c.1).1

  pub at-lists : Lists b t
  unfolding at_of
  at-lists =
      record {
        all = told-rows (length (rows_of t)) 0 (omega arith);
        ends = λ i h. rw (s, le-ltb i (length (rows_of t)) h);
        in_order = (sane-noted (size_of b) t s).order.rises;
        each-once = numbers-once;
      }

-- ---- held and free

held-rising : (at size : ℕ) (rows : List Row) → at ≤ size → rising 1 at size rows ≡ true → at + held rows ≤ size
unfolding held
held-rising at size [] h e = omega arith
held-rising at size (r ∷ rows) h e =
    let n = rising-head 1 at size r rows e in
    omega (arith, n.0.above, held-rising (r.start + r.octets) size rows n.0.inside n.1)

pub totals-size : (b t : List ℕ) → sane_store (size_of b) t ≡ true
    → (sums_in (totals_for b t)).held + (sums_in (totals_for b t)).free ≡ size_of b
unfolding totals_for
totals-size b t s =
    rw s (omega (arith, held-rising 0 (size_of b) (rows_of t) (omega arith) (sane-noted (size_of b) t s).order.rises))

-- ---- the largest gap

pub record Found (g : Option (ℕ × ℕ)) : Type 0 where
  pub below : ℕ
  pub place : ℕ
  pub is : g ≡ Some (below, place)

-- a greeting of at most the largest gap's octets has a gap that holds it
gap-found : (want size at i : ℕ) (rows : List Row) → 1 ≤ want → want ≤ largest_from size at rows → Found (gap_from want size at i rows)
unfolding gap_from largest_from
gap-found want size at i [] h g = record { below = i; place = at; is = rw (le-ltb size (at + want) (omega arith)) }
gap-found want size at i (r ∷ rows) h g =
    go (ltb r.start (at + want)) refl (λ f. gap-found want size (r.start + r.octets) (i + 1) rows h f)
  where
    go : (x : Bool) → ltb r.start (at + want) ≡ x
        → (want ≤ largest_from size (r.start + r.octets) rows → Found (gap_from want size (r.start + r.octets) (i + 1) rows))
        → Found (cond x (gap_from want size (r.start + r.octets) (i + 1) rows) (Some (i, at)))
    go true e f = f (omega (arith, ltb-true r.start (at + want) e, g, h))
    go false e f = record { below = i; place = at; is = refl }

-- a greeting that has a gap is at most as long as the largest
gap_within : (want size at i : ℕ) (rows : List Row) {j s : ℕ} → gap_from want size at i rows ≡ Some (j, s) → want ≤ largest_from size at rows
unfolding gap_from largest_from
gap_within want size at i [] e = go (ltb size (at + want)) refl e
  where
    go : {j s : ℕ} (x : Bool) → ltb size (at + want) ≡ x → cond {A = Option (ℕ × ℕ)} x None (Some (i, at)) ≡ Some (j, s) → want ≤ size - at
    go true f e = let z : ◌≡◌ {A = ℕ} 0 1 = cc in absurd (omega arith)
    go false f e = omega (arith, ltb-false size (at + want) f)
gap_within want size at i (r ∷ rows) e =
    go (ltb r.start (at + want)) refl (λ k u f. gap_within want size (r.start + r.octets) (i + 1) rows f) e
  where
    go : {j s : ℕ} (x : Bool) → ltb r.start (at + want) ≡ x
        → ((k u : ℕ) → gap_from want size (r.start + r.octets) (i + 1) rows ≡ Some (k, u) → want ≤ largest_from size (r.start + r.octets) rows)
        → cond x (gap_from want size (r.start + r.octets) (i + 1) rows) (Some (i, at)) ≡ Some (j, s)
        → want ≤ max (r.start - at) (largest_from size (r.start + r.octets) rows)
    go true f deeper e = omega (arith, deeper _ _ e)
    go false f deeper e = omega (arith, ltb-false r.start (at + want) f)

-- the octets of a greeting that is not BAD are some
some-octets : (law : ℕ) (xs : List ℕ) → is_bad law xs ≡ false → 1 ≤ length xs
unfolding is_bad
some-octets law xs e = go (ltb (length xs) 1) (not (is_done (walk_of law xs).end)) refl e
  where
    go : (x r : Bool) → ltb (length xs) 1 ≡ x → cond x true r ≡ false → 1 ≤ length xs
    go true r p e = let z : ◌≡◌ {A = ℕ} 0 1 = cc in absurd (omega arith)
    go false r p e = ltb-false (length xs) 1 p

module _ (b t : List ℕ) (law x : ℕ) (xs : List ℕ) {a : After} (e : put_of b t law x xs ≡ leaves a) where
  put-fitted : (is_bad law xs ≡ false) × (a ≡ fitted b (rows_of t) (notes_of t) (size_of b) law x xs)
  unfolding put_in
  put-fitted =
      let k = outcome-leaves (put_order b t law x xs) (fitted b (rows_of t) (notes_of t) (size_of b) law x xs) e in
      (k.0.1.1.1.1.0, k.1)

  -- "octets moved": none
  pub gap-moves-none : length xs ≤ largest_gap (size_of b) (rows_of t) → a.second ≡ 0
  gap-moves-none h =
      let k = put-fitted in
      let f = gap-found (length xs) (size_of b) 0 0 (rows_of t) (some-octets law xs k.0) h in
      ap (λ (y : After). y.second) k.1 ∙ ap (λ (g : Option (ℕ × ℕ)). (put_at b (rows_of t) (notes_of t) law x xs g).second) f.is

pub gap-is-largest : (want size : ℕ) (rows : List Row) {j s : ℕ} → lowest_gap want size rows ≡ Some (j, s) → want ≤ largest_gap size rows
gap-is-largest want size rows e = gap_within want size 0 0 rows e
