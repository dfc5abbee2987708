-- Octets that no put or closing up writes stay: `closing-spares`, `writing-spares`, `put-stays`.
use Prim.Native.Nat.{ℕ, ◌+◌, ◌-◌, ◌≤◌, ◌<◌}
use mathlib.Core.Path.{◌≡◌, refl, sym, ap, ◌∙◌}
use mathlib.Core.List.{List, [], ◌∷◌, ◌++◌, append_assoc}
use mathlib.Core.Bool.{true}
use native.Mathlib.Omega.{arith}
use native.Mathlib.Nat.{sub-zero, zero-add}
use native.Mathlib.Decide.{ℕ_discrete, dec_lt}
use lib.ListN.{length, take, drop, get_or, get_or-append}
use lib.Seq.{get_or-append-add, get_or-drop, get_or-take, length-take-le}
use Rattle.store_rows.specs.declared.rows.Row.{Row}
use Rattle.std.specs.Prelude.{Option, Some, None}
use Rattle.store_rows.specs.Limits.{size_of}
use Rattle.store_rows.specs.Rows.{held, greeting}
use Rattle.store_rows.specs.Finding.{lowest_gap}
use Rattle.store_rows.specs.Cells.{rows_of}
use Rattle.store_notes.specs.Cells.{notes_of}
use Rattle.store_rows.specs.Sane.{rising}
use Rattle.store_rows.specs.Changed.{written}
use Rattle.store_rows.specs.Closing.{bodies, closed_block}
use Rattle.store.specs.Store.{leaves, After, put_at}
use Rattle.store.specs.Calls.{put_of}
use Rattle.store_rows.proofs.Lists.{same-get_d}
use Rattle.store_rows.proofs.Rising.{rising-head}
use Rattle.store_promises.specs.Kept.{Spared, Passed}
use Rattle.store_promises.proofs.Contents.{length-greeting, closed-length, high_part}
use Rattle.store_promises.proofs.Gaps.{gap-inside}
use Rattle.store_promises.proofs.Granted.{sane-rows, good-some, put-granted}

at_back : (a c : List ℕ) (p : ℕ) → length a ≤ p → get_or (a ++ c) p 0 ≡ get_or c (p - length a) 0
at_back a c p h =
    let e : length a + (p - length a) ≡ p = omega arith in
    ap (λ (x : ℕ). get_or (a ++ c) x 0) (sym e) ∙ get_or-append-add a c (p - length a) 0

module _ (b : List ℕ) (r : Row) (at p : ℕ) (more : List ℕ) (inside : r.start + r.octets ≤ length b) (g : at ≤ p) where
  lg : length (greeting b r) ≡ r.octets
  lg = length-greeting b r inside

  here : p < at + r.octets → Dec (r.start ≡ at) → ((r.start ≡ at → ⊥) → at ≤ p → p < at + r.octets → ⊥)
      → get_or (greeting b r ++ more) (p - at) 0 ≡ get_or b p 0
  here h (no n) s = absurd (s n g h)
  here h (yes e) s =
      let i : r.start + (p - at) ≡ p = omega arith in
      get_or-append (greeting b r) more 0 (p - at) (omega (arith, lg))
      ∙ get_or-take r.octets (drop r.start b) (p - at) 0 (omega arith) ∙ get_or-drop r.start b (p - at) 0
      ∙ ap (λ (x : ℕ). get_or b x 0) i

  cases : Dec (p < at + r.octets) → ((r.start ≡ at → ⊥) → at ≤ p → p < at + r.octets → ⊥)
      → (at + r.octets ≤ p → get_or more (p - (at + r.octets)) 0 ≡ get_or b p 0) → get_or (greeting b r ++ more) (p - at) 0 ≡ get_or b p 0
  cases (yes h) s ih = here h (ℕ_discrete r.start at) s
  cases (no n) s ih =
      let h : at + r.octets ≤ p = omega arith in
      let i : p - at - length (greeting b r) ≡ p - (at + r.octets) = omega (arith, lg) in
      at_back (greeting b r) more (p - at) (omega (arith, lg)) ∙ ap (λ (x : ℕ). get_or more x 0) i ∙ ih h

stays : (b : List ℕ) (rows : List Row) (at p lo size : ℕ) → rising 1 lo size rows ≡ true → size ≤ length b → at ≤ p → Spared p at rows
    → get_or (bodies b rows ++ drop (at + held rows) b) (p - at) 0 ≡ get_or b p 0
unfolding bodies held Spared
stays b [] at p lo size h f g s =
    let e : at + 0 + (p - at) ≡ p = omega arith in
    get_or-drop (at + 0) b (p - at) 0 ∙ ap (λ (x : ℕ). get_or b x 0) e
stays b (r ∷ rows) at p lo size h f g s =
    let n = rising-head 1 lo size r rows h in
    let m = n.0 in
    let e : at + r.octets + held rows ≡ at + (r.octets + held rows) = omega arith in
    let more = bodies b rows ++ drop (at + (r.octets + held rows)) b in
    ap (λ (x : List ℕ). get_or x (p - at) 0) (append_assoc (greeting b r) (bodies b rows) (drop (at + (r.octets + held rows)) b))
    ∙ cases b r at p more (omega (arith, m.inside)) g (dec_lt p (at + r.octets)) s.0
    (λ q. rw e at (stays b rows (at + r.octets) p (r.start + r.octets) size n.1 f q s.1))

pub closing-spares : (b : List ℕ) (rows : List Row) (p size : ℕ) → rising 1 0 size rows ≡ true → size ≤ length b → Spared p 0 rows
    → get_or (closed_block b rows) p 0 ≡ get_or b p 0
closing-spares b rows p size h f s = rw (sub-zero, zero-add) at (stays b rows 0 p 0 size h f (omega arith) s)

-- outside what is written
low-spares : (b xs : List ℕ) (at p : ℕ) → at + length xs ≤ length b → p < at → get_or (written b at xs) p 0 ≡ get_or b p 0
unfolding written
low-spares b xs at p h l =
    get_or-append (take at b) (xs ++ drop (at + length xs) b) 0 p (omega (arith, length-take-le at b (omega arith)))
    ∙ get_or-take at b p 0 l

pub writing-spares : (b xs : List ℕ) (at p : ℕ) → at + length xs ≤ length b → (at ≤ p → p < at + length xs → ⊥)
    → get_or (written b at xs) p 0 ≡ get_or b p 0
writing-spares b xs at p h out = go (dec_lt p at) (dec_lt p (at + length xs))
  where
    go : Dec (p < at) → Dec (p < at + length xs) → get_or (written b at xs) p 0 ≡ get_or b p 0
    go (yes l) d = low-spares b xs at p h l
    go (no n) (yes l) = absurd (out (omega arith) l)
    go (no n) (no m) = same-get_d p p (written b at xs) b (high_part b xs at h p (omega arith)) (omega arith)

module _ (b t : List ℕ) (law x : ℕ) (xs : List ℕ) {a : After} (e : put_of b t law x xs ≡ leaves a) where
  stays-in : (g : Option (ℕ × ℕ)) → g ≡ lowest_gap (length xs) (size_of b) (rows_of t) → (p : ℕ)
      → ((put_at b (rows_of t) (notes_of t) law x xs g).first ≤ p → p < (put_at b (rows_of t) (notes_of t) law x xs g).first + length xs → ⊥)
      → Passed p g (rows_of t) → get_or (put_at b (rows_of t) (notes_of t) law x xs g).block p 0 ≡ get_or b p 0
  stays-in (Some (i, s)) q p out k =
      let f = put-granted b t law x xs a e in
      let o = sane-rows (size_of b) t f.sane in
      let n = gap-inside b xs (size_of b) x (rows_of t) i s (omega arith) (good-some law xs f.good) o.rises q in
      writing-spares b xs s p (omega arith) out
  stays-in None q p out k =
      let f = put-granted b t law x xs a e in
      let o = sane-rows (size_of b) t f.sane in
      let c = closed-length b (rows_of t) (size_of b) o.rises (omega arith) in
      writing-spares (closed_block b (rows_of t)) xs (held (rows_of t)) p (omega (arith, c, f.room)) out
      ∙ closing-spares b (rows_of t) p (size_of b) o.rises (omega arith) k

  -- outside the new greeting's place, and what closing up writes where no gap holds it
  pub put-stays : (p : ℕ) → (a.first ≤ p → p < a.first + length xs → ⊥)
      → Passed p (lowest_gap (length xs) (size_of b) (rows_of t)) (rows_of t) → get_or a.block p 0 ≡ get_or b p 0
  put-stays p out k =
      let i = (put-granted b t law x xs a e).is in
      rw i (stays-in (lowest_gap (length xs) (size_of b) (rows_of t)) refl p (λ l h. out (rw i l) (rw i h)) k)
