-- What is read: after closing up the same (`closing-reads`); after a writing what was written, and the greetings below and above it the
-- same.
use Prim.Native.Nat.{ℕ, ◌+◌, ◌≤◌}
use mathlib.Core.Path.{◌≡◌, refl, sym, ap, ◌∙◌}
use mathlib.Core.List.{List, [], ◌∷◌, ◌++◌, append_assoc}
use mathlib.Core.Bool.{true}
use native.Mathlib.Omega.{arith}
use lib.ListN.{length, take, drop, length-append, length-drop, take-append-drop}
use lib.Seq.{take_at, drop_at, take-append-le, drop-append-le, length-take-le}
use Rattle.store_rows.specs.declared.rows.Row.{Row}
use Rattle.store_rows.specs.Rows.{held, greeting, Kept, contents}
use Rattle.store_rows.specs.Sane.{rising}
use Rattle.store_rows.specs.Changed.{written}
use Rattle.store_rows.specs.Closing.{closed_rows, bodies, closed_block}
use Rattle.store_rows.proofs.Lists.{same_drop}
use Rattle.store_rows.proofs.Rising.{rising-head}

unfoldable pub kept : ℕ → List ℕ → Kept
kept n o = record { number = n; octets = o }

pub length-greeting : (b : List ℕ) (r : Row) → r.start + r.octets ≤ length b → length (greeting b r) ≡ r.octets
length-greeting b r h = length-take-le r.octets (drop r.start b) (omega (arith, length-drop r.start b))

pub contents-append : (b : List ℕ) (a c : List Row) → contents b (a ++ c) ≡ contents b a ++ contents b c
unfolding contents kept
contents-append b [] c = refl
contents-append b (r ∷ a) c = ap (λ (x : List Kept). kept r.number (greeting b r) ∷ x) (contents-append b a c)

pub contents-cons : (b : List ℕ) (r : Row) (c : List Row) → contents b (r ∷ c) ≡ kept r.number (greeting b r) ∷ contents b c
unfolding contents kept
contents-cons b r c = refl

pub contents-nil : (b c : List ℕ) → contents b [] ≡ contents c []
unfolding contents
contents-nil b c = refl

-- closing up: every greeting reads the same
closed-reads : (b p rest : List ℕ) (rows : List Row) (at lo size : ℕ) → length p ≡ at → rising 1 lo size rows ≡ true → size ≤ length b
    → contents (p ++ (bodies b rows ++ rest)) (closed_rows at rows) ≡ contents b rows
unfolding contents closed_rows bodies kept
closed-reads b p rest [] at lo size e h f = refl
closed-reads b p rest (r ∷ rows) at lo size e h f =
    let n = rising-head 1 lo size r rows h in
    let g = greeting b r in
    let lg = length-greeting b r (omega (arith, n.0.inside)) in
    let more = bodies b rows ++ rest in
    let w : p ++ ((g ++ bodies b rows) ++ rest) ≡ p ++ (g ++ more) = ap (λ (x : List ℕ). p ++ x) (append_assoc g (bodies b rows) rest) in
    let hd : take r.octets (drop at (p ++ (g ++ more))) ≡ g =
    ap (λ (x : List ℕ). take r.octets x) (drop_at p (g ++ more) at e) ∙ take_at g more r.octets lg in
    let tl : contents (p ++ (g ++ more)) (closed_rows (at + r.octets) rows) ≡ contents b rows =
    ap (λ (x : List ℕ). contents x (closed_rows (at + r.octets) rows)) (sym (append_assoc p g more))
    ∙ closed-reads b (p ++ g) rest rows (at + r.octets) (r.start + r.octets) size (omega (arith, length-append p g)) n.1 f
    in
    ap (λ (x : List ℕ). record { number = r.number; octets = take r.octets (drop at x) } ∷ contents x
    (closed_rows (at + r.octets) rows)) w
    ∙ ap (λ (x : List ℕ). kept r.number x ∷ contents (p ++ (g ++ more)) (closed_rows (at + r.octets) rows)) hd
    ∙ ap (λ (x : List Kept). kept r.number g ∷ x) tl

pub closing-reads : (b : List ℕ) (rows : List Row) (size : ℕ) → rising 1 0 size rows ≡ true → size ≤ length b
    → contents (closed_block b rows) (closed_rows 0 rows) ≡ contents b rows
closing-reads b rows size h f = closed-reads b [] (drop (held rows) b) rows 0 0 size refl h f

-- closing up leaves the block's length
length-bodies : (b : List ℕ) (rows : List Row) (lo size : ℕ) → rising 1 lo size rows ≡ true → size ≤ length b
    → (length (bodies b rows) ≡ held rows) × (lo ≤ size → lo + held rows ≤ size)
unfolding bodies held
length-bodies b [] lo size h f = (refl, (λ g. omega arith))
length-bodies b (r ∷ rows) lo size h f =
    let n = rising-head 1 lo size r rows h in
    let m = n.0 in
    let i = length-bodies b rows (r.start + r.octets) size n.1 f in
    let g = length-greeting b r (omega (arith, m.inside)) in
    (length-append (greeting b r) (bodies b rows) ∙ omega (arith, g, i.0), (λ q. omega (arith, i.1 m.inside, m.above)))

pub closed-length : (b : List ℕ) (rows : List Row) (size : ℕ) → rising 1 0 size rows ≡ true → size ≤ length b
    → length (closed_block b rows) ≡ length b
closed-length b rows size h f =
    let i = length-bodies b rows 0 size h f in
    length-append (bodies b rows) (drop (held rows) b) ∙ omega (arith, i.0, i.1 (omega arith), length-drop (held rows) b)

pub length-written : (b : List ℕ) (at : ℕ) (xs : List ℕ) → at + length xs ≤ length b → length (written b at xs) ≡ length b
unfolding written
length-written b at xs h =
    length-append (take at b) (xs ++ drop (at + length xs) b)
    ∙ omega (arith, length-take-le at b (omega arith), length-append xs (drop (at + length xs) b), length-drop (at + length xs) b)

-- a writing: greetings below and above read the same
module _ (b xs : List ℕ) (s : ℕ) (f : s + length xs ≤ length b) where
  ls : length (take s b) ≡ s
  ls = length-take-le s b (omega arith)

  -- a part that ends before s
  low_part : (i n : ℕ) → i + n ≤ s → take n (drop i (written b s xs)) ≡ take n (drop i b)
  unfolding written
  low_part i n h =
      let rest = xs ++ drop (s + length xs) b in
      let l = length-drop i (take s b) in
      let m = ls in
      ap (λ (x : List ℕ). take n x) (drop-append-le i (take s b) rest (omega (arith, ls)))
      ∙ take-append-le n (drop i (take s b)) rest (omega (arith, ls))
      ∙ sym (ap (λ (x : List ℕ). take n (drop i x)) (sym (take-append-drop s b))
      ∙ ap (λ (x : List ℕ). take n x) (drop-append-le i (take s b) (drop s b) (omega (arith, ls)))
      ∙ take-append-le n (drop i (take s b)) (drop s b) (omega (arith, ls)))

  pub high_part : (i : ℕ) → s + length xs ≤ i → drop i (written b s xs) ≡ drop i b
  unfolding written
  high_part i h =
      same_drop (s + length xs) i (take s b ++ (xs ++ drop (s + length xs) b)) b
      (ap (λ (x : List ℕ). drop (s + length xs) x) (sym (append_assoc (take s b) xs (drop (s + length xs) b)))
      ∙ drop_at (take s b ++ xs) (drop (s + length xs) b) (s + length xs) (omega (arith, ls, length-append (take s b) xs))) h

  pub own-part : take (length xs) (drop s (written b s xs)) ≡ xs
  unfolding written
  own-part =
      ap (λ (x : List ℕ). take (length xs) x) (drop_at (take s b) (xs ++ drop (s + length xs) b) s ls)
      ∙ take_at xs (drop (s + length xs) b) (length xs) refl

  pub below-reads : (rows : List Row) (lo : ℕ) → rising 1 lo s rows ≡ true → contents (written b s xs) rows ≡ contents b rows
  unfolding contents kept
  below-reads [] lo h = refl
  below-reads (r ∷ rows) lo h =
      let n = rising-head 1 lo s r rows h in
      ap (λ (x : List ℕ). kept r.number x ∷ contents (written b s xs) rows) (low_part r.start r.octets n.0.inside)
      ∙ ap (λ (x : List Kept). kept r.number (greeting b r) ∷ x) (below-reads rows (r.start + r.octets) n.1)

  pub above-reads : (rows : List Row) (lo size : ℕ) → s + length xs ≤ lo → rising 1 lo size rows ≡ true
      → contents (written b s xs) rows ≡ contents b rows
  unfolding contents kept
  above-reads [] lo size g h = refl
  above-reads (r ∷ rows) lo size g h =
      let n = rising-head 1 lo size r rows h in
      let a = n.0.above in
      ap (λ (x : List ℕ). kept r.number (take r.octets x) ∷ contents (written b s xs) rows) (high_part r.start (omega arith))
      ∙ ap (λ (x : List Kept). kept r.number (greeting b r) ∷ x) (above-reads rows (r.start + r.octets) size (omega arith) n.1)
