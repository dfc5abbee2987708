-- What the settings tell: the numbers told are those of the rows that a save gathers (`kept-told`, `kept-turn`, `kept-whole`); a number among them
-- that is not 0 is one that a get answers, and no other is (`kept-got`, `got_kept`); what a get tells is what the text of that revision
-- says (`got-text`). No second answer fits (`only-get`, `only_kept`).
use Prim.Native.Nat.{ℕ, zero, suc, ◌+◌, ◌*◌, ◌-◌, ◌≤◌, ◌<◌}
use mathlib.Core.Path.{◌≡◌, refl, sym, ap, ◌∙◌}
use mathlib.Core.List.{List, [], ◌∷◌, ◌++◌, append-nil}
use native.Mathlib.Nat.{zero-add}
use native.Mathlib.Numerals.{add-one}
use mathlib.Core.Bool.{Bool, true, false, cond}
use mathlib.Core.Logic.{◌⊎◌, inl, inr}
use native.Mathlib.Omega.{arith}
use lib.ListN.{length, get_or, take, drop, set, replicate, drop_of_length-le}
use lib.Seq.{drop-drop, take_all, paste, paste-suc}
use lib.Dec.{eqb}
use borrow.Author.Tests.{eq-eqb, eqb-true}
use Rattle.settings.specs.declared.Settings.{Settings}
use Rattle.settings.specs.declared.Revision.{Revision}
use Rattle.std.specs.Prelude.{Option, Some, None}
use Rattle.settings.specs.Lines.{settings_in}
use Rattle.settings.specs.Revisions.{look_up}
use Rattle.settings.specs.State.{rows_at, box_of, cells_of}
use Rattle.settings.specs.Gathers.{Gathers}
use Rattle.settings.specs.Calls.{text_of}
use Rattle.settings.specs.Tells.{get_of, get_number_of, values_in, numbers_of, numbers_kept}
use Rattle.settings.proofs.Lines.{Sound, settings-back, settings-only}
use Rattle.settings.proofs.State.{zeros-drop}
use Rattle.settings.proofs.Revisions.{zero-gone}
use Rattle.settings.proofs.Promises.{at_row, no_number}

-- the first number of each of n rows of five, from row k on
unfoldable pub fifths : ℕ → ℕ → List ℕ → List ℕ
fifths zero k rows = []
fifths (suc n) k rows = get_or rows (5 * k) 0 ∷ fifths n (k + 1) rows

past : (rows l : List ℕ) (k : ℕ) → drop (5 * k) rows ≡ l → drop (5 * (k + 1)) rows ≡ drop 5 l
past rows l k e =
    let p : 5 * (k + 1) ≡ 5 * k + 5 = omega arith in
    ap (λ (i : ℕ). drop i rows) p ∙ sym (drop-drop 5 (5 * k) rows) ∙ ap (drop 5) e

fifths-none : (n k m : ℕ) (rows : List ℕ) → drop (5 * k) rows ≡ replicate m 0 → 5 * n ≤ m → fifths n k rows ≡ replicate n 0
unfolding fifths
fifths-none zero k m rows e h = refl
fifths-none (suc n) k m rows e h =
    let a : get_or rows (5 * k) 0 ≡ 0 = at_row rows (replicate m 0) (5 * k) 0 (5 * k) e (omega arith) ∙ no_number m 0 in
    let rest = past rows (replicate m 0) k e ∙ zeros-drop 5 m (omega arith) in
    rw a (ap (λ (l : List ℕ). 0 ∷ l) (fifths-none n (k + 1) (m - 5) rows rest (omega arith)))

fifths-are : (n k m : ℕ) (rs : List Revision) (rows : List ℕ) → drop (5 * k) rows ≡ cells_of rs ++ replicate m 0 → length rs ≤ n
    → 5 * (n - length rs) ≤ m → fifths n k rows ≡ numbers_of rs ++ replicate (n - length rs) 0
unfolding fifths numbers_of cells_of
fifths-are n k m [] rows e h g = let z : n - 0 ≡ n = omega arith in rw z (fifths-none n k m rows e (omega arith))
fifths-are zero k m (r ∷ rs) rows e h g = absurd (omega arith)
fifths-are (suc n) k m (r ∷ rs) rows e h g =
    let l = cells_of (r ∷ rs) ++ replicate m 0 in
    let a : get_or rows (5 * k) 0 ≡ r.number = at_row rows l (5 * k) 0 (5 * k) e (omega arith) in
    let z : suc n - suc (length rs) ≡ n - length rs = omega arith in
    rw (a, z) (ap (λ (x : List ℕ). r.number ∷ x) (fifths-are n (k + 1) m rs rows (past rows l k e) (omega arith) (omega arith)))

-- the numbers of the rows that were gathered
pub kept-told : (cells : List ℕ) {rows : List ℕ} {n : ℕ} → Gathers (box_of cells).revisions rows n → fifths 8 0 rows ≡ numbers_kept cells
kept-told cells {rows} {n} g =
    let rs = (box_of cells).revisions in
    let z : drop (5 * 0) rows ≡ cells_of rs ++ replicate (45 - 5 * n) 0 = g.says in
    fifths-are 8 0 (45 - 5 * n) rs rows z (omega (arith, g.count, g.few)) (omega (arith, g.count, g.few))

-- and one by one, as the call tells them
fifth-at : (n k i : ℕ) (rows : List ℕ) → i < n → get_or (fifths n k rows) i 0 ≡ get_or rows (5 * (k + i)) 0
unfolding fifths
fifth-at zero k i rows h = absurd (omega arith)
fifth-at (suc n) k zero rows h = let z : k + 0 ≡ k = omega arith in rw z refl
fifth-at (suc n) k (suc i) rows h = let z : k + suc i ≡ k + 1 + i = omega arith in rw z (fifth-at n (k + 1) i rows (omega arith))

eight-long : (rows : List ℕ) → length (fifths 8 0 rows) ≡ 8
unfolding fifths
eight-long rows = refl

pub kept-turn : (rows first : List ℕ) (k v : ℕ) → length first ≡ 8 → k < 8 → v ≡ get_or rows (5 * k) 0
    → set (paste first 0 (fifths 8 0 rows) k) k v ≡ paste first 0 (fifths 8 0 rows) (k + 1)
kept-turn rows first k v l h e =
    let z = fifths 8 0 rows in
    let n = eight-long rows in
    let at : get_or z k 0 ≡ get_or rows (5 * k) 0 = fifth-at 8 0 k rows h ∙ ap (λ (j : ℕ). get_or rows (5 * j) 0) (zero-add k) in
    ap (λ (j : ℕ). set (paste first 0 z k) j v) (sym (zero-add k)) ∙ ap (set (paste first 0 z k) (0 + k)) (e ∙ sym at)
    ∙ paste-suc first 0 z k 0 (omega (arith, l)) (omega (arith, n)) ∙ ap (paste first 0 z) (sym (add-one k))

pub kept-whole : (cells first : List ℕ) {rows : List ℕ} {n k : ℕ} → Gathers (box_of cells).revisions rows n → length first ≡ 8 → k ≡ 8
    → paste first 0 (fifths 8 0 rows) k ≡ numbers_kept cells
kept-whole cells first {rows} {n} {k} g l e =
    let z = fifths 8 0 rows in
    let past : drop (0 + k) first ≡ [] = drop_of_length-le first {i = 0 + k} (omega (arith, l)) in
    let all : take k z ≡ z = take_all k z (omega (arith, eight-long rows)) in
    rw (past, all, append-nil) (kept-told cells g)

-- a number stands among these
unfoldable pub Among : ℕ → List ℕ → Type 0
Among n [] = ⊥
Among n (m ∷ l) = (m ≡ n) ⊎ Among n l

-- "those that get answers": a number that is told, 0 apart, is not GONE
module _ (n : ℕ) (some : 1 ≤ n) where
  no_zero : (m : ℕ) → Among n (replicate m 0) → ⊥
  unfolding Among
  no_zero zero a = a
  no_zero (suc m) (inl e) = omega arith
  no_zero (suc m) (inr a) = no_zero m a

  among-got : (rs : List Revision) (m : ℕ) → Among n (numbers_of rs ++ replicate m 0) → get_number_of (look_up n rs) ≡ 0
  unfolding numbers_of look_up Among
  among-got [] m a = absurd (no_zero m a)
  among-got (r ∷ rs) m (inl e) = rw (eq-eqb r.number n e)
  among-got (r ∷ rs) m (inr a) = go (eqb r.number n) (among-got rs m a)
    where
      go : (t : Bool) → get_number_of (look_up n rs) ≡ 0 → get_number_of (cond t (Some r.values) (look_up n rs)) ≡ 0
      go true e = refl
      go false e = e

  pub kept-got : (cells : List ℕ) → Among n (numbers_kept cells) → get_number_of (get_of cells n) ≡ 0
  kept-got cells a = among-got (box_of cells).revisions (8 - length (box_of cells).revisions) a

-- and a number that a get answers is told, and is not 0
got-among : (n : ℕ) (rs : List Revision) (l : List ℕ) → get_number_of (look_up n rs) ≡ 0 → Among n (numbers_of rs ++ l)
unfolding numbers_of look_up Among
got-among n [] l e = let z : ◌≡◌ {A = ℕ} 24 0 = e in absurd (omega arith)
got-among n (r ∷ rs) l e = go (eqb r.number n) refl (got-among n rs l) e
  where
    go : (t : Bool) → eqb r.number n ≡ t → (get_number_of (look_up n rs) ≡ 0 → Among n (numbers_of rs ++ l))
        → get_number_of (cond t (Some r.values) (look_up n rs)) ≡ 0 → (r.number ≡ n) ⊎ Among n (numbers_of rs ++ l)
    go true e more f = inl (eqb-true r.number n e)
    go false e more f = inr (more f)

pub record KeptUnder (cells : List ℕ) (n : ℕ) : Type 0 where
  pub told : Among n (numbers_kept cells)
  pub some : 1 ≤ n

pub got_kept : (cells : List ℕ) (n : ℕ) → get_number_of (get_of cells n) ≡ 0 → KeptUnder cells n
got_kept cells zero e =
    let z : ◌≡◌ {A = ℕ} 24 0 = sym (ap get_number_of (zero-gone (rows_at cells 8 0))) ∙ e in
    absurd (omega arith)
got_kept cells (suc n) e =
    record { told = got-among (suc n) (box_of cells).revisions (replicate (8 - length (box_of cells).revisions) 0) e; some = omega arith }

-- What a get tells is what the revision's text says: the text that a read gives, read as settings, is the values told, where a text can
-- say them at all; so after saving a text a get tells that text's values.
pub got-text : (cells : List ℕ) (n : ℕ) → get_number_of (get_of cells n) ≡ 0 → Sound (values_in (get_of cells n))
    → settings_in (text_of (get_of cells n)) ≡ Some (values_in (get_of cells n))
got-text cells n e s = go (get_of cells n) e s
  where
    go : (k : Option Settings) → get_number_of k ≡ 0 → Sound (values_in k) → settings_in (text_of k) ≡ Some (values_in k)
    go (Some v) e s = settings-back v s
    go None e s = let z : ◌≡◌ {A = ℕ} 24 0 = e in absurd (omega arith)

pub saved-sound : (text : List ℕ) (v : Settings) → settings_in text ≡ Some v → Sound v
saved-sound text v e = (settings-only text v e).0

-- no second answer fits
pub only-get : (cells : List ℕ) (n : ℕ) {r s : Option Settings} → r ≡ get_of cells n → s ≡ get_of cells n → r ≡ s
only-get cells n p q = p ∙ sym q

pub only_kept : (cells : List ℕ) {r s : List ℕ} → r ≡ numbers_kept cells → s ≡ numbers_kept cells → r ≡ s
only_kept cells p q = p ∙ sym q
