-- The record's words, read (`told-sane`, the tests in the code's order) and written, and a call over them (`words-none`, `words-moved`).
use Prim.Native.Nat.{ℕ, ◌+◌, ◌-◌, ◌≤◌, ◌<◌}
use mathlib.Core.Path.{◌≡◌, refl, sym, ap, ◌∙◌}
use mathlib.Core.List.{List}
use mathlib.Core.Bool.{Bool, true, false, cond}
use native.Mathlib.Omega.{arith}
use lib.ListN.{length, get_or}
use lib.Dec.{leb, ltb, eqb}
use borrow.Author.Tests.{lt-ltb, le-ltb, le-leb, lt-leb, ltb-false, leb-false, eq-eqb, ne_eqb}
use Rattle.store_rows.specs.Limits.{size_of}
use Rattle.store_rows.proofs.Lists.{passed}
use Rattle.store_moves.specs.declared.steps.Move.{Move}
use Rattle.store_moves.specs.declared.steps.State.{State}
use Rattle.store_moves.specs.declared.steps.State.TheVariants.{Still, Moving, Lifted}
use Rattle.store_moves.proofs.Moved.{sane-step}
use Rattle.store_moves.specs.Moves.{Lasts, lasts, distance, stepped, Tells, Sane, sane-still, sane-moving, sane-lifted}
use Rattle.store_moves.specs.Record.{move_of, sensible, told_by, told, page_of, words_for, words_of, step_number, move_number, next_of}
use Rattle.store_moves.specs.Record.{MoveStep, Short, Fits, fits-still, fits-moving, fits-lifted}

-- by a test
split : (P : State → Type 0) (t : Bool) (x y : State) → (t ≡ true → P x) → (t ≡ false → P y) → P (cond t x y)
split P true x y f g = f refl
split P false x y f g = g refl

pub sensible-tells : (b : List ℕ) (m : Move) → sensible (size_of b) m ≡ true → Tells b m
unfolding sensible
sensible-tells b m e =
    let first = passed (leb m.from m.to) _ e in
    let second = passed (ltb (size_of b) (m.from + m.octets)) _ first.1 in
    let third = passed (leb m.octets m.done) _ second.1 in
    record {
      down = leb-false m.from m.to first.0;
      inside = ltb-false (size_of b) (m.from + m.octets) second.0;
      some = leb-false m.octets m.done third.0;
    }

pub sensible-down : {t : Bool} (size : ℕ) (m : Move) → t ≡ sensible size m → t ≡ true → m.to < m.from
unfolding sensible
sensible-down size m e f = leb-false m.from m.to (passed (leb m.from m.to) _ (sym e ∙ f)).0

-- whatever the words are, they tell of a move in this block, or of none
pub told-sane : (b s w : List ℕ) → Sane b s (told b s w)
unfolding told_by
told-sane b s w =
    let P : State → Type 0 = λ st. Sane b s st in
    let m = move_of w in
    let by-spare = cond (leb (length s) (distance m)) Still (Lifted m) in
    let by_two = cond (eqb (get_or w 1 0) 2) by-spare Still in
    let by_one = cond (eqb (get_or w 1 0) 1) (Moving m) by_two in
    let by-sense = cond (sensible (size_of b) m) by_one Still in
    let by-seven = cond (ltb 0 (get_or w 7 0)) Still by-sense in
    let by-six = cond (ltb 0 (get_or w 6 0)) Still by-seven in
    split P (ltb 1 (get_or w 0 0)) Still by-six (λ e. sane-still) (λ e.
    split P (ltb 0 (get_or w 6 0)) Still by-seven (λ e. sane-still) (λ e.
    split P (ltb 0 (get_or w 7 0)) Still by-sense (λ e. sane-still) (λ e.
    split P (sensible (size_of b) m) by_one Still (λ sense.
    split P (eqb (get_or w 1 0) 1) (Moving m) by_two (λ e. sane-moving (sensible-tells b m sense)) (λ e.
    split P (eqb (get_or w 1 0) 2) by-spare Still (λ e.
    split P (leb (length s) (distance m)) Still (Lifted m) (λ e. sane-still)
    (λ far. sane-lifted (sensible-tells b m sense) (leb-false (length s) (distance m) far)))
    (λ e. sane-still)))
    (λ e. sane-still))))

pub told-page : (size spare : ℕ) (w : List ℕ) → step_number (told_by size spare w) ≡ 0 → get_or w 0 0 ≤ 1
unfolding told_by step_number
told-page size spare w =
    split (λ st. step_number st ≡ 0 → get_or w 0 0 ≤ 1) (ltb 1 (get_or w 0 0)) _ _ (λ e z. omega arith) (λ e z. ltb-false 1 (get_or w 0 0) e)

-- ---- the tests, in the code's order

module _ (size : ℕ) (m : Move) where
  pub not-down : m.from ≤ m.to → false ≡ sensible size m
  unfolding sensible
  not-down h = rw (le-leb m.from m.to h)

  module _ (d : m.to < m.from) where
    pub not-inside : size < m.from + m.octets → false ≡ sensible size m
    unfolding sensible
    not-inside h = rw (lt-leb m.from m.to d, lt-ltb size (m.from + m.octets) h)

    module _ (i : m.from + m.octets ≤ size) where
      pub none_left : m.octets ≤ m.done → false ≡ sensible size m
      unfolding sensible
      none_left h = rw (lt-leb m.from m.to d, le-ltb size (m.from + m.octets) i, le-leb m.octets m.done h)

      pub some_left : m.done < m.octets → true ≡ sensible size m
      unfolding sensible
      some_left h = rw (lt-leb m.from m.to d, le-ltb size (m.from + m.octets) i, lt-leb m.octets m.done h)

module _ (size spare : ℕ) (w : List ℕ) where
  pub bad-page : 1 < get_or w 0 0 → Still ≡ told_by size spare w
  unfolding told_by
  bad-page h = rw (lt-ltb 1 (get_or w 0 0) h)

  module _ (p : get_or w 0 0 ≤ 1) where
    pub bad-six : 0 < get_or w 6 0 → Still ≡ told_by size spare w
    unfolding told_by
    bad-six h = rw (le-ltb 1 (get_or w 0 0) p, lt-ltb 0 (get_or w 6 0) h)

    module _ (x : get_or w 6 0 ≤ 0) where
      pub bad-seven : 0 < get_or w 7 0 → Still ≡ told_by size spare w
      unfolding told_by
      bad-seven h = rw (le-ltb 1 (get_or w 0 0) p, le-ltb 0 (get_or w 6 0) x, lt-ltb 0 (get_or w 7 0) h)

      module _ (y : get_or w 7 0 ≤ 0) {m : Move} {t : Bool} (e : m ≡ move_of w) (f : t ≡ sensible size m) where
        begun : sensible size (move_of w) ≡ t
        begun = sym (f ∙ ap (λ (z : Move). sensible size z) e)

        pub no-sense : t ≡ false → Still ≡ told_by size spare w
        unfolding told_by
        no-sense h = rw (le-ltb 1 (get_or w 0 0) p, le-ltb 0 (get_or w 6 0) x, le-ltb 0 (get_or w 7 0) y, begun ∙ h)

        module _ (g : t ≡ true) where
          pub told-moving : get_or w 1 0 ≡ 1 → Moving m ≡ told_by size spare w
          unfolding told_by
          told-moving h =
              rw (le-ltb 1 (get_or w 0 0) p, le-ltb 0 (get_or w 6 0) x, le-ltb 0 (get_or w 7 0) y, begun ∙ g, eq-eqb (get_or w 1 0) 1 h)
              (ap Moving e)

          module _ (a : get_or w 1 0 ≡ 1 → ⊥) where
            pub bad-state : (get_or w 1 0 ≡ 2 → ⊥) → Still ≡ told_by size spare w
            unfolding told_by
            bad-state h =
                rw (
                  le-ltb 1 (get_or w 0 0) p,
                  le-ltb 0 (get_or w 6 0) x,
                  le-ltb 0 (get_or w 7 0) y,
                  begun ∙ g,
                  ne_eqb (get_or w 1 0) 1 a,
                  ne_eqb (get_or w 1 0) 2 h,
                )

            module _ (c : get_or w 1 0 ≡ 2) where
              pub bad-spare : spare ≤ distance m → Still ≡ told_by size spare w
              unfolding told_by
              bad-spare h =
                  rw (
                    le-ltb 1 (get_or w 0 0) p,
                    le-ltb 0 (get_or w 6 0) x,
                    le-ltb 0 (get_or w 7 0) y,
                    begun ∙ g,
                    ne_eqb (get_or w 1 0) 1 a,
                    eq-eqb (get_or w 1 0) 2 c,
                    rw e at (le-leb spare (distance m) h),
                  )

              pub told-lifted : distance m < spare → Lifted m ≡ told_by size spare w
              unfolding told_by
              told-lifted h =
                  rw (
                    le-ltb 1 (get_or w 0 0) p,
                    le-ltb 0 (get_or w 6 0) x,
                    le-ltb 0 (get_or w 7 0) y,
                    begun ∙ g,
                    ne_eqb (get_or w 1 0) 1 a,
                    eq-eqb (get_or w 1 0) 2 c,
                    rw e at (lt-leb spare (distance m) h),
                  )
                  (ap Lifted e)

-- ---- words written

pub words-still : {st : State} (page : ℕ) → st ≡ Still
    → words_for (1 - page) 0 (record { from = 0; to = 0; octets = 0; done = 0 }) ≡ words_of page st
unfolding words_of
words-still page e = rw e

pub words-moving : {st : State} (page : ℕ) (m : Move) → st ≡ Moving m → words_for page 1 m ≡ words_of page st
unfolding words_of
words-moving page m e = rw e

pub words-lifted : {st : State} (page : ℕ) (m : Move) → st ≡ Lifted m → words_for page 2 m ≡ words_of page st
unfolding words_of
words-lifted page m e = rw e

pub moving-short : {m : Move} → Fits (Moving m) → Short m
moving-short (fits-moving h) = h

pub lifted-short : {m : Move} → Fits (Lifted m) → Short m
lifted-short (fits-lifted h) = h

sane-short : {b : List ℕ} {m : Move} → Tells b m → Short m
sane-short t =
    let d = t.down in
    let i = t.inside in
    let o = t.some in
    record { from-short = omega arith; to-short = omega arith; octets-short = omega arith; done-short = omega arith }

pub sane-fits : {b s : List ℕ} {st : State} → Sane b s st → Fits st
sane-fits sane-still = fits-still
sane-fits (sane-moving t) = fits-moving (sane-short t)
sane-fits (sane-lifted t d) = fits-lifted (sane-short t)

-- what a step leaves
pub step_fits : {st r : State} {b' s' : List ℕ} (b s : List ℕ) → Sane b s st → stepped b s st ≡ lasts b' s' r → Fits r
step_fits {st} b s h e = sane-fits (rw e at (sane-step b s st h))

-- ---- a call

module _ {st : State} (b s w : List ℕ) (e : st ≡ told b s w) where
  pub sane-of : {x : State} → st ≡ x → Sane b s x
  sane-of f = rw (sym f ∙ e) (told-sane b s w)

  paged : {x : State} → st ≡ x → step_number x ≡ 0 → page_of w ≤ 1
  paged f z = told-page (size_of b) (length s) w (ap step_number (sym e ∙ f) ∙ z)

  pub page-of : {m : Move} → st ≡ Moving m → page_of w ≤ 1
  unfolding step_number
  page-of f = paged f refl

  pub page-of-lifted : {m : Move} → st ≡ Lifted m → page_of w ≤ 1
  unfolding step_number
  page-of-lifted f = paged f refl

  pub words-none : (n : List ℕ) → st ≡ Still → MoveStep b s w n b s n move_number
  unfolding step_number next_of stepped
  words-none n f = rw (sym e ∙ f) (record { answer = refl; block = refl; spare = refl; next = refl })

  -- a step from a state that has a next one
  went : {r : State} {b' s' n' : List ℕ} (n : List ℕ) → step_number st ≡ 0 → next_of n (page_of w) st r ≡ words_of (page_of w) r
      → stepped b s st ≡ lasts b' s' r → n' ≡ words_of (page_of w) r → MoveStep b s w n b' s' n' 0
  went n z y g h =
      rw (← e) (record {
        answer = sym z;
        block = sym (ap (λ (l : Lasts). l.block) g);
        spare = sym (ap (λ (l : Lasts). l.spare) g);
        next = h ∙ sym y ∙ sym (ap (λ (l : Lasts). next_of n (page_of w) st l.state) g);
      })

  module _ {m : Move} {r : State} {b' s' n' : List ℕ} (n : List ℕ) where
    pub words-moved : st ≡ Moving m → stepped b s (Moving m) ≡ lasts b' s' r → n' ≡ words_of (page_of w) r → MoveStep b s w n b' s' n' 0
    unfolding step_number next_of
    words-moved f g h =
        went n (ap step_number f) (ap (λ (x : State). next_of n (page_of w) x r) f) (ap (λ (x : State). stepped b s x) f ∙ g) h

    pub words-laid : st ≡ Lifted m → stepped b s (Lifted m) ≡ lasts b' s' r → n' ≡ words_of (page_of w) r → MoveStep b s w n b' s' n' 0
    unfolding step_number next_of
    words-laid f g h =
        went n (ap step_number f) (ap (λ (x : State). next_of n (page_of w) x r) f) (ap (λ (x : State). stepped b s x) f ∙ g) h

pub move-is : {a b c d : ℕ} (w : List ℕ) → a ≡ get_or w 2 0 → b ≡ get_or w 3 0 → c ≡ get_or w 4 0 → d ≡ get_or w 5 0
    → ◌≡◌ {A = Move} (record { from = a; to = b; octets = c; done = d }) (move_of w)
move-is w e f g h = rw (e, f, g, h)

-- ---- the words of a state tell of that state

pub told-words : (b s : List ℕ) (page : ℕ) (st : State) → page ≤ 1 → Sane b s st → told b s (words_of page st) ≡ st
unfolding words_of
told-words b s page Still p sane-still =
    let m : Move = record { from = 0; to = 0; octets = 0; done = 0 } in
    let w = words_for (1 - page) 0 m in
    sym (no-sense (size_of b) (length s) w (omega arith) (omega arith) (omega arith) {m = m} refl (not-down (size_of b) m (omega arith)) refl)
told-words b s page (Moving m) p (sane-moving t) =
    let w = words_for page 1 m in
    sym (told-moving (size_of b) (length s) w p (omega arith) (omega arith) {m = m} refl
    (some_left (size_of b) m t.down t.inside t.some) refl refl)
told-words b s page (Lifted m) p (sane-lifted t d) =
    let w = words_for page 2 m in
    let two : ◌≡◌ {A = ℕ} 2 1 → ⊥ = λ z. omega arith in
    sym (told-lifted (size_of b) (length s) w p (omega arith) (omega arith) {m = m} refl
    (some_left (size_of b) m t.down t.inside t.some) refl two refl d)
