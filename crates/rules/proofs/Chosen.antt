-- What the writer chooses: one of the set's forms that apply, none of them shorter, and of the equally short the first in the tie order.
-- Main statements: `choose-least`, `chosen-first-least`; of what is first and least, `wider-least`, `first-of-fewer`, `one-first-least`.
use Prim.Native.Nat.{ℕ, ◌/◌, ◌%◌, ◌≤◌}
use native.Mathlib.Omega.{arith}
use mathlib.Core.Path.{◌≡◌, refl, sym, ap, ◌∙◌}
use mathlib.Core.List.{List, [], ◌∷◌, ◌++◌}
use mathlib.Core.Bool.{Bool, true, false, cond, not, ◌&&◌, ◌||◌}
use lib.Dec.{eqb, leb, ltb}
use borrow.Author.Tests.{lt-ltb, le-leb, eq-eqb, eqb-true, leb-true, leb-false, ltb-true}
use Rattle.rules.specs.Tools.{is_tool, holds, is_set, is_writer_set}
use Rattle.rules.specs.Chooses.{applies, octets_of_form, tie_order, choose, chosen_tool}
use Rattle.rules.proofs.Tests.{and_left, and_right}
use Rattle.rules.proofs.Each.{or_right, Each, nothing, next, each_map, each_append, each_at, each_all}

-- Of those in an order that can be used, t is least in size, and the first such
pub record FirstLeast (usable : ℕ → Bool) (size : ℕ → ℕ) (order : List ℕ) (t : ℕ) : Type 0 where
  pub before : List ℕ
  pub after : List ℕ
  pub stands : order ≡ before ++ (t ∷ after)
  pub ok : usable t ≡ true
  pub earlier : Each (λ u. not (usable u) || ltb (size t) (size u)) before
  pub later : Each (λ u. not (usable u) || leb (size t) (size u)) after

or-leb : (a : Bool) (m n k : ℕ) → m ≤ n → a || ltb n k ≡ true → a || leb m k ≡ true
or-leb true m n k h e = refl
or-leb false m n k h e = le-leb m k (omega (arith, ltb-true n k e))

or-leb' : (a : Bool) (m n k : ℕ) → m ≤ n → a || leb n k ≡ true → a || leb m k ≡ true
or-leb' true m n k h e = refl
or-leb' false m n k h e = le-leb m k (omega (arith, leb-true n k e))

-- whatever is not greater than the least
none-less : {usable : ℕ → Bool} {size : ℕ → ℕ} {order : List ℕ} {t : ℕ} (m : ℕ) → m ≤ size t → FirstLeast usable size order t
    → Each (λ u. not (usable u) || leb m (size u)) order
none-less {usable} {size} {order} {t} m h f =
    rw f.stands
    (each_append (each_map (λ u e. or-leb (not (usable u)) m (size t) (size u) h e) f.earlier)
    (next (or_right (not (usable t)) (leb m (size t)) (le-leb m (size t) h))
    (each_map (λ u e. or-leb' (not (usable u)) m (size t) (size u) h e) f.later)))

-- "fewest octets"
pub least : {usable : ℕ → Bool} {size : ℕ → ℕ} {order : List ℕ} {t : ℕ} → FirstLeast usable size order t
    → Each (λ u. not (usable u) || leb (size t) (size u)) order
least {size = size} {t = t} f = none-less (size t) (omega arith) f

weaken : (a b x : Bool) → (a ≡ true → b ≡ true) → not b || x ≡ true → not a || x ≡ true
weaken false b x h e = refl
weaken true b x h e = rw (h refl) at e

-- where more can be used, the least is no greater
pub wider-least : {can could : ℕ → Bool} {size : ℕ → ℕ} {order : List ℕ} {t u : ℕ} → ((v : ℕ) → can v ≡ true → could v ≡ true)
    → FirstLeast can size order t → FirstLeast could size order u → size u ≤ size t
wider-least {size = size} {t = t} {u = u} h f g =
    let there = each_at f.before t f.after (rw f.stands at (least g)) in
    leb-true (size u) (size t) (rw (h t f.ok) at there)

-- and the first least of more, where it can be used among fewer, is theirs
pub first-of-fewer : {can could : ℕ → Bool} {size : ℕ → ℕ} {order : List ℕ} {t : ℕ} → ((v : ℕ) → can v ≡ true → could v ≡ true)
    → can t ≡ true → FirstLeast could size order t → FirstLeast can size order t
first-of-fewer {can} {could} h k f = record {
  before = f.before;
  after = f.after;
  stands = f.stands;
  ok = k;
  earlier = each_map (λ v e. weaken (can v) (could v) _ (h v) e) f.earlier;
  later = each_map (λ v e. weaken (can v) (could v) _ (h v) e) f.later;
}

-- the first least is one
module _ (can : ℕ → Bool) (size : ℕ → ℕ) where
  abbrev Less : ℕ → ℕ → Bool
  Less t u = not (can u) || ltb (size t) (size u)

  abbrev NoMore : ℕ → ℕ → Bool
  NoMore t u = not (can u) || leb (size t) (size u)

  -- it can't stand before another, and not behind it
  apart : {X : Type 0} {t u : ℕ} (before after : List ℕ) → can t ≡ true → can u ≡ true → ltb (size u) (size t) ≡ true
      → Each (NoMore t) (before ++ (u ∷ after)) → X
  apart {t = t} {u = u} before after h k less all =
      let there = rw k at (each_at before u after all) in
      absurd (omega (arith, ltb-true (size u) (size t) less, leb-true (size t) (size u) there))

  same_place : {t u : ℕ} (before before' after after' : List ℕ) → before ++ (t ∷ after) ≡ before' ++ (u ∷ after')
      → can t ≡ true → can u ≡ true
      → Each (Less t) before → Each (NoMore t) after → Each (Less u) before' → Each (NoMore u) after' → t ≡ u
  same_place [] [] after after' e h k a b c d = cc
  same_place {t} {u} [] (x ∷ before') after after' e h k a b (next c c') d =
      let head : t ≡ x = cc in
      let tail : after ≡ before' ++ (u ∷ after') = cc in
      apart before' after' h k (rw (← head, h) at c) (rw tail at b)
  same_place {t} {u} (x ∷ before) [] after after' e h k (next a a') b c d =
      let head : x ≡ u = cc in
      let tail : before ++ (t ∷ after) ≡ after' = cc in
      apart before after k h (rw (head, k) at a) (rw (← tail) at d)
  same_place {t} {u} (x ∷ before) (y ∷ before') after after' e h k (next a a') b (next c c') d =
      let tail : before ++ (t ∷ after) ≡ before' ++ (u ∷ after') = cc in
      same_place before before' after after' tail h k a' b c' d

  pub one-first-least : {order : List ℕ} {t u : ℕ} → FirstLeast can size order t → FirstLeast can size order u → t ≡ u
  one-first-least f g =
      same_place f.before g.before f.after g.after (sym f.stands ∙ g.stands) f.ok g.ok f.earlier
      f.later g.earlier g.later

-- a tool that the set holds and that applies
abbrev pub usable : ℕ → ℕ → List ℕ → ℕ → Bool
usable mask set s t = holds set t && applies mask t s

step : (can : ℕ → Bool) (size : ℕ → ℕ) (t c : ℕ) (order : List ℕ) (a b : Bool) → can t ≡ a → leb (size t) (size c) ≡ b
    → FirstLeast can size order c → FirstLeast can size (t ∷ order) (cond (a && b) t c)
step can size t c order true true e g f =
    record {
      before = [];
      after = order;
      stands = refl;
      ok = e;
      earlier = nothing;
      later = none-less (size t) (leb-true (size t) (size c) g) f;
    }
step can size t c order true false e g f =
    record {
      before = t ∷ f.before;
      after = f.after;
      stands = ap (λ l. t ∷ l) f.stands;
      ok = f.ok;
      earlier = next {x = t} (rw (e, lt-ltb (size c) (size t) (leb-false (size t) (size c) g)) refl) f.earlier;
      later = f.later;
    }
step can size t c order false b e g f =
    record {
      before = t ∷ f.before;
      after = f.after;
      stands = ap (λ l. t ∷ l) f.stands;
      ok = f.ok;
      earlier = next {x = t} (rw e refl) f.earlier;
      later = f.later;
    }

pub choose-least : (mask set : ℕ) (s ts : List ℕ) → holds set 1 ≡ true
    → FirstLeast (usable mask set s) (octets_of_form mask s) (ts ++ (1 ∷ [])) (choose mask set s ts)
unfolding choose applies
choose-least mask set s [] h = record { before = []; after = []; stands = refl; ok = rw h refl; earlier = nothing; later = nothing }
choose-least mask set s (t ∷ ts) h =
    let best = choose mask set s ts in
    let test = leb (octets_of_form mask s t) (octets_of_form mask s best) in
    step (usable mask set s) (octets_of_form mask s) t best (ts ++ (1 ∷ [])) (usable mask set s t) test refl refl
    (choose-least mask set s ts h)

-- the order plus, minus, constant, binary, Rice, value-location, fractional-bit (R-14), uncompressed
abbrev pub order : List ℕ
order = tie_order ++ (1 ∷ [])

pub writer-holds : (set : ℕ) → is_writer_set set ≡ true → holds set 1 ≡ true
unfolding holds
writer-holds set e =
    let odd = eqb-true (set % 2) 1 (and_right (is_set set) (eqb (set % 2) 1) e) in
    eq-eqb (set / 1 % 2) 1 (omega arith)

-- The writer's choice
pub chosen-first-least : (mask set : ℕ) (s : List ℕ) → is_writer_set set ≡ true
    → FirstLeast (usable mask set s) (octets_of_form mask s) order (chosen_tool mask set s)
chosen-first-least mask set s h = choose-least mask set s tie_order (writer-holds set h)

-- it is one of the tools, the set holds it and it applies
pub record Usable (mask set : ℕ) (s : List ℕ) (t : ℕ) : Type 0 where
  pub is : is_tool t ≡ true
  pub held : holds set t ≡ true
  pub fits : applies mask t s ≡ true

pub chosen-usable : (mask set : ℕ) (s : List ℕ) → is_writer_set set ≡ true → Usable mask set s (chosen_tool mask set s)
chosen-usable mask set s h =
    let t = chosen_tool mask set s in
    let f = chosen-first-least mask set s h in
    record {
      is = each_at f.before t f.after (rw f.stands at (each_all (λ u. is_tool u) order refl));
      held = and_left (holds set t) (applies mask t s) f.ok;
      fits = and_right (holds set t) (applies mask t s) f.ok;
    }

-- none of the set's tools that apply has fewer octets
pub chosen-least : (mask set : ℕ) (s : List ℕ) → is_writer_set set ≡ true
    → Each (λ u. not (usable mask set s u) || leb (octets_of_form mask s (chosen_tool mask set s)) (octets_of_form mask s u)) order
chosen-least mask set s h = least (chosen-first-least mask set s h)
