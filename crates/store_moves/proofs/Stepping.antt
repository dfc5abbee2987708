-- A step, as the code makes it (`step-direct`, `step-lift`, `step-lay`), and what a sane record says (`moving-tells`, `lifted-tells`).
use Prim.Native.Nat.{ℕ, ◌+◌, ◌-◌, ◌≤◌, ◌<◌, min}
use mathlib.Core.Path.{◌≡◌, sym, ap, ◌∙◌}
use mathlib.Core.List.{List, ◌++◌, append_assoc}
use native.Mathlib.Omega.{arith}
use lib.ListN.{length, take, drop, length-drop}
use lib.Seq.{paste, length-take-le}
use borrow.Author.Tests.{le-leb, lt-leb}
use Rattle.store_rows.specs.Changed.{written}
use Rattle.store_moves.specs.declared.steps.Move.{Move}
use Rattle.store_moves.specs.declared.steps.State.{State}
use Rattle.store_moves.specs.declared.steps.State.TheVariants.{Still, Moving, Lifted}
use Rattle.store_moves.specs.Moves.{lasts, distance, left, source, place, hop, lift, done_more, onward, stepped, Tells, Sane}
use Rattle.store_moves.specs.Moves.{sane-moving, sane-lifted}

pub onward-end : (m : Move) (k : ℕ) → m.octets ≤ m.done + k → Still ≡ onward m k
unfolding onward
onward-end m k h = rw (le-leb m.octets (m.done + k) h)

pub onward-more : (m : Move) (k : ℕ) → m.done + k < m.octets → Moving (done_more m k) ≡ onward m k
unfolding onward
onward-more m k h = rw (lt-leb m.octets (m.done + k) h)

pub step-still : {st : State} (b s : List ℕ) → st ≡ Still → stepped b s st ≡ lasts b s Still
unfolding stepped
step-still b s e = ap (λ (x : State). stepped b s x) e

-- octets laid as they were lifted are pasted
pub laid-paste : {b' ys : List ℕ} (b xs : List ℕ) (at n : ℕ) → n ≤ length xs → ys ≡ take n xs → b' ≡ written b at ys → b' ≡ paste b at xs n
unfolding written
laid-paste b xs at n h e f =
    let l : length (take n xs) ≡ n = length-take-le n xs h in
    f ∙ ap (λ (y : List ℕ). take at b ++ (y ++ drop (at + length y) b)) e ∙ ap (λ (k : ℕ). take at b ++ (take n xs ++ drop (at + k) b)) l
    ∙ sym (append_assoc (take at b) (take n xs) (drop (at + n) b))

module _ (b s : List ℕ) (m : Move) where
  pub step-direct : {b' : List ℕ} {k : ℕ} {r : State} → length s ≤ distance m → k ≡ min (left m) (distance m)
      → b' ≡ paste b (place m) (drop (source m) b) k → r ≡ onward m k → stepped b s (Moving m) ≡ lasts b' s r
  unfolding stepped hop
  step-direct h e f g = rw (le-leb (length s) (distance m) h, ← e, f, g)

  -- the spare gets the octets from the source up to an end
  pub step-lift : {s' xs : List ℕ} {k : ℕ} → Tells b m → distance m < length s → k ≡ min (left m) (length s)
      → xs ≡ take (source m + k - source m) (drop (source m) b) → s' ≡ written s 0 xs → stepped b s (Moving m) ≡ lasts b s' (Lifted m)
  unfolding stepped lift
  step-lift {k = k} t h e x f =
      let i = t.inside in
      let o = t.some in
      let z : source m + k - source m ≡ k = omega arith in
      let p = laid-paste s (drop (source m) b) 0 k (omega (arith, e, length-drop (source m) b))
      (x ∙ ap (λ (y : ℕ). take y (drop (source m) b)) z) f in
      rw (lt-leb (length s) (distance m) h, ← e, p)

  pub step-lay : {b' ys : List ℕ} {k : ℕ} {r : State} → k ≡ min (left m) (length s) → ys ≡ take k s → b' ≡ written b (place m) ys
      → r ≡ onward m k → stepped b s (Lifted m) ≡ lasts b' s r
  unfolding stepped lift
  step-lay {k = k} e y f g =
      let p = laid-paste b s (place m) k (omega (arith, e)) y f in
      rw (← e, p, g)

pub moving-tells : {b s : List ℕ} {m : Move} → Sane b s (Moving m) → Tells b m
moving-tells (sane-moving t) = t

pub lifted-tells : {b s : List ℕ} {m : Move} → Sane b s (Lifted m) → Tells b m × (distance m < length s)
lifted-tells (sane-lifted t d) = (t, d)
