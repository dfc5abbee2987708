-- Rice codes and runs are read back.
use Prim.Native.Nat.{ℕ, zero, suc, ◌+◌, ◌*◌, ◌-◌, ◌^◌, ◌/◌, ◌%◌, ◌≤◌, ◌<◌}
use native.Mathlib.Omega.{arith}
use native.Mathlib.Nat.{not-suc-le-zero, div-add-mod'}
use lib.Pow.{shr_le}
use mathlib.Core.Path.{◌≡◌, refl, sym}
use mathlib.Core.List.{List, [], ◌∷◌, ◌++◌, append_assoc, append-nil}
use lib.ListN.{length, replicate, replicate-append-replicate}
use borrow.Author.Tests.{le-ltb, eq-eqb, ne_eqb}
use Rattle.rules.specs.Bits.{low_bits}
use Rattle.rules.specs.Runs.{zeros_from, rice, rice_form, runs_from, runs, runs_of, rice_forms, runs_form}
use Rattle.rules.proofs.Octets.{Below, more}
use Rattle.promises.proofs.Back.{Back, back-give, back-bind, back-bit, back-here, back_as, back-number_from}

back-zeros : (start k left j : ℕ) → j < left → Back (zeros_from start k left) (replicate j 0 ++ (1 ∷ [])) (k + j)
unfolding zeros_from
back-zeros start k zero j h = absurd (not-suc-le-zero h)
back-zeros start k (suc left) zero h = back-bit _ 1 (back_as (back-give k) refl refl (omega arith))
back-zeros start k (suc left) (suc j) h = back-bit _ 0 (back_as (back-zeros start (k + 1) left j (omega arith)) refl refl (omega arith))

-- a Rice code whose zeros are at most the frame's length
pub back-rice : (n s v : ℕ) → v ≤ n → Back (rice n s) (rice_form s v) v
unfolding rice rice_form
back-rice n s v h =
    back-here _ (λ start. back_as
    (back-bind _ _ (back-zeros start 0 (n + 1) (v / 2 ^ s) (omega (arith, shr_le v s)))
    (back-bind _ _ (back-number_from 0 s v) (back-give ((0 + v / 2 ^ s) * 2 ^ s + (0 * 2 ^ s + v % 2 ^ s))))) refl
    (rw (append-nil) (append_assoc (replicate (v / 2 ^ s) 0) (1 ∷ []) (low_bits s v)))
    (omega (arith, div-add-mod' v (2 ^ s))))

runs_none : (n s fuel left : ℕ) (done : List ℕ) → left ≡ 0 → Back (runs_from n s fuel left done) [] done
unfolding runs_from
runs_none n s zero left done e = back-give done
runs_none n s (suc fuel) left done e = rw (eq-eqb left 0 e) (back-give done)

-- a run up to the last place
runs_last : (n s fuel left v : ℕ) (done : List ℕ) → left ≡ v → 0 < v → v ≤ n
    → Back (runs_from n s (suc fuel) left done) (rice_form s v) (done ++ replicate v 0)
unfolding runs_from
runs_last n s fuel left v done e h hn =
    rw (ne_eqb left 0 (omega arith))
    (back-here _ (λ start. back_as (back-bind _ _ (back-rice n s v hn)
    (rw (le-ltb left v (omega arith), eq-eqb v left (sym e)) (back-give (done ++ replicate v 0)))) refl (append-nil (rice_form s v)) refl))

-- a run and its closing place, then the rest
runs-step : (n s fuel left v : ℕ) (done : List ℕ) {b w : List ℕ} → v < left → v ≤ n
    → Back (runs_from n s fuel (left - (v + 1)) (done ++ (replicate v 0 ++ (1 ∷ [])))) b w
    → Back (runs_from n s (suc fuel) left done) (rice_form s v ++ b) w
unfolding runs_from
runs-step n s fuel left v done h hn t =
    rw (ne_eqb left 0 (omega arith))
    (back-here _ (λ start. back-bind _ _ (back-rice n s v hn)
    (rw (le-ltb left v (omega arith), ne_eqb v left (omega arith)) t)))

pub replicate-snoc : (c : ℕ) (x : ℕ) (l : List ℕ) → replicate (c + 1) x ++ l ≡ replicate c x ++ (x ∷ l)
replicate-snoc c x l = rw (← (replicate-append-replicate c 1 x)) (append_assoc (replicate c x) (x ∷ []) l)

-- the runs of flags, c common places being open
back-runs_from : (n s fuel c left : ℕ) (done flags : List ℕ) → Below 2 flags → left ≡ c + length flags → left ≤ fuel → left ≤ n
    → Back (runs_from n s fuel left done) (rice_forms s (runs_of c flags)) (done ++ (replicate c 0 ++ flags))
unfolding runs_of rice_forms
back-runs_from n s fuel zero left done [] b e hf hn = rw (append-nil done) (runs_none n s fuel left done (omega arith))
back-runs_from n s zero (suc c) left done [] b e hf hn = absurd (not-suc-le-zero {n = c} (omega arith))
back-runs_from n s (suc fuel) (suc c) left done [] b e hf hn =
    rw (append-nil {A = ℕ} (replicate c 0), append-nil (rice_form s (suc c)))
    (runs_last n s fuel left (suc c) done (omega arith) (omega arith) (omega arith))
back-runs_from n s fuel c left done (zero ∷ flags) (more h b) e hf hn =
    rw (← (replicate-snoc c 0 flags)) (back-runs_from n s fuel (c + 1) left done flags b (omega arith) hf hn)
back-runs_from n s zero c left done (suc f ∷ flags) (more h b) e hf hn = absurd (not-suc-le-zero {n = c} (omega arith))
back-runs_from n s (suc fuel) c left done (suc f ∷ flags) (more h b) e hf hn =
    let z : f ≡ 0 = omega arith in
    rw (z) (runs-step n s fuel left c done (omega arith) (omega arith)
    (back_as (back-runs_from n s fuel 0 (left - (c + 1)) (done ++ (replicate c 0 ++ (1 ∷ []))) flags b (omega arith)
    (omega arith) (omega arith))
    refl refl (simp append_assoc)))

-- runs over the places of a frame of n
pub back-runs : (n s : ℕ) (flags : List ℕ) → Below 2 flags → length flags ≤ n → Back (runs n s (length flags)) (runs_form s flags) flags
back-runs n s flags b h = back-runs_from n s (length flags) 0 (length flags) [] flags b (omega arith) (omega arith) h
