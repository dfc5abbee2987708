-- A turn of the loop over runs.
use Prim.Native.Nat.{ℕ, zero, suc, ◌+◌, ◌*◌, ◌-◌, ◌≤◌, ◌<◌}
use mathlib.Core.Path.{◌≡◌, refl, sym, ap, ◌∙◌}
use mathlib.Core.List.{List, [], ◌∷◌, ◌++◌, append-nil}
use mathlib.Core.Bool.{Bool, true, false, cond}
use native.Mathlib.Omega.{arith}
use native.Mathlib.Nat.{sub-zero}
use native.Mathlib.Decide.{dec_le}
use lib.ListN.{length, set, replicate, length-append, length-replicate}
use lib.Dec.{eqb, ltb}
use borrow.Author.Tests.{lt-ltb, le-ltb, le-leb, lt-leb, eq-eqb, ne_eqb}
use Rattle.rules.specs.declared.Refusal.{Refusal}
use Rattle.rules.specs.declared.Refusal.TheVariants.{Run}
use Rattle.rules.specs.Reading.{Read, Reader, whole, refuse, and_then, give, fail}
use Rattle.rules.specs.Runs.{rice, runs_from}
use Rattle.rules.specs.Chooses.{count_of}
use Rattle.read_bits.specs.Outcomes.{got, stop}
use Rattle.read_runs.specs.Flagged.{one_run, Put, MarksCells}
use Rattle.read_runs.specs.declared.Reach.{Reach}
use Rattle.read_runs.specs.Reached.{Filled, Reaches, end_of}
use Rattle.read_runs.proofs.Answer.{marks-refused}
use Rattle.read_runs.proofs.Ones.{marked-run}
use Rattle.read_runs.proofs.Marking.{marking-none, marking-room, marking-mark, marking-all}

-- a run is judged by the places left
module _ (bits : List ℕ) (n s left at : ℕ) {v next : ℕ} (e : rice n s bits at ≡ whole v next) where
  pub run_long : left < v → one_run n s left bits at ≡ refuse Run at
  unfolding one_run
  run_long h = rw (e, lt-ltb left v h)

  pub run_fits : v ≤ left → one_run n s left bits at ≡ whole v next
  unfolding one_run
  run_fits h = rw (e, le-ltb left v h)

-- a run, and what follows it
abbrev runs_on : ℕ → ℕ → ℕ → ℕ → List ℕ → ℕ → Reader (List ℕ)
runs_on n s more left done v =
    cond (eqb v left) (give (done ++ replicate v 0)) (runs_from n s more (left - (v + 1)) (done ++ (replicate v 0 ++ (1 ∷ []))))

runs-step : (bits : List ℕ) (n s more left : ℕ) (done : List ℕ) (at : ℕ) → 0 < left → runs_from n s (suc more) left done bits at
    ≡ and_then (one_run n s left bits at) (λ v j. runs_on n s more left done v bits j)
unfolding runs_from one_run
runs-step bits n s more left done at h = rw (ne_eqb left 0 (λ z. omega arith)) (go (rice n s bits at))
  where
    go2 : (v j : ℕ) (b : Bool) → cond b (fail Run at) (runs_on n s more left done v) bits j
        ≡ and_then (cond b (fail Run at) (give v) bits j) (λ v j. runs_on n s more left done v bits j)
    go2 v j true = refl
    go2 v j false = refl

    go : (r : Read ℕ) → and_then r (λ v j. cond (ltb left v) (fail Run at) (runs_on n s more left done v) bits j)
        ≡ and_then (and_then r (λ v j. cond (ltb left v) (fail Run at) (give v) bits j)) (λ v j. runs_on n s more left done v bits j)
    go (whole v j) = go2 v j (ltb left v)
    go (refuse w b) = refl

pub filled_none : (bits : List ℕ) (at n s : ℕ) {d common : ℕ} (other : ℕ) {old cells : List ℕ}
    → Put old 0 (replicate d common) cells → d ≤ 320 → length old ≡ 320 → Filled bits at n s d common other cells cells 0 0 at
unfolding count_of
filled_none bits at n s other p f b =
    record {
      done = [];
      so_far = rw sub-zero;
      marking = marking-none other p f b;
      size = refl;
      ones = refl;
      fuel = omega arith;
      within = omega arith;
      near = omega arith;
    }

module _ {bits : List ℕ} {at n s d common other : ℕ} {old cells : List ℕ} {filled count place : ℕ}
    (f : Filled bits at n s d common other old cells filled count place) where
  -- all places are filled
  pub runs-filled : d ≤ filled → MarksCells (runs_from n s d d [] bits at) d (at + 330 * d) common other old cells (got count place)
  unfolding runs_from
  runs-filled h =
      let w = f.within in
      let y = f.fuel in
      let x = f.near in
      let z = f.size in
      let e : d - filled ≡ 0 = omega arith in
      marking-all f.marking 0 (omega arith)
      (f.so_far ∙ rw e (ended (d - count)) ∙ ap (λ (l : List ℕ). whole l place) (sym (append-nil f.done)))
      f.ones (omega arith)
    where
      ended : (more : ℕ) → runs_from n s more 0 f.done bits place ≡ whole f.done place
      ended zero = refl
      ended (suc more) = refl

  module _ (h : filled < d) where
    fuel-left : d - count ≡ suc (d - (count + 1))
    fuel-left = let w = f.fuel in omega arith

    stepped : {r : Read ℕ} → one_run n s (d - filled) bits place ≡ r → runs_from n s d d [] bits at
        ≡ and_then r (λ v j. runs_on n s (d - (count + 1)) (d - filled) f.done v bits j)
    stepped e = f.so_far ∙ rw (fuel-left, ← e) (runs-step bits n s (d - (count + 1)) (d - filled) f.done place (omega arith))

    pub runs-refused : {w : Refusal} {b : ℕ} → one_run n s (d - filled) bits place ≡ refuse w b
        → MarksCells (runs_from n s d d [] bits at) d (at + 330 * d) common other old cells (stop w b)
    runs-refused e = marks-refused (marking-room f.marking) (stepped e)

    module _ {v next : ℕ} (e : one_run n s (d - filled) bits place ≡ whole v next) where
      pub runs_closed : v ≡ d - filled → next ≤ place + 330 → MarksCells (runs_from n s d d [] bits at) d (at + 330 * d)
          common other old cells (got count next)
      runs_closed l b =
          let w = f.within in
          let y = f.fuel in
          let x = f.near in
          let z = f.size in
          marking-all f.marking v (omega arith) (stepped e ∙ rw (eq-eqb v (d - filled) l)) f.ones (omega arith)

      pub runs-turn : v ≤ d - filled → (v ≡ d - filled → ⊥) → next ≤ place + 330
          → Filled bits at n s d common other old (set cells (filled + v) other) (filled + (v + 1)) (count + 1) next
      runs-turn l m b =
          let w = f.within in
          let z = f.size in
          let r : d - filled - (v + 1) ≡ d - (filled + (v + 1)) = omega arith in
          record {
            done = f.done ++ (replicate v 0 ++ (1 ∷ []));
            so_far = stepped e ∙ rw (ne_eqb v (d - filled) m, r);
            marking = rw z at (marking-mark f.marking v (omega arith));
            size = simp (length-append, length-replicate) (omega arith);
            ones = marked-run f.done v ∙ ap (λ (x : ℕ). x + 1) f.ones;
            fuel = let y = f.fuel in omega arith;
            within = omega arith;
            near = let y = f.near in omega arith;
          }

-- a run that reaches the end of the places, or the end itself
pub runs-ended : {bits : List ℕ} {at n s d common other : ℕ} {old cells : List ℕ} {filled count place : ℕ} {run : Reach}
    → Filled bits at n s d common other old cells filled count place → Reaches bits n s d filled place run
    → MarksCells (runs_from n s d d [] bits at) d (at + 330 * d) common other old cells (end_of d filled count place run)
runs-ended {bits} {at} {n} {s} {d} {common} {other} {old} {cells} {filled} {count} {place} {run} f r =
    go (dec_le d filled) (dec_le run.past d)
  where
    go : Dec (d ≤ filled) → Dec (run.past ≤ d) → MarksCells (runs_from n s d d [] bits at) d (at + 330 * d) common other
        old cells (end_of d filled count place run)
    go (yes h) k = rw (le-leb d filled h) (runs-filled f h)
    go (no h) (no k) =
        rw (lt-leb d filled (omega arith), lt-ltb d run.past (omega arith))
        (runs-refused f (omega arith) (run_long bits n s (d - filled) place r.code (omega (arith, r.from))))
    go (no h) (yes k) =
        let e = r.end in
        let l = r.from in
        rw (lt-leb d filled (omega arith), le-ltb d run.past k)
        (runs_closed f (omega arith) (run_fits bits n s (d - filled) place r.code (omega arith)) (omega arith) (omega (arith, r.small)))
