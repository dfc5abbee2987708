-- Laws of a value's places from its runs.
use Prim.Native.Nat.{ℕ, zero, suc, ◌+◌, ◌-◌, ◌^◌, ◌/◌, ◌≤◌, ◌<◌}
use mathlib.Core.Path.{◌≡◌, refl, sym, ap, ◌∙◌}
use mathlib.Core.List.{List, [], ◌∷◌, ◌++◌, append-nil, append_assoc}
use mathlib.Core.Bool.{Bool, true, false, cond}
use native.Mathlib.Omega.{arith}
use native.Mathlib.Numerals.{add-one}
use native.Mathlib.Nat.{zero-add}
use borrow.Author.Tests.{ne_eqb, le-leb, lt-leb, eqb-true, eqb-false, leb-true, leb-false}
use lib.ListN.{length, get_or, take, drop, replicate}
use lib.ListN.{length-append, length-replicate, replicate-append-replicate, get_or-eq_default, drop_of_length-le}
use lib.Seq.{drop-cons, length-take-le}
use lib.Dec.{eqb, leb}
use Rattle.rules.specs.Bits.{low_bits}
use Rattle.rules.specs.Runs.{runs_of, rice_form, rice_forms}
use Rattle.rules.specs.Located.{width_of}
use Rattle.rules.specs.Chooses.{count_of, places_of, numbers_form, method_of, value_form}
use Rattle.rules.proofs.Octets.{length-low_bits, Below, none, more, below_all, below_at}
use Rattle.write_runs.proofs.Finding.{runs-common, runs_other}
use Rattle.write_located.specs.Ways.{FlagsAre}
use Rattle.write_bits.specs.declared.pen.Pen.{Pen}
use Rattle.write_bits.specs.Puts.{Able, Puts}
use Rattle.write_bits.proofs.Putting.{puts_none, puts_then, puts-as, able-then}
use Rattle.write_forms.specs.Ways.{places_by, listed_form, marks_form, way_form, WayReady}
use Rattle.write_forms.proofs.Values.{value-absent, value-plain, value-runs, listed, value-listed}

-- how many flags are 1
abbrev ones : List ℕ → ℕ
ones flags = count_of (λ f. eqb f 1) flags

ones-zero : (l : List ℕ) → ones (0 ∷ l) ≡ ones l
unfolding count_of
ones-zero l = zero-add _

ones-one : (l : List ℕ) → ones (1 ∷ l) ≡ suc (ones l)
unfolding count_of
ones-one l = omega arith

-- a run with S = 0
run_alone : (c : ℕ) → rice_form 0 c ≡ replicate c 0 ++ (1 ∷ [])
unfolding rice_form low_bits
run_alone c = let e : c / 1 ≡ c = omega arith in rw e

one_more : (c : ℕ) (l : List ℕ) → replicate (c + 1) 0 ++ l ≡ replicate c 0 ++ (0 ∷ l)
one_more c l = rw (← (replicate-append-replicate {A = ℕ} c 1 0), append_assoc)

-- flags are their runs, c places being open
marks-are : (c : ℕ) {flags : List ℕ} → Below 2 flags → marks_form (ones flags) (runs_of c flags) ≡ replicate c 0 ++ flags
unfolding runs_of rice_forms count_of
marks-are zero none = refl
marks-are (suc c) none = sym (append-nil _)
marks-are c (more {x = zero} {l = l} h t) = rw (runs-common c l, ones-zero l) (marks-are (c + 1) t ∙ one_more c l)
marks-are c (more {x = suc zero} {l = l} h t) =
    rw (runs_other c 0 l, ones-one l, run_alone c, append_assoc, append_assoc, marks-are 0 t)
marks-are c (more {x = suc (suc x)} h t) = absurd (omega arith)

-- and so are their places
places-are : (p c : ℕ) {flags : List ℕ} → Below 2 flags → places_by p (take (ones flags) (runs_of c flags)) ≡ places_of (p + c) flags
unfolding runs_of places_by places_of count_of
places-are p zero none = refl
places-are p (suc c) none = refl
places-are p c (more {x = zero} {l = l} h t) =
    let e : p + (c + 1) ≡ p + c + 1 = omega arith in
    rw (runs-common c l, ones-zero l) (places-are p (c + 1) t ∙ ap (λ (i : ℕ). places_of i l) e)
places-are p c (more {x = suc zero} {l = l} h t) =
    let e : p + c + 1 + 0 ≡ p + c + 1 = omega arith in
    rw (runs_other c 0 l, ones-one l) (ap (λ (r : List ℕ). (p + c) ∷ r) (places-are (p + c + 1) 0 t ∙ ap (λ (i : ℕ). places_of i l) e))
places-are p c (more {x = suc (suc x)} h t) = absurd (omega arith)

places-below : (p : ℕ) (flags : List ℕ) → Below (p + length flags) (places_of p flags)
unfolding places_of
places-below p [] = none
places-below p (zero ∷ flags) = let e : p + 1 + length flags ≡ p + suc (length flags) = omega arith in rw e at (places-below (p + 1) flags)
places-below p (suc f ∷ flags) =
    let e : p + 1 + length flags ≡ p + suc (length flags) = omega arith in
    let h : p < p + suc (length flags) = omega arith in
    more h (rw e at (places-below (p + 1) flags))

runs-enough : (c : ℕ) {flags : List ℕ} → Below 2 flags → ones flags ≤ length (runs_of c flags)
unfolding count_of
runs-enough c none = omega arith
runs-enough c (more {x = zero} {l = l} h t) = rw (runs-common c l, ones-zero l) (runs-enough (c + 1) t)
runs-enough c (more {x = suc zero} {l = l} h t) = rw (runs_other c 0 l, ones-one l) (omega (arith, runs-enough 0 t))
runs-enough c (more {x = suc (suc x)} h t) = absurd (omega arith)

some-flags : (flags : List ℕ) → 1 ≤ ones flags → 1 ≤ length flags
unfolding count_of
some-flags [] h = absurd (omega arith)
some-flags (f ∷ flags) h = omega arith

module _ {flags runs : List ℕ} {d count m : ℕ} (e : runs_of 0 flags ≡ runs) (f : FlagsAre flags d count) (method : m ≡ method_of flags) where
  bits : Below 2 flags
  bits = below_all flags f.bits

  marks : marks_form count runs ≡ flags
  marks = rw (← e, f.ones) (marks-are 0 bits)

  places : places_by 0 (take count runs) ≡ places_of 0 flags
  places = rw (← e, f.ones) (places-are 0 0 bits)

  -- what is put from the runs is the value's form
  pub way-form : way_form m d count runs ≡ value_form flags
  unfolding way_form
  way-form = go (eqb m 5) (eqb m 0) (leb m 4) (eqb-true m 5) (eqb-false m 5) (eqb-true m 0) (eqb-false m 0) (leb-true m 4) (leb-false m 4)
    where
      go : (a b c : Bool) → (a ≡ true → m ≡ 5) → (a ≡ false → m ≡ 5 → ⊥) → (b ≡ true → m ≡ 0) → (b ≡ false → m ≡ 0 → ⊥)
          → (c ≡ true → m ≤ 4) → (c ≡ false → 4 < m) → cond a (low_bits 3 5)
          (cond b (low_bits 3 0 ++ marks_form count runs)
          (cond c (low_bits 3 m ++ rice_forms m runs) (low_bits 5 (28 + count - 1) ++ listed_form (width_of d) count runs)))
          ≡ value_form flags
      go true b c h h' k k' l l' = value-absent flags method (h refl)
      go false true c h h' k k' l l' = ap (λ (x : List ℕ). low_bits 3 0 ++ x) marks ∙ value-plain flags method (k refl)
      go false false true h h' k k' l l' = value-runs flags method (k' refl) (l refl) refl refl (sym e)
      go false false false h h' k k' l l' =
          ap (λ (x : List ℕ). low_bits 5 (28 + count - 1) ++ numbers_form (width_of d) x) places
          ∙ value-listed flags method f.ones (h' refl) (l' refl) (ap width_of (sym f.size))

  pub way-ready : WayReady m d count runs
  way-ready =
      record {
        most = f.most;
        within = rw (← e, f.ones) (runs-enough 0 bits);
        listed = λ n high.
            (let l = listed flags method f.ones n high in
            let k : 1 ≤ length flags = some-flags flags (rw f.ones at l.some) in
            let b : Below (length flags) (places_of 0 flags) = rw zero-add at (places-below 0 flags) in
            record { some = l.some; few = l.few; places = λ i. rw (places, ← f.size) (below_at b k i) });
      }

-- the form by each method
module _ (m d count : ℕ) (runs : List ℕ) where
  pub way-absent : m ≡ 5 → low_bits 3 5 ≡ way_form m d count runs
  unfolding way_form
  way-absent h = rw h

  pub way-marks : m ≡ 0 → low_bits 3 0 ++ marks_form count runs ≡ way_form m d count runs
  unfolding way_form
  way-marks h = rw h

  pub way-runs : (m ≡ 0 → ⊥) → m ≤ 4 → {v s : ℕ} → v ≡ m → s ≡ m → low_bits 3 v ++ rice_forms s runs ≡ way_form m d count runs
  unfolding way_form
  way-runs n h e f =
      let five : m ≡ 5 → ⊥ = λ k. absurd (omega arith) in
      rw (ne_eqb m 5 five, ne_eqb m 0 n, le-leb m 4 h, e, f)

  pub way-listed : (m ≡ 5 → ⊥) → 4 < m → {w : ℕ} {l : List ℕ} → w ≡ width_of d → l ≡ take count runs
      → low_bits 5 (28 + count - 1) ++ numbers_form w (places_by 0 l) ≡ way_form m d count runs
  unfolding way_form
  way-listed n h e f =
      let none : m ≡ 0 → ⊥ = λ k. absurd (omega arith) in
      rw (ne_eqb m 5 n, ne_eqb m 0 none, lt-leb m 4 h, e, f)

-- so many runs are found
pub way-within : {m d count found : ℕ} (runs : List ℕ) → found ≤ 321 → length runs ≡ 321 → WayReady m d count (take found runs)
    → count ≤ found
way-within {found = found} runs h long r = omega (arith, r.within, length-take-le found runs (omega arith))

-- the runs that end, and what is open
module _ (count : ℕ) (runs : List ℕ) where
  pub marks-closed : length runs ≤ count → rice_forms 0 (take count runs) ≡ marks_form count runs
  marks-closed h =
      let z : get_or runs count 0 ≡ 0 = get_or-eq_default runs 0 h in
      rw (z, append-nil)

  pub marks-open : {v : ℕ} → v ≡ get_or runs count 0 → rice_forms 0 (take count runs) ++ replicate v 0 ≡ marks_form count runs
  marks-open e = rw e

  pub marks-length : length (rice_forms 0 (take count runs)) + get_or runs count 0 ≡ length (marks_form count runs)
  marks-length = rw (length-append, length-replicate)

-- places listed one after the other: what is put, and what is left to put
pub record ListedTurn (o : List ℕ) (p : Pen) (w : ℕ) (l o' : List ℕ) (p' : Pen) (at j : ℕ) : Type 0 where
  pub done : List ℕ
  pub puts : Puts o p done o' p'
  pub rest : done ++ numbers_form w (places_by at (drop j l)) ≡ numbers_form w (places_by 0 l)
  pub fits : (i : ℕ) → get_or (places_by at (drop j l)) i 0 < 2 ^ w
  pub small : at ≤ 2 ^ w
  pub size : length o' ≡ length o

pub listed_start : {o : List ℕ} {p : Pen} (w : ℕ) (l : List ℕ) → ((i : ℕ) → get_or (places_by 0 l) i 0 < 2 ^ w)
    → ListedTurn o p w l o p 0 0
listed_start w l f = record { done = []; puts = puts_none _ _; rest = refl; fits = f; small = omega arith; size = refl }

module _ {o o' : List ℕ} {p p' : Pen} {at j v : ℕ} (w : ℕ) (l : List ℕ) (t : ListedTurn o p w l o' p' at j)
    (h : j < length l) (e : v ≡ get_or l j 0) where
  next : drop j l ≡ v ∷ drop (j + 1) l
  next = rw (drop-cons l j 0 h, ← e, add-one j)

  later : places_by at (drop j l) ≡ (at + v) ∷ places_by (at + v + 1) (drop (j + 1) l)
  unfolding places_by
  later = rw next

  pub listed-fits : at + v < 2 ^ w
  listed-fits = rw later at (t.fits 0)

  parts : t.done ++ (low_bits w (at + v) ++ numbers_form w (places_by (at + v + 1) (drop (j + 1) l))) ≡ numbers_form w (places_by 0 l)
  unfolding numbers_form
  parts = rw later at t.rest

  pub listed-able : Able o p (length (numbers_form w (places_by 0 l))) → Able o' p' w
  listed-able a =
      let k = sym (ap length parts) ∙ length-append t.done _ in
      let n = length-append (low_bits w (at + v)) (numbers_form w (places_by (at + v + 1) (drop (j + 1) l))) in
      able-then w a t.puts t.size (omega (arith, k, n, length-low_bits w (at + v)))

  pub listed_then : {o'' : List ℕ} {p'' : Pen} → Puts o' p' (low_bits w (at + v)) o'' p'' → length o'' ≡ length o'
      → ListedTurn o p w l o'' p'' (at + v + 1) (j + 1)
  listed_then put size =
      record {
        done = t.done ++ low_bits w (at + v);
        puts = puts_then t.puts put;
        rest = append_assoc t.done (low_bits w (at + v)) (numbers_form w (places_by (at + v + 1) (drop (j + 1) l))) ∙ parts;
        fits = λ i. rw later at (t.fits (suc i));
        small = omega (arith, listed-fits);
        size = size ∙ t.size;
      }

pub listed-done : {o o' : List ℕ} {p p' : Pen} {at j : ℕ} (w : ℕ) (l : List ℕ) → ListedTurn o p w l o' p' at j → length l ≤ j
    → Puts o p (numbers_form w (places_by 0 l)) o' p'
unfolding places_by numbers_form
listed-done {j = j} w l t h =
    let e : drop j l ≡ [] = drop_of_length-le l h in
    puts-as t.puts (sym (append-nil t.done) ∙ rw e at t.rest)
