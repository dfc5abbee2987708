-- The law is not in the octets: read by both laws they give the same frames at the same places, with the same tools, bits and numbers of
-- samples, and the same end; only the samples' octets differ (`reads-alike`, `walks-alike`). So nothing but the sound tells a wrong law.
use Prim.Native.Nat.{ℕ, zero, suc, ◌+◌, ◌-◌}
use mathlib.Core.Path.{◌≡◌, refl, sym, ap, ap₂, subst, ◌∙◌}
use mathlib.Core.List.{List, [], ◌∷◌, map}
use mathlib.Core.Bool.{Bool, true, false, cond, not}
use lib.ListN.{length, get_or, drop, replicate, length-map, length-append, length-replicate}
use lib.Dec.{eqb, leb, ltb}
use borrow.Author.Tests.{eq-eqb}
use Rattle.rules.specs.declared.Refusal.{Refusal}
use Rattle.rules.specs.declared.Refusal.TheVariants.{Room, Case, Align, Prefix, Tool, Set, Long}
use Rattle.rules.specs.Refusals.{Ending}
use Rattle.std.proofs.Common.{Ok, Err}
use Rattle.rules.specs.Tools.{holds, is_set}
use Rattle.rules.specs.Bits.{bits_of, fill_for, octets_for}
use Rattle.rules.specs.Reading.{Read, whole, refuse, Reader, and_then, bit, number_from, bits_from, octets_after, filled}
use Rattle.rules.specs.First.{First, unassigned, pad, tool, fractional_row, six_or_eight, first_octet, mark_at, six_not_eight}
use Rattle.rules.specs.Samples.{sample_of, plus_zero, minus_zero}
use Rattle.rules.specs.Runs.{runs}
use Rattle.rules.specs.Zeros.{zero_of, constant, tree_of, read_tree, plus_minus}
use Rattle.rules.specs.Located.{RangeCase, case0, case1, case2, case3, case_of, values_of}
use Rattle.rules.specs.Located.{by_method, empty_in, lay, values_into, located}
use Rattle.rules.specs.Fractional.{radix, coding_of, groups_from, groups_as, samples_at, fractional}
use Rattle.rules.specs.Frame.{Found, octets_used, body, with_tool, after_first, frame, read_one}
use Rattle.rules.specs.Walk.{Delivered, Walked, stopped, before, onward, walk_from, longest, walk_all, samples_kept}

-- two readings side by side: whole, at one place, with values that belong together; or the same refusal at the same bit
pub data Beside {A : Type 0} (R : A → A → Type 0) : Read A → Read A → Type 0 where
  both : {a c : A} (i : ℕ) → R a c → Beside R (whole a i) (whole c i)
  stop : (w : Refusal) (at : ℕ) → Beside R (refuse w at) (refuse w at)

same : {A : Type 0} {R : A → A → Type 0} → ((a : A) → R a a) → (m : Read A) → Beside R m m
same r (whole a i) = both i (r a)
same r (refuse w at) = stop w at

-- after the same step, and after two that stand side by side
then_same : {A B : Type 0} {R : B → B → Type 0} (m : Read A) {f g : A → ℕ → Read B} → ((a : A) (i : ℕ) → Beside R (f a i) (g a i))
    → Beside R (and_then m f) (and_then m g)
then_same (whole a i) h = h a i
then_same (refuse w at) h = stop w at

then-beside : {A B : Type 0} {Q : A → A → Type 0} {R : B → B → Type 0} {m n : Read A} {f g : A → ℕ → Read B} → Beside Q m n
    → ((a c : A) (i : ℕ) → Q a c → Beside R (f a i) (g c i)) → Beside R (and_then m f) (and_then n g)
then-beside (both {a = a} {c = c} i q) h = h a c i q
then-beside (stop w at) h = stop w at

by-test : {A : Type 0} {R : A → A → Type 0} (t : Bool) (p q p' q' : Reader A) (b : List ℕ) (i : ℕ) → Beside R (p b i) (p' b i)
    → Beside R (q b i) (q' b i) → Beside R (cond t p q b i) (cond t p' q' b i)
by-test true p q p' q' b i g h = g
by-test false p q p' q' b i g h = h

-- as many samples
abbrev AsMany : List ℕ → List ℕ → Type 0
AsMany a c = length a ≡ length c

mapped : (f g : ℕ → ℕ) (l : List ℕ) → AsMany (map f l) (map g l)
mapped f g l = length-map l f ∙ sym (length-map l g)

-- cells, of which those that are empty stand at the same places
unfoldable Cells : ℕ → ℕ → List ℕ → List ℕ → Type 0
Cells z v [] [] = Unit {0}
Cells z v [] (y ∷ ys) = ⊥
Cells z v (x ∷ xs) [] = ⊥
Cells z v (x ∷ xs) (y ∷ ys) = (eqb x z ≡ eqb y v) × Cells z v xs ys

cells-long : (z v : ℕ) (xs ys : List ℕ) → Cells z v xs ys → AsMany xs ys
unfolding Cells
cells-long z v [] [] h = refl
cells-long z v [] (y ∷ ys) h = absurd h
cells-long z v (x ∷ xs) [] h = absurd h
cells-long z v (x ∷ xs) (y ∷ ys) h = ap suc (cells-long z v xs ys h.1)

cells-empty : (z v : ℕ) (xs ys : List ℕ) → Cells z v xs ys → empty_in z xs ≡ empty_in v ys
unfolding Cells empty_in
cells-empty z v [] [] h = refl
cells-empty z v [] (y ∷ ys) h = absurd h
cells-empty z v (x ∷ xs) [] h = absurd h
cells-empty z v (x ∷ xs) (y ∷ ys) h = ap₂ (λ (t : Bool) (n : ℕ). cond t 1 0 + n) h.0 (cells-empty z v xs ys h.1)

all-empty : (z v n : ℕ) → Cells z v (replicate n z) (replicate n v)
unfolding Cells
all-empty z v zero = tt
all-empty z v (suc n) = (eq-eqb z z refl ∙ sym (eq-eqb v v refl), all-empty z v n)

one-laid : (z v x y a c : ℕ) (f t : Bool) → eqb a z ≡ t → eqb c v ≡ t → eqb x z ≡ eqb y v
    → eqb (cond t (cond f x z) a) z ≡ eqb (cond t (cond f y v) c) v
one-laid z v x y a c true true p q e = e
one-laid z v x y a c false true p q e = eq-eqb z z refl ∙ sym (eq-eqb v v refl)
one-laid z v x y a c f false p q e = p ∙ sym q

cells-laid : (z v x y : ℕ) → eqb x z ≡ eqb y v → (flags : List ℕ) (p : ℕ) (xs ys : List ℕ) → Cells z v xs ys
    → Cells z v (lay z x flags p xs) (lay v y flags p ys)
unfolding Cells lay
cells-laid z v x y e flags p [] [] h = tt
cells-laid z v x y e flags p [] (c ∷ ys) h = absurd h
cells-laid z v x y e flags p (a ∷ xs) [] h = absurd h
cells-laid z v x y e flags p (a ∷ xs) (c ∷ ys) h =
    rw h.0 (
      one-laid z v x y a c (eqb (get_or flags p 0) 1) (eqb c v) h.0 refl e,
      cells-laid z v x y e flags (cond (eqb c v) (p + 1) p) xs ys h.1,
    )

-- tool 7's values in turn
values-beside : (n z v : ℕ) (xs ys cells rest : List ℕ) → Cells z v xs ys → Cells z v cells rest → (b : List ℕ) (i : ℕ)
    → Beside AsMany (values_into n z xs cells b i) (values_into n v ys rest b i)
unfolding values_into Cells
values-beside n z v [] [] cells rest k h b i = both i (cells-long z v cells rest h)
values-beside n z v [] (y ∷ ys) cells rest k h b i = absurd k
values-beside n z v (x ∷ xs) [] cells rest k h b i = absurd k
values-beside n z v (x ∷ xs) (y ∷ ys) cells rest k h b i =
    rw (cells-empty z v cells rest h)
    (then_same (number_from 0 3 b i) (λ m j. then_same (by_method n (empty_in v rest) i m b j) (λ flags l.
    values-beside n z v xs ys (lay z x flags 0 cells) (lay v y flags 0 rest) k.1
    (cells-laid z v x y k.0 flags 0 cells rest h) b l)))

-- the masks of both laws
abbrev a_law : ℕ
a_law = 0x55

abbrev mu-law : ℕ
mu-law = 0x7F

-- no value of a row is plus zero, by either
row-beside : (r s t l f : Bool) (row : RangeCase) → row ≡ cond r case0 (cond s case1 (cond t case2 case3))
    → Cells (plus_zero a_law) (plus_zero mu-law) (map (sample_of a_law) (cond l (cond f row.flag1 row.flag0) []))
    (map (sample_of mu-law) (cond l (cond f row.flag1 row.flag0) []))
unfolding Cells sample_of
row-beside r s t false f row e = tt
row-beside true s t true true row e = rw e (refl, (refl, (refl, tt)))
row-beside true s t true false row e = rw e (refl, (refl, (refl, tt)))
row-beside false true t true true row e = rw e (refl, (refl, tt))
row-beside false true t true false row e = rw e (refl, (refl, tt))
row-beside false false true true true row e = rw e tt
row-beside false false true true false row e = rw e (refl, (refl, tt))
row-beside false false false true true row e = rw e (refl, tt)
row-beside false false false true false row e = rw e tt

listed-beside : (n c flag : ℕ) → Cells (plus_zero a_law) (plus_zero mu-law) (map (sample_of a_law) (values_of n c flag))
    (map (sample_of mu-law) (values_of n c flag))
unfolding values_of case_of
listed-beside n c flag = row-beside (eqb c 0) (eqb c 1) (eqb c 2) (leb (case_of c).from n) (eqb flag 1) (case_of c) refl

located-beside : (n : ℕ) (b : List ℕ) (i : ℕ) → Beside AsMany (located a_law n b i) (located mu-law n b i)
unfolding located
located-beside n b i =
    then_same (number_from 0 2 b i) (λ c j. then_same (number_from 0 1 b j) (λ flag k.
    by-test (eqb (length (values_of n c flag)) 0) _ _ _ _ b k (stop Case i)
    (values-beside n (plus_zero a_law) (plus_zero mu-law)
    (map (sample_of a_law) (values_of n c flag)) (map (sample_of mu-law) (values_of n c flag))
    (replicate n (plus_zero a_law)) (replicate n (plus_zero mu-law)) (listed-beside n c flag)
    (all-empty (plus_zero a_law) (plus_zero mu-law) n) b k)))

replicated : (n x y : ℕ) → AsMany (replicate n x) (replicate n y)
replicated n x y = length-replicate n x ∙ sym (length-replicate n y)

-- the bodies
body-beside : (t n : ℕ) (b : List ℕ) (i : ℕ) → Beside AsMany (body a_law t n b i) (body mu-law t n b i)
unfolding body
body-beside t n b i =
    by-test (eqb t 1) _ _ _ _ b i (same (λ a. refl) (octets_after [] n b i))
    (by-test (eqb t 2) _ _ _ _ b i (both i (replicated n (plus_zero a_law) (plus_zero mu-law)))
    (by-test (eqb t 3) _ _ _ _ b i (both i (replicated n (minus_zero a_law) (minus_zero mu-law)))
    (by-test (eqb t 4) _ _ _ _ b i (same (λ a. refl) (constant n b i))
    (by-test (eqb t 5) _ _ _ _ b i
    (then_same (bits_from [] n b i) (λ flags j. both j (mapped (zero_of a_law 0) (zero_of mu-law 0) flags)))
    (located-beside n b i)))))

zeros-beside : (n mark : ℕ) (b : List ℕ) (i : ℕ) → Beside AsMany (plus_minus a_law n mark b i) (plus_minus mu-law n mark b i)
zeros-beside n mark b i =
    then_same (read_tree (tree_of n) b i) (λ s j. then_same (runs n s n b j) (λ flags k.
    both k (mapped (zero_of a_law mark) (zero_of mu-law mark) flags)))

groups-beside : (k n : ℕ) (b : List ℕ) (i : ℕ) → Beside AsMany (fractional a_law k n b i) (fractional mu-law k n b i)
unfolding groups_as
groups-beside k n b i =
    then_same (groups_from (coding_of (radix k)) [] _ b i) (λ digits j.
    both j (mapped (λ d. get_or (samples_at a_law k) d 0) (λ d. get_or (samples_at mu-law k) d 0) digits))

-- frames of one tool, with as many bits and as many samples
pub record Alike (f g : Found) : Type 0 where
  pub tool : f.tool ≡ g.tool
  pub bits : f.bits ≡ g.bits
  pub long : length f.samples ≡ length g.samples

filled_beside : (f g : Found) → Alike f g → (n : ℕ) (b : List ℕ) (i : ℕ) → Beside Alike (filled f n b i) (filled g n b i)
unfolding filled
filled_beside f g h zero b i = both i h
filled_beside f g h (suc n) b i =
    then_same (bit b i) (λ x j. by-test (eqb x 0) _ _ _ _ b j (filled_beside f g h n b j) (stop Align i))

with-beside : (set room t n : ℕ) (p q : Reader (List ℕ)) (b : List ℕ) (i : ℕ) → Beside AsMany (p b i) (q b i)
    → Beside Alike (with_tool set room t n p b i) (with_tool set room t n q b i)
unfolding with_tool
with-beside set room t n p q b i h =
    by-test (not (holds set t)) _ _ _ _ b i (stop (Tool t) 0) (by-test (ltb room n) _ _ _ _ b i (stop Room 0)
    (then-beside h (λ s r j e. filled_beside (record { tool = t; samples = s; bits = j }) (record { tool = t; samples = r; bits = j })
    (record { tool = refl; bits = refl; long = e }) (fill_for j) b j)))

after-beside : (set room : ℕ) (first : First) (b : List ℕ) (i : ℕ)
    → Beside Alike (after_first a_law set room first b i) (after_first mu-law set room first b i)
unfolding after_first
after-beside set room unassigned b i = stop Prefix 0
after-beside set room pad b i = both i (record { tool = refl; bits = refl; long = refl })
after-beside set room (tool t n) b i = with-beside set room t n (body a_law t n) (body mu-law t n) b i (body-beside t n b i)
after-beside set room (fractional_row k n) b i =
    with-beside set room 11 n (fractional a_law k n) (fractional mu-law k n) b i (groups-beside k n b i)
after-beside set room (six_or_eight n) b i =
    then_same (bit b (mark_at n)) (λ mark j. then_same (six_not_eight b j) (λ t k.
    with-beside set room t n (plus_minus a_law n mark) (plus_minus mu-law n mark) b (mark_at n + 1)
    (zeros-beside n mark b (mark_at n + 1))))

-- ONE FRAME
pub reads-alike : (octets : List ℕ) (set room : ℕ) → Beside Alike (read_one octets 0 set room) (read_one octets 1 set room)
unfolding read_one frame
reads-alike octets set room =
    let b = bits_of octets in
    by-test (not (is_set set)) _ _ _ _ b 0 (stop Set 0)
    (then_same (number_from 0 8 b 0) (λ o j. after-beside set room (first_octet o) b j))

-- WALKS
unfoldable pub AllAlike : List Delivered → List Delivered → Type 0
AllAlike [] [] = Unit {0}
AllAlike [] (g ∷ gs) = ⊥
AllAlike (f ∷ fs) [] = ⊥
AllAlike (f ∷ fs) (g ∷ gs) = (f.place ≡ g.place) × Alike f.found g.found × AllAlike fs gs

pub record WalksAlike (w v : Walked) : Type 0 where
  pub frames : AllAlike w.frames v.frames
  pub end : w.end ≡ v.end
  pub place : w.place ≡ v.place
  pub bit : w.bit ≡ v.bit

stops-alike : (e : Ending) (at bit : ℕ) → WalksAlike (stopped e at bit) (stopped e at bit)
unfolding AllAlike
stops-alike e at b = record { frames = tt; end = refl; place = refl; bit = refl }

onward-alike : {m n : Read Found} {f g : Found → Walked} {k : Refusal → ℕ → Walked} → Beside Alike m n
    → ((a c : Found) → Alike a c → WalksAlike (f a) (g c)) → ((w : Refusal) (at : ℕ) → WalksAlike (k w at) (k w at))
    → WalksAlike (onward m f k) (onward n g k)
onward-alike (both {a = a} {c = c} i q) h s = h a c q
onward-alike (stop w at) h s = s w at

test-alike : (t : Bool) {w v x y : Walked} → WalksAlike w v → WalksAlike x y → WalksAlike (cond t w x) (cond t v y)
test-alike true g h = g
test-alike false g h = h

before-alike : (at : ℕ) {a c : Found} {w v : Walked} → Alike a c → WalksAlike w v
    → WalksAlike (before (record { place = at; found = a }) w) (before (record { place = at; found = c }) v)
unfolding AllAlike
before-alike at h k = record { frames = (refl, h, k.frames); end = k.end; place = k.place; bit = k.bit }

walk-beside : (more : ℕ) (octets : List ℕ) (set at room : ℕ)
    → WalksAlike (walk_from more octets 0 set at room) (walk_from more octets 1 set at room)
unfolding walk_from
walk-beside zero octets set at room = stops-alike (Ok tt) at 0
walk-beside (suc more) octets set at room =
    test-alike (leb (length octets) at) (stops-alike (Ok tt) at 0)
    (onward-alike (reads-alike (drop at octets) set room) (λ a c h.
    let e : walk_from more octets 0 set (at + octets_used a) (room - length a.samples)
    ≡ walk_from more octets 0 set (at + octets_used c) (room - length c.samples) =
    ap₂ (λ (k n : ℕ). walk_from more octets 0 set (at + octets_for k) (room - n)) h.bits h.long in
    before-alike at h (subst (λ (w : Walked). WalksAlike w (walk_from more octets 1 set (at + octets_used c) (room - length c.samples)))
    (sym e) (walk-beside more octets set (at + octets_used c) (room - length c.samples))))
    (λ w bit. stops-alike (Err w) at bit))

pub walks-alike : (octets : List ℕ) (set room : ℕ) → WalksAlike (walk_all octets 0 set room) (walk_all octets 1 set room)
unfolding walk_all
walks-alike octets set room =
    test-alike (not (is_set set)) (stops-alike (Err Set) 0 0)
    (test-alike (not (leb (length octets) longest)) (stops-alike (Err Long) 0 0)
    (walk-beside (suc (length octets)) octets set 0 room))

-- as many samples in all
pub samples-alike : (fs gs : List Delivered) → AllAlike fs gs → length (samples_kept fs) ≡ length (samples_kept gs)
unfolding AllAlike samples_kept
samples-alike [] [] h = refl
samples-alike [] (g ∷ gs) h = absurd h
samples-alike (f ∷ fs) [] h = absurd h
samples-alike (f ∷ fs) (g ∷ gs) h =
    length-append f.found.samples (samples_kept fs) ∙ ap₂ (λ (m n : ℕ). m + n) h.1.long (samples-alike fs gs h.2)
    ∙ sym (length-append g.found.samples (samples_kept gs))
