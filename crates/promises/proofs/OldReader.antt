-- Document 02, R-4, beside document 01: with the sets that there were then, up to 127, an old reader gives the same answer as the mended
-- one, or PLACE where the mended one goes on (`old-reader`). Then the mended reader's frame, if it accepts one, has tool 7 and no plus zero
-- at all. A larger set is SET to it (`old-set`).
use Prim.Native.Nat.{ℕ, zero, suc, ◌+◌, ◌*◌, ◌≤◌, ◌<◌}
use native.Mathlib.Omega.{arith}
use native.Mathlib.Nat.{le_refl}
use native.Mathlib.Numerals.{add-one}
use mathlib.Core.Path.{◌≡◌, refl, ap, ◌∙◌}
use mathlib.Core.List.{List, [], ◌∷◌, map}
use mathlib.Core.Bool.{Bool, true, false, cond, not, ◌&&◌}
use lib.ListN.{length, get_or, replicate}
use lib.Dec.{eqb, leb, ltb}
use borrow.Author.Tests.{le-ltb, le-leb, lt-leb, eqb-true, leb-true}
use Rattle.rules.specs.declared.Refusal.{Refusal}
use Rattle.rules.specs.declared.Refusal.TheVariants.{Short, Align, Case, Method, Place, Law, Set}
use Rattle.rules.specs.Tools.{holds, is_law, all_tools}
use Rattle.rules.specs.Bits.{bits_of, fill_for}
use Rattle.rules.specs.Reading.{Read, whole, refuse, Reader, and_then, ◌>>=◌, give, fail, here, bit, number_from, number, bits_from, filled}
use Rattle.rules.specs.First.{First, unassigned, pad, tool, fractional_row, six_or_eight, first_octet}
use Rattle.rules.specs.Samples.{mask_of, sample_of, plus_zero}
use Rattle.rules.specs.Runs.{runs_from}
use Rattle.rules.specs.Located.{width_from, width_of, listed_from, listed, by_method, empty_in, lay, values_into, values_of, located}
use Rattle.rules.specs.Frame.{Found, body, with_tool, after_first, frame, read_one}
use Rattle.rules.proofs.Located.{full-means-none}
use Rattle.rules.proofs.Tests.{and_left, and_right}

-- Document 01's rule: "After each value at least one place must be left"
unfoldable pub old_values : ℕ → ℕ → List ℕ → List ℕ → Reader (List ℕ)
old_values n z [] cells = give cells
old_values n z (x ∷ xs) cells = do
  start ← here
  m ← number 3
  flags ← by_method n (empty_in z cells) start m
  end ← here
  cond (eqb (empty_in z (lay z x flags 0 cells)) 0) (fail Place end) (old_values n z xs (lay z x flags 0 cells))

-- and the reader over it: tool 7's body, its frame, one frame of octets; all else is as it is
unfoldable pub old_located : ℕ → ℕ → Reader (List ℕ)
old_located mask n = do
  start ← here
  c ← number 2
  flag ← number 1
  cond (eqb (length (values_of n c flag)) 0) (fail Case start)
      (old_values n (plus_zero mask) (map (sample_of mask) (values_of n c flag)) (replicate n (plus_zero mask)))

abbrev finish : ℕ → Reader (List ℕ) → Reader Found
finish t p = do
  samples ← p
  bits ← here
  filled (record { tool = t; samples = samples; bits = bits }) (fill_for bits)

unfoldable pub old_after : ℕ → ℕ → ℕ → First → Reader Found
old_after mask set room (tool t n) =
    cond (eqb t 7 && (holds set 7 && leb n room)) (finish 7 (old_located mask n)) (after_first mask set room (tool t n))
old_after mask set room unassigned = after_first mask set room unassigned
old_after mask set room pad = after_first mask set room pad
old_after mask set room (fractional_row k n) = after_first mask set room (fractional_row k n)
old_after mask set room (six_or_eight n) = after_first mask set room (six_or_eight n)

-- Document 01: "A tool set is a number from 0 to 127"; SET: "set above 127"
abbrev pub old_tools : ℕ
old_tools = 127

unfoldable pub old_read : List ℕ → ℕ → ℕ → ℕ → Read Found
old_read octets law set room =
    cond (not (is_law law)) (fail Law 0)
    (cond (not (leb set old_tools)) (fail Set 0)
    (number 8 >>= (λ o. old_after (mask_of law) set room (first_octet o)))) (bits_of octets) 0

-- a reading that got to place k at least: whole, its next place is not before k, and its value passes P; refused, its bit is not before k
abbrev pub Reached : {A : Type 0} → ℕ → (A → Type 0) → Read A → Type 0
Reached k P (whole a j) = (k ≤ j) × P a
Reached k P (refuse w at) = k ≤ at

-- the old reading beside the mended one
pub data Parts {A : Type 0} (P : A → Type 0) (old new : Read A) : Type 0 where
  alike : old ≡ new → Parts P old new
  goes_on : (at : ℕ) → old ≡ refuse Place at → Reached at P new → Parts P old new

-- readers that stay behind k once they are behind it, built step by step
record Past {A : Type 0} (k : ℕ) (P : A → Type 0) (p : Reader A) : Type 0 where
  on : (b : List ℕ) (i : ℕ) → k ≤ i → Reached k P (p b i)

abbrev Any : {A : Type 0} → A → Type 0
Any a = Unit {0}

past-give : {A : Type 0} {k : ℕ} {P : A → Type 0} (a : A) → P a → Past k P (give a)
past-give a q = record { on = λ b i h. (h, q) }

past-fail : {A : Type 0} {k : ℕ} {P : A → Type 0} (w : Refusal) (at : ℕ) → k ≤ at → Past {A = A} k P (fail w at)
past-fail w at h = record { on = λ b i g. h }

past-here : {A : Type 0} {k : ℕ} {P : A → Type 0} {f : ℕ → Reader A} → ((i : ℕ) → k ≤ i → Past k P (f i)) → Past k P (here >>= f)
past-here g = record { on = λ b i h. (g i h).on b i h }

past-bit : {k : ℕ} → Past k Any bit
unfolding bit
past-bit {k} = record { on = λ b i h. go b i h (ltb i (length b)) }
  where
    go : (b : List ℕ) (i : ℕ) → k ≤ i → (t : Bool) → Reached k Any (cond t (whole (get_or b i 0) (i + 1)) (refuse Short i))
    go b i h true = (omega arith, tt)
    go b i h false = h

past-bind : {A B : Type 0} {k : ℕ} {Q : A → Type 0} {P : B → Type 0} {p : Reader A} {f : A → Reader B}
    → Past k Q p → ((a : A) → Q a → Past k P (f a)) → Past k P (p >>= f)
past-bind {A} {B} {k} {Q} {P} {p} {f} g h = record { on = λ b i l. go b (p b i) (g.on b i l) }
  where
    go : (b : List ℕ) (m : Read A) → Reached k Q m → Reached k P (and_then m (λ a j. f a b j))
    go b (whole a j) r = (h a r.1).on b j r.0
    go b (refuse w at) r = r

past-cond : {A : Type 0} {k : ℕ} {P : A → Type 0} {p q : Reader A} (t : Bool) → Past k P p → Past k P q → Past k P (cond t p q)
past-cond true g h = g
past-cond false g h = h

past-number : {k : ℕ} (v n : ℕ) → Past k Any (number_from v n)
unfolding number_from
past-number v zero = past-give v tt
past-number v (suc n) = past-bind past-bit (λ a u. past-number (2 * v + a) n)

past-filled : {A : Type 0} {k : ℕ} {P : A → Type 0} (a : A) (n : ℕ) → P a → Past k P (filled a n)
unfolding filled
past-filled a zero q = past-give a q
past-filled a (suc n) q = past-here (λ at h. past-bind past-bit (λ f u. past-cond (eqb f 0) (past-filled a n q) (past-fail Align at h)))

-- D = 0, whatever the method: a listed place is PLACE at once
none-listed : {k : ℕ} (less : ℕ) → Past k Any (listed_from (width_of 0) 0 [] (suc less))
unfolding listed_from width_from number_from
none-listed less = past-here (λ at g. past-fail Place at g)

past-method : {k : ℕ} (n d start m : ℕ) → d ≡ 0 → k ≤ start → Past k Any (by_method n d start m)
unfolding by_method listed bits_from runs_from
past-method {k} n d start m e h =
    rw e
    (past-cond (eqb m 0) (past-give [] tt) (past-cond (leb m 4) (past-give [] tt) (past-cond (eqb m 5) (past-give [] tt)
    (past-cond (eqb m 6) (past-fail Method start h) (past-bind (past-number 0 2) (λ less u. two less))))))
  where
    two : (less : ℕ) → Past k Any (listed_from (width_of 0) 0 [] (less + 1))
    two less = rw (add-one less) (none-listed less)

-- every place is filled: the values after it change nothing
past-values : {k : ℕ} (n z : ℕ) (xs cells : List ℕ) → empty_in z cells ≡ 0 → Past k (λ c. empty_in z c ≡ 0) (values_into n z xs cells)
unfolding values_into
past-values n z [] cells e = past-give cells e
past-values n z (x ∷ xs) cells e =
    past-here (λ start h. past-bind (past-number 0 3) (λ m u. past-bind (past-method n (empty_in z cells) start m e h) (λ flags v.
    past-values n z xs (lay z x flags 0 cells) (ap (empty_in z) (full-means-none z x flags 0 cells e) ∙ e))))

-- the same steps before
then-parts : {A B : Type 0} {P : B → Type 0} (m : Read A) {f g : A → ℕ → Read B} → ((a : A) (j : ℕ) → Parts P (f a j) (g a j))
    → Parts P (and_then m f) (and_then m g)
then-parts (whole a j) h = h a j
then-parts (refuse w at) h = alike refl

test_parts : {A : Type 0} {P : A → Type 0} (t : Bool) (w : Refusal) (at : ℕ) (p q : Reader A) (b : List ℕ) (i : ℕ) → Parts P (p b i) (q b i)
    → Parts P (cond t (fail w at) p b i) (cond t (fail w at) q b i)
test_parts true w at p q b i h = alike refl
test_parts false w at p q b i h = h

-- the same steps after
parts_then : {A B : Type 0} {P : A → Type 0} {Q : B → Type 0} {old new : Read A} (f : A → ℕ → Read B)
    → ((a : A) (j k : ℕ) → P a → k ≤ j → Reached k Q (f a j)) → Parts P old new → Parts Q (and_then old f) (and_then new f)
parts_then f h (alike e) = alike (ap (λ m. and_then m f) e)
parts_then {A} {B} {P} {Q} {old} {new} f h (goes_on at e r) = goes_on at (rw e) (go new r)
  where
    go : (m : Read A) → Reached at P m → Reached at Q (and_then m f)
    go (whole a j) r = h a j at r.1 r.0
    go (refuse w k) r = r

-- the values in turn
values-part : (n z : ℕ) (xs cells b : List ℕ) (i : ℕ) → Parts (λ c. empty_in z c ≡ 0) (old_values n z xs cells b i)
    (values_into n z xs cells b i)
unfolding old_values values_into
values-part n z [] cells b i = alike refl
values-part n z (x ∷ xs) cells b i =
    then-parts (number_from 0 3 b i) (λ m j. then-parts (by_method n (empty_in z cells) i m b j) (λ flags k.
    go (lay z x flags 0 cells) k (eqb (empty_in z (lay z x flags 0 cells)) 0) (eqb-true _ 0)
    (values-part n z xs (lay z x flags 0 cells) b k)))
  where
    go : (c : List ℕ) (k : ℕ) (t : Bool) → (t ≡ true → empty_in z c ≡ 0)
        → Parts (λ c. empty_in z c ≡ 0) (old_values n z xs c b k) (values_into n z xs c b k)
        → Parts (λ c. empty_in z c ≡ 0) (cond t (fail Place k) (old_values n z xs c) b k) (values_into n z xs c b k)
    go c k true e h = goes_on k refl ((past-values n z xs c (e refl)).on b k (le_refl k))
    go c k false e h = h

located-part : (mask n : ℕ) (b : List ℕ) (i : ℕ) → Parts (λ c. empty_in (plus_zero mask) c ≡ 0) (old_located mask n b i) (located mask n b i)
unfolding old_located located
located-part mask n b i =
    then-parts (number_from 0 2 b i) (λ c j. then-parts (number_from 0 1 b j) (λ flag k.
    test_parts (eqb (length (values_of n c flag)) 0) Case i _ _ b k
    (values-part n (plus_zero mask) (map (sample_of mask) (values_of n c flag)) (replicate n (plus_zero mask)) b k)))

-- a frame of tool 7 with no plus zero
pub record NoZero (mask : ℕ) (f : Found) : Type 0 where
  pub seven : f.tool ≡ 7
  pub full : empty_in (plus_zero mask) f.samples ≡ 0

with-seven : (mask set room n : ℕ) (b : List ℕ) (i : ℕ) → holds set 7 ≡ true → n ≤ room
    → with_tool set room 7 n (body mask 7 n) b i ≡ finish 7 (located mask n) b i
unfolding with_tool body
with-seven mask set room n b i h r = rw (h, le-ltb room n r)

tool-part : (mask set room t n : ℕ) (h : Bool) → eqb t 7 && (holds set 7 && leb n room) ≡ h → (b : List ℕ) (i : ℕ)
    → Parts (NoZero mask) (cond h (finish 7 (old_located mask n)) (with_tool set room t n (body mask t n)) b i)
    (with_tool set room t n (body mask t n) b i)
tool-part mask set room t n false e b i = alike refl
tool-part mask set room t n true e b i =
    let seven = eqb-true t 7 (and_left (eqb t 7) (holds set 7 && leb n room) e) in
    let held = and_left (holds set 7) (leb n room) (and_right (eqb t 7) (holds set 7 && leb n room) e) in
    let fits = leb-true n room (and_right (holds set 7) (leb n room) (and_right (eqb t 7) (holds set 7 && leb n room) e)) in
    rw (seven, with-seven mask set room n b i held fits)
    (parts_then (λ s j. filled (record { tool = 7; samples = s; bits = j }) (fill_for j) b j)
    (λ s j k q l. (past-filled {k = k} {P = NoZero mask} (record { tool = 7; samples = s; bits = j }) (fill_for j)
    (record { seven = refl; full = q })).on b j l)
    (located-part mask n b i))

after-part : (mask set room : ℕ) (first : First) (b : List ℕ) (i : ℕ)
    → Parts (NoZero mask) (old_after mask set room first b i) (after_first mask set room first b i)
unfolding old_after after_first
after-part mask set room unassigned b i = alike refl
after-part mask set room pad b i = alike refl
after-part mask set room (fractional_row k n) b i = alike refl
after-part mask set room (tool t n) b i = tool-part mask set room t n (eqb t 7 && (holds set 7 && leb n room)) refl b i
after-part mask set room (six_or_eight n) b i = alike refl

-- An old reader, beside the mended one: for all octets, laws and rooms, and its sets
pub old-reader : (octets : List ℕ) (law set room : ℕ) → set ≤ old_tools
    → Parts (NoZero (mask_of law)) (old_read octets law set room) (read_one octets law set room)
unfolding old_read read_one frame
old-reader octets law set room h =
    let b = bits_of octets in
    rw (le-leb set old_tools h, le-leb set all_tools (omega arith))
    (test_parts (not (is_law law)) Law 0 _ _ b 0
    (then-parts (number_from 0 8 b 0) (λ o j. after-part (mask_of law) set room (first_octet o) b j)))

pub old-set : (octets : List ℕ) (law set room : ℕ) → is_law law ≡ true → old_tools < set → old_read octets law set room ≡ refuse Set 0
unfolding old_read
old-set octets law set room l h = rw (l, lt-leb set old_tools h)
