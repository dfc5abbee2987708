-- An accepted frame (specs/Frame): its samples are as many as its length says and are octets, it fits the room, its tool is in the set,
-- and it uses whole octets, at least one and no more than there are.
use Prim.Native.Nat.{ℕ, zero, suc, ◌+◌, ◌*◌, ◌/◌, ◌≤◌, ◌<◌, zero-le}
use mathlib.Core.Path.{◌≡◌, refl, sym, subst, ◌∙◌}
use mathlib.Core.Logic.{◌⊎◌, inl, inr}
use mathlib.Core.List.{List, [], ◌∷◌, map}
use mathlib.Core.Bool.{Bool, true, false, cond, not, ◌||◌}
use native.Mathlib.Omega.{arith}
use native.Mathlib.Nat.{le_refl, zero-add}
use lib.Dec.{eqb, leb, ltb, lit<, lit≤}
use lib.IntN.{ℤ, pos, negsuc}
use lib.ListN.{length, get_or, replicate, length-replicate, length-map}
use borrow.Author.Tests.{ltb-true, ltb-false, not-false}
use Rattle.rules.specs.declared.Refusal.{Refusal}
use Rattle.rules.specs.declared.Refusal.TheVariants.{Short, Align, Tool, Room, Case, Law, Set}
use Rattle.rules.specs.Tools.{holds, is_length, is_law, is_set}
use Rattle.rules.specs.Bits.{bits_of, fill_for}
use Rattle.rules.specs.Reading.{Read, whole, refuse, Reader, and_then, ◌>>=◌, give, fail, from, bit, number_from, number, filled}
use Rattle.rules.specs.First.{First, unassigned, pad, tool, fractional_row, six_or_eight}
use Rattle.rules.specs.First.{first_octet, mark_at, six_not_eight}
use Rattle.rules.specs.Samples.{sample_of, plus_zero, minus_zero}
use Rattle.rules.specs.Zeros.{zero_of, Tree, leaf, fork, tree_of, plus_minus}
use Rattle.rules.specs.Located.{RangeCase, case0, case1, case2, case3, case_of, row_values, values_of, located}
use Rattle.rules.specs.Fractional.{table, values_at, radix, group_of, coding_of, groups_as, samples_at, fractional}
use Rattle.rules.specs.Frame.{Found, octets_used, body, with_tool, after_first, frame, read_one}
use Rattle.rules.proofs.Octets.{Below, none, more, Sized, below_at, below-replicate, bits_of-below, length-bits_of}
use Rattle.rules.proofs.Tests.{and_left}
use Rattle.rules.proofs.Signed.{InRange, LawMask, law-mask}
use Rattle.rules.proofs.Firsts.{as_written, first-as-written}
use Rattle.rules.proofs.Each.{below-map}
use Rattle.rules.proofs.Fractional.{groups-whole}
use Rattle.rules.proofs.Gives.{Gives, gives-give, gives-fail, gives-here, gives-bit, gives-bind, gives-cond, gives_as}
use Rattle.rules.proofs.Gives.{gives-number, gives-bits_from, gives-octets_after, gives-runs_from}
use Rattle.rules.proofs.Gives.{Leaves, gives-read_tree, gives-values_into, gives-groups_from}

-- what holds of the four rows of range cases holds of every case
pub by-case : (P : RangeCase → Type 0) → P case0 → P case1 → P case2 → P case3 → (c : ℕ) → P (case_of c)
unfolding case_of
by-case P p0 p1 p2 p3 c = go (eqb c 0) (eqb c 1) (eqb c 2)
  where
    go : (x y z : Bool) → P (cond x case0 (cond y case1 (cond z case2 case3)))
    go true y z = p0
    go false true z = p1
    go false false true = p2
    go false false false = p3

-- every value of a row is a signed number
abbrev pub AllInRange : List ℤ → Type 0
AllInRange [] = Unit {0}
AllInRange (v ∷ vs) = InRange v × AllInRange vs

row-in-range : (r : RangeCase) → AllInRange r.flag1 → AllInRange r.flag0 → (n flag : ℕ) → AllInRange (row_values r n flag)
row-in-range r p q n flag = go (leb r.from n) (eqb flag 1)
  where
    go : (x y : Bool) → AllInRange (cond x (cond y r.flag1 r.flag0) [])
    go true true = p
    go true false = q
    go false y = tt

pub values-in-range : (n c flag : ℕ) → AllInRange (values_of n c flag)
unfolding values_of
values-in-range n c flag =
    by-case (λ r. AllInRange (row_values r n flag))
    (row-in-range case0 (lit< tt, (lit< tt, (lit< tt, tt))) (lit< tt, (lit< tt, (lit< tt, tt))) n flag)
    (row-in-range case1 (lit< tt, (lit< tt, tt)) (lit< tt, (lit< tt, tt)) n flag)
    (row-in-range case2 tt (lit< tt, (lit< tt, tt)) n flag)
    (row-in-range case3 (lit< tt, tt) tt n flag)
    c

pub octets-below : {mask : ℕ} → LawMask mask → (vs : List ℤ) → AllInRange vs → Below 256 (map (sample_of mask) vs)
octets-below l [] h = none
octets-below l (v ∷ vs) h = more (l.octet v h.0) (octets-below l vs h.1)

-- the bodies
plus-below : {mask : ℕ} → LawMask mask → plus_zero mask < 256
plus-below l = l.octet (pos 0) (lit< tt)

minus-below : {mask : ℕ} → LawMask mask → minus_zero mask < 256
minus-below l = l.octet (negsuc 0) (lit< tt)

zeros-sized : {mask : ℕ} → LawMask mask → (mark n : ℕ) (flags : List ℕ) → length flags ≡ n → Sized 256 n (map (zero_of mask mark) flags)
zeros-sized {mask} l mark n flags h = record { size = length-map flags (zero_of mask mark) ∙ h; below = all flags }
  where
    one : (b : Bool) → cond b (plus_zero mask) (minus_zero mask) < 256
    one true = plus-below l
    one false = minus-below l

    all : (flags : List ℕ) → Below 256 (map (zero_of mask mark) flags)
    all [] = none
    all (f ∷ fs) = more (one (eqb f mark)) (all fs)

gives-constantly : (n x : ℕ) → x < 256 → Gives (give (replicate n x)) (Sized 256 n)
gives-constantly n x h = gives-give (replicate n x) (record { size = length-replicate n x; below = below-replicate n h })

gives-located : {mask : ℕ} → LawMask mask → (n : ℕ) → Gives (located mask n) (Sized 256 n)
unfolding located
gives-located {mask} l n =
    gives-bind gives-here (λ start u. gives-bind (gives-number 2) (λ c h. gives-bind (gives-number 1) (λ flag g.
    gives-cond (eqb (length (values_of n c flag)) 0) (λ t. gives-fail Case start) (λ t.
    gives_as (λ s k. record { size = k.size ∙ length-replicate n (plus_zero mask); below = k.below })
    (gives-values_into n (plus_zero mask) (replicate n (plus_zero mask)) (plus-below l)
    (octets-below l (values_of n c flag) (values-in-range n c flag)) (below-replicate n (plus-below l)))))))

-- the rows of tool 11
abbrev RowsInRange : List (List ℤ) → Type 0
RowsInRange [] = Unit {0}
RowsInRange (vs ∷ rows) = AllInRange vs × RowsInRange rows

in_row : (rows : List (List ℤ)) → RowsInRange rows → (k : ℕ) → AllInRange (get_or rows k [])
in_row [] h k = tt
in_row (vs ∷ rows) h zero = h.0
in_row (vs ∷ rows) h (suc k) = in_row rows h.1 k

rows-in-range : RowsInRange table
rows-in-range = (
  (lit< tt, (lit< tt, tt)),
  (
    (lit< tt, (lit< tt, (lit< tt, (lit< tt, tt)))),
    (
      (lit< tt, (lit< tt, tt)),
      (
        (lit< tt, (lit< tt, (lit< tt, tt))),
        (
          (lit< tt, (lit< tt, (lit< tt, tt))),
          (
            (lit< tt, (lit< tt, (lit< tt, tt))),
            (
              (lit< tt, (lit< tt, (lit< tt, (lit< tt, tt)))),
              (
                (lit< tt, (lit< tt, (lit< tt, (lit< tt, (lit< tt, tt))))),
                (
                  (lit< tt, (lit< tt, (lit< tt, (lit< tt, tt)))),
                  (
                    (lit< tt, (lit< tt, (lit< tt, (lit< tt, (lit< tt, (lit< tt, tt)))))),
                    (
                      (lit< tt, (lit< tt, (lit< tt, (lit< tt, (lit< tt, tt))))),
                      ((lit< tt, (lit< tt, (lit< tt, (lit< tt, (lit< tt, (lit< tt, tt)))))), tt),
                    ),
                  ),
                ),
              ),
            ),
          ),
        ),
      ),
    ),
  ),
)

pub row-in-range-at : (k : ℕ) → AllInRange (values_at k)
unfolding values_at
row-in-range-at k = in_row table rows-in-range k

pub samples_at-below : {mask : ℕ} → LawMask mask → (k : ℕ) → Below 256 (samples_at mask k)
unfolding samples_at
samples_at-below l k = octets-below l (values_at k) (row-in-range-at k)

pub gives-fractional : {mask : ℕ} → LawMask mask → (k n : ℕ) → is_length n ≡ true → Gives (fractional mask k n) (Sized 256 n)
unfolding groups_as
gives-fractional {mask} l k n len =
    let g = group_of (radix k) in
    gives-bind (gives-groups_from (coding_of (radix k)) [] (n / g)) (λ digits e.
    gives-give (map (λ d. get_or (samples_at mask k) d 0) digits) (record {
      size = length-map digits (λ d. get_or (samples_at mask k) d 0) ∙ e ∙ zero-add (n / g * g) ∙ groups-whole (radix k) n len;
      below = below-map (λ d. get_or (samples_at mask k) d 0) (below_at (samples_at-below l k) (lit< tt)) digits;
    }))

all-leaves : (t : Tree) → Leaves (λ s. Unit {0}) t
all-leaves (leaf s) = tt
all-leaves (fork z o) = (all-leaves z, all-leaves o)

pub gives-plus_minus : {mask : ℕ} → LawMask mask → (n mark : ℕ) → Gives (plus_minus mask n mark) (Sized 256 n)
gives-plus_minus {mask} l n mark =
    gives-bind (gives-read_tree (λ s. Unit {0}) (tree_of n) (all-leaves (tree_of n))) (λ s u.
    gives-bind (gives-runs_from n s n n [] (le_refl n) none) (λ flags f.
    gives-give (map (zero_of mask mark) flags) (zeros-sized l mark n flags (f.size ∙ zero-add n))))

pub gives-body : {mask : ℕ} → LawMask mask → (t n : ℕ) → is_length n ≡ true → Gives (body mask t n) (Sized 256 n)
unfolding body
gives-body {mask} l t n len =
    gives-cond (eqb t 1)
    (λ e. gives_as (λ s k. record { size = k.size ∙ zero-add n; below = k.below }) (gives-octets_after [] n none)) (λ e.
    gives-cond (eqb t 2) (λ e. gives-constantly n (plus_zero mask) (plus-below l)) (λ e.
    gives-cond (eqb t 3) (λ e. gives-constantly n (minus_zero mask) (minus-below l)) (λ e.
    gives-cond (eqb t 4) (λ e. gives-bind (gives-number 8) (λ x h. gives-constantly n x h)) (λ e.
    gives-cond (eqb t 5) (λ e. gives-bind (gives-bits_from [] n none) (λ flags f.
    gives-give (map (zero_of mask 0) flags) (zeros-sized l 0 n flags (f.size ∙ zero-add n)))) (λ e.
    gives-located l n)))))

-- filling bits: the value stays, and so many places are passed
gives-filled : {A : Type 0} {Q : A → Type 0} (a : A) (n : ℕ) → Q a → Gives (filled a n) Q
unfolding filled
gives-filled a zero q = gives-give a q
gives-filled a (suc n) q =
    gives-bind gives-here (λ at u. gives-bind gives-bit (λ f h. gives-cond (eqb f 0) (λ t. gives-filled a n q) (λ t. gives-fail Align at)))

-- inversion: the steps of a reading that is whole
pub data Steps {A B : Type 0} (m : Read A) (f : A → ℕ → Read B) (c : B) (j : ℕ) : Type 0 where
  through : (a : A) (i : ℕ) → m ≡ whole a i → f a i ≡ whole c j → Steps m f c j

pub steps : {A B : Type 0} (m : Read A) (f : A → ℕ → Read B) {c : B} {j : ℕ} → and_then m f ≡ whole c j → Steps m f c j
steps (whole a i) f e = through a i refl e
steps (refuse w at) f e = let z : ◌≡◌ {A = ℕ} 0 1 = cc in absurd (omega arith)

-- a test that refuses was not met
pub not-refused : {A : Type 0} (t : Bool) (w : Refusal) (at : ℕ) (r : Reader A) (b : List ℕ) (i : ℕ) {c : A} {j : ℕ}
    → cond t (fail w at) r b i ≡ whole c j → (t ≡ false) × (r b i ≡ whole c j)
not-refused true w at r b i e = let z : ◌≡◌ {A = ℕ} 0 1 = cc in absurd (omega arith)
not-refused false w at r b i e = (refl, e)

bit-next : (b : List ℕ) (i : ℕ) {a j : ℕ} → bit b i ≡ whole a j → i + 1 ≡ j
unfolding bit
bit-next b i {a} {j} e = go (ltb i (length b)) e
  where
    go : (t : Bool) → cond t (whole (get_or b i 0) (i + 1)) (refuse Short i) ≡ whole a j → i + 1 ≡ j
    go true e = cc
    go false e = let z : ◌≡◌ {A = ℕ} 0 1 = cc in absurd (omega arith)

bit-inside : (b : List ℕ) (i : ℕ) {a j : ℕ} → bit b i ≡ whole a j → i < length b
unfolding bit
bit-inside b i {a} {j} e = go (ltb i (length b)) refl e
  where
    go : (t : Bool) → ltb i (length b) ≡ t → cond t (whole (get_or b i 0) (i + 1)) (refuse Short i) ≡ whole a j → i < length b
    go true t e = ltb-true i (length b) t
    go false t e = let z : ◌≡◌ {A = ℕ} 0 1 = cc in absurd (omega arith)

-- the value stays, and so many places are passed
pub filled_is : {A : Type 0} (a : A) (n : ℕ) (b : List ℕ) (i : ℕ) {c : A} {j : ℕ} → filled a n b i ≡ whole c j → (a ≡ c) × (i + n ≡ j)
unfolding filled
filled_is a zero b i {c} {j} e = let p : i ≡ j = cc in (cc, omega arith)
filled_is {A} a (suc n) b i {c} {j} e = go (λ k. filled_is a n b k) (steps (bit b i) _ e)
  where
    after : (f k : ℕ) (t : Bool) → bit b i ≡ whole f k → cond t (filled a n) (fail Align i) b k ≡ whole c j
        → (filled a n b k ≡ whole c j → (a ≡ c) × (k + n ≡ j)) → (a ≡ c) × (i + suc n ≡ j)
    after f k true q e later = let r = later e in let p = bit-next b i q in (r.0, omega arith)
    after f k false q e later = let z : ◌≡◌ {A = ℕ} 0 1 = cc in absurd (omega arith)

    go : ((k : ℕ) → filled a n b k ≡ whole c j → (a ≡ c) × (k + n ≡ j))
        → Steps (bit b i) (λ f k. cond (eqb f 0) (filled a n) (fail Align i) b k) c j → (a ≡ c) × (i + suc n ≡ j)
    go later (through f k q e) = after f k (eqb f 0) q e (later k)

-- what an accepted frame is
pub record Accepts (set room : ℕ) (b : List ℕ) (f : Found) (j : ℕ) : Type 0 where
  pub octets : j ≡ 8 * octets_used f
  pub inside : j ≤ length b
  pub some : 1 ≤ f.bits
  pub fits : length f.samples ≤ room
  pub size : (eqb (length f.samples) 0 || is_length (length f.samples)) ≡ true
  pub below : Below 256 f.samples
  pub held : (f.tool ≡ 0) ⊎ (holds set f.tool ≡ true)

or_right : (a b : Bool) → b ≡ true → (a || b) ≡ true
or_right true b e = refl
or_right false b e = e

pub with_tool-accepts : (set room t n : ℕ) {r : Reader (List ℕ)} → is_length n ≡ true → Gives r (Sized 256 n) → {b : List ℕ} → Below 2 b
    → (i : ℕ) → 1 ≤ i → i ≤ length b → {f : Found} {j : ℕ} → with_tool set room t n r b i ≡ whole f j → Accepts set room b f j
unfolding with_tool
with_tool-accepts set room t n {r} len gives {b} z i one h {f} {j} e =
    let p = not-refused (not (holds set t)) (Tool t) 0 _ b i e in
    let q = not-refused (ltb room n) Room 0 _ b i p.1 in
    go (not-false (holds set t) p.0) (ltb-false room n q.0) (steps (r b i) _ q.1)
  where
    done : List ℕ → ℕ → Found
    done s k = record { tool = t; samples = s; bits = k }

    go : holds set t ≡ true → n ≤ room
        → Steps (r b i) (λ s k. filled (done s k) (fill_for k) b k) f j → Accepts set room b f j
    go held fits (through s k q e) =
        let g = gives.on z h q in
        let w = filled_is (done s k) (fill_for k) b k e in
        let v = (gives-filled {Q = λ x. Unit {0}} (done s k) (fill_for k) tt).on z g.1 e in
        subst (λ (x : Found). Accepts set room b x j) w.0 (record {
          octets = omega (arith, w.1);
          inside = v.1;
          some = omega arith;
          fits = omega (arith, g.2.size);
          size = or_right (eqb (length s) 0) (is_length (length s)) (rw g.2.size len);
          below = g.2.below;
          held = inr held;
        })

pub number-next : (v n : ℕ) (b : List ℕ) (i : ℕ) {x j : ℕ} → number_from v n b i ≡ whole x j → i + n ≡ j
unfolding number_from
number-next v zero b i {x} {j} e = let p : i ≡ j = cc in omega arith
number-next v (suc n) b i {x} {j} e = go (λ a k. number-next (2 * v + a) n b k) (steps (bit b i) _ e)
  where
    go : ((a k : ℕ) → number_from (2 * v + a) n b k ≡ whole x j → k + n ≡ j) → Steps (bit b i) (λ a k. number_from (2 * v + a) n b k) x j
        → i + suc n ≡ j
    go later (through a k q e) = let r = later a k e in let p = bit-next b i q in omega arith

after_first-accepts : {mask : ℕ} → LawMask mask → (set room o : ℕ) (first : First) → as_written o first ≡ true → {b : List ℕ} → Below 2 b
    → 8 ≤ length b → {f : Found} {j : ℕ} → after_first mask set room first b 8 ≡ whole f j → Accepts set room b f j
unfolding after_first
after_first-accepts l set room o unassigned w z h e = let z : ◌≡◌ {A = ℕ} 0 1 = cc in absurd (omega arith)
after_first-accepts l set room o pad w {b} z h {f} {j} e =
    let p : 8 ≡ j = cc in
    let q : record { tool = 0; samples = []; bits = 8 } ≡ f = cc in
    subst (λ (x : Found). Accepts set room b x j) q (record {
      octets = sym p;
      inside = omega arith;
      some = lit≤ tt;
      fits = zero-le;
      size = refl;
      below = none;
      held = inl refl;
    })
after_first-accepts l set room o (tool t n) w z h e =
    let len = and_left (is_length n) _ w in with_tool-accepts set room t n len (gives-body l t n len) z 8 (lit≤ tt) h e
after_first-accepts l set room o (fractional_row k n) w z h e =
    let len = and_left (is_length n) _ w in with_tool-accepts set room 11 n len (gives-fractional l k n len) z 8 (lit≤ tt) h e
after_first-accepts {mask} l set room o (six_or_eight n) w {b} z h {f} {j} e = go (steps (bit b (mark_at n)) _ e)
  where
    six : (mark k : ℕ) → bit b (mark_at n) ≡ whole mark k
        → Steps (six_not_eight b k) (λ t i. with_tool set room t n (plus_minus mask n mark) b (mark_at n + 1)) f j → Accepts set room b f j
    six mark k q (through t i r e) =
        let len = and_left (is_length n) _ w in
        with_tool-accepts set room t n len (gives-plus_minus l n mark) z (mark_at n + 1) (omega arith)
        (omega (arith, bit-next b (mark_at n) q, bit-inside b (mark_at n) q)) e

    go : Steps (bit b (mark_at n)) (λ mark k. (six_not_eight >>= (λ t. from (mark_at n + 1) (with_tool set room t n (plus_minus mask n mark)))) b k) f j
        → Accepts set room b f j
    go (through mark k q e) = six mark k q (steps (six_not_eight b k) _ e)

pub frame-accepts : {mask : ℕ} → LawMask mask → (set room : ℕ) {b : List ℕ} → Below 2 b → {f : Found} {j : ℕ}
    → frame mask set room b 0 ≡ whole f j → Accepts set room b f j
unfolding frame
frame-accepts {mask} l set room {b} z {f} {j} e = go (steps (number 8 b 0) _ e)
  where
    go : Steps (number 8 b 0) (λ o k. after_first mask set room (first_octet o) b k) f j → Accepts set room b f j
    go (through o k q e) =
        let g = (gives-number 8).on z zero-le q in
        let p : 8 ≡ k = number-next 0 8 b 0 q in
        after_first-accepts l set room o (first_octet o) (first-as-written o g.2) z (omega arith) (rw (← p) at e)

-- an accepted frame, of octets
pub read-accepts : (octets : List ℕ) (law set room : ℕ) {f : Found} {j : ℕ} → read_one octets law set room ≡ whole f j
    → Accepts set room (bits_of octets) f j
unfolding read_one
read-accepts octets law set room {f} {j} e =
    let p = not-refused (not (is_law law)) Law 0 _ (bits_of octets) 0 e in
    let q = not-refused (not (is_set set)) Set 0 _ (bits_of octets) 0 p.1 in
    frame-accepts (law-mask law) set room (bits_of-below octets) q.1

-- it uses one octet or more, and no more than there are
pub read-uses : (octets : List ℕ) (law set room : ℕ) {f : Found} {j : ℕ} → read_one octets law set room ≡ whole f j
    → (1 ≤ octets_used f) × (octets_used f ≤ length octets)
read-uses octets law set room e =
    let a = read-accepts octets law set room e in
    (omega (arith, a.some), omega (arith, a.octets, a.inside, length-bits_of octets))
