-- The number of a group's digits, and groups put one after another.
use Prim.Native.Nat.{ℕ, zero, suc, ◌+◌, ◌*◌, ◌^◌, ◌/◌, ◌≤◌, ◌<◌}
use mathlib.Core.Path.{◌≡◌, refl, sym, ap, ◌∙◌}
use mathlib.Core.List.{List, [], ◌∷◌, ◌++◌, append_assoc, append-nil}
use native.Mathlib.Omega.{arith}
use Rattle.std.proofs.Math.Nat.{mul-le-mul_left}
use native.Mathlib.Nat.{zero-mul, suc-mul, pow-le-pow_left, pow-le-pow_right, lt_of_lt_of_le, le_trans}
use lib.ListN.{length, get_or, take, drop, length-append, length-drop}
use Rattle.std.specs.Simd.{first_chunks}
use Rattle.std.proofs.lemmas.List.{get_or_default}
use Rattle.write_scan.proofs.Rows.{chunk-of}
use lib.Seq.{drop-drop, drop_at, length-take-le}
use Rattle.rules.specs.Bits.{low_bits}
use Rattle.rules.proofs.Octets.{Below, below-take, below-drop, length-low_bits}
use Rattle.write_bits.specs.declared.pen.Pen.{Pen}
use Rattle.write_bits.specs.Puts.{Able, Puts}
use Rattle.write_bits.proofs.Putting.{puts_then, puts-as, able-then}
use Rattle.rules.specs.Fractional.{Coding, Packs, of_digits, groups_form}
use Rattle.rules.proofs.Fractional.{digits-fit}

-- the number of digits from j on
pub digits-fit-all : {r : ℕ} (ds : List ℕ) (j : ℕ) → Below r ds → 2 ≤ r → r ≤ 6 → length ds ≤ 5 → of_digits r (drop j ds) < 7776
digits-fit-all {r} ds j b h k l =
    let a : r ^ length (drop j ds) ≤ r ^ 5 = pow-le-pow_right (omega arith) (rw (length-drop j ds) (omega arith)) in
    let c : r ^ 5 ≤ 6 ^ 5 = pow-le-pow_left k 5 in
    lt_of_lt_of_le (digits-fit (below-drop j b)) (le_trans a c)

-- a group's digits from its last on: what is left before them, and the number that they make
pub record GroupTurn (group : List ℕ) (r : ℕ) (rest : List ℕ) (v : ℕ) : Type 0 where
  pub tail : List ℕ
  pub says : rest ++ tail ≡ group
  pub value : v ≡ of_digits r tail

pub group-none : (group : List ℕ) (r : ℕ) → GroupTurn group r group 0
unfolding of_digits
group-none group r = record { tail = []; says = append-nil group; value = refl }

pub group-turn : {group rest rest' : List ℕ} {r v d x : ℕ} → GroupTurn group r rest v → rest ≡ rest' ++ (d ∷ []) → x ≡ d
    → GroupTurn group r rest' (r * v + x)
unfolding of_digits
group-turn {rest' = rest'} {r} {v} {d} t e is =
    record {
      tail = d ∷ t.tail;
      says = sym (append_assoc rest' (d ∷ []) t.tail) ∙ ap (λ (l : List ℕ). l ++ t.tail) (sym e) ∙ t.says;
      value = rw (is, t.value) (omega arith);
    }

-- and it is small
pub group-small : {group rest : List ℕ} {r v : ℕ} → GroupTurn group r rest v → Below r group → 2 ≤ r → r ≤ 6 → length group ≤ 5 → v < 7776
group-small {group} {rest} t b some few five =
    let at : drop (length rest) group ≡ t.tail = ap (drop (length rest)) (sym t.says) ∙ drop_at rest t.tail (length rest) refl in
    rw (t.value, ← at) (digits-fit-all group (length rest) b some few five)

pub length-group : (s : List ℕ) (from g : ℕ) → from + g ≤ length s → length (take g (drop from s)) ≡ g
length-group s from g h = length-take-le g (drop from s) (rw (length-drop from s) (omega arith))

-- groups put
pub record Putting (s : List ℕ) (c : Coding) (n : ℕ) (o : List ℕ) (p : Pen) (o' : List ℕ) (p' : Pen) (from : ℕ) : Type 0 where
  pub done : List ℕ
  pub more : ℕ
  pub says : done ++ groups_form c more (drop from s) ≡ groups_form c (n / c.group) s
  pub left : from + more * c.group ≡ n
  pub puts : Puts o p done o' p'
  pub size : length o' ≡ length o

module _ (s : List ℕ) (c : Coding) (n from : ℕ) {o o' : List ℕ} {p p' : Pen} (q : Packs c n) where
  able-at : (m : ℕ) (done : List ℕ) → done ++ groups_form c m (drop from s) ≡ groups_form c (n / c.group) s
      → from + m * c.group ≡ n
      → Puts o p done o' p' → length o' ≡ length o → Able o p (length (groups_form c (n / c.group) s)) → from < n → Able o' p' c.bits
  unfolding groups_form
  able-at zero done says left puts size a h = absurd (omega (arith, zero-mul c.group))
  able-at (suc m) done says left puts size a h =
      let v = of_digits c.radix (take c.group (drop from s)) in
      let rest = groups_form c m (drop c.group (drop from s)) in
      let l : length (groups_form c (n / c.group) s) ≡ length done + (c.bits + length rest) = ap length (sym says)
      ∙ simp (length-append, length-low_bits) in
      able-then c.bits a puts size (omega arith)

  turned : (m : ℕ) (done : List ℕ) → done ++ groups_form c m (drop from s) ≡ groups_form c (n / c.group) s
      → from + m * c.group ≡ n → Puts o p done o' p' → length o' ≡ length o → from < n → {v : ℕ} {o'' : List ℕ} {p'' : Pen}
      → v ≡ of_digits c.radix (take c.group (drop from s))
      → Puts o' p' (low_bits c.bits v) o'' p'' → length o'' ≡ length o' → Putting s c n o p o'' p'' (from + c.group)
  unfolding groups_form
  turned zero done says left puts size h e put k = absurd (omega (arith, zero-mul c.group))
  turned (suc m) done says left puts size h {v} e put k =
      let ds = s in
      let d : drop c.group (drop from ds) ≡ drop (from + c.group) ds = drop-drop c.group from ds in
      let u = suc-mul m c.group in
      record {
        done = done ++ low_bits c.bits v;
        more = m;
        says = rw (e, ← d) (append_assoc done (low_bits c.bits (of_digits c.radix (take c.group (drop from ds))))
            (groups_form c m (drop c.group (drop from ds))) ∙ says);
        left = omega arith;
        puts = puts_then puts put;
        size = k ∙ size;
      }

  ended : (m : ℕ) (done : List ℕ) → done ++ groups_form c m (drop from s) ≡ groups_form c (n / c.group) s → from + m * c.group ≡ n
      → Puts o p done o' p' → n ≤ from → Puts o p (groups_form c (n / c.group) s) o' p'
  unfolding groups_form
  ended zero done says left puts h = puts-as puts (sym (append-nil done) ∙ says)
  ended (suc m) done says left puts h = absurd (omega (arith, suc-mul m c.group, q.group))

module _ {s : List ℕ} {c : Coding} {n from : ℕ} {o o' : List ℕ} {p p' : Pen} (q : Packs c n)
    (t : Putting s c n o p o' p' from) where
  pub putting-able : Able o p (length (groups_form c (n / c.group) s)) → from < n → Able o' p' c.bits
  putting-able a h = able-at s c n from q t.more t.done t.says t.left t.puts t.size a h

  pub putting-turn : from < n → {v : ℕ} {o'' : List ℕ} {p'' : Pen} → v ≡ of_digits c.radix (take c.group (drop from s))
      → Puts o' p' (low_bits c.bits v) o'' p'' → length o'' ≡ length o' → Putting s c n o p o'' p'' (from + c.group)
  putting-turn h e put k = turned s c n from q t.more t.done t.says t.left t.puts t.size h e put k

  pub putting-all : n ≤ from → Puts o p (groups_form c (n / c.group) s) o' p'
  putting-all h = ended s c n from q t.more t.done t.says t.left t.puts h

-- a group is within the digits, and all groups are all of them
pub group-within : {c : Coding} {n : ℕ} → Packs c n → (i : ℕ) → i < n / c.group → c.group * i + c.group ≤ n
group-within {c} {n} p i h =
    let next : i + 1 ≤ n / c.group = omega arith in
    let most = mul-le-mul_left c.group next in
    omega (arith, most, p.whole)

pub groups-all : {c : Coding} {n : ℕ} → Packs c n → (i : ℕ) → n / c.group ≤ i → n ≤ c.group * i
groups-all {c} {n} p i h =
    let most = mul-le-mul_left c.group h in
    omega (arith, most, p.whole)

-- what a group makes fits its bits
pub group-bits : {c : Coding} {n : ℕ} → Packs c n → (s : List ℕ) (from : ℕ) → Below c.radix s → from + c.group ≤ length s
    → of_digits c.radix (take c.group (drop from s)) < 2 ^ c.bits
group-bits {c} p s from b h =
    let l = length-group s from c.group h in
    let d : of_digits c.radix (take c.group (drop from s)) < c.radix ^ c.group
    = rw l at (digits-fit (below-take c.group (below-drop from b))) in
    lt_of_lt_of_le d p.fits

-- the group at a place
pub group-at : (n k i : ℕ) (s item : List ℕ) {groups : List (List ℕ)} → groups ≡ first_chunks n k s → length groups ≡ k → i < length groups
    → item ≡ get_or groups i item → item ≡ take n (drop (n * i) s)
group-at n k i s item {groups} is size h e =
    e ∙ get_or_default groups i item [] h ∙ ap (λ (l : List (List ℕ)). get_or l i []) is ∙ chunk-of n k i s (omega arith)
