-- Groups read one after another: what is done, and what is left of the reading.
use Prim.Native.Nat.{ℕ, zero, suc, ◌+◌, ◌*◌, ◌^◌, ◌/◌, ◌%◌, ◌≤◌, ◌<◌}
use mathlib.Core.Path.{◌≡◌, refl, sym, ◌∙◌}
use mathlib.Core.List.{List, [], ◌++◌, map, map-append}
use native.Mathlib.Omega.{arith}
use native.Mathlib.Nat.{zero-mul, suc-mul, zero-add}
use borrow.Author.Tests.{lt-ltb, le-ltb}
use lib.Pow.{pow_mono}
use lib.ListN.{length, get_or, set, length-map, length-append}
use Rattle.rules.specs.declared.Refusal.{Refusal}
use Rattle.rules.specs.declared.Refusal.TheVariants.{Place}
use Rattle.rules.specs.Reading.{whole, refuse, number_from}
use Rattle.read_bits.specs.Outcomes.{got, stop}
use Rattle.read_runs.specs.Flagged.{Put}
use Rattle.read_runs.proofs.Puts.{put-none, put_one, put_then, put-length}
use Rattle.read_bodies.specs.Bodied.{FillsBody}
use Rattle.read_bodies.proofs.Poured.{fills-put, fills-refused}
use Rattle.rules.specs.Fractional.{Coding, coding, digits_of, groups_from, groups_as, Packs}
use Rattle.rules.proofs.Fractional.{length_digits}

pub record Filling (values bits : List ℕ) (at : ℕ) (c : Coding) (n : ℕ) (old new : List ℕ) (filled place : ℕ) : Type 0 where
  pub done : List ℕ
  pub more : ℕ
  pub says : groups_from c [] (n / c.group) bits at ≡ groups_from c done more bits place
  pub size : length done ≡ filled
  pub left : filled + more * c.group ≡ n
  pub put : Put old 0 (map (λ d. get_or values d 0) done) new
  pub room : length new ≡ 320
  pub near : place ≤ at + 13 * filled

pub filling-none : (values bits : List ℕ) (at : ℕ) {c : Coding} {n : ℕ} (old : List ℕ) → Packs c n → length old ≡ 320
    → Filling values bits at c n old old 0 at
filling-none values bits at {c} {n} old p h =
    record {
      done = [];
      more = n / c.group;
      says = refl;
      size = refl;
      left = zero-add _ ∙ p.whole;
      put = put-none old 0;
      room = h;
      near = omega arith;
    }

module _ (values bits : List ℕ) (at : ℕ) (c : Coding) (n filled place : ℕ) where
  refused-at : (more : ℕ) (done : List ℕ) → groups_from c [] (n / c.group) bits at ≡ groups_from c done more bits place
      → filled + more * c.group ≡ n → filled < n
      → {why : Refusal} {b : ℕ} → number_from 0 c.bits bits place ≡ refuse why b → groups_as values c n bits at ≡ refuse why b
  unfolding groups_from groups_as
  refused-at zero done says left h e = absurd (omega (arith, zero-mul c.group))
  refused-at (suc m) done says left h e = let s = rw e at says in rw s

  placed_at : (more : ℕ) (done : List ℕ) → groups_from c [] (n / c.group) bits at ≡ groups_from c done more bits place
      → filled + more * c.group ≡ n → filled < n
      → {v next : ℕ} → number_from 0 c.bits bits place ≡ whole v next → c.radix ^ c.group ≤ v → groups_as values c n bits at ≡ refuse Place place
  unfolding groups_from groups_as
  placed_at zero done says left h e f = absurd (omega (arith, zero-mul c.group))
  placed_at (suc m) done says left h {v} {next} e f = let s = rw (e, le-ltb v (c.radix ^ c.group) f) at says in rw s

  all-at : (more : ℕ) (done : List ℕ) → groups_from c [] (n / c.group) bits at ≡ groups_from c done more bits place
      → filled + more * c.group ≡ n → n ≤ filled → 1 ≤ c.group → groups_as values c n bits at ≡ whole (map (λ d. get_or values d 0) done) place
  unfolding groups_from groups_as
  all-at zero done says left h o = rw says
  all-at (suc m) done says left h o = absurd (omega (arith, suc-mul m c.group, o))

module _ {values bits : List ℕ} {at : ℕ} {c : Coding} {n : ℕ} {old new : List ℕ} {filled place : ℕ} (p : Packs c n) (k : length old ≡ 320) where
  turned : (more : ℕ) (done : List ℕ) → groups_from c [] (n / c.group) bits at ≡ groups_from c done more bits place
      → length done ≡ filled → filled + more * c.group ≡ n → Put old 0 (map (λ d. get_or values d 0) done) new → place ≤ at + 13 * filled
      → filled < n → {v next : ℕ} → number_from 0 c.bits bits place ≡ whole v next → v < c.radix ^ c.group → next ≤ place + c.bits
      → {after : List ℕ} → Put new filled (map (λ d. get_or values d 0) (digits_of c.radix c.group v)) after → length after ≡ 320
      → Filling values bits at c n old after (filled + c.group) next
  unfolding groups_from
  turned zero done says size left put near h e f o q room = absurd (omega (arith, zero-mul c.group))
  turned (suc m) done says size left put near h {v} {next} e f o q room =
      let d = length_digits c.radix c.group v in
      let a = length-map done (λ (d : ℕ). get_or values d 0) in
      let u = suc-mul m c.group in
      let x = p.room in
      record {
        done = done ++ digits_of c.radix c.group v;
        more = m;
        says = rw (e, lt-ltb v (c.radix ^ c.group) f) at says;
        size = length-append done (digits_of c.radix c.group v) ∙ omega arith;
        left = omega arith;
        put = put_then put (omega arith) (omega arith) q (sym (map-append (λ (d : ℕ). get_or values d 0) done (digits_of c.radix c.group v)));
        room = room;
        near = omega (arith, p.bits, p.group);
      }

  pub filling-turn : Filling values bits at c n old new filled place
      → filled < n → {v next : ℕ} → number_from 0 c.bits bits place ≡ whole v next → v < c.radix ^ c.group → next ≤ place + c.bits
      → {after : List ℕ} → Put new filled (map (λ d. get_or values d 0) (digits_of c.radix c.group v)) after → length after ≡ 320
      → Filling values bits at c n old after (filled + c.group) next
  filling-turn t h e f o q room = turned t.more t.done t.says t.size t.left t.put t.near h e f o q room

  pub filling-refused : Filling values bits at c n old new filled place → filled < n → {why : Refusal} {b far : ℕ}
      → number_from 0 c.bits bits place ≡ refuse why b → FillsBody (groups_as values c n bits at) far old new (stop why b)
  filling-refused t h e =
      fills-refused (refused-at values bits at c n filled place t.more t.done t.says t.left h e) t.room

  pub filling-place : Filling values bits at c n old new filled place → filled < n → {v next far : ℕ}
      → number_from 0 c.bits bits place ≡ whole v next → c.radix ^ c.group ≤ v
      → FillsBody (groups_as values c n bits at) far old new (stop Place place)
  filling-place t h e f =
      fills-refused (placed_at values bits at c n filled place t.more t.done t.says t.left h e f) t.room

  pub filling-all : Filling values bits at c n old new filled place → n ≤ filled
      → FillsBody (groups_as values c n bits at) (at + 4160) old new (got n place)
  filling-all t h =
      let s = t.size in
      let near = t.near in
      let left = t.left in
      let x = p.room in
      fills-put t.put (all-at values bits at c n filled place t.more t.done t.says t.left h p.group)
      (length-map t.done (λ (d : ℕ). get_or values d 0) ∙ omega arith) x (omega arith)

pub packs-small : {c : Coding} {n v : ℕ} → Packs c n → v < c.radix ^ c.group → v < 8192
packs-small {c} p h =
    let b = p.bits in let f = p.fits in let m : 2 ^ c.bits ≤ 2 ^ 13 = pow_mono {j = 13} (omega arith) in omega arith

-- Where R' is 4, a group is one sample of two bits
pub packs-four : (n : ℕ) → n ≤ 320 → Packs (coding 4 1 2) n
packs-four n h =
    record {
      some = omega arith;
      few = omega arith;
      group = omega arith;
      five = omega arith;
      bits = omega arith;
      fits = omega arith;
      whole = omega arith;
      room = h;
    }

pub laid_one : (values new : List ℕ) {filled v x : ℕ} → filled < length new → v < 4 → x ≡ get_or values v 0
    → Put new filled (map (λ d. get_or values d 0) (digits_of 4 1 v)) (set new filled x)
unfolding digits_of
laid_one values new {filled} {v} {x} h k e = let m : v % 4 ≡ v = omega arith in rw (m, ← e) (put_one new filled x h)

pub set_room : (new : List ℕ) (filled x : ℕ) → length new ≡ 320 → filled < 320 → length (set new filled x) ≡ 320
set_room new filled x r h = let one = put_one new filled x (omega arith) in put-length one (omega arith) ∙ r
