-- "HEAD (14) for a wrong or cut heading": a file is read with HEAD exactly where the first ten octets are neither heading (`head-is`,
-- `head-only`), for every set that is one; "after SET": another set is told first (`set_first`).
use Prim.Native.Nat.{ℕ, zero, suc, ◌+◌, ◌-◌}
use native.Mathlib.Omega.{arith}
use mathlib.Core.Path.{◌≡◌, refl, sym}
use mathlib.Core.List.{List, [], ◌∷◌}
use mathlib.Core.Bool.{Bool, true, false, cond, not}
use lib.ListN.{length, get_or, take, drop}
use lib.Dec.{eqb, leb}
use borrow.Author.Tests.{eq-eqb, eqb-true}
use Rattle.rules.specs.declared.Refusal as refusal
use Rattle.rules.specs.declared.Refusal.TheVariants as rules
use Rattle.rules.specs.Tools.{is_set}
use Rattle.rules.specs.Samples.{mask_of}
use Rattle.rules.specs.Reading.{Read, whole, refuse}
use Rattle.rules.specs.Frame.{Found, octets_used, read_one}
use Rattle.rules.specs.Walk.{longest}
use Rattle.rules.proofs.Tests.{and_left, and_right}
use Rattle.text_keyvalue.specs.Reading.{begins}
use Rattle.recording.specs.declared.Refusal.TheVariants.{Head, Frame}
use Rattle.std.proofs.Common.{Ok, Err}
use Rattle.recording.specs.Remembered.{Headed, heading, no_heading, heading_of, heading_length, headed, lost_octet}
use Rattle.recording.specs.Items.{Recorded, stopped, room_taken, after_read, items_from, File, nothing, by_heading, read_file}

-- a text begins with a word exactly where its first octets are the word
begins-is : (word text : List ℕ) → take (length word) text ≡ word → begins word text ≡ true
unfolding begins
begins-is [] text e = refl
begins-is (x ∷ word) [] e = let z : ◌≡◌ {A = ℕ} 0 1 = cc in absurd (omega arith)
begins-is (x ∷ word) (y ∷ text) e =
    let first : y ≡ x = cc in
    let rest : take (length word) text ≡ word = cc in
    rw (eq-eqb x y (sym first)) (begins-is word text rest)

begins-only : (word text : List ℕ) → begins word text ≡ true → take (length word) text ≡ word
unfolding begins
begins-only [] text e = refl
begins-only (x ∷ word) [] e = let z : ◌≡◌ {A = ℕ} 0 1 = cc in absurd (omega arith)
begins-only (x ∷ word) (y ∷ text) e =
    let first = eqb-true x y (and_left (eqb x y) (begins word text) e) in
    let rest = begins-only word text (and_right (eqb x y) (begins word text) e) in
    rw (first, rest) refl

-- the first ten octets are the heading of a law
abbrev pub Heads : ℕ → List ℕ → Type 0
Heads law octets = take heading_length octets ≡ heading_of law

-- a set that is none is told before the heading is looked at
pub set_first : (octets : List ℕ) (set room places : ℕ) → is_set set ≡ false → read_file octets set room places ≡ nothing (Frame rules.Set) 0
unfolding read_file
set_first octets set room places s = rw s refl

neither : (x y : Bool) → (x ≡ true → ⊥) → (y ≡ true → ⊥) → cond x (heading 0) (cond y (heading 1) no_heading) ≡ no_heading
neither true y h k = absurd (h refl)
neither false true h k = absurd (k refl)
neither false false h k = refl

pub head-is : (octets : List ℕ) (set room places : ℕ) → is_set set ≡ true → (Heads 0 octets → ⊥) → (Heads 1 octets → ⊥)
    → read_file octets set room places ≡ nothing Head 0
unfolding read_file headed
head-is octets set room places s h k =
    rw (
      s,
      neither (begins (heading_of 0) octets) (begins (heading_of 1) octets)
          (λ e. h (begins-only (heading_of 0) octets e)) (λ e. k (begins-only (heading_of 1) octets e)),
    ) refl

-- and only there: no item is refused with HEAD
some-heading : (x y : Bool) → cond x (heading 0) (cond y (heading 1) no_heading) ≡ no_heading → (x ≡ false) × (y ≡ false)
some-heading true y e = let z : ◌≡◌ {A = ℕ} 0 1 = cc in absurd (omega arith)
some-heading false true e = let z : ◌≡◌ {A = ℕ} 0 1 = cc in absurd (omega arith)
some-heading false false e = (refl, refl)

headed-none : (octets : List ℕ) → headed octets ≡ no_heading → (Heads 0 octets → ⊥) × (Heads 1 octets → ⊥)
unfolding headed
headed-none octets e =
    let n = some-heading (begins (heading_of 0) octets) (begins (heading_of 1) octets) e in
    (λ h. not-both (begins-is (heading_of 0) octets h) n.0, λ h. not-both (begins-is (heading_of 1) octets h) n.1)
  where
    not-both : {b : Bool} → b ≡ true → b ≡ false → ⊥
    not-both t f = let z : ◌≡◌ {A = ℕ} 0 1 = cc in absurd (omega arith)

-- a reading that did not end with HEAD
abbrev NoHead : Recorded → Type 0
NoHead r = r.end ≡ Err Head → ⊥

clean : (at bit : ℕ) → NoHead (stopped (Ok tt) at bit)
clean at bit e = let z : ◌≡◌ {A = ℕ} 0 1 = cc in omega arith

by-frame : (w : refusal.Refusal) (at bit : ℕ) → NoHead (stopped (Err (Frame w)) at bit)
by-frame w at bit e = let z : ◌≡◌ {A = ℕ} 0 1 = cc in omega arith

either : (b : Bool) (r s : Recorded) → NoHead r → NoHead s → NoHead (cond b r s)
either true r s h k = h
either false r s h k = k

after : (m : Read Found) (at : ℕ) (next : Found → Recorded) → ((f : Found) → NoHead (next f)) → NoHead (after_read m at next)
after (whole f j) at next h = h f
after (refuse w bit) at next h = by-frame w at bit

items-no-head : (fuel : ℕ) (octets : List ℕ) (law set at room places : ℕ) → NoHead (items_from fuel octets law set at room places)
unfolding items_from
items-no-head zero octets law set at room places = clean at 0
items-no-head (suc fuel) octets law set at room places =
    either (leb (length octets) at) _ _ (clean at 0)
    (either (eqb places 0) _ _ (by-frame rules.Room at 0)
    (either (eqb (get_or octets at 0) lost_octet) _ _
    (items-no-head fuel octets law set (at + 1) room (places - 1))
    (after (read_one (drop at octets) law set room) at _
    (λ f. items-no-head fuel octets law set (at + octets_used f) (room - room_taken (mask_of law) f) (places - 1)))))

-- what HEAD says: the set is one, and the first ten octets are neither heading
pub record NoHeading (octets : List ℕ) (set : ℕ) : Type 0 where
  pub small : is_set set ≡ true
  pub not_a : Heads 0 octets → ⊥
  pub not-mu : Heads 1 octets → ⊥

heading-read : (octets : List ℕ) (set : ℕ) (h : Headed) → headed octets ≡ h → is_set set ≡ true → (next : ℕ → File)
    → ((law : ℕ) → NoHead (next law).read) → (by_heading h (nothing Head 0) next).read.end ≡ Err Head → NoHeading octets set
heading-read octets set no_heading q s next k e = let n = headed-none octets q in record { small = s; not_a = n.0; not-mu = n.1 }
heading-read octets set (heading law) q s next k e = absurd (k law e)

after-long : (b : Bool) (law : ℕ) (r : Recorded) → NoHead r
    → NoHead (cond b (nothing (Frame rules.Long) law) (record { law = law; read = r })).read
after-long true law r h = by-frame rules.Long 0 0
after-long false law r h = h

after-set : (X : Type 0) (b : Bool) (f : File) → (b ≡ true → f.read.end ≡ Err Head → X)
    → (cond (not b) (nothing (Frame rules.Set) 0) f).read.end ≡ Err Head → X
after-set X true f k e = k refl e
after-set X false f k e = absurd (by-frame rules.Set 0 0 e)

pub head-only : (octets : List ℕ) (set room places : ℕ) → (read_file octets set room places).read.end ≡ Err Head → NoHeading octets set
unfolding read_file
head-only octets set room places =
    after-set (NoHeading octets set) (is_set set) _ (λ s. heading-read octets set (headed octets) refl s _ (λ law.
    after-long (not (leb (length octets - heading_length) longest)) law _
    (items-no-head (suc (length octets - heading_length)) (drop heading_length octets) law set 0 room places)))
