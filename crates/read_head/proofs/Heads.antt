-- The first octets tell what a reading finds. Main statements: `head-agrees` (a head that is refused is a reading refused alike; where the
-- head tells tool and samples, an accepted frame has these, and a refused one is refused by what comes behind its tool), so `head-found`
-- and `head-refused`; `no-further` (nothing past the first two octets is looked at); `only-head` (no second answer).
use Prim.Native.Nat.{ℕ, zero, suc, ◌+◌, ◌*◌, ◌-◌, ◌^◌, ◌/◌, ◌%◌, ◌≤◌, ◌<◌, zero-le}
use native.Mathlib.Omega.{arith}
use mathlib.Core.Path.{◌≡◌, refl, sym, ap, subst, ◌∙◌}
use mathlib.Core.List.{List, [], ◌∷◌}
use mathlib.Core.Bool.{Bool, true, false, cond, not}
use lib.Dec.{eqb, leb, ltb}
use lib.ListN.{length, get_or, take}
use Rattle.rules.specs.declared.Refusal.{Refusal}
use Rattle.rules.specs.declared.Refusal.TheVariants.{Short, Prefix, Tool, Room, Case, Method, Run, Place, Align, Length, Set, Law, Long}
use Rattle.rules.specs.Tools.{holds, is_law, is_set, is_length}
use Rattle.rules.specs.Bits.{bits_of, fill_for}
use Rattle.rules.specs.Samples.{mask_of}
use Rattle.rules.specs.Reading.{Read, whole, refuse, Reader, and_then, fail, give, bit, number, number_from, filled}
use Rattle.rules.specs.First.{First, unassigned, pad, tool, fractional_row, six_or_eight, first_octet, mark_at, six_not_eight}
use Rattle.rules.specs.Zeros.{plus_minus}
use Rattle.rules.specs.Frame.{Found, with_tool, after_first, frame, read_one}
use Rattle.rules.proofs.Octets.{Below, Sized, length-bits_of, bits_of-below, bits_of-at}
use Rattle.rules.proofs.Tests.{and_left}
use Rattle.rules.proofs.Signed.{LawMask, law-mask}
use Rattle.rules.proofs.Firsts.{as_written, first-as-written}
use Rattle.rules.proofs.Gives.{Gives, gives-number}
use Rattle.rules.proofs.Accepted.{gives-fractional, gives-plus_minus, gives-body, Steps, through, steps, not-refused, filled_is, number-next}
use Rattle.rules.proofs.WhichBit.{tool-at}
use Rattle.promises.proofs.Only.{Only, Bodily, only-body, only-plus_minus, only-fractional, only-with_tool}
use Rattle.read_bits.proofs.OneBit.{bit-there}
use Rattle.read_head.specs.declared.Told.{Told}
use Rattle.read_head.specs.Heads.{FrameHead, by_tool, head_after, head_of}
use Rattle.read_head.specs.Heads as contract

-- what refuses a frame behind its tool: its room, its body, its filling bits
abbrev pub Behind : Refusal → Type 0
Behind Short = Unit {0}
Behind Prefix = ⊥
Behind (Tool t) = ⊥
Behind Room = Unit {0}
Behind Case = Unit {0}
Behind Method = Unit {0}
Behind Run = Unit {0}
Behind Place = Unit {0}
Behind Align = Unit {0}
Behind Length = ⊥
Behind Set = ⊥
Behind Law = ⊥
Behind Long = ⊥

bodily : Bodily Behind
bodily = record { short = tt; case = tt; method = tt; run = tt; place = tt; align = tt }

-- a head and a reading
abbrev pub Agrees : Read FrameHead → Read Found → Type 0
Agrees (refuse w at) m = m ≡ refuse w at
Agrees (whole h i) (whole f j) = (f.tool ≡ h.tool) × (length f.samples ≡ h.samples)
Agrees (whole h i) (refuse w at) = Behind w

-- the tool is decided
module _ (set room t n : ℕ) {r : Reader (List ℕ)} (g : Gives r (Sized 256 n)) (o : Only Behind r) {b : List ℕ} (z : Below 2 b) (i k : ℕ)
    (h : i ≤ length b) where
  abbrev done : List ℕ → ℕ → Found
  done s j = record { tool = t; samples = s; bits = j }

  held : holds set t ≡ true → (m : Read Found) → with_tool set room t n r b i ≡ m → Agrees (whole (record { tool = t; samples = n }) k) m
  unfolding with_tool
  held e (whole f j) q =
      let p = not-refused (not (holds set t)) (Tool t) 0 _ b i q in
      let u = not-refused (ltb room n) Room 0 _ b i p.1 in
      go (steps (r b i) _ u.1)
    where
      go : Steps (r b i) (λ s j. filled (done s j) (fill_for j) b j) f j → (f.tool ≡ t) × (length f.samples ≡ n)
      go (through s l q e) =
          let w = filled_is (done s l) (fill_for l) b l e in
          subst (λ (x : Found). (x.tool ≡ t) × (length x.samples ≡ n)) w.0 (refl, (g.on z h q).2.size)
  held e (refuse w at) q =
      (only-with_tool set room t n (λ f. let z : true ≡ false = sym e ∙ f in let y : ◌≡◌ {A = ℕ} 0 1 = cc in absurd (omega arith)) tt tt tt o
      ).says b i w at q

  tool-agrees : Agrees (by_tool set t n b k) (with_tool set room t n r b i)
  tool-agrees = go (holds set t) refl
    where
      go : (x : Bool) → holds set t ≡ x
          → Agrees (cond (not x) (fail (Tool t) 0) (give (record { tool = t; samples = n })) b k) (with_tool set room t n r b i)
      go false e = tool-at b i set room t n r e
      go true e = held e (with_tool set room t n r b i) refl

mark-few : (n : ℕ) → mark_at n ≤ 6
mark-few n = go (leb 240 n)
  where
    go : (b : Bool) → cond b 6 4 ≤ 6
    go true = omega arith
    go false = omega arith

-- what the first octet begins
module _ (mask set room : ℕ) (l : LawMask mask) (s : List ℕ) (h : 1 ≤ length s) where
  inside : 8 ≤ length (bits_of s)
  inside = rw length-bits_of (omega arith)

  after-agrees : (o : ℕ) (first : First) → as_written o first ≡ true
      → Agrees (head_after set first (bits_of s) 8) (after_first mask set room first (bits_of s) 8)
  unfolding head_after after_first
  after-agrees o unassigned w = refl
  after-agrees o pad w = (refl, refl)
  after-agrees o (tool t n) w =
      tool-agrees set room t n (gives-body l t n (and_left (is_length n) _ w)) (only-body bodily mask t n) (bits_of-below s) 8 8 inside
  after-agrees o (fractional_row k n) w =
      tool-agrees set room 11 n (gives-fractional l k n (and_left (is_length n) _ w)) (only-fractional tt tt mask k n) (bits_of-below s) 8 8 inside
  after-agrees o (six_or_eight n) w = rw (bit-there s (mark_at n) (omega (arith, mark-few n))) (go (six_not_eight (bits_of s) (mark_at n + 1)))
    where
      go : (m : Read ℕ) → Agrees (and_then m (λ t j. by_tool set t n (bits_of s) j))
          (and_then m (λ t j. with_tool set room t n (plus_minus mask n (get_or (bits_of s) (mark_at n) 0)) (bits_of s) (mark_at n + 1)))
      go (refuse w at) = refl
      go (whole t j) =
          tool-agrees set room t n (gives-plus_minus l n (get_or (bits_of s) (mark_at n) 0)) (only-plus_minus tt tt mask n (get_or (bits_of s) (mark_at n) 0))
          (bits_of-below s) (mark_at n + 1) j (omega (arith, inside, mark-few n))

-- a frame: its first octet, and then what that begins
frame-agrees : (mask set room : ℕ) → LawMask mask → (s : List ℕ) → Agrees
    (and_then (number 8 (bits_of s) 0) (λ o j. head_after set (first_octet o) (bits_of s) j))
    (frame mask set room (bits_of s) 0)
unfolding frame
frame-agrees mask set room l s = go (number 8 (bits_of s) 0) refl
  where
    go : (m : Read ℕ) → number 8 (bits_of s) 0 ≡ m → Agrees (and_then m (λ o j. head_after set (first_octet o) (bits_of s) j))
        (and_then m (λ o j. after_first mask set room (first_octet o) (bits_of s) j))
    go (refuse w at) q = refl
    go (whole o j) q =
        let g = (gives-number 8).on (bits_of-below s) zero-le q in
        let p : 8 ≡ j = number-next 0 8 (bits_of s) 0 q in
        let some : 1 ≤ length s = omega (arith, g.1, length-bits_of s) in
        rw (← p) (after-agrees mask set room l s some o (first_octet o) (first-as-written o g.2))

-- "TOOL as g7110_read gives it", and all else
pub head-agrees : (octets : List ℕ) (law set room : ℕ) → is_law law ≡ true → Agrees (head_of octets set) (read_one octets law set room)
unfolding head_of read_one
head-agrees octets law set room e = rw e (go (is_set set))
  where
    go : (x : Bool) → Agrees (cond (not x) (fail Set 0) (λ b i. and_then (number 8 b i) (λ o j. head_after set (first_octet o) b j)) (bits_of octets) 0)
        (cond (not x) (fail Set 0) (frame (mask_of law) set room) (bits_of octets) 0)
    go false = refl
    go true = frame-agrees (mask_of law) set room (law-mask law) octets

-- an accepted frame has the tool and the samples that its head tells
pub record Tells (h : Read FrameHead) (f : Found) : Type 0 where
  pub next : ℕ
  pub is : h ≡ whole (record { tool = f.tool; samples = length f.samples }) next

pub head-found : (octets : List ℕ) (law set room : ℕ) → is_law law ≡ true → {f : Found} {j : ℕ} → read_one octets law set room ≡ whole f j
    → Tells (head_of octets set) f
head-found octets law set room l {f} {j} e = go (head_of octets set) (subst (Agrees (head_of octets set)) e (head-agrees octets law set room l))
  where
    go : (h : Read FrameHead) → Agrees h (whole f j) → Tells h f
    go (whole h i) a = record { next = i; is = rw (a.0, a.1) refl }
    go (refuse w at) a = let z : ◌≡◌ {A = ℕ} 0 1 = cc in absurd (omega arith)

-- SET, PREFIX and TOOL are the head's own: a frame refused so has a head refused so
pub head-refused : (octets : List ℕ) (law set room : ℕ) → is_law law ≡ true → {w : Refusal} {at : ℕ} → (Behind w → ⊥)
    → read_one octets law set room ≡ refuse w at → head_of octets set ≡ refuse w at
head-refused octets law set room l {w} {at} other e =
    go (head_of octets set) (subst (Agrees (head_of octets set)) e (head-agrees octets law set room l))
  where
    go : (h : Read FrameHead) → Agrees h (refuse w at) → h ≡ refuse w at
    go (whole h i) a = absurd (other a)
    go (refuse u k) a = let p : w ≡ u = cc in let q : at ≡ k = cc in rw (p, q)

-- "nothing past them is looked at": of three octets or more the first two
module _ (x y : ℕ) (more : List ℕ) where
  abbrev all : List ℕ
  all = x ∷ y ∷ more

  abbrev two : List ℕ
  two = x ∷ y ∷ []

  same_bit : (i : ℕ) → i < 16 → bit (bits_of all) i ≡ bit (bits_of two) i
  same_bit i h =
      bit-there all i (omega arith) ∙ ap (λ (v : ℕ). whole v (i + 1)) (bits_of-at all i (omega arith) ∙ octet (i / 8) refl
      ∙ sym (bits_of-at two i (omega arith))) ∙ sym (bit-there two i (omega arith))
    where
      octet : (k : ℕ) → i / 8 ≡ k → get_or all k 0 / 2 ^ (7 - i % 8) % 2 ≡ get_or two k 0 / 2 ^ (7 - i % 8) % 2
      octet zero e = refl
      octet (suc zero) e = refl
      octet (suc (suc k)) e = absurd (omega arith)

  same_number : (v n i : ℕ) → i + n ≤ 16 → number_from v n (bits_of all) i ≡ number_from v n (bits_of two) i
  unfolding number_from
  same_number v zero i h = refl
  same_number v (suc n) i h =
      rw (same_bit i (omega arith), bit-there two i (omega arith)) (same_number (2 * v + get_or (bits_of two) i 0) n (i + 1) (omega arith))

  same-six : (i : ℕ) → i ≤ 7 → six_not_eight (bits_of all) i ≡ six_not_eight (bits_of two) i
  unfolding six_not_eight
  same-six i h = rw (same_bit i (omega arith), bit-there two i (omega arith)) (go (eqb (get_or (bits_of two) i 0) 1))
    where
      last : (t : Bool) (k : ℕ) → cond t (give {A = ℕ} 6) (give {A = ℕ} 8) (bits_of all) k ≡ cond t (give {A = ℕ} 6) (give {A = ℕ} 8) (bits_of two) k
      last true k = refl
      last false k = refl

      after : (m : Read ℕ) → and_then m (λ a k. cond (eqb a 1) (give {A = ℕ} 6) (give {A = ℕ} 8) (bits_of all) k)
          ≡ and_then m (λ a k. cond (eqb a 1) (give {A = ℕ} 6) (give {A = ℕ} 8) (bits_of two) k)
      after (whole a k) = last (eqb a 1) k
      after (refuse w at) = refl

      go : (t : Bool) → cond t (give {A = ℕ} 6) (λ b j. and_then (bit b j) (λ a k. cond (eqb a 1) (give {A = ℕ} 6) (give {A = ℕ} 8) b k)) (bits_of all) (i + 1)
          ≡ cond t (give {A = ℕ} 6) (λ b j. and_then (bit b j) (λ a k. cond (eqb a 1) (give {A = ℕ} 6) (give {A = ℕ} 8) b k)) (bits_of two) (i + 1)
      go true = refl
      go false = rw (same_bit (i + 1) (omega arith)) (after (bit (bits_of two) (i + 1)))

  same-tool : (set t n i : ℕ) → by_tool set t n (bits_of all) i ≡ by_tool set t n (bits_of two) i
  same-tool set t n i = go (holds set t)
    where
      go : (b : Bool) → cond (not b) (fail {A = FrameHead} (Tool t) 0) (give (record { tool = t; samples = n })) (bits_of all) i
          ≡ cond (not b) (fail {A = FrameHead} (Tool t) 0) (give (record { tool = t; samples = n })) (bits_of two) i
      go false = refl
      go true = refl

  same_after : (set i : ℕ) (first : First) → head_after set first (bits_of all) i ≡ head_after set first (bits_of two) i
  unfolding head_after
  same_after set i unassigned = refl
  same_after set i pad = refl
  same_after set i (tool t n) = same-tool set t n i
  same_after set i (fractional_row k n) = same-tool set 11 n i
  same_after set i (six_or_eight n) = rw (same-six (mark_at n + 1) (omega (arith, mark-few n))) (go (six_not_eight (bits_of two) (mark_at n + 1)))
    where
      go : (m : Read ℕ) → and_then m (λ t j. by_tool set t n (bits_of all) j) ≡ and_then m (λ t j. by_tool set t n (bits_of two) j)
      go (whole t j) = same-tool set t n j
      go (refuse w at) = refl

  same_head : (set : ℕ) → head_of all set ≡ head_of two set
  unfolding head_of
  same_head set = go (is_set set)
    where
      after : (m : Read ℕ) → and_then m (λ o j. head_after set (first_octet o) (bits_of all) j)
          ≡ and_then m (λ o j. head_after set (first_octet o) (bits_of two) j)
      after (whole o j) = same_after set j (first_octet o)
      after (refuse w at) = refl

      go : (b : Bool) → cond (not b) (fail Set 0) (λ b i. and_then (number 8 b i) (λ o j. head_after set (first_octet o) b j)) (bits_of all) 0
          ≡ cond (not b) (fail Set 0) (λ b i. and_then (number 8 b i) (λ o j. head_after set (first_octet o) b j)) (bits_of two) 0
      go false = refl
      go true = rw (same_number 0 8 0 (omega arith)) (after (number 8 (bits_of two) 0))

pub no-further : (octets : List ℕ) (set : ℕ) → head_of octets set ≡ head_of (take 2 octets) set
no-further [] set = refl
no-further (x ∷ []) set = refl
no-further (x ∷ y ∷ more) set = same_head x y more set

-- nothing else fits a head's contract
pub only-head : {h : Read FrameHead} {r s : Told} → contract.Heads h r → contract.Heads h s → r ≡ s
only-head {r = r} {s = s} a b = same (a.end ∙ sym b.end) (a.tool ∙ sym b.tool) (a.samples ∙ sym b.samples)
  where
    same : r.end ≡ s.end → r.tool ≡ s.tool → r.samples ≡ s.samples → r ≡ s
    same x y z = λ i. record { end = x i; tool = y i; samples = z i }
