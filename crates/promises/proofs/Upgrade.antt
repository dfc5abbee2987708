-- R-5, a bench upgrade never costs room: a writer with more tools never needs more octets, for a frame or for any list of them.
-- Main statements: `upgrade` (a frame), `upgrade-stream` (a list, each frame with two sets of its own), `upgrade-sum` (a list, two sets
-- for all); `room-enough`, `joined`, `one_more`.
use Prim.Native.Nat.{ℕ, suc, ◌+◌, ◌^◌, ◌/◌, ◌%◌, ◌≤◌, ◌<◌, min}
use native.Mathlib.Omega.{arith}
use mathlib.Core.Path.{◌≡◌, refl}
use mathlib.Core.List.{List, [], ◌∷◌, map}
use mathlib.Core.Bool.{Bool, true, false, cond, not, ◌||◌}
use lib.ListN.{length, take, length-append}
use lib.Dec.{eqb}
use borrow.Author.Tests.{le-ltb, ne_eqb, leb-true}
use Rattle.rules.specs.Tools.{is_tool, slot_of, holds, Within, all_tools, is_set, is_writer_set}
use Rattle.rules.specs.Bits.{octets_for}
use Rattle.rules.specs.Samples.{mask_of}
use Rattle.rules.specs.Chooses.{applies, form_of, octets_of_form, tie_order, chosen_tool, Written, chosen, wrote, write_one}
use Rattle.rules.proofs.Octets.{length-pack}
use Rattle.rules.proofs.Tests.{and_left, and_right, implied, all_below, all_below-at, past_tools, tool-low}
use Rattle.rules.proofs.Chosen.{FirstLeast, usable, order, writer-holds, choose-least, wider-least, first-of-fewer, one-first-least}
use Rattle.promises.proofs.Written.{wrote_by}
use Rattle.promises.proofs.Lists.{Part, padding, frame_of, written_for, octets_of, stream}

-- the octets of a frame's form, by the writer's set
abbrev pub octets_with : ℕ → ℕ → List ℕ → ℕ
octets_with mask set s = octets_for (length (chosen mask set s).bits)

-- a frame of no samples has its one form by either set
either : (none : Bool) (pad x y : Written) → octets_for (length x.bits) ≤ octets_for (length y.bits)
    → octets_for (length (cond none pad x).bits) ≤ octets_for (length (cond none pad y).bits)
either true pad x y h = omega arith
either false pad x y h = h

module _ (mask a b : ℕ) (s : List ℕ) (odd : is_writer_set a ≡ true) (w : Within a b) where
  -- whatever the smaller set can use, the larger can
  also-usable : (t : ℕ) → usable mask a s t ≡ true → usable mask b s t ≡ true
  also-usable t e = rw (w.also t (and_left (holds a t) (applies mask t s) e), and_right (holds a t) (applies mask t s) e) refl

  smaller : FirstLeast (usable mask a s) (octets_of_form mask s) order (chosen_tool mask a s)
  smaller = choose-least mask a s tie_order (writer-holds a odd)

  larger : FirstLeast (usable mask b s) (octets_of_form mask s) order (chosen_tool mask b s)
  larger = choose-least mask b s tie_order (w.also 1 (writer-holds a odd))

-- R-5: "If one writer's set lies within another's, the larger set's form of a frame never has more octets"
pub upgrade : (mask a b : ℕ) (s : List ℕ) → is_writer_set a ≡ true → Within a b → octets_with mask b s ≤ octets_with mask a s
unfolding chosen
upgrade mask a b s odd w =
    either (eqb (length s) 0) _ _ _ (wider-least (also-usable mask a b s odd w) (smaller mask a b s odd w) (larger mask a b s odd w))

-- and it is the same form where the tool that wins was in the smaller set already
same-tool : (mask a b : ℕ) (s : List ℕ) → is_writer_set a ≡ true → Within a b → holds a (chosen_tool mask b s) ≡ true
    → chosen_tool mask b s ≡ chosen_tool mask a s
same-tool mask a b s odd w held =
    let t = chosen_tool mask b s in
    let f = larger mask a b s odd w in
    let fits = and_right (holds b t) (applies mask t s) f.ok in
    let same = first-of-fewer (also-usable mask a b s odd w) (rw (held, fits) refl) f in
    one-first-least (usable mask a s) (octets_of_form mask s) same (smaller mask a b s odd w)

pub same-form : (mask a b : ℕ) (s : List ℕ) → is_writer_set a ≡ true → Within a b → holds a (chosen_tool mask b s) ≡ true
    → chosen mask b s ≡ chosen mask a s
unfolding chosen
same-form mask a b s odd w held = rw (same-tool mask a b s odd w held) refl

-- A list of frames, each written with a set of its own, and what an upgrade of each writer makes of it: the same frames, each by a set that
-- holds the old one. Pads stay.
pub data Upgraded : Part → Part → Type 0 where
  pads : Upgraded padding padding
  frames : {a b : ℕ} {s : List ℕ} → is_writer_set a ≡ true → Within a b → Upgraded (frame_of a s) (frame_of b s)

pub data AllUpgraded : List Part → List Part → Type 0 where
  last : AllUpgraded [] []
  then : {p q : Part} {ps qs : List Part} → Upgraded p q → AllUpgraded ps qs → AllUpgraded (p ∷ ps) (q ∷ qs)

-- a stream's octets are summed over its parts
unfoldable pub total : {A : Type 0} → (A → ℕ) → List A → ℕ
total f [] = 0
total f (x ∷ xs) = f x + total f xs

abbrev pub octets_in : ℕ → Part → ℕ
octets_in mask p = octets_for (length (written_for mask p).bits)

pub stream-total : (mask : ℕ) (ps : List Part) → length (stream mask ps) ≡ total (octets_in mask) ps
unfolding stream total
stream-total mask [] = refl
stream-total mask (p ∷ ps) =
    omega (arith, length-append (octets_of mask p) (stream mask ps), length-pack (written_for mask p).bits, stream-total mask ps)

upgrade-part : (mask : ℕ) {p q : Part} → Upgraded p q → octets_in mask q ≤ octets_in mask p
upgrade-part mask pads = omega arith
upgrade-part mask (frames {a = a} {b = b} {s = s} odd w) = upgrade mask a b s odd w

upgrade-total : (mask : ℕ) {ps qs : List Part} → AllUpgraded ps qs → total (octets_in mask) qs ≤ total (octets_in mask) ps
unfolding total
upgrade-total mask last = omega arith
upgrade-total mask (then u us) = omega (arith, upgrade-part mask u, upgrade-total mask us)

-- R-5: "the same holds summed over any list of frames"; here each with two sets of its own, and pads between
pub upgrade-stream : (mask : ℕ) {ps qs : List Part} → AllUpgraded ps qs → length (stream mask qs) ≤ length (stream mask ps)
upgrade-stream mask {ps} {qs} u = omega (arith, upgrade-total mask u, stream-total mask ps, stream-total mask qs)

-- so with the same two sets for all
all-upgraded : (a b : ℕ) → is_writer_set a ≡ true → Within a b → (ss : List (List ℕ)) → AllUpgraded (map (frame_of a) ss) (map (frame_of b) ss)
all-upgraded a b odd w [] = last
all-upgraded a b odd w (s ∷ ss) = then (frames odd w) (all-upgraded a b odd w ss)

total-frames : (mask set : ℕ) (ss : List (List ℕ)) → total (octets_in mask) (map (frame_of set) ss) ≡ total (octets_with mask set) ss
unfolding total
total-frames mask set [] = refl
total-frames mask set (s ∷ ss) = omega (arith, total-frames mask set ss)

pub upgrade-sum : (mask a b : ℕ) (ss : List (List ℕ)) → is_writer_set a ≡ true → Within a b
    → total (octets_with mask b) ss ≤ total (octets_with mask a) ss
upgrade-sum mask a b ss odd w =
    omega (arith, upgrade-total mask (all-upgraded a b odd w ss), total-frames mask a ss, total-frames mask b ss)

-- What a bench hand asks next. Where the smaller set's write has room, the larger set's has: it is written, not refused.
pub room-enough : (n : ℕ) (samples : List ℕ) (law a b room : ℕ) (w : Written) → is_writer_set b ≡ true → Within a b
    → write_one n samples law a room ≡ wrote w → write_one n samples law b room ≡ wrote (chosen (mask_of law) b (take n samples))
unfolding write_one
room-enough n samples law a b room w odd within e =
    let d = wrote_by n samples law a room w e in
    let mask = mask_of law in
    let s = take n samples in
    let fits : octets_with mask a s ≤ room = rw d.is d.fits in
    rw (d.lawful, odd, d.allowed, le-ltb room (octets_with mask b s) (omega (arith, upgrade mask a b s d.odd within))) refl

-- Two benches with different tools: a set that holds both sets needs no more octets than either.
pub joined : (mask a b c : ℕ) (s : List ℕ) → is_writer_set a ≡ true → is_writer_set b ≡ true → Within a c → Within b c
    → octets_with mask c s ≤ min (octets_with mask a s) (octets_with mask b s)
joined mask a b c s i j u v = omega (arith, upgrade mask a c s i u, upgrade mask b c s j v)

-- A set with exactly one tool more: only the frames that this tool wins are written otherwise.
pub record OneMore (a t b : ℕ) : Type 0 where
  pub within : Within a b
  pub only : (u : ℕ) → holds b u ≡ true → (u ≡ t → ⊥) → holds a u ≡ true

unless : (none : Bool) (pad x y : Written) (t : ℕ) → ((x.tool ≡ t → ⊥) → x ≡ y) → ((cond none pad x).tool ≡ t → ⊥)
    → cond none pad x ≡ cond none pad y
unless true pad x y t h lost = refl
unless false pad x y t h lost = h lost

pub one_more : (mask a t b : ℕ) (s : List ℕ) → is_writer_set a ≡ true → OneMore a t b → ((chosen mask b s).tool ≡ t → ⊥)
    → chosen mask b s ≡ chosen mask a s
unfolding chosen
one_more mask a t b s odd m lost = unless (eqb (length s) 0) _ _ _ t others lost
  where
    u : ℕ
    u = chosen_tool mask b s

    held : holds b u ≡ true
    held = and_left (holds b u) (applies mask u s) (larger mask a b s odd m.within).ok

    form : ℕ → Written
    form v = record { tool = v; bits = form_of mask v s }

    others : (u ≡ t → ⊥) → form u ≡ form (chosen_tool mask a s)
    others not_t = rw (same-tool mask a b s odd m.within (m.only u held not_t)) refl

-- "Tool t (1 to 7) adds 2^(t-1)", and tool 11 adds 128, where t was not in the set. One test of all sets and tools, computed.
as_sum : ℕ → ℕ → ℕ → Bool
as_sum a t u = cond (holds a u || eqb u t) (holds (a + 2 ^ slot_of t) u) (not (holds (a + 2 ^ slot_of t) u))

abbrev sums : ℕ → ℕ → Bool
sums a t = not (is_tool t) || (holds a t || all_below (as_sum a t) past_tools)

all-sums : all_below (λ a. all_below (sums a) past_tools) (suc all_tools) ≡ true
unfolding holds as_sum
all-sums = refl

-- no set holds a tool past the last
held_low : (set t : ℕ) → holds set t ≡ true → t < past_tools
unfolding holds
held_low set t e = tool-low t (and_left (is_tool t) (eqb (set / 2 ^ slot_of t % 2) 1) e)

pub one-added : (a t : ℕ) → is_set a ≡ true → is_tool t ≡ true → holds a t ≡ false → OneMore a t (a + 2 ^ slot_of t)
unfolding as_sum
one-added a t small h out = record {
  within = record { also = λ u e. rw e at (at u (held_low a u e)) };
  only = λ u e other. kept u (holds a u) refl (rw (ne_eqb u t other) at (at u (held_low (a + 2 ^ slot_of t) u e))) e;
}
  where
    at : (u : ℕ) → u < past_tools → as_sum a t u ≡ true
    at u l =
        let set = all_below-at (λ a. all_below (sums a) past_tools) (suc all_tools) all-sums a (omega (arith, leb-true a all_tools small)) in
        let tool = implied (is_tool t) (holds a t || all_below (as_sum a t) past_tools)
        (all_below-at (sums a) past_tools set t (tool-low t h)) h in
        all_below-at (as_sum a t) past_tools (rw out at tool) u l

    kept : (u : ℕ) (x : Bool) → holds a u ≡ x → cond (x || false) (holds (a + 2 ^ slot_of t) u) (not (holds (a + 2 ^ slot_of t) u)) ≡ true
        → holds (a + 2 ^ slot_of t) u ≡ true → holds a u ≡ true
    kept u true e f g = e
    kept u false e f g = absurd (let z = rw g at f in let n : ◌≡◌ {A = ℕ} 0 1 = cc in omega arith)
