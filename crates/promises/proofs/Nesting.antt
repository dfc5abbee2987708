-- Demand 3, first part: a reader whose set is within another's reads the same, or ends with TOOL of a tool that it does not hold.
use Prim.Native.Nat.{ℕ, zero, suc, ◌+◌, ◌≤◌, ◌<◌}
use native.Mathlib.Omega.{arith}
use mathlib.Core.Path.{◌≡◌, refl, sym, ap, ◌∙◌}
use mathlib.Core.List.{List, ◌∷◌, ◌++◌}
use mathlib.Core.Bool.{Bool, true, false, cond, not}
use lib.ListN.{length, drop}
use lib.Dec.{leb, ltb}
use borrow.Author.Tests.{le-leb, lt-ltb}
use Rattle.rules.specs.declared.Refusal.{Refusal}
use Rattle.rules.specs.declared.Refusal.TheVariants.{Tool, Room, Law, Long}
use Rattle.std.proofs.Common.{Err}
use Rattle.rules.specs.Tools.{holds, Within, is_set, is_law}
use Rattle.rules.specs.Bits.{bits_of, fill_for}
use Rattle.rules.specs.Samples.{mask_of}
use Rattle.rules.specs.Reading.{Read, whole, refuse, Reader, and_then, ◌>>=◌, here, bit, number, fail, filled}
use Rattle.rules.specs.First.{First, unassigned, pad, tool, fractional_row, six_or_eight, first_octet, mark_at, six_not_eight}
use Rattle.rules.specs.Frame.{Found, octets_used, with_tool, after_first, frame, read_one}
use Rattle.rules.specs.Walk.{Delivered, Walked, stopped, before, walk_from, longest, walk_all}
use Rattle.rules.proofs.Each.{Each, nothing, next}
use Rattle.rules.proofs.Gives.{no-refusal, same-refusal}
use Rattle.promises.proofs.Walks.{WalkOf, ended, refused, delivers, uses, walk-of, walk-next, walk-only}

-- the reading by the smaller set, beside that by the larger
pub data Nests (small : ℕ) (m m' : Read Found) : Type 0 where
  alike : m ≡ m' → Nests small m m'
  ends : (t : ℕ) → m ≡ refuse (Tool t) 0 → holds small t ≡ false → Nests small m m'

test-nests : (a b t : ℕ) (h : Bool) (p : Reader Found) (bits : List ℕ) (i : ℕ) → holds a t ≡ h → (holds a t ≡ true → holds b t ≡ true)
    → Nests a (cond (not h) (fail (Tool t) 0) p bits i) (cond (not (holds b t)) (fail (Tool t) 0) p bits i)
test-nests a b t true p bits i e w = alike (rw (w e) refl)
test-nests a b t false p bits i e w = ends t refl e

with_tool-nests : (a b room t n : ℕ) (r : Reader (List ℕ)) → Within a b → (bits : List ℕ) (i : ℕ)
    → Nests a (with_tool a room t n r bits i) (with_tool b room t n r bits i)
unfolding with_tool
with_tool-nests a b room t n r w bits i =
    test-nests a b t (holds a t)
    (cond (ltb room n) (fail Room 0)
    (r >>=
    (λ samples. here >>= (λ bits. filled (record { tool = t; samples = samples; bits = bits }) (fill_for bits)))))
    bits i refl (w.also t)

then-nests : {A : Type 0} (a : ℕ) (m : Read A) {f g : A → ℕ → Read Found} → ((x : A) (j : ℕ) → Nests a (f x j) (g x j))
    → Nests a (and_then m f) (and_then m g)
then-nests a (whole x j) h = h x j
then-nests a (refuse w at) h = alike refl

after_first-nests : (mask a b room : ℕ) → Within a b → (first : First) (bits : List ℕ) (i : ℕ)
    → Nests a (after_first mask a room first bits i) (after_first mask b room first bits i)
unfolding after_first
after_first-nests mask a b room w unassigned bits i = alike refl
after_first-nests mask a b room w pad bits i = alike refl
after_first-nests mask a b room w (tool t n) bits i = with_tool-nests a b room t n _ w bits i
after_first-nests mask a b room w (fractional_row k n) bits i = with_tool-nests a b room 11 n _ w bits i
after_first-nests mask a b room w (six_or_eight n) bits i =
    then-nests a (bit bits (mark_at n))
    (λ mark j. then-nests a (six_not_eight bits j) (λ t k. with_tool-nests a b room t n _ w bits (mark_at n + 1)))

frame-nests : (mask a b room : ℕ) → Within a b → (bits : List ℕ) (i : ℕ) → Nests a (frame mask a room bits i) (frame mask b room bits i)
unfolding frame
frame-nests mask a b room w bits i = then-nests a (number 8 bits i) (λ o j. after_first-nests mask a b room w (first_octet o) bits j)

tests-nest : (a : ℕ) (t : Bool) (w : Refusal) (p q : Reader Found) (bits : List ℕ) → Nests a (p bits 0) (q bits 0)
    → Nests a (cond t (fail w 0) p bits 0) (cond t (fail w 0) q bits 0)
tests-nest a true w p q bits h = alike refl
tests-nest a false w p q bits h = h

-- Demand 3, of single reads: sets at most 255, a within b; same law, octets and room
pub read-nests : (octets : List ℕ) (law a b room : ℕ) → is_set a ≡ true → is_set b ≡ true → Within a b
    → Nests a (read_one octets law a room) (read_one octets law b room)
unfolding read_one
read-nests octets law a b room s t w =
    rw (s, t) (tests-nest a (not (is_law law)) Law (frame (mask_of law) a room) (frame (mask_of law) b room) (bits_of octets)
    (frame-nests (mask_of law) a b room w (bits_of octets) 0))

-- the smaller's frames are the larger's before the place where the smaller ended
pub record Extends (w v : Walked) : Type 0 where
  pub rest : List Delivered
  pub frames : v.frames ≡ w.frames ++ rest
  pub early : Each (λ f. ltb f.place w.place) w.frames
  pub late : Each (λ f. leb w.place f.place) rest

-- the frames of a walk stand where it began, or behind
places-from : {octets : List ℕ} {law set at room : ℕ} {w : Walked} (p : ℕ) → p ≤ at → WalkOf octets law set at room w
    → Each (λ f. leb p f.place) w.frames
places-from p h (ended l) = nothing
places-from p h (refused l e) = nothing
places-from {octets} {law} {set} {at} {room} p h (delivers l e t) =
    next {x = _} (le-leb p at h) (places-from p (omega (arith, uses octets law set at room l e)) t)

-- and before the place where it ended
end-from : {octets : List ℕ} {law set at room : ℕ} {w : Walked} → WalkOf octets law set at room w → at ≤ w.place
end-from (ended l) = omega arith
end-from (refused l e) = omega arith
end-from {octets} {law} {set} {at} {room} (delivers l e t) = omega (arith, end-from t)

-- two walks, by the smaller set and by the larger
pub data WalksNest (small : ℕ) (w v : Walked) : Type 0 where
  alike : w ≡ v → WalksNest small w v
  ends : (t : ℕ) → w.end ≡ Err (Tool t) → holds small t ≡ false → Extends w v → WalksNest small w v

frame-before : (a at used : ℕ) (f : Found) {w v : Walked} → 1 ≤ used → at + used ≤ w.place → WalksNest a w v
    → WalksNest a (before (record { place = at; found = f }) w) (before (record { place = at; found = f }) v)
frame-before a at used f h k (alike e) = alike (ap (before (record { place = at; found = f })) e)
frame-before a at used f {w} {v} h k (ends t e n x) =
    ends t e n (record {
      rest = x.rest;
      frames = ap (λ l. record { place = at; found = f } ∷ l) x.frames;
      early = next {x = record { place = at; found = f }} (lt-ltb at w.place (omega arith)) x.early;
      late = x.late;
    })

walk-nests : (octets : List ℕ) (law a b : ℕ) → is_set a ≡ true → is_set b ≡ true → Within a b → {at room : ℕ} {w : Walked}
    → WalkOf octets law a at room w → (fuel : ℕ) → length octets < at + fuel → WalksNest a w (walk_from fuel octets law b at room)
walk-nests octets law a b s t n {at} {room} (ended h) fuel l = alike (sym (walk-only {set = b} {room = room} (ended {at = at} h) fuel l))
walk-nests octets law a b s t n {at} {room} (refused {w = w} {bit = bit} h e) fuel l = go (read-nests (drop at octets) law a b room s t n)
  where
    go : Nests a (read_one (drop at octets) law a room) (read_one (drop at octets) law b room)
        → WalksNest a (stopped (Err w) at bit) (walk_from fuel octets law b at room)
    go (alike d) = alike (sym (walk-only {set = b} {room = room} (refused {at = at} h (sym d ∙ e)) fuel l))
    go (ends x d y) =
        ends x (ap Err (same-refusal (sym e ∙ d))) y (record {
          rest = (walk_from fuel octets law b at room).frames;
          frames = refl;
          early = nothing;
          late = places-from at (omega arith) (walk-of fuel octets law b at room l);
        })
walk-nests octets law a b s t n (delivers h e k) zero l = absurd (omega arith)
walk-nests octets law a b s t n {at} {room} (delivers {f = f} {j = j} {rest = w} h e k) (suc fuel) l =
    let u = uses octets law a at room h e in
    rw (walk-next fuel octets law b at room h (other (read-nests (drop at octets) law a b room s t n)))
    (frame-before a at (octets_used f) f (omega arith) (end-from k) (walk-nests octets law a b s t n k fuel (omega arith)))
  where
    other : Nests a (read_one (drop at octets) law a room) (read_one (drop at octets) law b room)
        → read_one (drop at octets) law b room ≡ whole f j
    other (alike d) = sym d ∙ e
    other (ends x d y) = no-refusal (sym d ∙ e)

test-walks : (a : ℕ) (t : Bool) (r : Refusal) (w v : Walked) → WalksNest a w v
    → WalksNest a (cond t (stopped (Err r) 0 0) w) (cond t (stopped (Err r) 0 0) v)
test-walks a true r w v h = alike refl
test-walks a false r w v h = h

-- Demand 3, of walks: either the two deliver the same frames and end alike, or the smaller ends with TOOL of a tool that it does not hold,
-- and the larger's frames before that place are the smaller's
pub walks-nest : (octets : List ℕ) (law a b room : ℕ) → is_set a ≡ true → is_set b ≡ true → Within a b
    → WalksNest a (walk_all octets law a room) (walk_all octets law b room)
unfolding walk_all
walks-nest octets law a b room s t n =
    let w = walk_from (suc (length octets)) octets law a 0 room in
    let v = walk_from (suc (length octets)) octets law b 0 room in
    let long = not (leb (length octets) longest) in
    rw (s, t) (test-walks a (not (is_law law)) Law (cond long (stopped (Err Long) 0 0) w) (cond long (stopped (Err Long) 0 0) v)
    (test-walks a long Long w v
    (walk-nests octets law a b s t n (walk-of (suc (length octets)) octets law a 0 room (omega arith)) (suc (length octets))
    (omega arith))))
