-- R-7: which bit a refusal names, so that a cut is told from a flipped bit. Main statements: `read-bit`, `short-bit`, `walk-bit`,
-- `walk-short` (where the bit stands); `stays-refused`, `hangs-on` (what a refusal hangs on); `cut_short`, `walk-cut` (what a cut makes of
-- an accepted frame, and of a stream).
use Prim.Native.Nat.{ℕ, ◌+◌, ◌*◌, ◌-◌, ◌%◌, ◌≤◌, ◌<◌}
use native.Mathlib.Omega.{arith}
use mathlib.Core.Path.{◌≡◌, refl, sym, ap, subst, ◌∙◌}
use mathlib.Core.List.{List, [], ◌∷◌, ◌++◌, append-nil}
use mathlib.Core.Bool.{Bool, true, false, cond, not, ◌&&◌}
use lib.ListN.{length, get_or, take, drop, length-drop, length-append, take-append-drop}
use lib.Seq.{length-take-le, drop-append-le}
use lib.Dec.{eqb, leb}
use borrow.Author.Tests.{leb-true, leb-false}
use Rattle.rules.specs.declared.Refusal.{Refusal}
use Rattle.rules.specs.declared.Refusal.TheVariants.{Short, Law, Set, Long}
use Rattle.std.proofs.Common.{Ok, Err}
use Rattle.rules.specs.Refusals.{Ending}
use Rattle.rules.specs.Tools.{is_set, is_law}
use Rattle.rules.specs.Bits.{low_bits, bits_of, value_from}
use Rattle.rules.specs.Samples.{mask_of}
use Rattle.rules.specs.Reading.{Read, whole, refuse, Reader, and_then, ◌>>=◌, give, fail, bit, number}
use Rattle.rules.specs.Zeros.{plus_minus}
use Rattle.rules.specs.First.{First, unassigned, pad, tool, fractional_row, six_or_eight, first_octet, mark_at, six_not_eight}
use Rattle.rules.specs.Frame.{Found, octets_used, with_tool, after_first, frame, read_one}
use Rattle.rules.specs.Walk.{Delivered, Walked, stopped, before, walk_all, samples_kept}
use Rattle.rules.proofs.Firsts.{row-only}
use Rattle.rules.proofs.Octets.{Below, length-low_bits, length-bits_of, bits_of-append, bits_of-below, below-take}
use Rattle.rules.proofs.Gives.{same-refusal, same-value, no-refusal}
use Rattle.rules.proofs.Accepted.{read-accepts}
use Rattle.promises.proofs.Back.{back-number_from, back-first}
use Rattle.promises.proofs.Frame.{first-eight, value-small}
use Rattle.promises.proofs.Further.{Goes, short, same, nothing-short, bit-there, mark-first, read_goes, looks-no-further}
use Rattle.promises.proofs.Bounded.{plain, first_plain}
use Rattle.promises.proofs.Walks.{WalkOf, ended, refused, delivers, uses, Walkable, walk-all-of, walk-all-only}
use Rattle.promises.proofs.Refused.{cut_at, refused-walk, Begins, walkable, unlawful, no-set, too_long, walk_begins}
use Rattle.promises.proofs.Points.{BitOf, reach, Says, Past, Between, earlier, Points}
use Rattle.promises.proofs.Points.{points-own, points-row, points-six, points-six_not_eight}

-- what the first octet begins
tool-says : (p : Reader Found) → Points 13 (Between 1 8) p → (b : List ℕ) (i : ℕ) → 1 ≤ i → i ≤ 8 → i ≤ length b
    → Says 13 (length b) 0 (p b i)
tool-says p points b i x y k = earlier 13 (omega arith) (length b) 0 i (p b i) (omega arith) (points.says b i (x, y) k)

turned : {A : Type 0} (n i : ℕ) (m : Read ℕ) (f : ℕ → Read A) → Says 13 n i m → ((t : ℕ) → Says 13 n 0 (f t)) → Says 13 n 0 (and_then m (λ t k. f t))
turned n i (whole t k) f s h = h t
turned n i (refuse w at) f s h = (s.0, omega arith)

after-says : (mask set room : ℕ) (first : First) → plain first ≡ true → (b : List ℕ) → 8 ≤ length b
    → Says 13 (length b) 0 (after_first mask set room first b 8)
unfolding after_first
after-says mask set room unassigned p b h = ((refl, omega arith), omega arith)
after-says mask set room pad p b h = (omega arith, h)
after-says mask set room (tool t n) p b h =
    tool-says _ (points-own 13 (omega arith) mask set room t n p) b 8 (omega arith) (omega arith) h
after-says mask set room (fractional_row k n) p b h =
    tool-says _ (points-row 13 (omega arith) mask set room k n (omega arith)) b 8 (omega arith) (omega arith) h
after-says mask set room (six_or_eight n) p b h =
    let i = mark_at n in
    let mark = get_or b i 0 in
    rw (bit-there b [] i (omega (arith, mark-first n))).0
    (turned (length b) (i + 1) (six_not_eight b (i + 1)) (λ t. with_tool set room t n (plus_minus mask n mark) b (i + 1))
    ((points-six_not_eight 13 (omega arith) {W = Between 0 8}).says b (i + 1) (omega arith, omega (arith, mark-first n)) (omega (arith, mark-first n)))
    (λ t. tool-says _ (points-six 13 (omega arith) mask set room t n mark p) b (i + 1) (omega arith) (omega (arith, mark-first n))
    (omega (arith, mark-first n))))

pub first-of-bits : (b : List ℕ) → Below 2 b → 8 ≤ length b → plain (first_octet (value_from 0 (take 8 b))) ≡ true
first-of-bits b z h = first_plain (value_from 0 (take 8 b)) (value-small 8 (below-take 8 z) (length-take-le 8 b h))

pub frame-after : (mask set room : ℕ) (b : List ℕ) → 8 ≤ length b
    → frame mask set room b 0 ≡ after_first mask set room (first_octet (value_from 0 (take 8 b))) b 8
unfolding frame
frame-after mask set room b h =
    let e : number 8 b 0 ≡ whole (value_from 0 (take 8 b)) 8 = rw (append-nil b) at (first-eight b [] h) in
    rw e refl

frame-says : (mask set room : ℕ) {b : List ℕ} → Below 2 b → 8 ≤ length b → Says 13 (length b) 0 (frame mask set room b 0)
frame-says mask set room {b} z h =
    rw (frame-after mask set room b h)
    (after-says mask set room (first_octet (value_from 0 (take 8 b))) (first-of-bits b z h) b h)

octets-say : (law set room : ℕ) (octets : List ℕ) → Says 13 (8 * length octets) 0 (frame (mask_of law) set room (bits_of octets) 0)
octets-say law set room [] = rw (nothing-short (mask_of law) set room) (refl, omega arith)
octets-say law set room (o ∷ octets) =
    rw (← (length-bits_of (o ∷ octets)))
    (frame-says (mask_of law) set room (bits_of-below (o ∷ octets)) (omega (arith, length-bits_of (o ∷ octets))))

test-says : {A : Type 0} (n : ℕ) (t : Bool) (w : Refusal) (p : Reader A) (b : List ℕ) → BitOf n w 0 → Says 13 n 0 (p b 0)
    → Says 13 n 0 (cond t (fail w 0) p b 0)
test-says n true w p b h s = (h, omega arith)
test-says n false w p b h s = s

read-says : (octets : List ℕ) (law set room : ℕ) → Says 13 (8 * length octets) 0 (read_one octets law set room)
unfolding read_one
read-says octets law set room =
    let p = frame (mask_of law) set room in
    test-says (8 * length octets) (not (is_law law)) Law (cond (not (is_set set)) (fail Set 0) p) (bits_of octets) refl
    (test-says (8 * length octets) (not (is_set set)) Set p (bits_of octets) refl (octets-say law set room octets))

-- Where the bit of a refused frame stands
pub read-bit : (octets : List ℕ) (law set room : ℕ) (w : Refusal) (at : ℕ)
    → read_one octets law set room ≡ refuse w at → BitOf (8 * length octets) w at
read-bit octets law set room w at e = (subst (λ (m : Read Found). Says 13 (8 * length octets) 0 m) e (read-says octets law set room)).0

-- so SHORT's is exactly 8 times the octets that were there
pub short-bit : (octets : List ℕ) (law set room at : ℕ) → read_one octets law set room ≡ refuse Short at → at ≡ 8 * length octets
short-bit octets law set room at e = read-bit octets law set room Short at e

pub ended_by : {u w : Refusal} → ◌≡◌ {A = Ending} (Err u) (Err w) → u ≡ w
ended_by e = cc

-- A walk counts from the refused frame's place
pub walk-bit : (octets : List ℕ) (law set room : ℕ) (w : Refusal) → (walk_all octets law set room).end ≡ Err w
    → BitOf (8 * (length octets - (walk_all octets law set room).place)) w (walk_all octets law set room).bit
walk-bit octets law set room w e = go (walk_begins octets law set room)
  where
    v : Walked
    v = walk_all octets law set room

    stops : (u : Refusal) → v ≡ stopped (Err u) 0 0 → ((n : ℕ) → BitOf n u 0) → BitOf (8 * (length octets - v.place)) w v.bit
    stops u d h =
        let same : u ≡ w = ended_by (ap (λ (x : Walked). x.end) (sym d) ∙ e) in
        rw d (subst (λ (r : Refusal). BitOf (8 * (length octets - 0)) r 0) same (h (8 * (length octets - 0))))

    go : Begins octets law set v → BitOf (8 * (length octets - v.place)) w v.bit
    go (walkable t) =
        let r = refused-walk octets law set room w t e in
        rw (← (length-drop v.place octets))
        (read-bit (drop v.place octets) law set (room - length (samples_kept v.frames)) w v.bit r.rest)
    go (unlawful l d) = stops Law d (λ n. refl)
    go (no-set l d) = stops Set d (λ n. refl)
    go (too_long l d) = stops Long d (λ n. refl)

pub walk-short : (octets : List ℕ) (law set room : ℕ) → (walk_all octets law set room).end ≡ Err Short
    → (walk_all octets law set room).bit ≡ 8 * (length octets - (walk_all octets law set room).place)
walk-short octets law set room e = walk-bit octets law set room Short e

-- a walk that ended clean names no bit
done-bit : {octets : List ℕ} {law set at room : ℕ} {w : Walked} → WalkOf octets law set at room w → w.end ≡ Ok tt → w.bit ≡ 0
done-bit (ended h) e = refl
done-bit (refused h d) e = let z : ◌≡◌ {A = ℕ} 0 1 = cc in absurd (omega arith)
done-bit (delivers h d t) e = done-bit t e

pub walk-done : (octets : List ℕ) (law set room : ℕ) → (walk_all octets law set room).end ≡ Ok tt → (walk_all octets law set room).bit ≡ 0
walk-done octets law set room e = go (walk_begins octets law set room)
  where
    go : Begins octets law set (walk_all octets law set room) → (walk_all octets law set room).bit ≡ 0
    go (walkable t) = done-bit (walk-all-of octets law set room t) e
    go (unlawful l d) = rw d refl
    go (no-set l d) = rw d refl
    go (too_long l d) = rw d refl

-- Whatever follows, a refusal other than SHORT stays, and its bit: so it is not a cut
pub stays-refused : (x y : List ℕ) (law set room : ℕ) (w : Refusal) (at : ℕ) → read_one x law set room ≡ refuse w at → (w ≡ Short → ⊥)
    → read_one (x ++ y) law set room ≡ refuse w at
stays-refused x y law set room w at e other = looks-no-further x y law set room (λ k d. other (same-refusal (sym e ∙ d))) ∙ e

-- And it hangs on no bit past the item that it names, once the prefix is there
data Whole (m m' : Read ℕ) : Type 0 where
  decided : (t k : ℕ) → m ≡ whole t k → m' ≡ whole t k → Whole m m'

both-there : (b c : List ℕ) (i : ℕ) → i + 1 < length b → Whole (six_not_eight b i) (six_not_eight (b ++ c) i)
unfolding six_not_eight
both-there b c i h =
    let x = bit-there b c i (omega arith) in
    let y = bit-there b c (i + 1) h in
    rw (x.0, x.1) (first (eqb (get_or b i 0) 1) y.0 y.1)
  where
    last : Reader ℕ
    last = bit >>= (λ v. cond (eqb v 1) (give 6) (give 8))

    second : (t : Bool) (k : ℕ) → Whole (cond t (give 6) (give 8) b k) (cond t (give 6) (give 8) (b ++ c) k)
    second true k = decided 6 k refl refl
    second false k = decided 8 k refl refl

    first : (t : Bool) {v j : ℕ} → bit b (i + 1) ≡ whole v j → bit (b ++ c) (i + 1) ≡ whole v j
        → Whole (cond t (give 6) last b (i + 1)) (cond t (give 6) last (b ++ c) (i + 1))
    first true d d' = decided 6 (i + 1) refl refl
    first false {v} {j} d d' = rw (d, d') (second (eqb v 1) j)

-- the most bits of a place, by the first octet: a V of tool 11 has up to 13, a listed place of tool 7 up to 9
abbrev pub place_of : ℕ → ℕ
place_of o = cond (leb 0x02 o && leb o 0x1F) 13 9

abbrev pub place_bits : List ℕ → ℕ
place_bits octets = place_of (get_or octets 0 0 % 256)

nine-least : (t : Bool) → 9 ≤ cond t 13 9
nine-least true = omega arith
nine-least false = omega arith

-- so much is enough for what an octet begins
abbrev Wide : ℕ → First → Type 0
Wide place unassigned = Unit {0}
Wide place pad = Unit {0}
Wide place (tool t n) = Unit {0}
Wide place (fractional_row k n) = 13 ≤ place
Wide place (six_or_eight n) = Unit {0}

wide_enough : (o : ℕ) → o < 256 → (f : First) → first_octet o ≡ f → Wide (place_of o) f
wide_enough o h unassigned e = tt
wide_enough o h pad e = tt
wide_enough o h (tool t n) e = tt
wide_enough o h (fractional_row k n) e = rw (row-only o k n h e) (omega arith)
wide_enough o h (six_or_eight n) e = tt

module _ (place : ℕ) (nine : 9 ≤ place) where
  six-past : {A : Type 0} (n : ℕ) (m m' : Read ℕ) (f f' : ℕ → Read A) → Whole m m'
      → ((t : ℕ) → Past place n (f t) (f' t)) → Past place n (and_then m (λ t k. f t)) (and_then m' (λ t k. f' t))
  six-past n m m' f f' (decided t k e e') h = rw (e, e') (h t)

  after-past : (mask set room : ℕ) (first : First) → plain first ≡ true → Wide place first → (b c : List ℕ) → 16 ≤ length b
      → Past place (length b) (after_first mask set room first b 8) (after_first mask set room first (b ++ c) 8)
  unfolding after_first
  after-past mask set room unassigned p wide b c h = λ k w at e d other. absurd (other (sym (same-refusal d) ∙ same-refusal e))
  after-past mask set room pad p wide b c h = λ k w at e d other. no-refusal (sym e)
  after-past mask set room (tool t n) p wide b c h =
      (points-own place nine mask set room t n p).past b c 8 (omega arith, omega arith) (omega arith)
  after-past mask set room (fractional_row k n) p wide b c h =
      (points-row place nine mask set room k n wide).past b c 8 (omega arith, omega arith) (omega arith)
  after-past mask set room (six_or_eight n) p wide b c h =
      let i = mark_at n in
      let mark = get_or b i 0 in
      let m = bit-there b c i (omega (arith, mark-first n)) in
      rw (m.0, m.1)
      (six-past (length b) (six_not_eight b (i + 1)) (six_not_eight (b ++ c) (i + 1))
      (λ t. with_tool set room t n (plus_minus mask n mark) b (i + 1)) (λ t. with_tool set room t n (plus_minus mask n mark) (b ++ c) (i + 1))
      (both-there b c (i + 1) (omega (arith, mark-first n)))
      (λ t. (points-six place nine mask set room t n mark p).past b c (i + 1) (omega arith, omega (arith, mark-first n))
      (omega (arith, mark-first n))))

  test-past : {A : Type 0} (n : ℕ) (t : Bool) (u : Refusal) (p : Reader A) (b c : List ℕ) → Past place n (p b 0) (p c 0)
      → Past place n (cond t (fail u 0) p b 0) (cond t (fail u 0) p c 0)
  test-past n true u p b c h = λ k w at e d other. absurd (other (sym (same-refusal d) ∙ same-refusal e))
  test-past n false u p b c h = h

frame_past : (mask set room : ℕ) {b : List ℕ} → Below 2 b → (c : List ℕ) → 16 ≤ length b
    → Past (place_of (value_from 0 (take 8 b))) (length b) (frame mask set room b 0) (frame mask set room (b ++ c) 0)
unfolding frame
frame_past mask set room {b} z c h =
    let k : 8 ≤ length b = omega arith in
    let o = value_from 0 (take 8 b) in
    let e : number 8 b 0 ≡ whole o 8 = rw (append-nil b) at (first-eight b [] k) in
    let small : o < 256 = value-small 8 (below-take 8 z) (length-take-le 8 b k) in
    rw (e, first-eight b c k)
    (after-past (place_of o) (nine-least (leb 0x02 o && leb o 0x1F)) mask set room (first_octet o) (first-of-bits b z k)
    (wide_enough o small (first_octet o) refl) b c h)

-- the first octet, by its bits
first-value : (x : List ℕ) → 1 ≤ length x → value_from 0 (take 8 (bits_of x)) ≡ get_or x 0 0 % 256
unfolding bits_of
first-value [] h = absurd (omega arith)
first-value (o ∷ x) h =
    let b = low_bits 8 o ++ bits_of x in
    let l : 8 ≤ length b = omega (arith, length-append (low_bits 8 o) (bits_of x), length-low_bits 8 o) in
    let e : number 8 b 0 ≡ whole (value_from 0 (take 8 b)) 8 = rw (append-nil b) at (first-eight b [] l) in
    same-value (sym e ∙ back-first (back-number_from 0 8 o) (bits_of x)) ∙ omega arith

read_past : (x y : List ℕ) (law set room : ℕ) → 2 ≤ length x
    → Past (place_bits x) (8 * length x) (read_one x law set room) (read_one (x ++ y) law set room)
unfolding read_one
read_past x y law set room h =
    let p = frame (mask_of law) set room in
    let place = place_of (value_from 0 (take 8 (bits_of x))) in
    let nine = nine-least (leb 0x02 (value_from 0 (take 8 (bits_of x))) && leb (value_from 0 (take 8 (bits_of x))) 0x1F) in
    rw (← (first-value x (omega arith)), ← (length-bits_of x), bits_of-append x y)
    (test-past place nine (length (bits_of x)) (not (is_law law)) Law (cond (not (is_set set)) (fail Set 0) p)
    (bits_of x) (bits_of x ++ bits_of y)
    (test-past place nine (length (bits_of x)) (not (is_set set)) Set p (bits_of x) (bits_of x ++ bits_of y)
    (frame_past (mask_of law) set room (bits_of-below x) (bits_of y) (omega (arith, length-bits_of x)))))

pub hangs-on : (x y : List ℕ) (law set room : ℕ) (w : Refusal) (at : ℕ) → read_one (x ++ y) law set room ≡ refuse w at → (w ≡ Short → ⊥)
    → 2 ≤ length x → at + reach (place_bits x) w ≤ 8 * length x → read_one x law set room ≡ refuse w at
hangs-on x y law set room w at e other two far = go (read_goes x y law set room)
  where
    go : Goes (8 * length x) (read_one x law set room) (read_one (x ++ y) law set room) → read_one x law set room ≡ refuse w at
    go (short k d past) = absurd (omega (arith, read_past x y law set room two k w at d e other))
    go (same d) = sym d ∙ e

-- Cut at any octet, an accepted frame is SHORT, and its bit is the first that is gone
pub cut_apart : (x y : List ℕ) (law set room : ℕ) {f : Found} {j : ℕ} → read_one (x ++ y) law set room ≡ whole f j → length x < octets_used f
    → read_one x law set room ≡ refuse Short (8 * length x)
cut_apart x y law set room {f} {j} e h = go (read_goes x y law set room)
  where
    go : Goes (8 * length x) (read_one x law set room) (read_one (x ++ y) law set room) → read_one x law set room ≡ refuse Short (8 * length x)
    go (short at d past) = rw (short-bit x law set room at d) at d
    go (same d) =
        let a = read-accepts x law set room (sym d ∙ e) in
        absurd (omega (arith, a.octets, a.inside, length-bits_of x))

pub cut_short : (octets : List ℕ) (law set room : ℕ) {f : Found} {j : ℕ} → read_one octets law set room ≡ whole f j → (k : ℕ)
    → k < octets_used f → read_one (take k octets) law set room ≡ refuse Short (8 * k)
cut_short octets law set room {f} {j} e k h =
    let a = read-accepts octets law set room e in
    let l : length (take k octets) ≡ k = length-take-le k octets (omega (arith, a.octets, a.inside, length-bits_of octets)) in
    let whole_again : read_one (take k octets ++ drop k octets) law set room ≡ whole f j = rw (take-append-drop k octets) e in
    rw l at (cut_apart (take k octets) (drop k octets) law set room whole_again (omega arith))

-- A stream cut after c octets, at or before the place where its walk w ended: the walk v of what is left delivers the same frames as far as
-- they are whole. Between two frames it ends clean; inside one it ends there with SHORT, and the bit is the first that is gone.
pub data Cut (c : ℕ) (w v : Walked) : Type 0 where
  between : (done rest : List Delivered) → w.frames ≡ done ++ rest
      → v ≡ record { frames = done; end = Ok tt; place = c; bit = 0 } → Cut c w v
  inside : (done rest : List Delivered) (f : Delivered) → w.frames ≡ done ++ (f ∷ rest) → f.place < c
      → c < f.place + octets_used f.found
      → v ≡ record { frames = done; end = Err Short; place = f.place; bit = 8 * (c - f.place) } → Cut c w v

data CutFrom (octets : List ℕ) (law set at room c : ℕ) (w : Walked) : Type 0 where
  walks : (v : Walked) → WalkOf (take c octets) law set at room v → Cut c w v → CutFrom octets law set at room c w

-- nothing is left behind place `at`
clean : (octets : List ℕ) (law set at room c : ℕ) (w : Walked) → c ≡ at → c ≤ length octets → CutFrom octets law set at room c w
clean octets law set at room c w e h =
    walks (stopped (Ok _) at 0) (ended {at = at} (omega (arith, length-take-le c octets h))) (between [] w.frames refl (rw e refl))

-- the cut is inside the frame at place `at`
torn : (octets : List ℕ) (law set at room c : ℕ) {f : Found} {j : ℕ} (rest : Walked) → at < c → c < at + octets_used f → c ≤ length octets
    → read_one (drop at octets) law set room ≡ whole f j → CutFrom octets law set at room c (before (record { place = at; found = f }) rest)
torn octets law set at room c {f} {j} rest h k l e =
    let m : length (take c octets) ≡ c = length-take-le c octets l in
    let n : length (drop at (take c octets)) ≡ c - at = length-drop at (take c octets) ∙ ap (λ x. x - at) m in
    let s : drop at octets ≡ drop at (take c octets) ++ drop c octets
    = ap (drop at) (sym (take-append-drop c octets)) ∙ drop-append-le at (take c octets) (drop c octets) (omega arith) in
    let d = rw n at (cut_apart (drop at (take c octets)) (drop c octets) law set room (rw s at e) (omega arith)) in
    walks (stopped (Err Short) at (8 * (c - at))) (refused {at = at} (omega arith) d)
    (inside [] rest.frames (record { place = at; found = f }) refl h k refl)

-- a frame before the cut
cut-before : (f : Delivered) (c : ℕ) {w v : Walked} → Cut c w v → Cut c (before f w) (before f v)
cut-before f c (between done rest e d) = between (f ∷ done) rest (ap (λ l. f ∷ l) e) (ap (before f) d)
cut-before f c (inside done rest g e h k d) = inside (f ∷ done) rest g (ap (λ l. f ∷ l) e) h k (ap (before f) d)

cut-from : {octets : List ℕ} {law set at room : ℕ} {w : Walked} → WalkOf octets law set at room w → (c : ℕ) → at ≤ c
    → c ≤ w.place → c ≤ length octets → CutFrom octets law set at room c w
cut-from {octets} {law} {set} {at} {room} (ended h) c x y l = clean octets law set at room c (stopped (Ok tt) at 0) (omega arith) l
cut-from {octets} {law} {set} {at} {room} (refused {w = r} {bit = b} h e) c x y l =
    clean octets law set at room c (stopped (Err r) at b) (omega arith) l
cut-from {octets} {law} {set} {at} {room} (delivers {f = f} {j = j} {rest = rest} h e t) c x y l =
    go (leb c at) refl (leb (at + octets_used f) c) refl (λ k. cut-from t c k y l)
  where
    Here : Type 0
    Here = CutFrom octets law set at room c (before (record { place = at; found = f }) rest)

    later : at + octets_used f ≤ c → CutFrom octets law set (at + octets_used f) (room - length f.samples) c rest → Here
    later k (walks v o d) =
        walks (before (record { place = at; found = f }) v)
        (delivers {at = at} (omega (arith, length-take-le c octets l, uses octets law set at room h e))
        (cut_at octets law set at c room k l e) o)
        (cut-before (record { place = at; found = f }) c d)

    go : (p : Bool) → leb c at ≡ p → (q : Bool) → leb (at + octets_used f) c ≡ q
        → (at + octets_used f ≤ c → CutFrom octets law set (at + octets_used f) (room - length f.samples) c rest) → Here
    go true p q r next = clean octets law set at room c _ (omega (arith, leb-true c at p)) l
    go false p true r next = let k = leb-true (at + octets_used f) c r in later k (next k)
    go false p false r next = torn octets law set at room c rest (leb-false c at p) (leb-false (at + octets_used f) c r) l e

-- a walk ends within its octets
ends-within : {octets : List ℕ} {law set at room : ℕ} {w : Walked} → at ≤ length octets → WalkOf octets law set at room w
    → w.place ≤ length octets
ends-within l (ended h) = l
ends-within l (refused h e) = l
ends-within {octets} {law} {set} {at} {room} l (delivers h e t) = ends-within (uses octets law set at room h e).1 t

pub walk-cut : (octets : List ℕ) (law set room : ℕ) → Walkable octets law set → (c : ℕ) → c ≤ (walk_all octets law set room).place
    → Cut c (walk_all octets law set room) (walk_all (take c octets) law set room)
walk-cut octets law set room t c h = go (cut-from o c (omega arith) h l)
  where
    o : WalkOf octets law set 0 room (walk_all octets law set room)
    o = walk-all-of octets law set room t

    l : c ≤ length octets
    l = omega (arith, ends-within (omega arith) o)

    go : CutFrom octets law set 0 room c (walk_all octets law set room)
        → Cut c (walk_all octets law set room) (walk_all (take c octets) law set room)
    go (walks v d x) =
        rw (walk-all-only (record
        { lawful = t.lawful; small = t.small; short = omega (arith, l, length-take-le c octets l, t.short) }) d) x
