-- Tool 11: what it writes of a frame that has a row is read back (`back-fractional`); it has at most 80 octets of body, whole ones, and no
-- filling bits (`fractional-most`, `fractional-filled`); its body is refused by SHORT or PLACE alone (`fractional-refused`), so a frame by
-- TOOL, ROOM, SHORT or PLACE alone (`eleven-refused`; by its first octet: Eleven).
use Prim.Native.Nat.{ℕ, zero, suc, ◌+◌, ◌*◌, ◌^◌, ◌/◌, ◌%◌, ◌≤◌, ◌<◌}
use native.Mathlib.Omega.{arith}
use native.Mathlib.Nat.{lt_of_lt_of_le, mul-suc}
use mathlib.Core.Path.{◌≡◌, refl, sym, ap, subst, ◌∙◌}
use mathlib.Core.List.{List, [], ◌∷◌, ◌++◌, map, append_assoc, append-nil}
use mathlib.Core.Bool.{Bool, true, false, cond, not, ◌||◌}
use lib.ListN.{length, get_or, take, drop, length-drop, take-append-drop, length-map}
use lib.Seq.{length-take-le}
use lib.Dec.{ltb, eqb, leb}
use borrow.Author.Tests.{lt-ltb, leb-true, eqb-true}
use Rattle.rules.specs.declared.Refusal.{Refusal}
use Rattle.rules.specs.declared.Refusal.TheVariants.{Short, Tool, Room, Place}
use Rattle.rules.specs.Tools.{holds, is_length}
use Rattle.rules.specs.Bits.{fill_for}
use Rattle.rules.specs.Reading.{whole, refuse, ◌>>=◌, fail, here, number_from, number, filled}
use Rattle.rules.specs.Fractional.{values_at, row_count, radix, Coding, group_of, bits_for, coding_of, body_bits, Packs, of_digits, digits_of}
use Rattle.rules.specs.Fractional.{groups_from, groups_form, place_in, groups_as, groups_form_as, samples_at, fractional, fractional_body}
use Rattle.rules.specs.Frame.{Found, with_tool}
use Rattle.rules.specs.Chooses.{row_number, frame_row, fractional_applies}
use Rattle.rules.proofs.Octets.{Below, below-take, below-drop, below-append, low_bits-below, none}
use Rattle.rules.proofs.Tests.{implied, all_below, all_below-at, by_length, forties}
use Rattle.rules.proofs.Signed.{LawMask}
use Rattle.rules.proofs.Room.{length_most}
use Rattle.rules.proofs.Gives.{no-refusal, same-refusal, same_place}
use Rattle.rules.proofs.Accepted.{Steps, through, steps, number-next}
use Rattle.rules.proofs.Firsts.{rows_few}
use Rattle.rules.proofs.Fractional.{digits-back, digits-fit, Among, places-back, places-below, radix-range, length-samples_at, packs-of}
use Rattle.rules.proofs.FrameRow.{the_row, row-among}
use Rattle.promises.proofs.Back.{Back, back-give, back-bind, back-here, back_as, back-number}
use Rattle.promises.proofs.Only.{Stops, at_once, behind, stops, Only, only-fractional}
use Rattle.promises.proofs.Reach.{Near, near-give, near-fail, near-here, near-then, near-cond, near-more, near-number_from}

-- Back
back-groups : {c : Coding} {n : ℕ} → Packs c n → (k : ℕ) (done ds : List ℕ) → Below c.radix ds → length ds ≡ k * c.group
    → Back (groups_from c done k) (groups_form c k ds) (done ++ ds)
unfolding groups_from groups_form
back-groups p zero done [] b e = back_as (back-give done) refl refl (sym (append-nil done))
back-groups p zero done (d ∷ ds) b e = absurd (omega arith)
back-groups {c} p (suc k) done ds b e =
    let r = c.radix in
    let g = c.group in
    let w = c.bits in
    let l : length (take g ds) ≡ g = length-take-le g ds (omega arith) in
    let v = of_digits r (take g ds) in
    let h : v < r ^ g = rw l at (digits-fit (below-take g b)) in
    let d : digits_of r g v ≡ take g ds = rw l at (digits-back (lt_of_lt_of_le (omega arith) p.some) (below-take g b)) in
    let m : (done ++ take g ds) ++ drop g ds ≡ done ++ ds = append_assoc done (take g ds) (drop g ds)
    ∙ ap (λ (x : List ℕ). done ++ x) (take-append-drop g ds) in
    let n : length (drop g ds) ≡ k * g = length-drop g ds ∙ omega arith in
    back-here _ (λ i. back-bind (number w) _ (back-number w v (lt_of_lt_of_le h p.fits))
    (rw (lt-ltb v (r ^ g) h, d) (back_as (back-groups p k (done ++ take g ds) (drop g ds) (below-drop g b) n) refl refl m)))

back-groups_as : (values : List ℕ) (c : Coding) (s : List ℕ) → length values ≡ c.radix → Packs c (length s)
    → Among values s → Back (groups_as values c (length s)) (groups_form_as values c s) s
unfolding groups_as groups_form_as
back-groups_as values c s e p a =
    let digits = map (place_in values) s in
    let l : length digits ≡ length s / c.group * c.group = length-map s (place_in values) ∙ sym p.whole in
    back_as (back-bind _ _ (back-groups p (length s / c.group) [] digits (rw e at (places-below values a)) l)
    (back-give (map (λ d. get_or values d 0) digits)))
    refl (append-nil _) (places-back values a)

-- the five lengths are multiples of forty
pub back-fractional : {mask : ℕ} → LawMask mask → (s : List ℕ) → is_length (length s) ≡ true → Below 256 s → fractional_applies mask s ≡ true
    → Back (fractional mask (row_number (frame_row mask s)) (length s)) (fractional_body mask (row_number (frame_row mask s)) s) s
back-fractional {mask} law s l b a =
    let k = row_number (frame_row mask s) in
    let r = radix-range k (the_row mask s a).few in
    back-groups_as (samples_at mask k) (coding_of (radix k)) s (length-samples_at mask k)
    (packs-of (radix k) (length s) r.0 r.1 (length_most (length s) l) (forties (length s) l)) (row-among law s b a)

-- every body is bits
groups_form-below : (c : Coding) (m : ℕ) (ds : List ℕ) → Below 2 (groups_form c m ds)
unfolding groups_form
groups_form-below c zero ds = none
groups_form-below c (suc m) ds =
    below-append (low_bits-below c.bits (of_digits c.radix (take c.group ds))) (groups_form-below c m (drop c.group ds))

pub fractional_body-below : (mask k : ℕ) (s : List ℕ) → Below 2 (fractional_body mask k s)
unfolding groups_form_as
fractional_body-below mask k s = groups_form-below (coding_of (radix k)) (length s / group_of (radix k)) (map (place_in (samples_at mask k)) s)

-- how far it goes: so many bits a group
pub near-groups : (c : Coding) (done : List ℕ) (m : ℕ) → Near (c.bits * m) (groups_from c done m)
unfolding groups_from
near-groups c done zero = near-more 0 (c.bits * 0) (omega arith) (near-give done)
near-groups c done (suc m) =
    let w = c.bits in
    near-more (0 + (w + w * m)) (w * suc m) (omega (arith, mul-suc w m))
    (near-then 0 (w + w * m) near-here (λ start. near-then w (w * m) (near-number_from 0 w) (λ v.
    near-cond (w * m) (ltb v (c.radix ^ c.group)) (near-groups c (done ++ digits_of c.radix c.group v) m)
    (near-fail (w * m) Place start))))

pub near-fractional : (mask k n : ℕ) → Near (body_bits k n) (fractional mask k n)
unfolding groups_as
near-fractional mask k n =
    let most = body_bits k n in
    near-more (most + 0) most (omega arith)
    (near-then most 0 (near-groups (coding_of (radix k)) [] (n / group_of (radix k)))
    (λ digits. near-give (map (λ d. get_or (samples_at mask k) d 0) digits)))

-- of a row of the length: 640 at most, 80 octets, and whole ones
abbrev row_whole : ℕ → ℕ → Bool
row_whole n k = not (ltb k (row_count n)) || leb (body_bits k n) 640

abbrev row_fills : ℕ → ℕ → Bool
row_fills n k = not (ltb k (row_count n)) || eqb (body_bits k n % 8) 0

pub fractional-most : (n k : ℕ) → is_length n ≡ true → k < row_count n → body_bits k n ≤ 640
unfolding values_at row_count group_of bits_for
fractional-most n k l h =
    leb-true (body_bits k n) 640 (implied (ltb k (row_count n)) (leb (body_bits k n) 640)
    (all_below-at (row_whole n) 12 (by_length (λ n. all_below (row_whole n) 12 ≡ true) refl refl refl refl refl n l) k
    (omega (arith, rows_few n l)))
    (lt-ltb k (row_count n) h))

pub fractional-filled : (n k : ℕ) → is_length n ≡ true → k < row_count n → fill_for (8 + body_bits k n) ≡ 0
unfolding values_at row_count group_of bits_for
fractional-filled n k l h =
    let e : body_bits k n % 8 ≡ 0 = eqb-true (body_bits k n % 8) 0 (implied (ltb k (row_count n)) (eqb (body_bits k n % 8) 0)
    (all_below-at (row_fills n) 12 (by_length (λ n. all_below (row_fills n) 12 ≡ true) refl refl refl refl refl n l) k
    (omega (arith, rows_few n l)))
    (lt-ltb k (row_count n) h)) in
    omega arith

-- it goes exactly so far
groups-next : (c : Coding) (done : List ℕ) (m : ℕ) (b : List ℕ) (i : ℕ) {ds : List ℕ} {j : ℕ} → groups_from c done m b i ≡ whole ds j
    → i + c.bits * m ≡ j
unfolding groups_from
groups-next c done zero b i e = omega (arith, same_place e)
groups-next c done (suc m) b i {ds} {j} e = go (λ v k. groups-next c (on v) m b k) (steps (number_from 0 w b i) _ e)
  where
    w : ℕ
    w = c.bits

    on : ℕ → List ℕ
    on v = done ++ digits_of c.radix c.group v

    one : (v k : ℕ) (t : Bool) → i + w ≡ k → (groups_from c (on v) m b k ≡ whole ds j → k + w * m ≡ j)
        → cond t (groups_from c (on v) m) (fail Place i) b k ≡ whole ds j → i + w * suc m ≡ j
    one v k true q later d = omega (arith, later d, mul-suc w m)
    one v k false q later d = no-refusal d

    go : ((v k : ℕ) → groups_from c (on v) m b k ≡ whole ds j → k + w * m ≡ j)
        → Steps (number_from 0 w b i) (λ v k. cond (ltb v (c.radix ^ c.group)) (groups_from c (on v) m) (fail Place i) b k) ds j
        → i + w * suc m ≡ j
    go later (through v k q d) = one v k (ltb v (c.radix ^ c.group)) (number-next 0 w b i q) (later v k) d

pub fractional-next : (mask k n : ℕ) (b : List ℕ) (i : ℕ) {s : List ℕ} {j : ℕ} → fractional mask k n b i ≡ whole s j → i + body_bits k n ≡ j
unfolding groups_as
fractional-next mask k n b i {s} {j} e =
    go (steps (groups_from (coding_of (radix k)) [] (n / group_of (radix k)) b i) _ e)
  where
    go : Steps (groups_from (coding_of (radix k)) [] (n / group_of (radix k)) b i)
        (λ digits m. whole (map (λ d. get_or (samples_at mask k) d 0) digits) m) s j → i + body_bits k n ≡ j
    go (through digits m q d) = groups-next (coding_of (radix k)) [] (n / group_of (radix k)) b i q ∙ same_place d

-- No RUN arises in this body, nor any other refusal than SHORT and PLACE.
pub data ShortOrPlace : Refusal → Type 0 where
  short : ShortOrPlace Short
  place : ShortOrPlace Place

pub fractional-refused : (mask k n : ℕ) → Only ShortOrPlace (fractional mask k n)
fractional-refused mask k n = only-fractional short place mask k n

-- So, since its body fills whole octets, a frame is refused by TOOL, ROOM, SHORT or PLACE alone
pub data OneOfFour : Refusal → Type 0 where
  lacks : OneOfFour (Tool 11)
  no_room : OneOfFour Room
  cut : OneOfFour Short
  too_large : OneOfFour Place

one-of-four : {w : Refusal} → ShortOrPlace w → OneOfFour w
one-of-four short = cut
one-of-four place = too_large

none_left : (f : Found) (m : ℕ) → m ≡ 0 → (b : List ℕ) (j : ℕ) → filled f m b j ≡ whole f j
unfolding filled
none_left f m z b j = rw z refl

abbrev of_eleven : List ℕ → ℕ → Found
of_eleven s bits = record { tool = 11; samples = s; bits = bits }

module _ (mask set room n k : ℕ) (len : is_length n ≡ true) (few : k < row_count n) (b : List ℕ) (w : Refusal) (at : ℕ) where
  body_refused : Stops (fractional mask k n b 8) (λ s j. filled (of_eleven s j) (fill_for j) b j) w at → OneOfFour w
  body_refused (at_once e) = one-of-four ((fractional-refused mask k n).says b 8 w at e)
  body_refused (behind s j e d) =
      let end : 8 + body_bits k n ≡ j = fractional-next mask k n b 8 e in
      let Whole-here = none_left (of_eleven s j) (fill_for j) (rw end at (fractional-filled n k len few)) b j in
      no-refusal (sym d ∙ Whole-here)

  judged : (x y : Bool) → cond (not x) (fail (Tool 11) 0) (cond y (fail Room 0)
      (fractional mask k n >>= (λ s. here >>= (λ bits. filled (of_eleven s bits) (fill_for bits))))) b 8 ≡ refuse w at → OneOfFour w
  judged false y e = subst OneOfFour (same-refusal e) lacks
  judged true true e = subst OneOfFour (same-refusal e) no_room
  judged true false e = body_refused (stops (fractional mask k n b 8) _ e)

  pub eleven-refused : with_tool set room 11 n (fractional mask k n) b 8 ≡ refuse w at → OneOfFour w
  unfolding with_tool
  eleven-refused e = judged (holds set 11) (ltb room n) e
