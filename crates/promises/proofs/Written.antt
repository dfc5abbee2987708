-- What is written: short enough, filled with 0 bits, and read back whole, whatever follows.
use Prim.Native.Nat.{ℕ, ◌+◌, ◌≤◌}
use native.Mathlib.Omega.{arith}
use mathlib.Core.Path.{◌≡◌, refl, ◌∙◌}
use mathlib.Core.List.{List, [], ◌++◌, map, append-nil}
use mathlib.Core.Bool.{Bool, true, false, cond, not, ◌||◌}
use lib.ListN.{length, get_or, take, length-append}
use lib.Seq.{length-take-le}
use lib.Dec.{eqb, ltb}
use borrow.Author.Tests.{le-ltb, ne_eqb, eqb-true, leb-true, ltb-false, not-false}
use Rattle.rules.specs.declared.Refusal.{Refusal}
use Rattle.rules.specs.declared.Refusal.TheVariants.{Law, Set, Length, Room}
use Rattle.rules.specs.Tools.{is_tool, holds, Within, is_set, is_writer_set, is_law, is_length}
use Rattle.rules.specs.Bits.{low_bits, bits_of, octets_for, pack}
use Rattle.rules.specs.First.{octet_for, rice_code, first_octet, look_up, rows}
use Rattle.rules.specs.Samples.{mask_of, sample_of}
use Rattle.rules.specs.Frame.{frame, after_first, read_one}
use Rattle.rules.specs.Runs.{runs_form}
use Rattle.rules.specs.Zeros.{prefix, flag_of, code_of}
use Rattle.rules.specs.Located.{values_of}
use Rattle.rules.specs.Fractional.{first_code, fractional_body}
use Rattle.rules.specs.Chooses.{mark_of, best_s, rice_choice, row_number, row_of, located_flag}
use Rattle.rules.specs.Chooses.{values_form, located_form, frame_row, fractional_form, applies}
use Rattle.rules.specs.Chooses.{form_of, octets_of_form, tie_order, chosen_tool, Written, chosen, Write, wrote, declined, write_one}
use Rattle.rules.proofs.Octets.{Below, below-take, length-low_bits, length-bits_of, low_bits-below, bits_of-append, bits_of-pack, length-pack}
use Rattle.rules.proofs.Signed.{law-mask}
use Rattle.rules.proofs.Tests.{or_cases, by_length, tool-some}
use Rattle.rules.proofs.Each.{each_at}
use Rattle.rules.proofs.Chosen.{writer-holds, FirstLeast, order, chosen-first-least, usable, chosen-usable, chosen-least}
use Rattle.promises.proofs.Back.{back-number, back-first}
use Rattle.promises.proofs.Frame.{found_at, filled_bits, rice-code}
use Rattle.promises.proofs.Forms.{form-below, form-restores}

-- the tests that a written frame has passed, and what was written
pub record Wrote (n : ℕ) (samples : List ℕ) (law set room : ℕ) (w : Written) : Type 0 where
  pub lawful : is_law law ≡ true
  pub odd : is_writer_set set ≡ true
  pub allowed : eqb n 0 || is_length n ≡ true
  pub fits : octets_for (length w.bits) ≤ room
  pub is : chosen (mask_of law) set (take n samples) ≡ w

guard : (b : Bool) (r : Refusal) (y : Write) {w : Written} → cond b (declined r) y ≡ wrote w → (b ≡ false) × (y ≡ wrote w)
guard true r y e = let z : ◌≡◌ {A = ℕ} 0 1 = cc in absurd (omega arith)
guard false r y e = (refl, e)

same : (v w : Written) → wrote v ≡ wrote w → v ≡ w
same v w e = cc

pub wrote_by : (n : ℕ) (samples : List ℕ) (law set room : ℕ) (w : Written) → write_one n samples law set room ≡ wrote w
    → Wrote n samples law set room w
unfolding write_one
wrote_by n samples law set room w e =
    let v = chosen (mask_of law) set (take n samples) in
    let sized = cond (ltb room (octets_for (length v.bits))) (declined Room) (wrote v) in
    let timed = cond (not (eqb n 0 || is_length n)) (declined Length) sized in
    let a = guard (not (is_law law)) Law (cond (not (is_writer_set set)) (declined Set) timed) e in
    let b = guard (not (is_writer_set set)) Set timed a.1 in
    let c = guard (not (eqb n 0 || is_length n)) Length sized b.1 in
    let d = guard (ltb room (octets_for (length v.bits))) Room (wrote v) c.1 in
    let i : v ≡ w = same v w d.1 in
    record {
      lawful = not-false (is_law law) a.0;
      odd = not-false (is_writer_set set) b.0;
      allowed = not-false (eqb n 0 || is_length n) c.0;
      fits = rw (← i) (ltb-false room (octets_for (length v.bits)) d.0);
      is = i;
    }

-- a frame that a writer takes: no samples, or one of the five lengths, octets all
pub data Frames : List ℕ → Type 0 where
  pad : Frames []
  full : {s : List ℕ} → is_length (length s) ≡ true → Below 256 s → Frames s

pub frames-of : (n : ℕ) (samples : List ℕ) → n ≤ length samples → Below 256 samples → eqb n 0 || is_length n ≡ true → Frames (take n samples)
frames-of n samples h b e =
    or_cases (Frames (take n samples)) (eqb n 0) (is_length n) e
    (λ z. rw (eqb-true n 0 z) pad)
    (λ l. full (rw (length-take-le n samples h) l) (below-take n b))

pub chosen-pad : (mask set : ℕ) → chosen mask set [] ≡ record { tool = 0; bits = low_bits 8 0 }
unfolding chosen
chosen-pad mask set = refl

length-not-zero : (n : ℕ) → is_length n ≡ true → n ≡ 0 → ⊥
length-not-zero n l = by_length (λ n. n ≡ 0 → ⊥) (omega arith) (omega arith) (omega arith) (omega arith) (omega arith) n l

pub chosen-full : (mask set : ℕ) (s : List ℕ) → is_length (length s) ≡ true
    → chosen mask set s ≡ record { tool = chosen_tool mask set s; bits = form_of mask (chosen_tool mask set s) s }
unfolding chosen
chosen-full mask set s l = rw (ne_eqb (length s) 0 (length-not-zero (length s) l)) refl

-- From bits to octets: what a frame is read from
pub read-bits : (law set room : ℕ) {b : List ℕ} (more : List ℕ) → is_law law ≡ true → is_set set ≡ true → Below 2 b
    → read_one (pack b ++ more) law set room ≡ frame (mask_of law) set room (filled_bits b ++ bits_of more) 0
unfolding read_one
read-bits law set room {b} more l s low = rw (l, s, bits_of-append (pack b) more, bits_of-pack low) refl

-- a tool's form, by any reader that holds the tool
pub form-back : (law t : ℕ) (s : List ℕ) → is_law law ≡ true → is_length (length s) ≡ true → Below 256 s → is_tool t ≡ true
    → applies (mask_of law) t s ≡ true → (set room : ℕ) (more : List ℕ) → is_set set ≡ true → holds set t ≡ true → length s ≤ room
    → read_one (pack (form_of (mask_of law) t s) ++ more) law set room ≡ found_at t s (length (form_of (mask_of law) t s))
form-back law t s i l b h a set room more e held r =
    read-bits law set room more i e (form-below (mask_of law) t s l)
    ∙ (form-restores (law-mask law) t s l b h a).reads set room (bits_of more) held r

-- "Zero samples give one octet 00."
pad-frame : (mask set room : ℕ) (post : List ℕ) → frame mask set room (filled_bits (low_bits 8 0) ++ post) 0 ≡ found_at 0 []
    (length (low_bits 8 0))
unfolding frame after_first first_octet look_up rows
pad-frame mask set room post =
    let l : length (low_bits 8 0) ≡ 8 = length-low_bits 8 0 in
    let e : filled_bits (low_bits 8 0) ++ post ≡ low_bits 8 0 ++ post = rw (l, append-nil (low_bits 8 0)) refl in
    rw (e, back-first (back-number 8 0 (omega arith)) post, l) refl

pub pad-back : (law set room : ℕ) (more : List ℕ) → is_law law ≡ true → is_set set ≡ true
    → read_one (pack (low_bits 8 0) ++ more) law set room ≡ found_at 0 [] (length (low_bits 8 0))
pad-back law set room more i e = read-bits law set room more i e (low_bits-below 8 0) ∙ pad-frame (mask_of law) set room (bits_of more)

-- what is chosen for a frame, by any reader that holds the tool used; a pad's tool, 0, need not be held
pub chosen-back : (law set : ℕ) {s : List ℕ} → is_law law ≡ true → is_writer_set set ≡ true → Frames s
    → (reader room : ℕ) (more : List ℕ) → is_set reader ≡ true
    → (1 ≤ (chosen (mask_of law) set s).tool → holds reader (chosen (mask_of law) set s).tool ≡ true) → length s ≤ room
    → read_one (pack (chosen (mask_of law) set s).bits ++ more) law reader room
    ≡ found_at (chosen (mask_of law) set s).tool s (length (chosen (mask_of law) set s).bits)
chosen-back law set i o pad reader room more e h r = rw (chosen-pad (mask_of law) set) (pad-back law reader room more i e)
chosen-back law set {s} i o (full l b) reader room more e h r =
    let mask = mask_of law in
    let t = chosen_tool mask set s in
    let c = chosen-full mask set s l in
    let u = chosen-usable mask set s o in
    let held : holds reader t ≡ true = (rw c at h) (tool-some t u.is) in
    rw c (form-back law t s i l b u.is u.fits reader room more e held r)

-- Demand 2: "reading the written octets gives the frame, exactly the written octets used, the same bits and tool", whatever follows
pub back : (n : ℕ) (samples : List ℕ) (law set room : ℕ) (w : Written) → n ≤ length samples → Below 256 samples
    → write_one n samples law set room ≡ wrote w
    → (reader room' : ℕ) (more : List ℕ) → is_set reader ≡ true → (1 ≤ w.tool → holds reader w.tool ≡ true) → n ≤ room'
    → read_one (pack w.bits ++ more) law reader room' ≡ found_at w.tool (take n samples) (length w.bits)
back n samples law set room w h b e reader room' more i held r =
    let d = wrote_by n samples law set room w e in
    let f = frames-of n samples h b d.allowed in
    let c = d.is in
    rw c at (chosen-back law set d.lawful d.odd f reader room' more i (rw (← c) at held) (omega (arith, length-take-le n samples h)))

-- so also by any reader whose set holds the writer's
pub tool-held : (mask set : ℕ) {s : List ℕ} → is_writer_set set ≡ true → Frames s → 1 ≤ (chosen mask set s).tool
    → holds set (chosen mask set s).tool ≡ true
tool-held mask set o pad h = absurd (omega (arith, (rw (chosen-pad mask set) at h)))
tool-held mask set {s} o (full l b) h = rw (chosen-full mask set s l) (chosen-usable mask set s o).held

pub back-within : (n : ℕ) (samples : List ℕ) (law set room : ℕ) (w : Written) → n ≤ length samples → Below 256 samples
    → write_one n samples law set room ≡ wrote w
    → (reader room' : ℕ) (more : List ℕ) → is_set reader ≡ true → Within set reader → n ≤ room'
    → read_one (pack w.bits ++ more) law reader room' ≡ found_at w.tool (take n samples) (length w.bits)
back-within n samples law set room w h b e reader room' more i within r =
    let d = wrote_by n samples law set room w e in
    let f = frames-of n samples h b d.allowed in
    back n samples law set room w h b e reader room' more i
    (λ k. within.also w.tool (rw d.is at (tool-held (mask_of law) set d.odd f (rw (← d.is) at k)))) r

-- Short enough
record Some (l : List ℕ) : Type 0 where
  some : 1 ≤ length l

some-cond : (b : Bool) {x y : List ℕ} → Some x → Some y → Some (cond b x y)
some-cond true h k = h
some-cond false h k = k

some_first : (a b : List ℕ) → Some a → Some (a ++ b)
some_first a b h = record { some = simp length-append (omega arith) }

prefix-some : (t n : ℕ) → Some (prefix t n)
prefix-some t n = record { some = omega (arith, length-low_bits 8 (octet_for t n)) }

code-some : (n mark : ℕ) → is_length n ≡ true → Some (rice_code n mark)
code-some n mark l = rw ((rice-code n l).last mark) (record { some = simp length-append (omega arith) })

form-some : (mask t : ℕ) (s : List ℕ) → is_length (length s) ≡ true → Some (form_of mask t s)
unfolding form_of rice_choice located_form fractional_form
form-some mask t s l =
    let n = length s in
    some-cond (eqb t 1) (some_first (prefix 1 n) (bits_of s) (prefix-some 1 n))
    (some-cond (eqb t 2) (prefix-some 2 n)
    (some-cond (eqb t 3) (prefix-some 3 n)
    (some-cond (eqb t 4) (some_first (prefix 4 n) (low_bits 8 (get_or s 0 0)) (prefix-some 4 n))
    (some-cond (eqb t 5) (some_first (prefix 5 n) (map (flag_of mask 0) s) (prefix-some 5 n))
    (some-cond (eqb t 6)
    (let mark = mark_of mask s in
    let r = best_s mask mark s in
    some_first (rice_code n mark) (code_of n r ++ runs_form r (map (flag_of mask mark) s)) (code-some n mark l))
    (some-cond (eqb t 11)
    (some_first (low_bits 8 (first_code n + row_number (frame_row mask s))) (fractional_body mask (row_number (frame_row mask s)) s)
    (record { some = omega (arith, length-low_bits 8 (first_code n + row_number (frame_row mask s))) }))
    (some_first (prefix 7 n)
    (low_bits 2 (row_number (row_of mask s))
    ++ (low_bits 1 (located_flag mask s) ++ values_form (map (sample_of mask) (values_of n (row_number (row_of mask s)) (located_flag mask s))) s))
    (prefix-some 7 n))))))))

uncompressed-octets : (mask : ℕ) (s : List ℕ) → octets_of_form mask s 1 ≡ length s + 1
unfolding form_of
uncompressed-octets mask s = simp (length-append, length-low_bits, length-bits_of) (omega arith)

one-usable : (mask set : ℕ) (s : List ℕ) → is_writer_set set ≡ true → usable mask set s 1 ≡ true
unfolding applies
one-usable mask set s o = rw (writer-holds set o) refl

-- "A written frame has 1 to N + 1 octets."
pub record ShortEnough (n : ℕ) (bits : List ℕ) : Type 0 where
  pub some : 1 ≤ length (pack bits)
  pub most : length (pack bits) ≤ n + 1
  pub octets : length (pack bits) ≡ octets_for (length bits)
  pub fill : bits_of (pack bits) ≡ filled_bits bits

pub chosen-short : (mask set : ℕ) {s : List ℕ} → is_writer_set set ≡ true → Frames s → ShortEnough (length s) (chosen mask set s).bits
chosen-short mask set o pad =
    rw (chosen-pad mask set) (let l = length-pack (low_bits 8 0) in let k = length-low_bits 8 0 in
    record { some = omega arith; most = omega arith; octets = l; fill = bits_of-pack (low_bits-below 8 0) })
chosen-short mask set {s} o (full l b) =
    let t = chosen_tool mask set s in
    let form = form_of mask t s in
    let k = length-pack form in
    let m = each_at tie_order 1 [] (chosen-least mask set s o) in
    let m' = leb-true (octets_of_form mask s t) (octets_of_form mask s 1) (rw (one-usable mask set s o) at m) in
    rw (chosen-full mask set s l)
    (record {
      some = omega (arith, (form-some mask t s l).some);
      most = omega (arith, uncompressed-octets mask s);
      octets = k;
      fill = bits_of-pack (form-below mask t s l);
    })

pub short-enough : (n : ℕ) (samples : List ℕ) (law set room : ℕ) (w : Written) → n ≤ length samples → Below 256 samples
    → write_one n samples law set room ≡ wrote w → ShortEnough n w.bits
short-enough n samples law set room w h b e =
    let d = wrote_by n samples law set room w e in
    rw (length-take-le n samples h, d.is) at (chosen-short (mask_of law) set d.odd (frames-of n samples h b d.allowed))

-- The choice: what is written is one of the set's forms that apply, none of them is shorter, and of the equally short it is the first in
-- the order
pub record IsChosen (mask set : ℕ) (s : List ℕ) (w : Written) : Type 0 where
  pub form : w.bits ≡ form_of mask w.tool s
  pub choice : FirstLeast (usable mask set s) (octets_of_form mask s) order w.tool

pub written-chosen : (n : ℕ) (samples : List ℕ) (law set room : ℕ) (w : Written) → n ≤ length samples → 1 ≤ n
    → write_one n samples law set room ≡ wrote w → IsChosen (mask_of law) set (take n samples) w
written-chosen n samples law set room w h k e =
    let d = wrote_by n samples law set room w e in
    let s = take n samples in
    let l : is_length n ≡ true = or_cases (is_length n ≡ true) (eqb n 0) (is_length n) d.allowed
    (λ z. absurd (omega (arith, eqb-true n 0 z))) (λ l. l) in
    rw (← d.is, chosen-full (mask_of law) set s (rw (length-take-le n samples h) l))
    (record { form = refl; choice = chosen-first-least (mask_of law) set s d.odd })

-- and every frame of an allowed length is written, by either law and any odd set up to 255, given N + 1 octets of room
pub writes : (n : ℕ) (samples : List ℕ) (law set room : ℕ) → n ≤ length samples → Below 256 samples → is_law law ≡ true
    → is_writer_set set ≡ true
    → eqb n 0 || is_length n ≡ true → n + 1 ≤ room → write_one n samples law set room ≡ wrote (chosen (mask_of law) set (take n samples))
unfolding write_one
writes n samples law set room h b i o a r =
    let s = chosen-short (mask_of law) set o (frames-of n samples h b a) in
    let bits = (chosen (mask_of law) set (take n samples)).bits in
    rw (i, o, a, le-ltb room (octets_for (length bits)) (omega (arith, s.most, s.octets, length-take-le n samples h))) refl
