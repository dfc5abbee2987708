-- Demand 3, second part: frames of one law, each written with its own set, and any number of pads before, between and after them,
-- are walked whole by every reader whose set holds all those sets.
use Prim.Native.Nat.{ℕ, ◌+◌, ◌*◌, ◌-◌, ◌≤◌}
use native.Mathlib.Omega.{arith}
use mathlib.Core.Path.{◌≡◌, refl, sym, ap}
use mathlib.Core.List.{List, [], ◌∷◌, ◌++◌, append_assoc}
use mathlib.Core.Bool.{true}
use lib.ListN.{length, drop, length-append}
use lib.Seq.{drop-append_seam}
use Rattle.std.proofs.Common.{Ok}
use Rattle.rules.specs.Tools.{Within, is_set, is_writer_set, is_law}
use Rattle.rules.specs.Bits.{low_bits, octets_for, octets_from, value_from, pack}
use Rattle.rules.specs.Samples.{mask_of}
use Rattle.rules.specs.Reading.{whole}
use Rattle.rules.specs.Frame.{Found, octets_used, read_one}
use Rattle.rules.specs.Chooses.{Written, chosen}
use Rattle.rules.specs.Walk.{Delivered, longest, walk_all, octets_kept, samples_kept}
use Rattle.rules.proofs.Octets.{length-low_bits, length-pack}
use Rattle.promises.proofs.Written.{Frames, pad-back, chosen-back, chosen-short, tool-held}
use Rattle.promises.proofs.Walks.{WalkOf, ended, delivers, walk-all-only}

-- a part of a stream: a pad, or a frame and the set that it is written with
pub data Part : Type 0 where
  padding : Part
  frame_of : ℕ → List ℕ → Part

-- its samples, and what is written for it
abbrev pub samples_in : Part → List ℕ
samples_in padding = []
samples_in (frame_of set s) = s

abbrev pub written_for : ℕ → Part → Written
written_for mask padding = record { tool = 0; bits = low_bits 8 0 }
written_for mask (frame_of set s) = chosen mask set s

abbrev pub octets_of : ℕ → Part → List ℕ
octets_of mask p = pack (written_for mask p).bits

-- a pad is the octet 00
pub padding-octet : (mask : ℕ) → octets_of mask padding ≡ 0 ∷ []
unfolding low_bits octets_from value_from pack
padding-octet mask = refl

-- what may stand in a stream for a reader: a pad, or a frame that a writer takes, whose set is within the reader's
pub data May (reader : ℕ) : Part → Type 0 where
  pads : May reader padding
  frames : {set : ℕ} {s : List ℕ} → is_writer_set set ≡ true → Within set reader → Frames s → May reader (frame_of set s)

pub data All (reader : ℕ) : List Part → Type 0 where
  last : All reader []
  then : {p : Part} {ps : List Part} → May reader p → All reader ps → All reader (p ∷ ps)

-- the stream of parts, the samples in it, and the frames that a walk over it delivers from place `at` on
unfoldable pub stream : ℕ → List Part → List ℕ
stream mask [] = []
stream mask (p ∷ ps) = octets_of mask p ++ stream mask ps

unfoldable pub samples_all : List Part → List ℕ
samples_all [] = []
samples_all (p ∷ ps) = samples_in p ++ samples_all ps

abbrev pub found_in : ℕ → Part → Found
found_in mask p = record { tool = (written_for mask p).tool; samples = samples_in p; bits = length (written_for mask p).bits }

unfoldable pub deliveries : ℕ → ℕ → List Part → List Delivered
deliveries mask at [] = []
deliveries mask at (p ∷ ps) = record { place = at; found = found_in mask p } ∷ deliveries mask (at + length (octets_of mask p)) ps

-- a part at the start of octets
part-back : (law reader room : ℕ) {p : Part} → is_law law ≡ true → is_set reader ≡ true → May reader p → (more : List ℕ)
    → length (samples_in p) ≤ room → read_one (octets_of (mask_of law) p ++ more) law reader room ≡ whole (found_in (mask_of law) p)
    (8 * octets_for (length (written_for (mask_of law) p).bits))
part-back law reader room i e pads more r = pad-back law reader room more i e
part-back law reader room i e (frames {set = set} o w f) more r =
    chosen-back law set i o f reader room more e (λ h. w.also (chosen (mask_of law) set _).tool (tool-held (mask_of law) set o f h)) r

part-some : (mask reader : ℕ) {p : Part} → May reader p → 1 ≤ length (octets_of mask p)
part-some mask reader pads = omega (arith, length-pack (low_bits 8 0), length-low_bits 8 0)
part-some mask reader (frames {set = set} o w f) = (chosen-short mask set o f).some

walk-parts : (law reader : ℕ) → is_law law ≡ true → is_set reader ≡ true → (pre : List ℕ) (at room : ℕ) {ps : List Part} → All reader ps
    → at ≡ length pre → length (samples_all ps) ≤ room → WalkOf (pre ++ stream (mask_of law) ps) law reader at room
    (record { frames = deliveries (mask_of law) at ps; end = Ok tt; place = at + length (stream (mask_of law) ps); bit = 0 })
unfolding stream samples_all deliveries
walk-parts law reader i e pre at room last q r =
    let z : at + 0 ≡ at = omega arith in rw z (ended {at = at} (omega (arith, length-append {A = ℕ} pre [])))
walk-parts law reader i e pre at room (then {p = p} {ps = ps} m t) q r =
    let mask = mask_of law in
    let o = octets_of mask p in
    let rest = stream mask ps in
    let l = length-pack (written_for mask p).bits in
    let used : octets_used (found_in mask p) ≡ length o = sym l in
    let some = part-some mask reader m in
    let size = length-append (samples_in p) (samples_all ps) in
    let here : drop at (pre ++ (o ++ rest)) ≡ o ++ rest = rw q (drop-append_seam pre (o ++ rest)) in
    let place : at + length (o ++ rest) ≡ at + length o + length rest = omega (arith, length-append o rest) in
    let on = walk-parts law reader i e (pre ++ o) (at + length o) (room - length (samples_in p)) t (omega (arith, length-append pre o))
    (omega arith) in
    let on' : WalkOf (pre ++ (o ++ rest)) law reader (at + octets_used (found_in mask p)) (room - length (samples_in p))
    (record { frames = deliveries mask (at + length o) ps; end = Ok tt; place = at + length o + length rest; bit = 0 })
    = rw used (rw (append_assoc pre o rest) at on) in
    let first : read_one (drop at (pre ++ (o ++ rest))) law reader room ≡ whole (found_in mask p)
    (8 * octets_for (length (written_for mask p).bits))
    = rw here (part-back law reader room i e m rest (omega arith)) in
    rw place (delivers {at = at} (omega (arith, length-append pre (o ++ rest), length-append o rest)) first on')

-- Demand 3, of lists: "the frames come back in order, pads as frames of no samples, all octets used"
pub lists-walked : (law reader room : ℕ) (ps : List Part) → is_law law ≡ true → is_set reader ≡ true → All reader ps
    → length (stream (mask_of law) ps) ≤ longest → length (samples_all ps) ≤ room → walk_all (stream (mask_of law) ps) law reader room
    ≡ record { frames = deliveries (mask_of law) 0 ps; end = Ok tt; place = length (stream (mask_of law) ps); bit = 0 }
lists-walked law reader room ps i e a h r =
    let z : 0 + length (stream (mask_of law) ps) ≡ length (stream (mask_of law) ps) = omega arith in
    walk-all-only (record { lawful = i; small = e; short = h }) (rw z at (walk-parts law reader i e [] 0 room a refl r))

-- so all samples come back in order
pub deliveries-samples : (mask at : ℕ) (ps : List Part) → samples_kept (deliveries mask at ps) ≡ samples_all ps
unfolding deliveries samples_kept samples_all
deliveries-samples mask at [] = refl
deliveries-samples mask at (p ∷ ps) = ap (λ l. samples_in p ++ l) (deliveries-samples mask (at + length (octets_of mask p)) ps)

-- and all octets are used
pub deliveries-octets : (mask at : ℕ) (ps : List Part) → octets_kept (deliveries mask at ps) ≡ length (stream mask ps)
unfolding deliveries octets_kept stream
deliveries-octets mask at [] = refl
deliveries-octets mask at (p ∷ ps) =
    let i = deliveries-octets mask (at + length (octets_of mask p)) ps in
    omega (arith, length-pack (written_for mask p).bits, length-append (octets_of mask p) (stream mask ps))
