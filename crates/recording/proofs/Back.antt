-- "What is written reads back as the same list of frames and losses": pieces of one law, each written with its own set, are read whole by
-- every reader whose set holds all those sets, given room (`file-back`). Of what one call writes: Returned.
use Prim.Native.Nat.{ℕ, zero, suc, ◌+◌, ◌*◌, ◌-◌, max, ◌≤◌, ◌<◌}
use native.Mathlib.Omega.{arith}
use mathlib.Core.Path.{◌≡◌, refl, sym, ap, ◌∙◌}
use mathlib.Core.List.{List, [], ◌∷◌, ◌++◌, map, append_assoc}
use mathlib.Core.Bool.{true, false, cond}
use lib.ListN.{length, get_or, drop, replicate, length-append, length-replicate}
use lib.Seq.{drop-append_seam}
use lib.Dec.{lit<}
use lib.IntN.{pos}
use borrow.Author.Tests.{ne_eqb, lt-leb, le-leb, leb-true}
use Rattle.text_keyvalue.specs.Reading.{begins}
use Rattle.rules.specs.Tools.{Within, is_set, is_writer_set, is_law, is_length}
use Rattle.rules.specs.Bits.{octets_for, pack}
use Rattle.rules.specs.Samples.{mask_of}
use Rattle.rules.specs.Reading.{whole}
use Rattle.rules.specs.Frame.{Found, octets_used, read_one}
use Rattle.rules.specs.Chooses.{chosen}
use Rattle.rules.specs.Walk.{longest}
use Rattle.rules.proofs.Octets.{below-replicate, length-pack}
use Rattle.rules.proofs.Signed.{law-mask}
use Rattle.rules.proofs.Tests.{by_length}
use Rattle.promises.proofs.Written.{Frames, full, chosen-back, chosen-short, tool-held}
use Rattle.std.proofs.Common.{Ok}
use Rattle.recording.specs.Remembered.{heading, headed, heading_of, lost_octet, plus_plus, erased}
use Rattle.recording.specs.Items.{Item, sound, lost, before, item_of, room_taken, items_from, read_file}
use Rattle.recording.specs.Files.{Entry, frame, loss, entry_octets, entries_octets}
use Rattle.recording.proofs.Marks.{never-lost, erased-loss}

-- an entry, and the set that it is written with
pub record Piece : Type 0 where
  pub set : ℕ
  pub entry : Entry

abbrev pub piece_octets : ℕ → Piece → List ℕ
piece_octets mask p = entry_octets mask p.set p.entry

unfoldable pub pieces_octets : ℕ → List Piece → List ℕ
pieces_octets mask [] = []
pieces_octets mask (p ∷ ps) = piece_octets mask p ++ pieces_octets mask ps

-- the frame that is read of samples written with a set
abbrev pub found_for : ℕ → ℕ → List ℕ → Found
found_for mask set s = record { tool = (chosen mask set s).tool; samples = s; bits = length (chosen mask set s).bits }

-- "A frame given whose samples are all 0++ or all 0-- is an erasure frame by the RFC: it .. reads back as a loss of its length"
abbrev pub as_read : ℕ → ℕ → Entry → Item
as_read mask set (frame s) = item_of mask (found_for mask set s)
as_read mask set (loss n) = lost n

abbrev pub piece_read : ℕ → Piece → Item
piece_read mask p = as_read mask p.set p.entry

-- the samples that its reading needs room for
abbrev pub room_for : Entry → ℕ
room_for (frame s) = length s
room_for (loss n) = n

-- and the samples that it takes of it
abbrev pub room_taken_by : ℕ → Entry → ℕ
room_taken_by mask (frame s) = cond (erased mask s) 0 (length s)
room_taken_by mask (loss n) = 0

-- the room that reading all of them needs: for each one its samples, besides those taken before it
unfoldable pub room_for_all : ℕ → List Entry → ℕ
room_for_all mask [] = 0
room_for_all mask (x ∷ es) = max (room_for x) (room_taken_by mask x + room_for_all mask es)

abbrev pub entries_in : List Piece → List Entry
entries_in ps = map (λ p. p.entry) ps

-- what a writer takes: a frame, or a loss of one of the lengths, with a set that is within the reader's
pub data May (reader : ℕ) : Piece → Type 0 where
  frames : {set : ℕ} {s : List ℕ} → is_writer_set set ≡ true → Within set reader → Frames s
      → May reader (record { set = set; entry = frame s })
  unknown : {set : ℕ} → May reader (record { set = set; entry = loss 0 })
  losses : {set n : ℕ} → is_writer_set set ≡ true → Within set reader → is_length n ≡ true → May reader (record { set = set; entry = loss n })

pub data All (reader : ℕ) : List Piece → Type 0 where
  last : All reader []
  then : {p : Piece} {ps : List Piece} → May reader p → All reader ps → All reader (p ∷ ps)

-- an item at a place: it is read, and the rest follows
pub record ItemAt (octets : List ℕ) (law set at room : ℕ) (i : Item) (used taken : ℕ) : Type 0 where
  pub some : 1 ≤ used
  pub inside : at + used ≤ length octets
  pub steps : (fuel places : ℕ) → 1 ≤ places → items_from (suc fuel) octets law set at room places
      ≡ before i (items_from fuel octets law set (at + used) (room - taken) (places - 1))

-- a frame, of either kind
pub frame_at : (octets : List ℕ) (law set at room : ℕ) {f : Found} {j : ℕ} → is_law law ≡ true → is_set set ≡ true → at < length octets
    → read_one (drop at octets) law set room ≡ whole f j → 1 ≤ octets_used f → at + octets_used f ≤ length octets
    → ItemAt octets law set at room (item_of (mask_of law) f) (octets_used f) (room_taken (mask_of law) f)
unfolding items_from
frame_at octets law set at room {f} l s h e u k = record {
  some = u;
  inside = k;
  steps = λ fuel places p.
      rw (lt-leb (length octets) at h, ne_eqb places 0 (omega arith), never-lost octets law set at room l s h e, e) refl;
}

-- the octet 01
pub lost-at : (octets : List ℕ) (law set at room : ℕ) → at < length octets → get_or octets at 0 ≡ lost_octet
    → ItemAt octets law set at room (lost 0) 1 0
unfolding items_from
lost-at octets law set at room h e = record {
  some = omega arith;
  inside = omega arith;
  steps = λ fuel places p. let z : room - 0 ≡ room = omega arith in
      rw (z, lt-leb (length octets) at h, ne_eqb places 0 (omega arith), e) refl;
}

-- samples written with a set, after `pre`
written_at : (law set reader room : ℕ) (pre more : List ℕ) {s : List ℕ} → is_law law ≡ true → is_set reader ≡ true
    → is_writer_set set ≡ true → Within set reader → Frames s → length s ≤ room
    → ItemAt (pre ++ (pack (chosen (mask_of law) set s).bits ++ more)) law reader (length pre) room
    (item_of (mask_of law) (found_for (mask_of law) set s))
    (length (pack (chosen (mask_of law) set s).bits)) (room_taken (mask_of law) (found_for (mask_of law) set s))
written_at law set reader room pre more {s} l e o w f r =
    let mask = mask_of law in
    let o' = pack (chosen mask set s).bits in
    let all = pre ++ (o' ++ more) in
    let some = (chosen-short mask set o f).some in
    let size = length-append pre (o' ++ more) in
    let size' = length-append o' more in
    let used : octets_used (found_for mask set s) ≡ length o' = sym (length-pack (chosen mask set s).bits) in
    let first : read_one (drop (length pre) all) law reader room ≡ whole (found_for mask set s)
    (8 * octets_for (length (chosen mask set s).bits))
    = rw (drop-append_seam pre (o' ++ more))
    (chosen-back law set l o f reader room more e (λ h. w.also (chosen mask set s).tool (tool-held mask set o f h)) r) in
    rw used at (frame_at all law reader (length pre) room l e (omega arith) first (omega arith) (omega arith))

loss-frames : (law n : ℕ) → is_length n ≡ true → Frames (replicate n (plus_plus (mask_of law)))
loss-frames law n h =
    full {s = replicate n (plus_plus (mask_of law))} (rw (length-replicate n (plus_plus (mask_of law))) h)
    (below-replicate n ((law-mask law).octet (pos 1) (lit< tt)))

some-samples : (n : ℕ) → is_length n ≡ true → 1 ≤ n
some-samples n l = by_length (λ n. 1 ≤ n) (omega arith) (omega arith) (omega arith) (omega arith) (omega arith) n l

-- a piece that stands in a file, after `pre`
piece-at : (law reader room : ℕ) (pre more : List ℕ) {p : Piece} → is_law law ≡ true → is_set reader ≡ true → May reader p
    → room_for p.entry ≤ room
    → ItemAt (pre ++ (piece_octets (mask_of law) p ++ more)) law reader (length pre) room (piece_read (mask_of law) p)
    (length (piece_octets (mask_of law) p))
    (room_taken_by (mask_of law) p.entry)
piece-at law reader room pre more l e (frames {set = set} o w f) r = written_at law set reader room pre more l e o w f r
piece-at law reader room pre more l e (unknown {set = set}) r =
    lost-at (pre ++ (lost_octet ∷ more)) law reader (length pre) room
    (omega (arith, length-append pre (lost_octet ∷ more))) (here pre)
  where
    here : (pre : List ℕ) → get_or (pre ++ (lost_octet ∷ more)) (length pre) 0 ≡ lost_octet
    here [] = refl
    here (x ∷ pre) = here pre
piece-at law reader room pre more l e (losses {set = set} {n = n} o w k) r =
    let mask = mask_of law in
    let s = replicate n (plus_plus mask) in
    let size = length-replicate n (plus_plus mask) in
    let one = some-samples n k in
    let gone = erased-loss mask n one in
    let read = written_at law set reader room pre more {s = s} l e o w (loss-frames law n k) (omega (arith, size)) in
    rw (ne_eqb n 0 (omega arith)) (rw (gone, size) at read)

-- so pieces are read one after another
unfoldable pub pieces_read : ℕ → List Piece → List Item
pieces_read mask [] = []
pieces_read mask (p ∷ ps) = piece_read mask p ∷ pieces_read mask ps

items_back : (law reader : ℕ) → is_law law ≡ true → is_set reader ≡ true → (pre : List ℕ) (fuel at room places : ℕ) {ps : List Piece}
    → All reader ps → at ≡ length pre → length (pieces_octets (mask_of law) ps) < fuel → room_for_all (mask_of law) (entries_in ps) ≤ room
    → length ps ≤ places
    → items_from fuel (pre ++ pieces_octets (mask_of law) ps) law reader at room places
    ≡ record { items = pieces_read (mask_of law) ps; end = Ok tt; place = at + length (pieces_octets (mask_of law) ps); bit = 0 }
unfolding pieces_octets pieces_read room_for_all items_from
items_back law reader l e pre zero at room places a q h r k = absurd (omega arith)
items_back law reader l e pre (suc fuel) at room places last q h r k =
    let z : at + 0 ≡ at = omega arith in
    rw (z, le-leb (length (pre ++ [])) at (omega (arith, length-append {A = ℕ} pre []))) refl
items_back law reader l e pre (suc fuel) at room places (then {p = p} {ps = ps} m t) q h r k =
    let mask = mask_of law in
    let o = piece_octets mask p in
    let rest = pieces_octets mask ps in
    let i = piece-at law reader room pre rest l e m (omega arith) in
    let size = length-append o rest in
    let some = i.some in
    let on = items_back law reader l e (pre ++ o) fuel (at + length o) (room - room_taken_by mask p.entry) (places - 1)
    t (omega (arith, length-append pre o))
    (omega arith) (omega arith) (omega arith) in
    let place : at + length (o ++ rest) ≡ at + length o + length rest = omega arith in
    rw (place) (rw (← q) at (i.steps fuel places (omega arith)) ∙ ap (before (piece_read mask p)) (rw (append_assoc pre o rest) at on))

-- a heading, and what follows it
begins-heading : (law : ℕ) (more : List ℕ) → is_law law ≡ true → headed (heading_of law ++ more) ≡ heading law
unfolding headed begins
begins-heading zero more l = refl
begins-heading (suc zero) more l = refl
begins-heading (suc (suc law)) more l = absurd (omega (arith, leb-true (suc (suc law)) 1 l))

-- R-1: "What is written reads back as the same list of frames and losses", each piece with its own set, by every reader that holds all
-- those sets, given room for the samples and the items
pub file-back : (law reader room places : ℕ) (ps : List Piece) → is_law law ≡ true → is_set reader ≡ true → All reader ps
    → length (pieces_octets (mask_of law) ps) ≤ longest → room_for_all (mask_of law) (entries_in ps) ≤ room → length ps ≤ places
    → read_file (heading_of law ++ pieces_octets (mask_of law) ps) reader room places
    ≡ record {
      law = law;
      read = record { items = pieces_read (mask_of law) ps; end = Ok tt; place = length (pieces_octets (mask_of law) ps); bit = 0 };
    }
unfolding read_file
file-back law reader room places ps l e a h r k =
    let more = pieces_octets (mask_of law) ps in
    let size : length (heading_of law ++ more) - 10 ≡ length more = omega arith in
    let z : 0 + length more ≡ length more = omega arith in
    rw (e, begins-heading law more l, size, le-leb (length more) longest h)
    (ap (λ read. record { law = law; read = read })
    (rw z at (items_back law reader l e [] (suc (length more)) 0 room places a refl (omega arith) r k)))

-- what one call writes: all its entries with one set
abbrev pub piece_with : ℕ → Entry → Piece
piece_with set x = record { set = set; entry = x }

pub entries-pieces : (mask set : ℕ) (es : List Entry) → entries_octets mask set es ≡ pieces_octets mask (map (piece_with set) es)
unfolding entries_octets pieces_octets
entries-pieces mask set [] = refl
entries-pieces mask set (x ∷ es) = ap (λ t. entry_octets mask set x ++ t) (entries-pieces mask set es)

-- `as_read` changes a frame that is an erasure frame into a loss of its length, and nothing else
pub as-read-frame : (mask set : ℕ) (s : List ℕ) → erased mask s ≡ false → as_read mask set (frame s) ≡ sound (found_for mask set s)
as-read-frame mask set s e = rw e refl

pub as-read-erased : (mask set : ℕ) (s : List ℕ) → erased mask s ≡ true → as_read mask set (frame s) ≡ lost (length s)
as-read-erased mask set s e = rw e refl
