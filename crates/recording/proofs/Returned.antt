-- R-1 of the two calls: "What is written reads back as the same list of frames and losses." Whatever samples and items writing accepts,
-- reading what it wrote, with a set that holds the writer's, room and places, gives their law, items and samples, a frame given that is an
-- erasure frame as a loss of its length: `file-written-back` of the definitions, `restored` by the contracts of the calls. Where no frame
-- given is one, exactly the items and samples given: `as-read-same`, `returned`.
--   file-wrote: what an accepted writing has passed.      room_most: room that is enough whatever is given.
use Prim.Native.Nat.{ℕ, ◌+◌, ◌-◌, ◌≤◌}
use native.Mathlib.Omega.{arith}
use mathlib.Core.Path.{◌≡◌, refl, sym, ap, ◌∙◌}
use mathlib.Core.List.{List, [], ◌∷◌, ◌++◌, map}
use mathlib.Core.Bool.{Bool, true, false, cond, not, ◌&&◌}
use lib.ListN.{length, take, drop, length-drop, length-append, length-map, take-append-drop}
use lib.Seq.{length-take-le, take_at}
use lib.Dec.{eqb, leb, ltb}
use borrow.Author.Tests.{leb-true, ltb-false, eqb-true, not-true, not-false}
use Rattle.rules.specs.declared.Refusal.TheVariants as rules
use Rattle.rules.specs.Tools.{Within, is_set, is_writer_set, is_law, is_length}
use Rattle.rules.specs.Samples.{mask_of}
use Rattle.rules.specs.Walk.{longest}
use Rattle.rules.specs.Calls.{at_start}
use Rattle.rules.proofs.Octets.{Below, below-drop}
use Rattle.rules.proofs.Tests.{and_left, and_right, or_cases}
use Rattle.rules.proofs.Each.{Each, next}
use Rattle.rules.proofs.Room.{length_most}
use Rattle.promises.proofs.Written.{frames-of}
use Rattle.recording.specs.declared.Refusal.{Refusal}
use Rattle.recording.specs.declared.Refusal.TheVariants.{Frame}
use Rattle.std.proofs.Common.{Ok}
use Rattle.recording.specs.declared.FileRead.{FileRead}
use Rattle.recording.specs.declared.FileWritten.{FileWritten}
use Rattle.recording.specs.Remembered.{heading_of, heading_length, erased}
use Rattle.recording.specs.Items.{Item, cell_of, sound_in, loss_from, read_file}
use Rattle.recording.specs.Files.{Entry, frame, loss, entries_octets, file_octets, Given, given, wrong, six_lengths, with_entry, given_by}
use Rattle.recording.specs.Files.{Filed, filed, declined, file_given, write_file}
use Rattle.recording.specs.Calls.{ReadFile, written_end, Writes, WriteFile}
use Rattle.recording.proofs.Back.{as_read, room_for_all, entries_in, May, frames, unknown, losses, All, last, then}
use Rattle.recording.proofs.Back.{piece_with, pieces_read, file-back, entries-pieces}

-- the entries that numbers of 16 bits and samples are
abbrev pub which_given : Given → List Entry
which_given (given es) = es
which_given wrong = []

abbrev pub entries_of : List ℕ → List ℕ → List Entry
entries_of cells samples = which_given (given_by cells samples)

-- and what they read back as
abbrev pub items_back : ℕ → ℕ → List Entry → List Item
items_back mask set es = map (as_read mask set) es

-- numbers and samples that are entries, one by one
data Are : List ℕ → List ℕ → List Entry → Type 0 where
  no_more : Are [] [] []
  a-frame : {c : ℕ} {cells samples : List ℕ} {es : List Entry} → six_lengths c ≡ true → c ≤ length samples → Are cells (drop c samples) es
      → Are (c ∷ cells) samples (frame (take c samples) ∷ es)
  a-loss : {c : ℕ} {cells samples : List ℕ} {es : List Entry} → loss_from ≤ c → six_lengths (c - loss_from) ≡ true → Are cells samples es
      → Are (c ∷ cells) samples (loss (c - loss_from) ∷ es)

data WithOne (x : Entry) (g : Given) (es : List Entry) : Type 0 where
  behind : (rest : List Entry) → g ≡ given rest → es ≡ x ∷ rest → WithOne x g es

with-one : (x : Entry) (g : Given) {es : List Entry} → with_entry x g ≡ given es → WithOne x g es
with-one x (given rest) e = behind rest refl cc
with-one x wrong e = let z : ◌≡◌ {A = ℕ} 0 1 = cc in absurd (omega arith)

no-entries : {es : List Entry} → given [] ≡ given es → es ≡ []
no-entries e = cc

given-are : (cells samples : List ℕ) (es : List Entry) → given_by cells samples ≡ given es → Are cells samples es
unfolding given_by
given-are [] [] es e = rw (no-entries e) no_more
given-are [] (x ∷ samples) es e = let z : ◌≡◌ {A = ℕ} 0 1 = cc in absurd (omega arith)
given-are (c ∷ cells) samples es e =
    go (six_lengths c) refl (ltb (length samples) c) refl (leb loss_from c && six_lengths (c - loss_from)) refl e
    (given-are cells (drop c samples)) (given-are cells samples)
  where
    go : (x : Bool) → six_lengths c ≡ x → (y : Bool) → ltb (length samples) c ≡ y → (z : Bool)
        → leb loss_from c && six_lengths (c - loss_from) ≡ z
        → cond x (cond y wrong (with_entry (frame (take c samples)) (given_by cells (drop c samples))))
        (cond z (with_entry (loss (c - loss_from)) (given_by cells samples)) wrong) ≡ given es
        → ((es : List Entry) → given_by cells (drop c samples) ≡ given es → Are cells (drop c samples) es)
        → ((es : List Entry) → given_by cells samples ≡ given es → Are cells samples es) → Are (c ∷ cells) samples es
    go true x true y z t d on on' = let z : ◌≡◌ {A = ℕ} 0 1 = cc in absurd (omega arith)
    go true x false y z t d on on' = one (with-one (frame (take c samples)) (given_by cells (drop c samples)) d)
      where
        one : WithOne (frame (take c samples)) (given_by cells (drop c samples)) es → Are (c ∷ cells) samples es
        one (behind rest g k) = rw k (a-frame x (ltb-false (length samples) c y) (on rest g))
    go false x w y true t d on on' = one (with-one (loss (c - loss_from)) (given_by cells samples) d)
      where
        one : WithOne (loss (c - loss_from)) (given_by cells samples) es → Are (c ∷ cells) samples es
        one (behind rest g k) =
            rw k (a-loss (leb-true loss_from c (and_left (leb loss_from c) (six_lengths (c - loss_from)) t))
            (and_right (leb loss_from c) (six_lengths (c - loss_from)) t) (on' rest g))
    go false x w y false t d on on' = let z : ◌≡◌ {A = ℕ} 0 1 = cc in absurd (omega arith)

-- so each may be written, and is read back by a reader that holds the set
a-loss-may : (set reader n : ℕ) → is_writer_set set ≡ true → Within set reader → six_lengths n ≡ true → May reader (piece_with set (loss n))
a-loss-may set reader n o w h =
    or_cases (May reader (piece_with set (loss n))) (eqb n 0) (is_length n) h (λ z. rw (eqb-true n 0 z) unknown) (λ l. losses o w l)

all-may : (set reader : ℕ) → is_writer_set set ≡ true → Within set reader → {cells samples : List ℕ} {es : List Entry}
    → Are cells samples es → Below 256 samples → All reader (map (piece_with set) es)
all-may set reader o w no_more b = last
all-may set reader o w (a-frame {c = c} {samples = samples} h k t) b =
    then (frames o w (frames-of c samples k b h)) (all-may set reader o w t (below-drop c b))
all-may set reader o w (a-loss {c = c} h k t) b = then (a-loss-may set reader (c - loss_from) o w k) (all-may set reader o w t b)

-- as many entries as items
as_many : {cells samples : List ℕ} {es : List Entry} → Are cells samples es → length es ≡ length cells
as_many no_more = refl
as_many (a-frame h k t) = omega (arith, as_many t)
as_many (a-loss h k t) = omega (arith, as_many t)

-- Room that is enough whatever is given: the samples', and 320 more, since an erasure frame needs its room while it is read
six-most : (n : ℕ) → six_lengths n ≡ true → n ≤ 320
six-most n h = or_cases (n ≤ 320) (eqb n 0) (is_length n) h (λ z. omega (arith, eqb-true n 0 z)) (length_most n)

taken-le : (b : Bool) (n : ℕ) → cond b 0 n ≤ n
taken-le true n = omega arith
taken-le false n = omega arith

room-all : (mask : ℕ) {cells samples : List ℕ} {es : List Entry} → Are cells samples es → room_for_all mask es ≤ length samples + 320
unfolding room_for_all
room-all mask no_more = omega arith
room-all mask (a-frame {c = c} {samples = samples} h k t) =
    let l = length-take-le c samples k in
    let u = taken-le (erased mask (take c samples)) (length (take c samples)) in
    let m = room-all mask t in
    let d = length-drop c samples in
    omega arith
room-all mask (a-loss {c = c} h k t) =
    let m = room-all mask t in
    let n = six-most (c - loss_from) k in
    omega arith

pub room_most : (mask : ℕ) (cells samples : List ℕ) → room_for_all mask (entries_of cells samples) ≤ length samples + 320
unfolding room_for_all
room_most mask cells samples = go (given_by cells samples) refl
  where
    go : (g : Given) → given_by cells samples ≡ g → room_for_all mask (which_given g) ≤ length samples + 320
    go (given es) e = room-all mask (given-are cells samples es e)
    go wrong e = omega arith

-- `as_read` changes nothing but a frame that is an erasure frame: where none is, the items are those given, and the sound is the samples
abbrev pub is_erased : ℕ → Entry → Bool
is_erased mask (frame s) = erased mask s
is_erased mask (loss n) = false

abbrev pub NoneErased : ℕ → List Entry → Type 0
NoneErased mask es = Each (λ x. not (is_erased mask x)) es

pub record AsGiven (cells samples : List ℕ) (items : List Item) : Type 0 where
  pub told : map cell_of items ≡ cells
  pub sound : sound_in items ≡ samples

first : (mask : ℕ) {x : Entry} {rest : List Entry} → NoneErased mask (x ∷ rest) → is_erased mask x ≡ false
first mask {x} (next h t) = not-true (is_erased mask x) h

later : (mask : ℕ) {x : Entry} {rest : List Entry} → NoneErased mask (x ∷ rest) → NoneErased mask rest
later mask (next h t) = t

same-all : (mask set : ℕ) {cells samples : List ℕ} {es : List Entry} → Are cells samples es → NoneErased mask es
    → AsGiven cells samples (items_back mask set es)
unfolding sound_in
same-all mask set no_more n = record { told = refl; sound = refl }
same-all mask set (a-frame {c = c} {samples = samples} h k t) n =
    let i = same-all mask set t (later mask n) in
    rw (first mask n) (record {
      told = rw (i.told, length-take-le c samples k) refl;
      sound = rw i.sound (take-append-drop c samples);
    })
same-all mask set (a-loss {c = c} h k t) n =
    let i = same-all mask set t (later mask n) in
    let m : loss_from + (c - loss_from) ≡ c = omega arith in
    record { told = rw (i.told, m) refl; sound = i.sound }

pub as-read-same : (mask set : ℕ) (cells samples : List ℕ) (es : List Entry) → given_by cells samples ≡ given es → NoneErased mask es
    → AsGiven cells samples (items_back mask set es)
as-read-same mask set cells samples es e n = same-all mask set (given-are cells samples es e) n

-- What an accepted writing has passed, and what was written
pub record Wrote (samples cells : List ℕ) (law set room : ℕ) (octets : List ℕ) : Type 0 where
  pub lawful : is_law law ≡ true
  pub odd : is_writer_set set ≡ true
  pub entries : List Entry
  pub are : given_by cells samples ≡ given entries
  pub short : length (entries_octets (mask_of law) set entries) ≤ longest
  pub fits : length octets ≤ room
  pub is : file_octets law set entries ≡ octets

guard : (b : Bool) (r : Refusal) (y : Filed) {o : List ℕ} → cond b (declined r) y ≡ filed o → (b ≡ false) × (y ≡ filed o)
guard true r y e = let z : ◌≡◌ {A = ℕ} 0 1 = cc in absurd (omega arith)
guard false r y e = (refl, e)

pub file-wrote : (samples cells : List ℕ) (law set room : ℕ) (octets : List ℕ) → write_file samples cells law set room ≡ filed octets
    → Wrote samples cells law set room octets
unfolding write_file
file-wrote samples cells law set room octets e =
    let rest = file_given law set (given_by cells samples) room in
    let a = guard (not (is_law law)) (Frame rules.Law) (cond (not (is_writer_set set)) (declined (Frame rules.Set)) rest) e in
    let b = guard (not (is_writer_set set)) (Frame rules.Set) rest a.1 in
    go (not-false (is_law law) a.0) (not-false (is_writer_set set) b.0) (given_by cells samples) refl b.1
  where
    same : {x y : List ℕ} → filed x ≡ filed y → x ≡ y
    same e = cc

    go : is_law law ≡ true → is_writer_set set ≡ true → (g : Given) → given_by cells samples ≡ g → file_given law set g room ≡ filed octets
        → Wrote samples cells law set room octets
    go l o wrong q d = let z : ◌≡◌ {A = ℕ} 0 1 = cc in absurd (omega arith)
    go l o (given es) q d =
        let f = file_octets law set es in
        let after = length (entries_octets (mask_of law) set es) in
        let x = guard (not (leb after longest)) (Frame rules.Long) (cond (ltb room (length f)) (declined (Frame rules.Room)) (filed f)) d in
        let y = guard (ltb room (length f)) (Frame rules.Room) (filed f) x.1 in
        let i : f ≡ octets = same y.1 in
        record {
          lawful = l;
          odd = o;
          entries = es;
          are = q;
          short = leb-true after longest (not-false (leb after longest) x.0);
          fits = rw (← i) (ltb-false room (length f) y.0);
          is = i;
        }

-- what pieces of one set read back as
pieces-read : (mask set : ℕ) (es : List Entry) → pieces_read mask (map (piece_with set) es) ≡ items_back mask set es
unfolding pieces_read
pieces-read mask set [] = refl
pieces-read mask set (x ∷ es) = ap (λ l. as_read mask set x ∷ l) (pieces-read mask set es)

entries-in : (set : ℕ) (es : List Entry) → entries_in (map (piece_with set) es) ≡ es
entries-in set [] = refl
entries-in set (x ∷ es) = ap (λ l. x ∷ l) (entries-in set es)

-- R-1, of the two definitions
pub file-written-back : (samples cells : List ℕ) (law set room : ℕ) (octets : List ℕ) → Below 256 samples
    → write_file samples cells law set room ≡ filed octets
    → (reader room' places : ℕ) → is_set reader ≡ true → Within set reader
    → room_for_all (mask_of law) (entries_of cells samples) ≤ room' → length cells ≤ places
    → read_file octets reader room' places
    ≡ record {
      law = law;
      read = record {
        items = items_back (mask_of law) set (entries_of cells samples);
        end = Ok tt;
        place = length octets - heading_length;
        bit = 0;
      };
    }
file-written-back samples cells law set room octets b e reader room' places i w r p =
    let d = file-wrote samples cells law set room octets e in
    let es = d.entries in
    let are = given-are cells samples es d.are in
    let mask = mask_of law in
    let ps = map (piece_with set) es in
    let f = entries-pieces mask set es in
    let o : octets ≡ heading_of law ++ entries_octets mask set es = sym d.is in
    let n : length (heading_of law ++ entries_octets mask set es) - heading_length ≡ length (entries_octets mask set es) = omega arith in
    let back = file-back law reader room' places ps d.lawful i (all-may set reader d.odd w are b)
    (rw (← f) d.short) (rw (entries-in set es) (rw d.are at r))
    (omega (arith, length-map es (piece_with set), as_many are)) in
    rw (o, n, d.are) (rw (← f, pieces-read mask set es) at back)

-- and by the contracts of the two calls: the law, the items and the samples, from exactly the octets written
pub record Restored (law : ℕ) (sound items : List ℕ) (w : FileWritten) (into into' cells cells' : List ℕ) (r : FileRead) : Type 0 where
  pub end : r.end ≡ Ok tt
  pub lawful : r.law ≡ law
  pub many : r.items ≡ length items
  pub octets : heading_length + r.octets ≡ w.octets
  pub samples : r.samples ≡ length sound
  pub bit : r.bit ≡ 0
  pub lent : into' ≡ at_start sound into
  pub told : cells' ≡ at_start items cells

-- a writing that ended well wrote a file
data WellWritten (f : Filed) : Type 0 where
  well : (octets : List ℕ) → f ≡ filed octets → WellWritten f

well-written : (f : Filed) → written_end f ≡ Ok tt → WellWritten f
well-written (filed octets) e = well octets refl
well-written (declined w) e = let z : ◌≡◌ {A = ℕ} 0 1 = cc in absurd (omega arith)

pub restored : (samples cells : List ℕ) (law set : ℕ) (out out' : List ℕ) (w : FileWritten) → Below 256 samples
    → WriteFile samples cells law set out out' w → w.end ≡ Ok tt
    → (reader : ℕ) (into into' told told' : List ℕ) (r : FileRead) → is_set reader ≡ true → Within set reader
    → room_for_all (mask_of law) (entries_of cells samples) ≤ length into → length cells ≤ length told
    → ReadFile (take w.octets out') reader into into' told told' r
    → Restored law (sound_in (items_back (mask_of law) set (entries_of cells samples)))
    (map cell_of (items_back (mask_of law) set (entries_of cells samples))) w into into' told told' r
restored samples cells law set out out' w b c e reader into into' told told' r i within room places d =
    go (well-written (write_file samples cells law set (length out)) (sym c.end ∙ e))
  where
    items : List Item
    items = items_back (mask_of law) set (entries_of cells samples)

    go : WellWritten (write_file samples cells law set (length out))
        → Restored law (sound_in items) (map cell_of items) w into into' told told' r
    go (well octets q) =
        let c' : Writes (filed octets) w out out' = rw q at c in
        let back = file-written-back samples cells law set (length out) octets b q reader (length into) (length told) i within room places in
        let n = c'.octets in
        let o : take w.octets out' ≡ octets = rw c'.lent (take_at octets (drop (length octets) out) w.octets (sym n)) in
        let d' = rw (o, back) at d in
        let k = file-wrote samples cells law set (length out) octets q in
        let l = length-append (heading_of law) (entries_octets (mask_of law) set k.entries) in
        let m = ap length k.is in
        record {
          end = d'.end;
          lawful = d'.law;
          many = d'.items ∙ sym (length-map items cell_of);
          octets = omega (arith, d'.octets);
          samples = d'.samples;
          bit = d'.bit;
          lent = d'.lent;
          told = d'.told;
        }

-- and where no frame given is an erasure frame, exactly the items and samples given
pub returned : (samples cells : List ℕ) (law set : ℕ) (out out' : List ℕ) (w : FileWritten) → Below 256 samples
    → WriteFile samples cells law set out out' w → w.end ≡ Ok tt → NoneErased (mask_of law) (entries_of cells samples)
    → (reader : ℕ) (into into' told told' : List ℕ) (r : FileRead) → is_set reader ≡ true → Within set reader
    → room_for_all (mask_of law) (entries_of cells samples) ≤ length into → length cells ≤ length told
    → ReadFile (take w.octets out') reader into into' told told' r → Restored law samples cells w into into' told told' r
returned samples cells law set out out' w b c e n reader into into' told told' r i within room places d =
    go (well-written (write_file samples cells law set (length out)) (sym c.end ∙ e))
  where
    go : WellWritten (write_file samples cells law set (length out)) → Restored law samples cells w into into' told told' r
    go (well octets q) =
        let k = file-wrote samples cells law set (length out) octets q in
        let same = as-read-same (mask_of law) set cells samples k.entries k.are (rw k.are at n) in
        let back = restored samples cells law set out out' w b c e reader into into' told told' r i within room places d in
        rw (same.sound, same.told) at (rw k.are at back)
