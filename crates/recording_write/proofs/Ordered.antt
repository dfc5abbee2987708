-- "LAW, SET, LENGTH .., LONG, ROOM (heading and all)": the refusals in their order (`file-refused`, `not-given`, `too_long`, `no_room`),
-- and a file that is written (`file-written`).
use Prim.Native.Nat.{ℕ, ◌+◌, ◌≤◌, ◌<◌}
use native.Mathlib.Omega.{arith}
use mathlib.Core.Path.{◌≡◌, refl, sym, subst}
use mathlib.Core.List.{List, ◌++◌}
use mathlib.Core.Bool.{true, false}
use lib.ListN.{length}
use borrow.Author.Tests.{le-leb, lt-leb, le-ltb, lt-ltb}
use Rattle.rules.specs.declared.Refusal as rules
use Rattle.rules.specs.declared.Refusal.TheVariants.{Length, Long, Room}
use Rattle.std.proofs.Common.{Ok, Err}
use Rattle.rules.specs.Refusals.{verdict}
use Rattle.rules.specs.Tools.{writer_asks}
use Rattle.rules.specs.Samples.{mask_of}
use Rattle.rules.specs.Walk.{longest}
use Rattle.rules.proofs.Guards.{verdict-refused, verdict-done}
use Rattle.text_lines.specs.Puts.{Puts}
use Rattle.text_lines.proofs.Putting.{puts_then, puts_first}
use Rattle.recording.specs.declared.Refusal.TheVariants.{Frame}
use Rattle.recording.specs.declared.FileWritten.{FileWritten}
use Rattle.recording.specs.Remembered.{heading_of, heading_length}
use Rattle.recording.specs.Files.{entries_octets, Given, given, wrong, given_by, Filed, filed, declined, sized, file_given, write_file}
use Rattle.recording.specs.Calls.{Writes}
use Rattle.recording_write.specs.Cells.{is_given, entries_of, octets_given}
use Rattle.recording_write.specs.Steps.{Declines}

pub declined-as : {why : rules.Refusal} {r : FileWritten} {f : Filed} → Declines why r → declined (Frame why) ≡ f → (out : List ℕ)
    → Writes f r out out
declined-as {r = r} d e out = subst (λ (f : Filed). Writes f r out out) e (record { end = d.end; octets = d.octets; lent = refl })

pub written_as : {f g : Filed} {r : FileWritten} {out out' : List ℕ} → f ≡ g → Writes f r out out' → Writes g r out out'
written_as {r = r} {out = out} {out' = out'} e w = subst (λ (f : Filed). Writes f r out out') e w

-- LAW and SET, then what is given
module _ (samples cells : List ℕ) (law set room : ℕ) where
  pub file-refused : {why : rules.Refusal} → verdict (writer_asks law set) ≡ Err why
      → declined (Frame why) ≡ write_file samples cells law set room
  unfolding write_file
  file-refused e = sym
      (verdict-refused (λ why. declined (Frame why)) (file_given law set (given_by cells samples) room) (writer_asks law set) e)

  pub file-given : verdict (writer_asks law set) ≡ Ok tt → file_given law set (given_by cells samples) room ≡ write_file
      samples cells law set room
  unfolding write_file
  file-given e = sym (verdict-done (λ why. declined (Frame why)) (file_given law set (given_by cells samples) room) (writer_asks law set) e)

-- LENGTH
pub not-given : (law set room : ℕ) (g : Given) → is_given g ≡ false → declined (Frame Length) ≡ file_given law set g room
not-given law set room wrong e = refl
not-given law set room (given es) e = let z : ◌≡◌ {A = ℕ} 0 1 = cc in absurd (omega arith)

all-sized : (law set room : ℕ) (g : Given) → is_given g ≡ true → file_given law set g room
    ≡ sized (heading_of law ++ entries_octets (mask_of law) set (entries_of g)) (length (entries_octets (mask_of law) set (entries_of g))) room
all-sized law set room wrong e = let z : ◌≡◌ {A = ℕ} 0 1 = cc in absurd (omega arith)
all-sized law set room (given es) e = refl

module _ (samples cells : List ℕ) (law set room : ℕ) (g : is_given (given_by cells samples) ≡ true) where
  -- the octets after the heading
  abbrev after : List ℕ
  after = octets_given (mask_of law) set cells samples

  given-sized : file_given law set (given_by cells samples) room ≡ sized (heading_of law ++ after) (length after) room
  unfolding octets_given
  given-sized = all-sized law set room (given_by cells samples) g

  pub too_long : longest < length after → declined (Frame Long) ≡ file_given law set (given_by cells samples) room
  too_long h = rw (given-sized, lt-leb (length after) longest h) refl

  module _ (s : length after ≤ longest) where
    pub no_room : room < heading_length + length after → declined (Frame Room) ≡ file_given law set (given_by cells samples) room
    no_room h = rw (given-sized, le-leb (length after) longest s, lt-ltb room (length (heading_of law ++ after)) (omega arith)) refl

    fits : heading_length + length after ≤ room → filed (heading_of law ++ after) ≡ file_given law set (given_by cells samples) room
    fits h = rw (given-sized, le-leb (length after) longest s, le-ltb room (length (heading_of law ++ after)) (omega arith)) refl

-- the heading, and then all items
pub file-written : (samples cells : List ℕ) (law set : ℕ) {out o out' : List ℕ} {at n : ℕ} → is_given (given_by cells samples) ≡ true
    → length (octets_given (mask_of law) set cells samples) ≤ longest
    → heading_length + length (octets_given (mask_of law) set cells samples) ≤ length out
    → Puts out 0 (heading_of law) o at → Puts o at (octets_given (mask_of law) set cells samples) out' n
    → Writes (file_given law set (given_by cells samples) (length out)) (record { end = Ok tt; octets = n }) out out'
file-written samples cells law set {out} {o} {out'} {at} {n} g s h p q =
    let all = puts_then p q in
    subst (λ (f : Filed). Writes f (record { end = Ok tt; octets = n }) out out') (fits samples cells law set (length out) g s h)
    (record { end = refl; octets = omega (arith, all.place); lent = puts_first all })
