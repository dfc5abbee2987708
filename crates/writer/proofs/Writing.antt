-- Laws of a writing: what it tells, and the order of its refusals.
use Prim.Native.Nat.{ℕ, ◌≤◌, ◌<◌, ◌*◌}
use mathlib.Core.Path.{◌≡◌, refl, sym, ap, ◌∙◌}
use mathlib.Core.List.{List, [], ◌∷◌, ◌++◌}
use mathlib.Core.Bool.{true, false}
use native.Mathlib.Omega.{arith}
use borrow.Author.Tests.{ne_eqb, lt-ltb, le-ltb}
use lib.ListN.{length, take, drop, set}
use lib.Dec.{eqb}
use lib.Seq.{length-take-le}
use Rattle.rules.specs.declared.Refusal.{Refusal}
use Rattle.rules.specs.declared.Refusal.TheVariants.{Length, Room}
use Rattle.std.proofs.Common.{Ok}
use Rattle.rules.specs.declared.WriteAnswer.{WriteAnswer}
use Rattle.rules.specs.Bits.{low_bits, value_from, octets_for, octets_from, pack}
use Rattle.rules.specs.Refusals.{verdict}
use Rattle.rules.specs.Samples.{mask_of}
use Rattle.rules.specs.Tools.{is_length, writer_asks}
use Rattle.rules.specs.Chooses.{Written, Write, declined, chosen, form_of, write_one}
use Rattle.rules.specs.Calls.{Writes}
use Rattle.rules.proofs.Octets.{length-pack}
use Rattle.rules.proofs.Guards.{write_allowed}
use Rattle.write_bits.specs.Puts.{Packed}
use Rattle.write_offers.specs.declared.Choice.{Choice}
use Rattle.write_choice.specs.Plans.{Chosen}
use Rattle.writer.specs.Answers.{Tells, fitting, fitted, pad, full, PutsChosen}

-- a refusal leaves the output as lent
pub refused-writes : {why : Refusal} {r : WriteAnswer} {out : List ℕ} → Tells (declined why) r → Writes (declined why) r out out
unfolding pack octets_from
refused-writes t = record { end = t.end; octets = t.octets; bits = t.bits; tool = t.tool; lent = refl }

pub writes_as : {v w : Write} {r : WriteAnswer} {out out' : List ℕ} → Writes v r out out' → v ≡ w → Writes w r out out'
writes_as {v} {w} {r} {out} {out'} h e = rw e at h

pub no_room : (w : Written) {r : WriteAnswer} {out : List ℕ} → length out < octets_for (length w.bits) → Tells (declined Room) r
    → Writes (fitting (length out) w) r out out
unfolding fitting
no_room w {r} {out} h t = rw (lt-ltb (length out) (octets_for (length w.bits)) h) (refused-writes t)

pub all-written : (w : Written) {r : WriteAnswer} {out out' : List ℕ} {n b t : ℕ} → octets_for (length w.bits) ≤ length out
    → Packed w.bits out out' n → b ≡ length w.bits → t ≡ w.tool → r ≡ record { end = Ok tt; octets = n; bits = b; tool = t }
    → Writes (fitting (length out) w) r out out'
unfolding fitting
all-written w {r} {out} {out'} {n} h p size tool told =
    let k : n ≡ length (pack w.bits) = p.size ∙ sym (length-pack w.bits) in
    rw (le-ltb (length out) (octets_for (length w.bits)) h, told)
    (record { end = refl; octets = p.size; bits = size; tool = tool; lent = p.lent ∙ ap (λ (i : ℕ). pack w.bits ++ drop i out) k })

-- a form by its bits: where the octets for them are no more than the room, it fits and is put, else nothing is
module _ (form : List ℕ) {bits need : ℕ} (size : bits ≡ length form) (octets : need ≡ octets_for bits) where
  pub form-left : {out : List ℕ} → length out < need → out ≡ fitted form out
  unfolding fitted
  form-left {out} h = rw (lt-ltb (length out) (octets_for (length form)) (omega arith)) refl

  pub form-fits : {room : ℕ} → need ≤ room → length form ≤ 8 * room
  form-fits h = omega arith

  pub form-put : {out out' : List ℕ} {n : ℕ} → need ≤ length out → Packed form out out' n → out' ≡ fitted form out
  unfolding fitted
  form-put {out} h p =
      rw (le-ltb (length out) (octets_for (length form)) (omega arith))
      (p.lent ∙ ap (λ (i : ℕ). pack form ++ drop i out) p.size)

-- the same of the form that was chosen
module _ {mask set need : ℕ} {s : List ℕ} {c : Choice} (chosen : Chosen mask set s c) (octets : need ≡ octets_for c.bits) where
  pub chosen-left : {out : List ℕ} → length out < need → PutsChosen mask set s out out c
  chosen-left h = record { chosen = chosen; lent = form-left (full mask set s).bits chosen.bits octets h }

  pub chosen-fits : {room : ℕ} → need ≤ room → length (form_of mask c.tool s) ≤ 8 * room
  chosen-fits h = rw chosen.tool (form-fits (full mask set s).bits chosen.bits octets h)

  pub chosen-put : {out out' : List ℕ} {n : ℕ} → need ≤ length out → Packed (form_of mask c.tool s) out out' n
      → PutsChosen mask set s out out' c
  chosen-put h p =
      record { chosen = chosen; lent = form-put (full mask set s).bits chosen.bits octets h (rw chosen.tool at p) }

-- the answer for what was put so
module _ {mask set need : ℕ} {s out out' : List ℕ} {c : Choice} (p : PutsChosen mask set s out out' c) (kept : length out' ≡ length out)
    (octets : need ≡ octets_for c.bits) where
  abbrev form : List ℕ
  form = (full mask set s).bits

  pub chosen-refused : {r : WriteAnswer} → length out' < need → Tells (declined Room) r
      → Writes (fitting (length out) (full mask set s)) r out out'
  unfolding fitted
  chosen-refused h t =
      let few : length out < octets_for (length form) = omega (arith, p.chosen.bits) in
      let same : out' ≡ out = p.lent ∙ rw (lt-ltb (length out) (octets_for (length form)) few) refl in
      rw same (no_room (full mask set s) few t)

  pub chosen-written : {r : WriteAnswer} → need ≤ length out'
      → r ≡ record { end = Ok tt; octets = need; bits = c.bits; tool = c.tool }
      → Writes (fitting (length out) (full mask set s)) r out out'
  unfolding fitted
  chosen-written h told =
      let room : octets_for (length form) ≤ length out = omega (arith, p.chosen.bits) in
      let put : out' ≡ pack form ++ drop (octets_for (length form)) out
      = p.lent ∙ rw (le-ltb (length out) (octets_for (length form)) room) refl in
      let n : need ≡ octets_for (length form) = octets ∙ ap octets_for p.chosen.bits in
      all-written (full mask set s) room (record { size = n; lent = put ∙ ap (λ (i : ℕ). pack form ++ drop i out) (sym n) })
      p.chosen.bits p.chosen.tool told

pub packed-as : {form form' out out' : List ℕ} {n : ℕ} → Packed form out out' n → form ≡ form' → Packed form' out out' n
packed-as p e = rw e at p

-- one octet 00
pub pad-packed : {out out' : List ℕ} → out' ≡ 0 ∷ drop 1 out → Packed pad.bits out out' 1
unfolding pack octets_from low_bits value_from
pad-packed e = record { size = refl; lent = e }

pub pad-size : octets_for (length pad.bits) ≡ 1
unfolding low_bits
pad-size = refl

pub set_first : (l : List ℕ) → (length l ≡ 0 → ⊥) → set l 0 0 ≡ 0 ∷ drop 1 l
set_first [] n = absurd (n refl)
set_first (x ∷ l) n = refl

-- "Order: LAW, SET, then LENGTH"
module _ (n : ℕ) (samples : List ℕ) (law set room : ℕ) (lawful : verdict (writer_asks law set) ≡ Ok tt) where
  pub write-pad : n ≡ 0 → fitting room pad ≡ write_one n samples law set room
  unfolding fitting chosen
  write-pad h = sym (write_allowed n samples law set room lawful ∙ rw h)

  module _ (some : n ≡ 0 → ⊥) where
    pub write-length : is_length n ≡ false → declined Length ≡ write_one n samples law set room
    write-length h = sym (write_allowed n samples law set room lawful ∙ rw (ne_eqb n 0 some, h))

    pub write-full : is_length n ≡ true → n ≤ length samples → fitting room (full (mask_of law) set (take n samples)) ≡ write_one
        n samples law set room
    unfolding fitting chosen
    write-full h k =
        let none : eqb (length (take n samples)) 0 ≡ false = ne_eqb _ 0 (λ e. some (sym (length-take-le n samples k) ∙ e)) in
        sym (write_allowed n samples law set room lawful ∙ rw (ne_eqb n 0 some, h, none))
