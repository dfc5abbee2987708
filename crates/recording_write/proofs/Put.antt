-- What the writer writes from a place on is put there (`form-put`): it has the room. In a room of its own it is measured
-- (`form-measured`).
use Prim.Native.Nat.{ℕ, ◌+◌, ◌-◌, ◌≤◌}
use native.Mathlib.Omega.{arith}
use mathlib.Core.Path.{◌≡◌, refl, sym, ap, ◌∙◌}
use mathlib.Core.List.{List, ◌++◌, append_assoc}
use mathlib.Core.Bool.{true}
use lib.ListN.{length, take, drop, length-append, length-drop}
use lib.Seq.{drop-drop, take_all, take_at, drop_at, length-take-le}
use borrow.Author.Tests.{le-ltb}
use Rattle.rules.specs.declared.WriteAnswer.{WriteAnswer}
use Rattle.rules.specs.Tools.{is_law, is_writer_set}
use Rattle.rules.specs.Bits.{octets_for}
use Rattle.rules.specs.Samples.{mask_of}
use Rattle.rules.specs.Chooses.{wrote, chosen, write_one}
use Rattle.rules.specs.Calls.{at_start, Writes}
use Rattle.rules.proofs.Octets.{length-pack}
use Rattle.rules.proofs.Lent.{from_on, back_on}
use Rattle.text_lines.specs.Puts.{Puts}
use Rattle.recording.specs.Files.{six_lengths}
use Rattle.recording_write.specs.Steps.{form}

-- octets at the start of what stands from a place on
puts-on : (out x : List ℕ) (at : ℕ) → at + length x ≤ length out → Puts out at x (take at out ++ at_start x (drop at out)) (at + length x)
puts-on out x at h =
    let head = take at out ++ x in
    let tail = drop (at + length x) out in
    let first = length-take-le at out (omega arith) in
    let size : length head ≡ at + length x = length-append (take at out) x ∙ omega arith in
    let is : take at out ++ at_start x (drop at out) ≡ head ++ tail
    = ap (λ t. take at out ++ (x ++ t)) (drop-drop (length x) at out) ∙ sym (append_assoc (take at out) x tail) in
    rw is (record {
      says = take_at head tail (at + length x) size;
      rest = drop_at head tail (at + length x) size;
      place = refl;
      size = length-append head tail ∙ omega (arith, size, length-drop (at + length x) out);
    })

module _ (s : List ℕ) (law set : ℕ) (l : is_law law ≡ true) (o : is_writer_set set ≡ true) (six : six_lengths (length s) ≡ true) where
  -- only ROOM is left to refuse
  all-written : (room : ℕ) → length (form (mask_of law) set s) ≤ room
      → write_one (length s) s law set room ≡ wrote (chosen (mask_of law) set s)
  unfolding write_one form
  all-written room h =
      let bits = (chosen (mask_of law) set s).bits in
      rw (l, o, six, take_all (length s) s (omega arith), le-ltb room (octets_for (length bits)) (omega (arith, length-pack bits))) refl

  lent-form : {r : WriteAnswer} {out last : List ℕ} → Writes (wrote (chosen (mask_of law) set s)) r out last
      → (r.octets ≡ length (form (mask_of law) set s)) × (last ≡ at_start (form (mask_of law) set s) out)
  unfolding form
  lent-form w = (w.octets ∙ sym (length-pack (chosen (mask_of law) set s).bits), w.lent)

  -- written into a room of its own, it is measured
  pub form-measured : (room : List ℕ) {r : WriteAnswer} {last : List ℕ} → length (form (mask_of law) set s) ≤ length room
      → Writes (write_one (length s) s law set (length room)) r room last → r.octets ≡ length (form (mask_of law) set s)
  form-measured room {r} {last} h w = (lent-form {r = r} {out = room} {last = last} (rw (all-written (length room) h) at w)).0

  pub form-put : (at : ℕ) (out last : List ℕ) {r : WriteAnswer} → at + length (form (mask_of law) set s) ≤ length out
      → Writes (write_one (length s) s law set (length (take (length out - at) (drop at out)))) r (take (length out - at) (drop at out)) last
      → Puts out at (form (mask_of law) set s) (take at out ++ (last ++ drop (length out - at) (drop at out))) (at + r.octets)
  form-put at out last {r} h w =
      let v = lent-form {r = r} {out = drop at out} {last = last}
      (rw (from_on out at, length-drop at out, all-written (length out - at) (omega arith)) at w) in
      rw (back_on out at last, v.0, v.1) (puts-on out (form (mask_of law) set s) at h)
