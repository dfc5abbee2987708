-- The octets of the chosen form of samples, and of an item: the samples that are written for it.
--   item-frame, item-lost, item-loss: an item's octets.     item-most: they are N + 1 at most.     form-few: a form's are 321 at most.
use Prim.Native.Nat.{ℕ, zero, suc, ◌+◌, ◌-◌, ◌≤◌, ◌<◌}
use native.Mathlib.Omega.{arith}
use native.Mathlib.Decide.{ℕ_discrete}
use mathlib.Core.Path.{◌≡◌, refl, sym, ap, ◌∙◌}
use mathlib.Core.List.{List, [], ◌∷◌}
use mathlib.Core.Bool.{Bool, true, false}
use lib.ListN.{length, take, drop, replicate, length-drop, length-replicate}
use lib.Seq.{length-take-le, take_all}
use lib.Dec.{eqb, ltb, lit<}
use lib.IntN.{pos}
use borrow.Author.Tests.{ne_eqb, eqb-true, ltb-true, ltb-false}
use Rattle.rules.specs.Tools.{is_writer_set, is_length}
use Rattle.rules.specs.Samples.{mask_of}
use Rattle.rules.proofs.Octets.{Below, below-replicate}
use Rattle.rules.proofs.Signed.{law-mask}
use Rattle.rules.proofs.Room.{length_most}
use Rattle.rules.proofs.Tests.{or_cases}
use Rattle.promises.proofs.Written.{Frames, full, frames-of, chosen-short}
use Rattle.recording.specs.Items.{loss_from}
use Rattle.recording.specs.Remembered.{lost_octet, plus_plus}
use Rattle.recording.specs.Files.{entry_octets, six_lengths}
use Rattle.recording_write.specs.Cells.{length_in, entry_by}
use Rattle.recording_write.specs.Steps.{form, Quiet, ItemIn}
use Rattle.recording_write.proofs.Cells.{length-frame, taken-frame, entry_frame, entry-loss, length-loss}

-- one of the six lengths that is not 0 is one of the five
pub six-length : (n : ℕ) → (n ≡ 0 → ⊥) → six_lengths n ≡ true → is_length n ≡ true
six-length n h e = rw (ne_eqb n 0 h) at e

-- the samples of an item
module _ (mask set c : ℕ) (samples : List ℕ) where
  pub item-frame : c < loss_from → entry_octets mask set (entry_by c samples) ≡ form mask set (take c samples)
  unfolding form
  item-frame h = rw (entry_frame c h samples) refl

  module _ (h : loss_from ≤ c) where
    pub item-lost : length_in c ≡ 0 → entry_octets mask set (entry_by c samples) ≡ lost_octet ∷ []
    item-lost e = rw (entry-loss c h samples, ← (length-loss c h), e) refl

    pub item-loss : (length_in c ≡ 0 → ⊥) → entry_octets mask set (entry_by c samples) ≡ form mask set (replicate (length_in c) (plus_plus mask))
    unfolding form
    item-loss n = rw (entry-loss c h samples, ← (length-loss c h), ne_eqb (length_in c) 0 n) refl

-- the first of so many
pub take-replicate : (n m x : ℕ) → n ≤ m → take n (replicate m x) ≡ replicate n x
take-replicate zero m x h = refl
take-replicate (suc n) zero x h = absurd (omega arith)
take-replicate (suc n) (suc m) x h = ap (λ l. x ∷ l) (take-replicate n m x (omega arith))

-- the samples that are written for an item: a frame's own, or so many times 0++
pub record For (mask set c : ℕ) (samples s : List ℕ) : Type 0 where
  pub six : six_lengths (length s) ≡ true
  pub octets : entry_octets mask set (entry_by c samples) ≡ form mask set s

six-most : (n : ℕ) → six_lengths n ≡ true → n ≤ 320
six-most n e = or_cases (n ≤ 320) (eqb n 0) (is_length n) e (λ z. omega (arith, eqb-true n 0 z)) (λ l. length_most n l)

module _ (mask set c n : ℕ) (e : n ≡ length_in c) where
  module _ (samples : List ℕ) (from : ℕ) (i : ItemIn (drop from samples) c) (h : c < loss_from) where
    pub frame-end : from ≤ length samples → from + n ≤ length samples
    frame-end k = omega (arith, e, length-frame c h, taken-frame c h, i.inside, length-drop from samples)

    pub frame-for : For mask set c (drop from samples) (take (from + n - from) (drop from samples))
    frame-for =
        let k : from + n - from ≡ c = omega (arith, e, length-frame c h) in
        let size : length (take c (drop from samples)) ≡ c = length-take-le c (drop from samples)
        (omega (arith, taken-frame c h, i.inside)) in
        rw k (record { six = rw size (rw (length-frame c h) at i.allowed); octets = item-frame mask set c (drop from samples) h })

  module _ {samples : List ℕ} (i : ItemIn samples c) {quiet : List ℕ} (q : Quiet mask quiet) where
    loss-samples : take n quiet ≡ replicate n (plus_plus mask)
    loss-samples = rw q (take-replicate n 320 (plus_plus mask) (omega (arith, e, six-most (length_in c) i.allowed)))

    pub loss-end : n ≡ length (take n quiet)
    loss-end = rw loss-samples (sym (length-replicate n (plus_plus mask)))

    pub loss-for : loss_from ≤ c → (n ≡ 0 → ⊥) → For mask set c samples (take n quiet)
    loss-for h z =
        rw (loss-samples, e)
        (record {
          six = rw (length-replicate (length_in c) (plus_plus mask)) i.allowed;
          octets = item-loss mask set c samples h (λ o. z (e ∙ o));
        })

-- "A written frame has 1 to N + 1 octets", and so has a loss
form-most : (law set : ℕ) {s : List ℕ} → is_writer_set set ≡ true → Frames s → length (form (mask_of law) set s) ≤ length s + 1
unfolding form
form-most law set o f = (chosen-short (mask_of law) set o f).most

pub form-few : (law set : ℕ) (s : List ℕ) → is_writer_set set ≡ true → Below 256 s → six_lengths (length s) ≡ true
    → length (form (mask_of law) set s) ≤ 321
form-few law set s o b six =
    let f = rw (take_all (length s) s (omega arith)) at (frames-of (length s) s (omega arith) b six) in
    omega (arith, form-most law set o f, six-most (length s) six)

pub item-most : (law set c : ℕ) (samples : List ℕ) → is_writer_set set ≡ true → Below 256 samples → ItemIn samples c
    → length (entry_octets (mask_of law) set (entry_by c samples)) ≤ suc (length_in c)
item-most law set c samples o b i = go (ltb c loss_from) refl (ℕ_discrete (length_in c) 0)
  where
    go : (t : Bool) → ltb c loss_from ≡ t → Dec (length_in c ≡ 0)
        → length (entry_octets (mask_of law) set (entry_by c samples)) ≤ suc (length_in c)
    go true e d =
        let h = ltb-true c loss_from e in
        let inside : c ≤ length samples = omega (arith, taken-frame c h, i.inside) in
        let f = frames-of c samples inside b (rw (length-frame c h) at i.allowed) in
        let e = ap length (item-frame (mask_of law) set c samples h) in
        omega (arith, e, form-most law set o f, length-take-le c samples inside, length-frame c h)
    go false e (yes z) = omega (arith, ap length (item-lost (mask_of law) set c samples (ltb-false c loss_from e) z))
    go false e (no n) =
        let size = length-replicate (length_in c) (plus_plus (mask_of law)) in
        let f : Frames (replicate (length_in c) (plus_plus (mask_of law)))
        = full {s = replicate (length_in c) (plus_plus (mask_of law))} (rw size (six-length (length_in c) n i.allowed))
        (below-replicate (length_in c) ((law-mask law).octet (pos 1) (lit< tt))) in
        omega (arith, ap length (item-loss (mask_of law) set c samples (ltb-false c loss_from e) n), form-most law set o f, size)
