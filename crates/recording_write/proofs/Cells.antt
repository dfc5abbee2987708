-- A number of 16 bits, and the entries that all give.
--   given_by_lem: one number, and then the rest.     next-given: what holds of the next number where entries are given.
--   octets-next: the octets of what is given.
use Prim.Native.Nat.{ℕ, ◌-◌, ◌≤◌, ◌<◌}
use native.Mathlib.Omega.{arith}
use mathlib.Core.Path.{◌≡◌, refl, sym, ◌∙◌}
use mathlib.Core.List.{List, [], ◌∷◌, ◌++◌}
use mathlib.Core.Bool.{Bool, true, false, cond}
use lib.ListN.{length, take, drop}
use lib.Dec.{eqb, ltb}
use borrow.Author.Tests.{ne_eqb, lt-leb, le-leb, lt-ltb, le-ltb, ltb-true, ltb-false}
use Rattle.rules.proofs.Tests.{not-length}
use Rattle.recording.specs.Items.{loss_from}
use Rattle.recording.specs.Files.{Entry, frame, loss, entry_octets, entries_octets, six_lengths, Given, given, wrong, with_entry, given_by}
use Rattle.recording_write.specs.Cells.{length_in, taken, entry_by, is_given, entries_of, octets_given}
use Rattle.recording_write.specs.Steps.{ItemIn}

module _ (c : ℕ) where
  module _ (h : c < loss_from) where
    pub length-frame : length_in c ≡ c
    unfolding length_in
    length-frame = rw (lt-ltb c loss_from h) refl

    pub taken-frame : taken c ≡ c
    unfolding taken
    taken-frame = rw (lt-ltb c loss_from h) refl

    pub entry_frame : (samples : List ℕ) → entry_by c samples ≡ frame (take c samples)
    unfolding entry_by
    entry_frame samples = rw (lt-ltb c loss_from h) refl

  module _ (h : loss_from ≤ c) where
    pub length-loss : length_in c ≡ c - loss_from
    unfolding length_in
    length-loss = rw (le-ltb c loss_from h) refl

    pub taken-loss : taken c ≡ 0
    unfolding taken
    taken-loss = rw (le-ltb c loss_from h) refl

    pub entry-loss : (samples : List ℕ) → entry_by c samples ≡ loss (c - loss_from)
    unfolding entry_by
    entry-loss samples = rw (le-ltb c loss_from h) refl

  pub length-le : length_in c ≤ c
  length-le = go (ltb c loss_from) refl
    where
      go : (t : Bool) → ltb c loss_from ≡ t → length_in c ≤ c
      go true e = omega (arith, length-frame (ltb-true c loss_from e))
      go false e = omega (arith, length-loss (ltb-false c loss_from e))

  module _ (h : loss_from ≤ c) where
    no_six : six_lengths c ≡ false
    no_six =
        rw (ne_eqb c 0 (omega arith))
        (sym (not-length c (omega arith) (omega arith) (omega arith) (omega arith) (omega arith)))

-- one number, and then the rest
abbrev onward : ℕ → List ℕ → List ℕ → Given
onward c cells samples =
    cond (six_lengths (length_in c))
    (cond (ltb (length samples) (taken c)) wrong (with_entry (entry_by c samples) (given_by cells (drop (taken c) samples)))) wrong

by-frame : (c : ℕ) (cells samples : List ℕ) → c < loss_from → given_by (c ∷ cells) samples ≡ onward c cells samples
unfolding given_by
by-frame c cells samples h = rw (length-frame c h, taken-frame c h, entry_frame c h samples, lt-leb loss_from c h) refl

by-loss : (c : ℕ) (cells samples : List ℕ) → loss_from ≤ c → given_by (c ∷ cells) samples ≡ onward c cells samples
unfolding given_by
by-loss c cells samples h =
    rw (
      no_six c h,
      length-loss c h,
      taken-loss c h,
      entry-loss c h samples,
      le-leb loss_from c h,
      le-ltb (length samples)
          0 (omega arith),
    ) refl

given_by_lem : (c : ℕ) (cells samples : List ℕ) → given_by (c ∷ cells) samples ≡ onward c cells samples
given_by_lem c cells samples = go (ltb c loss_from) refl
  where
    go : (b : Bool) → ltb c loss_from ≡ b → given_by (c ∷ cells) samples ≡ onward c cells samples
    go true e = by-frame c cells samples (ltb-true c loss_from e)
    go false e = by-loss c cells samples (ltb-false c loss_from e)

-- an entry more changes nothing of that
with-given : (e : Entry) (g : Given) → is_given (with_entry e g) ≡ is_given g
with-given e (given es) = refl
with-given e wrong = refl

with_entries : (e : Entry) (g : Given) → is_given g ≡ true → entries_of (with_entry e g) ≡ e ∷ entries_of g
with_entries e (given es) h = refl
with_entries e wrong h = let z : ◌≡◌ {A = ℕ} 0 1 = cc in absurd (omega arith)

module _ (c : ℕ) (cells samples : List ℕ) where
  pub no_item : six_lengths (length_in c) ≡ false → false ≡ is_given (given_by (c ∷ cells) samples)
  no_item e = rw (given_by_lem c cells samples, e) refl

  module _ (e : six_lengths (length_in c) ≡ true) where
    pub no-samples : length samples < taken c → false ≡ is_given (given_by (c ∷ cells) samples)
    no-samples h = rw (given_by_lem c cells samples, e, lt-ltb (length samples) (taken c) h) refl

    pub given-on : taken c ≤ length samples → is_given (given_by (c ∷ cells) samples) ≡ is_given (given_by cells (drop (taken c) samples))
    given-on h =
        rw (given_by_lem c cells samples, e, le-ltb (length samples) (taken c) h)
        (with-given (entry_by c samples) (given_by cells (drop (taken c) samples)))

  -- where entries are given, the next number is one of them
  pub record Next : Type 0 where
    pub item : ItemIn samples c
    pub on : is_given (given_by cells (drop (taken c) samples)) ≡ true
    pub is : entries_of (given_by (c ∷ cells) samples) ≡ entry_by c samples ∷ entries_of (given_by cells (drop (taken c) samples))

  pub next-given : is_given (given_by (c ∷ cells) samples) ≡ true → Next
  next-given g = go (six_lengths (length_in c)) refl (ltb (length samples) (taken c)) refl
    where
      go : (b : Bool) → six_lengths (length_in c) ≡ b → (d : Bool) → ltb (length samples) (taken c) ≡ d → Next
      go false e d f = let n = no_item e in let z : ◌≡◌ {A = ℕ} 0 1 = cc in absurd (omega arith)
      go true e true f = let n = no-samples e (ltb-true (length samples) (taken c) f) in let z : ◌≡◌ {A = ℕ} 0 1 = cc in
          absurd (omega arith)
      go true e false f =
          let h = ltb-false (length samples) (taken c) f in
          let on = sym (given-on e h) ∙ g in
          record {
            item = record { allowed = e; inside = h };
            on = on;
            is = rw (given_by_lem c cells samples, e, f) (with_entries (entry_by c samples) (given_by cells (drop (taken c) samples)) on);
          }

-- no number more: given where no sample is left
pub none_left : (samples : List ℕ) → is_given (given_by [] samples) ≡ eqb (length samples) 0
unfolding given_by
none_left [] = refl
none_left (x ∷ samples) = sym (ne_eqb (length (x ∷ samples)) 0 (omega arith))

-- the octets of an item, and then those of the rest
pub octets-next : (mask set c : ℕ) (cells samples : List ℕ) → Next c cells samples
    → octets_given mask set (c ∷ cells) samples ≡ entry_octets mask set (entry_by c samples) ++ octets_given mask set cells
    (drop (taken c) samples)
unfolding octets_given entries_octets
octets-next mask set c cells samples n = rw n.is refl

pub octets-none : (mask set : ℕ) (samples : List ℕ) → octets_given mask set [] samples ≡ []
unfolding octets_given entries_octets given_by
octets-none mask set [] = refl
octets-none mask set (x ∷ samples) = refl
