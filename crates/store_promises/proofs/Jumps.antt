-- Document 02, R-9, over every store that calls have left (`Keeps`, `all-kept` of Promises), any number and any sample number.
--   `jump-tells`, `all-jumps`: what a jump answers, and when: the result is the one that a whole walk gives, and every sample below the
--   walk's samples has one; of a store after any list of calls from a fresh block.
--   `beyond-only`, `there-one`: BEYOND only where the sample is not below the walk's samples; there is one greeting of a number, with one
--   law.
--   `never-table`, `never-bad`: TABLE and BAD do not arise from calls alone.
use Prim.Native.Nat.{ℕ, ◌≤◌, ◌<◌}
use mathlib.Core.Path.{◌≡◌, refl, sym, ap, subst, ◌∙◌}
use mathlib.Core.List.{List}
use mathlib.Core.Bool.{Bool, true, false}
use native.Mathlib.Omega.{arith}
use native.Mathlib.Decide.{dec_lt}
use borrow.Author.Tests.{le-leb}
use Rattle.store_rows.specs.Limits.{size_of, is_number}
use Rattle.store_rows.specs.Finding.{absent}
use Rattle.store_greeting.specs.Marks.{Note, note_of}
use Rattle.store_notes.specs.Sane.{store_cells}
use Rattle.store_jump.specs.declared.jumping.Refusal.{Refusal}
use Rattle.store_jump.specs.declared.jumping.Refusal.TheVariants.{Number, Absent, Bad, Beyond, Table}
use Rattle.store_jump.specs.declared.jumping.Told.{Told}
use Rattle.store_jump.specs.Jump.{Answer}
use Rattle.std.specs.Prelude.{Ok, Err}
use Rattle.store_jump.specs.Jump.{jump_in, jump_among}
use Rattle.store_jump.specs.Whole.{Named}
use Rattle.store_jump.proofs.Whole.{jump-named}
use Rattle.store_promises.specs.Told.{Call, Store, rows_in, see_all, fresh}
use Rattle.store_promises.specs.Kept.{noted}
use Rattle.store_promises.proofs.Promises.{Keeps, all-kept, here-same}
use Rattle.store_promises.specs.Jumped.{There, samples_in, jump_into, Jumped, unnumbered, unheld, beyond, within}
use Rattle.store_promises.proofs.Pairs.{Stands, stands}

beyond-in : (xs : List ℕ) (n : Note) (sample : ℕ) → n.samples ≤ sample → jump_in xs n sample ≡ Err Beyond
unfolding jump_in
beyond-in xs n sample h = rw (le-leb n.samples sample h)

module _ {size : ℕ} {s : Store} (k : Keeps size s) (x sample : ℕ) where
  pub jump-number : is_number x ≡ false → jump_into s x sample ≡ Err Number
  unfolding jump_among
  jump-number n = rw (k.sane, n)

  module _ (n : is_number x ≡ true) where
    pub jump-absent : absent x (rows_in s) ≡ true → jump_into s x sample ≡ Err Absent
    unfolding jump_among
    jump-absent a = rw (k.sane, n, a)

    module _ (a : absent x (rows_in s) ≡ false) where
      abbrev mine : Stands s x
      mine = stands k x a

      abbrev there : There s x
      there = mine.there

      -- it is a jump in that greeting, with the note that the walk gives
      into : jump_into s x sample ≡ jump_in there.octets (note_of there.law there.octets) sample
      unfolding jump_among
      into = rw (k.sane, n, a, mine.greets, mine.note)

      by-sample : Dec (sample < samples_in there) → Jumped s x sample (jump_into s x sample)
      by-sample (yes l) =
          within n there l (subst (Named there.law there.octets sample) (sym into)
          (jump-named there.law there.octets there.good sample l))
      by-sample (no l) =
          let m : samples_in there ≤ sample = omega arith in
          let e = into ∙ beyond-in there.octets (note_of there.law there.octets) sample m in
          subst (Jumped s x sample) (sym e) (beyond n there m)

  pub jump-tells : Jumped s x sample (jump_into s x sample)
  jump-tells = by (is_number x) refl (absent x (rows_in s)) refl
    where
      by : (n : Bool) → is_number x ≡ n → (a : Bool) → absent x (rows_in s) ≡ a → Jumped s x sample (jump_into s x sample)
      by false n a b = subst (Jumped s x sample) (sym (jump-number n)) (unnumbered n)
      by true n true b = subst (Jumped s x sample) (sym (jump-absent n b)) (unheld n b)
      by true n false b = by-sample n b (dec_lt sample (samples_in (there n b)))

-- ANY LIST OF CALLS
pub all-jumps : (b : List ℕ) (cells : ℕ) (cs : List Call) → store_cells (size_of b) ≤ cells → (x sample : ℕ)
    → Jumped (see_all cs (fresh b cells)) x sample (jump_into (see_all cs (fresh b cells)) x sample)
all-jumps b cells cs h x sample = jump-tells (all-kept b cells cs h) x sample

-- one greeting of a number, with one law
same-note : {m n : Note} → noted m ≡ noted n → m ≡ n
same-note e = cc

pub there-one : {s : Store} {x : ℕ} (g h : There s x) → (g.law ≡ h.law) × (g.octets ≡ h.octets)
there-one g h =
    (ap (λ (n : Note). n.law) (same-note (sym g.knows ∙ h.knows)), here-same (sym g.reads ∙ h.reads))

-- no other answer
not_done : {w : Refusal} {t : Told} {A : Type 0} → Ok t ≡ Err w → A
not_done e = let z : ◌≡◌ {A = ℕ} 0 1 = cc in absurd (omega arith)

pub record Over (s : Store) (x sample : ℕ) : Type 0 where
  pub there : There s x
  pub over : samples_in there ≤ sample

module _ {s : Store} {x sample : ℕ} where
  pub beyond-only : {r : Answer} → Jumped s x sample r → r ≡ Err Beyond → Over s x sample
  beyond-only (unnumbered n) e = let z : ◌≡◌ {A = ℕ} 0 1 = cc in absurd (omega arith)
  beyond-only (unheld n a) e = let z : ◌≡◌ {A = ℕ} 0 1 = cc in absurd (omega arith)
  beyond-only (beyond n g h) e = record { there = g; over = h }
  beyond-only (within n g h w) e = not_done (sym w.answer ∙ e)

  pub never-table : {r : Answer} → Jumped s x sample r → r ≡ Err Table → ⊥
  never-table (unnumbered n) e = let z : ◌≡◌ {A = ℕ} 0 1 = cc in absurd (omega arith)
  never-table (unheld n a) e = let z : ◌≡◌ {A = ℕ} 0 1 = cc in absurd (omega arith)
  never-table (beyond n g h) e = let z : ◌≡◌ {A = ℕ} 0 1 = cc in absurd (omega arith)
  never-table (within n g h w) e = not_done (sym w.answer ∙ e)

  pub never-bad : {r : Answer} → Jumped s x sample r → r ≡ Err Bad → ⊥
  never-bad (unnumbered n) e = let z : ◌≡◌ {A = ℕ} 0 1 = cc in absurd (omega arith)
  never-bad (unheld n a) e = let z : ◌≡◌ {A = ℕ} 0 1 = cc in absurd (omega arith)
  never-bad (beyond n g h) e = let z : ◌≡◌ {A = ℕ} 0 1 = cc in absurd (omega arith)
  never-bad (within n g h w) e = not_done (sym w.answer ∙ e)
