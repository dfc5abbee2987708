-- What the calls report that tell of a store, of settings and of a mending, and change nothing.
use Rattle.std.specs.Prelude.{ℕ, ◌≡◌, List, [], ◌∷◌, length}
use Rattle.rules.specs.Refusals.{tool_named}
use Rattle.store_tell.specs.declared.Entry.{Entry}
use Rattle.store_tell.specs.declared.Sums.{Sums}
use Rattle.store_tell.specs.Calls.{told_number_of, summed_number_of, entry_in, sums_in, info_of, at_of, totals_for}
use Rattle.settings.specs.declared.Settings.{Settings}
use Rattle.std.specs.declared.option.Option.{Option}
use Rattle.settings.specs.Tells.{get_number_of, values_in}
use Rattle.mending.specs.Mend.{Mend}
use Rattle.mending.specs.Calls.{mend_number_of, mend_end, result_of, frames_kept, kept_of, filled_of, stop_of, bit_of}
use Rattle.mending.specs.Why.{stop_number}

-- a greeting: "start, octets, law, samples, marks"; by its place its number before them; zeros where refused
abbrev pub five_of : Entry → List ℕ
five_of e = e.start ∷ e.octets ∷ e.law ∷ e.samples ∷ e.marks ∷ []

pub record InfoReported (number : ℕ) (b t five : List ℕ) (r : ℕ) : Type 0 where
  pub ending : r ≡ told_number_of (info_of b t number)
  pub report : five ≡ five_of (entry_in (info_of b t number))

pub record AtReported (index : ℕ) (b t six : List ℕ) (r : ℕ) : Type 0 where
  pub ending : r ≡ told_number_of (at_of b t index)
  pub report : six ≡ (entry_in (at_of b t index)).number ∷ five_of (entry_in (at_of b t index))

-- "greetings, octets held, octets free, largest gap"
abbrev pub sums_of : Sums → List ℕ
sums_of s = s.greetings ∷ s.held ∷ s.free ∷ s.gap ∷ []

pub record TotalsReported (b t four : List ℕ) (r : ℕ) : Type 0 where
  pub ending : r ≡ summed_number_of (totals_for b t)
  pub report : four ≡ sums_of (sums_in (totals_for b t))

-- "law, set, block, greeting, as they stand"
abbrev pub values_of : Settings → List ℕ
values_of v = v.law ∷ v.set ∷ v.block ∷ v.greeting ∷ []

pub record ValuesReported (k : Option Settings) (four : List ℕ) (r : ℕ) : Type 0 where
  pub ending : r ≡ get_number_of k
  pub report : four ≡ values_of (values_in k)

-- "octets, frames kept, octets kept, samples filled, then how the walk of what is kept stopped: number .., place, tool, bit"; zeros where
-- refused
pub record MendWhyReported (m : Mend) (eight : List ℕ) (r : ℕ) : Type 0 where
  pub number : r ≡ mend_number_of (mend_end m)
  pub report : eight
      ≡ length (result_of m) ∷ frames_kept m ∷ kept_of m ∷ filled_of m ∷ stop_number (stop_of m) ∷ kept_of m ∷ tool_named (stop_of m) ∷ bit_of m ∷ []
