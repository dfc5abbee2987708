-- What each method reads, and one value: its method and its flags.
use Prim.Native.Nat.{ℕ, ◌+◌, ◌≤◌, ◌<◌}
use mathlib.Core.Path.{◌≡◌, refl}
use mathlib.Core.List.{List, []}
use native.Mathlib.Omega.{arith}
use lib.ListN.{length, replicate}
use borrow.Author.Tests.{eq-eqb, ne_eqb, le-leb, lt-leb}
use Rattle.rules.specs.declared.Refusal.TheVariants.{Method}
use Rattle.rules.specs.Reading.{Read, whole, refuse, number_from, bits_from}
use Rattle.rules.specs.Runs.{runs_from}
use Rattle.rules.specs.Located.{width_of, listed_from, listed, by_method}
use Rattle.rules.specs.Chooses.{count_of}
use Rattle.read_bits.specs.Outcomes.{Outcome, got}
use Rattle.read_runs.specs.Flagged.{Put, MarksCells}
use Rattle.read_runs.proofs.Marking.{marking-none, marking-all, marks-filled}
use Rattle.read_located.specs.Valued.{flags_of}

-- the same answer, told of an equal definition, and with more room
pub marks-as : {found equal : Read (List ℕ)} {d near far common other : ℕ} {old new : List ℕ} {r : Outcome}
    → MarksCells equal d near common other old new r → found ≡ equal → near ≤ far → MarksCells found d far common other old new r
marks-as t e k = rw e (record { end = t.end; next = let n = t.next in omega arith; cells = t.cells; room = t.room })

module _ (n d start m : ℕ) (bits : List ℕ) (at : ℕ) where
  pub method-straight : m ≡ 0 → by_method n d start m bits at ≡ bits_from [] d bits at
  unfolding by_method
  method-straight h = rw (eq-eqb m 0 h)

  pub method_runs : 0 < m → m ≤ 4 → by_method n d start m bits at ≡ runs_from n m d d [] bits at
  unfolding by_method
  method_runs h l = rw (ne_eqb m 0 (λ e. omega arith), le-leb m 4 l)

  pub method-none : m ≡ 5 → d ≤ 320 → {common : ℕ} (other : ℕ) {old new : List ℕ} → length old ≡ 320 → Put old 0 (replicate d common) new
      → MarksCells (by_method n d start m bits at) d (at + 105600) common other old new (got 0 at)
  unfolding by_method count_of
  method-none h k other b p =
      marks-filled (marking-all (marking-none other p k b) d (omega arith)
      (rw (ne_eqb m 0 (λ e. omega arith), lt-leb m 4 (omega arith), eq-eqb m 5 h)) refl (omega arith)) p

  pub method-unknown : m ≡ 6 → by_method n d start m bits at ≡ refuse Method start
  unfolding by_method
  method-unknown h = rw (ne_eqb m 0 (λ e. omega arith), lt-leb m 4 (omega arith), ne_eqb m 5 (λ e. omega arith), eq-eqb m 6 h)

  pub method-listed : 6 < m → by_method n d start m bits at ≡ listed d bits at
  unfolding by_method
  method-listed h =
      rw (ne_eqb m 0 (λ e. omega arith), lt-leb m 4 (omega arith), ne_eqb m 5 (λ e. omega arith), ne_eqb m 6 (λ e. omega arith))

-- a value's method is read, and then its flags; a list's length, and then its places
pub method-read : (bits : List ℕ) (at n d : ℕ) {m first near far common other : ℕ} {old new : List ℕ} {r : Outcome}
    → number_from 0 3 bits at ≡ whole m first → MarksCells (by_method n d at m bits first) d near common other old new r → near ≤ far
    → MarksCells (flags_of n d bits at) d far common other old new r
unfolding flags_of
method-read bits at n d e t k = marks-as t (rw e) k

pub list_read : (bits : List ℕ) (at d : ℕ) {less first near far common other : ℕ} {old new : List ℕ} {r : Outcome}
    → number_from 0 2 bits at ≡ whole less first
    → MarksCells (listed_from (width_of d) d [] (less + 1) bits first) d near common other old new r → near ≤ far
    → MarksCells (listed d bits at) d far common other old new r
unfolding listed
list_read bits at d e t k = marks-as t (rw e) k
