-- Document 02, R-7: "Every refusal from 1 to 9 gives one bit, counted from 0 at the frame's start". One law for each of its cases:
--   run_at, run-endless     "the first bit of the run's code (RUN)"
--   beyond-at               ".. listed place (PLACE", with Named.rising-is-strict
--   Located.full-listed     "the end of the count bits where D is 0)"
--   group_at                the same of tool 11: the first bit of a V that is too large (the reading of R-14)
--   case_at, method-at      ".. range case (CASE) or method (METHOD)"
--   short-at, align-at      "the first missing bit (SHORT) or wrong filling bit (ALIGN)"
--   prefix-at, tool-at, room_at     "0 for PREFIX, TOOL and ROOM"
use Prim.Native.Nat.{ℕ, suc, ◌+◌, ◌^◌, ◌≤◌, ◌<◌}
use mathlib.Core.Path.{◌≡◌, refl}
use mathlib.Core.List.{List, ◌∷◌}
use mathlib.Core.Bool.{Bool, true, false, ◌&&◌}
use native.Mathlib.Omega.{arith}
use lib.Dec.{leb}
use lib.ListN.{length, get_or}
use borrow.Author.Tests.{lt-ltb, le-ltb, eq-eqb, ne_eqb}
use Rattle.rules.specs.declared.Refusal.TheVariants.{Short, Prefix, Tool, Room, Case, Method, Run, Place, Align}
use Rattle.rules.specs.Tools.{holds}
use Rattle.rules.specs.Reading.{whole, refuse, Reader, bit, number, filled}
use Rattle.rules.specs.First.{unassigned}
use Rattle.rules.specs.Runs.{rice, runs_from}
use Rattle.rules.specs.Located.{values_of, listed_from, by_method, values_into, located}
use Rattle.rules.specs.Fractional.{Coding, groups_from}
use Rattle.rules.specs.Frame.{with_tool, after_first}
use Rattle.rules.proofs.Named.{zeros-end}

and-false : (a : Bool) → (a && false) ≡ false
and-false true = refl
and-false false = refl

module _ (b : List ℕ) (i : ℕ) where
  -- RUN: a run that is too long, and zeros without end
  pub run_at : (n s more left v : ℕ) (done : List ℕ) {j : ℕ} → 0 < left → rice n s b i ≡ whole v j → left < v
      → runs_from n s (suc more) left done b i ≡ refuse Run i
  unfolding runs_from
  run_at n s more left v done o e h = rw (ne_eqb left 0 (λ z. omega arith), e, lt-ltb left v h)

  pub run-endless : (n s : ℕ) → i + (n + 1) ≤ length b → ((j : ℕ) → j < n + 1 → get_or b (i + j) 0 ≡ 0) → rice n s b i ≡ refuse Run i
  unfolding rice
  run-endless n s h z = rw (zeros-end i 0 (n + 1) b i h z)

  -- PLACE: not below D
  pub beyond-at : (w d p count : ℕ) (done : List ℕ) {j : ℕ} → number w b i ≡ whole p j → d ≤ p
      → listed_from w d done (suc count) b i ≡ refuse Place i
  unfolding listed_from
  beyond-at w d p count done e h = rw (e, le-ltb p d h, and-false (leb (length done) p))

  -- and V not below R'^g
  pub group_at : (c : Coding) (v more : ℕ) (done : List ℕ) {j : ℕ} → number c.bits b i ≡ whole v j → c.radix ^ c.group ≤ v
      → groups_from c done (suc more) b i ≡ refuse Place i
  unfolding groups_from
  group_at c v more done e h = rw (e, le-ltb v (c.radix ^ c.group) h)

  -- CASE: of range case, flag and N together
  pub case_at : (mask n c flag : ℕ) {j k : ℕ} → number 2 b i ≡ whole c j → number 1 b j ≡ whole flag k → length (values_of n c flag) ≡ 0
      → located mask n b i ≡ refuse Case i
  unfolding located
  case_at mask n c flag e f h = rw (e, f, eq-eqb (length (values_of n c flag)) 0 h)

  -- METHOD
  pub method-at : (n z x : ℕ) (xs cells : List ℕ) {j : ℕ} → number 3 b i ≡ whole 6 j → values_into n z (x ∷ xs) cells b i ≡ refuse Method i
  unfolding values_into by_method
  method-at n z x xs cells e = rw e

  -- SHORT
  pub short-at : length b ≤ i → bit b i ≡ refuse Short i
  unfolding bit
  short-at h = rw (le-ltb i (length b) h)

  -- ALIGN
  pub align-at : {A : Type 0} (a : A) (n : ℕ) → i < length b → (get_or b i 0 ≡ 0 → ⊥) → filled a (suc n) b i ≡ refuse Align i
  unfolding filled bit
  align-at a n h z = rw (lt-ltb i (length b) h, ne_eqb (get_or b i 0) 0 z)

  -- PREFIX, TOOL and ROOM
  pub prefix-at : (mask set room : ℕ) → after_first mask set room unassigned b i ≡ refuse Prefix 0
  unfolding after_first
  prefix-at mask set room = refl

  pub tool-at : (set room t n : ℕ) (r : Reader (List ℕ)) → holds set t ≡ false → with_tool set room t n r b i ≡ refuse (Tool t) 0
  unfolding with_tool
  tool-at set room t n r h = rw h

  pub room_at : (set room t n : ℕ) (r : Reader (List ℕ)) → holds set t ≡ true → room < n → with_tool set room t n r b i ≡ refuse Room 0
  unfolding with_tool
  room_at set room t n r h l = rw (h, lt-ltb room n l)
