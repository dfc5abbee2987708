-- The tests of a greeting, in the code's order: `bad-empty`, `bad-law`, `bad-long`, `bad-walked`.
use Prim.Native.Nat.{ℕ, ◌+◌, ◌*◌, ◌≤◌, ◌<◌}
use mathlib.Core.Path.{◌≡◌, refl, ◌∙◌}
use mathlib.Core.List.{List}
use mathlib.Core.Bool.{Bool, true, not}
use native.Mathlib.Numerals.{add-one}
use lib.ListN.{length}
use borrow.Author.Tests.{lt-ltb, le-ltb, le-leb, lt-leb}
use Rattle.std.proofs.Common.{Ok, Err}
use Rattle.std.specs.Result.{is_err}
use Rattle.rules.specs.Refusals.{Ending}
use Rattle.rules.specs.Tools.{most_law}
use Rattle.rules.specs.Walk.{walk_from, walk_all, longest}
use Rattle.store_greeting.specs.Bad.{is_done, is_bad, walk_of, store_set}

err-done : (e : Ending) → is_err e ≡ not (is_done e)
err-done (Ok _) = refl
err-done (Err w) = refl

module _ (law : ℕ) (xs : List ℕ) where
  pub bad-empty : length xs < 1 → true ≡ is_bad law xs
  unfolding is_bad
  bad-empty h = rw (lt-ltb (length xs) 1 h)

  pub bad-law : 1 ≤ length xs → most_law < law → true ≡ is_bad law xs
  unfolding is_bad walk_all
  bad-law h l = rw (le-ltb (length xs) 1 h, lt-leb law most_law l)

  -- the walk of a greeting that is not long, from its first octet on
  pub walk-of : law ≤ most_law → length xs ≤ longest → walk_of law xs ≡ walk_from (length xs + 1) xs law store_set 0 (320 * length xs)
  unfolding walk_all
  walk-of l g = rw (le-leb law most_law l, le-leb (length xs) longest g, add-one (length xs))

  module _ (h : 1 ≤ length xs) (l : law ≤ most_law) where
    pub bad-long : longest < length xs → true ≡ is_bad law xs
    unfolding is_bad walk_all
    bad-long g = rw (le-ltb (length xs) 1 h, le-leb law most_law l, lt-leb (length xs) longest g)

    pub bad-walked : {e : Ending} {d : Bool} → length xs ≤ longest → e ≡ (walk_from (length xs + 1) xs law store_set 0 (320 * length xs)).end
        → d ≡ is_err e → d ≡ is_bad law xs
    unfolding is_bad
    bad-walked {e} g f d = rw (le-ltb (length xs) 1 h, walk-of l g, ← f) (d ∙ err-done e)
