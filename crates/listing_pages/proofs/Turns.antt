-- The turns of the loop over a page's lines: what is listed so far, and one step more.
use Prim.Native.Nat.{ℕ, ◌+◌, ◌≤◌, ◌<◌, zero-le}
use mathlib.Core.Path.{refl, sym, ap, ◌∙◌}
use mathlib.Core.List.{List, [], ◌++◌, append_assoc}
use Rattle.std.proofs.Common.{Option, Some}
use native.Mathlib.Omega.{arith}
use native.Mathlib.Nat.{lt_of_lt_of_le}
use lib.ListN.{length}
use Rattle.text_lines.proofs.Putting.{puts_then}
use Rattle.listing_pages.specs.declared.Stand.{Stand}
use Rattle.listing_pages.specs.Pages.{Stands, lines_left, steps_left, Lists}

-- nothing is listed
pub lists-none : (stream : List ℕ) (s : Stand) (out : List ℕ) → Stands stream s → Lists stream s out 0 (Some s) out 0
lists-none stream s out a =
    record { text = []; puts = record { says = refl; rest = refl; place = refl; size = refl }; says = refl; stands = a; size = zero-le }

-- one part after another
pub lists-then : {stream : List ℕ} {s s' : Stand} {next : Option Stand} {o o' o'' : List ℕ} {a b c : ℕ}
    → Lists stream s o a (Some s') o' b → Lists stream s' o' b next o'' c → Lists stream s o a next o'' c
lists-then {stream} {next = next} p q =
    record {
      text = p.text ++ q.text;
      puts = puts_then p.puts q.puts;
      says = p.says ∙ ap (λ (l : List ℕ). p.text ++ l) q.says ∙ sym (append_assoc p.text q.text (lines_left stream next));
      stands = q.stands;
      size = omega (arith, q.size, p.puts.size);
    }

-- what holds at each turn
pub record Turn (stream : List ℕ) (s₀ : Stand) (out₀ : List ℕ) (s : Stand) (out : List ℕ) (to : ℕ) : Type 0 where
  pub lists : Lists stream s₀ out₀ 0 (Some s) out to
  pub room : to + 320 ≤ length out
  pub nearer : steps_left stream (Some s) ≤ steps_left stream (Some s₀)

pub turn-then : {stream : List ℕ} {s₀ s : Stand} {next : Option Stand} {out₀ out out' : List ℕ} {to to' : ℕ}
    → Turn stream s₀ out₀ s out to → Lists stream s out to next out' to' → steps_left stream next < steps_left stream (Some s)
    → Lists stream s₀ out₀ 0 next out' to' × steps_left stream next < steps_left stream (Some s₀)
turn-then t q l = (lists-then t.lists q, lt_of_lt_of_le l t.nearer)
