-- Which numbers are those of refusals.
use native.Mathlib.Omega.{arith}
use mathlib.Core.Path.{◌≡◌, refl}
use mathlib.Core.Bool.{Bool, true, false, cond}
use lib.Dec.{eqb}
use borrow.Author.Tests.{eq-eqb, ne_eqb}
use Rattle.rules.specs.declared.Refusal.{Refusal}
use Rattle.rules.specs.declared.Refusal.TheVariants.{Short, Prefix, Tool, Room, Case, Method, Run, Place, Align, Length, Set, Law, Long}
use Rattle.rules.specs.Refusals.{Ending}
use Rattle.std.proofs.Common.{Ok, Err}
use Rattle.rules.specs.Refusals.{refusal_number, number_of}
use Rattle.tool_packing.specs.SoundParts.{number_for}

-- the number 0 is that of no refusal
pub number-done : (e : Ending) → number_of e ≡ 0 → e ≡ Ok tt
number-done (Ok _) h = refl
number-done (Err w) h = refused w h
  where
    refused : (w : Refusal) → refusal_number w ≡ 0 → ◌≡◌ {A = Ending} (Err w) (Ok tt)
    refused Short h = absurd (omega arith)
    refused Prefix h = absurd (omega arith)
    refused (Tool t) h = absurd (omega arith)
    refused Room h = absurd (omega arith)
    refused Case h = absurd (omega arith)
    refused Method h = absurd (omega arith)
    refused Run h = absurd (omega arith)
    refused Place h = absurd (omega arith)
    refused Align h = absurd (omega arith)
    refused Length h = absurd (omega arith)
    refused Set h = absurd (omega arith)
    refused Law h = absurd (omega arith)
    refused Long h = absurd (omega arith)

-- ROOM is LONG, and nothing else is changed
pub room-is-long : (e : Ending) → number_of e ≡ 4 → 13 ≡ number_for e
room-is-long e h = rw (eq-eqb (number_of e) 4 h) refl

pub others-stay : (e : Ending) → (number_of e ≡ 4 → ⊥) → number_of e ≡ number_for e
others-stay e h = rw (ne_eqb (number_of e) 4 h) refl

pub for-done : (e : Ending) → number_for e ≡ 0 → e ≡ Ok tt
for-done e h = number-done e (go (eqb (number_of e) 4) h)
  where
    go : (b : Bool) → cond b 13 (number_of e) ≡ 0 → number_of e ≡ 0
    go true h = absurd (omega arith)
    go false h = h
