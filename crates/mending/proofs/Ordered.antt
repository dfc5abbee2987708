-- The refusals in their order (`no-law`, `too_long`, `no-total`, `result-long`), and a greeting of which the rest is told (`told-it`). What
-- a mending asks is that and then ROOM (`less-room`): so it declines where that does (`mend-declined`), and else by its room (`no_room`,
-- `mends-it`). An ending says which it was (`ends-refused`, `ends-done`, `why-mends`).
use Prim.Native.Nat.{ℕ, ◌≤◌, ◌<◌}
use native.Mathlib.Omega.{arith}
use mathlib.Core.Path.{◌≡◌, refl, sym, ap, ◌∙◌}
use mathlib.Core.List.{List, [], ◌∷◌}
use mathlib.Core.Bool.{true, false}
use lib.ListN.{length}
use lib.Dec.{ltb}
use borrow.Author.Tests.{le-leb, lt-leb, le-ltb, lt-ltb}
use Rattle.rules.specs.declared.Refusal.TheVariants.{Room, Law, Long}
use Rattle.rules.specs.Judged.{bar, judged}
use Rattle.rules.proofs.Judged.{AllMet, by-judged, judged-met, judged-first, judged-refuses, Apart}
use Rattle.rules.specs.Walk.{longest}
use Rattle.mending.specs.declared.MendRefusal.{MendRefusal}
use Rattle.mending.specs.declared.MendRefusal.TheVariants.{Frame, Total}
use Rattle.std.proofs.Common.{Ok, Err}
use Rattle.mending.specs.Mend.{Mended, mended, is_total, Mend, mends, declines, mend_of}
use Rattle.mending.specs.Calls.{mend_end}
use Rattle.mending.specs.Why.{why_asks, why_of}

-- a greeting is mended or it is not
pub mendings : (m : Mended) → Apart declines (mends m)
mendings m = record { other = λ w e. let z : ◌≡◌ {A = ℕ} 0 1 = cc in omega arith; same = λ v w e. cc }

-- an ending says which it was
pub ends-refused : (o : Mend) {v : MendRefusal} → mend_end o ≡ Err v → o ≡ declines v
ends-refused (mends m) e = let z : ◌≡◌ {A = ℕ} 0 1 = cc in absurd (omega arith)
ends-refused (declines w) {v} e = let z : w ≡ v = cc in ap declines z

pub record Mending (o : Mend) : Type 0 where
  pub after : Mended
  pub is : o ≡ mends after

pub ends-done : (o : Mend) → mend_end o ≡ Ok tt → Mending o
ends-done (mends m) e = record { after = m; is = refl }
ends-done (declines w) e = let z : ◌≡◌ {A = ℕ} 0 1 = cc in absurd (omega arith)

module _ (octets : List ℕ) (law total : ℕ) where
  abbrev result : List ℕ
  result = (mended octets law total).octets

  pub no-law : 1 < law → declines (Frame Law) ≡ why_of octets law total
  unfolding why_of
  no-law h = rw (lt-leb law 1 h)

  module _ (g : law ≤ 1) where
    pub too_long : longest < length octets → declines (Frame Long) ≡ why_of octets law total
    unfolding why_of
    too_long h = rw (le-leb law 1 g, lt-leb (length octets) longest h)

    module _ (l : length octets ≤ longest) where
      pub no-total : is_total total ≡ false → declines Total ≡ why_of octets law total
      unfolding why_of
      no-total h = rw (le-leb law 1 g, le-leb (length octets) longest l, h)

      module _ (t : is_total total ≡ true) where
        pub result-long : longest < length (mended octets law total).octets → declines (Frame Long) ≡ why_of octets law total
        unfolding why_of
        result-long h = rw (le-leb law 1 g, le-leb (length octets) longest l, t, lt-leb (length result) longest h)

        pub told-it : length (mended octets law total).octets ≤ longest → mends (mended octets law total) ≡ why_of octets law total
        unfolding why_of
        told-it h = rw (le-leb law 1 g, le-leb (length octets) longest l, t, le-leb (length result) longest h)

  -- all that was asked is so
  pub why-mends : {m : Mended} → why_of octets law total ≡ mends m → AllMet (why_asks octets law total result)
  unfolding why_of
  why-mends {m} e =
      by-judged declines (mends (mended octets law total)) (λ o. o ≡ mends m → AllMet (why_asks octets law total result))
      (why_asks octets law total result) (λ k g. k) (λ w f g. absurd ((mendings m).other w g)) e

  -- and then there is nothing to tell but what is mended
  pub why-is : AllMet (why_asks octets law total result) → why_of octets law total ≡ mends (mended octets law total)
  unfolding why_of
  why-is k = judged-met declines (mends (mended octets law total)) (why_asks octets law total result) k

  module _ (room : ℕ) where
    abbrev last : Mend
    last = judged (bar (Frame Room) (ltb room (length result)) ∷ []) declines (mends (mended octets law total))

    pub less-room : mend_of octets law total room ≡ judged (why_asks octets law total result) declines last
    unfolding mend_of
    less-room = refl

    pub mend-declined : {w : MendRefusal} → why_of octets law total ≡ declines w → declines w ≡ mend_of octets law total room
    unfolding why_of
    mend-declined {w} e =
        sym (less-room ∙ judged-first declines last (why_asks octets law total result)
        ((judged-refuses (mendings (mended octets law total)) (why_asks octets law total result) w).0 e))

    module _ (k : AllMet (why_asks octets law total result)) where
      by-room : mend_of octets law total room ≡ last
      by-room = less-room ∙ judged-met declines last (why_asks octets law total result) k

      pub no_room : room < length (mended octets law total).octets → declines (Frame Room) ≡ mend_of octets law total room
      no_room h = sym (by-room ∙ rw (lt-ltb room (length result) h))

      pub mends-it : length (mended octets law total).octets ≤ room → mends (mended octets law total) ≡ mend_of octets law total room
      mends-it h = sym (by-room ∙ rw (le-ltb room (length result) h))
