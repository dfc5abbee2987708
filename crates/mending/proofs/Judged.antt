-- "Refusals, in order: LAW, LONG for the greeting, TOTAL (22) .., LONG for the result, ROOM; a refusal writes nothing": each case of a call
-- with all that is then so (`judged`), a refusal exactly where it is the first that fails (`mend-refused`), what is so of a mended greeting
-- (`made`), of a refusal (`refused-mend`), and no second answer (`only-mend`, `only-why`). What is told without a room is what is mended
-- (`why-as-mend`, `mend-as-why`).
use Prim.Native.Nat.{ℕ, ◌≤◌, ◌<◌}
use native.Mathlib.Omega.{arith}
use mathlib.Core.Path.{◌≡◌, refl, sym, ap, ◌∙◌}
use mathlib.Core.List.{List}
use mathlib.Core.Bool.{true, false}
use mathlib.Core.Logic.{◌↔◌}
use lib.ListN.{length}
use borrow.Author.Tests.{leb-true, leb-false, ltb-true, ltb-false, le-leb, le-ltb}
use Rattle.rules.specs.declared.Refusal.TheVariants.{Room, Law, Long}
use Rattle.rules.specs.Judged.{Asked}
use Rattle.rules.proofs.Judged.{First, by-judged, by-each, judged-refuses}
use Rattle.rules.specs.Tools.{is_law}
use Rattle.rules.specs.Walk.{longest}
use Rattle.promises.proofs.Fits.{Same}
use Rattle.mending.specs.declared.MendRefusal.{MendRefusal}
use Rattle.mending.specs.declared.MendRefusal.TheVariants.{Frame, Total}
use Rattle.mending.specs.declared.MendAnswer.{MendAnswer}
use Rattle.mending.specs.Mend.{Mended, mended, is_total, Mend, mends, declines, mend_asks, mend_of}
use Rattle.mending.specs.Calls.{Declines, Mends, MendGreeting}
use Rattle.mending.specs.Why.{why_of, Answers}
use Rattle.mending.proofs.Ordered.{mendings, why-mends, why-is, mends-it}

-- a greeting that may be mended
pub record Mendable (octets : List ℕ) (law total : ℕ) : Type 0 where
  pub lawful : is_law law ≡ true
  pub short : length octets ≤ longest
  pub whole : is_total total ≡ true

module _ (octets : List ℕ) (law total room : ℕ) where
  abbrev result : List ℕ
  result = (mended octets law total).octets

  pub data Judged : Mend → Type 0 where
    unlawful : is_law law ≡ false → Judged (declines (Frame Law))
    greeting-long : is_law law ≡ true → longest < length octets → Judged (declines (Frame Long))
    no-total : is_law law ≡ true → length octets ≤ longest → is_total total ≡ false → Judged (declines Total)
    result-long : Mendable octets law total → longest < length (mended octets law total).octets → Judged (declines (Frame Long))
    no_room : Mendable octets law total → length (mended octets law total).octets ≤ longest
        → room < length (mended octets law total).octets → Judged (declines (Frame Room))
    well : Mendable octets law total → length (mended octets law total).octets ≤ longest
        → length (mended octets law total).octets ≤ room → Judged (mends (mended octets law total))

  abbrev asks : List (Asked MendRefusal)
  asks = mend_asks octets law total result room

  pub judged : Judged (mend_of octets law total room)
  unfolding mend_of
  judged =
      by-each declines (mends (mended octets law total)) Judged asks (
        unlawful,
        λ p. (
          λ q. greeting-long p (leb-false (length octets) longest q),
          λ q. (
            λ r. no-total p (leb-true (length octets) longest q) r,
            λ r. let may : Mendable octets law total = record { lawful = p; short = leb-true (length octets) longest q; whole = r } in (
              λ s. result-long may (leb-false (length result) longest s),
              λ s. (
                λ t. no_room may (leb-true (length result) longest s) (ltb-true room (length result) t),
                λ t. well may (leb-true (length result) longest s) (ltb-false room (length result) t),
              ),
            ),
          ),
        ),
      )

  -- each refusal exactly where it is the first that fails
  pub mend-refused : (why : MendRefusal) → (mend_of octets law total room ≡ declines why) ↔ First why asks
  unfolding mend_of
  mend-refused why = judged-refuses (mendings (mended octets law total)) asks why

  -- a mended greeting
  pub record Made (m : Mended) : Type 0 where
    pub may : Mendable octets law total
    pub is : mended octets law total ≡ m
    pub short : length m.octets ≤ longest
    pub fits : length m.octets ≤ room

  pub made : {m : Mended} → mend_of octets law total room ≡ mends m → Made m
  unfolding mend_of
  made {m} e =
      by-judged declines (mends (mended octets law total)) (λ x. x ≡ mends m → Made m) asks
      (λ k g. let same : mended octets law total ≡ m = cc in
      record {
        may = record { lawful = k.0; short = leb-true (length octets) longest k.1.0; whole = k.1.1.0 };
        is = same;
        short = rw (← same) (leb-true (length result) longest k.1.1.1.0);
        fits = rw (← same) (ltb-false room (length result) k.1.1.1.1.0);
      })
      (λ why f g. absurd ((mendings m).other why g)) e

  -- and the other way
  pub mends-made : Mendable octets law total → length result ≤ longest → length result ≤ room
      → mend_of octets law total room ≡ mends (mended octets law total)
  unfolding mend_of
  mends-made m s f = rw (
    m.lawful,
    le-leb (length octets) longest m.short,
    m.whole,
    le-leb (length result) longest
        s,
    le-ltb room (length result) f,
  ) refl

-- What is told without a room is what is mended: of a greeting that is mended with any room at all the same, and with room enough it is.
module _ (octets : List ℕ) (law total room : ℕ) {m : Mended} where
  pub why-as-mend : mend_of octets law total room ≡ mends m → why_of octets law total ≡ mends m
  unfolding mend_of
  why-as-mend e =
      by-judged declines (mends (mended octets law total)) (λ o. o ≡ mends m → why_of octets law total ≡ mends m)
      (mend_asks octets law total (mended octets law total).octets room)
      (λ k g. why-is octets law total (k.0, (k.1.0, (k.1.1.0, (k.1.1.1.0, tt)))) ∙ g) (λ w f g. absurd ((mendings m).other w g)) e

  pub mend-as-why : why_of octets law total ≡ mends m → length m.octets ≤ room → mend_of octets law total room ≡ mends m
  mend-as-why e h =
      let met = why-mends octets law total e in
      let same : mends (mended octets law total) ≡ mends m = sym (why-is octets law total met) ∙ e in
      let is : mended octets law total ≡ m = cc in
      sym (mends-it octets law total room met (omega (arith, h, ap (λ (x : Mended). length x.octets) is))) ∙ same

-- "a refusal writes nothing", and tells nothing but itself
pub record Unmended (why : MendRefusal) (r : MendAnswer) (out out' : List ℕ) : Type 0 where
  pub tells : Declines why r
  pub lent : out' ≡ out

pub refused-mend : (octets : List ℕ) (law total : ℕ) (out out' : List ℕ) (r : MendAnswer) (why : MendRefusal)
    → mend_of octets law total (length out) ≡ declines why → MendGreeting octets law total out out' r → Unmended why r out out'
refused-mend octets law total out out' r why e c =
    let d : Mends (declines why) r out out' = rw e at c in
    record {
      tells = record {
        end = d.end;
        octets = d.octets;
        frames = d.frames;
        kept = d.kept;
        filled = d.filled;
        stop = d.stop;
        bit = d.bit;
      };
      lent = d.lent;
    }

-- No second answer fits
same_answer : (r s : MendAnswer) → r.end ≡ s.end → r.octets ≡ s.octets → r.frames ≡ s.frames → r.kept ≡ s.kept
    → r.filled ≡ s.filled → r.stop ≡ s.stop → r.bit ≡ s.bit → r ≡ s
same_answer r s e o f k l t b = λ i. record { end = e i; octets = o i; frames = f i; kept = k i; filled = l i; stop = t i; bit = b i }

pub only-mend : {m : Mend} {r s : MendAnswer} {out o₁ o₂ : List ℕ} → Mends m r out o₁ → Mends m s out o₂ → Same r s o₁ o₂
only-mend {r = r} {s = s} a b =
    record {
      answer =
          same_answer r s (a.end ∙ sym b.end) (a.octets ∙ sym b.octets) (a.frames ∙ sym b.frames) (a.kept ∙ sym b.kept)
          (a.filled ∙ sym b.filled) (a.stop ∙ sym b.stop) (a.bit ∙ sym b.bit);
      lent = a.lent ∙ sym b.lent;
    }

pub only-why : {m : Mend} {r s : MendAnswer} → Answers m r → Answers m s → r ≡ s
only-why {r = r} {s = s} a b =
    same_answer r s (a.end ∙ sym b.end) (a.octets ∙ sym b.octets) (a.frames ∙ sym b.frames) (a.kept ∙ sym b.kept)
    (a.filled ∙ sym b.filled) (a.stop ∙ sym b.stop) (a.bit ∙ sym b.bit)
