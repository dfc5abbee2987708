-- A turn of the loop over listed places.
use Prim.Native.Nat.{ℕ, suc, ◌+◌, ◌*◌, ◌-◌, ◌≤◌, ◌<◌}
use mathlib.Core.Path.{◌≡◌, refl, ap, ◌∙◌}
use mathlib.Core.List.{List, [], ◌∷◌, ◌++◌}
use mathlib.Core.Bool.{true, false, ◌&&◌}
use native.Mathlib.Omega.{arith}
use native.Mathlib.Nat.{sub-zero}
use lib.Dec.{leb, ltb}
use lib.ListN.{length, set, replicate, length-append, length-replicate}
use borrow.Author.Tests.{leb-true, ltb-true}
use Rattle.rules.specs.declared.Refusal.{Refusal}
use Rattle.rules.specs.declared.Refusal.TheVariants.{Place}
use Rattle.rules.specs.Reading.{whole, refuse, number_from}
use Rattle.rules.specs.Located.{listed_from}
use Rattle.rules.specs.Chooses.{count_of}
use Rattle.rules.proofs.Tests.{and_left, and_right}
use Rattle.read_bits.specs.Outcomes.{got, stop}
use Rattle.read_runs.specs.Flagged.{marked, Put, MarksCells}
use Rattle.read_runs.proofs.Answer.{marks-refused}
use Rattle.read_runs.proofs.Ones.{marked-run}
use Rattle.read_runs.proofs.Marking.{Marking, marking-none, marking-room, marking-mark, marking-all}

-- so many places are read, the last of them just below `least`
pub record Listing (bits : List ℕ) (at d w count common other : ℕ) (old cells : List ℕ) (least place read : ℕ) : Type 0 where
  pub done : List ℕ
  pub so_far : listed_from w d [] count bits at ≡ listed_from w d done (count - read) bits place
  pub marking : Marking d common other old cells done
  pub size : length done ≡ least
  pub ones : marked done ≡ read
  pub turns : read ≤ count
  pub near : place ≤ at + 9 * read

pub listing_none : (bits : List ℕ) (at : ℕ) {d : ℕ} (w count : ℕ) {common : ℕ} (other : ℕ) {old cells : List ℕ}
    → Put old 0 (replicate d common) cells → d ≤ 320 → length old ≡ 320 → Listing bits at d w count common other cells cells 0 at 0
unfolding count_of
listing_none bits at w count other p f b =
    record {
      done = [];
      so_far = rw sub-zero;
      marking = marking-none other p f b;
      size = refl;
      ones = refl;
      turns = omega arith;
      near = omega arith;
    }

module _ {bits : List ℕ} {at d w count common other : ℕ} {old cells : List ℕ} {least place read : ℕ}
    (f : Listing bits at d w count common other old cells least place read) where
  pub listing-below : {p : ℕ} → (leb least p && ltb p d) ≡ true → (p < length cells) × (p < 320)
  listing-below {p} l =
      let u : p < d = ltb-true p d (and_right (leb least p) (ltb p d) l) in
      let r = marking-room f.marking in
      let k = f.marking.fits in
      (omega arith, omega arith)

  refusal : {r : Refusal} {b : ℕ} → listed_from w d f.done (count - read) bits place ≡ refuse r b
      → MarksCells (listed_from w d [] count bits at) d (at + 36) common other old cells (stop r b)
  refusal e = marks-refused (marking-room f.marking) (f.so_far ∙ e)

  pub listing-all : count ≤ read → count ≤ 4 → MarksCells (listed_from w d [] count bits at) d (at + 36) common other old
      cells (got count place)
  unfolding listed_from
  listing-all h m =
      let t = f.turns in
      let l = f.marking.within in
      let n = f.near in
      let o = f.ones in
      let e : count - read ≡ 0 = omega arith in
      marking-all f.marking (d - length f.done) (omega arith) (f.so_far ∙ rw e) (omega arith) (omega arith)

  module _ (h : read < count) where
    left : count - read ≡ suc (count - (read + 1))
    left = omega arith

    pub listing-refused : {r : Refusal} {b : ℕ} → number_from 0 w bits place ≡ refuse r b
        → MarksCells (listed_from w d [] count bits at) d (at + 36) common other old cells (stop r b)
    unfolding listed_from
    listing-refused e = refusal (rw (left, e))

    module _ {p next : ℕ} (e : number_from 0 w bits place ≡ whole p next) where
      -- "rising, each below D"
      pub listing-falls : (leb least p && ltb p d) ≡ false → MarksCells (listed_from w d [] count bits at) d (at + 36)
          common other old cells (stop Place place)
      unfolding listed_from
      listing-falls l = refusal (rw (left, e, ap (λ (i : ℕ). leb i p && ltb p d) f.size ∙ l))

      pub listing-turn : (leb least p && ltb p d) ≡ true → next ≤ place + w → w ≤ 9
          → Listing bits at d w count common other old (set cells p other) (p + 1) next (read + 1)
      unfolding listed_from
      listing-turn l b n =
          let z = f.size in
          let q : least ≤ p = leb-true least p (and_left (leb least p) (ltb p d) l) in
          let u : p < d = ltb-true p d (and_right (leb least p) (ltb p d) l) in
          let s : length f.done + (p - length f.done) ≡ p = omega arith in
          record {
            done = f.done ++ (replicate (p - length f.done) 0 ++ (1 ∷ []));
            so_far = f.so_far ∙ rw (left, e, ap (λ (i : ℕ). leb i p && ltb p d) z ∙ l);
            marking = rw s at (marking-mark f.marking (p - length f.done) (omega arith));
            size = simp (length-append, length-replicate) (omega arith);
            ones = marked-run f.done (p - length f.done) ∙ ap (λ (x : ℕ). x + 1) f.ones;
            turns = omega arith;
            near = let y = f.near in omega arith;
          }
