-- A turn of the loop over windows: the first `filled` of d flags are read, and `count` of them are 1.
use Prim.Native.Nat.{ℕ, ◌+◌, ◌-◌, ◌^◌, ◌≤◌, ◌<◌, min}
use mathlib.Core.Path.{◌≡◌, refl, sym, ap, ◌∙◌}
use mathlib.Core.List.{List, [], ◌++◌}
use native.Mathlib.Omega.{arith}
use native.Mathlib.Nat.{sub-zero, mod-eq_of_lt}
use lib.Count.{ones, ones-le}
use lib.ListN.{length, length-append}
use lib.Pow.{pow_pos, pow_mono}
use Rattle.rules.specs.declared.Refusal.{Refusal}
use Rattle.rules.specs.Bits.{low_bits}
use Rattle.rules.specs.Reading.{whole, refuse, number_from, bits_from}
use Rattle.rules.specs.Chooses.{count_of}
use Rattle.rules.proofs.Octets.{Below, none, below-append, low_bits-below, length-low_bits}
use Rattle.read_bits.specs.Outcomes.{got, stop}
use Rattle.read_runs.specs.Flagged.{marked, kinds, Put, MarksCells}
use Rattle.read_runs.proofs.Ones.{count-append}
use Rattle.read_runs.proofs.Puts.{put-none, put_then, put-length, put_first, length-kinds, kinds-append}
use Rattle.read_runs.proofs.Answer.{marks-got, marks-refused}
use Rattle.read_runs.proofs.Windows.{marked-low_bits, window-got, window-refused}

pub record Gathered (bits : List ℕ) (at d common other : ℕ) (old cells : List ℕ) (filled count place : ℕ) : Type 0 where
  pub done : List ℕ
  pub so_far : bits_from [] d bits at ≡ bits_from done (d - filled) bits place
  pub put : Put old 0 (kinds common other done) cells
  pub below : Below 2 done
  pub size : length done ≡ filled
  pub ones : marked done ≡ count
  pub fits : d ≤ 320
  pub before : length old ≡ 320
  pub room : length cells ≡ 320
  pub within : filled ≤ d
  pub few : count ≤ filled
  pub near : place ≤ at + filled

pub gathered_none : (bits : List ℕ) (at d common other : ℕ) (old : List ℕ) → d ≤ 320 → length old ≡ 320
    → Gathered bits at d common other old old 0 0 at
unfolding count_of
gathered_none bits at d common other old f b =
    record {
      done = [];
      so_far = rw sub-zero;
      put = put-none old 0;
      below = none;
      size = refl;
      ones = refl;
      fits = f;
      before = b;
      room = b;
      within = omega arith;
      few = omega arith;
      near = omega arith;
    }

-- a window's number, and how many ones it can have
pub record Small (v : ℕ) : Type 0 where
  pub value : v < 2 ^ 32
  pub ones : ones v ≤ 32

pub window-small : {v n : ℕ} → v ≤ 2 ^ n - 1 → n ≤ 32 → Small v
window-small {v} {n} h k =
    let p : 2 ^ n ≤ 2 ^ 32 = pow_mono {j = 32} k in
    let q : v < 2 ^ 32 = omega (arith, pow_pos n) in
    record { value = q; ones = ones-le 32 v q }

module _ {bits : List ℕ} {at d common other : ℕ} {old cells : List ℕ} {filled count place : ℕ}
    (g : Gathered bits at d common other old cells filled count place) where
  pub gathered-all : d ≤ filled → MarksCells (bits_from [] d bits at) d (at + d) common other old cells (got count place)
  unfolding bits_from
  gathered-all h =
      let w = g.within in
      let s = g.size in
      let e : d - filled ≡ 0 = omega arith in
      let l : length (kinds common other g.done) ≡ d = length-kinds common other g.done ∙ omega arith in
      marks-got (g.so_far ∙ rw e) g.ones (omega arith) g.below (put_first g.put l) g.fits g.before
      (let n = g.near in omega arith)

  module _ {n : ℕ} (w : n ≡ min (d - filled) 32) where
    split : d - filled ≡ n + (d - (filled + n))
    split = omega arith

    pub gathered-refused : {r : Refusal} {b : ℕ} → number_from 0 n bits place ≡ refuse r b
        → MarksCells (bits_from [] d bits at) d (at + d) common other old cells (stop r b)
    gathered-refused e =
        marks-refused g.room (g.so_far ∙ rw split (window-refused bits n (d - (filled + n)) place 0 e g.done))

    pub gathered-turn : Below 2 bits → {v next : ℕ} {new : List ℕ} → number_from 0 n bits place ≡ whole v next → v ≤ 2 ^ n - 1
        → next ≤ place + n
        → Put cells filled (kinds common other (low_bits n v)) new → Gathered bits at d common other old new (filled + n)
        (count + ones v) next
    gathered-turn b {v} {next} {new} e s f l =
        let z = g.within in
        let t = g.few in
        let u = g.near in
        let i = g.fits in
        let y = g.size in
        let j = g.before in
        let k = g.room in
        let c = g.ones in
        let p : v < 2 ^ n = omega (arith, pow_pos n) in
        let o : marked (low_bits n v) ≡ ones v = marked-low_bits n v ∙ ap ones (mod-eq_of_lt p) in
        let q = ones-le n v p in
        let a = length-low_bits n v in
        let x = length-kinds common other g.done in
        let m = length-kinds common other (low_bits n v) in
        record {
          done = g.done ++ low_bits n v;
          so_far = g.so_far ∙ rw split ((window-got bits b n (d - (filled + n)) place 0 e).flags g.done);
          put = put_then g.put (omega arith) (omega arith) l (sym (kinds-append common other g.done (low_bits n v)));
          below = below-append g.below (low_bits-below n v);
          size = simp length-append (omega arith);
          ones = simp count-append (omega arith);
          fits = i;
          before = j;
          room = put-length l (omega arith) ∙ k;
          within = omega arith;
          few = omega arith;
          near = omega arith;
        }
