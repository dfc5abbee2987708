-- The loop over the codes in one word: some are read, and the word holds the bits after them (InWord). A turn reads one more
-- (in-word-turn), and the loop ends at one that reaches the end of the places (in-word-last) or that the word does not hold whole
-- (in-word-ends).
use Prim.Native.Nat.{ℕ, ◌+◌, ◌*◌, ◌-◌, ◌^◌, ◌/◌, ◌%◌, ◌≤◌, ◌<◌}
use mathlib.Core.Path.{◌≡◌, sym, ap, ◌∙◌}
use mathlib.Core.List.{List}
use Rattle.std.specs.declared.option.Option.TheVariants.{Some, None}
use native.Mathlib.Omega.{arith}
use lib.Count.{count_leading_zeros}
use lib.ListN.{length, set, length-set}
use Rattle.rules.specs.Bits.{bits_of}
use Rattle.rules.specs.Reading.{whole}
use Rattle.rules.specs.Runs.{rice}
use Rattle.read_bits.specs.Windows.{Holds, run_in}
use Rattle.read_bits.proofs.InWord.{holds_on, rice-held}
use Rattle.read_runs.specs.Reached.{Goes_on, ReadsSeveral}
use Rattle.read_runs.proofs.Turn.{run_fits, runs-turn}

-- `good` of the word's `all` bits are left
pub record InWord (octets : List ℕ) (at n s d other : ℕ) (old : List ℕ) (before marks all : ℕ) (new : List ℕ)
    (word good filled count : ℕ) : Type 0 where
  pub goes : Goes_on (bits_of octets) n s d other old before marks at new filled count (at + (all - good))
  pub holds : Holds octets (at + (all - good)) n word good
  pub left : good ≤ all
  pub within : filled ≤ d
  pub from : before ≤ filled
  pub few : count ≤ filled
  pub room : length new ≡ 320

pub in-word-none : (octets : List ℕ) (at n s d other : ℕ) {old : List ℕ} {before marks word good : ℕ}
    → Holds octets at n word good → before ≤ d → marks ≤ before
    → length old ≡ 320 → InWord octets at n s d other old before marks good old word good before marks
in-word-none octets at n s d other {good = good} h w f r =
    let e : at + (good - good) ≡ at = omega arith in
    record { goes = rw e (record { on = λ f. f }); holds = rw e h; left = omega arith; within = w; from = omega arith; few = f; room = r }

module _ {octets : List ℕ} {at n s d other : ℕ} {old : List ℕ} {before marks all : ℕ} {new : List ℕ} {word good filled count : ℕ}
    (i : InWord octets at n s d other old before marks all new word good filled count) where
  -- no code more stands whole in the word
  pub in-word-ends : ReadsSeveral octets n s d other old before marks at new
      (record { filled = filled; count = count; place = at + (all - good); reach = None })
  in-word-ends = record { goes = i.goes; last = tt; from = i.from; room = i.room }

  module _ {zeros v : ℕ} (c : zeros ≡ count_leading_zeros 32 (word / 2 ^ 32)) (h : zeros < 32) (m : s ≤ 9)
      (g : zeros + (s + 1) ≤ good) (e : v ≡ run_in word zeros s) where
    code : rice n s (bits_of octets) (at + (all - good)) ≡ whole v (at + (all - good) + (zeros + (s + 1)))
    code = rice-held octets (at + (all - good)) n s i.holds c h m g
        ∙ ap (λ (x : ℕ). whole x (at + (all - good) + (zeros + (s + 1)))) (sym e)

    -- a run that reaches the end
    pub in-word-last : d ≤ filled + v → ReadsSeveral octets n s d other old before marks at new (record {
      filled = filled;
      count = count;
      place = at + (all - good);
      reach = Some (record { past = filled + v; size = zeros + (s + 1) });
    })
    in-word-last l =
        let w : filled + v - filled ≡ v = omega arith in
        record {
          goes = i.goes;
          last = record { end = l; from = omega arith; code = rw w code; small = omega arith };
          from = i.from;
          room = i.room;
        }

    -- one that does not
    pub in-word-turn : filled + v < d → InWord octets at n s d other old before marks all (set new (filled + v) other)
        (word * 2 ^ (zeros + (s + 1)) % 2 ^ 64) (good - (zeros + (s + 1))) (filled + v + 1) (count + 1)
    in-word-turn l =
        let size = zeros + (s + 1) in
        let b = i.left in
        let k = i.few in
        let y = i.from in
        let p : at + (all - good) + size ≡ at + (all - (good - size)) = omega arith in
        let q : filled + (v + 1) ≡ filled + v + 1 = omega arith in
        let t = run_fits (bits_of octets) n s (d - filled) (at + (all - good)) code (omega arith) in
        record {
          goes = record {
            on =
                λ f. rw (q, p) at (runs-turn (i.goes.on f) (omega arith) t (omega arith) (λ z. omega arith) (omega arith));
          };
          holds = rw p at (holds_on octets (at + (all - good)) n size i.holds g (omega arith));
          left = omega arith;
          within = omega arith;
          from = omega arith;
          few = omega arith;
          room = length-set new (filled + v) other ∙ i.room;
        }
