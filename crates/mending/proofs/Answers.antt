-- An answer of the code is the definition's: what a mending would answer, refused (`declined-told`) or told (`answers-as`); a refusal
-- (`declined-as`, `refused_as`), and a greeting that is mended (`mended-as`); its octets are inside the output (`answer-inside`); how its
-- walk stopped (`stop-room`, `stop-other`).
use Prim.Native.Nat.{ℕ, suc, ◌+◌, ◌-◌, ◌≤◌}
use native.Mathlib.Omega.{arith}
use mathlib.Core.Path.{◌≡◌, refl, sym, ap, subst, ◌∙◌}
use mathlib.Core.List.{List, ◌++◌}
use lib.ListN.{length, take, drop, length-append}
use lib.Seq.{length-take-le}
use borrow.Author.Tests.{eq-eqb, ne_eqb}
use Rattle.rules.specs.Refusals.{Ending}
use Rattle.rules.specs.declared.WalkAnswer.{WalkAnswer}
use Rattle.rules.specs.Refusals.{number_of}
use Rattle.rules.specs.Walk.{walk_from, octets_kept}
use Rattle.rules.specs.Calls.{at_start}
use Rattle.text_lines.specs.Puts.{Puts}
use Rattle.text_lines.proofs.Putting.{puts_then, puts_first}
use Rattle.walk.specs.Counting.{Counts}
use Rattle.mending.specs.declared.MendRefusal.{MendRefusal}
use Rattle.std.proofs.Common.{Ok, Err}
use Rattle.mending.specs.declared.MendAnswer.{MendAnswer}
use Rattle.rules.specs.Tools.{all_tools}
use Rattle.mending.specs.Mend.{walk_up_to, filling, mended, Mend, mends, declines}
use Rattle.mending.specs.Calls.{Declines, result_of, Mends}
use Rattle.mending.specs.Why.{stop_number, Answers}
use Rattle.mending.proofs.Kept.{walk-within}
use Rattle.mending.proofs.Ordered.{ends-refused}

pub declined-told : {why : MendRefusal} {r : MendAnswer} {m : Mend} → Declines why r → declines why ≡ m → Answers m r
declined-told {r = r} d e =
    subst (λ (m : Mend). Answers m r) e
    (record {
      end = d.end;
      octets = d.octets;
      frames = d.frames;
      kept = d.kept;
      filled = d.filled;
      stop = d.stop;
      bit = d.bit;
    })

pub declined-as : {why : MendRefusal} {r : MendAnswer} {m : Mend} → Declines why r → declines why ≡ m → (out : List ℕ) → Mends m r out out
declined-as {r = r} d e out =
    subst (λ (m : Mend). Mends m r out out) e
    (record {
      end = d.end;
      octets = d.octets;
      frames = d.frames;
      kept = d.kept;
      filled = d.filled;
      stop = d.stop;
      bit = d.bit;
      lent = refl;
    })

-- a refusal that was told is the mending's
pub refused_as : {o m : Mend} {why : MendRefusal} {r : MendAnswer} → Answers o r → r.end ≡ Err why
    → (o ≡ declines why → declines why ≡ m) → (out : List ℕ) → Mends m r out out
refused_as {o} {m} {why} {r} a e f out =
    let is = ends-refused o (sym a.end ∙ e) in
    let d : Answers (declines why) r = rw is at a in
    subst (λ (m : Mend). Mends m r out out) (f is)
    (record {
      end = d.end;
      octets = d.octets;
      frames = d.frames;
      kept = d.kept;
      filled = d.filled;
      stop = d.stop;
      bit = d.bit;
      lent = refl;
    })

module _ (octets : List ℕ) (law total : ℕ) where
  module _ {r : WalkAnswer} (counted : Counts (walk_from (length octets + 1) octets law all_tools 0 total) r) where
    c : Counts (walk_up_to octets law total) r
    c = let e : length octets + 1 ≡ suc (length octets) = omega arith in rw e at counted

    pub kept-inside : r.octets ≤ length octets
    kept-inside = omega (arith, c.octets, (walk-within (suc (length octets)) octets law all_tools 0 total (omega arith)).octets)

    pub kept-samples : r.samples ≤ total
    kept-samples = omega (arith, c.samples, (walk-within (suc (length octets)) octets law all_tools 0 total (omega arith)).samples)

    walked-is : take r.octets octets ++ filling (total - r.samples) ≡ (mended octets law total).octets
    unfolding mended
    walked-is = rw (c.octets, c.samples) refl

    -- the result's length, before an octet of it is written
    pub result-length : (n : ℕ) → n ≡ length (filling (total - r.samples)) → r.octets + n ≡ length (mended octets law total).octets
    result-length n e =
        sym (ap length (sym walked-is) ∙ length-append (take r.octets octets) (filling (total - r.samples))
        ∙ omega (arith, e, length-take-le r.octets octets kept-inside))

    pub answers-as : {m : Mend} → mends (mended octets law total) ≡ m → {n : ℕ} → n ≡ length (mended octets law total).octets
        → Answers m (record {
          end = Ok tt;
          octets = n;
          frames = r.frames;
          kept = r.octets;
          filled = total - r.samples;
          stop = r.end;
          bit = r.bit;
        })
    unfolding mended
    answers-as e {n} l =
        subst (λ (m : Mend). Answers m
        (record {
          end = Ok tt;
          octets = n;
          frames = r.frames;
          kept = r.octets;
          filled = total - r.samples;
          stop = r.end;
          bit = r.bit;
        })) e
        (record {
          end = refl;
          octets = l;
          frames = c.frames;
          kept = c.octets;
          filled = ap (λ (k : ℕ). total - k) c.samples;
          stop = c.end;
          bit = c.bit;
        })

  -- what is kept is within the greeting
  inside : octets_kept (walk_up_to octets law total).frames ≤ length octets
  inside = omega (arith, (walk-within (suc (length octets)) octets law all_tools 0 total (omega arith)).octets)

  -- a greeting that can be mended, written
  module _ {r : MendAnswer} (a : Answers (mends (mended octets law total)) r) where
    pub told-inside : r.kept ≤ length octets
    unfolding mended
    told-inside = omega (arith, a.kept, inside)

    result-is : take r.kept octets ++ filling r.filled ≡ (mended octets law total).octets
    unfolding mended
    result-is = rw (a.kept, a.filled) refl

    pub told-length : r.octets ≡ r.kept + length (filling r.filled)
    told-length =
        a.octets ∙ ap length (sym result-is) ∙ length-append (take r.kept octets) (filling r.filled)
        ∙ omega (arith, length-take-le r.kept octets told-inside)

    pub mended-as : {m : Mend} → mends (mended octets law total) ≡ m → {out o out' : List ℕ} {to n : ℕ}
        → Puts out 0 (take r.kept octets) o to → Puts o to (filling r.filled) out' n → Mends m r out out'
    mended-as e {out} {o} {out'} {to} {n} p q =
        subst (λ (m : Mend). Mends m r out out') e
        (record {
          end = a.end;
          octets = a.octets;
          frames = a.frames;
          kept = a.kept;
          filled = a.filled;
          stop = a.stop;
          bit = a.bit;
          lent = puts_first (puts_then p q) ∙ ap (λ (x : List ℕ). at_start x out) result-is;
        })

-- what an answer says to be written stands in the output
pub answer-inside : {m : Mend} {r : MendAnswer} {out out' : List ℕ} → Mends m r out out' → r.octets ≤ length out'
answer-inside {m} {r} {out} {out'} a =
    let s = result_of m in
    omega (arith, a.octets, ap length a.lent ∙ length-append s (drop (length s) out))

-- how the walk stopped, its ROOM told as 0
module _ (stop : Ending) {n : ℕ} (e : n ≡ number_of stop) where
  pub stop-room : n ≡ 4 → 0 ≡ stop_number stop
  unfolding stop_number
  stop-room f = rw (← e, eq-eqb n 4 f)

  pub stop-other : (n ≡ 4 → ⊥) → n ≡ stop_number stop
  unfolding stop_number
  stop-other f = rw (← e, ne_eqb n 4 f)
