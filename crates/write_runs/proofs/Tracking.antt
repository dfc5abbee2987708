-- Laws of runs as they are found: the highest 1 of a word divides its flags, and a track goes from 1 to 1.
use Prim.Native.Nat.{ℕ, zero, suc, ◌+◌, ◌*◌, ◌-◌, ◌^◌, ◌/◌, ◌%◌, ◌≤◌, ◌<◌}
use mathlib.Core.Path.{◌≡◌, sym, ap, ◌∙◌}
use mathlib.Core.List.{List, [], ◌∷◌, ◌++◌, append-nil, append_assoc}
use mathlib.Core.Bool.{cond}
use native.Mathlib.Omega.{arith}
use native.Mathlib.Numerals.{add-one}
use native.Mathlib.Nat.{add-zero, pow-suc, lt_of_not-le, div-eq_of_lt}
use lib.ListN.{length, get_or, take, set, replicate, length-set}
use lib.Seq.{take-suc, take-suc-set, take-set-le}
use lib.Pow.{pow_mono, shl_exact}
use lib.Dec.{eqb, eqb-suc-zero, lit<}
use Rattle.rules.specs.Bits.{low_bits}
use Rattle.write_scan.specs.Rows.{row_bits}
use Rattle.rules.proofs.Words.{low_bits-split, low_bits-join}
use Rattle.write_scan.proofs.Rows.{zero_bits, row-append}
use Rattle.rules.specs.Runs.{runs_of}
use Rattle.write_runs.specs.declared.Track.{Track}
use Rattle.write_runs.specs.Runs.{RunsAre}
use Rattle.write_runs.specs.Tracks.{TrackIs, Closes, Ends}
use Rattle.write_runs.proofs.Finding.{runs-common, runs_other}

-- the highest 1 of a word, at j counted from the lowest bit: zeros stand before it, and what is left of the word stands after it
pub top_below : (m j w : ℕ) → 2 ^ j ≤ w → w < 2 ^ m → j < m
top_below m j w lo hi = lt_of_not-le (λ (h : m ≤ j). let p : 2 ^ m ≤ 2 ^ j = pow_mono h in absurd (omega arith))

pub top-flags : (m j w : ℕ) → 2 ^ j ≤ w → w < 2 ^ (j + 1) → w < 2 ^ m
    → low_bits m w ≡ replicate (m - (j + 1)) 0 ++ (1 ∷ low_bits j (w - 2 ^ j))
unfolding low_bits
top-flags m j w lo hi fits =
    let below = top_below m j w lo fits in
    let two : 2 ^ (j + 1) ≡ 2 ^ j * 2 = rw add-one (pow-suc 2 j) in
    let less : w - 2 ^ j < 2 ^ j = omega arith in
    let e : m ≡ (m - (j + 1)) + (j + 1) = omega arith in
    let up : w / 2 ^ (j + 1) ≡ 0 = div-eq_of_lt hi in
    let d : w ≡ 1 * 2 ^ j + (w - 2 ^ j) = omega arith in
    let f : 1 + j ≡ j + 1 = omega arith in
    let one : low_bits (j + 1) w ≡ 1 ∷ low_bits j (w - 2 ^ j) = ap (low_bits (j + 1)) d ∙ (rw f at (low_bits-join 1 j 1 (w - 2 ^ j) less)) in
    ap (λ (n : ℕ). low_bits n w) e ∙ low_bits-split (m - (j + 1)) (j + 1) w ∙ rw (up, zero_bits, one)

pub top_left : (j w : ℕ) → 2 ^ j ≤ w → w < 2 ^ (j + 1) → w - 2 ^ j < 2 ^ j
top_left j w lo hi = let two : 2 ^ (j + 1) ≡ 2 ^ j * 2 = rw add-one (pow-suc 2 j) in omega arith

-- a stretch of common places at once
runs-zeros : (z v : ℕ) (l : List ℕ) → runs_of v (replicate z 0 ++ l) ≡ runs_of (v + z) l
runs-zeros zero v l = rw add-zero
runs-zeros (suc z) v l = let e : v + 1 + z ≡ v + suc z = omega arith in runs-common v (replicate z 0 ++ l) ∙ runs-zeros z (v + 1) l ∙ rw e

-- a track: nothing done, common places, a 1, a place that is not its own, and the end
pub track-none : (runs : List ℕ) (t : Track) → t.count ≡ 0 → t.start ≡ 0 → length runs ≡ 321 → TrackIs [] runs t 0
track-none runs t ec es size = record { says = λ rest. rw (ec, es); size = size; few = omega (arith, ec); behind = omega (arith, es) }

module _ {done runs : List ℕ} {t : Track} {p : ℕ} (k : TrackIs done runs t p) where
  pub track-zeros : (z : ℕ) → TrackIs (done ++ replicate z 0) runs t (p + z)
  track-zeros z =
      let e : p + z - t.start ≡ p - t.start + z = omega (arith, k.behind) in
      record {
        says = λ rest.
            rw (e, append_assoc)
            (ap (λ (l : List ℕ). take t.count runs ++ l) (sym (runs-zeros z (p - t.start) rest)) ∙ k.says (replicate z 0 ++ rest));
        size = k.size;
        few = k.few;
        behind = omega (arith, k.behind);
      }

  pub track-one : {r : Track} {runs' : List ℕ} → Closes t p runs r runs' → p < 320 → TrackIs (done ++ (1 ∷ [])) runs' r (p + 1)
  track-one {r} {runs'} c small =
      let v = p - t.start in
      let e : p + 1 - (p + 1) ≡ 0 = omega arith in
      let stored : take (suc t.count) (set runs t.count v) ≡ take t.count runs ++ (v ∷ []) =
      take-suc-set runs t.count v (omega (arith, k.size, k.few, k.behind)) in
      record {
        says = λ rest.
            rw (c.stored, c.count, c.start, e, add-one, stored, append_assoc, append_assoc)
            (ap (λ (l : List ℕ). take t.count runs ++ l) (sym (runs_other v 0 rest)) ∙ k.says (1 ∷ rest));
        size = rw c.stored (length-set runs t.count v ∙ k.size);
        few = omega (arith, c.count, c.start, k.few, k.behind);
        behind = omega (arith, c.start);
      }

  pub track-skip : {r : Track} → r.count ≡ t.count → r.start ≡ t.start + 1 → TrackIs done runs r (p + 1)
  track-skip {r} ec es =
      let e : p + 1 - (t.start + 1) ≡ p - t.start = omega arith in
      record {
        says = λ rest. rw (ec, es, e) (k.says rest);
        size = k.size;
        few = omega (arith, ec, es, k.few);
        behind = omega (arith, es, k.behind);
      }

  pub track-end : {r : ℕ} {runs' : List ℕ} → Ends t p runs r runs' → p ≤ 320 → RunsAre done r runs'
  unfolding runs_of
  track-end {r} {runs'} c most =
      rw (c.count, c.stored) (ends (p - t.start) ((rw append-nil at (k.says []))))
    where
      at : t.count < length runs
      at = omega (arith, k.size, k.few, k.behind, most)

      ends : (v : ℕ) → take t.count runs ++ runs_of v [] ≡ runs_of 0 done
          → RunsAre done (cond (eqb v 0) t.count (t.count + 1)) (set runs t.count v)
      ends zero e =
          record {
            says = take-set-le t.count runs t.count 0 (omega arith) ∙ sym (append-nil _) ∙ e;
            size = length-set runs t.count 0 ∙ k.size;
            few = omega (arith, at, k.size);
          }
      ends (suc v) e =
          rw (eqb-suc-zero v)
          (record {
            says = rw (add-one t.count, take-suc-set runs t.count (suc v) at) e;
            size = length-set runs t.count (suc v) ∙ k.size;
            few = omega (arith, at, k.size);
          })

-- in a word: the flags done, and so many that are still its low bits
pub record InWord (flags runs : List ℕ) (t : Track) (w end : ℕ) : Type 0 where
  pub done : List ℕ
  pub left : ℕ
  pub says : done ++ low_bits left w ≡ flags
  pub track : TrackIs done runs t (end - left)
  pub fits : w < 2 ^ left
  pub within : left ≤ 40

pub in-first : (row runs : List ℕ) (t : Track) (i : ℕ) → i < length row → get_or row i 0 < 2 ^ 40
    → TrackIs (row_bits (take i row)) runs t (40 * i) → InWord (row_bits (take (i + 1) row)) runs t (get_or row i 0) (40 * (i + 1))
unfolding row_bits
in-first row runs t i h small k =
    let e : 40 * (i + 1) - 40 ≡ 40 * i = omega arith in
    record {
      done = row_bits (take i row);
      left = 40;
      says = rw (add-one, take-suc row i 0 h, row-append, append-nil);
      track = rw e k;
      fits = small;
      within = omega arith;
    }

module _ {flags runs : List ℕ} {t : Track} {w end : ℕ} (n : InWord flags runs t w end) where
  pub in_one : (j p : ℕ) {r : Track} {runs' : List ℕ} → 40 ≤ end → end ≤ 320 → 2 ^ j ≤ w → w < 2 ^ (j + 1) → p + (j + 1) ≡ end
      → Closes t p runs r runs' → InWord flags runs' r (w - 2 ^ j) end
  in_one j p {r} {runs'} low most lo hi e c =
      let z = n.left - (j + 1) in
      let below = top_below n.left j w lo n.fits in
      let to : end - n.left + z ≡ p = omega (arith, n.within) in
      let next : end - j ≡ p + 1 = omega arith in
      let here : TrackIs (n.done ++ replicate z 0) runs t p = rw to at (track-zeros n.track z) in
      record {
        done = (n.done ++ replicate z 0) ++ (1 ∷ []);
        left = j;
        says = rw (append_assoc, append_assoc) (rw (top-flags n.left j w lo hi n.fits) at n.says);
        track = rw next (track-one here c (omega arith));
        fits = top_left j w lo hi;
        within = omega (arith, n.within);
      }

  pub in-last : 40 ≤ end → w ≡ 0 → TrackIs flags runs t end
  in-last low e =
      let to : end - n.left + n.left ≡ end = omega (arith, n.within) in
      let all : n.done ++ replicate n.left 0 ≡ flags = rw (← (zero_bits n.left), ← e) n.says in
      rw (to, all) at (track-zeros n.track n.left)

  -- where the highest 1 is
  pub in_place : (j : ℕ) → 40 ≤ end → 2 ^ j ≤ w → (j < 40) × (t.start + (j + 1) ≤ end)
  in_place j low lo =
      let below = top_below n.left j w lo n.fits in
      (omega (arith, n.within), omega (arith, n.track.behind, n.within))

-- a 1 shifted to a place
pub one_at : (j : ℕ) → j < 64 → (1 * 2 ^ j) % 2 ^ 64 ≡ 2 ^ j
one_at j h = shl_exact {a = 1} 1 j 64 (lit< tt) (omega arith) ∙ omega arith

-- below twice a power, as the library's logarithm says it
pub below_next : (j : ℕ) {w : ℕ} → w < 2 * 2 ^ j → w < 2 ^ (j + 1)
below_next j h = rw (add-one, pow-suc 2 j) (omega arith)

-- before the first word
pub row-track-none : (row runs : List ℕ) (t : Track) → t.count ≡ 0 → t.start ≡ 0 → length runs ≡ 321
    → TrackIs (row_bits (take 0 row)) runs t (40 * 0)
unfolding row_bits
row-track-none row runs t ec es size = track-none runs t ec es size
