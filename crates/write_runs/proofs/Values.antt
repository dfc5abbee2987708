-- Laws of finding the runs of three values in one pass.
use Prim.Native.Nat.{ℕ, zero, suc, ◌+◌, ◌*◌, ◌-◌, ◌^◌, ◌≤◌, ◌<◌}
use mathlib.Core.Path.{◌≡◌, refl, sym, ap, ◌∙◌}
use mathlib.Core.List.{List, [], ◌∷◌, ◌++◌, append-nil, map-append}
use mathlib.Core.Bool.{Bool, true, false, cond}
use native.Mathlib.Omega.{arith}
use native.Mathlib.Numerals.{add-one}
use lib.ListN.{length, get_or, take, drop, replicate, length-drop}
use lib.Seq.{take-suc, take-add, take-take, drop-drop, drop_at, length-take-le}
use lib.Dec.{eqb, eqb→eq}
use borrow.Author.Tests.{eq-eqb, ne_eqb}
use Rattle.rules.specs.Bits.{low_bits}
use Rattle.rules.specs.Chooses.{flags_for, without}
use Rattle.write_scan.specs.Rows.{Gathers}
use Rattle.write_scan.proofs.Rows.{zero_bits}
use Rattle.write_runs.specs.declared.Track.{Track}
use Rattle.write_runs.specs.declared.Tracks.{Tracks}
use Rattle.write_runs.specs.declared.Found.{Found}
use Rattle.write_runs.specs.declared.Sought.{Sought}
use Rattle.write_scan.specs.Looks.{marks_of}
use Rattle.write_runs.specs.Runs.{FoundIs}
use Rattle.write_runs.specs.Tracks.{TrackIs, Closes, Ends, TracksAre, Apart}
use Rattle.write_runs.proofs.Leaving.{without-cons}
use Rattle.write_runs.proofs.Tracking.{top_below, top-flags, top_left, track-none, track-zeros, track-one, track-skip, track-end}

-- samples put together
without-append : (x : ℕ) (l m : List ℕ) → without x (l ++ m) ≡ without x l ++ without x m
unfolding without
without-append x [] m = refl
without-append x (y ∷ l) m =
    without-cons x y (l ++ m) (eqb y x) refl ∙ step (eqb y x) (without-append x l m)
    ∙ ap (λ (k : List ℕ). k ++ without x m) (sym (without-cons x y l (eqb y x) refl))
  where
    step : (b : Bool) → without x (l ++ m) ≡ without x l ++ without x m
        → cond b (without x (l ++ m)) (y ∷ without x (l ++ m)) ≡ cond b (without x l) (y ∷ without x l) ++ without x m
    step true e = e
    step false e = ap (λ (k : List ℕ). y ∷ k) e

-- a value that is not x, n times
flags-stretch : (x v n : ℕ) → eqb v x ≡ false → flags_for x (replicate n v) ≡ replicate n 0
flags-stretch x v zero e = refl
flags-stretch x v (suc n) e = rw (e, flags-stretch x v n e)

without-stretch : (x v n : ℕ) → eqb v x ≡ false → without x (replicate n v) ≡ replicate n v
unfolding without
without-stretch x v zero e = refl
without-stretch x v (suc n) e = without-cons x v (replicate n v) false e ∙ ap (λ (k : List ℕ). v ∷ k) (without-stretch x v n e)

without-passed : (x v n : ℕ) (l : List ℕ) → eqb v x ≡ false → without x (l ++ replicate n v) ≡ without x l ++ replicate n v
without-passed x v n l e = without-append x l (replicate n v) ∙ ap (λ (k : List ℕ). without x l ++ k) (without-stretch x v n e)

without-taken : (x v : ℕ) (l : List ℕ) → eqb v x ≡ true → without x (l ++ (v ∷ [])) ≡ without x l
unfolding without
without-taken x v l e =
    without-append x l (v ∷ []) ∙ ap (λ (k : List ℕ). without x l ++ k) (without-cons x v [] true e) ∙ append-nil (without x l)

-- one track: a value that is not its own, n times; and its own
module _ (x : ℕ) (l : List ℕ) {runs : List ℕ} {t : Track} {p : ℕ} (k : TrackIs (flags_for x l) runs t p) where
  passed : (v n : ℕ) → eqb v x ≡ false → TrackIs (flags_for x (l ++ replicate n v)) runs t (p + n)
  passed v n e =
      let f : flags_for x (l ++ replicate n v) ≡ flags_for x l ++ replicate n 0 =
      map-append (λ y. cond (eqb y x) 1 0) l (replicate n v) ∙ ap (λ (m : List ℕ). flags_for x l ++ m) (flags-stretch x v n e) in
      rw f (track-zeros k n)

  hit : (v : ℕ) {r : Track} {runs' : List ℕ} → eqb v x ≡ true → Closes t p runs r runs' → p < 320
      → TrackIs (flags_for x (l ++ (v ∷ []))) runs' r (p + 1)
  hit v e c small =
      let f : flags_for x (l ++ (v ∷ [])) ≡ flags_for x l ++ (1 ∷ []) =
      map-append (λ y. cond (eqb y x) 1 0) l (v ∷ []) ∙ ap (λ (b : Bool). flags_for x l ++ (cond b 1 0 ∷ [])) e in
      rw f (track-one k c small)

-- the three: a value that is none of theirs, n times
module _ {o : Sought} {p : ℕ} {l a b c : List ℕ} {t : Tracks} (k : TracksAre o l p t a b c) where
  abbrev x : ℕ
  x = o.first

  abbrev y : ℕ
  y = o.second

  abbrev z : ℕ
  z = o.third

  tracks-passed : (v n : ℕ) → eqb v x ≡ false → eqb v y ≡ false → eqb v z ≡ false → TracksAre o (l ++ replicate n v) (p + n) t a b c
  tracks-passed v n ex ey ez =
      let wx = without-passed x v n l ex in
      let wy : without y (without x (l ++ replicate n v)) ≡ without y (without x l) ++ replicate n v =
      ap (without y) wx ∙ without-passed y v n (without x l) ey in
      record {
        first = passed x l k.first v n ex;
        second = rw wx (passed y (without x l) k.second v n ey);
        third = rw wy (passed z (without y (without x l)) k.third v n ez);
      }

  -- one of theirs: the first that it is
  tracks-first : (v : ℕ) {r s u : Track} {a' : List ℕ} → eqb v x ≡ true → p < 320 → Closes t.first p a r a'
      → s.count ≡ t.second.count → s.start ≡ t.second.start + 1 → u.count ≡ t.third.count → u.start ≡ t.third.start + 1
      → TracksAre o (l ++ (v ∷ [])) (p + 1) (record { first = r; second = s; third = u }) a' b c
  tracks-first v ex small close sc ss uc us =
      let wx = without-taken x v l ex in
      record {
        first = hit x l k.first v ex close small;
        second = rw wx (track-skip k.second sc ss);
        third = rw wx (track-skip k.third uc us);
      }

  tracks-second : (v : ℕ) {s u : Track} {b' : List ℕ} → eqb v x ≡ false → eqb v y ≡ true → p < 320 → Closes t.second p b s b'
      → u.count ≡ t.third.count → u.start ≡ t.third.start + 1
      → TracksAre o (l ++ (v ∷ [])) (p + 1) (record { first = t.first; second = s; third = u }) a b' c
  tracks-second v ex ey small close uc us =
      let wx = without-passed x v 1 l ex in
      let wy : without y (without x (l ++ (v ∷ []))) ≡ without y (without x l) = ap (without y) wx ∙ without-taken y v (without x l) ey in
      record {
        first = passed x l k.first v 1 ex;
        second = rw wx (hit y (without x l) k.second v ey close small);
        third = rw wy (track-skip k.third uc us);
      }

  tracks-third : (v : ℕ) {u : Track} {c' : List ℕ} → eqb v x ≡ false → eqb v y ≡ false → eqb v z ≡ true → p < 320
      → Closes t.third p c u c'
      → TracksAre o (l ++ (v ∷ [])) (p + 1) (record { first = t.first; second = t.second; third = u }) a b c'
  tracks-third v ex ey ez small close =
      let wx = without-passed x v 1 l ex in
      let wy : without y (without x (l ++ (v ∷ []))) ≡ without y (without x l) ++ (v ∷ []) = ap (without y) wx
      ∙ without-passed y v 1 (without x l) ey in
      record {
        first = passed x l k.first v 1 ex;
        second = rw wx (passed y (without x l) k.second v 1 ey);
        third = rw wy (hit z (without y (without x l)) k.third v ez close small);
      }

-- the same as the code has it, with the sample at a place
module _ (s : List ℕ) {o : Sought} {i : ℕ} {a b c : List ℕ} {t : Tracks} (h : i < length s) (small : i < 320)
    (k : TracksAre o (take i s) i t a b c) where
  next : take (i + 1) s ≡ take i s ++ (get_or s i 0 ∷ [])
  next = rw add-one (take-suc s i 0 h)

  pub mark-first : {r q u : Track} {a' : List ℕ} → get_or s i 0 ≡ o.first → Closes t.first i a r a'
      → (q.count ≡ t.second.count) × (q.start ≡ t.second.start + 1) → (u.count ≡ t.third.count) × (u.start ≡ t.third.start + 1)
      → TracksAre o (take (i + 1) s) (i + 1) (record { first = r; second = q; third = u }) a' b c
  mark-first e close q u = rw next (tracks-first k (get_or s i 0) (eq-eqb _ _ e) small close q.0 q.1 u.0 u.1)

  pub mark-second : {q u : Track} {b' : List ℕ} → (get_or s i 0 ≡ o.first → ⊥) → get_or s i 0 ≡ o.second → Closes t.second i b q b'
      → (u.count ≡ t.third.count) × (u.start ≡ t.third.start + 1)
      → TracksAre o (take (i + 1) s) (i + 1) (record { first = t.first; second = q; third = u }) a b' c
  mark-second ex e close u = rw next (tracks-second k (get_or s i 0) (ne_eqb _ _ ex) (eq-eqb _ _ e) small close u.0 u.1)

  pub mark-third : {u : Track} {c' : List ℕ} → (get_or s i 0 ≡ o.first → ⊥) → (get_or s i 0 ≡ o.second → ⊥) → get_or s i 0 ≡ o.third
      → Closes t.third i c u c'
      → TracksAre o (take (i + 1) s) (i + 1) (record { first = t.first; second = t.second; third = u }) a b c'
  mark-third ex ey e close = rw next (tracks-third k (get_or s i 0) (ne_eqb _ _ ex) (ne_eqb _ _ ey) (eq-eqb _ _ e) small close)

  pub mark-none : (get_or s i 0 ≡ o.first → ⊥) → (get_or s i 0 ≡ o.second → ⊥) → (get_or s i 0 ≡ o.third → ⊥)
      → TracksAre o (take (i + 1) s) (i + 1) t a b c
  mark-none ex ey ez = rw next (tracks-passed k (get_or s i 0) 1 (ne_eqb _ _ ex) (ne_eqb _ _ ey) (ne_eqb _ _ ez))

-- marks that begin with zeros: so many samples are the common value; and what is behind the first mark
common : (y plus : ℕ) → ◌≡◌ {A = ℕ} (cond (eqb y plus) 0 1) 0 → y ≡ plus
common y plus = by (eqb y plus) refl
  where
    by : (b : Bool) → eqb y plus ≡ b → ◌≡◌ {A = ℕ} (cond b 0 1) 0 → y ≡ plus
    by true q e = eqb→eq y plus (rw q tt)
    by false q e = absurd (omega arith)

marks-zeros : (plus n : ℕ) (l more : List ℕ) → marks_of plus 0 1 l ≡ replicate n 0 ++ more
    → (take n l ≡ replicate n plus) × (marks_of plus 0 1 (drop n l) ≡ more)
marks-zeros plus zero l more e = (refl, e)
marks-zeros plus (suc n) [] more e = let f : 0 ≡ suc (length (replicate n 0 ++ more)) = ap length e in absurd (omega arith)
marks-zeros plus (suc n) (y ∷ l) more e =
    let h : y ≡ plus = common y plus (ap (λ (k : List ℕ). get_or k 0 0) e) in
    let r = marks-zeros plus n l more (ap (drop 1) e) in
    (rw (h, r.0), r.1)

marks-behind : (plus f : ℕ) (l more : List ℕ) → marks_of plus 0 1 l ≡ f ∷ more → marks_of plus 0 1 (drop 1 l) ≡ more
marks-behind plus f [] more e = let g : 0 ≡ suc (length more) = ap length e in absurd (omega arith)
marks-behind plus f (y ∷ l) more e = ap (drop 1) e

drop-take : (m n : ℕ) (l : List ℕ) → m ≤ length l → drop m (take (m + n) l) ≡ take n (drop m l)
drop-take m n l h = rw (take-add m n l) (drop_at (take m l) (take n (drop m l)) m (length-take-le m l h))

-- in a word of a frame: so many samples are still to come, and their marks are its low bits
pub record InSamples (o : Sought) (s : List ℕ) (t : Tracks) (a b c : List ℕ) (w end : ℕ) : Type 0 where
  pub left : ℕ
  pub says : low_bits left w ≡ marks_of o.plus 0 1 (take left (drop (end - left) s))
  pub tracks : TracksAre o (take (end - left) s) (end - left) t a b c
  pub fits : w < 2 ^ left
  pub within : left ≤ 40

pub samples-first : (o : Sought) (s : List ℕ) (t : Tracks) (a b c : List ℕ) (i w : ℕ)
    → Gathers (marks_of o.plus 0 1 (take 40 (drop (40 * i) s))) 40 w
    → TracksAre o (take (40 * i) s) (40 * i) t a b c → InSamples o s t a b c w (40 * (i + 1))
samples-first o s t a b c i w g k =
    let e : 40 * (i + 1) - 40 ≡ 40 * i = omega arith in
    record { left = 40; says = rw e g.says; tracks = rw e k; fits = g.fits; within = omega arith }

module _ {o : Sought} {w end : ℕ} {s a b c : List ℕ} {t : Tracks} (apart : Apart o) (low : 40 ≤ end)
    (n : InSamples o s t a b c w end) where
  abbrev plus : ℕ
  plus = o.plus

  -- the common value so many times more, and the tracks after it
  stretched : (m : ℕ) → take m (drop (end - n.left) s) ≡ replicate m plus
      → TracksAre o (take (end - n.left + m) s) (end - n.left + m) t a b c
  stretched m e =
      rw (take-add (end - n.left) m s, e)
      (tracks-passed n.tracks plus m
      (ne_eqb plus o.first (λ f. apart.first (sym f))) (ne_eqb plus o.second (λ f. apart.second (sym f)))
      (ne_eqb plus o.third (λ f. apart.third (sym f))))

  pub samples-last : w ≡ 0 → TracksAre o (take end s) end t a b c
  samples-last e =
      let to : end - n.left + n.left ≡ end = omega (arith, n.within) in
      let l = take n.left (drop (end - n.left) s) in
      let none : marks_of plus 0 1 l ≡ replicate n.left 0 ++ [] =
      sym n.says ∙ ap (low_bits n.left) e ∙ zero_bits n.left ∙ sym (append-nil _) in
      let all = (marks-zeros plus n.left l [] none).0 in
      rw to at (stretched n.left (sym (take-take n.left n.left _ (omega arith)) ∙ all))

  module _ (j p : ℕ) (lo : 2 ^ j ≤ w) (hi : w < 2 ^ (j + 1)) (e : p + (j + 1) ≡ end) where
    marks : (take (n.left - (j + 1)) (take n.left (drop (end - n.left) s)) ≡ replicate (n.left - (j + 1)) plus)
        × (marks_of plus 0 1 (drop (n.left - (j + 1)) (take n.left (drop (end - n.left) s))) ≡ 1 ∷ low_bits j (w - 2 ^ j))
    marks =
        marks-zeros plus (n.left - (j + 1)) (take n.left (drop (end - n.left) s)) (1 ∷ low_bits j (w - 2 ^ j))
        (sym n.says ∙ top-flags n.left j w lo hi n.fits)

    -- the tracks before the next 1
    pub samples-here : TracksAre o (take p s) p t a b c
    samples-here =
        let below = top_below n.left j w lo n.fits in
        let to : end - n.left + (n.left - (j + 1)) ≡ p = omega (arith, n.within) in
        rw to at (stretched (n.left - (j + 1)) (sym (take-take (n.left - (j + 1)) n.left _ (omega arith)) ∙ marks.0))

    -- and after it
    pub samples-next : {r : Tracks} {a' b' c' : List ℕ} → end ≤ length s → TracksAre o (take (p + 1) s) (p + 1) r a' b' c'
        → InSamples o s r a' b' c' (w - 2 ^ j) end
    samples-next long k =
        let below = top_below n.left j w lo n.fits in
        let m = n.left - (j + 1) in
        let l = drop (end - n.left) s in
        let all : n.left ≡ m + 1 + j = omega arith in
        let to : end - n.left + (m + 1) ≡ end - j = omega (arith, n.within) in
        let at : end - j ≡ p + 1 = omega arith in
        let room : m + 1 ≤ length l = rw length-drop (omega (arith, n.within)) in
        let rest : drop 1 (drop m (take n.left l)) ≡ take j (drop (end - j) s) =
        drop-drop 1 m (take n.left l) ∙ ap (λ (d : ℕ). drop (m + 1) (take d l)) all ∙ drop-take (m + 1) j l room
        ∙ ap (take j) (drop-drop (m + 1) (end - n.left) s ∙ ap (λ (d : ℕ). drop d s) to) in
        record {
          left = j;
          says = sym (marks-behind plus 1 (drop m (take n.left l)) (low_bits j (w - 2 ^ j)) marks.1) ∙ ap (marks_of plus 0 1) rest;
          tracks = rw at k;
          fits = top_left j w lo hi;
          within = omega (arith, n.within);
        }

  -- where the highest 1 is
  pub samples-place : (j : ℕ) → 2 ^ j ≤ w → j < 40
  samples-place j lo = let below = top_below n.left j w lo n.fits in omega (arith, n.within)

-- before the first word, and after the last one
pub tracks-none : (o : Sought) {t : Tracks} {a b c : List ℕ} → (t.first.count ≡ 0) × (t.first.start ≡ 0)
    → (t.second.count ≡ 0) × (t.second.start ≡ 0) → (t.third.count ≡ 0) × (t.third.start ≡ 0)
    → length a ≡ 321 → length b ≡ 321 → length c ≡ 321 → TracksAre o [] 0 t a b c
unfolding without
tracks-none o {t} {a} {b} {c} f s u sa sb sc =
    record {
      first = track-none a t.first f.0 f.1 sa;
      second = track-none b t.second s.0 s.1 sb;
      third = track-none c t.third u.0 u.1 sc;
    }

pub tracks-end : {o : Sought} {p : ℕ} {l a b c a' b' c' : List ℕ} {t : Tracks} {r : Found} → TracksAre o l p t a b c → p ≤ 320
    → Ends t.first p a r.first a' → Ends t.second p b r.second b' → Ends t.third p c r.third c'
    → FoundIs o l r a' b' c'
tracks-end k most f s u =
    record { first = track-end k.first f most; second = track-end k.second s most; third = track-end k.third u most }
