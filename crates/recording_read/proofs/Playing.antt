-- A reading on its way: the items done, put before the reading of the rest, are the whole reading; their sound stands at the output's
-- start, and they as numbers at that of the cells. `play-start`, `play-turn`; where it stops: `play-last`, `play-ended`, `play-full`,
-- `play-refused`.
use Prim.Native.Nat.{ℕ, ◌+◌, ◌-◌, ◌≤◌, ◌<◌}
use native.Mathlib.Omega.{arith}
use native.Mathlib.Numerals.{add-one}
use mathlib.Core.Path.{◌≡◌, refl, sym, ap, subst, ◌∙◌}
use mathlib.Core.List.{List, [], ◌∷◌, ◌++◌, map, append-nil, map-append}
use lib.ListN.{length, take, drop, set, length-map, length-take}
use lib.Seq.{set_split, drop-drop}
use Rattle.rules.specs.declared.Refusal.TheVariants as rules
use Rattle.std.proofs.Common.{Ok, Err}
use Rattle.rules.proofs.Lent.{Lent, lent-start, lent_length, lent-at-start, lent-more}
use Rattle.recording.specs.declared.Refusal.TheVariants.{Frame}
use Rattle.recording.specs.Endings.{Ending}
use Rattle.recording.specs.Items.{Item, Recorded, stopped, items_from, sound_of, sound_in, cell_of}
use Rattle.recording_read.specs.declared.Turn.{Turn}
use Rattle.recording_read.specs.declared.Stop.{Stop}
use Rattle.recording_read.specs.declared.Played.{Played}
use Rattle.recording_read.specs.Turns.{item_step, Turned}
use Rattle.recording_read.specs.Plays.{Plays}
use Rattle.recording_read.proofs.Turning.{Taken, taken, refused, Fits, step_fits}
use Rattle.recording_read.proofs.Steps.{sound_in-more, after, after-before, items-last, items-ended, items-full, items-off, items-one}

-- one cell more
lent-cell : {cells₀ kept cells : List ℕ} {count : ℕ} → Lent cells₀ kept cells count → count < length cells₀ → (x : ℕ)
    → Lent cells₀ (kept ++ (x ∷ [])) (set cells count x) (count + 1)
lent-cell {cells = cells} {count} l h x =
    let n = lent_length l in
    lent-more l (set_split cells count x (omega arith)) (x ∷ []) refl (omega arith)
    (ap (λ (t : List ℕ). x ∷ t) (sym (drop-drop 1 count cells ∙ rw add-one refl)))

-- what a reading answers that stopped at `at`
abbrev pub played_of : Ending → ℕ → ℕ → ℕ → ℕ → Played
played_of end items place samples bit = record { end = end; items = items; place = place; samples = samples; bit = bit }

module _ (octets : List ℕ) (law set' fuel from : ℕ) (out₀ cells₀ : List ℕ) where
  abbrev pub whole : Recorded
  whole = items_from fuel octets law set' from (length out₀) (length cells₀)

  -- so many items are done; the next one stands at `at`, and the output is filled up to `to`
  pub record Playing (out cells buffer : List ℕ) (at to count : ℕ) : Type 0 where
    pub done : List Item
    pub is_whole : whole ≡ after done (items_from (fuel - count) octets law set' at (length out₀ - to) (length cells₀ - count))
    pub few : count ≤ fuel
    pub kept : Lent out₀ (sound_in done) out to
    pub told : Lent cells₀ (map cell_of done) cells count
    pub size : length buffer ≡ 320

  pub play-start : {buffer : List ℕ} → length buffer ≡ 320 → Playing out₀ cells₀ buffer from 0 0
  unfolding sound_in
  play-start h =
      let a : fuel - 0 ≡ fuel = omega arith in
      let b : length out₀ - 0 ≡ length out₀ = omega arith in
      let c : length cells₀ - 0 ≡ length cells₀ = omega arith in
      record { done = []; is_whole = rw (a, b, c); few = omega arith; kept = lent-start out₀; told = lent-start cells₀; size = h }

  module _ {out cells buffer : List ℕ} {at to count : ℕ} (w : Playing out cells buffer at to count) where
    -- where it stops, with no item left
    play-stop : (e : Ending) (bit : ℕ) → items_from (fuel - count) octets law set' at (length out₀ - to)
        (length cells₀ - count) ≡ stopped e at bit → Plays whole (played_of e count at to bit) out₀ out cells₀ cells
    play-stop e bit q =
        subst (λ (x : Recorded). Plays x (played_of e count at to bit) out₀ out cells₀ cells) (sym (w.is_whole ∙ ap (after w.done) q))
        (record {
          end = refl;
          items = rw append-nil (w.told.size ∙ length-map w.done cell_of);
          place = refl;
          samples = rw append-nil w.kept.size;
          bit = refl;
          lent = rw append-nil (lent-at-start w.kept);
          told = rw append-nil (lent-at-start w.told);
        })

    pub play-last : fuel ≤ count → Plays whole (played_of (Ok tt) count at to 0) out₀ out cells₀ cells
    play-last h = play-stop (Ok tt) 0 (items-last octets law set' (fuel - count) at (length out₀ - to) (length cells₀ - count) (omega arith))

    pub play-ended : length octets ≤ at → Plays whole (played_of (Ok tt) count at to 0) out₀ out cells₀ cells
    play-ended h = play-stop (Ok tt) 0 (items-ended octets law set' (fuel - count) at (length out₀ - to) (length cells₀ - count) h)

    pub play-full : count < fuel → at < length octets → length cells ≤ count
        → Plays whole (played_of (Err (Frame rules.Room)) count at to 0) out₀ out cells₀ cells
    play-full g h p =
        play-stop (Err (Frame rules.Room)) 0
        (items-full octets law set' (fuel - count) (fuel - (count + 1)) at (length out₀ - to) (length cells₀ - count) (omega arith) h
        (omega (arith, lent_length w.told)))

    -- an item is looked at
    module _ (g : count < fuel) (h : at < length octets) (p : count < length cells) where
      -- a frame that is refused
      pub play-refused : {stop : Stop} {buffer' : List ℕ} → Turned (item_step octets law set' at (length out - to)) (Err stop) buffer'
          → Plays whole (played_of (Err (Frame stop.why)) count at to stop.bit) out₀ out cells₀ cells
      play-refused {stop} t =
          play-stop (Err (Frame stop.why)) stop.bit
          (items-off octets law set' (fuel - count) (fuel - (count + 1)) at (length out₀ - to) (length cells₀ - count) (omega arith) h
          (omega (arith, lent_length w.told)) stop.why stop.bit (refused (rw (lent_length w.kept) at t)))

      module _ {r : Turn} {buffer' : List ℕ} (t : Turned (item_step octets law set' at (length out - to)) (Ok r) buffer') where
        one : Taken (item_step octets law set' at (length out₀ - to)) r buffer'
        one = taken (rw (lent_length w.kept) at t)

        pub play-fits : (at + r.octets ≤ length octets) × (r.len ≤ length buffer') × (to + r.len ≤ length out)
        play-fits =
            let f = subst (Fits octets at (length out₀ - to)) one.is (step_fits octets law set' at (length out₀ - to) h) in
            let n = ap length one.sounds in (
              f.1,
              omega (arith, n, one.len, length-take r.len buffer'),
              omega (arith, f.2, one.len, lent_length w.kept, w.kept.room),
            )

        pub play-turn : {out' : List ℕ} → out' ≡ take to out ++ (take r.len buffer' ++ drop r.len (drop to out))
            → Playing out' (set cells count r.cell) buffer' (at + r.octets) (to + r.len) (count + 1)
        play-turn {out'} put =
            let i = one.item in
            let next = items-one octets law set' (fuel - count) (fuel - (count + 1)) at (length out₀ - to) (length cells₀ - count)
            (omega arith) h
            (omega (arith, lent_length w.told)) i r.octets (length out₀ - (to + r.len)) (length cells₀ - (count + 1)) one.is
            (omega (arith, one.len)) (omega arith) in
            record {
              done = w.done ++ (i ∷ []);
              is_whole = w.is_whole ∙ ap (after w.done) next ∙ after-before w.done i _;
              few = omega arith;
              kept =
                  rw sound_in-more (lent-more w.kept put (sound_of i) one.len (omega (arith, play-fits.2, lent_length w.kept))
                  (ap (λ (s : List ℕ). s ++ drop r.len (drop to out)) one.sounds
                  ∙ ap (λ (n : ℕ). sound_of i ++ drop n (drop to out)) one.len));
              told =
                  rw (map-append cell_of w.done (i ∷ []), ← one.cell)
                  (lent-cell w.told (omega (arith, lent_length w.told)) r.cell);
              size = t.size;
            }
