-- Document 02, R-4: "the writer's output stays". Its definitions (specs/Chooses) ask nothing of what is left, and did not move.
-- Nor need they: value-location applies only where 0 is at least as frequent as any value, so what is left is never none (`never-none`),
-- and an old reader reads back what is written (`old-reads-written`).
use Prim.Native.Nat.{ℕ, zero, suc, ◌+◌, ◌≤◌}
use native.Mathlib.Omega.{arith}
use mathlib.Core.Path.{◌≡◌, refl, ◌∙◌}
use mathlib.Core.List.{List, [], ◌∷◌, ◌++◌, map}
use mathlib.Core.Bool.{Bool, true, false, cond, not}
use lib.ListN.{length, take}
use lib.Dec.{eqb}
use borrow.Author.Tests.{eqb-true, not-true, le-leb}
use Rattle.rules.specs.Tools.{holds, all_tools, is_writer_set}
use Rattle.rules.specs.Bits.{pack}
use Rattle.rules.specs.Samples.{mask_of, sample_of, plus_zero}
use Rattle.rules.specs.Located.{empty_in, values_of}
use Rattle.rules.specs.Frame.{read_one}
use Rattle.rules.specs.Chooses.{count_of, without, row_number, row_of, located_flag, applies, chosen_tool, Written, chosen, wrote, write_one}
use Rattle.rules.proofs.Octets.{Below}
use Rattle.rules.proofs.Signed.{LawMask, law-mask}
use Rattle.rules.proofs.Each.{Each, nothing, next}
use Rattle.promises.proofs.Frame.{found_at}
use Rattle.promises.proofs.Rows.{locates, zero-occurs, row_apart}
use Rattle.rules.proofs.Chosen.{chosen-usable}
use Rattle.promises.proofs.Written.{Frames, pad, full, frames-of, wrote_by, chosen-pad, chosen-full, back}
use Rattle.promises.proofs.OldReader.{old_tools, old_read, Parts, alike, goes_on, NoZero, old-reader}

-- what is left of a frame once these values are out
unfoldable pub left_after : List ℕ → List ℕ → List ℕ
left_after [] left = left
left_after (x ∷ xs) left = left_after xs (without x left)

-- another value takes no zero with it
zeros-stay : (z x : ℕ) (left : List ℕ) → not (eqb x z) ≡ true → count_of (λ y. eqb y z) (without x left) ≡ count_of (λ y. eqb y z) left
unfolding count_of without
zeros-stay z x [] h = refl
zeros-stay z x (y ∷ left) h = step (eqb y x) (eqb-true y x) (zeros-stay z x left h)
  where
    step : (b : Bool) → (b ≡ true → y ≡ x) → count_of (λ y. eqb y z) (without x left) ≡ count_of (λ y. eqb y z) left
        → count_of (λ y. eqb y z) (elim b [ true ↦ without x left | false ↦ y ∷ without x left ]) ≡ cond (eqb y z) 1
        0 + count_of (λ y. eqb y z) left
    step true e g = rw (e refl, not-true (eqb x z) h) (omega arith)
    step false e g = rw g

count_most : (z : ℕ) (s : List ℕ) → count_of (λ y. eqb y z) s ≤ length s
unfolding count_of
count_most z [] = omega arith
count_most z (y ∷ s) = step (eqb y z) (count_most z s)
  where
    step : (b : Bool) → count_of (λ y. eqb y z) s ≤ length s → cond b 1 0 + count_of (λ y. eqb y z) s ≤ suc (length s)
    step true h = omega arith
    step false h = omega arith

left-some : (z : ℕ) {xs : List ℕ} → Each (λ x. not (eqb x z)) xs → (k : ℕ) (left : List ℕ) → 1 ≤ count_of (λ y. eqb y z) left
    → 1 ≤ length (left_after (take k xs) left)
unfolding left_after
left-some z nothing zero left h = omega (arith, count_most z left)
left-some z nothing (suc k) left h = omega (arith, count_most z left)
left-some z (next g t) zero left h = omega (arith, count_most z left)
left-some z (next {x = x} g t) (suc k) left h = left-some z t k (without x left) (rw (zeros-stay z x left g) h)

-- Why the writer's output stays: of a frame that value-location applies to, something is left after each value
pub never-none : {mask : ℕ} → LawMask mask → {s : List ℕ} → Below 256 s → applies mask 7 s ≡ true
    → (k : ℕ) → 1 ≤ length (left_after (take k (map (sample_of mask) (values_of (length s) (row_number (row_of mask s)) (located_flag mask s)))) s)
never-none {mask} law {s} b a k =
    let l = locates mask s a in
    left-some (plus_zero mask) (row_apart law s l) k s (zero-occurs law b l)

-- the places still empty are the zeros
empty-zeros : (z : ℕ) (s : List ℕ) → empty_in z s ≡ count_of (λ y. eqb y z) s
unfolding empty_in count_of
empty-zeros z [] = refl
empty-zeros z (y ∷ s) = rw (empty-zeros z s)

-- a frame that is written with tool 7 has a zero
written-zero : (law set : ℕ) {s : List ℕ} → is_writer_set set ≡ true → Frames s
    → NoZero (mask_of law) (record { tool = (chosen (mask_of law) set s).tool; samples = s; bits = 0 }) → ⊥
written-zero law set o pad z = let e = z.seven in omega (arith, (rw (chosen-pad (mask_of law) set) at e))
written-zero law set {s} o (full l b) z =
    let mask = mask_of law in
    let u = chosen-usable mask set s o in
    let t : chosen_tool mask set s ≡ 7 = rw (chosen-full mask set s l) at z.seven in
    omega (arith, z.full, empty-zeros (plus_zero mask) s, zero-occurs (law-mask law) b (locates mask s (rw t at u.fits)))

-- What is written, an old reader reads back too: `Written.back` word for word, by document 01's rule
pub old-reads-written : (n : ℕ) (samples : List ℕ) (law set room : ℕ) (w : Written) → n ≤ length samples → Below 256 samples
    → write_one n samples law set room ≡ wrote w
    → (reader room' : ℕ) (more : List ℕ) → reader ≤ old_tools → (1 ≤ w.tool → holds reader w.tool ≡ true) → n ≤ room'
    → old_read (pack w.bits ++ more) law reader room' ≡ found_at w.tool (take n samples) (length w.bits)
old-reads-written n samples law set room w h b e reader room' more i held r =
    go (old-reader (pack w.bits ++ more) law reader room' i)
  where
    new : read_one (pack w.bits ++ more) law reader room' ≡ found_at w.tool (take n samples) (length w.bits)
    new = back n samples law set room w h b e reader room' more (le-leb reader all_tools (omega arith)) held r

    go : Parts (NoZero (mask_of law)) (old_read (pack w.bits ++ more) law reader room') (read_one (pack w.bits ++ more) law reader room')
        → old_read (pack w.bits ++ more) law reader room' ≡ found_at w.tool (take n samples) (length w.bits)
    go (alike x) = x ∙ new
    go (goes_on at x y) =
        let z = (rw new at y).1 in
        let d = wrote_by n samples law set room w e in
        absurd (written-zero law set d.odd (frames-of n samples h b d.allowed)
        (record { seven = rw d.is z.seven; full = z.full }))
