-- What is put out: the samples of an accepted frame fit the room and the frame, and stand at the start of the output.
use Prim.Native.Nat.{ℕ, ◌+◌, ◌-◌, ◌≤◌, zero-le}
use mathlib.Core.Path.{◌≡◌, refl, sym, ap, ◌∙◌}
use mathlib.Core.List.{List, ◌++◌}
use mathlib.Core.Bool.{true, ◌||◌}
use native.Mathlib.Omega.{arith}
use lib.Dec.{eqb}
use lib.ListN.{length, take, drop, replicate, length-append, length-replicate, replicate-append-replicate}
use lib.Seq.{take-append_seam, drop_at}
use borrow.Author.Tests.{eqb-true}
use Rattle.rules.specs.Tools.{is_length}
use Rattle.rules.specs.Reading.{Read, whole, refuse}
use Rattle.rules.specs.Frame.{Found, read_one}
use Rattle.rules.specs.Calls.{read_samples, IsFrame}
use Rattle.rules.proofs.Tests.{or_cases}
use Rattle.rules.proofs.Room.{length_most}
use Rattle.rules.proofs.Accepted.{read-accepts}
use Rattle.reader.specs.declared.Report.{Report}
use Rattle.reader.specs.Answers.{ReadsInto}

at-most-320 : (n : ℕ) → (eqb n 0 || is_length n) ≡ true → n ≤ 320
at-most-320 n h =
    or_cases (n ≤ 320) (eqb n 0) (is_length n) h
    (λ e. omega (arith, eqb-true n 0 e))
    (λ e. length_most n e)

pub samples-fit : (octets : List ℕ) (law set room : ℕ)
    → (length (read_samples (read_one octets law set room)) ≤ 320) × (length (read_samples (read_one octets law set room)) ≤ room)
samples-fit octets law set room = go (read_one octets law set room) refl
  where
    go : (m : Read Found) → read_one octets law set room ≡ m → (length (read_samples m) ≤ 320) × (length (read_samples m) ≤ room)
    go (whole f j) e =
        let a = read-accepts octets law set room e in
        (at-most-320 (length f.samples) a.size, a.fits)
    go (refuse w at) e = (zero-le, zero-le)

-- the frame of what was put out
module _ {found : Read Found} {r : Report} {out out' : List ℕ} (t : ReadsInto found r out out') where
  pub out-has : length (read_samples found) ≤ length out'
  out-has = let e = ap length t.lent ∙ length-append (read_samples found) (drop (length (read_samples found)) out) in omega arith

  pub frame-of : {samples : List ℕ} → length (read_samples found) ≤ 320 → samples ≡ take r.len out' ++ drop r.len (replicate 320 0)
      → IsFrame (read_samples found) (record { samples = samples; len = r.len })
  frame-of {samples} h e =
      let s = read_samples found in
      let k : length s + (320 - length s) ≡ 320 = omega arith in
      let z : replicate {A = ℕ} 320 0 ≡ replicate (length s) 0 ++ replicate (320 - length s) 0 =
      sym (replicate-append-replicate (length s) (320 - length s) 0 ∙ ap (λ (n : ℕ). replicate n 0) k)
      in
      let d : drop (length s) (replicate {A = ℕ} 320 0) ≡ replicate (320 - length s) 0 =
      ap (drop (length s)) z ∙ drop_at (replicate (length s) 0) (replicate (320 - length s) 0) (length s) (length-replicate (length s) 0)
      in
      record { len = t.tells.len; samples = e ∙ rw (t.tells.len, t.lent, take-append_seam, d) }
