-- Room that is enough: a frame has at most one octet more than samples, so 40 samples need at most 41 octets (stream-most), and packing in
-- more room than a part can need gives the same (put-enough).
use Prim.Native.Nat.{ℕ, zero, suc, ◌+◌, ◌*◌, ◌-◌, ◌≤◌}
use native.Mathlib.Omega.{arith}
use mathlib.Core.Path.{◌≡◌, refl, ap}
use mathlib.Core.List.{List, [], ◌∷◌}
use mathlib.Core.Bool.{Bool, true, false, cond}
use lib.ListN.{length, take, drop, length-append, length-drop}
use lib.Seq.{length-take-le}
use lib.Dec.{eqb}
use borrow.Author.Tests.{eqb-false, le-ltb}
use Rattle.rules.specs.Refusals.{Ending}
use Rattle.rules.specs.Tools.{is_writer_set}
use Rattle.rules.specs.Samples.{mask_of}
use Rattle.rules.proofs.Tests.{by_length}
use Rattle.rules.proofs.Octets.{Below, below-take, below-drop}
use Rattle.promises.proofs.Written.{Frames, full, chosen-short}
use Rattle.tool_packing.specs.Cuts.{next_length, cuts_from, cuts}
use Rattle.tool_packing.specs.Packing.{form_octets, stream_of, before, put_all}
use Rattle.tool_packing.proofs.Lengths.{next_fits}

-- a frame has at most one octet more than samples, and 40 samples at least
form-most : (law set : ℕ) {s : List ℕ} → is_writer_set set ≡ true → Frames s → length (form_octets law set s) ≤ length s + 1
unfolding form_octets
form-most law set o f = (chosen-short (mask_of law) set o f).most

most-from : (a law set n : ℕ) {s : List ℕ} → is_writer_set set ≡ true → Below 256 s
    → 40 * length (stream_of law set (cuts_from a n s)) ≤ 41 * length s
unfolding cuts_from stream_of
most-from zero law set n o b = omega arith
most-from (suc a) law set n {s} o b =
    let l = next_length n (length s) in
    go l refl (eqb l 0) refl (most-from a law set n o (below-drop l b))
  where
    go : (l : ℕ) → l ≡ next_length n (length s) → (t : Bool) → eqb l 0 ≡ t
        → 40 * length (stream_of law set (cuts_from a n (drop l s))) ≤ 41 * length (drop l s)
        → 40 * length (stream_of law set (cond t [] (take l s ∷ cuts_from a n (drop l s)))) ≤ 41 * length s
    go l q true e ih = omega arith
    go l q false e ih =
        let z = eqb-false l 0 e in
        let f = next_fits n (length s) l q (omega (arith, z)) in
        let first = take l s in
        let size : length first ≡ l = length-take-le l s f.within in
        let fs : Frames first = full {s = first} (rw size f.allowed) (below-take l b) in
        let some : 40 ≤ l = by_length (λ n. 40 ≤ n) (omega arith) (omega arith) (omega arith) (omega arith) (omega arith) l f.allowed in
        let rest = stream_of law set (cuts_from a n (drop l s)) in
        omega (arith, ih, some, size, f.within, length-drop l s, form-most law set o fs, length-append (form_octets law set first) rest)

pub stream-most : (law set n : ℕ) {s : List ℕ} → is_writer_set set ≡ true → Below 256 s
    → 40 * length (stream_of law set (cuts n s)) ≤ 41 * length s
unfolding cuts
stream-most law set n {s} o b = most-from (length s) law set n o b

-- frames that all fit in some room are put alike in more
pub put-enough : (law set room more : ℕ) (frames : List (List ℕ)) (end : Ending) → length (stream_of law set frames) ≤ room → room ≤ more
    → put_all law set room frames end ≡ put_all law set more frames end
unfolding put_all stream_of
put-enough law set room more [] end h k = refl
put-enough law set room more (s ∷ frames) end h k =
    let u = length (form_octets law set s) in
    let l = length-append (form_octets law set s) (stream_of law set frames) in
    rw (le-ltb room u (omega (arith, h, l)), le-ltb more u (omega (arith, h, k, l)))
    (ap (before s) (put-enough law set (room - u) (more - u) frames end (omega (arith, h, l)) (omega (arith, k))))
