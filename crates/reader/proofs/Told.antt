-- What is known of a reading: how it opens, what is reported of it, and where its samples are.
use mathlib.Core.Path.{◌≡◌, refl, sym, ap, subst, ◌∙◌}
use mathlib.Core.List.{List}
use Prim.Native.Nat.{ℕ, ◌^◌, ◌≤◌}
use native.Mathlib.Omega.{arith}
use lib.ListN.{length, take, length-take}
use Rattle.std.proofs.Common.{Result, Ok, Err}
use Rattle.rules.specs.declared.Refusal.{Refusal}
use Rattle.rules.specs.Bits.{bits_of, fill_for}
use Rattle.rules.specs.Samples.{mask_of}
use Rattle.rules.specs.Reading.{Read, whole, refuse, filled}
use Rattle.rules.specs.Frame.{Found, read_one}
use Rattle.rules.specs.Calls.{read_samples}
use Rattle.read_bits.specs.declared.Stop.{Stop}
use Rattle.std.specs.declared.option.Option.{Option}
use Rattle.read_opening.specs.declared.Head.{Head}
use Rattle.read_opening.specs.Opening.{Opening, after_opening, Starts}
use Rattle.reader.specs.declared.Report.{Report}
use Rattle.reader.specs.declared.Taken.{Taken}
use Rattle.reader.specs.Answers.{Fills, finish}
use Rattle.reader.specs.Taken.{taken, Takes}
use Rattle.reader.proofs.Filled.{filled-by}

as_opened : {r : Opening} {o p : Option Head} → r ≡ Ok o → o ≡ p → r ≡ Ok p
as_opened e f = rw (← f) e

-- the frame opens, and the reading is what follows that
module _ {octets : List ℕ} {law set : ℕ} {r : Opening} (t : Starts octets law set r) where
  module _ {o p : Option Head} (e : r ≡ Ok o) (f : o ≡ p) where
    pub opened : (room : ℕ) → after_opening (mask_of law) set room (Ok p) (bits_of octets) ≡ read_one octets law set room
    opened room = ap (λ (o : Opening). after_opening (mask_of law) set room o (bits_of octets)) (sym (as_opened e f)) ∙ t.says room

-- the length that is known is the samples'
pub len-of : (found : Read Found) {t : Taken} → ◌≡◌ {A = Result Taken Stop} (Ok t) (taken found) → t.len ≡ length (read_samples found)
len-of found {t} e = go found e
  where
    go : (m : Read Found) → ◌≡◌ {A = Result Taken Stop} (Ok t) (taken m) → t.len ≡ length (read_samples m)
    go (whole f i) q =
        let h : ◌≡◌ {A = Taken} t (record { tool = f.tool; len = length f.samples; bits = f.bits }) = cc in
        ap (λ (t : Taken). t.len) h
    go (refuse w at) q = let z : ◌≡◌ {A = ℕ} 0 1 = cc in absurd (omega arith)

buffer-long : (s buffer : List ℕ) {n : ℕ} → n ≡ length s → take (length s) buffer ≡ s → n ≤ length buffer
buffer-long s buffer e f =
    let g : length (take (length s) buffer) ≡ length s = rw f in
    omega (arith, e, g, length-take (length s) buffer)

-- a frame that is accepted, and one that is refused
module _ {found : Read Found} where
  pub takes-whole : {f : Found} {j len : ℕ} {buffer : List ℕ} → found ≡ whole f j → len ≡ length f.samples → f.bits ≤ 2 ^ 41
      → take (length f.samples) buffer ≡ f.samples → length buffer ≡ 320
      → Takes found (Ok (record { tool = f.tool; len = len; bits = f.bits })) buffer
  takes-whole {f} e h k l m = rw (e, h) (record { says = refl; few = k; samples = l; size = m })

  pub takes-stop : {s : Stop} {buffer : List ℕ} → found ≡ refuse s.why s.bit → length buffer ≡ 320 → Takes found (Err s) buffer
  takes-stop e m = rw e (record { says = refl; few = tt; samples = refl; size = m })

  -- so many there are
  pub buffer-has : {r : Report} {buffer : List ℕ} → Fills found r buffer → r.len ≤ length buffer
  buffer-has f = buffer-long _ _ f.tells.len f.samples

  module _ {t : Taken} {buffer : List ℕ} (f : Takes found (Ok t) buffer) where
    pub taken-has : t.len ≤ length buffer
    taken-has = buffer-long _ _ (len-of found f.says) f.samples

-- the same of an equal reading
module _ {m n : Read Found} (e : m ≡ n) {r : Result Taken Stop} where
  pub takes-as : {buffer : List ℕ} → Takes m r buffer → Takes n r buffer
  takes-as {buffer} t = subst (λ (m : Read Found). Takes m r buffer) e t

-- the filling bits are read
module _ (t : ℕ) (s : List ℕ) (n : ℕ) (b : List ℕ) where
  pub finish-stop : {w : Refusal} {at : ℕ} → filled {A = ℕ} 0 (fill_for n) b n ≡ refuse w at → finish t s n b ≡ refuse w at
  finish-stop e = sym (filled-by _ (fill_for n) b n _ (sym e))

  pub finish-done : {v j : ℕ} → filled {A = ℕ} 0 (fill_for n) b n ≡ whole v j
      → finish t s n b ≡ whole (record { tool = t; samples = s; bits = n }) j
  finish-done e = sym (filled-by _ (fill_for n) b n _ (sym e))
