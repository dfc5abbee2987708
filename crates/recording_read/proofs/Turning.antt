-- One item, as the code takes it: a frame judged a loss (`frame-lost`) or sound (`frame-sound`); what is told of an item by how it
-- ended (`taken`, `refused`); an item's octets and sound fit (`step_fits`).
use Prim.Native.Nat.{ℕ, ◌+◌, ◌-◌, ◌≤◌, ◌<◌}
use native.Mathlib.Omega.{arith}
use mathlib.Core.Path.{◌≡◌, refl}
use mathlib.Core.List.{List, ◌++◌}
use mathlib.Core.Bool.{Bool, true, false, cond}
use lib.ListN.{length, get_or, take, drop, length-drop}
use borrow.Rule.Slice.PartMut.{put_mid}
use lib.Dec.{eqb}
use Rattle.rules.specs.declared.Refusal.{Refusal}
use Rattle.std.proofs.Common.{Ok, Err}
use Rattle.rules.specs.Samples.{mask_of}
use Rattle.rules.specs.Reading.{Read, whole, refuse}
use Rattle.rules.specs.Frame.{Found, read_one}
use Rattle.rules.proofs.Accepted.{read-accepts, read-uses}
use Rattle.reader.specs.declared.Report.{Report}
use Rattle.reader.specs.Answers.{Fills}
use Rattle.recording.specs.Remembered.{lost_octet, erased}
use Rattle.recording.specs.Items.{Item, lost, sound, sound_of, cell_of}
use Rattle.recording_read.specs.declared.Turn.{Turn}
use Rattle.recording_read.specs.declared.Stop.{Stop}
use Rattle.recording_read.specs.Turns.{Step, takes, stops, turn_of, frame_step, item_step, Turned}

-- a frame that is no erasure frame
pub frame-sound : (mask : ℕ) {found : Read Found} {r : Report} {buffer : List ℕ} → Fills found r buffer → r.end ≡ Ok tt
    → erased mask (take r.len buffer) ≡ false
    → Turned (frame_step mask found) (Ok (record { octets = r.octets; len = r.len; cell = r.len })) buffer
frame-sound mask {found = whole f i} f' d e =
    let t = f'.tells in
    let e' : erased mask f.samples ≡ false = rw (t.len, f'.samples) at e in
    rw e' (record { tells = rw (t.octets, t.len); sound = f'.samples; size = f'.size })
frame-sound mask {found = refuse w at} f' d e = let x = f'.tells.end in let z : ◌≡◌ {A = ℕ} 0 1 = cc in absurd (omega arith)

-- an erasure frame: a loss
pub frame-lost : (mask : ℕ) {found : Read Found} {r : Report} {buffer : List ℕ} → Fills found r buffer → r.end ≡ Ok tt
    → erased mask (take r.len buffer) ≡ true → Turned (frame_step mask found) (Ok (turn_of (lost r.len) r.octets)) buffer
frame-lost mask {found = whole f i} f' d e =
    let e' : erased mask f.samples ≡ true = rw (f'.tells.len, f'.samples) at e in
    rw e' (record { tells = rw (f'.tells.len, f'.tells.octets); sound = refl; size = f'.size })
frame-lost mask {found = refuse w at} f' d e = let x = f'.tells.end in let z : ◌≡◌ {A = ℕ} 0 1 = cc in absurd (omega arith)

-- a frame that was refused
pub frame-refused : (mask : ℕ) {found : Read Found} {r : Report} {buffer : List ℕ} (why : Refusal) → Fills found r buffer → r.end ≡ Err why
    → Turned (frame_step mask found) (Err (record { why = why; bit = r.bit })) buffer
frame-refused mask {found = whole f i} why f' d = let x = f'.tells.end in let z : ◌≡◌ {A = ℕ} 0 1 = cc in absurd (omega arith)
frame-refused mask {found = refuse w at} why f' d =
    let x = f'.tells.end in
    let same : why ≡ w = cc in
    record { tells = rw (same, f'.tells.bit); sound = refl; size = f'.size }

-- an item that was taken
pub record Taken (s : Step) (t : Turn) (buffer : List ℕ) : Type 0 where
  pub item : Item
  pub is : s ≡ takes item t.octets
  pub len : t.len ≡ length (sound_of item)
  pub cell : t.cell ≡ cell_of item
  pub sounds : take t.len buffer ≡ sound_of item

pub taken : {s : Step} {t : Turn} {buffer : List ℕ} → Turned s (Ok t) buffer → Taken s t buffer
taken {s = takes i used} {t = t} {buffer = buffer} h =
    let e = h.tells in
    let same : t ≡ turn_of i used = cc in
    rw same (record { item = i; is = refl; len = refl; cell = refl; sounds = h.sound })
taken {s = stops w bit} h = let e = h.tells in let z : ◌≡◌ {A = ℕ} 0 1 = cc in absurd (omega arith)

-- a frame that was refused
pub refused : {s : Step} {stop : Stop} {buffer : List ℕ} → Turned s (Err stop) buffer → s ≡ stops stop.why stop.bit
refused {s = takes i used} h = let e = h.tells in let z : ◌≡◌ {A = ℕ} 0 1 = cc in absurd (omega arith)
refused {s = stops v k} {stop = stop} h =
    let e = h.tells in
    let same : stop ≡ record { why = v; bit = k } = cc in
    rw same

-- an item has one octet or more, no more than there are, and its sound fits the room
abbrev pub Fits : List ℕ → ℕ → ℕ → Step → Type 0
Fits octets at room (takes i used) = (1 ≤ used) × (at + used ≤ length octets) × (length (sound_of i) ≤ room)
Fits octets at room (stops w bit) = Unit {0}

pub step_fits : (octets : List ℕ) (law set at room : ℕ) → at < length octets → Fits octets at room (item_step octets law set at room)
step_fits octets law set at room h = go (eqb (get_or octets at 0) lost_octet)
  where
    fits : (f : Found) (b : Bool) → length f.samples ≤ room → length (sound_of (cond b (lost (length f.samples)) (sound f))) ≤ room
    fits f true l = omega arith
    fits f false l = l

    one : (m : Read Found) → read_one (drop at octets) law set room ≡ m → Fits octets at room (frame_step (mask_of law) m)
    one (whole f j) e =
        let u = read-uses (drop at octets) law set room e in
        let a = read-accepts (drop at octets) law set room e in
        (u.0, omega (arith, u.1, length-drop at octets), fits f (erased (mask_of law) f.samples) a.fits)
    one (refuse w bit) e = tt

    go : (b : Bool) → Fits octets at room (cond b (takes (lost 0) 1) (frame_step (mask_of law) (read_one (drop at octets) law set room)))
    go true = (omega arith, omega arith, omega arith)
    go false = one (read_one (drop at octets) law set room) refl

-- an item's sound, put to the output from `to` on
pub sound-put : (samples out part : List ℕ) (n to : ℕ) → part ≡ take n samples
    → put_mid to (to + n - to) out part ≡ take to out ++ (take n samples ++ drop n (drop to out))
sound-put samples out part n to e = let k : to + n - to ≡ n = omega arith in rw (k, e) refl
