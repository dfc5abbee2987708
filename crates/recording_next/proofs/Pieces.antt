-- One item, as the code goes: what refuses it before it is looked at (`next-refused`, `next-short`), what stands at its place
-- (`next_here`), and a reading of one item told as a piece (`piece-refused`, `piece-found`). No second answer: `only_next`, `only-file-head`.
use Prim.Native.Nat.{ℕ, suc, ◌+◌, ◌-◌, ◌≤◌, ◌<◌}
use native.Mathlib.Omega.{arith}
use mathlib.Core.Path.{◌≡◌, refl, sym, ap, subst, ◌∙◌}
use mathlib.Core.List.{List, ◌∷◌, append-nil}
use mathlib.Core.Bool.{Bool, true, false, cond}
use lib.ListN.{length, get_or, drop}
use lib.Seq.{drop-cons}
use lib.Dec.{eqb, leb, lit<}
use borrow.Author.Tests.{le-ltb, lt-ltb, le-leb, lt-leb, eqb-true}
use Rattle.rules.specs.declared.Refusal as rule
use Rattle.rules.specs.declared.Refusal.TheVariants as rules
use Rattle.std.proofs.Common.{Ok, Err}
use Rattle.rules.specs.Refusals.{verdict}
use Rattle.rules.specs.Samples.{mask_of}
use Rattle.rules.specs.Reading.{Read, whole, refuse}
use Rattle.rules.specs.Frame.{Found, read_one}
use Rattle.rules.specs.Walk.{walk_asks}
use Rattle.rules.specs.Calls.{at_start}
use Rattle.rules.proofs.Judged.{AllMet}
use Rattle.rules.proofs.Guards.{verdict-refused, verdict-done, all-met}
use Rattle.rules.proofs.Room.{read-most}
use Rattle.read_head.specs.Heads.{head_of, head_tool}
use Rattle.read_head.proofs.Heads.{head-found, head-refused}
use Rattle.recording.specs.declared.Refusal.{Refusal}
use Rattle.recording.specs.declared.Refusal.TheVariants.{Frame}
use Rattle.recording.specs.Remembered.{Headed, lost_octet, erased}
use Rattle.recording.specs.Endings.{Ending}
use Rattle.recording.specs.Items.{Item, lost, sound, Recorded, stopped, before, items_from, sound_of, sound_in, loss_from, cell_of}
use Rattle.recording.proofs.Marks.{lost-refused}
use Rattle.recording_read.specs.declared.Played.{Played}
use Rattle.recording_read.specs.Turns.{Step, takes, stops, frame_step, item_step}
use Rattle.recording_read.specs.Plays.{Plays}
use Rattle.recording_read.proofs.Steps.{by_step, rest_from, items-last, items-step}
use Rattle.recording_next.specs.declared.Told.{Told}
use Rattle.recording_next.specs.declared.FileHead.{FileHead}
use Rattle.recording_next.specs.Next.{Piece, found, refused, piece_of, item_here, next_of, piece_end, kind_of, samples_of, piece_tool}
use Rattle.recording_next.specs.Next.{Tells, HeadTold}
use Rattle.recording_next.specs.Followed.{by_piece}

module _ (octets : List ℕ) (at law set room : ℕ) where
  pub next-refused : {why : rule.Refusal} → verdict (walk_asks law set (length octets)) ≡ Err why
      → refused (Frame why) 0 ≡ next_of octets at law set room
  unfolding next_of
  next-refused e = sym (verdict-refused (λ why. refused (Frame why) 0) _ (walk_asks law set (length octets)) e)

  module _ (ok : verdict (walk_asks law set (length octets)) ≡ Ok tt) where
    pub next-short : length octets ≤ at → refused (Frame rules.Short) 0 ≡ next_of octets at law set room
    unfolding next_of
    next-short h =
        sym (verdict-done (λ why. refused (Frame why) 0) _ (walk_asks law set (length octets)) ok ∙ rw (le-ltb at (length octets) h) refl)

    pub next_here : at < length octets → item_here octets law set at room ≡ next_of octets at law set room
    unfolding next_of
    next_here h =
        sym (verdict-done (λ why. refused (Frame why) 0) _ (walk_asks law set (length octets)) ok ∙ rw (lt-ltb at (length octets) h) refl)

pub tells_as : {p q : Piece} {at : ℕ} {r : Told} {out out' : List ℕ} → p ≡ q → Tells p at r out out' → Tells q at r out out'
tells_as {at = at} {r = r} {out = out} {out' = out'} e t = subst (λ (p : Piece). Tells p at r out out') e t

-- what a reading of one item gives, by what stands there
abbrev pub recorded_of : Piece → ℕ → Recorded
recorded_of p at = by_piece p at (λ i used. before i (stopped (Ok tt) (at + used) 0))

-- what a piece leads to is what an item's step leads to
pub piece-step : (octets : List ℕ) (law set at room : ℕ) (next : Item → ℕ → Recorded)
    → by_piece (item_here octets law set at room) at next ≡ by_step (item_step octets law set at room) at next
piece-step octets law set at room next = go (eqb (get_or octets at 0) lost_octet) (read_one (drop at octets) law set room)
  where
    go : (b : Bool) (m : Read Found) → by_piece (cond b (found (lost 0) 1 0) (piece_of (mask_of law) m)) at next
        ≡ by_step (cond b (takes (lost 0) 1) (frame_step (mask_of law) m)) at next
    go true m = refl
    go false (whole f j) = refl
    go false (refuse w bit) = refl

pub one-item : (octets : List ℕ) (law set at room : ℕ) → at < length octets
    → items_from 1 octets law set at room 1 ≡ recorded_of (item_here octets law set at room) at
one-item octets law set at room h =
    items-step octets law set 1 0 at room 1 refl h (omega arith) ∙ last (item_step octets law set at room) ∙ sym (piece-step octets law set at room _)
  where
    last : (s : Step) → by_step s at (rest_from octets law set 0 at room 1) ≡ by_step s at (λ i used. before i (stopped (Ok tt) (at + used) 0))
    last (takes i used) = ap (before i) (items-last octets law set 0 (at + used) (room - length (sound_of i)) (1 - 1) refl)
    last (stops w bit) = refl

-- how a reading of one item ended is how the piece did, and its place is not before the item's
module _ (at : ℕ) {r : Played} {out out' cells cells' : List ℕ} where
  pub ended-as : (p : Piece) → Plays (recorded_of p at) r out out' cells cells' → r.end ≡ Ok tt → piece_end p ≡ Ok tt
  ended-as (found i used t) s e = refl
  ended-as (refused w bit) s e = sym s.end ∙ e

  pub place-behind : (p : Piece) → Plays (recorded_of p at) r out out' cells cells' → at ≤ r.place
  place-behind (found i used t) s = omega (arith, s.place)
  place-behind (refused w bit) s = omega (arith, s.place)

-- a refused item
pub piece-refused : (p : Piece) {at : ℕ} {r : Played} {out out' cells cells' : List ℕ} → Plays (recorded_of p at) r out out' cells cells'
    → {why : Refusal} → r.end ≡ Err why → {n : Told} → Tells (refused why r.bit) at n out out → Tells p at n out out'
unfolding sound_in
piece-refused (refused w bit) {at} {out = out} t {why} e {n} q =
    let same : why ≡ w = ended (sym e ∙ t.end) in
    let there : Tells (refused w bit) at n out out = rw (← same, ← t.bit) q in
    record {
      end = there.end;
      kind = there.kind;
      samples = there.samples;
      octets = there.octets;
      tool = there.tool;
      bit = there.bit;
      place = there.place;
      lent = t.lent;
    }
  where
    ended : ◌≡◌ {A = Ending} (Err why) (Err w) → why ≡ w
    ended e = cc
piece-refused (found i used tool) t e q = let d = t.end in let z : ◌≡◌ {A = ℕ} 0 1 = cc in absurd (omega arith)

-- an item's number of 16 bits tells its kind and its samples, where these are few
abbrev pub Few : Piece → Type 0
Few (found i used t) = samples_of i < loss_from
Few (refused w bit) = Unit {0}

pub few-here : (octets : List ℕ) (law set at room : ℕ) → Few (item_here octets law set at room)
few-here octets law set at room = go (eqb (get_or octets at 0) lost_octet)
  where
    judged : (f : Found) (b : Bool) → length f.samples ≤ 320 → samples_of (cond b (lost (length f.samples)) (sound f)) < loss_from
    judged f true h = omega arith
    judged f false h = omega arith

    one : (m : Read Found) → read_one (drop at octets) law set room ≡ m → Few (piece_of (mask_of law) m)
    one (whole f j) e = judged f (erased (mask_of law) f.samples) (read-most (drop at octets) law set room e)
    one (refuse w bit) e = tt

    go : (b : Bool) → Few (cond b (found (lost 0) 1 0) (piece_of (mask_of law) (read_one (drop at octets) law set room)))
    go true = lit< tt
    go false = one (read_one (drop at octets) law set room) refl

-- and its sound is at most 320 samples
abbrev pub Least : Piece → Type 0
Least (found i used t) = length (sound_of i) ≤ 320
Least (refused w bit) = Unit {0}

pub least-here : (octets : List ℕ) (law set at room : ℕ) → Least (item_here octets law set at room)
least-here octets law set at room = go (eqb (get_or octets at 0) lost_octet)
  where
    judged : (f : Found) (b : Bool) → length f.samples ≤ 320 → length (sound_of (cond b (lost (length f.samples)) (sound f))) ≤ 320
    judged f true h = omega arith
    judged f false h = h

    one : (m : Read Found) → read_one (drop at octets) law set room ≡ m → Least (piece_of (mask_of law) m)
    one (whole f j) e = judged f (erased (mask_of law) f.samples) (read-most (drop at octets) law set room e)
    one (refuse w bit) e = tt

    go : (b : Bool) → Least (cond b (found (lost 0) 1 0) (piece_of (mask_of law) (read_one (drop at octets) law set room)))
    go true = omega arith
    go false = one (read_one (drop at octets) law set room) refl

kind-told : (i : Item) → samples_of i < loss_from → cond (leb loss_from (cell_of i)) 1 0 ≡ kind_of i
kind-told (sound f) h = rw (lt-leb loss_from (length f.samples) h)
kind-told (lost n) h = rw (le-leb loss_from (loss_from + n) (omega arith))

samples-told : (i : Item) → samples_of i < loss_from → cond (leb loss_from (cell_of i)) (cell_of i - loss_from) (cell_of i) ≡ samples_of i
samples-told (sound f) h = rw (lt-leb loss_from (length f.samples) h)
samples-told (lost n) h = rw (le-leb loss_from (loss_from + n) (omega arith)) (omega arith)

-- an item that was read
pub piece-found : (p : Piece) → Few p → {at : ℕ} {r : Played} {out out' cells cells' : List ℕ}
    → Plays (recorded_of p at) r out out' cells cells' → r.end ≡ Ok tt → {kind samples tool : ℕ}
    → kind ≡ cond (leb loss_from (get_or cells' 0 0)) 1 0 → samples ≡ cond (leb loss_from (get_or cells' 0 0))
    (get_or cells' 0 0 - loss_from) (get_or cells' 0 0)
    → tool ≡ piece_tool p
    → Tells p at (record { end = Ok tt; kind = kind; samples = samples; octets = r.place - at; tool = tool; bit = 0; place = r.place }) out out'
unfolding sound_in
piece-found (found i used t) h {at} {out = out} {cells = cells} s e k n u =
    let cell = ap (λ (l : List ℕ). get_or l 0 0) s.told in
    record {
      end = refl;
      kind = k ∙ ap (λ (c : ℕ). cond (leb loss_from c) 1 0) cell ∙ kind-told i h;
      samples = n ∙ ap (λ (c : ℕ). cond (leb loss_from c) (c - loss_from) c) cell ∙ samples-told i h;
      octets = omega (arith, s.place);
      tool = u;
      bit = refl;
      place = s.place;
      lent = s.lent ∙ ap (λ (l : List ℕ). at_start l out) (append-nil (sound_of i));
    }
piece-found (refused w bit) h s e k n u = let d = s.end in let z : ◌≡◌ {A = ℕ} 0 1 = cc in absurd (omega arith)

-- the tool of a frame is the one that its first octets tell; 01 has none
pub tool-here : (octets : List ℕ) (law set at room : ℕ) → verdict (walk_asks law set (length octets)) ≡ Ok tt → at < length octets
    → piece_end (item_here octets law set at room) ≡ Ok tt → head_tool (head_of (drop at octets) set) ≡ piece_tool (item_here octets law set at room)
tool-here octets law set at room ok h e = go (eqb (get_or octets at 0) lost_octet) refl e
  where
    met : AllMet (walk_asks law set (length octets))
    met = all-met (walk_asks law set (length octets)) ok

    one : (m : Read Found) → read_one (drop at octets) law set room ≡ m → piece_end (piece_of (mask_of law) m) ≡ Ok tt
        → head_tool (head_of (drop at octets) set) ≡ piece_tool (piece_of (mask_of law) m)
    one (whole f j) q d = ap head_tool (head-found (drop at octets) law set room met.0 q).is
    one (refuse w bit) q d = let z : ◌≡◌ {A = ℕ} 0 1 = cc in absurd (omega arith)

    go : (b : Bool) → eqb (get_or octets at 0) lost_octet ≡ b
        → piece_end (cond b (found (lost 0) 1 0) (piece_of (mask_of law) (read_one (drop at octets) law set room))) ≡ Ok tt
        → head_tool (head_of (drop at octets) set)
        ≡ piece_tool (cond b (found (lost 0) 1 0) (piece_of (mask_of law) (read_one (drop at octets) law set room)))
    go true q d =
        let first : drop at octets ≡ lost_octet ∷ drop (suc at) octets = drop-cons octets at 0 h
        ∙ ap (λ (x : ℕ). x ∷ drop (suc at) octets) (eqb-true (get_or octets at 0) lost_octet q) in
        let why : read_one (drop at octets) law set 0 ≡ refuse rules.Prefix 0 = rw first (lost-refused law set 0 (drop (suc at) octets) met.0 met.1.0) in
        ap head_tool (head-refused (drop at octets) law set 0 met.0 (λ x. x) why)
    go false q d = one (read_one (drop at octets) law set room) refl d

-- nothing else fits an item's contract, nor a heading's
pub only_next : {p : Piece} {at : ℕ} {r s : Told} {out o₁ o₂ : List ℕ} → Tells p at r out o₁ → Tells p at s out o₂ → (r ≡ s) × (o₁ ≡ o₂)
only_next {r = r} {s = s} a b = (
  same (a.end ∙ sym b.end) (a.kind ∙ sym b.kind) (a.samples ∙ sym b.samples) (a.octets ∙ sym b.octets)
      (a.tool ∙ sym b.tool) (a.bit ∙ sym b.bit) (a.place ∙ sym b.place),
  a.lent ∙ sym b.lent,
)
  where
    same : r.end ≡ s.end → r.kind ≡ s.kind → r.samples ≡ s.samples → r.octets ≡ s.octets → r.tool ≡ s.tool → r.bit ≡ s.bit
        → r.place ≡ s.place → r ≡ s
    same e k n o t l p = λ i. record { end = e i; kind = k i; samples = n i; octets = o i; tool = t i; bit = l i; place = p i }

pub only-file-head : {h : Headed} {r s : FileHead} → HeadTold h r → HeadTold h s → r ≡ s
only-file-head {r = r} {s = s} a b = same (a.end ∙ sym b.end) (a.law ∙ sym b.law) (a.octets ∙ sym b.octets)
  where
    same : r.end ≡ s.end → r.law ≡ s.law → r.octets ≡ s.octets → r ≡ s
    same x y z = λ i. record { end = x i; law = y i; octets = z i }
