-- The laws of a walk (specs/Walk) from any place on, of so many frames at most. Main statements: `walk-parts` (a walk is its parts one
-- after another; a refused one keeps what came before, and more frames allowed change nothing), `walk-told` (its place, octets, samples and
-- frames), `walk-from-any`, `walk-each` (each frame's place, and the reading there), `walk-fuel` (frames allowed above the octets left do
-- not matter), `walk-roomy` (room is never short with 320 samples for each frame).
use Prim.Native.Nat.{ℕ, zero, suc, ◌+◌, ◌*◌, ◌-◌, ◌≤◌, ◌<◌, min}
use mathlib.Core.Path.{◌≡◌, refl, sym, ap, ◌∙◌}
use mathlib.Core.List.{List, [], ◌∷◌, ◌++◌, append_assoc, append-nil}
use mathlib.Core.Bool.{Bool, true, false, cond}
use native.Mathlib.Omega.{arith}
use native.Mathlib.Nat.{add_comm}
use lib.ListN.{length, drop, length-append, length-drop}
use lib.Dec.{leb}
use borrow.Author.Tests.{le-leb, lt-leb, leb-true, leb-false}
use Rattle.rules.specs.declared.Refusal.{Refusal}
use Rattle.rules.specs.Refusals.{Ending}
use Rattle.std.proofs.Common.{Ok, Err}
use Rattle.rules.specs.Reading.{Read, whole, refuse}
use Rattle.rules.specs.Frame.{Found, octets_used, read_one}
use Rattle.rules.specs.Walk.{Delivered, Walked, stopped, before, onward, walk_from, octets_kept, samples_kept}
use Rattle.rules.proofs.Accepted.{read-accepts, read-uses}
use Rattle.rules.proofs.Room.{read-room, read-most}

-- what is kept of frames after others
pub octets_kept-append : (a b : List Delivered) → octets_kept (a ++ b) ≡ octets_kept a + octets_kept b
unfolding octets_kept
octets_kept-append [] b = omega arith
octets_kept-append (f ∷ a) b = omega (arith, octets_kept-append a b)

pub samples_kept-append : (a b : List Delivered) → samples_kept (a ++ b) ≡ samples_kept a ++ samples_kept b
unfolding samples_kept
samples_kept-append [] b = refl
samples_kept-append (f ∷ a) b = rw (samples_kept-append a b, append_assoc)

-- and of one frame more
pub octets_kept-more : (a : List Delivered) (f : Delivered) → octets_kept (a ++ (f ∷ [])) ≡ octets_kept a + octets_used f.found
unfolding octets_kept
octets_kept-more a f = octets_kept-append a (f ∷ []) ∙ omega arith

pub samples_kept-more : (a : List Delivered) (f : Delivered) → samples_kept (a ++ (f ∷ [])) ≡ samples_kept a ++ f.found.samples
unfolding samples_kept
samples_kept-more a f = samples_kept-append a (f ∷ []) ∙ ap (λ (s : List ℕ). samples_kept a ++ s) (append-nil f.found.samples)

-- frames, and then the rest of a walk
abbrev pub after : List Delivered → Walked → Walked
after done w = record { frames = done ++ w.frames; end = w.end; place = w.place; bit = w.bit }

pub after-before : (done : List Delivered) (f : Delivered) (w : Walked) → after done (before f w) ≡ after (done ++ (f ∷ [])) w
after-before done f w =
    ap (λ (l : List Delivered). record { frames = l; end = w.end; place = w.place; bit = w.bit })
    (sym (append_assoc done (f ∷ []) w.frames))

-- by how a walk ended: `more` after a clean end, `kept` after a refusal
abbrev pub by_end : Ending → Walked → Walked → Walked
by_end (Ok _) more kept = more
by_end (Err r) more kept = kept

module _ (octets : List ℕ) (law set : ℕ) where
  -- the steps of the definition: no frame is allowed, the stream's end, a frame that is refused, a frame and then the rest
  pub walk-last : (n at room : ℕ) → n ≡ 0 → walk_from n octets law set at room ≡ stopped (Ok tt) at 0
  unfolding walk_from
  walk-last n at room e = rw e

  pub walk-ended : (n at room : ℕ) → length octets ≤ at → walk_from n octets law set at room ≡ stopped (Ok tt) at 0
  unfolding walk_from
  walk-ended zero at room h = refl
  walk-ended (suc n) at room h = rw (le-leb (length octets) at h)

  module _ (more n at room : ℕ) (e : more ≡ suc n) (h : at < length octets) where
    pub walk-off : (bit : ℕ) (why : Refusal) → read_one (drop at octets) law set room ≡ refuse why bit
        → walk_from more octets law set at room ≡ stopped (Err why) at bit
    unfolding walk_from
    walk-off bit why q = rw (e, lt-leb (length octets) at h, q)

    pub walk-one : (next left : ℕ) (f : Found) {j : ℕ} → read_one (drop at octets) law set room ≡ whole f j
        → next ≡ at + octets_used f → left ≡ room - length f.samples
        → walk_from more octets law set at room ≡ before (record { place = at; found = f }) (walk_from n octets law set next left)
    unfolding walk_from
    walk-one next left f q u l = rw (e, lt-leb (length octets) at h, q, u, l)

  -- a walk of at most so many frames, from a place on, with so much room
  pub data Walks : ℕ → ℕ → ℕ → Walked → Type 0 where
    last : {at room : ℕ} → Walks 0 at room (stopped (Ok tt) at 0)
    ended : {n at room : ℕ} → length octets ≤ at → Walks n at room (stopped (Ok tt) at 0)
    refused : {n at room : ℕ} {w : Refusal} {bit : ℕ} → at < length octets → read_one (drop at octets) law set room ≡ refuse w bit
        → Walks (suc n) at room (stopped (Err w) at bit)
    delivers : {n at room : ℕ} {f : Found} {j : ℕ} {rest : Walked} → at < length octets → read_one (drop at octets) law set room ≡ whole f j
        → Walks n (at + octets_used f) (room - length f.samples) rest
        → Walks (suc n) at room (before (record { place = at; found = f }) rest)

  pub walks : (n at room : ℕ) → Walks n at room (walk_from n octets law set at room)
  unfolding walk_from
  walks zero at room = last {at = at}
  walks (suc n) at room = start (leb (length octets) at) refl (λ f. walks n (at + octets_used f) (room - length f.samples))
    where
      next : Found → Walked
      next f = before (record { place = at; found = f }) (walk_from n octets law set (at + octets_used f) (room - length f.samples))

      stop : Refusal → ℕ → Walked
      stop w bit = stopped (Err w) at bit

      Later : Type 0
      Later = (f : Found) → Walks n (at + octets_used f) (room - length f.samples)
          (walk_from n octets law set (at + octets_used f) (room - length f.samples))

      one : (m : Read Found) → read_one (drop at octets) law set room ≡ m → at < length octets → Later
          → Walks (suc n) at room (onward m next stop)
      one (whole f j) e l later = delivers l e (later f)
      one (refuse w bit) e l later = refused l e

      start : (b : Bool) → leb (length octets) at ≡ b → Later
          → Walks (suc n) at room (cond b (stopped (Ok tt) at 0) (onward (read_one (drop at octets) law set room) next stop))
      start true e later = ended (leb-true (length octets) at e)
      start false e later = one (read_one (drop at octets) law set room) refl (leb-false (length octets) at e) later

  -- what is true of every walk
  pub record Told (n at room : ℕ) (w : Walked) : Type 0 where
    pub place : w.place ≡ at + octets_kept w.frames
    pub inside : octets_kept w.frames ≤ length octets - at
    pub fits : length (samples_kept w.frames) ≤ room
    pub few : length w.frames ≤ n
    pub some : length w.frames ≤ octets_kept w.frames
    pub held : length (samples_kept w.frames) ≤ 320 * length w.frames
    -- it ended clean: all frames that are allowed are there, or it is at the stream's end
    pub whole : w.end ≡ Ok tt → length w.frames < n → length octets ≤ w.place
    pub full : w.end ≡ Ok tt → w.place < length octets → length w.frames ≡ n
    pub clean : w.end ≡ Ok tt → w.bit ≡ 0
    -- it was refused: the frame at its place is, with the room left
    pub refusal : {r : Refusal} → w.end ≡ Err r → (w.place < length octets) × (length w.frames < n)
        × (read_one (drop w.place octets) law set (room - length (samples_kept w.frames)) ≡ refuse r w.bit)

  -- Done is no refusal
  not-refused : {A : Type 0} {r : Refusal} → ◌≡◌ {A = Ending} (Ok tt) (Err r) → A
  not-refused e = let z : ◌≡◌ {A = ℕ} 0 1 = cc in absurd (omega arith)

  is-refusal : {r u : Refusal} → ◌≡◌ {A = Ending} (Err r) (Err u) → r ≡ u
  is-refusal e = cc

  told_none : (n at room : ℕ) → (0 < n → length octets ≤ at) → (at < length octets → 0 ≡ n) → Told n at room (stopped (Ok tt) at 0)
  unfolding octets_kept samples_kept
  told_none n at room h g =
      record {
        place = omega arith;
        inside = omega arith;
        fits = omega arith;
        few = omega arith;
        some = omega arith;
        held = omega arith;
        whole = λ e k. h k;
        full = λ e k. g k;
        clean = λ e. refl;
        refusal = λ e. not-refused e;
      }

  pub walks-told : {n at room : ℕ} {w : Walked} → Walks n at room w → Told n at room w
  unfolding octets_kept samples_kept
  walks-told {n} {at} {room} last = told_none 0 at room (λ k. absurd (omega arith)) (λ k. refl)
  walks-told {n} {at} {room} (ended h) = told_none n at room (λ k. h) (λ k. absurd (omega arith))
  walks-told {n} {at} {room} (refused h e) =
      let none : room - 0 ≡ room = omega arith in
      record {
        place = omega arith;
        inside = omega arith;
        fits = omega arith;
        few = omega arith;
        some = omega arith;
        held = omega arith;
        whole = λ d. not-refused (sym d);
        full = λ d. not-refused (sym d);
        clean = λ d. not-refused (sym d);
        refusal = λ d. (h, omega arith, rw (none, ← (is-refusal d)) e);
      }
  walks-told {n = suc n} {at} {room} (delivers {f = f} {rest = w} h e t) =
      let i = walks-told t in
      let u = read-uses (drop at octets) law set room e in
      let d = length-drop at octets in
      let a = read-accepts (drop at octets) law set room e in
      let s = length-append f.samples (samples_kept w.frames) in
      let m : room - length (f.samples ++ samples_kept w.frames) ≡ room - length f.samples - length (samples_kept w.frames) =
      omega (arith, s) in
      record {
        place = omega (arith, i.place);
        inside = omega (arith, u.1, i.inside);
        fits = omega (arith, s, i.fits, a.fits);
        few = omega (arith, i.few);
        some = omega (arith, i.some, u.0);
        held = omega (arith, s, i.held, read-most (drop at octets) law set room e);
        whole = λ d k. i.whole d (omega arith);
        full = λ d k. omega (arith, i.full d k);
        clean = λ d. i.clean d;
        refusal = λ d. let r = i.refusal d in (r.0, omega (arith, r.1), rw m r.2);
      }

  pub walk-told : (n at room : ℕ) → Told n at room (walk_from n octets law set at room)
  walk-told n at room = walks-told (walks n at room)

  -- the walk taken up again where it ended
  abbrev pub on_from : ℕ → ℕ → Walked → Walked
  on_from n room w = after w.frames (walk_from n octets law set w.place (room - length (samples_kept w.frames)))

  parts : {m at room : ℕ} {w : Walked} → Walks m at room w → (n : ℕ)
      → walk_from (m + n) octets law set at room ≡ by_end w.end (on_from n room w) w
  unfolding samples_kept
  parts {m} {at} {room} last n = let e : room - 0 ≡ room = omega arith in let z : 0 + n ≡ n = omega arith in rw (e, z)
  parts {m} {at} {room} (ended h) n = walk-ended (m + n) at room h ∙ sym (walk-ended n at (room - 0) h)
  parts {m = suc m} {at} {room} (refused {w = w} {bit = bit} h e) n = walk-off (suc m + n) (m + n) at room (omega arith) h bit w e
  parts {m = suc m} {at} {room} (delivers {f = f} {rest = w} h e t) n =
      walk-one (suc m + n) (m + n) at room (omega arith) h (at + octets_used f) (room - length f.samples) f e refl refl
      ∙ ap (before (record { place = at; found = f })) (parts t n) ∙ go w.end
    where
      d : Delivered
      d = record { place = at; found = f }

      left : room - length (f.samples ++ samples_kept w.frames) ≡ room - length f.samples - length (samples_kept w.frames)
      left = omega (arith, length-append f.samples (samples_kept w.frames))

      go : (end : Ending) → before d (by_end end (on_from n (room - length f.samples) w) w) ≡ by_end end (on_from n room (before d w))
          (before d w)
      go (Ok _) = rw left
      go (Err r) = refl

  -- a walk of m + n frames is one of m frames and, where that ended clean, one of n frames from its place on, with the room left
  pub walk-parts : (m n at room : ℕ) → walk_from (m + n) octets law set at room
      ≡ by_end (walk_from m octets law set at room).end (on_from n room (walk_from m octets law set at room))
      (walk_from m octets law set at room)
  walk-parts m n at room = parts (walks m at room) n

  pub walk-on : (m n at room : ℕ) → (walk_from m octets law set at room).end ≡ Ok tt
      → walk_from (m + n) octets law set at room ≡ on_from n room (walk_from m octets law set at room)
  walk-on m n at room e = walk-parts m n at room
      ∙ ap (λ (end : Ending). by_end end (on_from n room (walk_from m octets law set at room)) (walk_from m octets law set at room)) e

  -- more frames allowed do not change a refused walk
  pub walk_kept : (m n at room : ℕ) {r : Refusal} → (walk_from m octets law set at room).end ≡ Err r
      → walk_from (m + n) octets law set at room ≡ walk_from m octets law set at room
  walk_kept m n at room e = walk-parts m n at room
      ∙ ap (λ (end : Ending). by_end end (on_from n room (walk_from m octets law set at room)) (walk_from m octets law set at room)) e

  -- frames allowed above the octets left do not matter
  fuel : {m at room : ℕ} {w : Walked} → Walks m at room w → length octets ≤ at + m → (n : ℕ) → walk_from (m + n) octets law set at room ≡ w
  fuel {at = at} {room} last h n = walk-ended (0 + n) at room (omega arith)
  fuel {m} {at} {room} (ended l) h n = walk-ended (m + n) at room l
  fuel {m = suc m} {at} {room} (refused {w = w} {bit = bit} l e) h n = walk-off (suc m + n) (m + n) at room (omega arith) l bit w e
  fuel {m = suc m} {at} {room} (delivers {f = f} l e t) h n =
      walk-one (suc m + n) (m + n) at room (omega arith) l (at + octets_used f) (room - length f.samples) f e refl refl
      ∙ ap (before (record { place = at; found = f })) (fuel t (omega (arith, (read-uses (drop at octets) law set room e).0)) n)

  pub walk-fuel : (m n at room : ℕ) → length octets ≤ at + m → length octets ≤ at + n
      → walk_from m octets law set at room ≡ walk_from n octets law set at room
  walk-fuel m n at room h k = sym (fuel (walks m at room) h n) ∙ ap (λ (k : ℕ). walk_from k octets law set at room) (add_comm m n)
      ∙ fuel (walks n at room) k m

  -- 320 samples of room are enough for each frame allowed, and for each octet left
  roomy : {n at room : ℕ} {w : Walked} → Walks n at room w → (more : ℕ) → 320 * min n (length octets - at) ≤ room
      → 320 * min n (length octets - at) ≤ more → walk_from n octets law set at more ≡ w
  roomy {at = at} last more h k = walk-last 0 at more refl
  roomy {n} {at} (ended l) more h k = walk-ended n at more l
  roomy {n = suc n} {at} {room} (refused {w = w} {bit = bit} l e) more h k =
      walk-off (suc n) n at more refl l bit w
      (read-room (drop at octets) law set more (omega arith) ∙ sym (read-room (drop at octets) law set room (omega arith)) ∙ e)
  roomy {n = suc n} {at} {room} (delivers {f = f} {j} l e t) more h k =
      let u = read-uses (drop at octets) law set room e in
      let s = read-most (drop at octets) law set room e in
      let d = length-drop at octets in
      let e' = read-room (drop at octets) law set more (omega arith) ∙ sym (read-room (drop at octets) law set room (omega arith)) ∙ e in
      walk-one (suc n) n at more refl l (at + octets_used f) (more - length f.samples) f e' refl refl
      ∙ ap (before (record { place = at; found = f }))
      (roomy t (more - length f.samples) (omega (arith, u.0, u.1)) (omega (arith, u.0, u.1)))

  pub walk-roomy : (n at room more : ℕ) → 320 * min n (length octets - at) ≤ room → 320 * min n (length octets - at) ≤ more
      → walk_from n octets law set at room ≡ walk_from n octets law set at more
  walk-roomy n at room more h k = sym (roomy (walks n at room) more h k)

  -- there is one such walk
  pub walks-only : {n at room : ℕ} {w : Walked} → Walks n at room w → walk_from n octets law set at room ≡ w
  walks-only {at = at} {room} last = walk-last 0 at room refl
  walks-only {n} {at} {room} (ended l) = walk-ended n at room l
  walks-only {n = suc n} {at} {room} (refused {w = w} {bit = bit} l e) = walk-off (suc n) n at room refl l bit w e
  walks-only {n = suc n} {at} {room} (delivers {f = f} l e t) =
      walk-one (suc n) n at room refl l (at + octets_used f) (room - length f.samples) f e refl refl
      ∙ ap (before (record { place = at; found = f })) (walks-only t)

  -- where no frame is delivered there is none
  no-frame : {A : Type 0} (a : List Delivered) (d : Delivered) (b : List Delivered) → [] ≡ a ++ (d ∷ b) → A
  no-frame a d b e = absurd (omega (arith, ap length e, length-append a (d ∷ b)))

  -- the first of a walk's frames, and then the walk from there on
  from-any : {n at room : ℕ} {w : Walked} → Walks n at room w → (a b : List Delivered) → w.frames ≡ a ++ b
      → w ≡ after a (walk_from (n - length a) octets law set (at + octets_kept a) (room - length (samples_kept a)))
  unfolding octets_kept samples_kept
  from-any {n} {at} {room} t [] b e =
      let u : n - 0 ≡ n = omega arith in let v : at + 0 ≡ at = omega arith in let w : room - 0 ≡ room = omega arith in
      rw (u, v, w) (sym (walks-only t))
  from-any last (x ∷ a) b e = no-frame [] x (a ++ b) e
  from-any (ended l) (x ∷ a) b e = no-frame [] x (a ++ b) e
  from-any (refused l q) (x ∷ a) b e = no-frame [] x (a ++ b) e
  from-any {n = suc n} {at} {room} (delivers {f = f} {rest = w} l q t) (x ∷ a) b e =
      let same : record { place = at; found = f } ≡ x = cc in
      let rest : w.frames ≡ a ++ b = cc in
      let u : suc n - suc (length a) ≡ n - length a = omega arith in
      let v : at + (octets_used f + octets_kept a) ≡ at + octets_used f + octets_kept a = omega arith in
      let m : room - length (f.samples ++ samples_kept a) ≡ room - length f.samples - length (samples_kept a)
      = omega (arith, length-append f.samples (samples_kept a)) in
      rw (← same, u, v, m) (ap (before (record { place = at; found = f }))
      (from-any {n = n} {at = at + octets_used f} {room = room - length f.samples} t a b rest))

  pub walk-from-any : (n at room : ℕ) (a b : List Delivered) → (walk_from n octets law set at room).frames ≡ a ++ b
      → walk_from n octets law set at room ≡ after a
      (walk_from (n - length a) octets law set (at + octets_kept a) (room - length (samples_kept a)))
  walk-from-any n at room a b e = from-any (walks n at room) a b e

  -- a frame stands where the frames before it end, and is read there with the room that they left
  pub record Stands (at room : ℕ) (a : List Delivered) (d : Delivered) : Type 0 where
    pub place : d.place ≡ at + octets_kept a
    pub inside : d.place < length octets
    pub next : ℕ
    pub reads : read_one (drop d.place octets) law set (room - length (samples_kept a)) ≡ whole d.found next

  each : {n at room : ℕ} {w : Walked} → Walks n at room w → (a : List Delivered) (d : Delivered) (b : List Delivered)
      → w.frames ≡ a ++ (d ∷ b) → Stands at room a d
  unfolding octets_kept samples_kept
  each last a d b e = no-frame a d b e
  each (ended l) a d b e = no-frame a d b e
  each (refused l q) a d b e = no-frame a d b e
  each {at = at} {room} (delivers {f = f} {j} l q t) [] d b e =
      let same : record { place = at; found = f } ≡ d = cc in
      let u : room - 0 ≡ room = omega arith in
      rw (← same) (record { place = omega arith; inside = l; next = j; reads = rw u q })
  each {at = at} {room} (delivers {f = f} {j} {rest = w} l q t) (x ∷ a) d b e =
      let same : record { place = at; found = f } ≡ x = cc in
      let rest : w.frames ≡ a ++ (d ∷ b) = cc in
      let s = each t a d b rest in
      let m : room - length (f.samples ++ samples_kept a) ≡ room - length f.samples - length (samples_kept a)
      = omega (arith, length-append f.samples (samples_kept a)) in
      rw (← same) (record { place = omega (arith, s.place); inside = s.inside; next = s.next; reads = rw m s.reads })

  pub walk-each : (n at room : ℕ) (a : List Delivered) (d : Delivered) (b : List Delivered)
      → (walk_from n octets law set at room).frames ≡ a ++ (d ∷ b) → Stands at room a d
  walk-each n at room a d b e = each (walks n at room) a d b e
