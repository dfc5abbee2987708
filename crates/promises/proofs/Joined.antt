-- Octets one after another: where the first are walked clean, the walk goes on with the second as by themselves (`joined`). Octets cut
-- where their walk ended are walked clean (`cut-clean`). So a stream can be walked part by part, each part cut where a frame ends.
use Prim.Native.Nat.{ℕ, suc, ◌+◌, ◌*◌, ◌-◌, ◌≤◌, ◌<◌}
use native.Mathlib.Omega.{arith}
use mathlib.Core.Path.{◌≡◌, refl, sym, ap, ◌∙◌}
use mathlib.Core.List.{List, ◌++◌}
use lib.ListN.{length, take, drop, length-append}
use lib.Seq.{drop-drop, drop_at, drop-append-le, length-take-le, take-length}
use Rattle.rules.specs.declared.Refusal.TheVariants.{Short}
use Rattle.rules.specs.Refusals.{Ending}
use Rattle.std.proofs.Common.{Ok, Err}
use Rattle.rules.specs.Reading.{refuse}
use Rattle.rules.specs.Frame.{octets_used, read_one}
use Rattle.rules.specs.Walk.{Walked, walk_from, walk_all, samples_kept}
use Rattle.rules.proofs.Walk.{after, samples_kept-append, Walks, last, ended, refused}
use Rattle.rules.proofs.Walk.{delivers, walks, walk-last, walk-ended, walk-off, walk-one}
use Rattle.rules.proofs.Walk.{walk-told, walk-on, walk-fuel, walk-roomy, walks-only}
use Rattle.promises.proofs.Further.{looks-no-further}
use Rattle.promises.proofs.Walks.{Walkable, walk-all}
use Rattle.promises.proofs.Refused.{refused-walk}

-- a walk of the same frames, so many octets further on
pub record Moved (k : ℕ) (w v : Walked) : Type 0 where
  pub end : v.end ≡ w.end
  pub place : v.place ≡ k + w.place
  pub bit : v.bit ≡ w.bit
  pub frames : length v.frames ≡ length w.frames
  pub samples : samples_kept v.frames ≡ samples_kept w.frames

moved_as : {k : ℕ} {w v u : Walked} → u ≡ v → Moved k w v → Moved k w u
moved_as e m = rw e m

module _ (a b : List ℕ) (law set : ℕ) where
  behind : (q : ℕ) → drop (length a + q) (a ++ b) ≡ drop q b
  behind q = sym (drop-drop q (length a) (a ++ b)) ∙ ap (λ (x : List ℕ). drop q x) (drop_at a b (length a) refl)

  -- the frames of the first octets stand, whatever follows
  ahead : {n at room : ℕ} {w : Walked} → Walks a law set n at room w → w.end ≡ Ok tt → Walks (a ++ b) law set (length w.frames) at room w
  ahead last e = last
  ahead (ended h) e = last
  ahead (refused h r) e = let z : ◌≡◌ {A = ℕ} 0 1 = cc in absurd (omega arith)
  ahead {at = at} {room} (delivers {f = f} {j = j} h r t) e =
      let d : drop at (a ++ b) ≡ drop at a ++ b = drop-append-le at a b (omega arith) in
      let no : (i : ℕ) → read_one (drop at a) law set room ≡ refuse Short i → ⊥ = λ i s. let z : ◌≡◌ {A = ℕ} 0 1 = cc in
      absurd (omega arith) in
      let same = ap (λ (x : List ℕ). read_one x law set room) d ∙ looks-no-further (drop at a) b law set room no ∙ r in
      let inside : at < length (a ++ b) = omega (arith, length-append a b) in
      delivers inside same (ahead t e)

  -- those of the second octets stand further on
  shift : {n q room : ℕ} {w : Walked} → Walks b law set n q room w → Moved (length a) w (walk_from n (a ++ b) law set (length a + q) room)
  unfolding samples_kept
  shift {q = q} {room} last =
      moved_as (walk-last (a ++ b) law set 0 (length a + q) room refl)
      (record { end = refl; place = refl; bit = refl; frames = refl; samples = refl })
  shift {n} {q} {room} (ended h) =
      moved_as (walk-ended (a ++ b) law set n (length a + q) room (omega (arith, length-append a b)))
      (record { end = refl; place = refl; bit = refl; frames = refl; samples = refl })
  shift {n = suc n} {q} {room} (refused {w = w} {bit = bit} h r) =
      let same = ap (λ (x : List ℕ). read_one x law set room) (behind q) ∙ r in
      moved_as (walk-off (a ++ b) law set (suc n) n (length a + q) room refl (omega (arith, length-append a b)) bit w same)
      (record { end = refl; place = refl; bit = refl; frames = refl; samples = refl })
  shift {n = suc n} {q} {room} (delivers {f = f} h r t) =
      let same = ap (λ (x : List ℕ). read_one x law set room) (behind q) ∙ r in
      let m = shift t in
      let next : length a + (q + octets_used f) ≡ length a + q + octets_used f = omega arith in
      moved_as
      (walk-one (a ++ b) law set (suc n) n (length a + q) room refl (omega (arith, length-append a b)) (length a + (q + octets_used f))
      (room - length f.samples) f same next refl)
      (record {
        end = m.end;
        place = m.place;
        bit = m.bit;
        frames = ap suc m.frames;
        samples = ap (λ (x : List ℕ). f.samples ++ x) m.samples;
      })

-- room is never short
abbrev pub walk_of : List ℕ → ℕ → ℕ → Walked
walk_of octets law set = walk_all octets law set (320 * length octets)

pub record Joined (a b : List ℕ) (law set : ℕ) (w : Walked) : Type 0 where
  pub end : w.end ≡ (walk_of b law set).end
  pub place : w.place ≡ length a + (walk_of b law set).place
  pub bit : w.bit ≡ (walk_of b law set).bit
  pub frames : length w.frames ≡ length (walk_of a law set).frames + length (walk_of b law set).frames
  pub samples : samples_kept w.frames ≡ samples_kept (walk_of a law set).frames ++ samples_kept (walk_of b law set).frames

pub joined : (a b : List ℕ) (law set : ℕ) → Walkable (a ++ b) law set → (walk_of a law set).end ≡ Ok tt
    → Joined a b law set (walk_of (a ++ b) law set)
joined a b law set h e =
    let l = length-append a b in
    let room = 320 * length (a ++ b) in
    let wa = walk_from (suc (length a)) a law set 0 (320 * length a) in
    let first : walk_of a law set ≡ wa =
    walk-all a law set (320 * length a) (record { lawful = h.lawful; small = h.small; short = omega (arith, h.short) }) in
    let second : walk_of b law set ≡ walk_from (suc (length b)) b law set 0 (320 * length b) =
    walk-all b law set (320 * length b) (record { lawful = h.lawful; small = h.small; short = omega (arith, h.short) }) in
    let clean : wa.end ≡ (Ok _) = sym (ap (λ (w : Walked). w.end) first) ∙ e in
    let told = walk-told a law set (suc (length a)) 0 (320 * length a) in
    let n = length wa.frames in
    let few : n ≤ length a = omega (arith, told.some, told.inside) in
    let at : wa.place ≡ length a = omega (arith, told.place, told.inside, told.whole clean (omega (arith, few))) in
    let firstly : walk_from n (a ++ b) law set 0 room ≡ wa =
    walk-roomy (a ++ b) law set n 0 room (320 * length a) (omega (arith, few)) (omega (arith, few))
    ∙ walks-only (a ++ b) law set (ahead a b law set (walks a law set (suc (length a)) 0 (320 * length a)) clean) in
    let m = suc (length (a ++ b)) in
    let left = room - length (samples_kept wa.frames) in
    let all : walk_of (a ++ b) law set ≡ after wa.frames (walk_from m (a ++ b) law set (length a + 0) left) =
    walk-all (a ++ b) law set room h ∙ walk-fuel (a ++ b) law set m (n + m) 0 room (omega arith) (omega arith)
    ∙ walk-on (a ++ b) law set n m 0 room (ap (λ (w : Walked). w.end) firstly ∙ clean)
    ∙ ap (λ (w : Walked). after w.frames (walk_from m (a ++ b) law set w.place (room - length (samples_kept w.frames)))) firstly
    ∙ ap (λ (p : ℕ). after wa.frames (walk_from m (a ++ b) law set p left)) (at ∙ omega arith) in
    let rest : walk_from m b law set 0 left ≡ walk_of b law set =
    walk-fuel b law set m (suc (length b)) 0 left (omega (arith, l)) (omega arith)
    ∙ walk-roomy b law set (suc (length b)) 0 left (320 * length b) (omega (arith, told.held, few, l)) (omega arith) ∙ sym second in
    let v = shift a b law set (walks b law set m 0 left) in
    let over = ap (λ (w : Walked). w.frames) first in
    rw all (record {
      end = v.end ∙ ap (λ (w : Walked). w.end) rest;
      place = v.place ∙ ap (λ (w : Walked). length a + w.place) rest;
      bit = v.bit ∙ ap (λ (w : Walked). w.bit) rest;
      frames =
          length-append wa.frames (walk_from m (a ++ b) law set (length a + 0) left).frames
          ∙ omega (arith, v.frames, ap (λ (w : Walked). length w.frames) rest, ap length over);
      samples =
          samples_kept-append wa.frames (walk_from m (a ++ b) law set (length a + 0) left).frames
          ∙ ap (λ (x : List ℕ). samples_kept wa.frames ++ x) (v.samples ∙ ap (λ (w : Walked). samples_kept w.frames) rest)
          ∙ ap (λ (x : List ℕ). x ++ samples_kept (walk_of b law set).frames) (sym (ap samples_kept over));
    })

-- octets cut where their walk ended
pub record CutClean (w : List ℕ) (law set : ℕ) (x : List ℕ) : Type 0 where
  pub size : length x ≡ (walk_of w law set).place
  pub clean : (walk_of x law set).end ≡ Ok tt
  pub frames : (walk_of x law set).frames ≡ (walk_of w law set).frames

pub walk-place : (w : List ℕ) (law set : ℕ) → Walkable w law set → (walk_of w law set).place ≤ length w
walk-place w law set h =
    let t = walk-told w law set (suc (length w)) 0 (320 * length w) in
    let e = ap (λ (v : Walked). v.place) (walk-all w law set (320 * length w) h) in
    omega (arith, e, t.place, t.inside)

pub cut-clean : (w : List ℕ) (law set : ℕ) → Walkable w law set → CutClean w law set (take (walk_of w law set).place w)
cut-clean w law set h = go (walk_of w law set).end refl
  where
    long : length (take (walk_of w law set).place w) ≡ (walk_of w law set).place
    long = length-take-le (walk_of w law set).place w (walk-place w law set h)

    done : (walk_of w law set).end ≡ Ok tt → (walk_of w law set).place ≡ length w
    done e =
        let whole = walk-all w law set (320 * length w) h in
        let t = walk-told w law set (suc (length w)) 0 (320 * length w) in
        let f = sym (ap (λ (v : Walked). v.end) whole) ∙ e in
        let p = ap (λ (v : Walked). v.place) whole in
        omega (arith, p, t.place, t.inside, t.some, t.whole f (omega (arith, t.some, t.inside)))

    go : (e : Ending) → (walk_of w law set).end ≡ e → CutClean w law set (take (walk_of w law set).place w)
    go (Ok tt) e =
        let same : take (walk_of w law set).place w ≡ w = ap (λ (k : ℕ). take k w) (done e) ∙ take-length w in
        record {
          size = long;
          clean = ap (λ (x : List ℕ). (walk_of x law set).end) same ∙ e;
          frames = ap (λ (x : List ℕ). (walk_of x law set).frames) same;
        }
    go (Err r) e =
        let x = take (walk_of w law set).place w in
        let k = (refused-walk w law set (320 * length w) r h e).kept in
        let ok : Walkable x law set =
        record { lawful = h.lawful; small = h.small; short = omega (arith, long, walk-place w law set h, h.short) } in
        let room : walk_of x law set ≡ walk_all x law set (320 * length w) =
        walk-all x law set (320 * length x) ok
        ∙ walk-roomy x law set (suc (length x)) 0 (320 * length x) (320 * length w) (omega arith)
        (omega (arith, long, walk-place w law set h)) ∙ sym (walk-all x law set (320 * length w) ok) in
        record {
          size = long;
          clean = ap (λ (v : Walked). v.end) (room ∙ k);
          frames = ap (λ (v : Walked). v.frames) (room ∙ k);
        }
