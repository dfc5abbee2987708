-- Streams joined: a walk that ends clean has gone through all its octets (`clean`), and over those octets and more it delivers the same
-- frames first, and then goes on (`joined`). What a walk keeps is a stream of its own (`kept-walks`).
use Prim.Native.Nat.{ℕ, ◌+◌, ◌-◌, ◌≤◌}
use native.Mathlib.Omega.{arith}
use mathlib.Core.Path.{◌≡◌, refl, sym, ◌∙◌}
use mathlib.Core.List.{List, ◌++◌}
use lib.ListN.{length, take, drop, length-append}
use lib.Seq.{drop-append-le, take_all}
use Rattle.rules.specs.Refusals.{Ending}
use Rattle.std.proofs.Common.{Ok, Err}
use Rattle.rules.specs.Reading.{whole}
use Rattle.rules.specs.Frame.{read_one}
use Rattle.rules.specs.Walk.{Walked, walk_all, octets_kept, samples_kept}
use Rattle.rules.proofs.Walk.{after}
use Rattle.rules.proofs.Gives.{no-refusal}
use Rattle.promises.proofs.Further.{looks-no-further}
use Rattle.promises.proofs.Walks.{WalkOf, ended, refused, delivers, uses, Walkable, walk-all-of}
use Rattle.promises.proofs.Refused.{refused-walk}

-- a walk that ends clean, from place `at` on
pub record Clean (octets : List ℕ) (at : ℕ) (w : Walked) : Type 0 where
  pub used : at + octets_kept w.frames ≡ length octets
  pub place : w.place ≡ length octets
  pub bit : w.bit ≡ 0

pub clean : {octets : List ℕ} {law set at room : ℕ} {w : Walked} → WalkOf octets law set at room w → at ≤ length octets
    → w.end ≡ Ok tt → Clean octets at w
unfolding octets_kept
clean (ended h) l e = record { used = omega arith; place = omega arith; bit = refl }
clean (refused h d) l e = let z : ◌≡◌ {A = ℕ} 0 1 = cc in absurd (omega arith)
clean {octets} {law} {set} {at} {room} (delivers h d t) l e =
    let i = clean t (uses octets law set at room h d).1 e in
    record { used = omega (arith, i.used); place = i.place; bit = i.bit }

pub joined : {p : List ℕ} {law set at room : ℕ} {w : Walked} (q : List ℕ) {v : Walked} → WalkOf p law set at room w
    → at ≤ length p → w.end ≡ Ok tt
    → WalkOf (p ++ q) law set (length p) (room - length (samples_kept w.frames)) v → WalkOf (p ++ q) law set at room (after w.frames v)
unfolding samples_kept
joined {p} {law} {set} {at} {room} q {v} (ended h) l e on =
    let here : length p ≡ at = omega arith in
    let all : room - 0 ≡ room = omega arith in
    rw (here, all) at on
joined q (refused h d) l e on = let z : ◌≡◌ {A = ℕ} 0 1 = cc in absurd (omega arith)
joined {p} {law} {set} {at} {room} q {v} (delivers {f = f} {j = j} {rest = w} h d t) l e on =
    let s : drop at (p ++ q) ≡ drop at p ++ q = drop-append-le at p q (omega arith) in
    let same : read_one (drop at (p ++ q)) law set room ≡ whole f j
    = rw s (looks-no-further (drop at p) q law set room (λ k x. no-refusal (sym x ∙ d)) ∙ d) in
    let m : room - length (f.samples ++ samples_kept w.frames) ≡ room - length f.samples - length (samples_kept w.frames)
    = omega (arith, length-append f.samples (samples_kept w.frames)) in
    delivers {at = at} (omega (arith, length-append p q)) same (joined q t (uses p law set at room h d).1 e (rw m at on))

walked-is : (w : Walked) {e : Ending} {p b : ℕ} → w.end ≡ e → w.place ≡ p → w.bit ≡ b
    → w ≡ record { frames = w.frames; end = e; place = p; bit = b }
walked-is w h k l = rw (← h, ← k, ← l) refl

-- what a walk keeps, as a stream of its own
pub record KeepsOwn (octets : List ℕ) (law set room : ℕ) (w : Walked) : Type 0 where
  pub inside : octets_kept w.frames ≤ length octets
  pub walks : walk_all (take (octets_kept w.frames) octets) law set room
      ≡ record { frames = w.frames; end = Ok tt; place = octets_kept w.frames; bit = 0 }

pub kept-walks : (octets : List ℕ) (law set room : ℕ) → Walkable octets law set → KeepsOwn octets law set room (walk_all octets law set room)
kept-walks octets law set room t = go (walk_all octets law set room).end refl
  where
    w : Walked
    w = walk_all octets law set room

    go : (e : Ending) → w.end ≡ e → KeepsOwn octets law set room w
    go (Ok tt) e =
        let c = clean (walk-all-of octets law set room t) (omega arith) e in
        let all : take (octets_kept w.frames) octets ≡ octets = take_all (octets_kept w.frames) octets (omega (arith, c.used)) in
        record { inside = omega (arith, c.used); walks = rw all (walked-is w e (omega (arith, c.place, c.used)) c.bit) }
    go (Err why) e =
        let r = refused-walk octets law set room why t e in
        record { inside = omega (arith, r.inside, r.used); walks = rw r.used r.kept }
