-- What frames hold, and frames after others.
use Prim.Native.Nat.{ℕ}
use mathlib.Core.Path.{◌≡◌, refl, sym, ap, ◌∙◌}
use mathlib.Core.List.{List, [], ◌∷◌, ◌++◌, append_assoc, append-nil}
use Rattle.tool_packing.specs.Cuts.{sound_in}
use Rattle.tool_packing.specs.Packing.{stream_of, form_octets, Packed, before}

pub sound_in-append : (a b : List (List ℕ)) → sound_in (a ++ b) ≡ sound_in a ++ sound_in b
unfolding sound_in
sound_in-append [] b = refl
sound_in-append (s ∷ a) b = rw (sound_in-append a b, append_assoc)

pub stream_of-append : (law set : ℕ) (a b : List (List ℕ)) → stream_of law set (a ++ b) ≡ stream_of law set a ++ stream_of law set b
unfolding stream_of
stream_of-append law set [] b = refl
stream_of-append law set (s ∷ a) b = rw (stream_of-append law set a b, append_assoc)

-- one frame more
pub sound_in-more : (a : List (List ℕ)) (s : List ℕ) → sound_in (a ++ (s ∷ [])) ≡ sound_in a ++ s
unfolding sound_in
sound_in-more a s = sound_in-append a (s ∷ []) ∙ ap (λ (x : List ℕ). sound_in a ++ x) (append-nil s)

pub stream_of-more : (law set : ℕ) (a : List (List ℕ)) (s : List ℕ)
    → stream_of law set (a ++ (s ∷ [])) ≡ stream_of law set a ++ form_octets law set s
unfolding stream_of
stream_of-more law set a s = stream_of-append law set a (s ∷ [])
    ∙ ap (λ (x : List ℕ). stream_of law set a ++ x) (append-nil (form_octets law set s))

-- frames, and then the rest
abbrev pub after : List (List ℕ) → Packed → Packed
after done p = record { frames = done ++ p.frames; end = p.end }

pub after-before : (done : List (List ℕ)) (s : List ℕ) (p : Packed) → after done (before s p) ≡ after (done ++ (s ∷ [])) p
after-before done s p = ap (λ (l : List (List ℕ)). record { frames = l; end = p.end }) (sym (append_assoc done (s ∷ []) p.frames))
