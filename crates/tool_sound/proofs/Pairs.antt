-- Octets in pairs: lengths and elements; a list laid into a lent one, element by element; and a value from its octets.
use Prim.Native.Nat.{ℕ, zero, suc, ◌+◌, ◌*◌, ◌/◌, ◌≤◌, ◌<◌}
use native.Mathlib.Nat.{zero-add}
use native.Mathlib.Numerals.{add-one}
use mathlib.Core.Path.{◌≡◌, refl, sym, ap, ◌∙◌}
use mathlib.Core.List.{List, [], ◌∷◌, ◌++◌, map}
use native.Mathlib.Omega.{arith}
use lib.IntN.{ℤ, pos}
use lib.ListN.{length, take, drop, get_or, set, length-map, get_or-map}
use lib.Seq.{paste, paste-suc, length-paste}
use Rattle.tool_sound.specs.Masters.{value_of, low_of, high_of, values_of, pairs_of, sample_for, value_for, sound_of, master_of}

pub values_length : (m : List ℕ) → length (values_of m) ≡ length m / 2
unfolding values_of
values_length [] = refl
values_length (low ∷ []) = refl
values_length (low ∷ high ∷ rest) = let k = values_length rest in omega arith

values-at : (m : List ℕ) (i : ℕ) → i < length m / 2 → get_or (values_of m) i (pos 0) ≡ value_of (get_or m (2 * i) 0) (get_or m (2 * i + 1) 0)
unfolding values_of
values-at [] i h = absurd (omega arith)
values-at (low ∷ []) i h = absurd (omega arith)
values-at (low ∷ high ∷ rest) zero h = refl
values-at (low ∷ high ∷ rest) (suc i) h =
    let a : 2 * suc i ≡ suc (suc (2 * i)) = omega arith in
    let b : 2 * suc i + 1 ≡ suc (suc (2 * i + 1)) = omega arith in
    rw (b, a) (values-at rest i (omega arith))

pub pairs-length : (v : List ℤ) → length (pairs_of v) ≡ 2 * length v
unfolding pairs_of
pairs-length [] = refl
pairs-length (v ∷ rest) = let k = pairs-length rest in omega arith

pairs-low : (z : ℤ) (v : List ℤ) (i : ℕ) → i < length v → get_or (pairs_of v) (2 * i) 0 ≡ low_of (get_or v i z)
unfolding pairs_of
pairs-low z [] i h = absurd (omega arith)
pairs-low z (v ∷ rest) zero h = refl
pairs-low z (v ∷ rest) (suc i) h =
    let a : 2 * suc i ≡ suc (suc (2 * i)) = omega arith in
    rw a (pairs-low z rest i (omega arith))

pairs-high : (z : ℤ) (v : List ℤ) (i : ℕ) → i < length v → get_or (pairs_of v) (2 * i + 1) 0 ≡ high_of (get_or v i z)
unfolding pairs_of
pairs-high z [] i h = absurd (omega arith)
pairs-high z (v ∷ rest) zero h = refl
pairs-high z (v ∷ rest) (suc i) h =
    let b : 2 * suc i + 1 ≡ suc (suc (2 * i + 1)) = omega arith in
    rw b (pairs-high z rest i (omega arith))

-- one element more
lay : (s d : List ℕ) (i v z : ℕ) → i < length s → i < length d → v ≡ get_or s i z → set (paste d 0 s i) i v ≡ paste d 0 s (i + 1)
lay s d i v z h g e =
    let k : 0 + i ≡ i = zero-add i in
    ap (λ (n : ℕ). set (paste d 0 s i) n v) (sym k) ∙ ap (λ (w : ℕ). set (paste d 0 s i) (0 + i) w) e
    ∙ paste-suc d 0 s i z (omega arith) h ∙ ap (paste d 0 s) (sym (add-one i))

pub laid : (s d : List ℕ) (i : ℕ) → paste d 0 s i ≡ take i s ++ drop i d
laid s d i = ap (λ k. take i s ++ drop k d) (zero-add i)

pub laid-length : (s d : List ℕ) (i : ℕ) → i ≤ length s → i ≤ length d → length (paste d 0 s i) ≡ length d
laid-length s d i h g = length-paste d 0 s i (omega arith) h

pub sound-length : (law : ℕ) (m : List ℕ) → length (sound_of law m) ≡ length m / 2
sound-length law m = length-map (values_of m) (sample_for law) ∙ values_length m

pub master-length : (law : ℕ) (s : List ℕ) → length (master_of law s) ≡ 2 * length s
master-length law s = pairs-length (map (value_for law) s) ∙ ap (λ (n : ℕ). 2 * n) (length-map s (value_for law))

-- one sample more
pub sound-turn : (law : ℕ) (m d : List ℕ) (i v : ℕ) → i < length m / 2 → i < length d
    → v ≡ sample_for law (value_of (get_or m (2 * i) 0) (get_or m (2 * i + 1) 0))
    → set (paste d 0 (sound_of law m) i) i v ≡ paste d 0 (sound_of law m) (i + 1)
sound-turn law m d i v h g e =
    lay (sound_of law m) d i v (sample_for law (pos 0)) (omega (arith, sound-length law m)) g
    (e ∙ ap (sample_for law) (sym (values-at m i h)) ∙ sym (get_or-map (sample_for law) (values_of m) i (pos 0)))

-- one value more, two octets
pub master-turn : (law : ℕ) (s d : List ℕ) (i : ℕ) {low high : ℕ} → i < length s → 2 * i + 1 < length d
    → low ≡ low_of (value_for law (get_or s i 0)) → high ≡ high_of (value_for law (get_or s i 0))
    → set (set (paste d 0 (master_of law s) (2 * i)) (2 * i) low) (2 * i + 1) high ≡ paste d 0 (master_of law s) (2 * (i + 1))
master-turn law s d i {low} {high} h g is_low is-high =
    let vs = map (value_for law) s in
    let k : i < length vs = omega (arith, length-map s (value_for law)) in
    let f = get_or-map (value_for law) s i 0 in
    let n = master-length law s in
    let a = is_low ∙ ap low_of (sym f) ∙ sym (pairs-low (value_for law 0) vs i k) in
    let b = is-high ∙ ap high_of (sym f) ∙ sym (pairs-high (value_for law 0) vs i k) in
    let z : 2 * (i + 1) ≡ 2 * i + 1 + 1 = omega arith in
    ap (λ (l : List ℕ). set l (2 * i + 1) high) (lay (master_of law s) d (2 * i) low 0 (omega arith) (omega arith) a)
    ∙ lay (master_of law s) d (2 * i + 1) high 0 (omega arith) g b ∙ ap (paste d 0 (master_of law s)) (sym z)
