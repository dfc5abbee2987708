-- The cuts of a sound: the next one and then those of the rest; together they are the start of the sound.
use Prim.Native.Nat.{ℕ, zero, suc, ◌+◌, ◌*◌, ◌-◌, ◌≤◌}
use native.Mathlib.Omega.{arith}
use mathlib.Core.Path.{◌≡◌, refl, sym, ap, ◌∙◌}
use mathlib.Core.List.{List, [], ◌∷◌, ◌++◌}
use mathlib.Core.Bool.{Bool, true, false, cond}
use lib.ListN.{length, take, drop, length-append, length-drop, length-take, take-append-drop}
use lib.Seq.{take-add, take_all, length-take-le, take-append-le, drop-append-le}
use lib.Dec.{eqb}
use borrow.Author.Tests.{ne_eqb, eqb-false}
use Rattle.rules.specs.Tools.{is_length}
use Rattle.rules.proofs.Tests.{by_length}
use Rattle.tool_packing.specs.Cuts.{next_length, cuts_from, cuts, sound_in}
use Rattle.tool_packing.proofs.Lengths.{next-none, next_fits, next-whole}

-- more than enough cuts no more
enough : (a b n : ℕ) (s : List ℕ) → length s ≤ a → length s ≤ b → cuts_from a n s ≡ cuts_from b n s
unfolding cuts_from
enough zero zero n s h k = refl
enough zero (suc b) n s h k = let e : next_length n (length s) ≡ 0 = next-none n (length s) (omega arith) in rw e
enough (suc a) zero n s h k = let e : next_length n (length s) ≡ 0 = next-none n (length s) (omega arith) in rw e
enough (suc a) (suc b) n s h k =
    let l = next_length n (length s) in
    go l (eqb l 0) refl (λ z. enough a b n (drop l s) (omega (arith, length-drop l s, z)) (omega (arith, length-drop l s, z)))
  where
    go : (l : ℕ) (t : Bool) → eqb l 0 ≡ t → (1 ≤ l → cuts_from a n (drop l s) ≡ cuts_from b n (drop l s))
        → cond t [] (take l s ∷ cuts_from a n (drop l s)) ≡ cond t [] (take l s ∷ cuts_from b n (drop l s))
    go l true e f = refl
    go l false e f = let z = eqb-false l 0 e in ap (λ (x : List (List ℕ)). take l s ∷ x) (f (omega (arith, z)))

-- where no length fits there is no cut
pub cuts-none : (n : ℕ) (s : List ℕ) → next_length n (length s) ≡ 0 → cuts n s ≡ []
unfolding cuts cuts_from
cuts-none n s e = enough (length s) (suc (length s)) n s (omega arith) (omega arith) ∙ rw e

-- a cut, and then those of the rest
pub cuts-next : (n l : ℕ) (s : List ℕ) → next_length n (length s) ≡ l → 1 ≤ l → cuts n s ≡ take l s ∷ cuts n (drop l s)
unfolding cuts cuts_from
cuts-next n l s e h =
    enough (length s) (suc (length s)) n s (omega arith) (omega arith) ∙ rw (e, ne_eqb l 0 (omega arith))
    (ap (λ (x : List (List ℕ)). take l s ∷ x)
    (enough (length s) (length (drop l s)) n (drop l s) (omega (arith, length-drop l s)) (omega arith)))

-- what the cuts hold is the start of the sound
start-from : (a n : ℕ) (s : List ℕ) → sound_in (cuts_from a n s) ≡ take (length (sound_in (cuts_from a n s))) s
unfolding cuts_from sound_in
start-from zero n s = refl
start-from (suc a) n s =
    let l = next_length n (length s) in
    go l refl (eqb l 0) refl (start-from a n (drop l s))
  where
    go : (l : ℕ) → l ≡ next_length n (length s) → (t : Bool) → eqb l 0 ≡ t
        → sound_in (cuts_from a n (drop l s)) ≡ take (length (sound_in (cuts_from a n (drop l s)))) (drop l s)
        → sound_in (cond t [] (take l s ∷ cuts_from a n (drop l s))) ≡ take
        (length (sound_in (cond t [] (take l s ∷ cuts_from a n (drop l s))))) s
    go l q true e ih = refl
    go l q false e ih =
        let z = eqb-false l 0 e in
        let f = next_fits n (length s) l q (omega (arith, z)) in
        let rest = sound_in (cuts_from a n (drop l s)) in
        let k : length (take l s ++ rest) ≡ l + length rest =
        length-append (take l s) rest ∙ ap (λ (x : ℕ). x + length rest) (length-take-le l s f.within) in
        ap (λ (x : List ℕ). take l s ++ x) ih ∙ sym (take-add l (length rest) s) ∙ ap (λ (x : ℕ). take x s) (sym k)

pub cuts-start : (n : ℕ) (s : List ℕ) → sound_in (cuts n s) ≡ take (length (sound_in (cuts n s))) s
unfolding cuts
cuts-start n s = start-from (length s) n s

-- so it is the sound where nothing is left
pub cuts-whole : (n : ℕ) (s : List ℕ) → length s - length (sound_in (cuts n s)) ≡ 0 → sound_in (cuts n s) ≡ s
cuts-whole n s h = cuts-start n s ∙ take_all (length (sound_in (cuts n s))) s (omega arith)

-- Parts: a sound whose length is a multiple of the frame length, and more after it, is cut as that sound and then as what comes after it
pub cuts-parts : (n k : ℕ) (a b : List ℕ) → is_length n ≡ true → length a ≡ k * n → cuts n (a ++ b) ≡ cuts n a ++ cuts n b
cuts-parts n zero [] b i e = ap (λ (x : List (List ℕ)). x ++ cuts n b) (sym (cuts-none n [] (next-none n 0 (omega arith))))
cuts-parts n zero (x ∷ a) b i e = absurd (omega arith)
cuts-parts n (suc k) a b i e =
    let m : 1 ≤ n = by_length (λ n. 1 ≤ n) (omega arith) (omega arith) (omega arith) (omega arith) (omega arith) n i in
    let whole : n ≤ length a = omega (arith, e) in
    let more : n ≤ length (a ++ b) = omega (arith, whole, length-append a b) in
    let rest : length (drop n a) ≡ k * n = length-drop n a ∙ omega (arith, e) in
    cuts-next n n (a ++ b) (next-whole n (length (a ++ b)) i more) m
    ∙ ap (λ (x : List ℕ). x ∷ cuts n (drop n (a ++ b))) (take-append-le n a b whole)
    ∙ ap (λ (x : List ℕ). take n a ∷ cuts n x) (drop-append-le n a b whole)
    ∙ ap (λ (x : List (List ℕ)). take n a ∷ x) (cuts-parts n k (drop n a) b i rest)
    ∙ ap (λ (x : List (List ℕ)). x ++ cuts n b) (sym (cuts-next n n a (next-whole n (length a) i whole) m))

-- there are at most as many cuts as octets, and they hold no more than the sound
few-from : (a n : ℕ) (s : List ℕ) → length s ≤ a → length (cuts_from a n s) ≤ length s
unfolding cuts_from
few-from zero n s h = omega arith
few-from (suc a) n s h =
    let l = next_length n (length s) in
    go l refl (eqb l 0) refl (λ z. few-from a n (drop l s) (omega (arith, length-drop l s, z)))
  where
    go : (l : ℕ) → l ≡ next_length n (length s) → (t : Bool) → eqb l 0 ≡ t → (1 ≤ l → length (cuts_from a n (drop l s)) ≤ length (drop l s))
        → length (cond t [] (take l s ∷ cuts_from a n (drop l s))) ≤ length s
    go l q true e ih = omega arith
    go l q false e ih =
        let z = eqb-false l 0 e in
        let some : 1 ≤ l = omega (arith, z) in
        omega (arith, ih some, length-drop l s, (next_fits n (length s) l q some).within, some)

pub cuts-few : (n : ℕ) (s : List ℕ) → length (cuts n s) ≤ length s
unfolding cuts
cuts-few n s = few-from (length s) n s (omega arith)

pub cuts-inside : (n : ℕ) (s : List ℕ) → length (sound_in (cuts n s)) ≤ length s
cuts-inside n s = omega (arith, ap length (cuts-start n s) ∙ length-take (length (sound_in (cuts n s))) s)

-- of such a sound nothing is left
pub cuts-multiple : (n k : ℕ) (a : List ℕ) → is_length n ≡ true → length a ≡ k * n → sound_in (cuts n a) ≡ a
unfolding sound_in
cuts-multiple n zero [] i e = ap sound_in (cuts-none n [] (next-none n 0 (omega arith)))
cuts-multiple n zero (x ∷ a) i e = absurd (omega arith)
cuts-multiple n (suc k) a i e =
    let m : 1 ≤ n = by_length (λ n. 1 ≤ n) (omega arith) (omega arith) (omega arith) (omega arith) (omega arith) n i in
    let whole : n ≤ length a = omega (arith, e) in
    let rest : length (drop n a) ≡ k * n = length-drop n a ∙ omega (arith, e) in
    ap sound_in (cuts-next n n a (next-whole n (length a) i whole) m)
    ∙ ap (λ (x : List ℕ). take n a ++ x) (cuts-multiple n k (drop n a) i rest) ∙ take-append-drop n a
