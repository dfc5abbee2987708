-- Laws of texts: whether two are the same, place by place; a text laid into a lent output.
use Prim.Native.Nat.{ℕ, suc, ◌+◌, ◌-◌, ◌≤◌, ◌<◌}
use mathlib.Core.Path.{◌≡◌, refl, sym, ap, subst, ◌∙◌}
use mathlib.Core.List.{List, [], ◌∷◌, ◌++◌, append_assoc, append-nil}
use mathlib.Core.Bool.{Bool, true, false, cond, ◌&&◌}
use native.Mathlib.Omega.{arith}
use native.Mathlib.Numerals.{add-one}
use lib.ListN.{length, get_or, take, drop, length-append, length-drop, drop_of_length-le}
use lib.Seq.{drop-cons, take-length, take_at, drop_at, drop-drop}
use lib.Dec.{eqb, leb}
use lib.Pointwise.{pointwise}
use borrow.Author.Tests.{eq-eqb, ne_eqb, eqb-true, le-leb, lt-leb, leb-true}
use Rattle.rules.proofs.Lent.{from_on}
use Rattle.std.specs.Prelude.{Option, Some, None, IfSome}
use Rattle.tool_words.specs.Texts.{same, Laid}

-- texts of different lengths differ
pub same-lengths : (a b : List ℕ) → (length a ≡ length b → ⊥) → same a b ≡ false
unfolding same
same-lengths [] [] h = absurd (h refl)
same-lengths [] (y ∷ b) h = refl
same-lengths (x ∷ a) [] h = refl
same-lengths (x ∷ a) (y ∷ b) h = rw (same-lengths a b (λ e. h (ap suc e))) (go (eqb x y))
  where
    go : (t : Bool) → (t && false) ≡ false
    go true = refl
    go false = refl

module _ (a b : List ℕ) (i : ℕ) (p : i < length a) (q : i < length b) where
  -- an octet that is the same
  pub same_step : get_or a i 0 ≡ get_or b i 0 → same (drop i a) (drop i b) ≡ same (drop (i + 1) a) (drop (i + 1) b)
  unfolding same
  same_step e = rw (add-one, drop-cons a i 0 p, drop-cons b i 0 q, eq-eqb _ _ e)

  -- an octet that differs
  pub same-differ : (get_or a i 0 ≡ get_or b i 0 → ⊥) → same (drop i a) (drop i b) ≡ false
  unfolding same
  same-differ e = rw (drop-cons a i 0 p, drop-cons b i 0 q, ne_eqb _ _ e)

pub same_end : (a b : List ℕ) (i : ℕ) → length a ≤ i → length b ≤ i → same (drop i a) (drop i b) ≡ true
unfolding same
same_end a b i p q = rw (drop_of_length-le a p, drop_of_length-le b q)

-- the library compares two texts octet by octet too
pub same_pointwise : (a b : List ℕ) → pointwise eqb a b ≡ same a b
unfolding same
same_pointwise [] [] = refl
same_pointwise [] (y ∷ b) = refl
same_pointwise (x ∷ a) [] = refl
same_pointwise (x ∷ a) (y ∷ b) = ap (λ t. eqb x y && t) (same_pointwise a b)

-- what is the same is equal
pub same-equal : (a b : List ℕ) → same a b ≡ true → a ≡ b
unfolding same
same-equal [] [] e = refl
same-equal [] (y ∷ b) e = let z : ◌≡◌ {A = ℕ} 0 1 = cc in absurd (omega arith)
same-equal (x ∷ a) [] e = let z : ◌≡◌ {A = ℕ} 0 1 = cc in absurd (omega arith)
same-equal (x ∷ a) (y ∷ b) e = go (eqb x y) refl (same-equal a b) e
  where
    go : (t : Bool) → eqb x y ≡ t → (same a b ≡ true → a ≡ b) → (t && same a b) ≡ true → x ∷ a ≡ y ∷ b
    go true p rest q = rw (eqb-true x y p, rest q)
    go false p rest q = let z : ◌≡◌ {A = ℕ} 0 1 = cc in absurd (omega arith)

-- two parts of a text are laid one after the other
module _ (first second out : List ℕ) where
  abbrev text : List ℕ
  text = first ++ second

  pub lay-parts : (o p : List ℕ) → o ≡ take (length first) first ++ drop (length first) out
      → p ≡ take (length second) second ++ drop (length second) (take (length o - length first) (drop (length first) o))
      → take (length first) o ++ (p ++ drop (length o - length first) (drop (length first) o)) ≡ first
      ++ (second ++ drop (length first + length second) out)
  lay-parts o p e f =
      let q : o ≡ first ++ drop (length first) out = e ∙ ap (λ (l : List ℕ). l ++ drop (length first) out) (take-length first) in
      let front : take (length first) o ≡ first = ap (take (length first)) q
      ∙ take_at first (drop (length first) out) (length first) refl in
      let back : drop (length first) o ≡ drop (length first) out = ap (drop (length first)) q
      ∙ drop_at first (drop (length first) out) (length first) refl in
      let none : drop (length o - length first) (drop (length first) o) ≡ [] = drop_of_length-le (drop (length first) o)
      {i = length o - length first} (omega (arith, length-drop (length first) o)) in
      rw (none, append-nil, f, from_on o (length first), take-length, front, back, drop-drop)

  pub lay-whole : {n : ℕ} {after : List ℕ} → length first + length second ≤ length out → n ≡ length first + length second
      → after ≡ first ++ (second ++ drop n out) → Laid text out after (Some n)
  lay-whole {n} {after} h e l =
      let k : length text ≡ length first + length second = length-append first second in
      let t : length text ≤ length out = omega (arith, k) in
      record {
        count = rw (le-leb (length text) (length out) t) (ap Some (e ∙ sym k));
        lent = rw (le-leb (length text) (length out) t)
            (l ∙ sym (append_assoc first second (drop n out)) ∙ ap (λ (m : ℕ). text ++ drop m out) (e ∙ sym k));
      }

  pub lay-none : length out < length first + length second → Laid text out out None
  lay-none h =
      let t : length out < length text = omega (arith, length-append first second) in
      record { count = rw (lt-leb (length text) (length out) t); lent = rw (lt-leb (length text) (length out) t) }

-- what is laid of an equal text
pub laid_as : {a b out out' : List ℕ} {r : Option ℕ} → a ≡ b → Laid a out out' r → Laid b out out' r
laid_as {out = out} {out' = out'} {r = r} e t = subst (λ (l : List ℕ). Laid l out out' r) e t

-- what is laid fits
pub laid-fits : {text out out' : List ℕ} {r : Option ℕ} → Laid text out out' r → length out' ≡ length out → IfSome r (λ n. n ≤ length out')
laid-fits {text} {out} {out'} {r} t n = subst (λ (o : Option ℕ). IfSome o (λ m. m ≤ length out')) (sym t.count) (go (leb (length text) (length out)) refl)
  where
    go : (b : Bool) → leb (length text) (length out) ≡ b → IfSome (cond b (Some (length text)) None) (λ m. m ≤ length out')
    go true h = omega (arith, leb-true (length text) (length out) h)
    go false h = tt
