-- A lent output that is filled from its start on: what is kept so far, and then the rest as lent (Lent); and one that is filled with an
-- octet from a place on (Filling), or with what a list is mapped to (mapped-turn, mapped-whole).
use Prim.Native.Nat.{ℕ, suc, ◌+◌, ◌-◌, ◌≤◌, ◌<◌}
use mathlib.Core.Path.{◌≡◌, refl, sym, ap, ◌∙◌}
use mathlib.Core.List.{List, [], ◌++◌, map, append_assoc, append-nil}
use native.Mathlib.Omega.{arith}
use native.Mathlib.Nat.{zero-add}
use native.Mathlib.Numerals.{add-one}
use lib.ListN.{length, take, drop, set, replicate, length-append, length-drop, length-replicate, take-append-drop, drop_of_length-le}
use lib.ListN.{get_or, get_or-replicate, length-map, get_or-map}
use lib.Seq.{take_at, drop_at, drop-drop, take_all, paste, paste-zero, paste-suc, length-paste}
use Rattle.rules.specs.Calls.{at_start}

-- the part of a list from a place on, as it is lent to a call: whole, with nothing after it
pub from_on : (l : List ℕ) (at : ℕ) → take (length l - at) (drop at l) ≡ drop at l
from_on l at = take_all (length l - at) (drop at l) (omega (arith, length-drop at l))

pub back_on : (l : List ℕ) (at : ℕ) (rest : List ℕ) → rest ++ drop (length l - at) (drop at l) ≡ rest
back_on l at rest = rw (drop_of_length-le (drop at l) {i = length l - at} (omega (arith, length-drop at l)), append-nil rest)

-- what is the same from a on is so from b on
pub drop-further : (x y : List ℕ) (a b : ℕ) → a ≤ b → drop a x ≡ drop a y → drop b x ≡ drop b y
drop-further x y a b h e =
    let far : a + (b - a) ≡ b = omega arith in
    rw far at (sym (drop-drop (b - a) a x) ∙ ap (drop (b - a)) e ∙ drop-drop (b - a) a y)

pub record Lent (out₀ kept out : List ℕ) (to : ℕ) : Type 0 where
  pub size : to ≡ length kept
  pub is : out ≡ kept ++ drop to out₀
  pub room : to ≤ length out₀

pub lent-start : (out₀ : List ℕ) → Lent out₀ [] out₀ 0
lent-start out₀ = record { size = refl; is = refl; room = omega arith }

module _ {out₀ kept out : List ℕ} {to : ℕ} (l : Lent out₀ kept out to) where
  pub lent_length : length out ≡ length out₀
  lent_length = ap length l.is ∙ length-append kept (drop to out₀) ∙ omega (arith, l.size, length-drop to out₀, l.room)

  -- as the answer of a call puts it
  pub lent-at-start : out ≡ at_start kept out₀
  lent-at-start = rw (← l.size) l.is

  lent-take : take to out ≡ kept
  lent-take = ap (take to) l.is ∙ take_at kept (drop to out₀) to (sym l.size)

  lent-drop : drop to out ≡ drop to out₀
  lent-drop = ap (drop to) l.is ∙ drop_at kept (drop to out₀) to (sym l.size)

  -- a call that was lent the output from `to` on
  module _ {out' rest : List ℕ} (put : out' ≡ take to out ++ rest) where
    -- it left that as it was
    pub lent_same : rest ≡ drop to out → out' ≡ out
    lent_same e = put ∙ ap (λ (x : List ℕ). take to out ++ x) e ∙ take-append-drop to out

    -- it put more at the start of that
    pub lent-more : (more : List ℕ) {len : ℕ} → len ≡ length more → len ≤ length out₀ - to → rest ≡ at_start more (drop to out)
        → Lent out₀ (kept ++ more) out' (to + len)
    lent-more more e h f =
        record {
          size = omega (arith, l.size, e, length-append kept more);
          is = put ∙ ap (λ (x : List ℕ). take to out ++ x) f ∙ rw (lent-take, lent-drop, drop-drop, append_assoc, e);
          room = omega (arith, l.room, h);
        }

-- the first i of `count` octets from a place on are stored
pub record Filling (out₀ : List ℕ) (at count octet : ℕ) (out : List ℕ) (i : ℕ) : Type 0 where
  pub is : out ≡ paste out₀ at (replicate count octet) i
  pub most : i ≤ count

pub fill_start : (out₀ : List ℕ) (at count octet : ℕ) → Filling out₀ at count octet out₀ 0
fill_start out₀ at count octet = record { is = paste-zero out₀ at (replicate count octet); most = omega arith }

module _ {out₀ : List ℕ} {at count octet : ℕ} (h : at + count ≤ length out₀) {out : List ℕ} {i : ℕ}
    (f : Filling out₀ at count octet out i) where
  pub fill-length : length out ≡ length out₀
  fill-length =
      ap length f.is
      ∙ length-paste out₀ at (replicate count octet) i (omega (arith, f.most)) (omega (arith, f.most, length-replicate count octet))

  pub fill-turn : i < count → Filling out₀ at count octet (set out (at + i) octet) (i + 1)
  fill-turn g =
      let z = replicate count octet in
      let s : i + 1 ≡ suc i = omega arith in
      record {
        is =
            ap (λ (x : List ℕ). set x (at + i) octet) f.is
            ∙ ap (set (paste out₀ at z i) (at + i)) (sym (get_or-replicate count i octet 0 g))
            ∙ paste-suc out₀ at z i 0 (omega arith) (omega (arith, length-replicate count octet)) ∙ ap (paste out₀ at z) (sym s);
        most = omega arith;
      }

-- a lent list that is filled from its start on with f of each element of another: after i of them, and at the end
pub mapped-turn : {A B : Type 0} (f : A → B) (s : List A) (d : List B) (i : ℕ) (a : A) (v : B) → i < length s → length s ≤ length d
    → v ≡ f (get_or s i a) → set (paste d 0 (map f s) i) i v ≡ paste d 0 (map f s) (i + 1)
mapped-turn f s d i a v h g e =
    let n = length-map s f in
    let z = paste-suc d 0 (map f s) i (f a) (omega arith) (omega arith) in
    ap (λ k. set (paste d 0 (map f s) i) k v) (sym (zero-add i))
    ∙ ap (λ w. set (paste d 0 (map f s) i) (0 + i) w) (e ∙ sym (get_or-map f s i a)) ∙ z ∙ ap (paste d 0 (map f s)) (sym (add-one i))

pub mapped-kept : {A B : Type 0} (f : A → B) (s : List A) (d : List B) (i : ℕ) → i ≤ length s → length s ≤ length d
    → length (paste d 0 (map f s) i) ≡ length d
mapped-kept f s d i h g = let n = length-map s f in length-paste d 0 (map f s) i (omega arith) (omega arith)

pub mapped-whole : {A B : Type 0} (f : A → B) (s : List A) (d : List B) (i : ℕ) → i ≡ length s
    → paste d 0 (map f s) i ≡ map f s ++ drop (length s) d
mapped-whole f s d i e =
    let n = length-map s f in
    ap (λ k. take i (map f s) ++ drop k d) (zero-add i ∙ e) ∙ ap (λ t. t ++ drop (length s) d) (take_all i (map f s) (omega arith))
