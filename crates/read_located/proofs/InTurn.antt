-- The first value, and a turn of the loop over the later ones.
use Prim.Native.Nat.{ℕ, zero, suc, ◌+◌, ◌*◌, ◌-◌, ◌≤◌, ◌<◌, zero-le}
use mathlib.Core.Path.{◌≡◌, refl, sym, ap, ◌∙◌}
use mathlib.Core.List.{List, [], ◌∷◌, ◌++◌}
use mathlib.Core.Bool.{false}
use native.Mathlib.Omega.{arith}
use native.Mathlib.Numerals.{add-one}
use lib.Dec.{eqb}
use lib.ListN.{length, get_or, take, drop, replicate, length-append, length-drop, take-append-drop, drop_of_length-le}
use lib.Seq.{take_at, drop_at, drop-cons, get_or-take, length-take-le}
use Rattle.rules.specs.declared.Refusal.{Refusal}
use Rattle.rules.specs.Bits.{bits_of}
use Rattle.rules.specs.Reading.{Read, whole, refuse, and_then}
use Rattle.rules.specs.Located.{empty_in, lay, values_into}
use Rattle.rules.proofs.Laid.{empty-all, length-lay, lay-count}
use Rattle.read_bits.specs.Outcomes.{Outcome, got, stop}
use Rattle.read_runs.specs.Flagged.{kinds}
use Rattle.read_runs.proofs.Answer.{MarksAs}
use Rattle.read_runs.proofs.Puts.{length-kinds}
use Rattle.read_bodies.specs.Bodied.{FillsBody}
use Rattle.read_located.specs.Valued.{flags_of, fill_in, Lays, LaysCells, Apart}
use Rattle.read_located.proofs.Counted.{lay-first, fill-lay}
use Rattle.read_located.proofs.OneValue.{values-step}

pub apart-at : (z : ℕ) (xs : List ℕ) → Apart z xs → (i : ℕ) → i < length xs → eqb (get_or xs i 0) z ≡ false
apart-at z [] a i h = absurd (omega arith)
apart-at z (x ∷ xs) a zero h = a.0
apart-at z (x ∷ xs) a (suc i) h = apart-at z xs a.1 i (omega arith)

pub value-apart : (z count : ℕ) (xs : List ℕ) → Apart z (take count xs) → count ≤ length xs → (i : ℕ) → i < count
    → eqb (get_or xs i 0) z ≡ false
value-apart z count xs a k i h =
    let t = length-take-le count xs k in
    rw (get_or-take count xs i 0 h) at (apart-at z (take count xs) a i (omega arith))

-- the value that is next, and those after it
next-value : (xs : List ℕ) (count done : ℕ) → done < count → count ≤ length xs
    → drop done (take count xs) ≡ get_or xs done 0 ∷ drop (done + 1) (take count xs)
next-value xs count done h k =
    let t = length-take-le count xs k in
    drop-cons (take count xs) done 0 (omega arith) ∙ rw (get_or-take count xs done 0 h, add-one done)

module _ {found : Read (List ℕ)} {n far : ℕ} {old new : List ℕ} where
  pub lays-refused : {w : Refusal} {b : ℕ} → found ≡ refuse w b → length new ≡ 320 → LaysCells found n far old new (stop w b)
  lays-refused e room = rw e (record { end = refl; next = zero-le; cells = tt; room = room })

  lays-got : {cells : List ℕ} {next : ℕ} → found ≡ whole cells next → length cells ≡ n → new ≡ cells ++ drop n old
      → length new ≡ 320 → next ≤ far → LaysCells found n far old new (got n next)
  lays-got e l m room k = rw e (record { end = refl; next = k; cells = (l, m); room = room })

-- the same answer, told of an equal definition and of other cells past the n, with more room
lays-as : {found equal : Read (List ℕ)} {n near far : ℕ} {old mid new : List ℕ} {r : Outcome} → LaysCells equal n near mid new r
    → found ≡ equal → drop n mid ≡ drop n old → near ≤ far → LaysCells found n far old new r
lays-as {equal = equal} {n = n} {old = old} {mid = mid} {new = new} t e d k =
    rw e (record { end = t.end; next = let x = t.next in omega arith; cells = go equal t.cells; room = t.room })
  where
    go : (f : Read (List ℕ)) → Lays n f mid new → Lays n f old new
    go (whole cells next) (l, m) = (l, m ∙ ap (λ (k : List ℕ). cells ++ k) d)
    go (refuse w at) u = tt

-- the samples of the body
pub lays-body : {found equal : Read (List ℕ)} {n near far : ℕ} {old new : List ℕ} {r : Outcome} → LaysCells equal n near old new r
    → found ≡ equal → n ≤ 320 → near ≤ far → FillsBody found far old new r
lays-body {equal = equal} {n = n} {near = near} {far = far} {old = old} {new = new} {r = r} t e h k = rw e (go equal t)
  where
    go : (f : Read (List ℕ)) → LaysCells f n near old new r → FillsBody f far old new r
    go (whole cells next) s =
        let l = s.cells.0 in
        record {
          end = s.end ∙ ap (λ (i : ℕ). got i next) (sym l);
          next = let x = s.next in omega arith;
          samples = (s.cells.1 ∙ ap (λ (i : ℕ). cells ++ drop i old) (sym l), omega arith);
        }
    go (refuse w at) s = record { end = s.end; next = let x = s.next in omega arith; samples = s.room }

-- the first value: its cells are its flags' kinds
pub record FirstAs (s : List ℕ) (at n z : ℕ) (xs : List ℕ) (count : ℕ) (old cells : List ℕ) (ones next : ℕ) : Type 0 where
  pub says : values_into n z (take count xs) (replicate n z) (bits_of s) at ≡ values_into n z (drop 1 (take count xs))
      (take n cells) (bits_of s) next
  pub left : n - ones ≡ empty_in z (take n cells)
  pub few : ones ≤ n
  pub rest : drop n cells ≡ drop n old

module _ (s : List ℕ) (at n z : ℕ) (xs : List ℕ) (count : ℕ) (some : 0 < count) (k : count ≤ length xs)
    (apart : eqb (get_or xs 0 0) z ≡ false) where
  first_step : {r : Read (List ℕ)} → flags_of n n (bits_of s) at ≡ r → values_into n z (take count xs) (replicate n z) (bits_of s) at
      ≡ and_then r (λ flags j. values_into n z (drop 1 (take count xs)) (lay z (get_or xs 0 0) flags 0 (replicate n z)) (bits_of s) j)
  first_step e =
      ap (λ (l : List ℕ). values_into n z l (replicate n z) (bits_of s) at) (next-value xs count 0 some k)
      ∙ values-step s n z (get_or xs 0 0) (drop 1 (take count xs)) (replicate n z) at ∙ rw (empty-all z n, e)

  pub first-refused : {w : Refusal} {b : ℕ} → flags_of n n (bits_of s) at ≡ refuse w b
      → values_into n z (take count xs) (replicate n z) (bits_of s) at ≡ refuse w b
  first-refused e = first_step e

  pub first-told : {far ones next : ℕ} {old cells : List ℕ} → MarksAs (flags_of n n (bits_of s) at) n far z (get_or xs 0 0) old cells ones next
      → FirstAs s at n z xs count old cells ones next
  first-told {ones = ones} {next = next} {old = old} {cells = cells} m =
      let x = get_or xs 0 0 in
      let flags = m.flags in
      let f = lay-first z x n flags m.size in
      let l : length (kinds z x flags) ≡ n = length-kinds z x flags ∙ m.size in
      let t : take n cells ≡ lay z x flags 0 (replicate n z) =
      ap (λ (c : List ℕ). take n c) m.made ∙ take_at (kinds z x flags) (drop n old) n l ∙ sym f
      in
      let e = empty-all z n in
      let o = m.ones in
      let c = lay-count z x flags (replicate n z) apart (m.size ∙ sym e) in
      record {
        says = rw t (first_step m.says);
        left = rw t (omega arith);
        few = omega arith;
        rest = ap (λ (c : List ℕ). drop n c) m.made ∙ drop_at (kinds z x flags) (drop n old) n l;
      }

pub first-lays : {s : List ℕ} {at n z : ℕ} {xs : List ℕ} {count : ℕ} {old cells new : List ℕ} {ones next near far : ℕ} {r : Outcome}
    → FirstAs s at n z xs count old cells ones next
    → LaysCells (values_into n z (drop 1 (take count xs)) (take n cells) (bits_of s) next) n near cells new r → near ≤ far
    → LaysCells (values_into n z (take count xs) (replicate n z) (bits_of s) at) n far old new r
first-lays f t k = lays-as t f.says f.rest k

-- the values before `done` of the first `count` of xs are laid
pub record InTurn (s : List ℕ) (at n z : ℕ) (xs : List ℕ) (count : ℕ) (old cells marks : List ℕ) (left place done : ℕ) : Type 0 where
  pub so_far : values_into n z (drop 1 (take count xs)) (take n old) (bits_of s) at ≡ values_into n z (drop done (take count xs))
      (take n cells) (bits_of s) place
  pub empty : left ≡ empty_in z (take n cells)
  pub few : left ≤ n
  pub rest : drop n cells ≡ drop n old
  pub room : length cells ≡ 320
  pub wide : length marks ≡ 320
  pub one : 1 ≤ done
  pub turns : done ≤ count
  pub near : place + 105603 ≤ at + 105603 * done

pub in-turn-none : (s : List ℕ) (at n z : ℕ) (xs : List ℕ) (count left : ℕ) (old marks : List ℕ) → 0 < count
    → left ≡ empty_in z (take n old) → left ≤ n → length old ≡ 320 → length marks ≡ 320
    → InTurn s at n z xs count old old marks left at 1
in-turn-none s at n z xs count left old marks c e f l m =
    record {
      so_far = refl;
      empty = e;
      few = f;
      rest = refl;
      room = l;
      wide = m;
      one = omega arith;
      turns = omega arith;
      near = omega arith;
    }

module _ {s : List ℕ} {at n z : ℕ} {xs : List ℕ} {count : ℕ} {old cells marks : List ℕ} {left place done : ℕ} (fits : n ≤ 320)
    (g : InTurn s at n z xs count old cells marks left place done) where
  cells-length : length (take n cells) ≡ n
  cells-length = let r = g.room in length-take-le n cells (omega arith)

  pub in-turn-all : count ≤ done → count ≤ 3 → count ≤ length xs
      → LaysCells (values_into n z (drop 1 (take count xs)) (take n old) (bits_of s) at) n (at + 211206) old cells (got n place)
  unfolding values_into
  in-turn-all h m k =
      let t = length-take-le count xs k in
      let d : drop done (take count xs) ≡ [] = drop_of_length-le (take count xs) {i = done} (omega arith) in
      let e : values_into n z (drop 1 (take count xs)) (take n old) (bits_of s) at ≡ whole (take n cells) place = g.so_far ∙ rw d in
      lays-got e cells-length (rw (← g.rest) (sym (take-append-drop n cells))) g.room
      (let x = g.near in let y = g.turns in omega arith)

  module _ (h : done < count) (k : count ≤ length xs) (apart : eqb (get_or xs done 0) z ≡ false) where
    turn_step : {r : Read (List ℕ)} → flags_of n left (bits_of s) place ≡ r
        → values_into n z (drop 1 (take count xs)) (take n old) (bits_of s) at
        ≡ and_then r (λ flags j. values_into n z (drop (done + 1) (take count xs)) (lay z (get_or xs done 0) flags 0 (take n cells))
        (bits_of s) j)
    turn_step e =
        g.so_far ∙ ap (λ (l : List ℕ). values_into n z l (take n cells) (bits_of s) place) (next-value xs count done h k)
        ∙ values-step s n z (get_or xs done 0) (drop (done + 1) (take count xs)) (take n cells) place ∙ rw (← g.empty, e)

    pub in-turn-refused : {far : ℕ} {w : Refusal} {b : ℕ} → flags_of n left (bits_of s) place ≡ refuse w b
        → LaysCells (values_into n z (drop 1 (take count xs)) (take n old) (bits_of s) at) n far old cells (stop w b)
    in-turn-refused e = lays-refused (turn_step e) g.room

    module _ {after : List ℕ} {far ones next : ℕ}
        (m : MarksAs (flags_of n left (bits_of s) place) left far z (get_or xs done 0) marks after ones next) where
      counted : empty_in z (lay z (get_or xs done 0) m.flags 0 (take n cells)) + ones ≡ left
      counted =
          let e = g.empty in
          let o = m.ones in
          let c = lay-count z (get_or xs done 0) m.flags (take n cells) apart (m.size ∙ e) in
          omega arith

      pub in-turn-ones : ones ≤ left
      in-turn-ones = let c = counted in omega arith

      pub in-turn-next : {new : List ℕ} → new ≡ fill_in z after 0 (take n cells) ++ drop n cells → next ≤ place + 105603
          → InTurn s at n z xs count old new after (left - ones) next (done + 1)
      in-turn-next {new} e b =
          let x = get_or xs done 0 in
          let c = counted in
          let i = g.empty in
          let f = g.few in
          let r = g.room in
          let q = m.size in
          let l : length (lay z x m.flags 0 (take n cells)) ≡ n = length-lay z x m.flags 0 (take n cells) ∙ cells-length in
          let v : fill_in z after 0 (take n cells) ≡ lay z x m.flags 0 (take n cells) =
          ap (λ (a : List ℕ). fill_in z a 0 (take n cells)) m.made
          ∙ fill-lay z x m.flags (drop left marks) 0 (take n cells) (omega arith)
          in
          let w : new ≡ lay z x m.flags 0 (take n cells) ++ drop n cells = e ∙ ap (λ (a : List ℕ). a ++ drop n cells) v in
          let t : take n new ≡ lay z x m.flags 0 (take n cells) = ap (λ (a : List ℕ). take n a) w
          ∙ take_at (lay z x m.flags 0 (take n cells)) (drop n cells) n l in
          record {
            so_far = rw t (turn_step m.says);
            empty = rw t (omega arith);
            few = omega arith;
            rest = ap (λ (a : List ℕ). drop n a) w ∙ drop_at (lay z x m.flags 0 (take n cells)) (drop n cells) n l ∙ g.rest;
            room = ap length w ∙ rw (length-append (lay z x m.flags 0 (take n cells)) (drop n cells), length-drop) (omega arith);
            wide = m.room;
            one = omega arith;
            turns = omega arith;
            near = let y = g.near in omega arith;
          }
