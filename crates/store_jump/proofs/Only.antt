-- Nothing else fits: the contract determines the answer, for all inputs, refused ones too (`only-jump`); and the paper's number, with the
-- four numbers told, determines the answer (`answers-one-to-one`). Some (most, 64, frames) are read, whatever the cells say (`read-few`), counted
-- from the mark up to and including the one named (`read-from-mark`).
use Prim.Native.Nat.{ℕ, ◌+◌, ◌*◌, ◌-◌, ◌≤◌}
use mathlib.Core.Path.{◌≡◌, refl, sym, ap₂, subst, ◌∙◌, ap}
use mathlib.Core.List.{List}
use mathlib.Core.Bool.{cond}
use native.Mathlib.Omega.{arith}
use lib.Dec.{eqb}
use Rattle.std.proofs.Common.{Some, None, Ok, Err}
use Rattle.rules.specs.Judged.{Asked, judged}
use Rattle.rules.proofs.Judged.{by-judged}
use Rattle.rules.specs.Walk.{Delivered}
use Rattle.rules.proofs.Walk.{walk-told}
use Rattle.store_rows.specs.Rows.{greeting}
use Rattle.store_rows.specs.Finding.{find_from}
use Rattle.store_rows.specs.Cells.{rows_of}
use Rattle.store_rows.specs.Changed.{nth}
use Rattle.store_greeting.specs.Bad.{store_set}
use Rattle.store_greeting.specs.Marks.{Mark, Note}
use Rattle.store_notes.specs.Notes.{nth_note}
use Rattle.store_notes.specs.Cells.{notes_of}
use Rattle.store_jump.specs.Seeking.{Sought, seek, from_mark, nth_mark, last_mark}
use Rattle.store_jump.proofs.Sought.{seek-near, counted-named}
use Rattle.store_jump.specs.declared.jumping.Refusal.{Refusal}
use Rattle.store_jump.specs.declared.jumping.Refusal.TheVariants.{Number, Absent, Bad, Beyond, Table}
use Rattle.store_jump.specs.declared.jumping.Told.{Told}
use Rattle.store_jump.specs.Jump.{Answer, told_by, named, counted, mark_asks, jump_from, greeting_asks, jump_in, jump_among}
use Rattle.store_jump.specs.Calls.{number_of, told_of, find_order, jump_of, Jump}

pub only-jump : (number sample : ℕ) (b t : List ℕ) {r s : Answer} → Jump number sample b t r → Jump number sample b t s → r ≡ s
only-jump number sample b t p q = p ∙ sym q

-- the answer, by the paper's number and the four numbers told
abbrev why : ℕ → Refusal
why n = cond (eqb n 15) Number (cond (eqb n 17) Absent (cond (eqb n 18) Bad (cond (eqb n 21) Beyond Table)))

abbrev answer_by : ℕ → Told → Answer
answer_by n t = cond (eqb n 0) (Ok t) (Err (why n))

by-numbers : (a : Answer) → answer_by (number_of a) (told_of a) ≡ a
by-numbers (Ok told) = refl
by-numbers (Err Number) = refl
by-numbers (Err Absent) = refl
by-numbers (Err Bad) = refl
by-numbers (Err Beyond) = refl
by-numbers (Err Table) = refl

pub answers-one-to-one : (a b : Answer) → number_of a ≡ number_of b → told_of a ≡ told_of b → a ≡ b
answers-one-to-one a b n t = sym (by-numbers a) ∙ ap₂ answer_by n t ∙ by-numbers b

-- at most 64 frames are read
abbrev Few : Answer → Type 0
Few (Ok told) = (1 ≤ told.read) × (told.read ≤ 64)
Few (Err w) = Unit {0}

few-judged : (asks : List (Asked Refusal)) (next : Answer) → Few next → Few (judged asks Err next)
few-judged asks next few = by-judged Err next Few asks (λ m. few) (λ w f. tt)

few-counted : (s : Sought) → Few (counted s)
few-counted (Some (frame, place, inside)) = (omega arith, omega arith)
few-counted None = tt

few-in : (xs : List ℕ) (n : Note) (sample : ℕ) → Few (jump_in xs n sample)
unfolding jump_in jump_from
few-in xs n sample =
    let k = last_mark n.marks sample in
    let m = nth_mark k n.marks in
    let fs = (from_mark n.law xs m.octets).frames in
    few-judged (greeting_asks n sample) _
    (few-judged (mark_asks m sample) _
    (subst Few (counted-named sample k m.samples fs (walk-told xs n.law store_set 64 m.octets 20480).few)
    (few-counted (seek sample (64 * k) m.samples fs))))

few-jump : (b t : List ℕ) (number sample : ℕ) → Few (jump_of b t number sample)
unfolding jump_among
few-jump b t number sample =
    let i = find_from number 0 (rows_of t) in
    few-judged (find_order b t number) _ (few-in (greeting b (nth i (rows_of t))) (nth_note i (notes_of t)) sample)

pub read-few : (b t : List ℕ) (number sample : ℕ) {frame place inside read : ℕ} → jump_of b t number sample ≡ Ok (told_by frame place inside read)
    → (1 ≤ read) × (read ≤ 64)
read-few b t number sample e = subst Few e (few-jump b t number sample)

-- "from that mark up to and including the one named"
named-is : (k : ℕ) (s : Sought) {frame place inside read : ℕ} → named k s ≡ Ok (told_by frame place inside read)
    → (s ≡ Some (frame, place, inside)) × (read ≡ frame - 64 * k + 1)
named-is k (Some (at, octet, within)) {frame} {place} {inside} {read} e =
    let q : told_by at octet within (at - 64 * k + 1) ≡ told_by frame place inside read = cc in
    let f : at ≡ frame = ap (λ (t : Told). t.frame) q in
    let p : octet ≡ place = ap (λ (t : Told). t.place) q in
    let i : within ≡ inside = ap (λ (t : Told). t.inside) q in
    let r : at - 64 * k + 1 ≡ read = ap (λ (t : Told). t.read) q in
    (rw (f, p, i), omega (arith, f, r))
named-is k None e = let z : ◌≡◌ {A = ℕ} 0 1 = cc in absurd (omega arith)

pub read-from-mark : (law : ℕ) (xs : List ℕ) (k : ℕ) (m : Mark) (sample : ℕ) {frame place inside read : ℕ}
    → jump_from law xs k m sample ≡ Ok (told_by frame place inside read) → frame + 1 ≡ 64 * k + read
unfolding jump_from
read-from-mark law xs k m sample {frame} {place} {inside} {read} e =
    let fs : List Delivered = (from_mark law xs m.octets).frames in
    let there = seek sample (64 * k) m.samples fs in
    by-judged Err (named k there) (λ o. o ≡ Ok (told_by frame place inside read) → frame + 1 ≡ 64 * k + read) (mark_asks m sample)
    (λ _ g.
    let s = named-is k there g in
    let n = seek-near sample (64 * k) m.samples fs s.0 in
    omega (arith, s.1, n.0))
    (λ w f g. let z : ◌≡◌ {A = ℕ} 0 1 = cc in absurd (omega arith)) e
