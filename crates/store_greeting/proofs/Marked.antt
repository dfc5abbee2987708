-- The marks of frames after others (`marks-append`), of at most 64 frames from a marked one on (`marks-one`), and how marks lie in cells.
use Prim.Native.Nat.{ℕ, suc, ◌+◌, ◌*◌, ◌%◌, ◌≤◌, ◌<◌}
use mathlib.Core.Path.{◌≡◌, refl, sym, ap, ◌∙◌}
use mathlib.Core.List.{List, [], ◌∷◌, ◌++◌, append_assoc}
use mathlib.Core.Bool.{Bool, true, false, cond}
use native.Mathlib.Omega.{arith}
use lib.ListN.{length, get_or, drop, set, length-append}
use lib.Seq.{drop-cons, set_at}
use borrow.Author.Tests.{eq-eqb, ne_eqb}
use Rattle.rules.specs.Walk.{Delivered, samples_kept}
use Rattle.store_greeting.specs.Marks.{Mark, mark_of, is_marked, marks_from, mark_cells}

-- one frame more
abbrev step : Bool → Mark → List Mark → List Mark
step b m ms = cond b (m ∷ ms) ms

step-append : (b : Bool) (m : Mark) (x y : List Mark) → step b m (x ++ y) ≡ step b m x ++ y
step-append true m x y = refl
step-append false m x y = refl

pub marks-append : (i before : ℕ) (a b : List Delivered)
    → marks_from i before (a ++ b) ≡ marks_from i before a ++ marks_from (i + length a) (before + length (samples_kept a)) b
unfolding marks_from samples_kept
marks-append i before [] b = let e : i + 0 ≡ i = omega arith in let f : before + 0 ≡ before = omega arith in rw (e, f)
marks-append i before (f ∷ a) b =
    let e : i + 1 + length a ≡ i + suc (length a) = omega arith in
    let g : before + length f.found.samples + length (samples_kept a) ≡ before + length (f.found.samples ++ samples_kept a)
    = omega (arith, length-append f.found.samples (samples_kept a)) in
    let rest = marks_from (i + 1) (before + length f.found.samples) a in
    let later = marks-append (i + 1) (before + length f.found.samples) a b in
    ap (step (is_marked i) (mark_of f.place before)) (rw (e, g) at later) ∙ step-append (is_marked i) (mark_of f.place before) rest
    (marks_from (i + suc (length a)) (before + length (f.found.samples ++ samples_kept a)) b)

-- between two marked frames
marks-none : (i before : ℕ) (a : List Delivered) → 1 ≤ i % 64 → i % 64 + length a ≤ 64 → marks_from i before a ≡ []
unfolding marks_from
marks-none i before [] h g = refl
marks-none i before (f ∷ []) h g = rw (ne_eqb (i % 64) 0 (λ e. absurd (omega arith)))
marks-none i before (f ∷ (d ∷ a)) h g =
    let s : (i + 1) % 64 ≡ i % 64 + 1 = omega arith in
    rw (ne_eqb (i % 64) 0 (λ e. absurd (omega arith)))
    (marks-none (i + 1) (before + length f.found.samples) (d ∷ a) (omega arith) (omega arith))

-- a marked frame, and fewer than 64 after it
pub marks-one : (i before at : ℕ) (f : Delivered) (a : List Delivered) → i % 64 ≡ 0 → f.place ≡ at → length a < 64
    → marks_from i before (f ∷ a) ≡ mark_of at before ∷ []
unfolding marks_from
marks-one i before at f a h p g =
    let s : (i + 1) % 64 ≡ 1 = omega arith in
    rw (eq-eqb (i % 64) 0 h, marks-none (i + 1) (before + length f.found.samples) a (omega arith) (omega arith), p)

-- marks in cells
pub cells-more : (ms : List Mark) (m : Mark) → mark_cells (ms ++ (m ∷ [])) ≡ mark_cells ms ++ (m.octets ∷ m.samples ∷ [])
unfolding mark_cells
cells-more [] m = refl
cells-more (x ∷ ms) m = rw (cells-more ms m)

pub length-cells : (ms : List Mark) → length (mark_cells ms) ≡ 2 * length ms
unfolding mark_cells
length-cells [] = refl
length-cells (m ∷ ms) = omega (arith, length-cells ms)

-- two cells set behind those that are done
pub two-set : (p t : List ℕ) (k a b : ℕ) → length p ≡ k → k + 2 ≤ length t
    → set (set (p ++ drop k t) k a) (k + 1) b ≡ (p ++ (a ∷ b ∷ [])) ++ drop (k + 2) t
two-set p t k a b e h =
    let s : suc k ≡ k + 1 = omega arith in
    let s₂ : suc (k + 1) ≡ k + 2 = omega arith in
    let one : drop k t ≡ get_or t k 0 ∷ drop (k + 1) t = drop-cons t k 0 (omega arith) ∙ ap (λ (n : ℕ). get_or t k 0 ∷ drop n t) s in
    let two : drop (k + 1) t ≡ get_or t (k + 1) 0 ∷ drop (k + 2) t =
    drop-cons t (k + 1) 0 (omega arith) ∙ ap (λ (n : ℕ). get_or t (k + 1) 0 ∷ drop n t) s₂
    in
    let rest = get_or t (k + 1) 0 ∷ drop (k + 2) t in
    let first : set (p ++ drop k t) k a ≡ p ++ (a ∷ rest) =
    ap (λ (l : List ℕ). set (p ++ l) k a) (one ∙ ap (λ (l : List ℕ). get_or t k 0 ∷ l) two) ∙ set_at p (get_or t k 0) rest a k e
    in
    ap (λ (l : List ℕ). set l (k + 1) b) (first ∙ sym (append_assoc p (a ∷ []) rest))
    ∙ set_at (p ++ (a ∷ [])) (get_or t (k + 1) 0) (drop (k + 2) t) b (k + 1) (omega (arith, e, length-append p (a ∷ [])))
    ∙ simp append_assoc
