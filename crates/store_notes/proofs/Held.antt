-- Notes laid into a table are read (`heads-of`, `count_of`, `notes-of`), laid over fewer as if laid at once (`notes-again`).
-- What is stored is read: the greetings (`rows-stored`), their notes (`notes-stored`), and how many cells it fills (`length-stored`).
use Prim.Native.Nat.{ℕ, ◌+◌, ◌*◌, ◌-◌, ◌≤◌}
use mathlib.Core.Path.{◌≡◌, refl, sym, ap, ◌∙◌}
use mathlib.Core.List.{List, [], ◌∷◌, ◌++◌, append_assoc}
use native.Mathlib.Omega.{arith}
use lib.ListN.{length, get_or, take, drop, set, length-append, length-drop, take-append-drop}
use lib.Seq.{take_at, drop_at, set_at, drop-drop, drop-append-le, length-take-le, get_or-drop}
use Rattle.store_rows.specs.declared.rows.Row.{Row}
use Rattle.store_rows.specs.Cells.{rows_of, cells_of, laid}
use Rattle.store_rows.proofs.Cells.{length-cells, rows-laid, count-laid, laid-again}
use Rattle.store_greeting.specs.Marks.{Note}
use Rattle.store_notes.proofs.Noting.{length-heads, length-all, notes-back}
use Rattle.store_notes.specs.Cells.{heads, heads_of, notes_in, notes_of, marks_held, all_cells, all_laid, anew_from, notes_laid, stored}

-- rows laid over a beginning of the cells, the rest as it was
laid-part : (rows : List Row) (a z : List ℕ) → 1 + 3 * length rows ≤ length a → laid rows a ++ z ≡ laid rows (a ++ z)
unfolding laid
laid-part rows a z h =
    let p = length rows ∷ cells_of rows in
    append_assoc p (drop (1 + 3 * length rows) a) z ∙ ap (λ (l : List ℕ). p ++ l) (sym (drop-append-le (1 + 3 * length rows) a z h))

length-laid : (rows : List Row) (t : List ℕ) → 1 + 3 * length rows ≤ length t → length (laid rows t) ≡ length t
unfolding laid
length-laid rows t h =
    length-append (length rows ∷ cells_of rows) (drop (1 + 3 * length rows) t)
    ∙ omega (arith, length-cells rows, length-drop (1 + 3 * length rows) t)

-- a table in three parts: the greetings, the second list, the marks
record Parts (t : List ℕ) : Type 0 where
  a : List ℕ
  b : List ℕ
  c : List ℕ
  is : t ≡ a ++ (b ++ c)
  front : a ≡ take 97 t
  first : length a ≡ 97
  second : length b ≡ 97

in_parts : (t : List ℕ) → 194 ≤ length t → Parts t
in_parts t h =
    let u = drop 97 t in
    let l = length-drop 97 t in
    record {
      a = take 97 t;
      b = take 97 u;
      c = drop 97 u;
      is = sym (take-append-drop 97 t) ∙ ap (λ (x : List ℕ). take 97 t ++ x) (sym (take-append-drop 97 u));
      front = refl;
      first = length-take-le 97 t (omega arith);
      second = length-take-le 97 u (omega arith);
    }

-- a list of up to 32 in its 97 cells
laid-first : (hs : List Row) (b c : List ℕ) → length hs ≤ 32 → length b ≡ 97 → laid hs (b ++ c) ≡ laid hs b ++ c
laid-first hs b c h l = sym (laid-part hs b c (omega arith))

long-laid : (hs : List Row) (b : List ℕ) → length hs ≤ 32 → length b ≡ 97 → length (laid hs b) ≡ 97
long-laid hs b h l = length-laid hs b (omega arith) ∙ l

-- notes laid, in parts
laid-parts : (notes : List Note) (a b c : List ℕ) → length notes ≤ 32 → length a ≡ 97 → length b ≡ 97
    → notes_laid notes (a ++ (b ++ c)) ≡ a ++ (laid (heads notes) b ++ all_laid notes c)
unfolding notes_laid
laid-parts notes a b c h k l =
    let hs = heads notes in
    let n = length-heads notes in
    let b' = laid hs b in
    let one : anew_from 97 (laid hs) (a ++ (b ++ c)) ≡ (a ++ b') ++ c =
    ap (λ (x : List ℕ). x ++ laid hs (drop 97 (a ++ (b ++ c)))) (take_at a (b ++ c) 97 k)
    ∙ ap (λ (x : List ℕ). a ++ laid hs x) (drop_at a (b ++ c) 97 k)
    ∙ ap (λ (x : List ℕ). a ++ x) (laid-first hs b c (omega arith) l) ∙ sym (append_assoc a b' c)
    in
    let m : length (a ++ b') ≡ 194 = omega (arith, length-append a b', long-laid hs b (omega arith) l) in
    ap (anew_from 194 (all_laid notes)) one
    ∙ ap (λ (x : List ℕ). x ++ all_laid notes (drop 194 ((a ++ b') ++ c))) (take_at (a ++ b') c 194 m)
    ∙ ap (λ (x : List ℕ). (a ++ b') ++ all_laid notes x) (drop_at (a ++ b') c 194 m) ∙ append_assoc a b' (all_laid notes c)

all-again : (x y : List Note) (c : List ℕ) → length (all_cells y) ≤ length (all_cells x) → all_laid x (all_laid y c) ≡ all_laid x c
all-again x y c h =
    let k = length (all_cells y) in
    let m = length (all_cells x) - k in
    let e : length (all_cells x) ≡ k + m = omega arith in
    ap (λ (l : List ℕ). all_cells x ++ l)
    (ap (λ (n : ℕ). drop n (all_laid y c)) e ∙ sym (drop-drop m k (all_laid y c)) ∙ ap (drop m) (drop_at (all_cells y) (drop k c) k refl)
    ∙ drop-drop m k c ∙ ap (λ (n : ℕ). drop n c) (sym e))

module _ (t : List ℕ) (h : 194 ≤ length t) where
  abbrev p : Parts t
  p = in_parts t h

  -- laid over fewer, as if laid at once
  pub notes-again : (x y : List Note) → length x ≤ 32 → length y ≤ length x → length (all_cells y) ≤ length (all_cells x)
      → notes_laid x (notes_laid y t) ≡ notes_laid x t
  notes-again x y f g l =
      let n = length-heads x in
      let m = length-heads y in
      let b' = laid (heads y) p.b in
      let inner = ap (notes_laid y) p.is ∙ laid-parts y p.a p.b p.c (omega arith) p.first p.second in
      ap (notes_laid x) inner
      ∙ laid-parts x p.a b' (all_laid y p.c) f p.first (long-laid (heads y) p.b (omega arith) p.second)
      ∙ ap (λ (u : List ℕ). p.a ++ (u ++ all_laid x (all_laid y p.c))) (laid-again (heads x) (heads y) p.b (omega arith))
      ∙ ap (λ (u : List ℕ). p.a ++ (laid (heads x) p.b ++ u)) (all-again x y p.c l)
      ∙ sym (ap (notes_laid x) p.is ∙ laid-parts x p.a p.b p.c f p.first p.second)

  module _ (x : List Note) (f : length x ≤ 32) where
    form : notes_laid x t ≡ p.a ++ (laid (heads x) p.b ++ all_laid x p.c)
    form = ap (notes_laid x) p.is ∙ laid-parts x p.a p.b p.c f p.first p.second

    second_is : drop 97 (notes_laid x t) ≡ laid (heads x) (p.b ++ all_laid x p.c)
    second_is =
        let n = length-heads x in
        ap (drop 97) form ∙ drop_at p.a (laid (heads x) p.b ++ all_laid x p.c) 97 p.first
        ∙ sym (laid-first (heads x) p.b (all_laid x p.c) (omega arith) p.second)

    pub heads-of : heads_of (notes_laid x t) ≡ heads x
    heads-of = ap rows_of second_is ∙ rows-laid (heads x) (p.b ++ all_laid x p.c)

    pub count_of : get_or (notes_laid x t) 97 0 ≡ length x
    count_of =
        sym (get_or-drop 97 (notes_laid x t) 0 0) ∙ ap (λ (l : List ℕ). get_or l 0 0) second_is ∙ count-laid (heads x) (p.b ++ all_laid x p.c)
        ∙ length-heads x

    marks-of : drop 194 (notes_laid x t) ≡ all_laid x p.c
    marks-of =
        let n = length-heads x in
        let b' = laid (heads x) p.b in
        let m : length (p.a ++ b') ≡ 194 = omega
        (arith, length-append p.a b', long-laid (heads x) p.b (omega arith) p.second, p.first) in
        ap (drop 194) (form ∙ sym (append_assoc p.a b' (all_laid x p.c))) ∙ drop_at (p.a ++ b') (all_laid x p.c) 194 m

    pub notes-of : notes_of (notes_laid x t) ≡ x
    notes-of =
        ap (λ (hs : List Row). notes_in hs (drop 194 (notes_laid x t))) heads-of
        ∙ ap (notes_in (heads x)) marks-of ∙ notes-back x (drop (length (all_cells x)) p.c)

    pub length-of : 194 + length (all_cells x) ≤ length t → length (notes_laid x t) ≡ length t
    length-of l =
        let n = length-heads x in
        let b' = laid (heads x) p.b in
        let c' = all_laid x p.c in
        let k = ap length form ∙ length-append p.a (b' ++ c') in
        let m = ap length p.is ∙ length-append p.a (p.b ++ p.c) in
        let q = long-laid (heads x) p.b (omega arith) p.second in
        let r = length-append b' c' in
        let s = length-append p.b p.c in
        let u = length-append (all_cells x) (drop (length (all_cells x)) p.c) in
        let v = length-drop (length (all_cells x)) p.c in
        omega (arith, p.first, p.second)

  -- the second list made empty
  pub none-laid : set t 97 0 ≡ notes_laid [] t
  unfolding heads all_cells laid cells_of
  none-laid = go p.b p.second p.is ∙ sym (form [] (omega arith))
    where
      go : (b : List ℕ) → length b ≡ 97 → t ≡ p.a ++ (b ++ p.c) → set t 97 0 ≡ p.a ++ (((0 ∷ []) ++ drop 1 b) ++ p.c)
      go [] l e = absurd (omega arith)
      go (x ∷ b) l e = ap (λ (u : List ℕ). set u 97 0) e ∙ set_at p.a x (b ++ p.c) 0 97 p.first

-- a table that holds greetings with their notes
module _ (rows : List Row) (notes : List Note) (t : List ℕ) (h : length rows ≤ 32) (g : length notes ≤ 32) (c : 194 ≤ length t) where
  wide : length (laid rows t) ≡ length t
  wide = length-laid rows t (omega arith)

  rows_in : laid rows t ≡ laid rows (take 97 t) ++ drop 97 t
  rows_in =
      let l = length-take-le 97 t (omega arith) in
      sym (laid-part rows (take 97 t) (drop 97 t) (omega arith) ∙ ap (laid rows) (take-append-drop 97 t))

  rows-first : take 97 (laid rows t) ≡ laid rows (take 97 t)
  rows-first =
      let l = long-laid rows (take 97 t) h (length-take-le 97 t (omega arith)) in
      ap (take 97) rows_in ∙ take_at (laid rows (take 97 t)) (drop 97 t) 97 l

  rows-laid-on : stored rows notes t ≡ laid rows (take 97 t ++ drop 97 (stored rows notes t))
  rows-laid-on =
      let l = length-take-le 97 t (omega arith) in
      let u = laid rows t in
      let v : 194 ≤ length u = omega (arith, wide) in
      let p = in_parts u v in
      let more = laid (heads notes) p.b ++ all_laid notes p.c in
      let f = form u v notes g in
      let d : drop 97 (stored rows notes t) ≡ more = ap (drop 97) f ∙ drop_at p.a more 97 p.first in
      f ∙ ap (λ (x : List ℕ). x ++ more) (p.front ∙ rows-first) ∙ laid-part rows (take 97 t) more (omega arith)
      ∙ ap (λ (x : List ℕ). laid rows (take 97 t ++ x)) (sym d)

  pub rows-stored : rows_of (stored rows notes t) ≡ rows
  rows-stored = ap rows_of rows-laid-on ∙ rows-laid rows (take 97 t ++ drop 97 (stored rows notes t))

  pub count-stored : get_or (stored rows notes t) 0 0 ≡ length rows
  count-stored = ap (λ (x : List ℕ). get_or x 0 0) rows-laid-on ∙ count-laid rows (take 97 t ++ drop 97 (stored rows notes t))

  pub heads-stored : heads_of (stored rows notes t) ≡ heads notes
  heads-stored = heads-of (laid rows t) (omega (arith, wide)) notes g

  pub second-count : get_or (stored rows notes t) 97 0 ≡ length notes
  second-count = count_of (laid rows t) (omega (arith, wide)) notes g

  pub notes-stored : notes_of (stored rows notes t) ≡ notes
  notes-stored = notes-of (laid rows t) (omega (arith, wide)) notes g

  pub length-stored : 194 + 2 * marks_held (heads notes) ≤ length t → length (stored rows notes t) ≡ length t
  length-stored q = length-of (laid rows t) (omega (arith, wide)) notes g (omega (arith, wide, length-all notes)) ∙ wide
