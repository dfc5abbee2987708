-- The text of greetings, one after another: what is left of it at a mark (`marks-left`) and at a greeting (`text-left`), counted (Counting)
-- and put (Putting).
use Prim.Native.Nat.{ℕ, ◌+◌, ◌*◌, ◌-◌, ◌≤◌, ◌<◌}
use mathlib.Core.Path.{◌≡◌, refl, sym, ap, ◌∙◌}
use mathlib.Core.List.{List, [], ◌++◌, append_assoc, append-nil}
use native.Mathlib.Omega.{arith}
use lib.ListN.{length, get_or, take, drop, length-append, length-drop}
use lib.Seq.{drop-drop}
use Rattle.rules.specs.Listing.{decimal, law_word, samples_word}
use Rattle.rules.proofs.Lent.{from_on}
use Rattle.store_rows.specs.declared.rows.Row.{Row}
use Rattle.store_rows.specs.Rows.{held}
use Rattle.store_rows.specs.Cells.{row_at, rows_at}
use Rattle.store_rows.proofs.Left.{left, left-all, left-none, left_step}
use Rattle.store_greeting.specs.Marks.{Mark, Note, mark_of}
use Rattle.store_notes.specs.Cells.{marks_in, notes_in, marks_held}
use Rattle.text_keyvalue.specs.Lines.{line_of}
use Rattle.text_lines.specs.Puts.{Puts}
use Rattle.text_lines.proofs.Putting.{puts_then, puts-as}
use Rattle.store_text.specs.Table.{prompt_word, start_word, octets_word, row_text}
use Rattle.store_text.specs.Noted.{comma, listing, mark_text, marks_text, note_text, listed_text}
use Rattle.store_text.specs.Held.{note_at, held_in, held_of, AllIn}
use Rattle.store_text.proofs.Marks.{marks-step, marks-none, marks-all}

pub row-length : (r : Row)
    → length (row_text r) ≡ length (line_of prompt_word r.number) + length (line_of start_word r.start) + length
    (line_of octets_word r.octets)
unfolding row_text
row-length r = rw (length-append, length-append) (omega arith)

pub mark-length : (m : Mark) → length (mark_text m) ≡ 5 + length (decimal m.octets) + length (line_of comma m.samples)
unfolding mark_text line_of
mark-length m = simp length-append (omega arith)

pub note-length : (n : Note)
    → length (note_text n) ≡ length (line_of law_word n.law) + length (line_of samples_word n.samples) + length (marks_text n.marks)
unfolding note_text
note-length n = rw (length-append, length-append) (omega arith)

-- what is left of a text that is counted and put piece by piece
pub record Counting (all left : List ℕ) (sum most : ℕ) : Type 0 where
  pub few : sum ≤ most
  pub says : sum + length left ≡ length all

pub counting-first : {all left : List ℕ} {most : ℕ} → left ≡ all → Counting all left 0 most
counting-first e = record { few = omega arith; says = omega (arith, ap length e) }

pub counting-turn : {all left rest : List ℕ} {sum most : ℕ} (w : List ℕ) {more n : ℕ} → Counting all left sum most → left ≡ w ++ rest
    → more ≡ length w → more ≤ n → {most' : ℕ} → most + n ≤ most' → Counting all rest (sum + more) most'
counting-turn {all} {left} {rest} {sum} {most} w {more} {n} c e f h k =
    let l = ap length e ∙ length-append w rest in
    record { few = omega (arith, c.few); says = omega (arith, c.says, l) }

pub counting-end : {all left : List ℕ} {sum most : ℕ} → Counting all left sum most → left ≡ [] → sum ≡ length all
counting-end c e = omega (arith, c.says, ap length e)

pub record Putting (all left out₀ : List ℕ) (at : ℕ) (out : List ℕ) (end : ℕ) : Type 0 where
  pub done : List ℕ
  pub parts : done ++ left ≡ all
  pub puts : Puts out₀ at done out end

pub puts_none : (out : List ℕ) (at : ℕ) → Puts out at [] out at
puts_none out at = record { says = sym (append-nil (take at out)); rest = refl; place = omega arith; size = refl }

pub putting-first : {all left : List ℕ} (out : List ℕ) (at : ℕ) → left ≡ all → Putting all left out at out at
putting-first out at e = record { done = []; parts = e; puts = puts_none out at }

module _ {all left out₀ out : List ℕ} {at end : ℕ} (p : Putting all left out₀ at out end) where
  pub putting-fits : (w rest : List ℕ) → left ≡ w ++ rest → at + length all ≤ length out₀ → end + length w ≤ length out
  putting-fits w rest e h =
      let l = ap length (sym p.parts) ∙ length-append p.done left in
      let m = ap length e ∙ length-append w rest in
      omega (arith, l, m, p.puts.place, p.puts.size)

  pub putting-turn : {w rest out' : List ℕ} {end' : ℕ} → left ≡ w ++ rest → Puts out end w out' end' → Putting all rest out₀ at out' end'
  putting-turn {w} {rest} e q =
      record {
        done = p.done ++ w;
        parts = append_assoc p.done w rest ∙ ap (λ (l : List ℕ). p.done ++ l) (sym e) ∙ p.parts;
        puts = puts_then p.puts q;
      }

  pub putting-end : left ≡ [] → Puts out₀ at all out end
  putting-end e = puts-as (sym (append-nil p.done) ∙ ap (λ (l : List ℕ). p.done ++ l) (sym e) ∙ p.parts) p.puts

-- the text of m marks in cells, from mark j on
abbrev pub marks_left : List ℕ → ℕ → ℕ → List ℕ
marks_left cells m j = marks_text (marks_in (m - j) (drop (2 * j) cells))

abbrev pub mark_laid : List ℕ → ℕ → List ℕ
mark_laid cells j = mark_text (mark_of (get_or cells (2 * j) 0) (get_or cells (2 * j + 1) 0))

pub marks-start : (cells : List ℕ) (m : ℕ) → marks_left cells m 0 ≡ marks_text (marks_in m cells)
marks-start cells m = ap marks_text (sym (marks-all cells m))

pub marks-left : (cells : List ℕ) (m j : ℕ) → j < m → marks_left cells m j ≡ mark_laid cells j ++ marks_left cells m (j + 1)
unfolding marks_text
marks-left cells m j h = rw (marks-step cells m j h)

pub marks-over : (cells : List ℕ) (m j : ℕ) → m ≤ j → marks_left cells m j ≡ []
unfolding marks_text
marks-over cells m j h = rw (marks-none cells m j h)

-- the text of n greetings, from greeting i on, whose marks begin at place p of the cells
abbrev pub text_left : List ℕ → List ℕ → List ℕ → ℕ → ℕ → ℕ → List ℕ
text_left t hs ms n p i = listed_text (listing (left t n i) (notes_in (left hs n i) (drop p ms)))

pub text-start : (t hs ms : List ℕ) (n : ℕ) → text_left t hs ms n 0 0 ≡ listed_text (held_in t hs ms n)
text-start t hs ms n = rw (left-all t n, left-all hs n)

abbrev pub row_laid : List ℕ → ℕ → List ℕ
row_laid t i = row_text (row_at t (1 + 3 * i))

abbrev pub note_laid : List ℕ → List ℕ → ℕ → ℕ → List ℕ
note_laid hs ms p i = note_text (note_at hs (1 + 3 * i) (drop p ms))

pub text-left : (t hs ms : List ℕ) (n p i : ℕ) → i < n
    → text_left t hs ms n p i ≡ (row_laid t i ++ note_laid hs ms p i) ++ text_left t hs ms n (p + 2 * get_or hs (1 + 3 * i + 2) 0) (i + 1)
unfolding listed_text listing notes_in
text-left t hs ms n p i h =
    let more = text_left t hs ms n (p + 2 * get_or hs (1 + 3 * i + 2) 0) (i + 1) in
    rw (
      left_step t n i refl h,
      left_step hs n i refl h,
      drop-drop (2 * get_or hs (1 + 3 * i + 2) 0) p ms,
      append_assoc (row_laid t i)
          (note_laid hs ms p i) more,
    )

pub text-over : (t hs ms : List ℕ) (n p i : ℕ) → n ≤ i → text_left t hs ms n p i ≡ []
unfolding listed_text listing
text-over t hs ms n p i h = rw (left-none t n i h)

-- the marks of the greetings that are left are in the cells
pub record Within (hs ms : List ℕ) (n p i : ℕ) : Type 0 where
  pub says : p + 2 * marks_held (left hs n i) ≤ length ms

pub within_first : (hs ms : List ℕ) (n : ℕ) → 2 * marks_held (rows_at hs n 1) ≤ length ms → Within hs ms n 0 0
within_first hs ms n h = record { says = omega (arith, ap marks_held (left-all hs n)) }

within_step : (hs : List ℕ) (n i : ℕ) → i < n → marks_held (left hs n i) ≡ get_or hs (1 + 3 * i + 2) 0 + marks_held (left hs n (i + 1))
unfolding held
within_step hs n i h = rw (left_step hs n i refl h)

module _ {hs ms : List ℕ} {n p i : ℕ} (w : Within hs ms n p i) (h : i < n) where
  pub within-here : p + 2 * get_or hs (1 + 3 * i + 2) 0 ≤ length ms
  within-here = omega (arith, w.says, within_step hs n i h)

  pub within-turn : {m : ℕ} → m ≡ get_or hs (1 + 3 * i + 2) 0 → Within hs ms n (p + 2 * m) (i + 1)
  within-turn e = record { says = omega (arith, w.says, within_step hs n i h, e) }

  -- the cells as they are lent
  pub within-part : 2 * get_or hs (1 + 3 * i + 2) 0 ≤ length (take (length ms - p) (drop p ms))
  within-part = rw (from_on ms p) (omega (arith, within-here, length-drop p ms))

abbrev note_part : List ℕ → List ℕ → ℕ → ℕ → List ℕ
note_part hs ms p i = note_text (note_at hs (1 + 3 * i) (take (length ms - p) (drop p ms)))

note-part : (hs ms : List ℕ) (p i : ℕ) → note_part hs ms p i ≡ note_laid hs ms p i
note-part hs ms p i = ap (λ (l : List ℕ). note_text (note_at hs (1 + 3 * i) l)) (from_on ms p)

-- a greeting counted
pub octets-turn : (t hs ms : List ℕ) (n p i : ℕ) {all : List ℕ} {sum row note m : ℕ}
    → Counting all (text_left t hs ms n p i) sum (115964117079 * i) → i < n
    → row ≡ length (row_laid t i) → row ≤ 53 → note ≡ length (note_part hs ms p i) → note ≤ 115964117026 → m ≡ get_or hs (1 + 3 * i + 2) 0
    → Counting all (text_left t hs ms n (p + 2 * m) (i + 1)) (sum + (row + note)) (115964117079 * (i + 1))
octets-turn t hs ms n p i {all} {sum} {row} {note} {m} c h e a f b g =
    let l = length-append (row_laid t i) (note_laid hs ms p i) in
    let q = ap length (note-part hs ms p i) in
    let w = row_laid t i ++ note_laid hs ms p i in
    rw g (counting-turn w {n = 115964117079} c (text-left t hs ms n p i h) (omega (arith, e, f, l, q)) (omega arith) (omega arith))

-- a greeting put: its row, then its note
text-parts : (t hs ms : List ℕ) (n p i : ℕ) → i < n
    → text_left t hs ms n p i ≡ row_laid t i ++ (note_laid hs ms p i ++ text_left t hs ms n (p + 2 * get_or hs (1 + 3 * i + 2) 0) (i + 1))
text-parts t hs ms n p i h =
    text-left t hs ms n p i h
    ∙ append_assoc (row_laid t i) (note_laid hs ms p i) (text_left t hs ms n (p + 2 * get_or hs (1 + 3 * i + 2) 0) (i + 1))

module _ (t hs ms : List ℕ) (n p i : ℕ) {all out₀ out : List ℕ} {start at : ℕ}
    (q : Putting all (text_left t hs ms n p i) out₀ start out at) (h : i < n)
  where
    abbrev more : List ℕ
    more = text_left t hs ms n (p + 2 * get_or hs (1 + 3 * i + 2) 0) (i + 1)

    pub row_fits : start + length all ≤ length out₀ → at + length (row_laid t i) ≤ length out
    row_fits l = putting-fits q (row_laid t i) (note_laid hs ms p i ++ more) (text-parts t hs ms n p i h) (omega arith)

    module _ {out' : List ℕ} {a : ℕ} (r : Puts out at (row_laid t i) out' a) where
      row_put : Putting all (note_laid hs ms p i ++ more) out₀ start out' a
      row_put = putting-turn q (text-parts t hs ms n p i h) r

      pub note-fits : start + length all ≤ length out₀ → a + length (note_part hs ms p i) ≤ length out'
      note-fits l = rw (note-part hs ms p i) (putting-fits row_put (note_laid hs ms p i) more refl (omega arith))

      pub note-put : {out'' : List ℕ} {b m : ℕ} → Puts out' a (note_part hs ms p i) out'' b → m ≡ get_or hs (1 + 3 * i + 2) 0
          → Putting all (text_left t hs ms n (p + 2 * m) (i + 1)) out₀ start out'' b
      note-put s e = rw e (putting-turn row_put refl (puts-as (note-part hs ms p i) s))

-- the second list and the marks, as they are lent
abbrev from_on_text : List ℕ → ℕ → List ℕ
from_on_text l k = take (length l - k) (drop k l)

pub parts-text : (t : List ℕ) (n : ℕ) → listed_text (held_in t (from_on_text t 97) (from_on_text t 194) n) ≡ listed_text (held_of t n)
parts-text t n = rw (from_on t 97, from_on t 194)

pub parts-fit : (t : List ℕ) (n : ℕ) → n ≤ 32 → 194 + 2 * marks_held (rows_at (drop 97 t) n 1) ≤ length t
    → AllIn t (from_on_text t 97) (from_on_text t 194) n
parts-fit t n a b =
    rw (from_on t 97, from_on t 194) (a, omega arith, omega (arith, length-drop 97 t), omega (arith, length-drop 194 t))
