-- R-11's first line: what is saved is read, with the line and without it (`formed-back`, `unformed-back`). The line is needed exactly where
-- the block exceeds 65,535 (`form-by-size`). Readers that do not know it refuse it at their first line (`old-line`, `old-rows`,
-- `old-noted`).
use Prim.Native.Nat.{ℕ, ◌+◌, ◌≤◌, ◌<◌}
use mathlib.Core.Path.{◌≡◌, refl, sym, ap, ◌∙◌}
use mathlib.Core.List.{List, [], ◌∷◌, ◌++◌}
use mathlib.Core.Bool.{Bool, true, false, cond}
use native.Mathlib.Omega.{arith}
use lib.ListN.{length, drop}
use lib.Dec.{ltb}
use borrow.Author.Tests.{lt-ltb, le-ltb, ltb-false, lt-leb}
use Rattle.rules.specs.Listing.{digits_from}
use Rattle.store_rows.specs.declared.rows.Row.{Row}
use Rattle.store_rows.specs.Limits.{largest_block, most_number}
use Rattle.store_rows.specs.Sane.{rising}
use Rattle.store_rows.proofs.Lists.{passed}
use Rattle.text_keyvalue.specs.Reading.{whole, none, begins}
use Rattle.text_keyvalue.specs.Lines.{line_of, line, ranged}
use Rattle.store_text.specs.declared.Form.{Form}
use Rattle.store_text.specs.Table.{prompt_word, most_place, row, rows_from, table_in, row_text, table_text}
use Rattle.store_text.specs.Noted.{Listed, listed, listed_from, listed_at, listed_in, listed_text}
use Rattle.store_text.specs.Form.{form_word, form_line, any_far, needs_form, form_of, formed_in, form_by}
use Rattle.store_text.proofs.Exact.{Sayable, Each}
use Rattle.store_text.proofs.Noted.{SayableAll, listed-back-at, rows-refused, noted_back, row-not-here}

-- it is a line as the others are
form-is : form_line ≡ line_of form_word 2
unfolding line_of digits_from
form-is = refl

-- in the code's steps
pub form-taken : (text : List ℕ) → begins form_line text ≡ true → record { from = 7; most = largest_block } ≡ form_of text
form-taken text e = sym (rw e)

pub form-left : (text : List ℕ) → begins form_line text ≡ false → record { from = 0; most = most_place } ≡ form_of text
form-left text e = sym (rw e)

pub form-most : (text : List ℕ) {form : Form} → form ≡ form_of text → form.most ≤ largest_block
form-most text {form} e = go (begins form_line text) e
  where
    go : (b : Bool) → form ≡ cond b (record { from = 7; most = largest_block }) (record { from = 0; most = most_place })
        → form.most ≤ largest_block
    go true e = rw e (omega arith)
    go false e = rw e (omega arith)

module _ (size : ℕ) {w : ℕ} (z : w ≡ most_place) where
  pub form-here : w < size → form_line ≡ form_by size
  form-here h = sym (rw (lt-ltb most_place size (omega arith)))

  pub form-none : size ≤ w → [] ≡ form_by size
  form-none h = sym (rw (le-ltb most_place size (omega arith)))

pub form-few : (size : ℕ) → length (form_by size) ≤ 7
form-few size = go (ltb most_place size)
  where
    go : (b : Bool) → length (cond b form_line []) ≤ 7
    go true = omega arith
    go false = omega arith

-- with the line
pub formed : (rest : List ℕ) → formed_in (form_line ++ rest) ≡ listed_at largest_block 7 (form_line ++ rest)
unfolding begins
formed rest = refl

-- without it
pub unformed : (text : List ℕ) → begins form_line text ≡ false → formed_in text ≡ listed_in text
unformed text e = rw e

pub listed-begins : (xs : List Listed) → begins form_line (listed_text xs) ≡ false
unfolding begins listed_text row_text line_of
listed-begins [] = refl
listed-begins (x ∷ xs) = refl

-- What is saved is read.
pub formed-back : (xs : List Listed) → Each (SayableAll largest_block) xs → length xs ≤ 32
    → formed_in (form_line ++ listed_text xs) ≡ whole xs (7 + length (listed_text xs))
formed-back xs h l = formed (listed_text xs) ∙ listed-back-at largest_block (omega arith) xs (form_line ++ listed_text xs) 7 h l refl

pub unformed-back : (xs : List Listed) → Each (SayableAll most_place) xs → length xs ≤ 32
    → formed_in (listed_text xs) ≡ whole xs (length (listed_text xs))
unformed-back xs h l = unformed (listed_text xs) (listed-begins xs) ∙ noted_back xs h l

-- greetings inside a block have no start and no count of octets above its size
far-no : (least lo size : ℕ) (rows : List Row) → size ≤ most_place → rising least lo size rows ≡ true → any_far rows ≡ false
unfolding any_far rising
far-no least lo size [] h e = refl
far-no least lo size (r ∷ rows) h e =
    let p = passed (ltb r.start lo) _ e in
    let q = passed (ltb r.octets least) _ p.1 in
    let u = passed (ltb size (r.start + r.octets)) _ q.1 in
    let inside = ltb-false size (r.start + r.octets) u.0 in
    rw (le-ltb most_place r.start (omega arith), le-ltb most_place r.octets (omega arith))
    (far-no least (r.start + r.octets) size rows h u.1)

-- the block's size alone tells
pub form-by-size : (least lo size : ℕ) (rows : List Row) → rising least lo size rows ≡ true → needs_form size rows ≡ ltb most_place size
form-by-size least lo size rows e = go (ltb most_place size) refl
  where
    over : (t : Bool) → cond t true true ≡ true
    over true = refl
    over false = refl

    go : (b : Bool) → ltb most_place size ≡ b → needs_form size rows ≡ ltb most_place size
    go true f = rw f (over (any_far rows))
    go false f = rw (far-no least lo size rows (ltb-false most_place size f) e)

-- "The old table reader must refuse a form=2 table at its first line with TABLE, never show a shortened number": no line of a greeting
-- begins so
pub old-line : (rest : List ℕ) → ranged prompt_word 1 most_number (form_line ++ rest) 0 ≡ none
unfolding ranged line begins
old-line rest = refl

form-row : (far : ℕ) (rest : List ℕ) → row far (form_line ++ rest) 0 ≡ none
unfolding begins
form-row far rest = row-not-here far (form_line ++ rest) 0 refl

pub old-rows : (rest : List ℕ) → table_in (form_line ++ rest) ≡ none
unfolding rows_from
old-rows rest = rw (lt-leb (length (form_line ++ rest)) 0 (omega arith), form-row most_place rest)

pub old-noted : (rest : List ℕ) → listed_in (form_line ++ rest) ≡ none
unfolding listed_from listed
old-noted rest = rw (lt-leb (length (form_line ++ rest)) 0 (omega arith), form-row most_place rest)

-- `form=2` and nothing else lists no greetings
pub form-alone : formed_in form_line ≡ whole [] 7
unfolding begins listed_from
form-alone = refl

-- a second such line, and R-6's lines behind it
form-at : (far : ℕ) (text rest : List ℕ) (i : ℕ) → drop i text ≡ form_line ++ rest → i < length text → listed_at far i text ≡ none
unfolding listed_from listed begins
form-at far text rest i e h = rw (lt-leb (length text) i h, row-not-here far text i (ap (begins prompt_word) e))

pub second-form : (rest : List ℕ) → formed_in (form_line ++ (form_line ++ rest)) ≡ none
second-form rest = formed (form_line ++ rest) ∙ form-at largest_block (form_line ++ (form_line ++ rest)) rest 7 refl (omega arith)

pub form-early : (r : Row) (rows : List Row) → Sayable largest_block r → formed_in (form_line ++ table_text (r ∷ rows)) ≡ none
form-early r rows h =
    formed (table_text (r ∷ rows)) ∙ rows-refused largest_block (omega arith) r rows h (form_line ++ table_text (r ∷ rows)) 7 refl

-- a first line that is neither this one nor a greeting's
pub other-first : (text : List ℕ) → 1 ≤ length text → begins form_line text ≡ false → begins prompt_word text ≡ false → formed_in text ≡ none
unfolding listed_from listed
other-first text h e f = unformed text e ∙ rw (lt-leb (length text) 0 (omega arith), row-not-here most_place text 0 f)

pub form-of-02 : (rest : List ℕ) → formed_in (0x66 ∷ 0x6F ∷ 0x72 ∷ 0x6D ∷ 0x3D ∷ 0x30 ∷ 0x32 ∷ 0x0A ∷ rest) ≡ none
unfolding begins
form-of-02 rest = other-first (0x66 ∷ 0x6F ∷ 0x72 ∷ 0x6D ∷ 0x3D ∷ 0x30 ∷ 0x32 ∷ 0x0A ∷ rest) (omega arith) refl refl

pub form-of-3 : (rest : List ℕ) → formed_in (0x66 ∷ 0x6F ∷ 0x72 ∷ 0x6D ∷ 0x3D ∷ 0x33 ∷ 0x0A ∷ rest) ≡ none
unfolding begins
form-of-3 rest = other-first (0x66 ∷ 0x6F ∷ 0x72 ∷ 0x6D ∷ 0x3D ∷ 0x33 ∷ 0x0A ∷ rest) (omega arith) refl refl
