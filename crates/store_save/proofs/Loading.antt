-- Loading in the code's steps: what is read stands in cells (`celled-noted`, `celled-early`), and what a text that is taken leaves.
use Prim.Native.Nat.{ℕ, suc, ◌≤◌, ◌<◌}
use mathlib.Core.Path.{◌≡◌, refl, sym, ap, subst, ◌∙◌}
use mathlib.Core.List.{List, [], ◌∷◌, ◌++◌}
use mathlib.Core.Bool.{true}
use native.Mathlib.Omega.{arith}
use lib.ListN.{length, get_or, drop, replicate}
use lib.Seq.{drop_at}
use borrow.Author.Tests.{lt-ltb, le-ltb}
use Rattle.rules.proofs.Judged.{judged-passes}
use Rattle.store_rows.specs.declared.rows.Row.{Row}
use Rattle.store_rows.specs.Limits.{size_of}
use Rattle.store_rows.specs.Cells.{rows_at, laid}
use Rattle.store_rows.proofs.Cells.{rows-laid, count-laid}
use Rattle.store_greeting.specs.Marks.{Note}
use Rattle.store_notes.specs.Cells.{notes_laid}
use Rattle.store_notes.specs.Sane.{store_cells}
use Rattle.store.specs.declared.Refusal.{Refusal}
use Rattle.store.specs.declared.Refusal.TheVariants.{Table}
use Rattle.store.specs.Calls.{Answer}
use Rattle.store.specs.Store.{Outcome, leaves, refused}
use Rattle.text_keyvalue.specs.Reading.{Read, whole, none}
use Rattle.std.specs.Prelude.{Option, Some, None}
use Rattle.store_text.specs.Table.{table_in}
use Rattle.store_text.specs.Noted.{Listed, listed_at, rows_listed, notes_listed}
use Rattle.store_text.specs.declared.Form.{Form}
use Rattle.store_text.specs.Form.{form_of}
use Rattle.store_text.specs.Fills.{Fills, FillsNoted, laws_listed}
use Rattle.store_text.proofs.Noting.{length-rows-listed}
use Rattle.store_save.specs.Verdicts.{Verdict}
use Rattle.std.specs.Prelude.{Ok, Err}
use Rattle.store_save.specs.Saved.{all_true, load_asks, load_in, load_noted, load_of, early}
use Rattle.store_save.specs.Steps.{bad_by, notes_by, judged_by, greetings_of, is_whole, Celled, AllNotes, Holds}
use Rattle.store_save.specs.Calls.{Takes, Load, verdict_of}
use Rattle.store_save.proofs.Bad.{bad-celled, notes-celled, rows-early, laws-early, true-early}
use Rattle.store_save.proofs.Judging.{Passes, verdicts, verdict-is, celled-stop, celled-fine, passes-true}

length-laws : (xs : List Listed) → length (laws_listed xs) ≡ length xs
unfolding laws_listed
length-laws [] = refl
length-laws (x ∷ xs) = ap suc (length-laws xs)

rows-read : (rows : List Row) (cells₀ : List ℕ) {cells : List ℕ} {n : ℕ} → n ≡ length rows → cells ≡ laid rows cells₀
    → rows_at cells n 1 ≡ rows
rows-read rows cells₀ {cells} {n} e f =
    let m : n ≡ get_or (laid rows cells₀) 0 0 = e ∙ sym (count-laid rows cells₀) in
    ap (λ (c : List ℕ). rows_at c n 1) f ∙ ap (λ (j : ℕ). rows_at (laid rows cells₀) j 1) m ∙ rows-laid rows cells₀

counted : (rows : List Row) (cells₀ : List ℕ) {cells : List ℕ} {n : ℕ} → cells ≡ laid rows cells₀ → n ≡ length rows → get_or cells 0 0 ≡ n
counted rows cells₀ f e = ap (λ (c : List ℕ). get_or c 0 0) f ∙ count-laid rows cells₀ ∙ sym e

-- the greetings of R-8's lines, as they were read into cells
pub fills-as : {found : Read (List Listed)} {a b c d : List ℕ} {r q : (Option ℕ)} → r ≡ q → FillsNoted found a b c d r
    → FillsNoted found a b c d q
fills-as e f = rw (← e) f

pub celled-noted : (found : Read (List Listed)) {cells₀ cells laws₀ laws : List ℕ} {n : ℕ}
    → FillsNoted found cells₀ cells laws₀ laws (Some n)
    → 97 ≤ length cells → 32 ≤ length laws → (is_whole found ≡ true) × Celled (greetings_of found) cells laws n
celled-noted none f a b = let e = f.count in let z : ◌≡◌ {A = ℕ} 0 1 = cc in absurd (omega arith)
celled-noted (whole xs i) {cells₀} {cells} {laws₀} {laws} {n} f a b =
    let e = f.count in
    let k : n ≡ length xs = cc in
    let d : drop (length xs) laws ≡ drop (length xs) laws₀ =
    ap (drop (length xs)) f.filled.1 ∙ drop_at (laws_listed xs) (drop (length xs) laws₀) (length xs) (length-laws xs) in (
      refl,
      record {
        few = f.few n refl;
        cells-room = a;
        laws-room = b;
        counts = counted (rows_listed xs) cells₀ f.filled.0 (k ∙ sym (length-rows-listed xs));
        rows_are = rows-read (rows_listed xs) cells₀ (k ∙ sym (length-rows-listed xs)) f.filled.0;
        laws-are = f.filled.1 ∙ ap (λ (l : List ℕ). laws_listed xs ++ l) (sym d);
      },
    )

-- those of R-6's lines: law 1
pub rows_as : {found : Read (List Row)} {a b : List ℕ} {r q : (Option ℕ)} → r ≡ q → Fills found a b r → Fills found a b q
rows_as e f = rw (← e) f

pub record Early (b : List ℕ) (found : Read (List Row)) (cells : List ℕ) (n : ℕ) : Type 0 where
  pub rows : List Row
  pub end : ℕ
  pub reads : found ≡ whole rows end
  pub celled : Celled (early b rows) cells (replicate 32 1) n

pub celled-early : (b : List ℕ) (found : Read (List Row)) {cells₀ cells : List ℕ} {n : ℕ} → Fills found cells₀ cells (Some n)
    → 97 ≤ length cells → Early b found cells n
celled-early b none f a = let e = f.count in let z : ◌≡◌ {A = ℕ} 0 1 = cc in absurd (omega arith)
celled-early b (whole rows i) {cells₀} {cells} {n} f a =
    let e = f.count in
    let k : n ≡ length rows = cc in
    let few = f.few n refl in
    record {
      rows = rows;
      end = i;
      reads = refl;
      celled = record {
        few = few;
        cells-room = a;
        laws-room = omega arith;
        counts = counted rows cells₀ f.filled k;
        rows_are = rows-read rows cells₀ k f.filled ∙ sym (rows-early b rows);
        laws-are = laws-early b rows 32 (omega arith);
      };
    }

-- what storing rests on, and what it stores
module _ {b : List ℕ} {size : ℕ} {xs : List Listed} {cells laws : List ℕ} {n : ℕ} (c : Celled xs cells laws n) (p : Passes b size xs) where
  pub all-notes : {t : List ℕ} {s : ℕ} → s ≡ size → s ≡ size_of b → store_cells s ≤ length t → AllNotes b cells laws n s t
  all-notes e z r =
      record {
        few = c.few;
        cells-room = c.cells-room;
        laws-room = c.laws-room;
        inside = omega (arith, z);
        small = omega (arith, z);
        rises = rw (e, c.rows_are) p.rises;
        fine = rw c.rows_are (ap (bad_by b (rows_listed xs)) c.laws-are ∙ sym (bad-celled b xs (drop (length xs) laws)) ∙ p.fine);
        room = r;
      }

  takes_all : {t t' : List ℕ} {r : Answer} → all_true b xs ≡ true → Holds (Ok tt) b cells laws n t t' r → Takes (load_in b size xs) t t' r
  takes_all {t} e h =
      let old = laid (rows_at cells n 1) t in
      let m : notes_by b (rows_at cells n 1) laws ≡ notes_listed xs =
      ap (λ (l : List Row). notes_by b l laws) c.rows_are ∙ ap (notes_by b (rows_listed xs)) c.laws-are
      ∙ sym (notes-celled b xs (drop (length xs) laws) e) in
      rw (passes-true p e)
      (record {
        answer = h.answer;
        table = h.table ∙ ap (λ (l : List Note). notes_laid l old) m
            ∙ ap (λ (l : List Row). notes_laid (notes_listed xs) (laid l t)) c.rows_are;
      })

-- a verdict, as an outcome
stopped : (o : Outcome) {w : Refusal} → Err w ≡ verdict_of o → o ≡ refused w
stopped (leaves a) e = let z : ◌≡◌ {A = ℕ} 0 1 = cc in absurd (omega arith)
stopped (refused v) {w} e = let z : w ≡ v = cc in ap refused (sym z)

refuses : (o : Outcome) (t : List ℕ) {w : Refusal} → o ≡ refused w → Takes o t t (Err w)
refuses o t e = rw e (record { answer = refl; table = refl })

pub record Accepts (b : List ℕ) (size : ℕ) (xs : List Listed) : Type 0 where
  pub passes : Passes b size xs
  pub all : all_true b xs ≡ true

pub accepts : (b : List ℕ) (size : ℕ) (xs : List Listed) → Ok tt ≡ verdict_of (load_in b size xs) → Accepts b size xs
accepts b size xs e =
    let m = (judged-passes verdicts (load_asks b size xs)).0 (sym (e ∙ verdict-is b size xs)) in
    record { passes = record { rises = m.0; once = m.1.0; fine = m.1.1.0 }; all = m.1.1.1.0 }

-- R-8's lines
noted-is : (b : List ℕ) (size : ℕ) (found : Read (List Listed)) → is_whole found ≡ true
    → load_noted b size found ≡ load_in b size (greetings_of found)
noted-is b size (whole xs i) e = refl
noted-is b size none e = let z : ◌≡◌ {A = ℕ} 0 1 = cc in absurd (omega arith)

module _ (b : List ℕ) (found : Read (List Listed)) {cells laws : List ℕ} {n : ℕ} (whole : is_whole found ≡ true)
    (c : Celled (greetings_of found) cells laws n) {v : Verdict} (e : v ≡ verdict_of (load_in b (size_of b) (greetings_of found))) where
  pub noted-ready : {t : List ℕ} {s : ℕ} → s ≡ size_of b → store_cells s ≤ length t
      → v ≡ Ok tt → (get_or cells 0 0 ≡ n) × AllNotes b cells laws n s t
  noted-ready z r f = (c.counts, all-notes c (accepts b (size_of b) (greetings_of found) (sym f ∙ e)).passes z z r)

  pub noted-held : {t t' : List ℕ} {r : Answer} → Holds v b cells laws n t t' r → Takes (load_noted b (size_of b) found) t t' r
  noted-held {t} {t'} {r} h = rw (noted-is b (size_of b) found whole) (go v e h)
    where
      xs : List Listed
      xs = greetings_of found

      go : (v : Verdict) → v ≡ verdict_of (load_in b (size_of b) xs) → Holds v b cells laws n t t' r → Takes (load_in b (size_of b) xs) t t' r
      go (Err w) e h = rw (h.answer, h.table) (refuses (load_in b (size_of b) xs) t (stopped (load_in b (size_of b) xs) e))
      go (Ok _) e h = let a = accepts b (size_of b) xs e in takes_all c a.passes a.all h

-- the whole call
none_read : (found : Read (List Row)) {a b : List ℕ} → Fills found a b None → found ≡ none
none_read (whole rows i) f = let e = f.count in let z : ◌≡◌ {A = ℕ} 0 1 = cc in absurd (omega arith)
none_read none f = refl

pub early-ready : (b : List ℕ) {found : Read (List Row)} {x : List ℕ} {n : ℕ} → Early b found x n → {v : Verdict}
    → v ≡ judged_by b (size_of b) (rows_at x n 1) (replicate 32 1) → {t : List ℕ} {s : ℕ} → s ≡ size_of b → store_cells s ≤ length t
    → v ≡ Ok tt → (get_or x 0 0 ≡ n) × AllNotes b x (replicate 32 1) n s t
early-ready b e f z r g =
    (e.celled.counts, all-notes e.celled (celled-fine e.celled b (size_of b) (sym g ∙ f)) z z r)

module _ (text b t : List ℕ) {size cells : ℕ} (z : size ≡ size_of b) (k : cells ≡ store_cells size) where
  pub load-short : length t < cells → Load text b t t (Err Table)
  load-short h = refuses (load_of text b t) t (rw (← z, ← k, lt-ltb (length t) cells h))

  module _ (h : cells ≤ length t) where
    pub load-later : {x y t' : List ℕ} {r : Answer} {form : Form} → Fills (table_in text) x y None → form ≡ form_of text
        → Takes (load_noted b (size_of b) (listed_at form.most form.from text)) t t' r → Load text b t t' r
    load-later {t' = t'} {r} f e g =
        let found = subst (λ (q : Form). Takes (load_noted b (size_of b) (listed_at q.most q.from text)) t t' r) e g in
        rw (← z, ← k, le-ltb (length t) cells h, none_read (table_in text) f) (rw (← z) at found)

    module _ {x : List ℕ} {n : ℕ} (e : Early b (table_in text) x n) where
      load-stop : {w : Refusal} → Err w ≡ judged_by b (size_of b) (rows_at x n 1) (replicate 32 1) → Load text b t t (Err w)
      load-stop f =
          let o = load_in b (size_of b) (early b e.rows) in
          let g = celled-stop e.celled b (size_of b) f in
          refuses (load_of text b t) t (rw (← z, ← k, le-ltb (length t) cells h, e.reads) (rw (← z) at (stopped o g)))

      pub load-early : (v : Verdict) {t' : List ℕ} {r : Answer} → v ≡ judged_by b (size_of b) (rows_at x n 1) (replicate 32 1)
          → Holds v b x (replicate 32 1) n t t' r → Load text b t t' r
      load-early (Err w) f d = rw (d.answer, d.table) (load-stop f)
      load-early (Ok _) f d =
          let p = celled-fine e.celled b (size_of b) f in
          rw (← z, ← k, le-ltb (length t) cells h, e.reads) (rw (← z) at (takes_all e.celled p (true-early b e.rows) d))
