-- A cut of power loses no greeting, at every cut of every write.
--   `start-loads`: whatever a cut has left, a start loads the store that it stands for, with every number, octet, law, sample and mark.
--   `start-cut`: a start that is cut leaves what stands for the same store, so that it may be cut again, any number of times (`resume`).
--   `move-cut`, `closing-cut`: moves that are cut stand for the same greetings.     `turn-cut`: a table's text and the record, of a delete.
--   `put-cut`: a put stands for the store before it or the one after it.
use Prim.Native.Nat.{ℕ, zero, suc, ◌+◌, ◌-◌, ◌*◌, ◌≤◌, ◌<◌, min}
use mathlib.Core.Path.{◌≡◌, refl, sym, ap, subst, ◌∙◌}
use mathlib.Core.List.{List, [], ◌∷◌, ◌++◌}
use mathlib.Core.Bool.{Bool, true, false, cond}
use native.Mathlib.Omega.{arith}
use lib.ListN.{length, take, drop, length-append, length-drop, take-append-drop}
use lib.Seq.{paste, length-paste, take_at, drop_at, get_or-append-add, append_snoc}
use lib.Dec.{eqb, ltb}
use borrow.Author.Tests.{eqb-true, eqb-false, ltb-true, ltb-false}
use Rattle.store_rows.specs.declared.rows.Row.{Row}
use Rattle.std.specs.Prelude.{Option, Some, None}
use Rattle.store_rows.specs.Limits.{largest_block, size_of}
use Rattle.store_rows.specs.Rows.{row_of, held, Kept, contents}
use Rattle.store_rows.specs.Finding.{lowest_gap}
use Rattle.store_rows.specs.Sane.{rising}
use Rattle.store_rows.specs.Changed.{nth, insert_at, written}
use Rattle.store_rows.specs.Closing.{moved_to, closed_rows}
use Rattle.store_greeting.specs.Marks.{Note, note_of}
use Rattle.store_notes.specs.Notes.{True, insert_note}
use Rattle.store_notes.specs.Sane.{store_cells}
use Rattle.store.specs.Store.{leaves}
use Rattle.store_text.specs.Table.{table_text}
use Rattle.store_text.specs.Noted.{rows_listed, notes_listed}
use Rattle.store_text.specs.Form.{any_far}
use Rattle.store_save.specs.Saved.{any_bad, early, load_of}
use Rattle.store_rows.proofs.Rising.{rising-head}
use Rattle.store_promises.specs.Kept.{Good}
use Rattle.store_promises.proofs.Along.{along-length, length-contents}
use Rattle.store_promises.proofs.Rising.{rising-nil, rising-cons, closing-rises}
use Rattle.store_promises.proofs.Contents.{length-written}
use Rattle.store_promises.proofs.Gaps.{Split, gap-split}
use Rattle.store_promises.proofs.Numbers.{Distinct}
use Rattle.store_promises.proofs.Sayable.{load-of, early-of}
use Rattle.store_moves.specs.declared.steps.State.{State}
use Rattle.store_moves.specs.declared.steps.State.TheVariants.{Still, Moving}
use Rattle.store_moves.specs.Moves.{Lasts, lasts, finish, ahead, Torn, Tells, sane-moving}
use Rattle.store_moves.specs.Record.{page_of, words_for, words_of, still_with, Kept as Words, kept, start_of}
use Rattle.store_moves.specs.Next.{next_from, next_of, replace_at, moved_at}
use Rattle.store_moves.proofs.Moved.{finish-whole, start-whole}
use Rattle.store_moves.proofs.Started.{start-finish}
use Rattle.store_cut.specs.Lasting.{Lasting, lasting, page_in, Write, to-page, to-record, with_page, made, made_all, cut-block}
use Rattle.store_cut.specs.Lasting.{cut-page, cut_record, Run, all, cut, on}
use Rattle.store_cut.specs.Closing.{closing_rows}
use Rattle.store_cut.specs.Writes.{text_of, steps_writes, begun, move_writes, closing_writes, turn_writes, put_writes}
use Rattle.store_cut.proofs.Reading.{written-reads, torn-reads, moved-rises, moved-reads, moved-distinct}
use Rattle.store_cut.proofs.Stands.{Fine, Says, saved, empty, Stands, Bears, bears, rests}
use Rattle.store_cut.proofs.Steps.{steps-run, steps-made, finish-spare}

-- ---- a start

-- what lasts, as a start sees it
abbrev words_in : Lasting → Words
words_in l = kept l.block l.spare l.words

-- so many steps, and then the text of the page in use is loaded: these greetings, with these notes
pub record Loads (K : List Kept) (N : List Note) (l : Lasting) (t : List ℕ) : Type 0 where
  pub steps : ℕ
  pub rows : List Row
  pub still : page_of (start_of steps (words_in l)).words ≤ 1
  pub rested : (start_of steps (words_in l)).words ≡ still_with (page_of (start_of steps (words_in l)).words)
  pub loaded : load_of (page_in (page_of (start_of steps (words_in l)).words) l) (start_of steps (words_in l)).block t
      ≡ leaves (record { block = (start_of steps (words_in l)).block; rows = rows; notes = N; first = 0; second = 0 })
  pub reads : contents (start_of steps (words_in l)).block rows ≡ K

-- a page's text is loaded
pub says-loads : {size : ℕ} {K : List Kept} {N : List Note} {rows : List Row} {text : List ℕ} (b t : List ℕ) → Says size rows N text
    → Fine size K b rows → Good K N → True K N → store_cells (min size largest_block) ≤ length t
    → load_of text b t ≡ leaves (record { block = b; rows = rows; notes = N; first = 0; second = 0 })
unfolding table_text early any_far any_bad rows_listed notes_listed
says-loads {size} {K} {N} {rows} {text} b t (saved x) f g m c =
    let s : size_of b ≡ min size largest_block = ap (λ (y : ℕ). min y largest_block) f.long in
    let count : length N ≡ length rows = sym (along-length _ K N g) ∙ ap length (sym f.reads) ∙ length-contents b rows in
    let text-is : text ≡ text_of (length b) rows N = x ∙ ap (λ (y : ℕ). text_of y rows N) (sym f.long) in
    rw text-is (load-of b t rows N (rw s c) f.few (rw s f.rises) f.apart count (rw f.reads g) (rw f.reads m))
says-loads {size} {K} {N} {rows} {text} b t (empty x e n) f g m c =
    let s : size_of b ≡ min size largest_block = ap (λ (y : ℕ). min y largest_block) f.long in
    let h = subst (λ (rs : List Row). rising 1 0 (min size largest_block) rs ≡ true) e f.rises in
    let d = subst Distinct e f.apart in
    rw (x, e, n) (early-of b t [] (rw s c) (omega arith) (rw s h) d refl refl)

-- the store that is loaded after a move is ended
loads-from : {size page : ℕ} {K : List Kept} {N : List Note} {rows : List Row} (l : Lasting) (t : List ℕ) (n : ℕ) (k : Words) → page ≤ 1
    → start_of n (words_in l) ≡ k → k.words ≡ still_with (1 - page) → Says size rows N (page_in (1 - page) l) → Fine size K k.block rows
    → Good K N → True K N → store_cells (min size largest_block) ≤ length t → Loads K N l t
loads-from {size} {page} {K} {N} {rows} l t n k h e w x f g m c =
    let loads = says-loads k.block t x f g m c in
    let small : 1 - page ≤ 1 = omega arith in
    record {
      steps = n;
      rows = rows;
      still = rw (e, w) small;
      rested = rw (e, w) refl;
      loaded = rw (e, w) loads;
      reads = rw e f.reads;
    }

-- whatever a cut has left
pub start-loads : {size : ℕ} {K : List Kept} {N : List Note} {l : Lasting} → Bears size K N l → Good K N → True K N → (t : List ℕ)
    → store_cells (min size largest_block) ≤ length t → Loads K N l t
unfolding words_of
start-loads {size} {K} {N} {l} z g m t c =
    let s = z.stands in
    let st = z.state in
    let n = ahead st in
    let b = l.block in
    let q = l.spare in
    let from = lasts b q st in
    let w = finish-whole n from s.sane (omega arith) in
    let e : start_of n (words_in l) ≡ kept (finish n from).block (finish n from).spare (words_of z.page (finish n from).state) =
    ap (λ (x : List ℕ). start_of n (kept b q x)) s.words ∙ start-finish n z.page from s.small s.sane in
    loads-from l t n _ s.small e (ap (λ (x : State). words_of z.page x) w.ended) s.text (rw w.block s.fine) g m c

-- a start that is cut
pub start-cut : {size : ℕ} {K : List Kept} {N : List Note} {l l' : Lasting} (n : ℕ) (z : Bears size K N l)
    → Run (steps_writes n z.page (lasts l.block l.spare z.state)) l l' → Bears size K N l'
start-cut {size} {K} {N} {l} {l'} n z r =
    let e = z.stands.words in
    steps-run n (lasts l.block l.spare z.state) l.first l.second
    (subst (λ (x : List ℕ). Stands size K N z.page z.state z.rows (lasting l.block l.spare l.first l.second x)) e
    z.stands)
    (subst (λ (x : List ℕ). Run (steps_writes n z.page (lasts l.block l.spare z.state))
    (lasting l.block l.spare l.first l.second x) l') e r)

-- starts that are cut, one after another, any number of times
pub data Starts {size : ℕ} {K : List Kept} {N : List Note} : (l : Lasting) → Bears size K N l → Lasting → Type 0 where
  no_more : {l : Lasting} {z : Bears size K N l} → Starts l z l
  once_more : {l l' l'' : Lasting} {z : Bears size K N l} (n : ℕ)
      (r : Run (steps_writes n z.page (lasts l.block l.spare z.state)) l l') → Starts l' (start-cut n z r) l'' → Starts l z l''

pub resume : {size : ℕ} {K : List Kept} {N : List Note} {l l' : Lasting} {z : Bears size K N l} → Starts l z l' → Bears size K N l'
resume {z = z} no_more = z
resume (once_more n r s) = resume s

-- ---- the page that is not in use

pub page-other : (page : ℕ) (any : List ℕ) (l : Lasting) → page ≤ 1 → page_in page (with_page (1 - page) any l) ≡ page_in page l
page-other zero any l h = refl
page-other (suc zero) any l h = refl
page-other (suc (suc n)) any l h = absurd (omega arith)

pub page-new : (k : ℕ) (text : List ℕ) (l : Lasting) → page_in k (with_page k text l) ≡ text
page-new k text l = go (eqb k 0)
  where
    go : (x : Bool) → cond x (cond x text l.first) (cond x l.second text) ≡ text
    go true = refl
    go false = refl

-- ---- at rest, with a page in use

pub record Rests (size : ℕ) (K : List Kept) (N : List Note) (page : ℕ) (rows : List Row) (l : Lasting) : Type 0 where
  pub small : page ≤ 1
  pub words : l.words ≡ still_with page
  pub text : Says size rows N (page_in page l)
  pub fine : Fine size K l.block rows

pub rests-stands : {size page : ℕ} {K : List Kept} {N : List Note} {rows : List Row} {l : Lasting} → Rests size K N page rows l
    → Stands size K N (1 - page) Still rows l
rests-stands {size} {page} {K} {N} {rows} {l} z =
    subst (λ (x : List ℕ). Stands size K N (1 - page) Still rows (lasting l.block l.spare l.first l.second x))
    (sym z.words) (rests l.block l.spare l.first l.second z.small z.text z.fine)

pub rests-bears : {size page : ℕ} {K : List Kept} {N : List Note} {rows : List Row} {l : Lasting} → Rests size K N page rows l
    → Bears size K N l
rests-bears z = bears (rests-stands z)

-- the other page holds anything
pub rests-page : {size page : ℕ} {K : List Kept} {N : List Note} {rows : List Row} {l : Lasting} (any : List ℕ)
    → Rests size K N page rows l → Rests size K N page rows (with_page (1 - page) any l)
rests-page {size} {page} {K} {N} {rows} {l} any z =
    let t = subst (Says size rows N) (sym (page-other page any l z.small)) z.text in
    record { small = z.small; words = z.words; text = t; fine = z.fine }

-- the store before a call, or the one after it
pub data Either (A B : Type 0) : Type 0 where
  before : A → Either A B
  after : B → Either A B

-- ---- a delete, and the end of a put: the text to the other page, then the record

module _ {size page : ℕ} {K K' : List Kept} {N N' : List Note} {rows rows' : List Row} {l : Lasting} (z : Rests size K N page rows l)
    (f : Fine size K' l.block rows') where
  pub turned : Rests size K' N' (1 - page) rows' (made_all (turn_writes page (text_of size rows' N')) l)
  unfolding made_all
  turned =
      let h = z.small in
      record { small = omega arith; words = refl; text = saved (page-new (1 - page) (text_of size rows' N') l); fine = f }

  pub turn-cut : {l' : Lasting} → Run (turn_writes page (text_of size rows' N')) l l' → Either (Bears size K N l') (Bears size K' N' l')
  unfolding made_all
  turn-cut (cut (cut-page any)) = before (rests-bears (rests-page any z))
  turn-cut (on (cut cut_record)) = before (rests-bears (rests-page (text_of size rows' N') z))
  turn-cut (on (on all)) = after (rests-bears turned)

-- ---- a put

module _ {size page : ℕ} {K : List Kept} {N : List Note} {rows : List Row} {l : Lasting} (z : Rests size K N page rows l)
    (law number : ℕ) (xs : List ℕ) {i at : ℕ} (e : Some (i, at) ≡ lowest_gap (length xs) (min size largest_block) rows)
    (d : Fine size (contents (written l.block at xs) (insert_at i (row_of number at (length xs)) rows)) (written l.block at xs)
    (insert_at i (row_of number at (length xs)) rows)) where
  gap : Split (length xs) (min size largest_block) 0 0 rows i at
  gap = gap-split (length xs) (min size largest_block) 0 0 rows (omega arith) z.fine.rises e

  inside : at + length xs ≤ length l.block
  inside = let long = z.fine.long in omega (arith, gap.inside)

  rests-with : {b' : List ℕ} → length b' ≡ length l.block → contents b' rows ≡ contents l.block rows
      → Rests size K N page rows (lasting b' l.spare l.first l.second l.words)
  rests-with long reads =
      let f = z.fine in
      record {
        small = z.small;
        words = z.words;
        text = z.text;
        fine = record { long = long ∙ f.long; few = f.few; rises = f.rises; apart = f.apart; reads = reads ∙ f.reads };
      }

  apart-rows : take gap.k rows ++ drop gap.k rows ≡ rows
  apart-rows = take-append-drop gap.k rows

  torn-rests : {b' : List ℕ} → Torn at (length xs) l.block b'
      → Rests size K N page rows (lasting b' l.spare l.first l.second l.words)
  torn-rests {b'} t =
      rests-with t.size (subst (λ (x : List Row). contents b' x ≡ contents l.block x) apart-rows
      (torn-reads (min size largest_block) (take gap.k rows) (drop gap.k rows) inside t gap.below gap.above))

  written-rests : Rests size K N page rows (lasting (written l.block at xs) l.spare l.first l.second l.words)
  written-rests =
      rests-with (length-written l.block at xs inside)
      (subst (λ (x : List Row). contents (written l.block at xs) x ≡ contents l.block x) apart-rows
      (written-reads l.block xs at (min size largest_block) (take gap.k rows) (drop gap.k rows) inside gap.below gap.above))

  -- the store after it
  abbrev later : List Kept
  later = contents (written l.block at xs) (insert_at i (row_of number at (length xs)) rows)

  abbrev noted : List Note
  noted = insert_note i (note_of law xs) N

  pub put-cut : {l' : Lasting} → Run (put_writes page l.block rows N law number xs (Some (i, at))) l l'
      → Either (Bears size K N l') (Bears size later noted l')
  put-cut (cut (cut-block t)) = before (rests-bears (torn-rests t))
  put-cut {l'} (on r) =
      turn-cut written-rests d
      (subst (λ (k : ℕ). Run (turn_writes page (text_of k (insert_at i (row_of number at (length xs)) rows) noted))
      (lasting (written l.block at xs) l.spare l.first l.second l.words) l') z.fine.long r)

  -- made whole
  pub put-made : Rests size later noted (1 - page) (insert_at i (row_of number at (length xs)) rows)
      (made_all (put_writes page l.block rows N law number xs (Some (i, at))) l)
  unfolding made_all
  put-made =
      subst (λ (k : ℕ). Rests size later noted (1 - page) (insert_at i (row_of number at (length xs)) rows)
      (made_all (turn_writes page (text_of k (insert_at i (row_of number at (length xs)) rows) noted))
      (lasting (written l.block at xs) l.spare l.first l.second l.words))) (sym z.fine.long) (turned written-rests d)

-- ---- writes one after another

pub run-split : (a : List Write) {c : List Write} {l l' : Lasting} → Run (a ++ c) l l' → Either (Run a l l') (Run c (made_all a l) l')
unfolding made_all
run-split [] r = after r
run-split (w ∷ a) (cut c) = before (cut c)
run-split (w ∷ a) {c} {l} {l'} (on r) = go (run-split a r)
  where
    go : Either (Run a (made w l) l') (Run c (made_all a (made w l)) l') → Either (Run (w ∷ a) l l') (Run c (made_all (w ∷ a) l) l')
    go (before x) = before (on x)
    go (after x) = after x

-- ---- the next move: of a greeting behind those that are closed up

abbrev due_index : Option (ℕ × ℕ) → ℕ
due_index (Some (i, at)) = i
due_index None = 0

abbrev due_place : Option (ℕ × ℕ) → ℕ
due_place (Some (i, at)) = at
due_place None = 0

pub record Away (at i : ℕ) (rows : List Row) (j to : ℕ) : Type 0 where
  pub pre : List Row
  pub row : Row
  pub post : List Row
  pub is : rows ≡ pre ++ (row ∷ post)
  pub index : j ≡ i + length pre
  pub place : to ≡ at + held pre
  pub shut : closed_rows at pre ≡ pre
  pub far : row.start ≡ to → ⊥

pub in_place : (at : ℕ) (r : Row) → r.start ≡ at → moved_to at r ≡ r
in_place at r e = ap (λ (x : ℕ). moved_to x r) (sym e)

no_due : {A : Type 0} {j to : ℕ} → ◌≡◌ {A = Option (ℕ × ℕ)} (Some (j, to)) None → A
no_due e = let z : ◌≡◌ {A = ℕ} 0 1 = cc in absurd (omega arith)

pub next-away : (i at : ℕ) (rows : List Row) {j to : ℕ} → Some (j, to) ≡ next_from i at rows → Away at i rows j to
unfolding next_from closed_rows held
next-away i at [] e = no_due e
next-away i at (r ∷ rows) {j} {to} e = go (λ q. next-away (i + 1) (at + r.octets) rows q) (eqb r.start at) refl e
  where
    go : (Some (j, to) ≡ next_from (i + 1) (at + r.octets) rows → Away (at + r.octets) (i + 1) rows j to) → (x : Bool) → eqb r.start at ≡ x
        → Some (j, to) ≡ cond x (next_from (i + 1) (at + r.octets) rows) (Some (i, at)) → Away at i (r ∷ rows) j to
    go more true h q =
        let w = more q in
        record {
          pre = r ∷ w.pre;
          row = w.row;
          post = w.post;
          is = ap (λ (x : List Row). r ∷ x) w.is;
          index = omega (arith, w.index);
          place = omega (arith, w.place);
          shut =
              ap (λ (x : Row). x ∷ closed_rows (at + r.octets) w.pre) (in_place at r (eqb-true r.start at h))
              ∙ ap (λ (x : List Row). r ∷ x) w.shut;
          far = w.far;
        }
    go more false h q =
        let a : j ≡ i = ap due_index q in
        let b : to ≡ at = ap due_place q in
        record {
          pre = [];
          row = r;
          post = rows;
          is = refl;
          index = omega arith;
          place = omega arith;
          shut = refl;
          far = λ x. eqb-false r.start at h (x ∙ b);
        }

-- greetings that rise, before one of them, that one, and behind it
rising-front : (pre c : List Row) (lo size : ℕ) → rising 1 lo size (pre ++ c) ≡ true → rising 1 lo size pre ≡ true
rising-front [] c lo size h = rising-nil 1 lo size
rising-front (a ∷ pre) c lo size h =
    let n = rising-head 1 lo size a (pre ++ c) h in
    rising-cons 1 lo size a pre n.0 (rising-front pre c (a.start + a.octets) size n.1)

pub record Among (pre : List Row) (r : Row) (post : List Row) (lo size : ℕ) : Type 0 where
  pub over : lo + held pre ≤ r.start
  pub some : 1 ≤ r.octets
  pub inside : r.start + r.octets ≤ size
  pub behind : rising 1 (r.start + r.octets) size post ≡ true

pub rising-among : (pre : List Row) (r : Row) (post : List Row) (lo size : ℕ) → rising 1 lo size (pre ++ (r ∷ post)) ≡ true
    → Among pre r post lo size
unfolding held
rising-among [] r post lo size h =
    let n = rising-head 1 lo size r post h in
    record { over = omega (arith, n.0.above); some = n.0.some; inside = n.0.inside; behind = n.1 }
rising-among (a ∷ pre) r post lo size h =
    let n = rising-head 1 lo size a (pre ++ (r ∷ post)) h in
    let w = rising-among pre r post (a.start + a.octets) size n.1 in
    record { over = omega (arith, w.over, n.0.above); some = w.some; inside = w.inside; behind = w.behind }

-- those before it end where it goes
front-rises : (pre c : List Row) (size : ℕ) {to : ℕ} → rising 1 0 size (pre ++ c) ≡ true → closed_rows 0 pre ≡ pre → to ≡ 0 + held pre
    → rising 1 0 to pre ≡ true
front-rises pre c size {to} h s e = rw e (rw s at (closing-rises pre 0 0 size (rising-front pre c 0 size h)))

-- the row at its place, and the rows with it moved
pub goes-row : (rows pre : List Row) (r : Row) (post : List Row) (i : ℕ) → rows ≡ pre ++ (r ∷ post) → i ≡ length pre → nth i rows ≡ r
goes-row rows pre r post i e h =
    let z : i ≡ length pre + 0 = omega arith in
    rw (e, z) (get_or-append-add pre (r ∷ post) 0 (row_of 0 0 0))

-- another row in its place
pub replaced : (rows pre : List Row) (r : Row) (post : List Row) (i : ℕ) (q : Row) → rows ≡ pre ++ (r ∷ post) → i ≡ length pre
    → replace_at i q rows ≡ pre ++ (q ∷ post)
replaced rows pre r post i q e h =
    let t : take i rows ≡ pre = rw e (take_at pre (r ∷ post) i (sym h)) in
    let s : i + 1 ≡ length (pre ++ (r ∷ [])) = omega (arith, length-append pre (r ∷ [])) in
    let d : drop (i + 1) rows ≡ post =
    ap (λ (x : List Row). drop (i + 1) x) (e ∙ sym (append_snoc pre r post)) ∙ drop_at (pre ++ (r ∷ [])) post (i + 1) (sym s) in
    ap (λ (x : List Row). x ++ (q ∷ drop (i + 1) rows)) t ∙ ap (λ (x : List Row). pre ++ (q ∷ x)) d

pub goes-rows : (rows pre : List Row) (r : Row) (post : List Row) (i at : ℕ) → rows ≡ pre ++ (r ∷ post) → i ≡ length pre
    → moved_at i at rows ≡ pre ++ (moved_to at r ∷ post)
goes-rows rows pre r post i at e h =
    ap (λ (x : Row). replace_at i (moved_to at x) rows) (goes-row rows pre r post i e h) ∙ replaced rows pre r post i (moved_to at r) e h

-- ---- a move

module _ {size page : ℕ} {K : List Kept} {N : List Note} {l : Lasting} (pre : List Row) (r : Row) (post : List Row) (to : ℕ)
    (z : Rests size K N page (pre ++ (r ∷ post)) l) (d : to < r.start) (f : rising 1 0 to pre ≡ true) where
  abbrev moved : List Row
  moved = pre ++ (moved_to to r ∷ post)

  abbrev closer : List ℕ
  closer = paste l.block to (drop r.start l.block) r.octets

  among : Among pre r post 0 (min size largest_block)
  among = rising-among pre r post 0 (min size largest_block) z.fine.rises

  enough : min size largest_block ≤ length l.block
  enough = let long = z.fine.long in omega arith

  moved-fine : Fine size K closer moved
  moved-fine =
      let a = among in
      let i = a.inside in
      let g = length-drop r.start l.block in
      record {
        long =
            length-paste l.block to (drop r.start l.block) r.octets (omega (arith, enough)) (omega (arith, enough))
            ∙ z.fine.long;
        few =
            omega (arith, z.fine.few, length-append pre (r ∷ post), length-append pre (moved_to to r ∷ post));
        rises = moved-rises l.block (min size largest_block) to pre r post d a.inside enough a.some f a.behind;
        apart = moved-distinct to pre r post z.fine.apart;
        reads = moved-reads l.block (min size largest_block) to pre r post d a.inside enough a.some f a.behind ∙ z.fine.reads;
      }

  pub tells : Tells l.block (begun to r)
  tells =
      let a = among in
      let long = z.fine.long in
      record { down = d; inside = omega (arith, a.inside); some = omega (arith, a.some) }

  -- the text is there, and the record tells of the move
  abbrev ready : Lasting
  ready = with_page (1 - page) (text_of size moved N) l

  moving : Stands size K N page (Moving (begun to r)) moved
      (lasting l.block l.spare ready.first ready.second (words_of page (Moving (begun to r))))
  moving =
      record {
        small = z.small;
        words = refl;
        sane = sane-moving tells;
        text = saved (page-new (1 - page) (text_of size moved N) l);
        fine = rw (start-whole l.block l.spare r.start to r.octets) moved-fine;
      }

  abbrev begins : Lasts
  begins = lasts l.block l.spare (Moving (begun to r))

  abbrev writes : List Write
  writes = to-page (1 - page) (text_of size moved N) ∷ to-record (words_for page 1 (begun to r)) ∷ steps_writes (2 * r.octets) page begins

  sized : move_writes page l r to moved N ≡ writes
  unfolding move_writes
  sized =
      ap (λ (k : ℕ). to-page (1 - page) (text_of k moved N) ∷ to-record (words_for page 1 (begun to r)) ∷ steps_writes (2 * r.octets) page
      begins)
      z.fine.long

  move-runs : {l' : Lasting} → Run writes l l' → Bears size K N l'
  unfolding words_of
  move-runs (cut (cut-page any)) = rests-bears (rests-page any z)
  move-runs (on (cut cut_record)) = rests-bears (rests-page (text_of size moved N) z)
  move-runs (on (on q)) = steps-run (2 * r.octets) begins ready.first ready.second moving q

  pub move-cut : {l' : Lasting} → Run (move_writes page l r to moved N) l l' → Bears size K N l'
  move-cut {l'} q = move-runs (subst (λ (x : List Write). Run x l l') sized q)

  ended : made_all writes l ≡ lasting (finish (2 * r.octets) begins).block (finish (2 * r.octets) begins).spare
      ready.first ready.second (words_of page (finish (2 * r.octets) begins).state)
  unfolding made_all words_of
  ended = steps-made (2 * r.octets) page begins ready.first ready.second (sane-moving tells)

  whole-move : Rests size K N (1 - page) moved (made_all writes l)
  unfolding words_of ahead
  whole-move =
      let w = finish-whole (2 * r.octets) begins (sane-moving tells) (omega arith) in
      let h = z.small in
      rw ended (record {
        small = omega arith;
        words = ap (λ (x : State). words_of page x) w.ended;
        text = saved (page-new (1 - page) (text_of size moved N) l);
        fine = rw (w.block ∙ start-whole l.block l.spare r.start to r.octets) moved-fine;
      })

  pub move-made : Rests size K N (1 - page) moved (made_all (move_writes page l r to moved N) l)
  move-made = subst (λ (x : List Write). Rests size K N (1 - page) moved (made_all x l)) (sym sized) whole-move

  -- the block then, all octets of it
  pub move-block : (made_all (move_writes page l r to moved N) l).block ≡ closer
  unfolding ahead
  move-block =
      let w = finish-whole (2 * r.octets) begins (sane-moving tells) (omega arith) in
      ap (λ (x : List Write). (made_all x l).block) sized ∙ ap (λ (x : Lasting). x.block) ended
      ∙ w.block ∙ start-whole l.block l.spare r.start to r.octets

  pub move-spare : length (made_all (move_writes page l r to moved N) l).spare ≡ length l.spare
  move-spare =
      ap (λ (x : List Write). length (made_all x l).spare) sized ∙ ap (λ (x : Lasting). length x.spare) ended
      ∙ finish-spare (2 * r.octets) begins (sane-moving tells)

-- ---- closing up, move by move

strictly : (a b : ℕ) → a ≤ b → (b ≡ a → ⊥) → a < b
strictly a b h f = go (ltb a b) refl
  where
    go : (x : Bool) → ltb a b ≡ x → a < b
    go true e = ltb-true a b e
    go false e = let k = ltb-false a b e in absurd (f (omega arith))

-- the next move of a store at rest
module _ {size page : ℕ} {K : List Kept} {N : List Note} {rows : List Row} {l : Lasting} {i at : ℕ} (z : Rests size K N page rows l)
    (e : Some (i, at) ≡ next_of rows) where
  abbrev due : Away 0 0 rows i at
  due = next-away 0 0 rows e

  apart : Rests size K N page (due.pre ++ (due.row ∷ due.post)) l
  apart = subst (λ (x : List Row). Rests size K N page x l) due.is z

  pub below : at < due.row.start
  below =
      let a = rising-among due.pre due.row due.post 0 (min size largest_block) apart.fine.rises in
      let o = a.over in
      let p = due.place in
      strictly at due.row.start (omega arith) due.far

  front : rising 1 0 at due.pre ≡ true
  front = front-rises due.pre (due.row ∷ due.post) (min size largest_block) apart.fine.rises due.shut due.place

  same_rows : moved_at i at rows ≡ due.pre ++ (moved_to at due.row ∷ due.post)
  same_rows = goes-rows rows due.pre due.row due.post i at due.is (omega (arith, due.index))

  same_row : nth i rows ≡ due.row
  same_row = goes-row rows due.pre due.row due.post i due.is (omega (arith, due.index))

  same_writes : move_writes page l (nth i rows) at (moved_at i at rows) N
      ≡ move_writes page l due.row at (due.pre ++ (moved_to at due.row ∷ due.post)) N
  same_writes =
      ap (λ (x : Row). move_writes page l x at (moved_at i at rows) N) same_row
      ∙ ap (λ (x : List Row). move_writes page l due.row at x N) same_rows

  pub due-cut : {l' : Lasting} → Run (move_writes page l (nth i rows) at (moved_at i at rows) N) l l' → Bears size K N l'
  due-cut {l'} q = move-cut due.pre due.row due.post at apart below front (subst (λ (x : List Write). Run x l l') same_writes q)

  pub due-made : Rests size K N (1 - page) (moved_at i at rows) (made_all (move_writes page l (nth i rows) at (moved_at i at rows) N) l)
  due-made =
      subst (λ (x : List Row). Rests size K N (1 - page) x (made_all (move_writes page l (nth i rows) at (moved_at i at rows) N) l))
      (sym same_rows)
      (subst (λ (x : List Write). Rests size K N (1 - page) (due.pre ++ (moved_to at due.row ∷ due.post)) (made_all x l))
      (sym same_writes)
      (move-made due.pre due.row due.post at apart below front))

  pub due-block : (made_all (move_writes page l (nth i rows) at (moved_at i at rows) N) l).block
      ≡ paste l.block at (drop due.row.start l.block) due.row.octets
  due-block =
      ap (λ (x : List Write). (made_all x l).block) same_writes ∙ move-block due.pre due.row due.post at apart below front

  pub due-spare : length (made_all (move_writes page l (nth i rows) at (moved_at i at rows) N) l).spare ≡ length l.spare
  due-spare =
      ap (λ (x : List Write). length (made_all x l).spare) same_writes
      ∙ move-spare due.pre due.row due.post at apart below front

  pub due-tells : Tells l.block (begun at (nth i rows))
  due-tells =
      subst (λ (r : Row). Tells l.block (begun at r)) (sym same_row) (tells due.pre due.row due.post at apart below front)

by-either : {A B C : Type 0} → (A → C) → (B → C) → Either A B → C
by-either f g (before x) = f x
by-either f g (after x) = g x

-- one move, and what follows it
module _ (n : ℕ) {size page : ℕ} {K : List Kept} {N : List Note} {rows : List Row} {l : Lasting} (z : Rests size K N page rows l) where
  abbrev pub one : ℕ → ℕ → List Write
  one i at = move_writes page l (nth i rows) at (moved_at i at rows) N

  abbrev pub others : ℕ → ℕ → List Write
  others i at = closing_writes n (1 - page) (made_all (one i at) l) (moved_at i at rows) N (next_of (moved_at i at rows))

  closing-step : {l' : Lasting} (x : Option (ℕ × ℕ)) → x ≡ next_of rows
      → ((i at : ℕ) → Some (i, at) ≡ next_of rows → Run (others i at) (made_all (one i at) l) l' → Bears size K N l')
      → Run (closing_writes (suc n) page l rows N x) l l' → Bears size K N l'
  unfolding closing_writes
  closing-step None e f all = rests-bears z
  closing-step (Some (i, at)) e f q = by-either (λ x. due-cut z e x) (λ x. f i at e x) (run-split (one i at) q)

pub closing-cut : (n : ℕ) {size page : ℕ} {K : List Kept} {N : List Note} {rows : List Row} {l l' : Lasting} → Rests size K N page rows l
    → Run (closing_writes n page l rows N (next_of rows)) l l' → Bears size K N l'
unfolding closing_writes
closing-cut zero z all = rests-bears z
closing-cut (suc n) {rows = rows} z q = closing-step n z (next_of rows) refl (λ i at e x. closing-cut n (due-made z e) x) q

pub made-append : (a c : List Write) (l : Lasting) → made_all (a ++ c) l ≡ made_all c (made_all a l)
unfolding made_all
made-append [] c l = refl
made-append (w ∷ a) c l = made-append a c (made w l)

-- at rest, with some page in use
pub record Ends (size : ℕ) (K : List Kept) (N : List Note) (rows : List Row) (l : Lasting) : Type 0 where
  pub page : ℕ
  pub rests : Rests size K N page rows l

-- all moves made
ends-step : (n : ℕ) {size page : ℕ} {K : List Kept} {N : List Note} {rows : List Row} {l : Lasting} (z : Rests size K N page rows l)
    (x : Option (ℕ × ℕ))
    → x ≡ next_of rows
    → ((i at : ℕ) → Some (i, at) ≡ next_of rows
    → Ends size K N (closing_rows n (moved_at i at rows) (next_of (moved_at i at rows))) (made_all (others n z i at) (made_all (one n z i at) l)))
    → Ends size K N (closing_rows (suc n) rows x) (made_all (closing_writes (suc n) page l rows N x) l)
unfolding closing_writes closing_rows made_all
ends-step n {page = page} z None e f = record { page = page; rests = z }
ends-step n {size} {page} {K} {N} {rows} {l} z (Some (i, at)) e f =
    subst (λ (x : Lasting). Ends size K N (closing_rows n (moved_at i at rows) (next_of (moved_at i at rows))) x)
    (sym (made-append (one n z i at) (others n z i at) l)) (f i at e)

pub closing-made : (n : ℕ) {size page : ℕ} {K : List Kept} {N : List Note} {rows : List Row} {l : Lasting} → Rests size K N page rows l
    → Ends size K N (closing_rows n rows (next_of rows)) (made_all (closing_writes n page l rows N (next_of rows)) l)
unfolding closing_writes closing_rows made_all
closing-made zero {page = page} z = record { page = page; rests = z }
closing-made (suc n) {rows = rows} z = ends-step n z (next_of rows) refl (λ i at e. closing-made n (due-made z e))

-- ---- a start that is not cut: at rest again, so that the next call may follow

pub start-rests : {size : ℕ} {K : List Kept} {N : List Note} {l : Lasting} (n : ℕ) (z : Bears size K N l) → ahead z.state ≤ n
    → Ends size K N z.rows (made_all (steps_writes n z.page (lasts l.block l.spare z.state)) l)
unfolding words_of
start-rests {size} {K} {N} {l} n z h =
    let s = z.stands in
    let low = s.small in
    let from = lasts l.block l.spare z.state in
    let w = finish-whole n from s.sane h in
    let e : made_all (steps_writes n z.page from) l
    ≡ lasting (finish n from).block (finish n from).spare l.first l.second (words_of z.page (finish n from).state) =
    ap (λ (x : List ℕ). made_all (steps_writes n z.page from) (lasting l.block l.spare l.first l.second x)) s.words
    ∙ steps-made n z.page from l.first l.second s.sane in
    record {
      page = 1 - z.page;
      rests =
          rw e (record {
            small = omega arith;
            words = ap (λ (x : State). words_of z.page x) w.ended;
            text = s.text;
            fine = rw w.block s.fine;
          });
    }

-- ---- THE PROMISE: whatever was cut, and however often a start was, what is loaded is the store before the call or the one after it

pub cut-loads : {size : ℕ} {K K' : List Kept} {N N' : List Note} {l : Lasting} → Good K N → True K N → Good K' N' → True K' N'
    → (t : List ℕ)
    → store_cells (min size largest_block) ≤ length t → Either (Bears size K N l) (Bears size K' N' l)
    → Either (Loads K N l t) (Loads K' N' l t)
cut-loads g m g' m' t c (before z) = before (start-loads z g m t c)
cut-loads g m g' m' t c (after z) = after (start-loads z g' m' t c)

-- a put that closes up first: cut in a move it stands for the store before it; after the moves it goes on from a store at rest
pub closing_then : (n : ℕ) {size page : ℕ} {K : List Kept} {N : List Note} {rows : List Row} {l l' : Lasting} (ws : List Write)
    (z : Rests size K N page rows l) → Run (closing_writes n page l rows N (next_of rows) ++ ws) l l'
    → Either (Bears size K N l') (Run ws (made_all (closing_writes n page l rows N (next_of rows)) l) l')
closing_then n {size} {page} {K} {N} {rows} {l} {l'} ws z r = go (run-split (closing_writes n page l rows N (next_of rows)) r)
  where
    go : Either (Run (closing_writes n page l rows N (next_of rows)) l l')
        (Run ws (made_all (closing_writes n page l rows N (next_of rows)) l) l')
        → Either (Bears size K N l') (Run ws (made_all (closing_writes n page l rows N (next_of rows)) l) l')
    go (before x) = before (closing-cut n z x)
    go (after x) = after x
