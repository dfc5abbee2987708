-- Pages as octets. A saved text has no octet 0 (`text-full`), so that it ends where a page says (`text-back`): a run on pages is a run on
-- their texts (`run-texts`), and the promise holds of them (`pages-lose-none`), where a page has room for the texts of a store of the size,
-- as it has with the octets that are asked for (`page-loses-none`).
use Prim.Native.Nat.{ℕ, zero, suc, ◌+◌, ◌*◌, ◌/◌, ◌%◌, ◌≤◌, ◌<◌, min}
use mathlib.Core.Path.{◌≡◌, refl, sym, ap, subst, ◌∙◌}
use mathlib.Core.List.{List, [], ◌∷◌, ◌++◌, append_assoc}
use mathlib.Core.Bool.{Bool, true, false, cond}
use native.Mathlib.Omega.{arith}
use native.Mathlib.Decide.{dec_lt}
use lib.ListN.{length, take, drop, length-append, length-take, drop_of_length-le}
use lib.Seq.{take_all, take_at}
use lib.Dec.{ltb, eqb}
use borrow.Author.Tests.{ne_eqb, ltb-false}
use Rattle.rules.specs.Listing.{digits_from, decimal, field, line_end, law_word, samples_word}
use Rattle.store_rows.specs.declared.rows.Row.{Row}
use Rattle.store_rows.specs.Limits.{largest_block}
use Rattle.store_rows.specs.Rows.{Kept}
use Rattle.store_rows.specs.Cells.{rows_of}
use Rattle.store_rows.specs.Changed.{nth, written}
use Rattle.store_rows.proofs.Lists.{passed}
use Rattle.store_rows.proofs.Cells.{rows-laid}
use Rattle.store_greeting.specs.Marks.{Mark, Note}
use Rattle.store_notes.specs.Notes.{True}
use Rattle.store_notes.specs.Cells.{notes_of}
use Rattle.store_notes.specs.Sane.{store_cells}
use Rattle.text_keyvalue.specs.Lines.{line_of}
use Rattle.store_text.specs.Table.{prompt_word, start_word, octets_word, row_text}
use Rattle.store_text.specs.Noted.{Listed, mark_word, comma, rows_listed, listing, mark_text, marks_text, note_text, listed_text}
use Rattle.store_text.specs.Form.{form_line, needs_form}
use Rattle.store.specs.Store.{Outcome, leaves, refused}
use Rattle.store.specs.Calls.{put_of, delete_of, table_after}
use Rattle.store_promises.specs.Told.{putting, deleting, Store, rows_in, notes_for, see}
use Rattle.store_promises.specs.Kept.{Good}
use Rattle.store_promises.proofs.Contents.{length-written}
use Rattle.store_promises.proofs.Granted.{delete-back}
use Rattle.store_promises.specs.Long.{most_text}
use Rattle.store_promises.proofs.Long.{text-most}
use Rattle.store_promises.proofs.Promises.{Keeps, call_kept}
use Rattle.store_moves.specs.declared.steps.State.{State}
use Rattle.store_moves.specs.declared.steps.State.TheVariants.{Still, Moving, Lifted}
use Rattle.std.specs.Prelude.{Option, Some, None}
use Rattle.store_moves.specs.Moves.{Lasts, lasts, source, place, direct, hop, lift, onward, step, ahead}
use Rattle.store_moves.specs.Record.{told, page_of, words_of}
use Rattle.store_moves.specs.Next.{next_of, moved_at, Changed, changes, not-next, refused as declined}
use Rattle.store_cut.specs.Lasting.{Lasting, lasting, page_in, Write, to_block, to-spare, to-page, to-record, with_page, made, made_all}
use Rattle.store_cut.specs.Lasting.{Cut, cut-block, cut-spare, cut-page, cut_record, Run, all, cut, on}
use Rattle.store_cut.specs.Writes.{text_of, step_writes, steps_writes, begun, move_writes, closing_writes, turn_writes}
use Rattle.store_cut.specs.Runs.{Asks, put, delete, swap, swap_of, swapped, putting_writes, deleting_writes, swapping_writes, writes_of}
use Rattle.store_cut.specs.Runs.{start_writes, Started, start-made, start-again, found, Entry, Goes, goes-uncut, goes-cut, Each}
use Rattle.store_cut.specs.Runs.{no_more, and_then, Holds}
use Rattle.store_cut.specs.Pages.{text_in, texts_of, page_octets, made_on, made_all_on, CutOn, on-block, on-spare, on-page, on-record}
use Rattle.store_cut.specs.Pages.{RunOn, all-on, cut_on, on-on, StartedOn, made-on, again-on, GoesOn, uncut-on, cut-in-on}
use Rattle.store_cut.proofs.Cut.{Rests, Either, before, after, due-made, one, others}
use Rattle.store_cut.proofs.Calls.{keeps-fine}
use Rattle.store_cut.proofs.Tables.{laid-notes}
use Rattle.store_cut.proofs.Puts.{put_order}
use Rattle.store_cut.proofs.Runs.{found_rows, found-notes, found-keeps, Ready, gone, asked-keeps, entry-holds}

-- ---- no octet 0

unfoldable pub Full : List ℕ → Type 0
Full [] = Unit {0}
Full (x ∷ xs) = (1 ≤ x) × Full xs

-- by computing
unfoldable full : List ℕ → Bool
full [] = true
full (x ∷ xs) = cond (ltb x 1) false (full xs)

full-word : (xs : List ℕ) → full xs ≡ true → Full xs
unfolding Full full
full-word [] e = tt
full-word (x ∷ xs) e = let p = passed (ltb x 1) (full xs) e in (ltb-false x 1 p.0, full-word xs p.1)

full-append : (a c : List ℕ) → Full a → Full c → Full (a ++ c)
unfolding Full
full-append [] c f g = g
full-append (x ∷ a) c f g = (f.0, full-append a c f.1 g)

digits-full : (more n : ℕ) (text : List ℕ) → Full text → Full (digits_from more n text)
unfolding Full digits_from
digits-full zero n text f = f
digits-full (suc more) n text f =
    go (ltb n 10) (digits-full more (n / 10) ((48 + n % 10) ∷ text) (omega arith, f))
  where
    go : (x : Bool) → Full (digits_from more (n / 10) ((48 + n % 10) ∷ text))
        → Full (cond x ((48 + n) ∷ text) (digits_from more (n / 10) ((48 + n % 10) ∷ text)))
    go true g = (omega arith, f)
    go false g = g

decimal-full : (n : ℕ) → Full (decimal n)
unfolding Full
decimal-full n = digits-full 20 n [] tt

line-full : (key : List ℕ) (n : ℕ) → Full key → Full (line_of key n)
unfolding Full line_of
line-full key n f = full-append (key ++ decimal n) line_end (full-append key (decimal n) f (decimal-full n)) (omega arith, tt)

row-full : (r : Row) → Full (row_text r)
unfolding row_text full
row-full r =
    full-append (line_of prompt_word r.number) _ (line-full prompt_word r.number (full-word prompt_word refl))
    (full-append (line_of start_word r.start) _ (line-full start_word r.start (full-word start_word refl))
    (line-full octets_word r.octets (full-word octets_word refl)))

mark-full : (m : Mark) → Full (mark_text m)
unfolding mark_text full
mark-full m =
    full-append (field mark_word m.octets) _
    (full-append mark_word (decimal m.octets) (full-word mark_word refl) (decimal-full m.octets))
    (full-append (field comma m.samples) line_end
    (full-append comma (decimal m.samples) (full-word comma refl) (decimal-full m.samples)) (full-word line_end refl))

marks-full : (ms : List Mark) → Full (marks_text ms)
unfolding Full marks_text
marks-full [] = tt
marks-full (m ∷ ms) = full-append (mark_text m) (marks_text ms) (mark-full m) (marks-full ms)

note-full : (n : Note) → Full (note_text n)
unfolding note_text full
note-full n =
    full-append (line_of law_word n.law) _ (line-full law_word n.law (full-word law_word refl))
    (full-append (line_of samples_word n.samples) (marks_text n.marks)
    (line-full samples_word n.samples (full-word samples_word refl)) (marks-full n.marks))

listed-full : (xs : List Listed) → Full (listed_text xs)
unfolding Full listed_text
listed-full [] = tt
listed-full (x ∷ xs) =
    full-append (row_text x.row) _ (row-full x.row)
    (full-append (note_text x.note) (listed_text xs) (note-full x.note) (listed-full xs))

pub text-full : (size : ℕ) (rows : List Row) (notes : List Note) → Full (text_of size rows notes)
unfolding full
text-full size rows notes =
    full-append _ (listed_text xs) (go (needs_form (min size largest_block) (rows_listed xs))) (listed-full xs)
  where
    xs : List Listed
    xs = listing rows notes

    go : (x : Bool) → Full (cond x form_line [])
    go true = full-word form_line refl
    go false = full-word [] refl

-- ---- a text on a page

text-ends : (text rest : List ℕ) → Full text → text_in (text ++ (0 ∷ rest)) ≡ text
unfolding Full text_in
text-ends [] rest f = refl
text-ends (x ∷ text) rest f =
    let n : x ≡ 0 → ⊥ = λ e. let o = f.0 in absurd (omega arith) in
    rw (ne_eqb x 0 n) (ap (λ (y : List ℕ). x ∷ y) (text-ends text rest f.1))

text-fills : (text : List ℕ) → Full text → text_in (text ++ []) ≡ text
unfolding Full text_in
text-fills [] f = refl
text-fills (x ∷ text) f =
    let n : x ≡ 0 → ⊥ = λ e. let o = f.0 in absurd (omega arith) in
    rw (ne_eqb x 0 n) (ap (λ (y : List ℕ). x ∷ y) (text-fills text f.1))

-- it is read as it was written
pub text-back : (page text : List ℕ) → Full text → length text ≤ length page
    → text_in (written page 0 (page_octets (length page) text)) ≡ text
unfolding written
text-back page text f h = go (dec_lt (length text) (length page))
  where
    go : Dec (length text < length page) → text_in (written page 0 (page_octets (length page) text)) ≡ text
    go (yes y) =
        let e : take (length page) (text ++ (0 ∷ [])) ≡ text ++ (0 ∷ []) =
        take_all (length page) (text ++ (0 ∷ [])) (omega (arith, length-append text (0 ∷ []))) in
        ap (λ (o : List ℕ). text_in (o ++ drop (0 + length o) page)) e
        ∙ ap text_in (append_assoc text (0 ∷ []) (drop (0 + length (text ++ (0 ∷ []))) page))
        ∙ text-ends text (drop (0 + length (text ++ (0 ∷ []))) page) f
    go (no y) =
        let q : length text ≡ length page = omega arith in
        let e : take (length page) (text ++ (0 ∷ [])) ≡ text = take_at text (0 ∷ []) (length page) q in
        let d : drop (0 + length text) page ≡ [] = drop_of_length-le page {i = 0 + length text} (omega arith) in
        ap (λ (o : List ℕ). text_in (o ++ drop (0 + length o) page)) e ∙ ap (λ (o : List ℕ). text_in (text ++ o)) d ∙ text-fills text f

-- the write covers no more than the page
pub page-long : (page text : List ℕ) → length (written page 0 (page_octets (length page) text)) ≡ length page
page-long page text = length-written page 0 (page_octets (length page) text) (omega (arith, length-take (length page) (text ++ (0 ∷ []))))

-- ---- a run on pages is a run on texts

pub record Roomy (room : ℕ) (l : Lasting) : Type 0 where
  pub on-first : room ≤ length l.first
  pub on-second : room ≤ length l.second

-- every text that is written has no octet 0, and a page has room for it
abbrev pub Fit : ℕ → List ℕ → Type 0
Fit room text = Full text × (length text ≤ room)

unfoldable pub Fits : ℕ → List Write → Type 0
Fits room [] = Unit {0}
Fits room (to_block at xs ∷ ws) = Fits room ws
Fits room (to-spare at xs ∷ ws) = Fits room ws
Fits room (to-page p text ∷ ws) = Fit room text × Fits room ws
Fits room (to-record w ∷ ws) = Fits room ws

page-texts : (p : ℕ) (q : List ℕ) (l : Lasting) → texts_of (with_page p q l) ≡ with_page p (text_in q) (texts_of l)
page-texts p q l = go (eqb p 0)
  where
    go : (x : Bool)
        → lasting l.block l.spare (text_in (cond x q l.first)) (text_in (cond x l.second q)) l.words
        ≡ lasting l.block l.spare (cond x (text_in q) (text_in l.first)) (cond x (text_in l.second) (text_in q)) l.words
    go true = refl
    go false = refl

page-room : {room : ℕ} (p : ℕ) (q : List ℕ) (l : Lasting) → Roomy room l → length q ≡ length (page_in p l) → Roomy room (with_page p q l)
page-room {room} p q l r e = go (eqb p 0) e
  where
    go : (x : Bool) → length q ≡ length (cond x l.first l.second)
        → Roomy room (lasting l.block l.spare (cond x q l.first) (cond x l.second q) l.words)
    go true f = record { on-first = omega (arith, r.on-first); on-second = r.on-second }
    go false f = record { on-first = r.on-first; on-second = omega (arith, r.on-second) }

room_in : {room : ℕ} (p : ℕ) (l : Lasting) → Roomy room l → room ≤ length (page_in p l)
room_in {room} p l r = go (eqb p 0)
  where
    go : (x : Bool) → room ≤ length (cond x l.first l.second)
    go true = r.on-first
    go false = r.on-second

made-texts : {room : ℕ} (w : Write) (ws : List Write) (l : Lasting) → Fits room (w ∷ ws) → Roomy room l
    → (texts_of (made_on w l) ≡ made w (texts_of l)) × Roomy room (made_on w l) × Fits room ws
unfolding Fits
made-texts (to_block at xs) ws l f r = (refl, record { on-first = r.on-first; on-second = r.on-second }, f)
made-texts (to-spare at xs) ws l f r = (refl, record { on-first = r.on-first; on-second = r.on-second }, f)
made-texts (to-page p text) ws l f r =
    let page = page_in p l in
    let back = text-back page text f.0.0 (omega (arith, f.0.1, room_in p l r)) in (
      page-texts p (written page 0 (page_octets (length page) text)) l ∙ ap (λ (x : List ℕ). with_page p x (texts_of l)) back,
      page-room p (written page 0 (page_octets (length page) text)) l r (page-long page text),
      f.1,
    )
made-texts (to-record w) ws l f r = (refl, record { on-first = r.on-first; on-second = r.on-second }, f)

cut-texts : {room : ℕ} {w : Write} {l l' : Lasting} → CutOn l w l' → Roomy room l → Cut (texts_of l) w (texts_of l') × Roomy room l'
cut-texts (on-block c) r = (cut-block c, record { on-first = r.on-first; on-second = r.on-second })
cut-texts (on-spare c) r = (cut-spare c, record { on-first = r.on-first; on-second = r.on-second })
cut-texts {l = l} (on-page {p} {text} {page'} c) r = (
  subst (λ (x : Lasting). Cut (texts_of l) (to-page p text) x) (sym (page-texts p page' l)) (cut-page (text_in page')),
  page-room p page' l r c.size,
)
cut-texts on-record r = (cut_record, r)

pub run-texts : {room : ℕ} {ws : List Write} {l l' : Lasting} → RunOn ws l l' → Fits room ws → Roomy room l
    → Run ws (texts_of l) (texts_of l') × Roomy room l'
run-texts all-on f r = (all, r)
run-texts (cut_on c) f r = let x = cut-texts c r in (cut x.0, x.1)
run-texts (on-on {w} {ws} {l} {l'} m) f r =
    let x = made-texts w ws l f r in
    let y = run-texts m x.2 x.1 in
    (on (subst (λ (k : Lasting). Run ws k (texts_of l')) x.0 y.0), y.1)

pub made-all-texts : {room : ℕ} (ws : List Write) (l : Lasting) → Fits room ws → Roomy room l
    → (texts_of (made_all_on ws l) ≡ made_all ws (texts_of l)) × Roomy room (made_all_on ws l)
unfolding made_all made_all_on
made-all-texts [] l f r = (refl, r)
made-all-texts (w ∷ ws) l f r =
    let x = made-texts w ws l f r in
    let y = made-all-texts ws (made_on w l) x.2 x.1 in
    (y.0 ∙ ap (λ (k : Lasting). made_all ws k) x.0, y.1)

-- ---- every text that a call writes fits

fits-append : (room : ℕ) (a c : List Write) → Fits room a → Fits room c → Fits room (a ++ c)
unfolding Fits
fits-append room [] c f g = g
fits-append room (to_block at xs ∷ a) c f g = fits-append room a c f g
fits-append room (to-spare at xs ∷ a) c f g = fits-append room a c f g
fits-append room (to-page p text ∷ a) c f g = (f.0, fits-append room a c f.1 g)
fits-append room (to-record w ∷ a) c f g = fits-append room a c f g

step_fits : (room page : ℕ) (b s : List ℕ) (st : State) → Fits room (step_writes page b s st)
unfolding Fits step_writes
step_fits room page b s Still = tt
step_fits room page b s (Moving m) = go (direct s m)
  where
    go : (x : Bool) → Fits room (cond x
        (to_block (place m) (take (hop m) (drop (source m) b)) ∷ to-record (words_of page (onward m (hop m))) ∷ [])
        (to-spare 0 (take (lift s m) (drop (source m) b)) ∷ to-record (words_of page (Lifted m)) ∷ []))
    go true = tt
    go false = tt
step_fits room page b s (Lifted m) = tt

steps-fit : (room n page : ℕ) (l : Lasts) → Fits room (steps_writes n page l)
unfolding Fits steps_writes
steps-fit room zero page l = tt
steps-fit room (suc n) page l =
    fits-append room (step_writes page l.block l.spare l.state) (steps_writes n page (step l))
    (step_fits room page l.block l.spare l.state) (steps-fit room n page (step l))

start_fits : (room : ℕ) (l : Lasting) → Fits room (start_writes l)
unfolding start_writes
start_fits room l =
    let st = told l.block l.spare l.words in
    steps-fit room (ahead st) (page_of l.words) (lasts l.block l.spare st)

-- a page has room for the text of every store of this size that calls leave
abbrev pub Enough : ℕ → ℕ → Type 0
Enough size room = (s : Store) → Keeps size s → length (text_of size (rows_in s) (notes_for s)) ≤ room

module _ {size room : ℕ} (enough : Enough size room) (t : List ℕ) (c : store_cells (min size largest_block) ≤ length t) where
  keeps-fit : (s : Store) (n : ℕ) (rows : List Row) (notes : List Note) → Keeps size s → n ≡ size → rows_in s ≡ rows → notes_for s ≡ notes
      → Fit room (text_of n rows notes)
  keeps-fit s n rows notes k e r q =
      let z : text_of n rows notes ≡ text_of size (rows_in s) (notes_for s) =
      ap (λ (x : ℕ). text_of x rows notes) e ∙ ap (λ (x : List Row). text_of size x notes) (sym r)
      ∙ ap (λ (x : List Note). text_of size (rows_in s) x) (sym q) in
      (text-full n rows notes, omega (arith, ap length z, enough s k))

  rests-fit : {page : ℕ} {K : List Kept} {N : List Note} {rows : List Row} {l : Lasting} (n : ℕ) → n ≡ size → Rests size K N page rows l
      → Good K N
      → True K N → Fit room (text_of n rows N)
  rests-fit {l = l} n e z g m = keeps-fit (found t l) n _ _ (found-keeps t z g m c) e (found_rows t z g m c) (found-notes t z g m c)

  -- the moves
  move-fits : (page : ℕ) (l : Lasting) (r : Row) (to : ℕ) (rows : List Row) (notes : List Note)
      → Fit room (text_of (length l.block) rows notes) → Fits room (move_writes page l r to rows notes)
  unfolding Fits move_writes
  move-fits page l r to rows notes f =
      (f, steps-fit room (2 * r.octets) page (lasts l.block l.spare (Moving (begun to r))))

  closing-turn : (n : ℕ) {page : ℕ} {K : List Kept} {N : List Note} {rows : List Row} {l : Lasting} (z : Rests size K N page rows l)
      → Good K N → True K N → (x : Option (ℕ × ℕ)) → x ≡ next_of rows
      → ((i at : ℕ) → Some (i, at) ≡ next_of rows → Fits room (others n z i at)) → Fits room (closing_writes (suc n) page l rows N x)
  unfolding Fits closing_writes
  closing-turn n z g m None e f = tt
  closing-turn n {page} {K} {N} {rows} {l} z g m (Some (i, at)) e f =
      fits-append room (one n z i at) (others n z i at)
      (move-fits page l (nth i rows) at (moved_at i at rows) N (rests-fit (length l.block) z.fine.long (due-made z e) g m)) (f i at e)

  closing-fits : (n : ℕ) {page : ℕ} {K : List Kept} {N : List Note} {rows : List Row} {l : Lasting} → Rests size K N page rows l → Good K N
      → True K N → Fits room (closing_writes n page l rows N (next_of rows))
  unfolding Fits closing_writes
  closing-fits zero z g m = tt
  closing-fits (suc n) {rows = rows} z g m =
      closing-turn n z g m (next_of rows) refl (λ i at e. closing-fits n (due-made z e) g m)

  -- a text and the record
  turn-fits : (page : ℕ) (text : List ℕ) → Fit room text → Fits room (turn_writes page text)
  unfolding Fits
  turn-fits page text f = (f, tt)

  module _ {l : Lasting} (z : Ready size t l) where
    abbrev s : Store
    s = found t l

    put-fits : (law x : ℕ) (xs : List ℕ) (o : Outcome) → put_of s.block s.table law x xs ≡ o → Fits room (putting_writes l s law x xs o)
    unfolding Fits putting_writes
    put-fits law x xs (refused w) e = tt
    put-fits law x xs (leaves a) e =
        let o = put_order z.keeps law x xs z.rests refl e in
        let k = call_kept size (putting law x xs) s z.keeps in
        let f = keeps-fit (see (putting law x xs) s) (length o.block-then) _ _ k o.long o.laid.rows_are o.laid.notes in
        subst (Fits room) (sym o.is) (fits-append room o.moves _ (pick o.moves o.moves-are) (f, tt))
      where
        pick : (ws : List Write)
            → Either (ws ≡ []) (ws ≡ closing_writes (length (rows_in s)) z.page l (rows_in s) (notes_for s) (next_of (rows_in s)))
            → Fits room ws
        pick ws (before q) = subst (Fits room) (sym q) tt
        pick ws (after q) = subst (Fits room) (sym q) (closing-fits (length (rows_in s)) z.rests z.keeps.good z.keeps.marks)

    delete-fits : (x : ℕ) (o : Outcome) → delete_of s.block s.table x ≡ o → Fits room (deleting_writes l o)
    unfolding Fits deleting_writes
    delete-fits x (refused w) e = tt
    delete-fits x (leaves a) e =
        let b = delete-back s.block s.table x e in
        let k = call_kept size (deleting x) s z.keeps in
        let rows_are = ap (λ (o : Outcome). rows_of (table_after o s.table)) e ∙ b.rows_are in
        let notes-are = ap (λ (o : Outcome). notes_of (table_after o s.table)) e ∙ b.notes-are in
        (keeps-fit (see (deleting x) s) (length l.block) a.rows a.notes k z.keeps.long rows_are notes-are, tt)

    swap-fits : (old : ℕ) (x : Changed) → Keeps size (swapped s (gone z old) x) → Fits room (swapping_writes l (notes_for (gone z old)) x)
    unfolding Fits swapping_writes
    swap-fits old (changes rows) k =
        let few : length rows ≤ 32 = omega (arith, (keeps-fine k).few, ap length (rows-laid rows (gone z old).table)) in (
          keeps-fit (swapped s (gone z old) (changes rows)) (length l.block) rows (notes_for (gone z old)) k z.keeps.long
              (rows-laid rows (gone z old).table) (laid-notes rows (gone z old).table few),
          tt,
        )
    swap-fits old not-next k = tt
    swap-fits old (declined w) k = tt

    pub call_fits : (a : Asks) → Fits room (writes_of a l s)
    call_fits (put law x xs) = put-fits law x xs (put_of s.block s.table law x xs) refl
    call_fits (delete x) = delete-fits x (delete_of s.block s.table x) refl
    call_fits (swap old new) =
        swap-fits old (swap_of s.block s.table old new (delete_of s.block s.table old)) (asked-keeps z (swap old new))

-- ---- the promise, of pages

started-texts : {room : ℕ} {l m : Lasting} → StartedOn l m → Roomy room l → Started (texts_of l) (texts_of m) × Roomy room m
unfolding start_writes
started-texts {room} {l} made-on r =
    let x = made-all-texts (start_writes l) l (start_fits room l) r in
    (subst (λ (k : Lasting). Started (texts_of l) k) (sym x.0) start-made, x.1)
started-texts {room} {l} (again-on q s) r =
    let x = run-texts q (start_fits room l) r in
    let y = started-texts s x.1 in
    (start-again x.0 y.0, y.1)

goes-texts : {size room : ℕ} {t : List ℕ} {l m : Lasting} {e : Entry} → Enough size room → store_cells (min size largest_block) ≤ length t
    → Ready size t (texts_of l) → Roomy room l → GoesOn t l e m → Goes t (texts_of l) e (texts_of m) × Roomy room m
goes-texts {t = t} {l = l} {m = m} enough c z r (uncut-on {a} s) =
    let x = made-all-texts (writes_of a (texts_of l) (found t (texts_of l))) l (call_fits enough t c z a) r in
    let y = started-texts s x.1 in
    (goes-uncut (subst (λ (k : Lasting). Started k (texts_of m)) x.0 y.0), y.1)
goes-texts enough c z r (cut-in-on {a} q s) =
    let x = run-texts q (call_fits enough _ c z a) r in
    let y = started-texts s x.1 in
    (goes-cut x.0 y.0, y.1)

pub pages-lose-none : {size room : ℕ} {t : List ℕ} {l : Lasting} {es : List Entry} {ms : List Lasting} → Enough size room
    → store_cells (min size largest_block) ≤ length t → Ready size t (texts_of l) → Roomy room l → Each (GoesOn t) l es ms
    → Each (λ k e m. Holds t (texts_of k) e (texts_of m)) l es ms
pages-lose-none enough c z r no_more = no_more
pages-lose-none enough c z r (and_then g more) =
    let x = goes-texts enough c z r g in
    let h = entry-holds z c x.0 in
    and_then h.1 (pages-lose-none enough c h.0 x.1 more)

-- "A page has at least 7 + 32 * 66 + 23 * (size / 64 + 32) octets; no text is longer."
page-enough : (size : ℕ) → Enough size (most_text (min size largest_block))
page-enough size s k = rw k.long at (text-most k)

pub page-loses-none : {size : ℕ} {t : List ℕ} {l : Lasting} {es : List Entry} {ms : List Lasting}
    → store_cells (min size largest_block) ≤ length t → Ready size t (texts_of l) → Roomy (most_text (min size largest_block)) l
    → Each (GoesOn t) l es ms → Each (λ k e m. Holds t (texts_of k) e (texts_of m)) l es ms
page-loses-none {size} c z r g = pages-lose-none (page-enough size) c z r g
