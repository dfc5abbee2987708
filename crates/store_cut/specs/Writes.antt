-- "The order of writes, which is what is promised". What a call has in hand besides what lasts are the greetings' rows and notes.
use Rattle.std.specs.Prelude.{ℕ, zero, suc, ◌-◌, ◌*◌, min, List, [], ◌∷◌, ◌++◌, cond, length, take, drop}
use Rattle.store_rows.specs.declared.rows.Row.{Row}
use Rattle.std.specs.Prelude.{Option, Some, None}
use Rattle.store_rows.specs.Limits.{largest_block}
use Rattle.store_rows.specs.Rows.{row_of}
use Rattle.store_rows.specs.Changed.{nth, insert_at}
use Rattle.store_greeting.specs.Marks.{Note, note_of}
use Rattle.store_notes.specs.Notes.{insert_note}
use Rattle.store_text.specs.Noted.{listing}
use Rattle.store_text.specs.Form.{saved_text}
use Rattle.store_moves.specs.declared.steps.Move.{Move}
use Rattle.store_moves.specs.declared.steps.State.{State}
use Rattle.store_moves.specs.declared.steps.State.TheVariants.{Still, Moving, Lifted}
use Rattle.store_moves.specs.Moves.{Lasts, lasts, place, source, direct, hop, lift, onward, step}
use Rattle.store_moves.specs.Record.{words_for, words_of, still_with}
use Rattle.store_moves.specs.Next.{next_of, moved_at}
use Rattle.store_cut.specs.Lasting.{Lasting, Write, to_block, to-spare, to-page, to-record, made_all}

-- a table's saved text
abbrev pub text_of : ℕ → List Row → List Note → List ℕ
text_of size rows notes = saved_text (min size largest_block) (listing rows notes)

-- "steps, each: what it wrote, then the record"; the page in use is told by the words
unfoldable pub step_writes : ℕ → List ℕ → List ℕ → State → List Write
step_writes page b s Still = []
step_writes page b s (Moving m) =
    cond (direct s m)
    (to_block (place m) (take (hop m) (drop (source m) b)) ∷ to-record (words_of page (onward m (hop m))) ∷ [])
    (to-spare 0 (take (lift s m) (drop (source m) b)) ∷ to-record (words_of page (Lifted m)) ∷ [])
step_writes page b s (Lifted m) = to_block (place m) (take (lift s m) s) ∷ to-record (words_of page (onward m (lift s m))) ∷ []

unfoldable pub steps_writes : ℕ → ℕ → Lasts → List Write
steps_writes zero page l = []
steps_writes (suc n) page l = step_writes page l.block l.spare l.state ++ steps_writes n page (step l)

-- a move's record at its beginning
abbrev pub begun : ℕ → Row → Move
begun to r = record { from = r.start; to = to; octets = r.octets; done = 0 }

-- "a move: ..; its saved text to the page not in use; record := (page, 1, from, to, octets, 0, 0, 0); then steps"; r is the greeting that
-- goes, rows' the greetings with it at its new place
unfoldable pub move_writes : ℕ → Lasting → Row → ℕ → List Row → List Note → List Write
move_writes page l r to rows' notes =
    to-page (1 - page) (text_of (length l.block) rows' notes) ∷ to-record (words_for page 1 (begun to r))
    ∷ steps_writes (2 * r.octets) page (lasts l.block l.spare (Moving (begun to r)))

-- "moves until `next` has none"
unfoldable pub closing_writes : ℕ → ℕ → Lasting → List Row → List Note → Option (ℕ × ℕ) → List Write
closing_writes zero page l rows notes due = []
closing_writes (suc n) page l rows notes None = []
closing_writes (suc n) page l rows notes (Some (i, at)) =
    let ws = move_writes page l (nth i rows) at (moved_at i at rows) notes in
    let rows' = moved_at i at rows in
    ws ++ closing_writes n (1 - page) (made_all ws l) rows' notes (next_of rows')

-- "the text to the other page; record := (1 − page, 0, ..)"
abbrev pub turn_writes : ℕ → List ℕ → List Write
turn_writes page text = to-page (1 - page) text ∷ to-record (still_with (1 - page)) ∷ []

-- "then `put`, which moves nothing now (its octets lie in no greeting)"
abbrev pub put_writes : ℕ → List ℕ → List Row → List Note → ℕ → ℕ → List ℕ → Option (ℕ × ℕ) → List Write
put_writes page b rows notes law number xs (Some (i, at)) =
    to_block at xs ∷ turn_writes page (text_of (length b) (insert_at i (row_of number at (length xs)) rows)
    (insert_note i (note_of law xs) notes))
put_writes page b rows notes law number xs None = []
