-- A page as octets: "Its text ends before its first octet 0, or at the page's end; the write of a text covers that 0." The same runs, of
-- what lasts with its pages so; a box reads them by `texts_of`.
use Rattle.std.specs.Prelude.{ℕ, List, [], ◌∷◌, ◌++◌, cond, length, take, eqb}
use Rattle.store_rows.specs.Changed.{written}
use Rattle.store_moves.specs.Moves.{Torn}
use Rattle.store_cut.specs.Lasting.{Lasting, lasting, page_in, Write, to_block, to-spare, to-page, to-record, with_block, with_spare}
use Rattle.store_cut.specs.Lasting.{with_page, made}
use Rattle.store_cut.specs.Runs.{Entry, uncut, cut_in, Asks, writes_of, start_writes, found}

unfoldable pub text_in : List ℕ → List ℕ
text_in [] = []
text_in (x ∷ page) = cond (eqb x 0) [] (x ∷ text_in page)

abbrev pub texts_of : Lasting → Lasting
texts_of l = lasting l.block l.spare (text_in l.first) (text_in l.second) l.words

-- what the write of a text covers in a page of so many octets: the text and a 0 behind it, where there is room for one
abbrev pub page_octets : ℕ → List ℕ → List ℕ
page_octets size text = take size (text ++ (0 ∷ []))

abbrev pub made_on : Write → Lasting → Lasting
made_on (to_block at xs) l = made (to_block at xs) l
made_on (to-spare at xs) l = made (to-spare at xs) l
made_on (to-page p text) l = with_page p (written (page_in p l) 0 (page_octets (length (page_in p l)) text)) l
made_on (to-record w) l = made (to-record w) l

unfoldable pub made_all_on : List Write → Lasting → Lasting
made_all_on [] l = l
made_all_on (w ∷ ws) l = made_all_on ws (made_on w l)

-- "may be cut anywhere and leave anything in the octets that it covers"
pub data CutOn (l : Lasting) : Write → Lasting → Type 0 where
  on-block : {at : ℕ} {xs b' : List ℕ} → Torn at (length xs) l.block b' → CutOn l (to_block at xs) (with_block b' l)
  on-spare : {at : ℕ} {xs s' : List ℕ} → Torn at (length xs) l.spare s' → CutOn l (to-spare at xs) (with_spare s' l)
  on-page : {p : ℕ} {text page' : List ℕ} → Torn 0 (length (page_octets (length (page_in p l)) text)) (page_in p l) page'
      → CutOn l (to-page p text) (with_page p page' l)
  on-record : {w : List ℕ} → CutOn l (to-record w) l

pub data RunOn : List Write → Lasting → Lasting → Type 0 where
  all-on : {l : Lasting} → RunOn [] l l
  cut_on : {w : Write} {ws : List Write} {l l' : Lasting} → CutOn l w l' → RunOn (w ∷ ws) l l'
  on-on : {w : Write} {ws : List Write} {l l' : Lasting} → RunOn ws (made_on w l) l' → RunOn (w ∷ ws) l l'

-- a start, and a call with the start after it
pub data StartedOn : Lasting → Lasting → Type 0 where
  made-on : {l : Lasting} → StartedOn l (made_all_on (start_writes l) l)
  again-on : {l k m : Lasting} → RunOn (start_writes l) l k → StartedOn k m → StartedOn l m

pub data GoesOn (t : List ℕ) (l : Lasting) : Entry → Lasting → Type 0 where
  uncut-on : {a : Asks} {m : Lasting} → StartedOn (made_all_on (writes_of a (texts_of l) (found t (texts_of l))) l) m → GoesOn t l (uncut a) m
  cut-in-on : {a : Asks} {k m : Lasting} → RunOn (writes_of a (texts_of l) (found t (texts_of l))) l k → StartedOn k m
      → GoesOn t l (cut_in a) m
