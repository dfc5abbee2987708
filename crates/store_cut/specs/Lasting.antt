-- What lasts: "the block ..; two pages for the table's text; a spare of any length, 0 too ..; and a record of eight u32 that changes in one
-- write: it is the old one or the new one after a cut, never a mixture. Any other write may be cut anywhere and leave anything in the
-- octets that it covers." A page is its text (`Pages` has its octets): one that is cut holds any text at all.
use Rattle.std.specs.Prelude.{ℕ, List, [], ◌∷◌, cond, length, eqb}
use Rattle.store_rows.specs.Changed.{written}
use Rattle.store_moves.specs.Moves.{Torn}

pub record Lasting : Type 0 where
  pub block : List ℕ
  pub spare : List ℕ
  pub first : List ℕ
  pub second : List ℕ
  pub words : List ℕ

abbrev pub lasting : List ℕ → List ℕ → List ℕ → List ℕ → List ℕ → Lasting
lasting b s p q w = record { block = b; spare = s; first = p; second = q; words = w }

-- the text of a page
abbrev pub page_in : ℕ → Lasting → List ℕ
page_in p l = cond (eqb p 0) l.first l.second

pub data Write : Type 0 where
  to_block : ℕ → List ℕ → Write
  to-spare : ℕ → List ℕ → Write
  to-page : ℕ → List ℕ → Write
  to-record : List ℕ → Write

abbrev pub with_block : List ℕ → Lasting → Lasting
with_block b l = lasting b l.spare l.first l.second l.words

abbrev pub with_spare : List ℕ → Lasting → Lasting
with_spare s l = lasting l.block s l.first l.second l.words

abbrev pub with_page : ℕ → List ℕ → Lasting → Lasting
with_page p text l = lasting l.block l.spare (cond (eqb p 0) text l.first) (cond (eqb p 0) l.second text) l.words

abbrev pub with_words : List ℕ → Lasting → Lasting
with_words w l = lasting l.block l.spare l.first l.second w

-- a write that is made whole
abbrev pub made : Write → Lasting → Lasting
made (to_block at xs) l = with_block (written l.block at xs) l
made (to-spare at xs) l = with_spare (written l.spare at xs) l
made (to-page p text) l = with_page p text l
made (to-record w) l = with_words w l

unfoldable pub made_all : List Write → Lasting → Lasting
made_all [] l = l
made_all (w ∷ ws) l = made_all ws (made w l)

-- what a write that is cut may leave
pub data Cut (l : Lasting) : Write → Lasting → Type 0 where
  cut-block : {at : ℕ} {xs b' : List ℕ} → Torn at (length xs) l.block b' → Cut l (to_block at xs) (with_block b' l)
  cut-spare : {at : ℕ} {xs s' : List ℕ} → Torn at (length xs) l.spare s' → Cut l (to-spare at xs) (with_spare s' l)
  cut-page : {p : ℕ} {text : List ℕ} (any : List ℕ) → Cut l (to-page p text) (with_page p any l)
  cut_record : {w : List ℕ} → Cut l (to-record w) l

-- writes one after another, cut in one of them or between two, or not cut
pub data Run : List Write → Lasting → Lasting → Type 0 where
  all : {l : Lasting} → Run [] l l
  cut : {w : Write} {ws : List Write} {l l' : Lasting} → Cut l w l' → Run (w ∷ ws) l l'
  on : {w : Write} {ws : List Write} {l l' : Lasting} → Run ws (made w l) l' → Run (w ∷ ws) l l'
