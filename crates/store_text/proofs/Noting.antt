-- A text of R-8's lines read into a lent table, greeting by greeting, with the laws (Noting).
use Prim.Native.Nat.{ℕ, zero, suc, ◌+◌, ◌*◌, ◌-◌, ◌≤◌, ◌<◌}
use mathlib.Core.Path.{◌≡◌, refl, sym, ap, ◌∙◌}
use mathlib.Core.List.{List, [], ◌∷◌, ◌++◌}
use native.Mathlib.Omega.{arith}
use native.Mathlib.Numerals.{add-one}
use lib.ListN.{length, take, drop, set, length-append, take-append-drop}
use lib.Seq.{take-suc-set, drop-set-lt, drop-drop}
use borrow.Author.Tests.{le-leb, lt-leb}
use Rattle.store_rows.specs.declared.rows.Row.{Row}
use Rattle.store_greeting.specs.Marks.{Note}
use Rattle.text_keyvalue.specs.Reading.{Read, whole, none, and_then}
use Rattle.text_keyvalue.proofs.Exact.{got-value, got-place}
use Rattle.std.specs.Prelude.{Some, None}
use Rattle.store_text.specs.Noted.{Listed, listed, listed_from, listed_at, rows_listed, listing}
use Rattle.store_text.specs.Fills.{PutsRow, FillsNoted, laws_listed}
use Rattle.store_text.specs.Passing.{Headed, head_of, head_in}
use Rattle.store_text.proofs.Reading.{Rowed, rowed-first, rowed-turn, rowed-laid, no-count}

pub rows_snoc : (xs : List Listed) (x : Listed) → rows_listed (xs ++ (x ∷ [])) ≡ rows_listed xs ++ (x.row ∷ [])
unfolding rows_listed
rows_snoc [] x = refl
rows_snoc (y ∷ xs) x = ap (λ (l : List Row). y.row ∷ l) (rows_snoc xs x)

pub laws-snoc : (xs : List Listed) (x : Listed) → laws_listed (xs ++ (x ∷ [])) ≡ laws_listed xs ++ (x.note.law ∷ [])
unfolding laws_listed
laws-snoc [] x = refl
laws-snoc (y ∷ xs) x = ap (λ (l : List ℕ). y.note.law ∷ l) (laws-snoc xs x)

pub length-rows-listed : (xs : List Listed) → length (rows_listed xs) ≡ length xs
unfolding rows_listed
length-rows-listed [] = refl
length-rows-listed (x ∷ xs) = ap suc (length-rows-listed xs)

-- greetings with their notes are those greetings
pub rows-listing : (rows : List Row) (notes : List Note) → length notes ≡ length rows → rows_listed (listing rows notes) ≡ rows
unfolding rows_listed listing
rows-listing [] notes l = refl
rows-listing (r ∷ rows) [] l = absurd (omega arith)
rows-listing (r ∷ rows) (n ∷ notes) l = ap (λ (x : List Row). r ∷ x) (rows-listing rows notes (omega arith))

-- at the text's end the greetings are done
pub noted-ending : (far more : ℕ) (done : List Listed) (text : List ℕ) (at : ℕ) → length text ≤ at
    → listed_from far more done text at ≡ whole done at
unfolding listed_from
noted-ending far zero done text at h = rw (le-leb (length text) at h)
noted-ending far (suc more) done text at h = rw (le-leb (length text) at h)

-- where the reading stands
pub record Noting (far from : ℕ) (text cells₀ cells laws₀ laws : List ℕ) (k at : ℕ) : Type 0 where
  pub done : List Listed
  pub count : length done ≡ k
  pub few : k ≤ 32
  pub left : listed_at far from text ≡ listed_from far (32 - k) done text at
  pub rows : Rowed cells₀ cells (rows_listed done) k
  pub lawful : take k laws ≡ laws_listed done
  pub rest : drop k laws ≡ drop k laws₀

pub noting-first : (far from : ℕ) (text cells laws : List ℕ) → Noting far from text cells cells laws laws 0 from
unfolding rows_listed laws_listed
noting-first far from text cells laws =
    record { done = []; count = refl; few = omega arith; left = refl; rows = rowed-first cells; lawful = refl; rest = refl }

wrong : {found : Read (List Listed)} → found ≡ none → (cells cells' laws laws' : List ℕ) → FillsNoted found cells cells' laws laws' None
wrong e cells cells' laws laws' = rw e (record { count = refl; filled = tt; few = λ n q. no-count q })

-- a greeting's lines, as the code keeps them
record Kept (r : Read Listed) (row : Row) (law j : ℕ) : Type 0 where
  real : Listed
  first : r ≡ whole real j
  row_is : real.row ≡ row
  law-is : real.note.law ≡ law

kept : (r : Read Listed) {row : Row} {law j : ℕ} → whole (head_of row law) j ≡ head_in r → Kept r row law j
kept (whole x i) {row} {law} {j} e =
    let b : j ≡ i = got-place e in
    let h = got-value e in
    record {
      real = x;
      first = ap (whole x) (sym b);
      row_is = sym (ap (λ (h : Headed). h.row) h);
      law-is = sym (ap (λ (h : Headed). h.law) h);
    }
kept none e = let z : ◌≡◌ {A = ℕ} 0 1 = cc in absurd (omega arith)

not_listed : (r : Read Listed) → none ≡ head_in r → r ≡ none
not_listed (whole x i) e = let z : ◌≡◌ {A = ℕ} 0 1 = cc in absurd (omega arith)
not_listed none e = refl

laws-turn : (laws₀ laws : List ℕ) (k law : ℕ) → k < length laws → drop k laws ≡ drop k laws₀
    → drop (k + 1) (set laws k law) ≡ drop (k + 1) laws₀
laws-turn laws₀ laws k law h e =
    drop-set-lt (k + 1) laws k law (omega arith) ∙ sym (drop-drop 1 k laws) ∙ ap (drop 1) e ∙ drop-drop 1 k laws₀

module _ {far from : ℕ} {text cells₀ cells laws₀ laws : List ℕ} {k at : ℕ} (s : Noting far from text cells₀ cells laws₀ laws k at) where
  pub noting-end : 97 ≤ length cells₀ → length text ≤ at → FillsNoted (listed_at far from text) cells₀ (set cells 0 k)
      laws₀ laws (Some k)
  noting-end l h =
      let e : listed_at far from text ≡ whole s.done at = s.left ∙ noted-ending far (32 - k) s.done text at h in
      let c = rowed-laid cells₀ (omega arith) (length-rows-listed s.done ∙ s.count) s.rows in
      let w : laws ≡ laws_listed s.done ++ drop (length s.done) laws₀ = sym (take-append-drop k laws)
      ∙ rw (s.lawful, s.rest, s.count) in
      rw e (record {
        count = ap Some (sym s.count);
        filled = (c, w);
        few = λ n q. let z : k ≡ n = cc in
            let f = s.few in omega arith;
      })

  pub noting-full : (cells' laws' : List ℕ) → at < length text → k ≡ 32
      → FillsNoted (listed_at far from text) cells₀ cells' laws₀ laws' None
  unfolding listed_from
  noting-full cells' laws' h n =
      let z : 32 - k ≡ 0 = omega arith in
      wrong (s.left ∙ rw (z, lt-leb (length text) at h)) cells₀ cells' laws₀ laws'

  module _ (h : at < length text) (n : k ≡ 32 → ⊥) where
    step : listed_from far (32 - k) s.done text at ≡ and_then (listed far text at)
        (λ r j. listed_from far (32 - (k + 1)) (s.done ++ (r ∷ [])) text j)
    unfolding listed_from
    step = let f = s.few in let z : 32 - k ≡ suc (32 - (k + 1)) = omega arith in rw (z, lt-leb (length text) at h)

    pub noting-none : (cells' laws' : List ℕ) → none ≡ head_in (listed far text at)
        → FillsNoted (listed_at far from text) cells₀ cells' laws₀ laws' None
    noting-none cells' laws' e = wrong (s.left ∙ step ∙ rw (not_listed (listed far text at) e)) cells₀ cells' laws₀ laws'

    pub noting-turn : {cells' : List ℕ} {r : Row} {law j : ℕ} → k < length laws → whole (head_of r law) j ≡ head_in (listed far text at)
        → PutsRow r (1 + 3 * k) cells cells' → Noting far from text cells₀ cells' laws₀ (set laws k law) (k + 1) j
    noting-turn {cells'} {r} {law} {j} l e p =
        let q = kept (listed far text at) e in
        turn q.real q.first q.row_is q.law-is
      where
        turn : (x : Listed) → listed far text at ≡ whole x j → x.row ≡ r → x.note.law ≡ law
            → Noting far from text cells₀ cells' laws₀ (set laws k law) (k + 1) j
        turn x f u v = record {
          done = s.done ++ (x ∷ []);
          count = length-append s.done (x ∷ []) ∙ ap (λ (n : ℕ). n + 1) s.count;
          few = let f = s.few in omega arith;
          left = s.left ∙ step ∙ rw f;
          rows = rw (rows_snoc s.done x, u) (rowed-turn s.rows p);
          lawful = rw (laws-snoc s.done x, v, add-one k) (take-suc-set laws k law l ∙ rw s.lawful);
          rest = laws-turn laws₀ laws k law l s.rest;
        }
