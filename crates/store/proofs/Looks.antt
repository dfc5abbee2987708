-- What all calls judge, in the code's order: `look-stop`, `look-found`; and what follows where a call goes on: `look-told`,
-- `taken`, `free`.
use Prim.Native.Nat.{ℕ, ◌≤◌, ◌<◌}
use mathlib.Core.Path.{◌≡◌, sym, ap, ◌∙◌}
use mathlib.Core.List.{List, [], ◌∷◌}
use mathlib.Core.Bool.{Bool, true, false, ◌&&◌}
use native.Mathlib.Omega.{arith}
use lib.ListN.{length, get_or}
use lib.Dec.{leb}
use borrow.Author.Tests.{leb-true}
use Rattle.rules.specs.Judged.{ask, judged}
use Rattle.rules.proofs.Judged.{by-judged, judged-first, Apart, judged-refuses}
use Rattle.store_rows.specs.Limits.{is_number}
use Rattle.store_rows.specs.Finding.{absent, find_from}
use Rattle.store_rows.specs.Cells.{rows_of}
use Rattle.store_notes.specs.Sane.{sane_store}
use Rattle.store.specs.declared.Refusal.{Refusal}
use Rattle.store.specs.declared.Refusal.TheVariants.{Table, Number}
use Rattle.std.proofs.Common.{Result, Ok, Err}
use Rattle.store.specs.Store.{Outcome, refused}
use Rattle.store.specs.Calls.{on_table}
use Rattle.store.specs.Looking.{look_of, Looked}
use Rattle.store_rows.proofs.Cells.{length-rows}
use Rattle.store_rows.proofs.Finding.{found_here, found_nowhere}
use Rattle.store_notes.proofs.Matched.{sane-noted}

second : (a b : Bool) → a && b ≡ true → b ≡ true
second true b e = e
second false b e = cc

-- a call stops or goes on
looks : (n i : ℕ) → Apart {A = Result (ℕ × ℕ) Refusal} Err (Ok (n, i))
looks n i = record { other = λ w e. let z : ◌≡◌ {A = ℕ} 0 1 = cc in omega arith; same = λ v w e. cc }

module _ (t : List ℕ) (x : ℕ) where
  pub look-stop : is_number x ≡ false → Err Number ≡ look_of t x
  unfolding look_of
  look-stop h = rw h

  pub look-found : {i : ℕ} → is_number x ≡ true → i ≡ find_from x 0 (rows_of t) → Ok (get_or t 0 0, i) ≡ look_of t x
  unfolding look_of
  look-found h p = rw (h, p)

  -- a call that stops: what it would do over the list of greetings begins with NUMBER too
  pub look-stops : {w : Refusal} (rest : Outcome) → Err w ≡ look_of t x → judged (ask Number (is_number x) ∷ []) refused rest ≡ refused w
  unfolding look_of
  look-stops {w} rest e =
      let asks = ask Number (is_number x) ∷ [] in
      judged-first refused rest asks ((judged-refuses (looks (get_or t 0 0) (find_from x 0 (rows_of t))) asks w).0 (sym e))

-- TABLE, or what follows
pub on-table : (size : ℕ) (t : List ℕ) {s : Bool} → s ≡ sane_store size t → s ≡ true → (o : Outcome) → on_table size t o ≡ o
on-table size t e f o = rw (← e, f)

pub off-table : (size : ℕ) (t : List ℕ) {s : Bool} → s ≡ sane_store size t → s ≡ false → (o : Outcome) → on_table size t o ≡ refused Table
off-table size t e f o = rw (← e, f)

module _ (size : ℕ) (t : List ℕ) (x : ℕ) where
  -- a call that goes on
  pub look-told : {n i : ℕ} → sane_store size t ≡ true → Ok (n, i) ≡ look_of t x → Looked size t x n i
  unfolding look_of
  look-told {n} {i} p e =
      by-judged {A = Result (ℕ × ℕ) Refusal} Err (Ok (get_or t 0 0, find_from x 0 (rows_of t))) (λ o. Ok (n, i) ≡ o → Looked size t x n i)
      (ask Number (is_number x) ∷ [])
      (λ m g.
      let q : ◌≡◌ {A = ℕ × ℕ} (n, i) (get_or t 0 0, find_from x 0 (rows_of t)) = cc in
      record {
        sane = p;
        noted = sane-noted size t p;
        allowed = m.0;
        count = ap (λ (y : ℕ × ℕ). y.0) q;
        place = ap (λ (y : ℕ × ℕ). y.1) q;
      })
      (λ w f g. absurd ((looks n i).other w (sym g))) e

  module _ {n i : ℕ} (k : Looked size t x n i) where
    pub many : length (rows_of t) ≡ n
    many = length-rows t (get_or t 0 0) 1 ∙ sym k.count

    pub taken : i < n → absent x (rows_of t) ≡ false
    taken h = found_here x 0 n (rows_of t) k.place (omega (arith, many)) h

    pub free : n ≤ i → absent x (rows_of t) ≡ true
    free h = found_nowhere x 0 n (rows_of t) k.place (omega (arith, many)) h

    pub at_most : x ≤ 65535
    at_most = leb-true x 65535 (second (leb 1 x) (leb x 65535) k.allowed)
