-- A text's greetings judged: TABLE, BAD, TABLE, in the code's steps.
use Prim.Native.Nat.{ℕ}
use mathlib.Core.Path.{◌≡◌, sym, ap, ◌∙◌}
use mathlib.Core.List.{List, [], ◌∷◌}
use mathlib.Core.Bool.{Bool, true, false}
use native.Mathlib.Omega.{arith}
use lib.ListN.{length, drop}
use Rattle.rules.specs.Judged.{ask, judged}
use Rattle.rules.proofs.Judged.{judged-ap, judged-first, first_more, Apart, judged-passes, judged-refuses}
use Rattle.store_rows.specs.declared.rows.Row.{Row}
use Rattle.store_rows.specs.Limits.{size_of}
use Rattle.store_rows.specs.Cells.{rows_at}
use Rattle.store_rows.specs.Sane.{rising, numbered}
use Rattle.store_rows.proofs.Cells.{length-rows}
use Rattle.text_keyvalue.specs.Reading.{Read}
use Rattle.store.specs.declared.Refusal.{Refusal}
use Rattle.store.specs.declared.Refusal.TheVariants.{Bad, Table}
use Rattle.store.specs.Store.{Outcome, leaves, refused}
use Rattle.store_text.specs.Noted.{Listed, rows_listed, notes_listed}
use Rattle.store_text.proofs.Noting.{length-rows-listed}
use Rattle.store_save.specs.Verdicts.{Verdict}
use Rattle.std.specs.Prelude.{Result, Ok, Err}
use Rattle.std.specs.Result.{IsErrAnd}
use Rattle.std.proofs.lemmas.Result.{err_from_is_err_and}
use Rattle.store_save.specs.Saved.{any_bad, all_true, load_asks, load_in}
use Rattle.store_save.specs.Steps.{bad_by, rows_asks, judged_by, greetings_of, is_whole, Celled, Fitting}
use Rattle.store_save.specs.Calls.{verdict_of}
use Rattle.store_save.proofs.Bad.{bad-celled}

-- a `?` hands a refusal on as it is
pub handed_on : {A E : Type 0} (r : Result A E) {w : E} → IsErrAnd r (λ y. y ≡ w) → r ≡ Err w
handed_on r h = let p = err_from_is_err_and r h in rw (p.1, p.2)

module _ (b : List ℕ) (rows : List Row) (laws : List ℕ) {size : ℕ} {x : Bool} (z : size ≡ size_of b) (e : x ≡ rising 0 0 size rows) where
  pub not-apart : x ≡ false → Err Table ≡ judged_by b (size_of b) rows laws
  unfolding judged_by
  not-apart f = rw (← z, ← e, f)

  module _ (f : x ≡ true) {y : Bool} (g : y ≡ numbered rows) where
    pub not-once : y ≡ false → Err Table ≡ judged_by b (size_of b) rows laws
    unfolding judged_by
    not-once h = rw (← z, ← e, f, ← g, h)

    module _ (h : y ≡ true) {w : Bool} (i : w ≡ bad_by b rows laws) where
      pub is-bad : w ≡ true → Err Bad ≡ judged_by b (size_of b) rows laws
      unfolding judged_by
      is-bad j = rw (← z, ← e, f, ← g, h, ← i, j)

      pub is-fine : w ≡ false → Ok tt ≡ judged_by b (size_of b) rows laws
      unfolding judged_by
      is-fine j = rw (← z, ← e, f, ← g, h, ← i, j)

-- in the cells as in the text
abbrev after : List ℕ → ℕ → List Listed → Outcome
after b size xs = leaves (record { block = b; rows = rows_listed xs; notes = notes_listed xs; first = 0; second = 0 })

judged-celled : (b : List ℕ) (size : ℕ) {xs : List Listed} {cells laws : List ℕ} {n : ℕ} → Celled xs cells laws n
    → judged_by b size (rows_at cells n 1) laws ≡ judged (rows_asks size (rows_listed xs) (any_bad b xs)) Err (Ok tt)
unfolding judged_by
judged-celled b size {xs} {cells} {laws} {n} c =
    let d = ap (bad_by b (rows_listed xs)) c.laws-are ∙ sym (bad-celled b xs (drop (length xs) laws)) in
    rw (c.rows_are, d)

-- a verdict stops or is fine
pub verdicts : Apart {W = Refusal} {A = Verdict} Err (Ok tt)
verdicts = record { other = λ w e. let z : ◌≡◌ {A = ℕ} 0 1 = cc in omega arith; same = λ v w e. cc }

-- whether greetings are taken: samples and marks are judged last
pub verdict-is : (b : List ℕ) (size : ℕ) (xs : List Listed) → verdict_of (load_in b size xs) ≡ judged (load_asks b size xs) Err (Ok tt)
unfolding load_in
verdict-is b size xs = judged-ap verdict_of refused (after b size xs) (load_asks b size xs)

pub record Passes (b : List ℕ) (size : ℕ) (xs : List Listed) : Type 0 where
  pub rises : rising 0 0 size (rows_listed xs) ≡ true
  pub once : numbered (rows_listed xs) ≡ true
  pub fine : any_bad b xs ≡ false

module _ {xs : List Listed} {cells laws : List ℕ} {n : ℕ} (c : Celled xs cells laws n) where
  pub celled-stop : (b : List ℕ) (size : ℕ) {w : Refusal} → Err w ≡ judged_by b size (rows_at cells n 1) laws
      → Err w ≡ verdict_of (load_in b size xs)
  celled-stop b size {w} e =
      let asks = rows_asks size (rows_listed xs) (any_bad b xs) in
      let first = (judged-refuses verdicts asks w).0 (sym (e ∙ judged-celled b size c)) in
      sym (verdict-is b size xs ∙ judged-first Err (Ok tt) (load_asks b size xs) (first_more asks (ask Table (all_true b xs) ∷ []) first))

  pub celled-fine : (b : List ℕ) (size : ℕ) → Ok tt ≡ judged_by b size (rows_at cells n 1) laws → Passes b size xs
  celled-fine b size e =
      let m = (judged-passes verdicts (rows_asks size (rows_listed xs) (any_bad b xs))).0 (sym (e ∙ judged-celled b size c)) in
      record { rises = m.0; once = m.1.0; fine = m.1.1.0 }

  pub celled-count : n ≡ length xs
  celled-count = sym (length-rows cells n 1) ∙ ap length c.rows_are ∙ length-rows-listed xs

module _ {b : List ℕ} {size : ℕ} {xs : List Listed} (p : Passes b size xs) where
  pub passes-true : all_true b xs ≡ true → load_in b size xs ≡ after b size xs
  unfolding load_in
  passes-true e = rw (p.rises, p.once, p.fine, e)

  pub passes-false : all_true b xs ≡ false → Err Table ≡ verdict_of (load_in b size xs)
  unfolding load_in
  passes-false e = rw (p.rises, p.once, p.fine, e)

pub sound : {b : List ℕ} {size n : ℕ} (found : Read (List Listed)) → is_whole found ≡ true → Passes b (size_of b) (greetings_of found)
    → size ≡ size_of b → n ≡ length (greetings_of found) → Fitting b size n found
sound found e p z c =
    record { reads = e; count = c; inside = omega (arith, z); small = omega (arith, z); rises = rw z p.rises; fine = p.fine }
