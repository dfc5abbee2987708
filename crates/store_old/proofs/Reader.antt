-- Document 02, R-11, the older reader, whatever its set of tools.
--   `old-refuses`: it refuses every text that begins with `form=2`, at its first line, with TABLE.
--   `old-alike`: with a block of up to 16,384 octets it reads every other text as the new one does, if its walk accepts the greetings.
--   `old-bad`: where it does not, and nothing is TABLE before, that is BAD; a greeting of tool 11 and an older box with set 127.
--   `old-takes`, `old-declines`: so of what is saved of such a block.
use Prim.Native.Nat.{ℕ, ◌≤◌}
use mathlib.Core.Path.{◌≡◌, refl, sym, ap, ◌∙◌}
use mathlib.Core.List.{List, ◌++◌}
use mathlib.Core.Bool.{Bool, true, false, cond}
use native.Mathlib.Omega.{arith}
use lib.ListN.{length}
use lib.Dec.{ltb}
use borrow.Author.Tests.{le-ltb, ltb-false}
use Rattle.rules.specs.Tools.{is_set}
use Rattle.store_rows.specs.declared.rows.Row.{Row}
use Rattle.store_rows.specs.Limits.{size_of}
use Rattle.store_rows.specs.Sane.{rising, numbered}
use Rattle.store_notes.specs.Sane.{store_cells}
use Rattle.store.specs.declared.Refusal.TheVariants.{Bad, Table}
use Rattle.store.specs.Store.{Outcome, leaves, refused, After}
use Rattle.text_keyvalue.specs.Reading.{Read, whole, none, begins}
use Rattle.store_text.specs.Table.{most_place, table_in}
use Rattle.store_text.specs.Noted.{Listed, rows_listed, listed_in, listing}
use Rattle.store_text.specs.Form.{form_line}
use Rattle.store_text.proofs.Formed.{unformed, old-rows, old-noted}
use Rattle.store_save.specs.Saved.{saved, save_of, load_in, load_read, early, load_of}
use Rattle.store_save.proofs.Bad.{rows-early}
use Rattle.store_promises.specs.Loading.{Lists, in-early, in-noted, Formed}
use Rattle.store_promises.specs.Told.{Store, rows_in, notes_for}
use Rattle.store_promises.proofs.Promises.{Keeps, what-save-writes}
use Rattle.store_promises.proofs.Loaded.{Took, load-took, lists-one}
use Rattle.store_promises.proofs.Listed.{listing-listed}
use Rattle.store_promises.proofs.Formed.{form-by-block}
use Rattle.store_old.specs.Old.{old_block, old_size_of, old_cells, any_bad_with, early_with, old_load_in, old_load_read, old_load_of}
use Rattle.store_old.proofs.Accepted.{load-alike, early-alike, bad-early, rows-with}

-- "THE OLD TABLE READER MUST REFUSE A form=2 TABLE AT ITS FIRST LINE WITH TABLE"
either : (s : Bool) {A : Type 0} (x : A) → cond s x x ≡ x
either true x = refl
either false x = refl

pub old-refuses : (set : ℕ) (rest b t : List ℕ) → old_load_of set (form_line ++ rest) b t ≡ refused Table
old-refuses set rest b t = rw (old-rows rest, old-noted rest) (either (ltb (length t) (old_cells (old_size_of b))) (refused Table))

past-test : (p : Bool) {o n : Outcome} → (p ≡ false → o ≡ n) → cond p (refused Table) o ≡ cond p (refused Table) n
past-test true h = refl
past-test false h = h refl

-- greetings that its walk accepts, wherever they are apart, inside the block and their numbers used once
module _ (set : ℕ) (s : is_set set ≡ true) (b : List ℕ) (size : ℕ) where
  in-alike : (xs : List Listed)
      → (rising 0 0 size (rows_listed xs) ≡ true → numbered (rows_listed xs) ≡ true → any_bad_with set b xs ≡ false)
      → old_load_in set b size xs ≡ load_in b size xs
  unfolding old_load_in load_in
  in-alike xs h = go (rising 0 0 size (rows_listed xs)) refl (numbered (rows_listed xs)) refl
    where
      go : (p : Bool) → rising 0 0 size (rows_listed xs) ≡ p → (q : Bool) → numbered (rows_listed xs) ≡ q
          → old_load_in set b size xs ≡ load_in b size xs
      go false p q r = rw p
      go true p false r = rw (p, r)
      go true p true r = load-alike set s b size xs (h p r)

  early-in : (rows : List Row) → (rising 0 0 size rows ≡ true → numbered rows ≡ true → any_bad_with set b (early b rows) ≡ false)
      → old_load_in set b size (early_with set b rows) ≡ load_in b size (early b rows)
  unfolding old_load_in load_in
  early-in rows h = go (rising 0 0 size rows) refl (numbered rows) refl
    where
      go : (p : Bool) → rising 0 0 size rows ≡ p → (q : Bool) → numbered rows ≡ q
          → old_load_in set b size (early_with set b rows) ≡ load_in b size (early b rows)
      go false p q r = rw (rows-with set b rows, rows-early b rows, p)
      go true p false r = rw (rows-with set b rows, rows-early b rows, p, r)
      go true p true r =
          ap (old_load_in set b size) (early-alike set s b rows (bad-early set b rows ∙ h p r))
          ∙ load-alike set s b size (early b rows) (h p r)

-- greetings of which its walk refuses one
module _ (set : ℕ) (b : List ℕ) (size : ℕ) (xs : List Listed) (p : rising 0 0 size (rows_listed xs) ≡ true)
    (q : numbered (rows_listed xs) ≡ true) (w : any_bad_with set b xs ≡ true) where
  in-bad : old_load_in set b size xs ≡ refused Bad
  unfolding old_load_in
  in-bad = rw (p, q, w)

  early-bad : (rows : List Row) → early b rows ≡ xs → old_load_in set b size (early_with set b rows) ≡ refused Bad
  unfolding old_load_in
  early-bad rows e =
      let r : rows ≡ rows_listed xs = sym (rows-early b rows) ∙ ap rows_listed e in
      let v : any_bad_with set b (early_with set b rows) ≡ true = bad-early set b rows ∙ ap (any_bad_with set b) e ∙ w in
      let p' : rising 0 0 size rows ≡ true = ap (rising 0 0 size) r ∙ p in
      let q' : numbered rows ≡ true = ap numbered r ∙ q in
      rw (rows-with set b rows, p', q', v)

module _ (set : ℕ) (s : is_set set ≡ true) (text b t : List ℕ) (h : length b ≤ old_block) (f : begins form_line text ≡ false) where
  same_size : old_size_of b ≡ size_of b
  same_size = omega arith

  same-cells : old_cells (size_of b) ≡ store_cells (size_of b)
  same-cells = omega arith

  -- every other text it reads as the new one does, with a block of up to 16,384 octets, if its walk accepts the greetings
  pub old-alike : ((xs : List Listed) → Formed text b t xs → any_bad_with set b xs ≡ false) → old_load_of set text b t ≡ load_of text b t
  old-alike g =
      rw (same_size, same-cells, unformed text f)
      (past-test (ltb (length t) (store_cells (size_of b)))
      (λ p. go (ltb-false (length t) (store_cells (size_of b)) p) (table_in text) refl (listed_in text) refl))
    where
      go : store_cells (size_of b) ≤ length t → (old : Read (List Row)) → table_in text ≡ old
          → (new : Read (List Listed)) → listed_in text ≡ new
          → old_load_read set b (size_of b) old new ≡ load_read b (size_of b) old new
      go c (whole rows i) q new r =
          let e = rows-early b rows in
          early-in set s b (size_of b) rows
          (λ p n. g (early b rows) (record { cells = c; lists = in-early q; apart = rw e p; once = rw e n }))
      go c none q (whole xs i) r =
          in-alike set s b (size_of b) xs
          (λ p n. g xs (record { cells = c; lists = in-noted q (unformed text f ∙ r); apart = p; once = n }))
      go c none q none r = refl

  -- where it does not, and nothing is TABLE before, that is BAD
  pub old-bad : {xs : List Listed} → Formed text b t xs → any_bad_with set b xs ≡ true → old_load_of set text b t ≡ refused Bad
  old-bad {xs} k w = rw (same_size, same-cells, le-ltb (length t) (store_cells (size_of b)) k.cells) (go k.lists k.apart k.once w)
    where
      go : {ys : List Listed} → Lists text b ys → rising 0 0 (size_of b) (rows_listed ys) ≡ true → numbered (rows_listed ys) ≡ true
          → any_bad_with set b ys ≡ true → old_load_read set b (size_of b) (table_in text) (listed_in text) ≡ refused Bad
      go (in-early {rows = rows} e) p q v = rw e (early-bad set b (size_of b) (early b rows) p q v rows refl)
      go (in-noted {xs = ys} e g) p q v =
          let n = sym (unformed text f) ∙ g in
          rw (e, n) (in-bad set b (size_of b) ys p q v)

-- what is saved of a block of up to 16,384 octets
module _ {size : ℕ} {st : Store} (k : Keeps size st) (room : ℕ) (text : List ℕ) (e : save_of st.block st.table room ≡ saved text)
    (h : size ≤ old_block) (t : List ℕ) (c : store_cells (size_of st.block) ≤ length t) where
  abbrev same : After
  same = record { block = st.block; rows = rows_in st; notes = notes_for st; first = 0; second = 0 }

  taken : Took text st.block t same
  taken = load-took text st.block t same (what-save-writes k room text e t c)

  listed-is : taken.xs ≡ listing (rows_in st) (notes_for st)
  listed-is =
      let i = taken.is in
      sym (listing-listed taken.xs) ∙ sym (ap (λ (a : After). listing a.rows a.notes) i)

  no-form : begins form_line text ≡ false
  no-form =
      let l = k.long in
      form-by-block st.block st.table room text e ∙ le-ltb most_place (size_of st.block) (omega arith)

  short : length st.block ≤ old_block
  short = let l = k.long in omega arith

  module _ (set : ℕ) (s : is_set set ≡ true) where
    pub old-takes : any_bad_with set st.block (listing (rows_in st) (notes_for st)) ≡ false → old_load_of set text st.block t ≡ leaves same
    old-takes w =
        old-alike set s text st.block t short no-form (λ ys f.
        ap (any_bad_with set st.block) (lists-one f.lists taken.formed.lists ∙ listed-is) ∙ w)
        ∙ what-save-writes k room text e t c

    pub old-declines : any_bad_with set st.block (listing (rows_in st) (notes_for st)) ≡ true
        → old_load_of set text st.block t ≡ refused Bad
    old-declines w =
        old-bad set s text st.block t short no-form taken.formed (ap (any_bad_with set st.block) listed-is ∙ w)
