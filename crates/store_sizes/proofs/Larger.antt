-- R-11: a block may become larger. What was saved at one size loads at every larger one, whatever its new octets hold, with the same
-- greetings, laws, samples and marks: `larger-loads`, `same-contents`.
use Prim.Native.Nat.{ℕ, ◌+◌, ◌≤◌}
use mathlib.Core.Path.{◌≡◌, refl, sym, ap, ◌∙◌}
use mathlib.Core.List.{List, [], ◌∷◌, ◌++◌}
use mathlib.Core.Bool.{true}
use native.Mathlib.Omega.{arith}
use lib.ListN.{length, take, drop, get_or, length-append, length-drop}
use lib.Seq.{take-append-le, drop-append-le}
use Rattle.store_rows.specs.declared.rows.Row.{Row}
use Rattle.store_rows.specs.Limits.{size_of}
use Rattle.store_rows.specs.Rows.{greeting, Kept, contents}
use Rattle.store_rows.specs.Sane.{rising}
use Rattle.store_rows.proofs.Cells.{length-rows}
use Rattle.store_rows.proofs.Rising.{rising-head}
use Rattle.store_notes.specs.Notes.{True}
use Rattle.store_notes.specs.Sane.{store_cells}
use Rattle.store.specs.Store.{leaves}
use Rattle.store_text.specs.Noted.{listing}
use Rattle.store_save.specs.Saved.{saved, save_of, load_of}
use Rattle.store_promises.specs.Told.{Store, rows_in, notes_for}
use Rattle.store_promises.specs.Kept.{Good}
use Rattle.store_promises.proofs.Granted.{sane-rows, sane-distinct, sane-count}
use Rattle.store_promises.proofs.Sayable.{load_from}
use Rattle.store_promises.proofs.Promises.{Keeps, saved-text, save-writes}

-- greetings inside a block are inside one of which it is the beginning
pub contents-more : (b more : List ℕ) (lo size : ℕ) (rows : List Row) → size ≤ length b → rising 1 lo size rows ≡ true
    → contents (b ++ more) rows ≡ contents b rows
unfolding contents
contents-more b more lo size [] l h = refl
contents-more b more lo size (r ∷ rows) l h =
    let k = rising-head 1 lo size r rows h in
    let i = k.0.inside in
    let d = drop-append-le r.start b more (omega arith) in
    let t = take-append-le r.octets (drop r.start b) more (omega (arith, length-drop r.start b)) in
    let g : greeting (b ++ more) r ≡ greeting b r = ap (take r.octets) d ∙ t in
    ap (λ (o : List ℕ). record { number = r.number; octets = o } ∷ contents (b ++ more) rows) g
    ∙ ap (λ (ks : List Kept). record { number = r.number; octets = greeting b r } ∷ ks)
    (contents-more b more (r.start + r.octets) size rows l k.1)

module _ {size : ℕ} {s : Store} (k : Keeps size s) (more : List ℕ) where
  abbrev block : List ℕ
  block = s.block

  rises : rising 1 0 (size_of block) (rows_in s) ≡ true
  rises = (sane-rows (size_of block) s.table k.sane).rises

  pub same-contents : contents (block ++ more) (rows_in s) ≡ contents block (rows_in s)
  same-contents = contents-more block more 0 (size_of block) (rows_in s) (omega arith) rises

  pub larger-loads : (room : ℕ) (text : List ℕ) → save_of block s.table room ≡ saved text
      → (t : List ℕ) → store_cells (size_of (block ++ more)) ≤ length t
      → load_of text (block ++ more) t
      ≡ leaves (record { block = block ++ more; rows = rows_in s; notes = notes_for s; first = 0; second = 0 })
  larger-loads room text e t c =
      let w = saved-text (size_of block) (listing (rows_in s) (notes_for s)) room text (sym (save-writes k room) ∙ e) in
      let o = sane-rows (size_of block) s.table k.sane in
      let n = length-rows s.table (get_or s.table 0 0) 1 in
      let g : Good (contents (block ++ more) (rows_in s)) (notes_for s) = rw same-contents k.good in
      let m : True (contents (block ++ more) (rows_in s)) (notes_for s) = rw same-contents k.marks in
      rw w (load_from (size_of block) (block ++ more) t (rows_in s) (notes_for s) (omega (arith, length-append block more)) c
      (omega (arith, n, o.few)) o.rises (sane-distinct (size_of block) s.table k.sane)
      (sane-count block s.table k.sane) g m)
