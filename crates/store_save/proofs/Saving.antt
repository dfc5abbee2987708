-- Saving in the code's steps.
use Prim.Native.Nat.{ℕ, ◌≤◌, ◌<◌}
use mathlib.Core.Path.{◌≡◌, refl, sym, ap, ◌∙◌}
use mathlib.Core.List.{List, [], ◌++◌}
use mathlib.Core.Bool.{Bool, true, false, cond}
use native.Mathlib.Omega.{arith}
use lib.ListN.{length, get_or, drop, take-append-drop}
use lib.Dec.{ltb}
use borrow.Author.Tests.{lt-ltb, le-ltb}
use Rattle.store_rows.specs.Limits.{size_of}
use Rattle.store_rows.specs.Cells.{rows_at, rows_of}
use Rattle.store_rows.proofs.Cells.{length-rows}
use Rattle.text_lines.specs.Puts.{Puts}
use Rattle.store_notes.specs.Cells.{notes_of, marks_held, heads_of}
use Rattle.store_notes.specs.Sane.{sane_store, Noted}
use Rattle.store_notes.proofs.Noting.{heads-notes, length-heads}
use Rattle.store_notes.proofs.Matched.{sane-noted, room_for}
use Rattle.store.specs.declared.Refusal.{Refusal}
use Rattle.store.specs.declared.Refusal.TheVariants.{Room, Table}
use Rattle.store.specs.Calls.{Answer}
use Rattle.std.specs.Prelude.{Ok, Err}
use Rattle.store_text.specs.Table.{most_place}
use Rattle.store_text.specs.Noted.{Listed, rows_listed, listing, listed_text}
use Rattle.store_text.specs.Form.{form_line, needs_form, saved_text, form_by}
use Rattle.store_text.proofs.Noting.{rows-listing}
use Rattle.store_text.proofs.Formed.{form-by-size}
use Rattle.store_text.specs.Held.{held_of, TextIn}
use Rattle.store_save.specs.Saved.{Text, declined, save_of}
use Rattle.store_save.specs.Calls.{Writes, Save}
use Rattle.store_save.proofs.Bad.{law-at}

declines : (x : Text) (out : List ℕ) {w : Refusal} → x ≡ declined w → Writes x out out (Err w)
declines x out e = rw e (record { answer = refl; lent = refl })

-- a text put at the start
puts-start : {text out out' : List ℕ} {r : ℕ} → Puts out 0 text out' r → (r ≡ length text) × (out' ≡ text ++ drop (length text) out)
puts-start {text} {out} {out'} {r} p =
    let n : r ≡ length text = p.place ∙ omega arith in
    (n, sym (take-append-drop r out') ∙ rw (p.says, p.rest) (ap (λ (k : ℕ). text ++ drop k out) n))

-- the greetings of a table, with their notes
module _ (t : List ℕ) {n : ℕ} (c : n ≡ get_or t 0 0) (d : get_or t 97 0 ≡ get_or t 0 0) where
  second : get_or (drop 97 t) 0 0 ≡ n
  second = law-at t 97 ∙ d ∙ sym c

  held-as : held_of t n ≡ listing (rows_of t) (notes_of t)
  held-as = rw (← c, second)

  heads-as : heads_of t ≡ rows_at (drop 97 t) n 1
  heads-as = rw second

module _ (b t out : List ℕ) {size : ℕ} {x : Bool} (z : size ≡ size_of b) (e : x ≡ sane_store size t) where
  pub save-table : x ≡ false → Save b t out out (Err Table)
  save-table f = declines (save_of b t (length out)) out (rw (← z, ← e, f))

  module _ (f : x ≡ true) where
    noted : Noted size t
    noted = sane-noted size t (sym e ∙ f)

    pub save-first : 1 ≤ length t
    save-first = omega (arith, noted.order.cells)

    module _ {n : ℕ} (c : n ≡ get_or t 0 0) where
      pub save-fits : TextIn t n
      save-fits =
          let h = ap marks_held (heads-as t c noted.count) in
          let r = room_for noted (omega (arith, z)) in
          (omega (arith, c, noted.order.few), omega (arith, h, r))

      -- as many notes as greetings, all of them inside the block
      same_rows : rows_listed (listing (rows_of t) (notes_of t)) ≡ rows_of t
      same_rows =
          let a = sym (length-heads (notes_of t)) ∙ ap length (heads-notes (heads_of t) (drop 194 t))
          ∙ length-rows (drop 97 t) (get_or (drop 97 t) 0 0) 1 in
          rows-listing (rows_of t) (notes_of t) (omega (arith, a, second t c noted.count, length-rows t (get_or t 0 0) 1, c))

      form-as : needs_form size (rows_listed (listing (rows_of t) (notes_of t))) ≡ ltb most_place size
      form-as = ap (needs_form size) same_rows ∙ form-by-size 1 0 size (rows_of t) noted.order.rises

      text-as : form_by size ++ listed_text (held_of t n) ≡ saved_text size (listing (rows_of t) (notes_of t))
      text-as =
          ap (λ (xs : List Listed). form_by size ++ listed_text xs) (held-as t c noted.count)
          ∙ ap (λ (w : Bool). cond w form_line [] ++ listed_text (listing (rows_of t) (notes_of t))) (sym form-as)

      module _ {octets : ℕ} (o : octets ≡ length (form_by size ++ listed_text (held_of t n))) where
        measured : octets ≡ length (saved_text size (listing (rows_of t) (notes_of t)))
        measured = o ∙ ap length text-as

        pub save-room : length out < octets → Save b t out out (Err Room)
        save-room h = declines (save_of b t (length out)) out (rw (← z, ← e, f, ← measured, lt-ltb (length out) octets h))

        pub save-text : {out' : List ℕ} {r : ℕ} → octets ≤ length out → Puts out 0 (form_by size ++ listed_text (held_of t n)) out' r
            → Save b t out out' (Ok (r, 0))
        save-text h p =
            let s = puts-start (rw text-as at p) in
            rw (← z, ← e, f, ← measured, le-ltb (length out) octets h)
            (record { answer = ap {B = Answer} (λ (k : ℕ). Ok (k, 0)) s.0; lent = s.1 })
