-- A box begins with a load, into memory that holds anything: after an accepted one, whatever the table held, all that is promised over
-- lists of calls holds of the calls behind it (`loaded-kept`), jumps too (`loaded-jumps`). Its greetings count as first puts
-- (`loaded-first`).
use Prim.Native.Nat.{ℕ, ◌+◌, ◌*◌, ◌≤◌}
use mathlib.Core.Path.{◌≡◌, subst, sym}
use mathlib.Core.List.{List, ◌∷◌}
use lib.ListN.{length}
use Rattle.store_rows.specs.Rows.{held, contents}
use Rattle.store_notes.specs.Notes.{True}
use Rattle.store_notes.specs.Cells.{heads_of, marks_held, stored}
use Rattle.store_notes.specs.Sane.{store_cells}
use Rattle.store.specs.Store.{leaves, After}
use Rattle.store_save.specs.Saved.{load_of}
use Rattle.store_promises.specs.Told.{Call, loading, Store, rows_in, notes_for, see, see_all}
use Rattle.store_promises.specs.Jumped.{jump_into, Jumped}
use Rattle.store_promises.proofs.Granted.{sane-count}
use Rattle.store_promises.proofs.Promises.{Keeps, keeps-taken, calls-kept, marks-inside, NeverTable, never-table}
use Rattle.store_promises.proofs.Jumps.{jump-tells}

module _ (s : Store) (text : List ℕ) {a : After} (e : load_of text s.block s.table ≡ leaves a) where
  abbrev taken : Store
  taken = record { block = s.block; table = stored a.rows a.notes s.table; put = held a.rows; deleted = 0 }

  pub loaded-first : see (loading text) s ≡ taken
  loaded-first = rw e

  -- the load, and any calls behind it
  abbrev begun : List Call → Store
  begun cs = see_all (loading text ∷ cs) s

  pub loaded-kept : (cs : List Call) → Keeps (length s.block) (begun cs)
  unfolding see_all
  loaded-kept cs =
      calls-kept (length s.block) cs (see (loading text) s)
      (subst (Keeps (length s.block)) (sym loaded-first) (keeps-taken s text a e))

  pub loaded-total : (cs : List Call) → held (rows_in (begun cs)) + (begun cs).deleted ≡ (begun cs).put
  loaded-total cs = (loaded-kept cs).total

  pub loaded-marks : (cs : List Call) → True (contents (begun cs).block (rows_in (begun cs))) (notes_for (begun cs))
  loaded-marks cs = (loaded-kept cs).marks

  pub loaded-count : (cs : List Call) → length (notes_for (begun cs)) ≡ length (rows_in (begun cs))
  loaded-count cs = sane-count (begun cs).block (begun cs).table (loaded-kept cs).sane

  pub loaded-fits : (cs : List Call) → 194 + 2 * marks_held (heads_of (begun cs).table) ≤ store_cells (length s.block)
  loaded-fits cs = marks-inside (loaded-kept cs)

  pub loaded-never-table : (cs : List Call) → NeverTable (begun cs)
  loaded-never-table cs = never-table (loaded-kept cs)

  pub loaded-jumps : (cs : List Call) (x sample : ℕ) → Jumped (begun cs) x sample (jump_into (begun cs) x sample)
  loaded-jumps cs x sample = jump-tells (loaded-kept cs) x sample
