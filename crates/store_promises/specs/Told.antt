-- Document 02, R-6 and R-8: a list of calls from a fresh block; "Octets held equal all octets put less all octets deleted since the block
-- was fresh"; after a loading "the held total then counts them as first puts".
use Rattle.std.specs.Prelude.{ℕ, ◌+◌, ◌≡◌, List, [], ◌∷◌, length, replicate}
use Rattle.store_rows.specs.declared.rows.Row.{Row}
use Rattle.store_rows.specs.Rows.{held}
use Rattle.store_rows.specs.Finding.{find_from}
use Rattle.store_rows.specs.Cells.{rows_of}
use Rattle.store_rows.specs.Changed.{nth}
use Rattle.store_greeting.specs.Marks.{Note}
use Rattle.store_notes.specs.Cells.{notes_of}
use Rattle.store.specs.Store.{Outcome, leaves, refused}
use Rattle.store.specs.Calls.{put_of, delete_of, block_after, table_after}
use Rattle.store_save.specs.Saved.{load_of}

-- the calls: a law, a number and octets; a number; a number; the room for a text; a text
pub data Call : Type 0 where
  putting : ℕ → ℕ → List ℕ → Call
  getting : ℕ → Call
  deleting : ℕ → Call
  saving : ℕ → Call
  loading : List ℕ → Call

-- a block and its table; the octets put and the octets deleted since the block was fresh
pub record Store : Type 0 where
  pub block : List ℕ
  pub table : List ℕ
  pub put : ℕ
  pub deleted : ℕ

abbrev pub rows_in : Store → List Row
rows_in s = rows_of s.table

abbrev pub notes_for : Store → List Note
notes_for s = notes_of s.table

-- the octets that a call puts or deletes: none where it is refused. After a loading its greetings count as first puts, and nothing as deleted
abbrev pub put_more : Outcome → ℕ → ℕ
put_more (leaves a) octets = octets
put_more (refused w) octets = 0

abbrev pub put_first : Outcome → ℕ → ℕ
put_first (leaves a) put = held a.rows
put_first (refused w) put = put

abbrev pub none_deleted : Outcome → ℕ → ℕ
none_deleted (leaves a) deleted = 0
none_deleted (refused w) deleted = deleted

-- what a call leaves
abbrev pub see : Call → Store → Store
see (putting law n xs) s =
    let o = put_of s.block s.table law n xs in
    record {
      block = block_after o s.block;
      table = table_after o s.table;
      put = s.put + put_more o (length xs);
      deleted = s.deleted;
    }
see (getting n) s = s
see (deleting n) s =
    let o = delete_of s.block s.table n in
    record {
      block = s.block;
      table = table_after o s.table;
      put = s.put;
      deleted = s.deleted + put_more o (nth (find_from n 0 (rows_in s)) (rows_in s)).octets;
    }
see (saving room) s = s
see (loading text) s =
    let o = load_of text s.block s.table in
    record {
      block = s.block;
      table = table_after o s.table;
      put = put_first o s.put;
      deleted = none_deleted o s.deleted;
    }

unfoldable pub see_all : List Call → Store → Store
see_all [] s = s
see_all (c ∷ cs) s = see_all cs (see c s)

-- calls that leave the greeting of a number: none deletes it, and none loads a table
unfoldable pub Leaves : ℕ → List Call → Type 0
Leaves x [] = Unit {0}
Leaves x (putting law n xs ∷ cs) = Leaves x cs
Leaves x (getting n ∷ cs) = Leaves x cs
Leaves x (deleting n ∷ cs) = (n ≡ x → ⊥) × Leaves x cs
Leaves x (saving room ∷ cs) = Leaves x cs
Leaves x (loading text ∷ cs) = ⊥

-- a fresh block, whatever its octets, and its table, all 0
abbrev pub fresh : List ℕ → ℕ → Store
fresh b cells = record { block = b; table = replicate cells 0; put = 0; deleted = 0 }
