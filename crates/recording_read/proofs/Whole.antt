-- A whole file: what its heading says (`headed-a`, `headed-mu`, `headed-none`, `headed-long`, `headed-law`), what refuses it before its
-- items, in order (`file-set`, `file-head`, `file-long`; `reads_none`), and its items (`file-whole`, `items-read`).
use Prim.Native.Nat.{ℕ, ◌+◌, ◌-◌, ◌≤◌, ◌<◌}
use native.Mathlib.Omega.{arith}
use native.Mathlib.Numerals.{add-one}
use mathlib.Core.Path.{◌≡◌, refl}
use mathlib.Core.List.{List}
use mathlib.Core.Bool.{Bool, true, false, cond}
use lib.ListN.{length, take, drop}
use borrow.Author.Tests.{lt-leb, le-leb}
use Rattle.rules.specs.declared.Refusal.TheVariants as rules
use Rattle.rules.specs.Tools.{is_law, all_tools}
use Rattle.rules.specs.Walk.{longest}
use Rattle.rules.proofs.Lent.{from_on}
use Rattle.text_keyvalue.specs.Reading.{begins}
use Rattle.text_keyvalue.proofs.Lines.{begins-fits}
use Rattle.recording.specs.declared.Refusal.{Refusal}
use Rattle.recording.specs.declared.Refusal.TheVariants.{Head, Frame}
use Rattle.std.proofs.Common.{Err}
use Rattle.recording.specs.declared.FileRead.{FileRead}
use Rattle.recording.specs.Remembered.{heading, no_heading, headed, heading_of, heading_length}
use Rattle.recording.specs.Items.{items_from, nothing, read_file, sound_in}
use Rattle.recording.specs.Calls.{Reads}
use Rattle.recording.proofs.Headings.{set_first}
use Rattle.recording_read.specs.declared.Played.{Played}
use Rattle.recording_read.specs.Plays.{Plays, whole_file}

module _ (octets : List ℕ) where
  pub headed-a : begins (heading_of 0) octets ≡ true → heading 0 ≡ headed octets
  unfolding headed
  headed-a e = rw e refl

  pub headed-mu : begins (heading_of 0) octets ≡ false → begins (heading_of 1) octets ≡ true → heading 1 ≡ headed octets
  unfolding headed
  headed-mu e f = rw (e, f) refl

  pub headed-none : begins (heading_of 0) octets ≡ false → begins (heading_of 1) octets ≡ false → no_heading ≡ headed octets
  unfolding headed
  headed-none e f = rw (e, f) refl

  pub headed-long : {law : ℕ} → headed octets ≡ heading law → heading_length ≤ length octets
  unfolding headed
  headed-long {law} e = go (begins (heading_of 0) octets) refl (begins (heading_of 1) octets) refl e
    where
      go : (x : Bool) → begins (heading_of 0) octets ≡ x → (y : Bool) → begins (heading_of 1) octets ≡ y
          → cond x (heading 0) (cond y (heading 1) no_heading) ≡ heading law → heading_length ≤ length octets
      go true p y q e = begins-fits (heading_of 0) octets p
      go false p true q e = begins-fits (heading_of 1) octets q
      go false p false q e = let z : ◌≡◌ {A = ℕ} 0 1 = cc in absurd (omega arith)

  -- a heading's law is one of the two
  pub headed-law : {law : ℕ} → headed octets ≡ heading law → is_law law ≡ true
  unfolding headed
  headed-law {law} e = go (begins (heading_of 0) octets) (begins (heading_of 1) octets) e
    where
      is-law : (x : ℕ) → is_law x ≡ true → heading x ≡ heading law → is_law law ≡ true
      is-law x h e = let z : x ≡ law = cc in rw (← z) h

      go : (x y : Bool) → cond x (heading 0) (cond y (heading 1) no_heading) ≡ heading law → is_law law ≡ true
      go true y e = is-law 0 refl e
      go false true e = is-law 1 refl e
      go false false e = let z : ◌≡◌ {A = ℕ} 0 1 = cc in absurd (omega arith)

  -- "SET, HEAD, LONG (octets after the heading above the walk's limit), then item by item"
  module _ (set room places : ℕ) where
    pub file-set : all_tools < set → read_file octets set room places ≡ nothing (Frame rules.Set) 0
    file-set h = set_first octets set room places (lt-leb set all_tools h)

    module _ (s : set ≤ all_tools) where
      pub file-head : headed octets ≡ no_heading → read_file octets set room places ≡ nothing Head 0
      unfolding read_file
      file-head e = rw (le-leb set all_tools s, e) refl

      pub file-long : (law : ℕ) → headed octets ≡ heading law → longest < length octets - heading_length
          → read_file octets set room places ≡ nothing (Frame rules.Long) law
      unfolding read_file
      file-long law e h = rw (le-leb set all_tools s, e, lt-leb (length octets - heading_length) longest h) refl

      pub file-whole : (law : ℕ) → headed octets ≡ heading law → length octets - heading_length ≤ longest
          → read_file octets set room places ≡ whole_file octets law set room places
      unfolding read_file
      file-whole law e h = rw (le-leb set all_tools s, e, le-leb (length octets - heading_length) longest h) refl

-- a file that is refused before its items
pub reads_none : (why : Refusal) (law : ℕ) (out cells : List ℕ)
    → Reads (nothing why law) (record { end = Err why; law = law; items = 0; octets = 0; samples = 0; bit = 0 }) out out cells cells
unfolding sound_in
reads_none why law out cells =
    record { end = refl; law = refl; items = refl; octets = refl; samples = refl; bit = refl; lent = refl; told = refl }

-- the items after the heading, as a file's
abbrev pub file_of : ℕ → Played → FileRead
file_of law r = record { end = r.end; law = law; items = r.items; octets = r.place; samples = r.samples; bit = r.bit }

pub items-read : (octets : List ℕ) (law set : ℕ) {r : Played} {out out' cells cells' : List ℕ}
    → Plays (items_from (length octets - heading_length + 1) (take (length octets - heading_length) (drop heading_length octets)) law set 0
    (length out) (length cells)) r out out' cells cells'
    → Reads (whole_file octets law set (length out) (length cells)) (file_of law r) out out' cells cells'
items-read octets law set p =
    let q = rw (from_on octets heading_length, add-one (length octets - heading_length)) at p in
    record {
      end = q.end;
      law = refl;
      items = q.items;
      octets = q.place;
      samples = q.samples;
      bit = q.bit;
      lent = q.lent;
      told = q.told;
    }
