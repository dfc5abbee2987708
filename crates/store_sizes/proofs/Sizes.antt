-- "Its size is a setting, 16,384 if absent": a box with no settings has 16,384 (`absent-block`), so a fresh one (`fresh-block`) and one
-- after a wipe (`wiped-block`); after a save or a going back it has what was saved (`saved-block`). Settings and store have one
-- greatest size (`one-most`), so a block of the size that a text says is all of it the store's (`said-block`).
use Prim.Native.Nat.{ℕ, ◌≤◌}
use mathlib.Core.Path.{◌≡◌, refl, ap, ◌∙◌}
use mathlib.Core.List.{List, []}
use native.Mathlib.Omega.{arith}
use lib.ListN.{length, replicate}
use Rattle.store_rows.specs.Limits.{largest_block, size_of}
use Rattle.settings.specs.declared.Settings.{Settings}
use Rattle.std.specs.Prelude.{Some}
use Rattle.settings.specs.Lines.{most_block, settings_in}
use Rattle.settings.specs.Revisions.{Box, added, look_up, wiped}
use Rattle.settings.specs.State.{rows_at, kept_of, box_of, laid}
use Rattle.settings.specs.Told.{Call, see_all, fresh}
use Rattle.settings.proofs.Lines.{settings-only}
use Rattle.settings.proofs.Promises.{box-laid, saved-reads}
use Rattle.store_sizes.specs.Sizes.{block_in, block_of}

pub absent-block : (box : Box) → box.revisions ≡ [] → block_of box ≡ 16384
unfolding look_up
absent-block box e = rw e

-- the 41 numbers of a box that never had any settings
pub fresh-block : block_of (box_of (replicate 41 0)) ≡ 16384
unfolding rows_at kept_of look_up
fresh-block = refl

pub wiped-block : (cells : List ℕ) → block_of (box_of (laid (wiped (box_of cells)))) ≡ 16384
unfolding kept_of look_up
wiped-block cells = ap block_of (box-laid (wiped (box_of cells)) refl (omega arith)) ∙ absent-block (wiped (box_of cells)) refl

-- after any list of calls, a save or a going back to these values
pub saved-block : (cs : List Call) (v : Settings) → block_of (added (box_of (see_all cs fresh).cells) v) ≡ v.block
unfolding added
saved-block cs v = ap block_in (saved-reads cs v)

-- one greatest size
pub one-most : most_block ≡ largest_block
one-most = refl

pub said-block : (text : List ℕ) (v : Settings) → settings_in text ≡ Some v → (b : List ℕ) → length b ≡ v.block
    → (1 ≤ size_of b) × (size_of b ≡ v.block)
said-block text v e b l =
    let s = (settings-only text v e).0 in
    (omega (arith, l, s.least, s.most), omega (arith, l, s.most))
