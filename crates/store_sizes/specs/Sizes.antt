-- Document 02, R-11: "a store block may be that large; its size is a setting, 16,384 if absent".
use Rattle.std.specs.Prelude.{ℕ}
use Rattle.std.specs.Prelude.{Option, Some, None}
use Rattle.settings.specs.declared.Settings.{Settings}
use Rattle.settings.specs.Revisions.{Box, look_up}

-- "16,384 if absent"
abbrev pub plain_block : ℕ
plain_block = 16384

abbrev pub block_in : Option Settings → ℕ
block_in (Some v) = v.block
block_in None = plain_block

-- the newest settings are those under the last number given; after a wipe there are none
abbrev pub block_of : Box → ℕ
block_of box = block_in (look_up box.last box.revisions)
