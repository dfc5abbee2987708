-- How long a saved table can be. A greeting's lines have at most 66 octets (a number below 100,000, start and octets below 10,000,000, a
-- law, samples below 1,000,000,000), a mark's line 23; there are at most 32 greetings, size / 64 + 32 marks, and the line `form=2`.
use Rattle.std.specs.Prelude.{ℕ, ◌+◌, ◌*◌, ◌/◌}
use Rattle.store_rows.specs.Limits.{most_greetings}
use Rattle.store_greeting.specs.Marks.{frames_apart}

abbrev pub most_text : ℕ → ℕ
most_text size = 7 + most_greetings * 66 + 23 * (size / frames_apart + most_greetings)
