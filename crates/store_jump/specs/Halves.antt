-- One halving, in the code's steps: of the marks from `low` on and below `high`, the half that has the last mark at or before the sample.
use Rattle.std.specs.Prelude.{ℕ, cond, leb}
use Rattle.store_jump.specs.declared.seeking.Span.{Span}
use Rattle.store_jump.specs.Seeking.{middle}

abbrev pub span_of : ℕ → ℕ → Span
span_of low high = record { low = low; high = high }

-- by the samples before the middle mark
unfoldable pub half_of : ℕ → ℕ → ℕ → ℕ → Span
half_of before sample low high = cond (leb before sample) (span_of (middle low high) high) (span_of low (middle low high))
