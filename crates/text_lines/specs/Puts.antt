-- Text put into lent octets at a place: it follows what stands before the place, and the rest is as lent.
use Rattle.std.specs.Prelude.{ℕ, ◌+◌, ◌≡◌, List, ◌++◌, length, take, drop}

pub record Puts (out : List ℕ) (at : ℕ) (text out' : List ℕ) (next : ℕ) : Type 0 where
  pub says : take next out' ≡ take at out ++ text
  pub rest : drop next out' ≡ drop next out
  pub place : next ≡ at + length text
  pub size : length out' ≡ length out
