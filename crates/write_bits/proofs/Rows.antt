-- Laws of putting a row of words.
use Prim.Native.Nat.{ℕ, ◌+◌, ◌^◌, ◌/◌, ◌%◌, ◌≤◌, ◌<◌}
use mathlib.Core.Path.{◌≡◌, refl, sym, ap, ◌∙◌}
use mathlib.Core.List.{List, ◌++◌, append-nil}
use native.Mathlib.Omega.{arith}
use native.Mathlib.Numerals.{add-one}
use lib.ListN.{length, get_or, take}
use lib.Seq.{take-suc, length-take-le}
use Rattle.rules.specs.Bits.{low_bits}
use Rattle.write_bits.specs.declared.pen.Pen.{Pen}
use Rattle.write_bits.specs.Puts.{Able, Puts}
use Rattle.write_scan.specs.Rows.{row_bits}
use Rattle.rules.proofs.Words.{low_bits-split, low_bits-mod}
use Rattle.write_bits.proofs.Putting.{puts_none, puts_then, puts-as, able-then}
use Rattle.write_scan.proofs.Rows.{length-row_bits, row-append}

-- a word by its upper 8 bits and its lower 32
word-parts : (w : ℕ) → low_bits 8 (w / 2 ^ 32) ++ low_bits 32 (w % 2 ^ 32) ≡ low_bits 40 w
word-parts w = sym (low_bits-split 8 32 w ∙ ap (λ (l : List ℕ). low_bits 8 (w / 2 ^ 32) ++ l) (sym (low_bits-mod 32 0 w)))

row-suc : (row : List ℕ) (i : ℕ) → i < length row → row_bits (take (i + 1) row) ≡ row_bits (take i row) ++ low_bits 40 (get_or row i 0)
unfolding row_bits
row-suc row i h = rw (add-one, take-suc row i 0 h, row-append, append-nil)

-- the words done, and one more
pub record RowTurn (o : List ℕ) (p : Pen) (words o' : List ℕ) (p' : Pen) (i : ℕ) : Type 0 where
  pub puts : Puts o p (row_bits (take i words)) o' p'
  pub size : length o' ≡ length o

pub row-none : (o : List ℕ) (p : Pen) (words : List ℕ) → RowTurn o p words o p 0
unfolding row_bits
row-none o p words = record { puts = puts_none o p; size = refl }

module _ {o o' words : List ℕ} {p p' : Pen} {i : ℕ} (turn : RowTurn o p words o' p' i) (h : i < length words) where
  pub row-able : Able o p (length (row_bits words)) → (n : ℕ) → n ≤ 40 → Able o' p' n
  row-able able n few =
      able-then n able turn.puts turn.size
      (omega (arith, length-row_bits words, length-row_bits (take i words), length-take-le i words (omega arith)))

  pub row-then : {w : ℕ} → w ≡ get_or words i 0 → {o₁ o₂ : List ℕ} {p₁ p₂ : Pen} → Puts o' p' (low_bits 8 (w / 2 ^ 32)) o₁ p₁
      → Puts o₁ p₁ (low_bits 32 (w % 2 ^ 32)) o₂ p₂ → length o₁ ≡ length o' → length o₂ ≡ length o₁ → RowTurn o p words o₂ p₂ (i + 1)
  row-then {w} e high low size₁ size₂ =
      let f : low_bits 8 (w / 2 ^ 32) ++ low_bits 32 (w % 2 ^ 32) ≡ low_bits 40 (get_or words i 0) = word-parts w ∙ ap (low_bits 40) e in
      record {
        puts = puts-as (puts_then turn.puts (puts-as (puts_then high low) f)) (sym (row-suc words i h));
        size = size₂ ∙ size₁ ∙ turn.size;
      }
