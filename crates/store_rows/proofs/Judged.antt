-- Tables that calls leave: `sane-ordered` (what calls' steps rest on), `row_next` (row i of such a table), and the tests in the code's
-- order.
use Prim.Native.Nat.{ℕ, ◌+◌, ◌*◌, ◌≤◌, ◌<◌}
use mathlib.Core.Path.{◌≡◌, ◌∙◌}
use mathlib.Core.List.{List, ◌∷◌}
use mathlib.Core.Bool.{Bool, true, false, cond, ◌&&◌}
use native.Mathlib.Omega.{arith}
use native.Mathlib.Nat.{zero-add}
use lib.ListN.{length, get_or}
use lib.Dec.{leb, ltb}
use borrow.Author.Tests.{lt-ltb, le-ltb, le-leb, lt-leb, ltb-false}
use Rattle.std.proofs.Common.{◌⊎◌, inl, inr}
use Rattle.std.proofs.lemmas.Bool.{cases_lt}
use Rattle.store_rows.specs.declared.rows.Row.{Row}
use Rattle.store_rows.specs.Rows.{held}
use Rattle.store_rows.specs.Limits.{is_number}
use Rattle.store_rows.specs.Finding.{absent}
use Rattle.store_rows.specs.Cells.{row_at, rows_at, rows_of}
use Rattle.store_rows.specs.Sane.{rising, numbered, sane_of, Ordered}
use Rattle.store_rows.proofs.Lists.{passed, both}
use Rattle.store_rows.proofs.Rising.{Next, rising-next}

numbered-is : (r : Row) (rs : List Row) → numbered (r ∷ rs) ≡ cond (is_number r.number && absent r.number rs) (numbered rs) false
unfolding numbered
numbered-is r rs = go (cases_lt r.number 1) (cases_lt 65535 r.number)
  where
    go : (r.number < 1) ⊎ (1 ≤ r.number) → (65535 < r.number) ⊎ (r.number ≤ 65535)
        → numbered (r ∷ rs) ≡ cond (is_number r.number && absent r.number rs) (numbered rs) false
    go (inl a) b = rw (lt-ltb r.number 1 a, lt-leb 1 r.number a)
    go (inr a) (inl b) = rw (le-ltb r.number 1 a, le-leb 1 r.number a, lt-ltb 65535 r.number b, lt-leb r.number 65535 b)
    go (inr a) (inr b) = rw (le-ltb r.number 1 a, le-leb 1 r.number a, le-ltb 65535 r.number b, le-leb r.number 65535 b)

pub numbered-stops : (r : Row) (rs : List Row) → is_number r.number && absent r.number rs ≡ false → numbered (r ∷ rs) ≡ false
numbered-stops r rs e = numbered-is r rs ∙ rw e

pub numbered-turn : (r : Row) (rs : List Row) → is_number r.number && absent r.number rs ≡ true → numbered (r ∷ rs) ≡ numbered rs
numbered-turn r rs e = numbered-is r rs ∙ rw e

module _ (size : ℕ) (t : List ℕ) where
  pub sane-short : length t < 97 → false ≡ sane_of size t
  unfolding sane_of
  sane-short h = rw (lt-ltb (length t) 97 h)

  pub sane-is : 97 ≤ length t
      → sane_of size t ≡ (leb (get_or t 0 0) 32 && rising 1 0 size (rows_of t) && numbered (rows_of t))
  unfolding sane_of
  sane-is h = go (cases_lt 32 (get_or t 0 0)) (rising 1 0 size (rows_of t))
    where
      go : (32 < get_or t 0 0) ⊎ (get_or t 0 0 ≤ 32) → (b : Bool)
          → cond (ltb (length t) 97) false (cond (ltb 32 (get_or t 0 0)) false (cond b (numbered (rows_of t)) false))
          ≡ (leb (get_or t 0 0) 32 && b && numbered (rows_of t))
      go (inl a) b = rw (le-ltb (length t) 97 h, lt-ltb 32 (get_or t 0 0) a, lt-leb (get_or t 0 0) 32 a)
      go (inr a) true = rw (le-ltb (length t) 97 h, le-ltb 32 (get_or t 0 0) a, le-leb (get_or t 0 0) 32 a)
      go (inr a) false = rw (le-ltb (length t) 97 h, le-ltb 32 (get_or t 0 0) a, le-leb (get_or t 0 0) 32 a)

  pub sane-ordered : sane_of size t ≡ true → Ordered size t
  unfolding sane_of
  sane-ordered s =
      let a = passed (ltb (length t) 97) _ s in
      let b = passed (ltb 32 (get_or t 0 0)) _ a.1 in
      let c = both (rising 1 0 size (rows_of t)) _ b.1 in
      record { cells = ltb-false _ _ a.0; few = ltb-false _ _ b.0; rises = c.0 }

-- row i of an ordered table
pub row_next : {t : List ℕ} {size : ℕ} (n i : ℕ) {r : Row} → Ordered size t → n ≡ get_or t 0 0 → r ≡ row_at t (1 + 3 * i) → i < n
    → Next 1 (held (rows_at t i 1)) size r
row_next {t} {size} n i o c e h = rw e (rw zero-add at (rising-next t 1 size 0 (get_or t 0 0) 1 i (omega arith) o.rises))
