-- Laws of putting Rice codes.
use Prim.Native.Nat.{ℕ, suc, ◌+◌, ◌*◌, ◌-◌, ◌^◌, ◌/◌, ◌%◌, ◌≤◌, ◌<◌}
use mathlib.Core.Path.{◌≡◌, refl, ap, ◌∙◌}
use mathlib.Core.List.{List, [], ◌∷◌, ◌++◌, append_assoc}
use native.Mathlib.Omega.{arith}
use native.Mathlib.Nat.{zero-add, mod-lt, pow-suc}
use lib.Dec.{lit<}
use lib.ListN.{length, get_or, take, replicate, length-append, replicate-append-replicate}
use lib.Pow.{pow_pos, pow_mono}
use lib.Seq.{take-length}
use Rattle.rules.specs.Bits.{low_bits}
use Rattle.rules.specs.Runs.{rice_form, rice_forms}
use Rattle.write_bits.specs.declared.pen.Pen.{Pen}
use Rattle.write_bits.specs.Puts.{Able, Puts}
use Rattle.rules.proofs.Words.{low_bits-mod, low_bits-join}
use Rattle.write_bits.proofs.Putting.{puts_none, puts_then, puts-as, able-then}
use Rattle.write_measure.proofs.Rice.{forms-le, forms-suc}
use Rattle.write_scan.proofs.Rows.{zero_bits}

-- a turn of the loop: so many zeros are still to come
pub record ZerosTurn (o : List ℕ) (v : ℕ) (p : Pen) (o' : List ℕ) (p' : Pen) (zeros : ℕ) : Type 0 where
  pub puts : Puts o p (replicate (v - zeros) 0) o' p'
  pub left : zeros ≤ v
  pub size : length o' ≡ length o

zeros-join : (k n : ℕ) {m : ℕ} → k + n ≡ m → replicate k 0 ++ low_bits n 0 ≡ replicate m 0
zeros-join k n e = rw (zero_bits n, replicate-append-replicate {A = ℕ} k n 0, e)

module _ {o o' : List ℕ} {v : ℕ} {p p' : Pen} {zeros : ℕ} (turn : ZerosTurn o v p o' p' zeros) where
  pub zeros-then : (n : ℕ) → n ≤ zeros → {o'' : List ℕ} {p'' : Pen} → Puts o' p' (low_bits n 0) o'' p'' → length o'' ≡ length o'
      → ZerosTurn o v p o'' p'' (zeros - n)
  zeros-then n few put size =
      let f = zeros-join (v - zeros) n {m = v - (zeros - n)} (omega (arith, turn.left)) in
      record { puts = puts-as (puts_then turn.puts put) f; left = omega (arith, turn.left); size = size ∙ turn.size }

  pub zeros-done : {o'' : List ℕ} {p'' : Pen} → Puts o' p' (low_bits zeros 0) o'' p'' → length o'' ≡ length o' → Puts o p (replicate v 0) o'' p''
  zeros-done put size =
      let e : v - (zeros - zeros) ≡ v = omega arith in
      rw e at (zeros-then zeros (omega arith) put size).puts

pub rice-fits : (k s v : ℕ) {one : ℕ} → one ≡ 2 ^ s → one + v % one < 2 ^ (k + 1 + s)
rice-fits k s v e =
    let m = mod-lt v (pow_pos s) in
    let b : 2 ^ suc s ≤ 2 ^ (k + 1 + s) = pow_mono {j = k + 1 + s} (omega arith) in
    let f : 2 ^ suc s ≡ 2 ^ s * 2 = pow-suc 2 s in
    rw e (omega arith)

-- the last of a Rice code: k zeros, the one, and the low bits
rice-end : (k s v : ℕ) {one : ℕ} → one ≡ 2 ^ s → low_bits (k + 1 + s) (one + v % one) ≡ replicate k 0 ++ (1 ∷ low_bits s v)
unfolding low_bits
rice-end k s v e =
    let a : 2 ^ s + v % 2 ^ s ≡ 1 * 2 ^ s + v % 2 ^ s = omega arith in
    let b : low_bits (k + 1) 1 ≡ replicate k 0 ++ (1 ∷ []) = low_bits-join k 1 0 1 (lit< tt)
    ∙ ap (λ (l : List ℕ). l ++ (1 ∷ [])) (zero_bits k) in
    let d : low_bits s (v % 2 ^ s) ≡ low_bits s v = rw zero-add at (low_bits-mod s 0 v) in
    rw (e, a, low_bits-join (k + 1) s 1 (v % 2 ^ s) (mod-lt v (pow_pos s)), b, d, append_assoc)

pub rice-short : (s v : ℕ) {o o' : List ℕ} {p p' : Pen} {one : ℕ} → one ≡ 2 ^ s
    → Puts o p (low_bits (v / 2 ^ s + 1 + s) (one + v % one)) o' p' → Puts o p (rice_form s v) o' p'
unfolding rice_form
rice-short s v e put = puts-as put (rice-end (v / 2 ^ s) s v e)

pub rice-long : (s v : ℕ) {o o' o'' : List ℕ} {p p' p'' : Pen} {one : ℕ} → one ≡ 2 ^ s → Puts o p (replicate (v / 2 ^ s) 0) o' p'
    → Puts o' p' (low_bits (1 + s) (one + v % one)) o'' p'' → Puts o p (rice_form s v) o'' p''
unfolding rice_form
rice-long s v e zeros put =
    puts_then zeros (puts-as put (rice-end 0 s v e))

-- the runs done, and one more
pub record RunsTurn (o : List ℕ) (p : Pen) (s : ℕ) (runs o' : List ℕ) (p' : Pen) (j : ℕ) : Type 0 where
  pub puts : Puts o p (rice_forms s (take j runs)) o' p'
  pub size : length o' ≡ length o

module _ {o o' runs : List ℕ} {p p' : Pen} {s j : ℕ} (turn : RunsTurn o p s runs o' p' j) (h : j < length runs) where
  pub runs-able : Able o p (length (rice_forms s runs)) → {v : ℕ} → v ≡ get_or runs j 0 → Able o' p' (length (rice_form s v))
  runs-able able e =
      let a = rw (take-length runs) at (forms-le s runs (j + 1) (length runs) (omega arith)) in
      let b = ap length (forms-suc s runs j h) ∙ length-append (rice_forms s (take j runs)) (rice_form s (get_or runs j 0)) in
      rw e (able-then _ able turn.puts turn.size (omega arith))

  pub runs_then : {v : ℕ} → v ≡ get_or runs j 0 → {o'' : List ℕ} {p'' : Pen} → Puts o' p' (rice_form s v) o'' p'' → length o'' ≡ length o'
      → RunsTurn o p s runs o'' p'' (j + 1)
  runs_then e put size =
      record { puts = rw (forms-suc s runs j h) (puts_then turn.puts (rw e at put)); size = size ∙ turn.size }

pub runs_none : (o : List ℕ) (p : Pen) (s : ℕ) (runs : List ℕ) → RunsTurn o p s runs o p 0
unfolding rice_forms
runs_none o p s runs = record { puts = puts_none o p; size = refl }
