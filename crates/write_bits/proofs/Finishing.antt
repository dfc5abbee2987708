-- Laws of the end: what is held, filled and stored; and then all is packed.
use Prim.Native.Nat.{ℕ, ◌+◌, ◌*◌, ◌-◌, ◌^◌, ◌/◌, ◌%◌, ◌≤◌, ◌<◌}
use mathlib.Core.Path.{◌≡◌, sym, ap, ◌∙◌}
use mathlib.Core.List.{List, ◌++◌, append-nil, append_assoc}
use native.Mathlib.Omega.{arith}
use native.Mathlib.Numerals.{add-one}
use lib.ListN.{length, get_or, take, drop, set, replicate, length-append, length-set, take-append-drop}
use lib.Seq.{take-suc-set, drop-set-lt, length-take-le}
use Rattle.rules.specs.Bits.{low_bits, bits_of, octets_for, fill_for, pack}
use Rattle.rules.proofs.Octets.{length-low_bits, length-bits_of, bits_of-append, Below, below-append, below_all}
use Rattle.rules.proofs.Octets.{below-take, bits_of-below, low_bits-below, pack-below, bits_of-pack, told-by-bits}
use Rattle.write_bits.specs.declared.pen.Pen.{Pen}
use Rattle.write_bits.specs.Puts.{pen_bits, Able, Puts, Flushes, Packed}
use Rattle.rules.proofs.Words.{low_bits-split, low_bits-mod}
use Rattle.rules.proofs.Lent.{drop-further}
use Rattle.write_scan.proofs.Rows.{zero_bits}

-- a turn of the loop
pub record FlushTurn (o : List ℕ) (word held₀ at₀ : ℕ) (o' : List ℕ) (held at : ℕ) : Type 0 where
  pub says : bits_of (take at o') ++ low_bits held word ≡ bits_of (take at₀ o) ++ low_bits held₀ word
  pub rest : drop at o' ≡ drop at o
  pub size : 8 * at + held ≡ 8 * at₀ + held₀
  pub whole : held % 8 ≡ 0
  pub small : held < 32
  pub same : length o' ≡ length o

pub flush-turn : {o o' : List ℕ} {word held₀ at₀ : ℕ} (held at : ℕ) → FlushTurn o word held₀ at₀ o' held at → 0 < held → at < length o'
    → FlushTurn o word held₀ at₀ (set o' at (word / 2 ^ (held - 8) % 256)) (held - 8) (at + 1)
unfolding bits_of
flush-turn {o} {o'} {word} held at t h room =
    let left = held - 8 in
    let x = word / 2 ^ left % 256 in
    let e : held ≡ 8 + left = omega (arith, t.whole) in
    let cut : low_bits held word ≡ low_bits 8 x ++ low_bits left word =
    ap (λ (k : ℕ). low_bits k word) e ∙ low_bits-split 8 left word
    ∙ ap (λ (l : List ℕ). l ++ low_bits left word) (sym (low_bits-mod 8 0 (word / 2 ^ left))) in
    record {
      says = rw (add-one, take-suc-set o' at x room, bits_of-append, append-nil, append_assoc, ← cut) t.says;
      rest = drop-set-lt (at + 1) o' at x (omega arith) ∙ drop-further o' o at (at + 1) (omega arith) t.rest;
      size = omega (arith, t.size);
      whole = omega (arith, t.whole);
      small = omega (arith, t.small);
      same = length-set o' at x ∙ t.same;
    }

pub flush-done : {o o' : List ℕ} {p : Pen} {held at : ℕ} → held ≤ 0 → FlushTurn o p.word p.held p.at o' held at → Flushes o p o' at
unfolding pen_bits low_bits
flush-done {p = p} {held = held} h t =
    let e : held ≡ 0 = omega arith in
    record { says = sym (append-nil _) ∙ rw e at t.says; rest = t.rest; size = omega (arith, t.size) }

pub length-pen_bits : (o : List ℕ) (p : Pen) → p.at ≤ length o → length (pen_bits o p) ≡ 8 * p.at + p.held
unfolding pen_bits
length-pen_bits o p h = simp (length-append, length-low_bits, length-bits_of) (omega (arith, length-take-le p.at o h))

pub pen_bits-below : (o : List ℕ) (p : Pen) → Below 2 (pen_bits o p)
unfolding pen_bits
pen_bits-below o p = below-append (bits_of-below (take p.at o)) (low_bits-below p.held p.word)

pub finished : {o o₁ o₂ : List ℕ} {p q : Pen} {n : ℕ} (fill : ℕ) → Able o p 0 → fill ≡ (8 - p.held % 8) % 8
    → Puts o p (low_bits fill 0) o₁ q → Flushes o₁ q o₂ n → ((i : ℕ) → get_or o₂ i 0 < 256) → Packed (pen_bits o p) o o₂ n
finished {o} {o₁} {o₂} {p} {q} {n} fill able e put flush octets =
    let b = pen_bits o p in
    let k : length b ≡ 8 * p.at + p.held = length-pen_bits o p (omega (arith, able.room)) in
    let z : 8 * n ≡ 8 * p.at + p.held + fill = omega (arith, flush.size, put.place, length-low_bits fill 0) in
    let s : n ≡ octets_for (length b) = omega arith in
    let f : fill ≡ fill_for (length b) = omega arith in
    let bits : bits_of (take n o₂) ≡ b ++ replicate (fill_for (length b)) 0 =
    flush.says ∙ put.says ∙ ap (λ (l : List ℕ). b ++ l) (zero_bits fill ∙ ap (λ (i : ℕ). replicate i 0) f) in
    let whole : take n o₂ ≡ pack b =
    told-by-bits (below-take n (below_all o₂ octets)) (pack-below (pen_bits-below o p)) (bits ∙ sym (bits_of-pack (pen_bits-below o p))) in
    let past : drop n o₂ ≡ drop n o = flush.rest ∙ drop-further o₁ o q.at n (omega (arith, flush.size)) put.rest in
    record {
      size = s;
      lent = sym (take-append-drop n o₂) ∙ ap (λ (l : List ℕ). l ++ drop n o₂) whole ∙ ap (λ (l : List ℕ). pack b ++ l) past;
    }
