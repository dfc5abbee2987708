-- Laws of putting: a word stored, bits held or stored, and one putting after another.
use Prim.Native.Nat.{ℕ, suc, ◌+◌, ◌*◌, ◌-◌, ◌^◌, ◌/◌, ◌%◌, ◌≤◌, ◌<◌}
use mathlib.Core.Path.{◌≡◌, refl, sym, ap, ◌∙◌}
use mathlib.Core.List.{List, [], ◌++◌, append-nil, append_assoc}
use native.Mathlib.Omega.{arith}
use lib.ListN.{length, take, drop, set, length-append}
use lib.Seq.{sets-eq, take_at, drop_at, length-take-le}
use lib.Pow.{shl_exact}
use Rattle.rules.specs.Bits.{low_bits}
use Rattle.rules.proofs.Lent.{drop-further}
use Rattle.rules.proofs.Octets.{length-low_bits, bits_of-append}
use Rattle.write_bits.specs.declared.pen.Pen.{Pen}
use Rattle.write_bits.specs.Puts.{pen_bits, Able, Puts, Stores}
use Rattle.rules.proofs.Words.{low_bits-split, low_bits-mod, low_bits-join}
use Rattle.write_bits.proofs.Words.{octets_of, bits_of-word}

pub stored : (o : List ℕ) (at w : ℕ) → at + 4 ≤ length o
    → Stores o at w (set (set (set (set o at (w / 2 ^ 24 % 256)) (at + 1) (w / 2 ^ 16 % 256)) (at + 2) (w / 2 ^ 8 % 256))
    (at + 3) (w % 256))
stored o at w h =
    let e = sets-eq (octets_of w) o at h in
    let i₁ : at + 1 ≡ suc at = omega arith in
    let i₂ : at + 2 ≡ suc (suc at) = omega arith in
    let i₃ : at + 3 ≡ suc (suc (suc at)) = omega arith in
    let k : length (take at o ++ octets_of w) ≡ at + 4 = length-append (take at o) (octets_of w)
    ∙ ap (λ (n : ℕ). n + 4) (length-take-le at o (omega arith)) in
    record {
      says = rw (i₁, i₂, i₃, e, take_at (take at o ++ octets_of w) (drop (at + 4) o) (at + 4) k, bits_of-append, bits_of-word);
      rest = rw (i₁, i₂, i₃, e, drop_at (take at o ++ octets_of w) (drop (at + 4) o) (at + 4) k);
    }

-- the word that a pen has after n more bits, as the code counts it
abbrev pub word_after : Pen → ℕ → ℕ → ℕ
word_after p n v = (p.word * 2 ^ n) % 2 ^ 64 + v

module _ (o : List ℕ) (p : Pen) (n v : ℕ) (able : Able o p n) (few : n ≤ 32) (fits : v < 2 ^ n) where
  pub word-is : word_after p n v ≡ p.word * 2 ^ n + v
  word-is = ap (λ (w : ℕ). w + v) (shl_exact 32 n 64 p.small (omega arith))

  -- the bits that are then held
  bits_are : low_bits (p.held + n) (word_after p n v) ≡ low_bits p.held p.word ++ low_bits n v
  bits_are = rw word-is (low_bits-join p.held n p.word v fits)

  low-bits : (k : ℕ) → k < 32 → low_bits k (word_after p n v % 2 ^ 32) ≡ low_bits k (word_after p n v)
  low-bits k h =
      let e : 32 - k + k ≡ 32 = omega arith in
      rw e at (low_bits-mod k (32 - k) (word_after p n v))

  -- the pen after it
  module _ {p' : Pen} (word : p'.word ≡ word_after p n v % 2 ^ 32) where
    pub put-held : p'.held ≡ p.held + n → p'.at ≡ p.at → Puts o p (low_bits n v) o p'
    unfolding pen_bits
    put-held e a =
        let h : p.held + n < 32 = omega (arith, p'.few) in
        record {
          says = rw (word, e, a, low-bits (p.held + n) h, bits_are, append_assoc);
          rest = refl;
          place = rw length-low_bits (omega arith);
          grows = omega arith;
        }

    pub put-stored : (o' : List ℕ) → 32 ≤ p.held + n → p'.held ≡ p.held + n - 32 → p'.at ≡ p.at + 4
        → Stores o p.at (word_after p n v / 2 ^ (p.held + n - 32)) o' → Puts o p (low_bits n v) o' p'
    unfolding pen_bits
    put-stored o' h e a s =
        let left = p.held + n - 32 in
        let all : 32 + left ≡ p.held + n = omega arith in
        let cut : low_bits 32 (word_after p n v / 2 ^ left) ++ low_bits left (word_after p n v) ≡ low_bits p.held p.word ++ low_bits n v =
        sym (low_bits-split 32 left (word_after p n v)) ∙ ap (λ (k : ℕ). low_bits k (word_after p n v)) all ∙ bits_are in
        let few-left : left < 32 = omega (arith, p.few) in
        record {
          says = rw (word, e, a, s.says, low-bits left few-left, append_assoc, cut, append_assoc);
          rest = rw a s.rest;
          place = rw length-low_bits (omega arith);
          grows = omega arith;
        }

-- one putting after another
pub puts_then : {o o' o'' : List ℕ} {p p' p'' : Pen} {a b : List ℕ} → Puts o p a o' p' → Puts o' p' b o'' p'' → Puts o p (a ++ b) o'' p''
puts_then {o} {o'} {o''} {p} {p'} {p''} {a} {b} f g =
    record {
      says = g.says ∙ ap (λ (l : List ℕ). l ++ b) f.says ∙ append_assoc (pen_bits o p) a b;
      rest = g.rest ∙ drop-further o' o p'.at p''.at g.grows f.rest;
      place = rw length-append (omega (arith, f.place, g.place));
      grows = omega (arith, f.grows, g.grows);
    }

-- nothing put
pub puts_none : (o : List ℕ) (p : Pen) → Puts o p [] o p
puts_none o p = record { says = sym (append-nil (pen_bits o p)); rest = refl; place = omega arith; grows = omega arith }

-- what is put, said otherwise
pub puts-as : {o o' : List ℕ} {p p' : Pen} {a b : List ℕ} → Puts o p a o' p' → a ≡ b → Puts o p b o' p'
puts-as {o} {o'} {p} {p'} f e = rw e at f

-- room for less, and room for what follows
pub able-as : {o : List ℕ} {p : Pen} {m k : ℕ} → Able o p m → k ≤ m → Able o p k
able-as a h = record { room = omega (arith, a.room) }

pub able-then : {o o' bits : List ℕ} {p p' : Pen} {m : ℕ} (k : ℕ) → Able o p m → Puts o p bits o' p' → length o' ≡ length o
    → length bits + k ≤ m → Able o' p' k
able-then k a put size h =
    record { room = omega (arith, a.room, put.place) }
