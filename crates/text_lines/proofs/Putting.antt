-- Text put at a place (specs/Puts): a word that is copied (puts_word), one text after another (puts_then), and a text at the start
-- (puts_first).
use Prim.Native.Nat.{ℕ, ◌+◌, ◌-◌, ◌≤◌}
use mathlib.Core.Path.{◌≡◌, refl, sym, ap, ◌∙◌}
use mathlib.Core.List.{List, ◌++◌, append_assoc}
use native.Mathlib.Omega.{arith}
use lib.ListN.{length, take, drop, length-append, take-append-drop}
use lib.Seq.{paste, take-paste, drop-paste, length-paste, take-length, drop-drop}
use Rattle.rules.specs.Calls.{at_start}
use Rattle.text_lines.specs.Puts.{Puts}

pub puts_word : (out word out' : List ℕ) (at n : ℕ) → at + length word ≤ length out → n ≡ length word → out' ≡ paste out at word n
    → Puts out at word out' (at + n)
puts_word out word out' at n h l e =
    record {
      says = rw (e, take-paste out at word n (omega arith) (omega arith), l, take-length);
      rest = rw e (drop-paste out at word n (omega arith) (omega arith));
      place = ap (λ (k : ℕ). at + k) l;
      size = rw e (length-paste out at word n (omega arith) (omega arith));
    }

-- what is as lent from a place on is so from any later place on
later : (a b : List ℕ) (m n : ℕ) → m ≤ n → drop m a ≡ drop m b → drop n a ≡ drop n b
later a b m n h e =
    let k : n ≡ m + (n - m) = omega arith in
    rw (k, ← drop-drop (n - m) m a, ← drop-drop (n - m) m b, e)

-- one text after another
pub puts_then : {o o' o'' x y : List ℕ} {at b c : ℕ} → Puts o at x o' b → Puts o' b y o'' c → Puts o at (x ++ y) o'' c
puts_then {o} {o'} {o''} {x} {y} {at} {b} {c} p q =
    record {
      says = q.says ∙ ap (λ (l : List ℕ). l ++ y) p.says ∙ append_assoc (take at o) x y;
      rest = q.rest ∙ later o' o b c (omega (arith, q.place)) p.rest;
      place = omega (arith, q.place, p.place, length-append x y);
      size = q.size ∙ p.size;
    }

pub puts-as : {o o' x y : List ℕ} {at b : ℕ} → x ≡ y → Puts o at x o' b → Puts o at y o' b
puts-as e p = rw (← e) p

-- what is put at the start
pub puts_first : {out x out' : List ℕ} {n : ℕ} → Puts out 0 x out' n → out' ≡ at_start x out
puts_first {out} {x} {out'} {n} p =
    let e : n ≡ length x = omega (arith, p.place) in
    sym (take-append-drop n out') ∙ rw (p.says, p.rest, e) refl
