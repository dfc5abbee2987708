-- The filling (specs/Mend): frames of one octet put one after another (`put-done`), the five lengths as the code puts them (`filling-is`),
-- and how many octets they are (`filling-length`, `filling-few`).
use Prim.Native.Nat.{ℕ, ◌+◌, ◌-◌, ◌*◌, ◌/◌, ◌%◌, ◌≤◌}
use native.Mathlib.Omega.{arith}
use mathlib.Core.Path.{◌≡◌, sym, ap, ◌∙◌}
use mathlib.Core.List.{List, ◌++◌, append-nil}
use lib.ListN.{length, take, drop, replicate, length-append, length-replicate, length-take, length-drop}
use Rattle.rules.specs.First.{base_of}
use borrow.Rule.Slice.PartMut.{put_mid}
use Rattle.std.proofs.lemmas.Slice.{put_mid-paste}
use Rattle.text_lines.specs.Puts.{Puts}
use Rattle.text_lines.proofs.Putting.{puts_word, puts_then, puts-as}
use Rattle.mending.specs.Mend.{fill_by, filling}

pub put-done : {out ys : List ℕ} {at : ℕ} (count octet : ℕ) → at + count ≤ length out
    → ys ≡ replicate (length (take (at + count - at) (drop at out))) octet
    → Puts out at (replicate count octet) (put_mid at (at + count - at) out ys) (at + count)
put-done {out} {ys} {at} count octet h e =
    let z = replicate count octet in
    let l = length-replicate count octet in
    let n : length (take (at + count - at) (drop at out)) ≡ count = simp (length-take, length-drop) (omega arith) in
    puts_word out z _ at count (omega arith) (sym l)
    (put_mid-paste at (at + count - at) out ys z count (e ∙ ap (λ k. replicate k octet) n) (omega arith) (sym l))

-- each length as often as it fits in what the longer ones leave
abbrev pub by320 : ℕ → ℕ
by320 left = left / 320

abbrev pub by240 : ℕ → ℕ
by240 left = left % 320 / 240

abbrev pub by160 : ℕ → ℕ
by160 left = left % 320 % 240 / 160

abbrev pub by80 : ℕ → ℕ
by80 left = left % 320 % 240 % 160 / 80

abbrev pub by40 : ℕ → ℕ
by40 left = left % 320 % 240 % 160 % 80 / 40

pub filling-is : (left : ℕ) → replicate (by320 left)
    0x31 ++ (replicate (by240 left) 0x21 ++ (replicate (by160 left) 0xC1 ++ (replicate (by80 left) 0x81 ++ replicate
    (by40 left) 0x41)))
    ≡ filling left
unfolding fill_by base_of
filling-is left =
    ap (λ (x : List ℕ). replicate (by320 left)
    0x31 ++ (replicate (by240 left) 0x21 ++ (replicate (by160 left) 0xC1 ++ (replicate (by80 left) 0x81 ++ x))))
    (sym (append-nil (replicate (by40 left) 0x41)))

pub filling-length : (left : ℕ) → length (filling left) ≡ by320 left + by240 left + by160 left + by80 left + by40 left
filling-length left =
    ap length (sym (filling-is left)) ∙ simp (length-append, length-replicate) (omega arith)

-- each frame fills 40 samples or more
few : (l r s t u v a b c d e : ℕ) → l ≡ 320 * a + r → r ≡ 240 * b + s → s ≡ 160 * c + t → t ≡ 80 * d + u → u ≡ 40 * e + v
    → 40 * (a + b + c + d + e) ≤ l
few l r s t u v a b c d e g h i j k = omega arith

pub filling-few : (left : ℕ) → 40 * length (filling left) ≤ left
filling-few left =
    let r = left % 320 in
    let s = r % 240 in
    let t = s % 160 in
    let u = t % 80 in
    rw (filling-length left)
    (few left r s t u (u % 40) (left / 320) (r / 240) (s / 160) (t / 80) (u / 40) (omega arith) (omega arith) (omega arith)
    (omega arith) (omega arith))

-- the room that is left behind them
pub room-on : {o o' : List ℕ} {at next : ℕ} (count octet more : ℕ) → Puts o at (replicate count octet) o' next
    → at + (count + more) ≤ length o → next + more ≤ length o'
room-on count octet more p h = omega (arith, p.place, p.size, length-replicate count octet)

pub room-first : (left at room : ℕ) → at + length (filling left) ≤ room
    → at + (by320 left + (by240 left + (by160 left + (by80 left + by40 left)))) ≤ room
room-first left at room h = omega (arith, filling-length left)

-- one length after another
pub fills : {o a b c d e : List ℕ} {at i j k l m : ℕ} (left : ℕ)
    → Puts o at (replicate (by320 left) 0x31) a i → Puts a i (replicate (by240 left) 0x21) b j → Puts b j (replicate (by160 left) 0xC1) c k
    → Puts c k (replicate (by80 left) 0x81) d l → Puts d l (replicate (by40 left) 0x41) e m → Puts o at (filling left) e m
fills left p q r s t = puts-as (filling-is left) (puts_then p (puts_then q (puts_then r (puts_then s t))))
