-- Octets written over a part of a block (`hop-all`, `all-written`), and many moved down after others (`shift-on`, `shift_rest`).
use Prim.Native.Nat.{ℕ, ◌+◌, ◌-◌, ◌≤◌}
use mathlib.Core.Path.{◌≡◌, sym, ap, ◌∙◌}
use mathlib.Core.List.{List, ◌++◌, append_assoc}
use native.Mathlib.Omega.{arith}
use borrow.Rule.Slice.PartMut.{put_mid}
use lib.ListN.{length, take, drop, length-drop}
use lib.Seq.{paste, take-paste, drop-paste, length-paste, drop-drop, take-add}
use Rattle.store_rows.specs.Changed.{written}
use Rattle.store_rows.proofs.Lists.{same_drop}
use Rattle.store_rows.proofs.Shifting.{Shifting}

-- octets written over a part of a block
pub hop-all : {k' : ℕ} {ys : List ℕ} (b src : List ℕ) (to k : ℕ) → ys ≡ take k src → k' ≡ k → put_mid to k' b ys ≡ paste b to src k
hop-all b src to k e f = rw (e, f, drop-drop k to b) (sym (append_assoc (take to b) (take k src) (drop (to + k) b)))

pub all-written : {k : ℕ} {ys xs : List ℕ} (b : List ℕ) (at : ℕ) → ys ≡ xs → k ≡ length xs → put_mid at k b ys ≡ written b at xs
unfolding written
all-written {xs = xs} b at e f = rw (e, f, drop-drop (length xs) at b)

-- k octets more
pub shift-on : {b b' b'' : List ℕ} {from to n i : ℕ} (k : ℕ) → Shifting b from to n i b'
    → b'' ≡ paste b' (to + i) (drop (from + i) b') k → to ≤ from → from + n ≤ length b → i + k ≤ n → Shifting b from to n (i + k) b''
shift-on {b} {b'} {b''} {from} {to} {n} {i} k s m h f g =
    let src = drop from b in
    let l = length-drop from b in
    let d : drop (to + i) b' ≡ drop (to + i) b =
    ap (λ (x : List ℕ). drop (to + i) x) s.is ∙ drop-paste b to src i (omega arith) (omega arith)
    in
    let u : take (to + i) b' ≡ take to b ++ take i src =
    ap (λ (x : List ℕ). take (to + i) x) s.is ∙ take-paste b to src i (omega arith) (omega arith)
    in
    let c : drop (from + i) b' ≡ drop i src = same_drop (to + i) (from + i) b' b d (omega arith) ∙ sym (drop-drop i from b) in
    let far : to + i + k ≡ to + (i + k) = omega arith in
    let rest : drop (to + i + k) b' ≡ drop (to + (i + k)) b =
    ap (λ (x : ℕ). drop x b') far ∙ same_drop (to + i) (to + (i + k)) b' b d (omega arith)
    in
    let end = drop (to + (i + k)) b in
    let e : b'' ≡ paste b to src (i + k) =
    m ∙ ap (λ (x : List ℕ). (x ++ take k (drop (from + i) b')) ++ drop (to + i + k) b') u
    ∙ ap (λ (x : List ℕ). ((take to b ++ take i src) ++ take k x) ++ drop (to + i + k) b') c
    ∙ ap (λ (x : List ℕ). ((take to b ++ take i src) ++ take k (drop i src)) ++ x) rest
    ∙ ap (λ (x : List ℕ). x ++ end) (append_assoc (take to b) (take i src) (take k (drop i src))
    ∙ ap (λ (x : List ℕ). take to b ++ x) (sym (take-add i k src)))
    in
    record {
      is = e;
      within = g;
      size = ap length e ∙ length-paste b to src (i + k) (omega arith) (omega arith);
    }

-- all that are left
pub shift_rest : {b' b'' : List ℕ} (b : List ℕ) (from to n i : ℕ) → b' ≡ paste b to (drop from b) i
    → length b' ≡ length b → to ≤ from → from + n ≤ length b → i ≤ n
    → b'' ≡ paste b' (to + i) (drop (from + i) b') (n - i) → b'' ≡ paste b to (drop from b) n
shift_rest {b'} b from to n i s l h f g e =
    let done : Shifting b from to n i b' = record { is = s; within = g; size = l } in
    let all : i + (n - i) ≡ n = omega arith in
    (shift-on (n - i) done e h f (omega arith)).is ∙ ap (λ (x : ℕ). paste b to (drop from b) x) all
