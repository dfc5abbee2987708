-- What greetings read where the block is torn between them (`torn-reads`), and where one of them moves down to the end of those before it
-- (`moved-reads`); the greetings so changed still rise (`moved-rises`) and have their numbers (`moved-distinct`).
use Prim.Native.Nat.{ℕ, ◌+◌, ◌≤◌, ◌<◌}
use mathlib.Core.Path.{◌≡◌, refl, sym, ap, ◌∙◌}
use mathlib.Core.List.{List, [], ◌∷◌, ◌++◌}
use mathlib.Core.Bool.{true}
use native.Mathlib.Omega.{arith}
use lib.ListN.{length, take, drop, length-drop, take-append-drop}
use lib.Seq.{paste, drop-drop, length-take-le}
use Rattle.store_rows.specs.declared.rows.Row.{Row}
use Rattle.store_rows.specs.Rows.{greeting, Kept, contents}
use Rattle.store_rows.specs.Sane.{rising}
use Rattle.store_rows.specs.Changed.{written}
use Rattle.store_rows.specs.Closing.{moved_to}
use Rattle.store_promises.proofs.Rising.{rising-lower, rising-join}
use Rattle.store_promises.proofs.Numbers.{Fresh, Distinct}
use Rattle.store_promises.proofs.Contents.{kept, contents-append, contents-cons, below-reads, above-reads, own-part}
use Rattle.store_moves.specs.Moves.{Torn}
use Rattle.store_moves.proofs.Stepping.{laid-paste}

-- a block that is torn somewhere is the block with some octets written there
pub torn-written : {at n : ℕ} {b b' : List ℕ} → at + n ≤ length b → Torn at n b b' → b' ≡ written b at (take n (drop at b'))
unfolding written
torn-written {at} {n} {b} {b'} h t =
    let size = t.size in
    let l : length (take n (drop at b')) ≡ n = length-take-le n (drop at b') (omega (arith, length-drop at b')) in
    let d : drop n (drop at b') ≡ drop (at + n) b = drop-drop n at b' ∙ t.behind in
    sym (take-append-drop at b') ∙ ap (λ (x : List ℕ). x ++ drop at b') t.before
    ∙ ap (λ (x : List ℕ). take at b ++ x) (sym (take-append-drop n (drop at b')) ∙ ap (λ (x : List ℕ). take n (drop at b') ++ x) d)
    ∙ ap (λ (k : ℕ). take at b ++ (take n (drop at b') ++ drop (at + k) b)) (sym l)

-- greetings below a place and above another
pub written-reads : (b xs : List ℕ) (at size : ℕ) (pre post : List Row) → at + length xs ≤ length b → rising 1 0 at pre ≡ true
    → rising 1 (at + length xs) size post ≡ true → contents (written b at xs) (pre ++ post) ≡ contents b (pre ++ post)
written-reads b xs at size pre post h f g =
    contents-append (written b at xs) pre post
    ∙ rw (below-reads b xs at h pre 0 f, above-reads b xs at h post (at + length xs) size (omega arith) g)
    (sym (contents-append b pre post))

pub torn-reads : {at n : ℕ} {b b' : List ℕ} (size : ℕ) (pre post : List Row) → at + n ≤ length b → Torn at n b b'
    → rising 1 0 at pre ≡ true → rising 1 (at + n) size post ≡ true → contents b' (pre ++ post) ≡ contents b (pre ++ post)
torn-reads {at} {n} {b} {b'} size pre post h t f g =
    let xs = take n (drop at b') in
    let size_is = t.size in
    let l : length xs ≡ n = length-take-le n (drop at b') (omega (arith, length-drop at b')) in
    ap (λ (x : List ℕ). contents x (pre ++ post)) (torn-written h t)
    ∙ written-reads b xs at size pre post (omega arith) f (rw l g)

-- a greeting moved down
module _ (b : List ℕ) (size to : ℕ) (pre : List Row) (r : Row) (post : List Row) (d : to < r.start) (i : r.start + r.octets ≤ size)
    (s : size ≤ length b) (o : 1 ≤ r.octets) (f : rising 1 0 to pre ≡ true) (g : rising 1 (r.start + r.octets) size post ≡ true) where
  pub moved-rises : rising 1 0 size (pre ++ (moved_to to r ∷ post)) ≡ true
  moved-rises =
      rising-join pre (moved_to to r) post 0 size o (omega arith) (omega arith) f
      (rising-lower (to + r.octets) (r.start + r.octets) size post (omega arith) g)

  pub moved-reads : contents (paste b to (drop r.start b) r.octets) (pre ++ (moved_to to r ∷ post)) ≡ contents b (pre ++ (r ∷ post))
  moved-reads =
      let xs = greeting b r in
      let l : length xs ≡ r.octets = length-take-le r.octets (drop r.start b) (omega (arith, length-drop r.start b)) in
      let w = written b to xs in
      let e : w ≡ paste b to (drop r.start b) r.octets =
      laid-paste b (drop r.start b) to r.octets (omega (arith, length-drop r.start b)) refl refl in
      let h : to + length xs ≤ length b = omega (arith, l) in
      let own : greeting w (moved_to to r) ≡ xs = ap (λ (k : ℕ). take k (drop to w)) (sym l) ∙ own-part b xs to h in
      ap (λ (x : List ℕ). contents x (pre ++ (moved_to to r ∷ post))) (sym e) ∙ contents-append w pre (moved_to to r ∷ post)
      ∙ ap (λ (x : List Kept). x ++ contents w (moved_to to r ∷ post)) (below-reads b xs to h pre 0 f)
      ∙ ap (λ (x : List Kept). contents b pre ++ x) (contents-cons w (moved_to to r) post
      ∙ ap (λ (x : List ℕ). kept r.number x ∷ contents w post) own
      ∙ ap (λ (x : List Kept). kept r.number xs ∷ x)
      (above-reads b xs to h post (r.start + r.octets) size (omega (arith, l)) g) ∙ sym (contents-cons b r post))
      ∙ sym (contents-append b pre (r ∷ post))

fresh-moved : (x to : ℕ) (pre : List Row) (r : Row) (post : List Row) → Fresh x (pre ++ (r ∷ post)) → Fresh x (pre ++ (moved_to to r ∷ post))
unfolding Fresh
fresh-moved x to [] r post f = f
fresh-moved x to (a ∷ pre) r post f = (f.0, fresh-moved x to pre r post f.1)

pub moved-distinct : (to : ℕ) (pre : List Row) (r : Row) (post : List Row) → Distinct (pre ++ (r ∷ post))
    → Distinct (pre ++ (moved_to to r ∷ post))
unfolding Distinct
moved-distinct to [] r post d = d
moved-distinct to (a ∷ pre) r post d = (d.0, d.1, fresh-moved a.number to pre r post d.2, moved-distinct to pre r post d.3)
