-- Reading undoes writing (Back), and nothing else reads so: the few laws of which every text's are made.
use Prim.Native.Nat.{ℕ, ◌+◌, ◌^◌, ◌≤◌, ◌<◌}
use mathlib.Core.Path.{◌≡◌, refl, sym, ap, ◌∙◌}
use mathlib.Core.List.{List, [], ◌∷◌, ◌++◌, append_assoc, append-nil}
use mathlib.Core.Bool.{Bool, true, false, cond}
use native.Mathlib.Omega.{arith}
use lib.ListN.{length, drop, length-append, drop_of_length-le}
use lib.Seq.{drop-drop, drop_at}
use lib.Dec.{eqb, leb}
use borrow.Author.Tests.{eq-eqb, eqb-true, le-leb, leb-true}
use Rattle.rules.specs.Listing.{decimal, line_end}
use Rattle.rules.proofs.Tests.{and_left, and_right}
use Rattle.text_keyvalue.specs.Reading.{Read, whole, none, Reader, and_then, ◌>>=◌, give, ended, begins, after, is_digit, number}
use Rattle.text_keyvalue.specs.Lines.{line_of, line, ranged, is_within}
use Rattle.text_keyvalue.proofs.Decimals.{decimal-back, decimal-only}

-- what follows a text that stands at a place
pub onward : (text w rest : List ℕ) (i : ℕ) → drop i text ≡ w ++ rest → drop (i + length w) text ≡ rest
onward text w rest i e = sym (drop-drop (length w) i text) ∙ ap (drop (length w)) e ∙ drop_at w rest (length w) refl

-- p reads w as v, whatever stands before and after, and goes exactly as far
pub record Back {A : Type 0} (p : Reader A) (w : List ℕ) (v : A) : Type 0 where
  pub reads : (text : List ℕ) (i : ℕ) (rest : List ℕ) → drop i text ≡ w ++ rest → p text i ≡ whole v (i + length w)

pub back-give : {A : Type 0} (v : A) → Back (give v) [] v
back-give v = record { reads = λ text i rest e. ap (whole v) (omega arith) }

pub back-bind : {A B : Type 0} (p : Reader A) (f : A → Reader B) {a b : List ℕ} {v : A} {w : B} → Back p a v → Back (f v) b w
    → Back (p >>= f) (a ++ b) w
back-bind p f {a} {b} {v} {w} pa fb = record {
  reads = λ text i rest e.
      let e' : drop i text ≡ a ++ (b ++ rest) = e ∙ append_assoc a b rest in
      let n : i + length (a ++ b) ≡ i + length a + length b = simp length-append (omega arith) in
      rw (pa.reads text i (b ++ rest) e', n) (fb.reads text (i + length a) rest (onward text a (b ++ rest) i e'));
}

-- the last step gives the value
pub back_last : {A B : Type 0} (p : Reader A) (f : A → B) {a : List ℕ} {v : A} → Back p a v → Back (p >>= λ x. give (f x)) a (f v)
back_last p f {a} {v} pa = record { reads = λ text i rest e. rw (pa.reads text i rest e) }

-- and nothing after it
pub back_alone : {A : Type 0} (p : Reader A) {w : List ℕ} {v : A} → Back p w v → (p >>= ended) w 0 ≡ whole v (length w)
back_alone p {w} {v} b =
    let z : 0 + length w ≡ length w = omega arith in
    rw (b.reads w 0 [] (sym (append-nil w)), z, le-leb (length w) (length w) (omega arith))

begins-back : (word rest : List ℕ) → begins word (word ++ rest) ≡ true
unfolding begins
begins-back [] rest = refl
begins-back (x ∷ word) rest = rw (eq-eqb x x refl) (begins-back word rest)

pub back-after : {A : Type 0} (word : List ℕ) (p : Reader A) {w : List ℕ} {v : A} → Back p w v → Back (after word p) (word ++ w) v
back-after word p {w} {v} b = record {
  reads = λ text i rest e.
      let e' : drop i text ≡ word ++ (w ++ rest) = e ∙ append_assoc word w rest in
      let n : i + length (word ++ w) ≡ i + length word + length w = simp length-append (omega arith) in
      rw (e', begins-back word (w ++ rest), n) (b.reads text (i + length word) rest (onward text word (w ++ rest) i e'));
}

-- a number ends where no digit stands
pub back-number : {B : Type 0} (f : ℕ → Reader B) (n x : ℕ) {w : List ℕ} {v : B} → n < 10 ^ 20 → is_digit x ≡ false
    → Back (f n) (x ∷ w) v → Back (number >>= f) (decimal n ++ (x ∷ w)) v
unfolding number
back-number f n x {w} {v} h d b = record {
  reads = λ text i rest e.
      let e' : drop i text ≡ decimal n ++ (x ∷ (w ++ rest)) = e ∙ append_assoc (decimal n) (x ∷ w) rest in
      let m : i + length (decimal n ++ (x ∷ w)) ≡ i + length (decimal n) + length (x ∷ w) =
      rw (length-append (decimal n) (x ∷ w)) (omega arith) in
      let r : number text i ≡ whole n (i + length (decimal n)) = rw e' (decimal-back n i (x ∷ (w ++ rest)) h d) in
      rw (r, m) (b.reads text (i + length (decimal n)) rest (onward text (decimal n) (x ∷ (w ++ rest)) i e'));
}

pub back-line : (key : List ℕ) (n : ℕ) → n < 10 ^ 20 → Back (line key) (line_of key n) n
unfolding line line_of
back-line key n h = rw (append_assoc key (decimal n) line_end)
    (back-after key _ (back-number _ n 10 h refl (back-after line_end (give n) (back-give n))))

pub back-ranged : (key : List ℕ) (low high n : ℕ) → n < 10 ^ 20 → low ≤ n → n ≤ high → Back (ranged key low high) (line_of key n) n
unfolding ranged
back-ranged key low high n h a b = rw (← (append-nil (line_of key n))) (back-bind (line key) _ (back-line key n h) here)
  where
    here : Back (λ text i. cond (is_within low high n) (whole n i) none) [] n
    here = record { reads = λ text i rest e. rw (le-leb low n a, le-leb n high b) (ap (whole n) (omega arith)) }

-- what a reading in two steps went through
pub record Through {A B : Type 0} (r : Read A) (f : A → ℕ → Read B) (v : B) (j : ℕ) : Type 0 where
  pub value : A
  pub place : ℕ
  pub first : r ≡ whole value place
  pub then : f value place ≡ whole v j

pub through : {A B : Type 0} (r : Read A) (f : A → ℕ → Read B) {v : B} {j : ℕ} → and_then r f ≡ whole v j → Through r f v j
through (whole a i) f e = record { value = a; place = i; first = refl; then = e }
through none f e = let z : ◌≡◌ {A = ℕ} 0 1 = cc in absurd (omega arith)

pub got-value : {A : Type 0} {v w : A} {i j : ℕ} → whole v i ≡ whole w j → v ≡ w
got-value e = cc

pub got-place : {A : Type 0} {v w : A} {i j : ℕ} → whole v i ≡ whole w j → i ≡ j
got-place e = cc

-- a test that was passed
pub passed : {A : Type 0} (t : Bool) (r : Read A) {v : A} {j : ℕ} → cond t r none ≡ whole v j → (t ≡ true) × (r ≡ whole v j)
passed true r e = (refl, e)
passed false r e = let z : ◌≡◌ {A = ℕ} 0 1 = cc in absurd (omega arith)

begins-only : (word text : List ℕ) → begins word text ≡ true → text ≡ word ++ drop (length word) text
unfolding begins
begins-only [] text e = refl
begins-only (x ∷ word) [] e = let z : ◌≡◌ {A = ℕ} 0 1 = cc in absurd (omega arith)
begins-only (x ∷ word) (y ∷ text) e =
    let a = eqb-true x y (and_left (eqb x y) (begins word text) e) in
    rw (← a) (ap (λ (l : List ℕ). x ∷ l) (begins-only word text (and_right (eqb x y) (begins word text) e)))

-- w stands at place i of a text, up to place j
pub record Stands (text : List ℕ) (i : ℕ) (w : List ℕ) (j : ℕ) : Type 0 where
  pub says : drop i text ≡ w ++ drop j text

-- one text after another
pub chain : {text a b : List ℕ} {i j k : ℕ} → Stands text i a j → Stands text j b k → Stands text i (a ++ b) k
chain {text} {a} {b} {i} {j} {k} e f =
    record { says = e.says ∙ ap (λ (l : List ℕ). a ++ l) f.says ∙ sym (append_assoc a b (drop k text)) }

pub stands-alone : {text w : List ℕ} {j : ℕ} → Stands text 0 w j → length text ≤ j → text ≡ w
stands-alone {text} {w} {j} e h = e.says ∙ rw (drop_of_length-le text h, append-nil)

pub word-only : (word text : List ℕ) (i : ℕ) → begins word (drop i text) ≡ true → Stands text i word (i + length word)
word-only word text i e =
    record { says = begins-only word (drop i text) e ∙ ap (λ (l : List ℕ). word ++ l) (drop-drop (length word) i text) }

pub number-only : (text : List ℕ) (i n j : ℕ) → n < 10 ^ 20 → number text i ≡ whole n j → Stands text i (decimal n) j
unfolding number
number-only text i n j h e =
    let w = decimal-only i (drop i text) n j h e in
    let r = ap (λ (k : ℕ). drop k text) w.place ∙ onward text (decimal n) w.rest i w.parts in
    record { says = w.parts ∙ ap (λ (l : List ℕ). decimal n ++ l) (sym r) }

pub line-only : (key text : List ℕ) (i n j : ℕ) → n < 10 ^ 20 → line key text i ≡ whole n j → Stands text i (line_of key n) j
unfolding line line_of
line-only key text i n j h e =
    let k = passed (begins key (drop i text)) _ e in
    let m = through (number text (i + length key)) _ k.1 in
    let o = passed (begins line_end (drop m.place text)) (whole m.value (m.place + 1)) m.then in
    let a : m.value ≡ n = cc in
    let b : m.place + 1 ≡ j = cc in
    let r = number-only text (i + length key) n m.place h (m.first ∙ ap (λ (v : ℕ). whole v m.place) a) in
    rw (← b) (chain (chain (word-only key text i k.0) r) (word-only line_end text m.place o.0))

pub record InRange (key text : List ℕ) (low high i n j : ℕ) : Type 0 where
  pub least : low ≤ n
  pub most : n ≤ high
  pub says : Stands text i (line_of key n) j

pub ranged-only : (key : List ℕ) (low high : ℕ) (text : List ℕ) (i n j : ℕ) → high < 10 ^ 20 → ranged key low high text i ≡ whole n j
    → InRange key text low high i n j
unfolding ranged
ranged-only key low high text i n j h e =
    let m = through (line key text i) _ e in
    let o = passed (is_within low high m.value) (whole m.value m.place) m.then in
    let a : m.value ≡ n = cc in
    let b : m.place ≡ j = cc in
    let p = leb-true low m.value (and_left (leb low m.value) (leb m.value high) o.0) in
    let q = leb-true m.value high (and_right (leb low m.value) (leb m.value high) o.0) in
    record {
      least = omega arith;
      most = omega arith;
      says = rw (a, b) at (line-only key text i m.value m.place (omega arith) m.first);
    }
