-- R-7 of whole frames: the bit that a refusal gives is the first bit of what document 02 names: the run's code (`run-bit`), the listed place,
-- or tool 11's V (`place-bit`), the method (`method-bit`), the wrong filling bit (`align-bit`); the range case, and so bit 8 (`case-bit`,
-- `case-eight`). What is read at that bit, and what is wrong with it, say the records of Names: the first octet and all bits before that bit
-- being as they are, whatever follows, the frame's reading comes to that item there.
use Prim.Native.Nat.{ℕ, ◌+◌, ◌*◌, ◌≤◌, max}
use native.Mathlib.Omega.{arith}
use mathlib.Core.Path.{◌≡◌, refl, sym, ap, subst, ◌∙◌}
use mathlib.Core.List.{List, [], ◌∷◌, ◌++◌, map, append-nil}
use mathlib.Core.Bool.{Bool, true, false, cond, not, false≢true}
use lib.ListN.{length, get_or, take, replicate}
use lib.Dec.{eqb, ltb}
use Rattle.rules.specs.declared.Refusal.{Refusal}
use Rattle.rules.specs.declared.Refusal.TheVariants.{Short, Prefix, Tool, Room, Case, Method, Run, Place, Align, Length, Set, Law, Long}
use Rattle.rules.specs.Tools.{holds}
use Rattle.rules.specs.Bits.{bits_of, value_from}
use Rattle.rules.specs.Samples.{mask_of, sample_of, plus_zero, minus_zero}
use Rattle.rules.specs.Reading.{Read, whole, refuse, Reader, and_then, ◌>>=◌, give, fail, number, bit}
use Rattle.rules.specs.Runs.{runs_from}
use Rattle.rules.specs.Zeros.{tree_of, read_tree, zero_of, plus_minus}
use Rattle.rules.specs.Located.{values_into, values_of, located}
use Rattle.rules.specs.Fractional.{fractional}
use Rattle.rules.specs.First.{First, unassigned, pad, tool, fractional_row, six_or_eight, first_octet, mark_at, six_not_eight}
use Rattle.rules.specs.Frame.{Found, body, with_tool, after_first, frame, read_one}
use Rattle.rules.proofs.Octets.{Below, length-bits_of, bits_of-below}
use Rattle.rules.proofs.Gives.{no-refusal, same-refusal}
use Rattle.rules.proofs.Room.{length_most}
use Rattle.promises.proofs.Only.{Stops, at_once, behind, stops, Only, only-give, only-bind, only-bit, only-six, only-read_tree, asked}
use Rattle.promises.proofs.Only.{only-number_from, only-bits_from, only-octets_after, only-fractional, only-plus_minus, only-values_into}
use Rattle.promises.proofs.Only.{only-filled, only_here}
use Rattle.promises.proofs.Frame.{first-eight}
use Rattle.promises.proofs.Further.{Firm, firm-number_from, firm-bit, firm-runs_from, firm-read_tree, firm-body, firm-fractional, firm-give, firm-bind}
use Rattle.promises.proofs.Further.{firm-six, far-tree, near-six, SixOrEight, six, eight, six-or-eight, bit-there, mark-first}
use Rattle.promises.proofs.Further.{nothing-short}
use Rattle.promises.proofs.Bounded.{plain}
use Rattle.promises.proofs.Points.{BitOf, same_bit}
use Rattle.promises.proofs.Bit.{first-of-bits, frame-after, read-bit}
use Rattle.promises.proofs.Names.{and_assoc, cut-firm, comes-by, RunAt, MethodAt, CaseAt, PlaceAt, AlignAt, Names, along, ended}
use Rattle.promises.proofs.Names.{Tells, tells-rest, tells-coded, tells-body, tells-fractional}

-- the refusals of a body and its filling bits that are not SHORT
abbrev pub OfBody : Refusal → Type 0
OfBody Case = Unit {0}
OfBody Method = Unit {0}
OfBody Run = Unit {0}
OfBody Place = Unit {0}
OfBody Align = Unit {0}
OfBody Short = ⊥
OfBody Prefix = ⊥
OfBody (Tool t) = ⊥
OfBody Room = ⊥
OfBody Length = ⊥
OfBody Set = ⊥
OfBody Law = ⊥
OfBody Long = ⊥

abbrev IsShort : Refusal → Type 0
IsShort u = u ≡ Short

-- A tool that is decided: the set lacks it, there is no room, or its body is read
data Decided (set room t len : ℕ) (r : Reader (List ℕ)) (b : List ℕ) (i : ℕ) (w : Refusal) (at : ℕ) : Type 0 where
  lacking : w ≡ Tool t → Decided set room t len r b i w at
  roomless : w ≡ Room → Decided set room t len r b i w at
  reading : holds set t ≡ true → ltb room len ≡ false → (r >>= ended t) b i ≡ refuse w at
      → Decided set room t len r b i w at

decided : (set room t len : ℕ) (r : Reader (List ℕ)) (b : List ℕ) (i : ℕ) (w : Refusal) (at : ℕ) → with_tool set room t len r b i ≡ refuse w at
    → Decided set room t len r b i w at
unfolding with_tool
decided set room t len r b i w at e = go (holds set t) refl (ltb room len) refl e
  where
    go : (x : Bool) → holds set t ≡ x → (y : Bool) → ltb room len ≡ y
        → cond (not x) (fail (Tool t) 0) (cond y (fail Room 0) (r >>= ended t)) b i ≡ refuse w at
        → Decided set room t len r b i w at
    go false x y z d = lacking (sym (same-refusal d))
    go true x true z d = roomless (sym (same-refusal d))
    go true x false z d = reading x z d

tool-same : (set room t len : ℕ) (r : Reader (List ℕ)) (b : List ℕ) (i : ℕ) → holds set t ≡ true → ltb room len ≡ false
    → with_tool set room t len r b i ≡ (r >>= ended t) b i
unfolding with_tool
tool-same set room t len r b i h l = rw (h, l) refl

no-eight : (set : ℕ) → holds set 8 ≡ false
unfolding holds
no-eight set = refl

-- tool 6: the code of S, and what follows it
abbrev coded : ℕ → ℕ → ℕ → ℕ → Reader (List ℕ)
coded mask len mark s = runs_from len s len len [] >>= (λ flags. give (map (zero_of mask mark) flags))

six-split : (mask len mark : ℕ) (b : List ℕ) (i : ℕ)
    → (plus_minus mask len mark >>= ended 6) b i ≡ and_then (read_tree (tree_of len) b i) (λ s j. (coded mask len mark s >>= ended 6) b j)
six-split mask len mark b i =
    and_assoc (read_tree (tree_of len) b i) (λ s j. coded mask len mark s b j) (λ s j. ended 6 s b j)

-- Of one refusal of a frame that has an octet or more
module _ (mask set room : ℕ) (b : List ℕ) (low : Below 2 b) (long : 8 ≤ length b) (w : Refusal) (at : ℕ) (l : at ≤ length b) (ob : OfBody w)
  where
    abbrev held : ℕ
    held = max 8 at

    abbrev octet : ℕ
    octet = value_from 0 (take 8 b)

    size : held ≤ length b
    size = omega arith

    not_so : {u : Refusal} {X : Type 0} → w ≡ u → (OfBody u → ⊥) → X
    not_so e h = absurd (h (subst OfBody e ob))

    first : (c : List ℕ) → number 8 (take held b ++ c) 0 ≡ whole octet 8
    first c = cut-firm (firm-number_from 0 8) held b size 0 (rw (append-nil b) at (first-eight b [] long)) (omega arith) c

    -- a tool, and tool 11's row, that the first octet says
    tool-first : (t len : ℕ) → first_octet octet ≡ tool t len → (c : List ℕ)
        → frame mask set room (take held b ++ c) 0 ≡ with_tool set room t len (body mask t len) (take held b ++ c) 8
    unfolding frame after_first
    tool-first t len q c = rw (first c, q) refl

    row_first : (k len : ℕ) → first_octet octet ≡ fractional_row k len → (c : List ℕ)
        → frame mask set room (take held b ++ c) 0 ≡ with_tool set room 11 len (fractional mask k len) (take held b ++ c) 8
    unfolding frame after_first
    row_first k len q c = rw (first c, q) refl

    first-names : (t len : ℕ) {p : Reader (List ℕ)} → Firm p → Tells held b size w at (omega arith) p
        → ((c : List ℕ) → frame mask set room (take held b ++ c) 0 ≡ with_tool set room t len p (take held b ++ c) 8)
        → Decided set room t len p b 8 w at → Names held b (frame mask set room) 0 at w
    first-names t len firm tells q (lacking u) = not_so u (λ x. x)
    first-names t len firm tells q (roomless u) = not_so u (λ x. x)
    first-names t len {p} firm tells q (reading h r e) =
        along held b (p >>= ended t) (frame mask set room) 8 0 at w
        (λ B x j y c. comes-by 0 8 j (omega arith) (λ z. q z ∙ tool-same set room t len p (take held b ++ z) 8 h r) c)
        ((tells-rest held b size w at (omega arith) t firm tells).on 8 e)

    -- tool 6, which a second octet may decide
    six-first : (len mark k : ℕ) → first_octet octet ≡ six_or_eight len → bit b (mark_at len) ≡ whole mark (mark_at len + 1)
        → six_not_eight b (mark_at len + 1) ≡ whole 6 k → k ≤ held → (c : List ℕ)
        → frame mask set room (take held b ++ c) 0 ≡ with_tool set room 6 len (plus_minus mask len mark) (take held b ++ c) (mark_at len + 1)
    unfolding frame after_first
    six-first len mark k q m e h c =
        rw (
          first c,
          q,
          cut-firm firm-bit held b size (mark_at len) m (omega (arith, mark-first len)) c,
          cut-firm firm-six held b size (mark_at len + 1) e h c,
        ) refl

    module _ (len mark k : ℕ) (q : first_octet octet ≡ six_or_eight len) (m : bit b (mark_at len) ≡ whole mark (mark_at len + 1))
        (e : six_not_eight b (mark_at len + 1) ≡ whole 6 k) where
      abbrev start : ℕ
      start = mark_at len + 1

      runs-names : holds set 6 ≡ true → ltb room len ≡ false
          → Stops (read_tree (tree_of len) b start) (λ s j. (coded mask len mark s >>= ended 6) b j) w at
          → Names held b (frame mask set room) 0 at w
      runs-names h r (at_once d) = not_so ((only-read_tree {K = IsShort} refl (tree_of len)).says b start w at d) (λ x. x)
      runs-names h r (behind s j x d) =
          let far = (far-tree len).goes b start s j x in
          let near = near-six.goes b start 6 k e in
          along held b (coded mask len mark s >>= ended 6) (frame mask set room) j 0 at w
          (λ B p i y c. comes-by 0 j i (omega arith)
          (λ z. six-first len mark k q m e (omega (arith, c.onward)) z ∙ tool-same set room 6 len (plus_minus mask len mark) (take held b ++ z) start h r
          ∙ six-split mask len mark (take held b ++ z) start
          ∙ ap (λ r. and_then r (λ s j. (coded mask len mark s >>= ended 6) (take held b ++ z) j))
          (cut-firm (firm-read_tree (tree_of len)) held b size start x (omega (arith, c.onward)) z)) c)
          ((tells-rest held b size w at (omega arith) 6
          (firm-bind (firm-runs_from len s len len []) (λ flags. firm-give (map (zero_of mask mark) flags)))
          (tells-coded held b size w at (omega arith) mask len mark s)).on j d)

      six-names : Decided set room 6 len (plus_minus mask len mark) b start w at → Names held b (frame mask set room) 0 at w
      six-names (lacking u) = not_so u (λ x. x)
      six-names (roomless u) = not_so u (λ x. x)
      six-names (reading h r x) =
          runs-names h r (stops (read_tree (tree_of len) b start) (λ s j. (coded mask len mark s >>= ended 6) b j)
          (sym (six-split mask len mark b start) ∙ x))

    eight-names : (len mark i : ℕ) → Decided set room 8 len (plus_minus mask len mark) b i w at → Names held b (frame mask set room) 0 at w
    eight-names len mark i (lacking u) = not_so u (λ x. x)
    eight-names len mark i (roomless u) = not_so u (λ x. x)
    eight-names len mark i (reading h r x) = absurd (false≢true (sym (no-eight set) ∙ h))

    either-names : (len mark t k : ℕ) → first_octet octet ≡ six_or_eight len → bit b (mark_at len) ≡ whole mark (mark_at len + 1)
        → six_not_eight b (mark_at len + 1) ≡ whole t k → SixOrEight t
        → Decided set room t len (plus_minus mask len mark) b (mark_at len + 1) w at → Names held b (frame mask set room) 0 at w
    either-names len mark t k q m e six d = six-names len mark k q m e d
    either-names len mark t k q m e eight d = eight-names len mark (mark_at len + 1) d

    after-names : (f : First) → first_octet octet ≡ f → plain f ≡ true → after_first mask set room f b 8 ≡ refuse w at
        → Names held b (frame mask set room) 0 at w
    unfolding after_first
    after-names unassigned q p e = not_so (sym (same-refusal e)) (λ x. x)
    after-names pad q p e = no-refusal (sym e)
    after-names (tool t len) q p e =
        first-names t len (firm-body mask t len) (tells-body held b size w at (omega arith) mask t len (length_most len p))
        (tool-first t len q) (decided set room t len (body mask t len) b 8 w at e)
    after-names (fractional_row k len) q p e =
        first-names 11 len (firm-fractional mask k len) (tells-fractional held b size w at (omega arith) mask k len)
        (row_first k len q) (decided set room 11 len (fractional mask k len) b 8 w at e)
    after-names (six_or_eight len) q p e =
        let m = (bit-there b [] (mark_at len) (omega (arith, mark-first len))).0 in
        go m (stops (six_not_eight b i) (λ t k. with_tool set room t len (plus_minus mask len mark) b i) (rw m at e))
      where
        i : ℕ
        i = mark_at len + 1

        mark : ℕ
        mark = get_or b (mark_at len) 0

        go : bit b (mark_at len) ≡ whole mark i → Stops (six_not_eight b i) (λ t k. with_tool set room t len (plus_minus mask len mark) b i) w at
            → Names held b (frame mask set room) 0 at w
        go m (at_once d) = not_so ((only-six {K = IsShort} refl).says b i w at d) (λ x. x)
        go m (behind t k x d) =
            either-names len mark t k q m x (six-or-eight b i t k x) (decided set room t len (plus_minus mask len mark) b i w at d)

    frame-names : frame mask set room b 0 ≡ refuse w at → Names held b (frame mask set room) 0 at w
    frame-names e =
        after-names (first_octet octet) refl (first-of-bits b low long) (sym (frame-after mask set room b long) ∙ e)

-- the bit stands within the octets, or at their end
bit-within : (n : ℕ) (w : Refusal) (at : ℕ) → BitOf n w at → at ≤ n
bit-within n Short at h = omega arith
bit-within n Prefix at h = omega (arith, h.0)
bit-within n (Tool t) at h = omega (arith, h.0)
bit-within n Room at h = omega (arith, h.0)
bit-within n Case at h = omega arith
bit-within n Method at h = omega arith
bit-within n Run at h = omega arith
bit-within n Place at h = h
bit-within n Align at h = omega arith
bit-within n Length at h = omega arith
bit-within n Set at h = omega arith
bit-within n Law at h = omega arith
bit-within n Long at h = omega arith

read_names : (octets : List ℕ) (law set room : ℕ) (w : Refusal) (at : ℕ) → OfBody w → read_one octets law set room ≡ refuse w at
    → Names (max 8 at) (bits_of octets) (frame (mask_of law) set room) 0 at w
read_names [] law set room w at ob e =
    let a = asked [] law set room w at (λ q. subst OfBody q ob) (λ q. subst OfBody q ob) e in
    absurd (subst OfBody (sym (same-refusal (sym (nothing-short (mask_of law) set room) ∙ a.framed))) ob)
read_names (o ∷ octets) law set room w at ob e =
    let a = asked (o ∷ octets) law set room w at (λ q. subst OfBody q ob) (λ q. subst OfBody q ob) e in
    let n = length-bits_of (o ∷ octets) in
    let h = bit-within (8 * length (o ∷ octets)) w at (read-bit (o ∷ octets) law set room w at e) in
    frame-names (mask_of law) set room (bits_of (o ∷ octets)) (bits_of-below (o ∷ octets)) (omega arith) w at (omega arith) ob a.framed

-- "the first bit of the run's code (RUN)"
pub run-bit : (octets : List ℕ) (law set room at : ℕ) → read_one octets law set room ≡ refuse Run at
    → RunAt (max 8 at) (bits_of octets) (frame (mask_of law) set room) 0 at
run-bit octets law set room at e = read_names octets law set room Run at tt e

-- "listed place (PLACE ..)"
pub place-bit : (octets : List ℕ) (law set room at : ℕ) → read_one octets law set room ≡ refuse Place at
    → PlaceAt (max 8 at) (bits_of octets) (frame (mask_of law) set room) 0 at
place-bit octets law set room at e = read_names octets law set room Place at tt e

-- "or method (METHOD)"
pub method-bit : (octets : List ℕ) (law set room at : ℕ) → read_one octets law set room ≡ refuse Method at
    → MethodAt (max 8 at) (bits_of octets) (frame (mask_of law) set room) 0 at
method-bit octets law set room at e = read_names octets law set room Method at tt e

-- "wrong filling bit (ALIGN)"
pub align-bit : (octets : List ℕ) (law set room at : ℕ) → read_one octets law set room ≡ refuse Align at
    → AlignAt (max 8 at) (bits_of octets) (frame (mask_of law) set room) 0 at
align-bit octets law set room at e = read_names octets law set room Align at tt e

-- "range case (CASE)"
pub case-bit : (octets : List ℕ) (law set room at : ℕ) → read_one octets law set room ≡ refuse Case at
    → CaseAt (max 8 at) (bits_of octets) (frame (mask_of law) set room) 0 at
case-bit octets law set room at e = read_names octets law set room Case at tt e

-- which is bit 8: the range case is what follows the first octet, and no other body has one
abbrev NotCase : Refusal → Type 0
NotCase Case = ⊥
NotCase Short = Unit {0}
NotCase Prefix = Unit {0}
NotCase (Tool t) = Unit {0}
NotCase Room = Unit {0}
NotCase Method = Unit {0}
NotCase Run = Unit {0}
NotCase Place = Unit {0}
NotCase Align = Unit {0}
NotCase Length = Unit {0}
NotCase Set = Unit {0}
NotCase Law = Unit {0}
NotCase Long = Unit {0}

record CaseFirst {A : Type 0} (p : Reader A) : Type 0 where
  says : (b : List ℕ) (i at : ℕ) → p b i ≡ refuse Case at → at ≡ i

case_never : {A : Type 0} {p : Reader A} → Only NotCase p → CaseFirst p
case_never o = record { says = λ b i at e. absurd (o.says b i Case at e) }

case-cond : {A : Type 0} {p q : Reader A} (t : Bool) → CaseFirst p → CaseFirst q → CaseFirst (cond t p q)
case-cond true g h = g
case-cond false g h = h

located-case : (mask len : ℕ) → CaseFirst (located mask len)
unfolding located
located-case mask len = record { says = λ b i at e. one b i at (stops (number 2 b i) (λ c k. (number 1 >>= (λ flag. after i c flag)) b k) e) }
  where
    valued : ℕ → ℕ → Reader (List ℕ)
    valued c flag = values_into len (plus_zero mask) (map (sample_of mask) (values_of len c flag)) (replicate len (plus_zero mask))

    after : ℕ → ℕ → ℕ → Reader (List ℕ)
    after i c flag = cond (eqb (length (values_of len c flag)) 0) (fail Case i) (valued c flag)

    three : (b : List ℕ) (i at c flag k : ℕ) (t : Bool) → cond t (fail Case i) (valued c flag) b k ≡ refuse Case at → at ≡ i
    three b i at c flag k true d = sym (same_bit d)
    three b i at c flag k false d =
        absurd ((only-values_into {K = NotCase} tt tt tt tt len (plus_zero mask) (map (sample_of mask) (values_of len c flag))
        (replicate len (plus_zero mask))).says b k Case at d)

    two : (b : List ℕ) (i at c k : ℕ) → Stops (number 1 b k) (λ flag k. after i c flag b k) Case at → at ≡ i
    two b i at c k (at_once d) = absurd ((only-number_from {K = NotCase} tt 0 1).says b k Case at d)
    two b i at c k (behind flag j q d) = three b i at c flag j (eqb (length (values_of len c flag)) 0) d

    one : (b : List ℕ) (i at : ℕ) → Stops (number 2 b i) (λ c k. (number 1 >>= (λ flag. after i c flag)) b k) Case at → at ≡ i
    one b i at (at_once d) = absurd ((only-number_from {K = NotCase} tt 0 2).says b i Case at d)
    one b i at (behind c k q d) = two b i at c k (stops (number 1 b k) (λ flag k. after i c flag b k) d)

body-case : (mask t len : ℕ) → CaseFirst (body mask t len)
unfolding body
body-case mask t len =
    case-cond (eqb t 1) (case_never (only-octets_after tt [] len))
    (case-cond (eqb t 2) (case_never (only-give (replicate len (plus_zero mask))))
    (case-cond (eqb t 3) (case_never (only-give (replicate len (minus_zero mask))))
    (case-cond (eqb t 4) (case_never (only-bind (only-number_from tt 0 8) (λ x. only-give (replicate len x))))
    (case-cond (eqb t 5) (case_never (only-bind (only-bits_from tt [] len) (λ flags. only-give (map (zero_of mask 0) flags))))
    (located-case mask len)))))

module _ (mask set room : ℕ) (b : List ℕ) (low : Below 2 b) (long : 8 ≤ length b) (at : ℕ) where
  tool-case : (t len i : ℕ) {p : Reader (List ℕ)} → CaseFirst p → Decided set room t len p b i Case at → at ≡ i
  tool-case t len i f (lacking u) = let z : ◌≡◌ {A = ℕ} 0 1 = cc in absurd (omega arith)
  tool-case t len i f (roomless u) = let z : ◌≡◌ {A = ℕ} 0 1 = cc in absurd (omega arith)
  tool-case t len i {p} f (reading h r e) = go (stops (p b i) (λ s j. ended t s b j) e)
    where
      go : Stops (p b i) (λ s j. ended t s b j) Case at → at ≡ i
      go (at_once d) = f.says b i at d
      go (behind s j q d) = absurd ((only-filled {K = NotCase} tt tt _ _).says b j Case at d)

  six-case : (len mark t i : ℕ) → SixOrEight t → Decided set room t len (plus_minus mask len mark) b i Case at → at ≡ 8
  six-case len mark t i six (lacking u) = let z : ◌≡◌ {A = ℕ} 0 1 = cc in absurd (omega arith)
  six-case len mark t i six (roomless u) = let z : ◌≡◌ {A = ℕ} 0 1 = cc in absurd (omega arith)
  six-case len mark t i six (reading h r e) =
      absurd ((only-bind (only-plus_minus {K = NotCase} tt tt mask len mark)
      (λ s. only-bind only_here (λ bits. only-filled tt tt _ _))).says b i Case at e)
  six-case len mark t i eight (lacking u) = let z : ◌≡◌ {A = ℕ} 0 1 = cc in absurd (omega arith)
  six-case len mark t i eight (roomless u) = let z : ◌≡◌ {A = ℕ} 0 1 = cc in absurd (omega arith)
  six-case len mark t i eight (reading h r e) = absurd (false≢true (sym (no-eight set) ∙ h))

  after-case : (f : First) → after_first mask set room f b 8 ≡ refuse Case at → at ≡ 8
  unfolding after_first
  after-case unassigned e = let u = same-refusal e in let z : ◌≡◌ {A = ℕ} 0 1 = cc in absurd (omega arith)
  after-case pad e = no-refusal (sym e)
  after-case (tool t len) e = tool-case t len 8 (body-case mask t len) (decided set room t len (body mask t len) b 8 Case at e)
  after-case (fractional_row k len) e =
      tool-case 11 len 8 (case_never (only-fractional tt tt mask k len)) (decided set room 11 len (fractional mask k len) b 8 Case at e)
  after-case (six_or_eight len) e = one (stops (bit b (mark_at len)) (λ mark j. and_then (six_not_eight b j) (λ t k. tooled mark t)) e)
    where
      tooled : ℕ → ℕ → Read Found
      tooled mark t = with_tool set room t len (plus_minus mask len mark) b (mark_at len + 1)

      two : (mark j : ℕ) → Stops (six_not_eight b j) (λ t k. tooled mark t) Case at → at ≡ 8
      two mark j (at_once d) = absurd ((only-six {K = NotCase} tt).says b j Case at d)
      two mark j (behind t k q d) =
          six-case len mark t (mark_at len + 1) (six-or-eight b j t k q)
          (decided set room t len (plus_minus mask len mark) b (mark_at len + 1) Case at d)

      one : Stops (bit b (mark_at len)) (λ mark j. and_then (six_not_eight b j) (λ t k. tooled mark t)) Case at → at ≡ 8
      one (at_once d) = absurd ((only-bit {K = NotCase} tt).says b (mark_at len) Case at d)
      one (behind mark j q d) = two mark j (stops (six_not_eight b j) (λ t k. tooled mark t) d)

pub case-eight : (octets : List ℕ) (law set room at : ℕ) → read_one octets law set room ≡ refuse Case at → at ≡ 8
case-eight [] law set room at e =
    let a = asked [] law set room Case at (λ q. let z : ◌≡◌ {A = ℕ} 0 1 = cc in omega arith)
    (λ q. let z : ◌≡◌ {A = ℕ} 0 1 = cc in omega arith) e in
    let u = same-refusal (sym (nothing-short (mask_of law) set room) ∙ a.framed) in
    let z : ◌≡◌ {A = ℕ} 0 1 = cc in absurd (omega arith)
case-eight (o ∷ octets) law set room at e =
    let a = asked (o ∷ octets) law set room Case at (λ q. let z : ◌≡◌ {A = ℕ} 0 1 = cc in omega arith)
    (λ q. let z : ◌≡◌ {A = ℕ} 0 1 = cc in omega arith) e in
    let b = bits_of (o ∷ octets) in
    let long : 8 ≤ length b = omega (arith, length-bits_of (o ∷ octets)) in
    after-case (mask_of law) set room b (bits_of-below (o ∷ octets)) long at (first_octet (value_from 0 (take 8 b)))
    (sym (frame-after (mask_of law) set room b long) ∙ a.framed)
