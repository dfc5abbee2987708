-- "looks no further": what is not SHORT stays, whatever follows.
--   items-further: of items.       files-further: of a whole file.
use Prim.Native.Nat.{ℕ, zero, suc, ◌+◌, ◌-◌, ◌≤◌}
use native.Mathlib.Omega.{arith}
use mathlib.Core.Path.{◌≡◌, refl, sym, ap, ◌∙◌}
use mathlib.Core.List.{List, [], ◌∷◌, ◌++◌}
use mathlib.Core.Bool.{Bool, true, false, cond, not}
use lib.ListN.{length, get_or, drop, length-append, get_or-append}
use lib.Seq.{drop-append-le}
use lib.Dec.{eqb, leb}
use borrow.Author.Tests.{leb-false, lt-leb, le-leb}
use Rattle.rules.specs.declared.Refusal as refusal
use Rattle.rules.specs.declared.Refusal.TheVariants as rules
use Rattle.rules.specs.Reading.{Read, whole, refuse}
use Rattle.rules.specs.Samples.{mask_of}
use Rattle.rules.specs.Frame.{Found, octets_used, read_one}
use Rattle.rules.specs.Tools.{is_set}
use Rattle.rules.specs.Walk.{longest}
use Rattle.promises.proofs.Further.{looks-no-further}
use Rattle.text_keyvalue.specs.Reading.{begins}
use Rattle.recording.specs.declared.Refusal.TheVariants.{Head, Frame}
use Rattle.std.proofs.Common.{Ok, Err}
use Rattle.recording.specs.Remembered.{Headed, heading, no_heading, headed, heading_of, heading_length, lost_octet}
use Rattle.recording.specs.Items.{Item, lost, Recorded, stopped, before, item_of, room_taken, after_read, items_from}
use Rattle.recording.specs.Items.{File, nothing, by_heading, read_file}

-- refused, and not with SHORT
pub record Stands (w : refusal.Refusal) (r : Recorded) : Type 0 where
  pub refused : r.end ≡ Err (Frame w)
  pub not_short : w ≡ rules.Short → ⊥

-- so it has not ended cleanly
never_done : {w : refusal.Refusal} {at bit : ℕ} {A : Type 0} → Stands w (stopped (Ok tt) at bit) → A
never_done s = let e = s.refused in let z : ◌≡◌ {A = ℕ} 0 1 = cc in absurd (omega arith)

-- and what is refused behind an item is refused
behind : {w : refusal.Refusal} {i : Item} {r : Recorded} → Stands w (before i r) → Stands w r
behind s = record { refused = s.refused; not_short = s.not_short }

clean-test : (w : refusal.Refusal) (b b' : Bool) (at : ℕ) {u v : Recorded} → (b ≡ false → b' ≡ false) → (b ≡ false → Stands w u → v ≡ u)
    → Stands w (cond b (stopped (Ok tt) at 0) u) → cond b' (stopped (Ok tt) at 0) v ≡ cond b (stopped (Ok tt) at 0) u
clean-test w true b' at g h s = never_done s
clean-test w false b' at g h s = rw (g refl) (h refl s)

-- a test that both make
same_test : (w : refusal.Refusal) (b : Bool) (x : Recorded) {u v : Recorded} → (Stands w u → v ≡ u) → Stands w (cond b x u)
    → cond b x v ≡ cond b x u
same_test w true x h s = refl
same_test w false x h s = h s

two-tests : (w : refusal.Refusal) (b : Bool) {x y u v : Recorded} → (Stands w x → y ≡ x) → (Stands w u → v ≡ u) → Stands w (cond b x u)
    → cond b y v ≡ cond b x u
two-tests w true g h s = g s
two-tests w false g h s = h s

-- one frame, and what comes after it
after-further : (w : refusal.Refusal) (octets more : List ℕ) (law set room at : ℕ) (next next' : Found → Recorded)
    → ((f : Found) → Stands w (next f) → next' f ≡ next f) → Stands w (after_read (read_one octets law set room) at next)
    → after_read (read_one (octets ++ more) law set room) at next' ≡ after_read (read_one octets law set room) at next
after-further w octets more law set room at next next' h s = go (read_one octets law set room) refl s
  where
    go : (m : Read Found) → read_one octets law set room ≡ m → Stands w (after_read m at next)
        → after_read (read_one (octets ++ more) law set room) at next' ≡ after_read m at next
    go (whole f j) e s =
        let same = looks-no-further octets more law set room (λ bit k. no_short bit (sym e ∙ k)) in
        rw (same, e) (h f s)
      where
        no_short : (bit : ℕ) → ◌≡◌ {A = Read Found} (whole f j) (refuse rules.Short bit) → ⊥
        no_short bit k = let z : ◌≡◌ {A = ℕ} 0 1 = cc in omega arith
    go (refuse v bit) e s =
        let same = looks-no-further octets more law set room (λ k d. s.not_short (is-short k (sym e ∙ d))) in
        rw (same, e) refl
      where
        is-short : (k : ℕ) → ◌≡◌ {A = Read Found} (refuse v bit) (refuse rules.Short k) → w ≡ rules.Short
        is-short k d = let r = s.refused in cc

-- of items, as many more as one likes allowed
pub items-further : (fuel again : ℕ) (octets more : List ℕ) (law set at room places : ℕ) (w : refusal.Refusal) → fuel ≤ again
    → Stands w (items_from fuel octets law set at room places)
    → items_from again (octets ++ more) law set at room places ≡ items_from fuel octets law set at room places
unfolding items_from
items-further zero again octets more law set at room places w g s = never_done s
items-further (suc fuel) zero octets more law set at room places w g s = absurd (omega arith)
items-further (suc fuel) (suc again) octets more law set at room places w g s =
    clean-test w (leb (length octets) at) (leb (length (octets ++ more)) at) at
    (λ e. let h = leb-false (length octets) at e in let l = length-append octets more in lt-leb (length (octets ++ more)) at (omega arith))
    (λ e. let h = leb-false (length octets) at e in
    same_test w (eqb places 0) (stopped (Err (Frame rules.Room)) at 0)
    (rw (get_or-append octets more 0 at h, drop-append-le at octets more (omega arith))
    (two-tests w (eqb (get_or octets at 0) lost_octet)
    (λ t. ap (before (lost 0)) (items-further fuel again octets more law set (at + 1) room (places - 1) w (omega arith) (behind t)))
    (after-further w (drop at octets) more law set room at
    (λ f. before (item_of (mask_of law) f) (items_from fuel octets law set (at + octets_used f) (room - room_taken (mask_of law) f) (places - 1)))
    (λ f. before (item_of (mask_of law) f)
    (items_from again (octets ++ more) law set (at + octets_used f) (room - room_taken (mask_of law) f) (places - 1)))
    (λ f t. ap (before (item_of (mask_of law) f)) (items-further fuel again octets more law set (at + octets_used f)
    (room - room_taken (mask_of law) f) (places - 1) w (omega arith) (behind t)))))))
    s

-- a word at the start of a text that is long enough for it
begins-further : (word text more : List ℕ) → length word ≤ length text → begins word (text ++ more) ≡ begins word text
unfolding begins
begins-further [] text more h = refl
begins-further (x ∷ word) [] more h = absurd (omega arith)
begins-further (x ∷ word) (y ∷ text) more h = rw (begins-further word text more (omega arith)) refl

headed-further : (octets more : List ℕ) → heading_length ≤ length octets → headed (octets ++ more) ≡ headed octets
unfolding headed
headed-further octets more h = rw (begins-further (heading_of 0) octets more h, begins-further (heading_of 1) octets more h) refl

set-test : (w : refusal.Refusal) (b : Bool) (x : File) {u v : File} → (Stands w u.read → v ≡ u) → Stands w (cond b x u).read
    → cond b x v ≡ cond b x u
set-test w true x h s = refl
set-test w false x h s = h s

heading-test : (w : refusal.Refusal) (h : Headed) (none : File) (next next' : ℕ → File)
    → ((law : ℕ) → Stands w (next law).read → next' law ≡ next law)
    → Stands w (by_heading h none next).read → by_heading h none next' ≡ by_heading h none next
heading-test w no_heading none next next' k s = refl
heading-test w (heading law) none next next' k s = k law s

-- what follows a heading
abbrev after_heading : List ℕ → ℕ → ℕ → ℕ → ℕ → File
after_heading octets set room places law =
    cond (not (leb (length octets - heading_length) longest)) (nothing (Frame rules.Long) law)
    (record { law = law; read = items_from (suc (length octets - heading_length)) (drop heading_length octets) law set 0 room places })

after-heading : (octets more : List ℕ) (set room places : ℕ) (w : refusal.Refusal) → heading_length ≤ length octets
    → length (octets ++ more) - heading_length ≤ longest → (law : ℕ) → Stands w (after_heading octets set room places law).read
    → after_heading (octets ++ more) set room places law ≡ after_heading octets set room places law
after-heading octets more set room places w h n law s =
    let l = length-append octets more in
    let short : leb (length octets - heading_length) longest ≡ true = le-leb (length octets - heading_length) longest (omega arith) in
    let long : leb (length (octets ++ more) - heading_length) longest ≡ true = le-leb (length (octets ++ more) - heading_length) longest n in
    rw (long, short, drop-append-le heading_length octets more h)
    (ap (λ read. record { law = law; read = read })
    (items-further (suc (length octets - heading_length)) (suc (length (octets ++ more) - heading_length)) (drop heading_length octets)
    more law set 0
    room places w (omega arith) (rw short at s)))

-- of a whole file, whose heading is there and which does not become LONG
pub files-further : (octets more : List ℕ) (set room places : ℕ) (w : refusal.Refusal) → heading_length ≤ length octets
    → length (octets ++ more) - heading_length ≤ longest → Stands w (read_file octets set room places).read
    → read_file (octets ++ more) set room places ≡ read_file octets set room places
unfolding read_file
files-further octets more set room places w h n s =
    set-test w (not (is_set set)) (nothing (Frame rules.Set) 0)
    (rw (headed-further octets more h)
    (heading-test w (headed octets) (nothing Head 0) (after_heading octets set room places) (after_heading (octets ++ more) set room places)
    (after-heading octets more set room places w h n)))
    s
