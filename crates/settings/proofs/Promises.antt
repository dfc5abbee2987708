-- Document 02, R-13, over any list of calls from a fresh state:
--   `kept-true`: the kept revisions are the last eight of those saved since the last wipe, each as it was saved under its number;
--   numbers rise by one from 1 and never repeat, also across wipes (`Counted`);
--   `saved-reads`: what is saved is read under its new number;   `text-back`: the text saved is the text read;
--   `spent-is`, `done-is`: SPENT exactly when the number would pass 4,294,967,295;
--   `wipe-empties`: after a wipe every number of the revisions is 0.
use Prim.Native.Nat.{ℕ, zero, suc, ◌+◌, ◌*◌, ◌-◌, ◌≤◌}
use mathlib.Core.Path.{◌≡◌, refl, sym, ap, ◌∙◌}
use mathlib.Core.List.{List, [], ◌∷◌, ◌++◌, append_assoc, append-nil}
use mathlib.Core.Bool.{Bool, true, false, cond}
use native.Mathlib.Omega.{arith}
use lib.ListN.{length, get_or, drop, replicate, length-append, length-drop}
use lib.Seq.{drop_at, get_or-drop, drop-drop, drop-append-le}
use lib.Dec.{ltb}
use borrow.Author.Tests.{eq-eqb, ne_eqb}
use Rattle.settings.specs.declared.Settings.{Settings}
use Rattle.std.specs.Prelude.{Option, Some, None}
use Rattle.settings.specs.declared.Revision.{Revision}
use Rattle.settings.specs.Lines.{settings_in, settings_text}
use Rattle.settings.specs.declared.Refusal.TheVariants.{Spent}
use Rattle.settings.specs.Revisions.{Box, Outcome, done, refused, last_eight, added, add_to, most_number, look_up, back_to, wiped}
use Rattle.settings.specs.State.{row_at, rows_at, kept_of, box_of, cells_of, laid}
use Rattle.settings.specs.Calls.{cells_after}
use Rattle.settings.specs.Told.{Call, saving, going_back, wiping, new_of, Seen, see, see_all, fresh}
use Rattle.settings.proofs.Lines.{settings-only}
use Rattle.settings.proofs.State.{kept_cons}

abbrev last : Box → ℕ
last b = b.last

abbrev revisions : Box → List Revision
revisions b = b.revisions

-- revisions whose numbers are k, k + 1, ..
pub data Counted : ℕ → List Revision → Type 0 where
  none : {k : ℕ} → Counted k []
  more : {k : ℕ} {r : Revision} {rs : List Revision} → r.number ≡ k → Counted (k + 1) rs → Counted k (r ∷ rs)

counted-snoc : {k : ℕ} {rs : List Revision} → Counted k rs → (v : Settings)
    → Counted k (rs ++ (record { number = k + length rs; values = v } ∷ []))
counted-snoc {k} none v = let e : k + 0 ≡ k = omega arith in more e none
counted-snoc {k} (more {rs = rs} e c) v =
    let h : k + 1 + length rs ≡ k + suc (length rs) = omega arith in
    more e (rw h at (counted-snoc c v))

counted-drop : {k : ℕ} {rs : List Revision} → Counted k rs → (n : ℕ) → Counted (k + n) (drop n rs)
counted-drop {k} {rs} c zero = let h : k + 0 ≡ k = omega arith in rw h c
counted-drop none (suc n) = none
counted-drop {k} (more e c) (suc n) = let h : k + suc n ≡ k + 1 + n = omega arith in rw h (counted-drop {k = k + 1} c n)

-- none of these numbers is 0
counted-kept : {k : ℕ} {rs : List Revision} → 1 ≤ k → Counted k rs → kept_of rs ≡ rs
unfolding kept_of
counted-kept h none = refl
counted-kept {k} h (more {r = r} e c) = rw (ne_eqb r.number 0 (λ z. omega arith), counted-kept (omega arith) c)

-- the newest is found under its number
counted-found : {k : ℕ} {rs : List Revision} → Counted k rs → (v : Settings)
    → look_up (k + length rs) (rs ++ (record { number = k + length rs; values = v } ∷ [])) ≡ Some v
unfolding look_up
counted-found {k} none v = rw (eq-eqb (k + 0) (k + 0) refl)
counted-found {k} (more {r = r} {rs = rs} e c) v =
    let h : k + 1 + length rs ≡ k + suc (length rs) = omega arith in
    rw (ne_eqb r.number (k + suc (length rs)) (λ z. omega arith)) (rw h at (counted-found c v))

-- what is laid in the 41 numbers is read back as the same list
pub at_row : (cells l : List ℕ) (i j k : ℕ) → drop i cells ≡ l → k ≡ i + j → get_or cells k 0 ≡ get_or l j 0
at_row cells l i j k e h = ap (λ (n : ℕ). get_or cells n 0) h ∙ sym (get_or-drop i cells j 0) ∙ ap (λ (m : List ℕ). get_or m j 0) e

row_laid : (cells rest : List ℕ) (k : ℕ) (r : Revision) → drop (5 * k + 1) cells ≡ cells_of (r ∷ []) ++ rest → row_at cells k ≡ r
unfolding cells_of
row_laid cells rest k r e =
    let l = cells_of (r ∷ []) ++ rest in
    rw (
      at_row cells l (5 * k + 1) 0 (5 * k + 1) e (omega arith),
      at_row cells l (5 * k + 1) 1 (5 * k + 2) e (omega arith),
      at_row cells l (5 * k + 1) 2 (5 * k + 2 + 1) e (omega arith),
      at_row cells l (5 * k + 1) 3 (5 * k + 2 + 2) e (omega arith),
      at_row cells l (5 * k + 1) 4 (5 * k + 2 + 3) e (omega arith),
    )

pub no_number : (n j : ℕ) → get_or {A = ℕ} (replicate n 0) j 0 ≡ 0
no_number zero j = refl
no_number (suc n) zero = refl
no_number (suc n) (suc j) = no_number n j

-- rows of 0 are none
rows_empty : (cells : List ℕ) (n k m : ℕ) → drop (5 * k + 1) cells ≡ replicate m 0 → kept_of (rows_at cells n k) ≡ []
unfolding rows_at kept_of
rows_empty cells zero k m e = refl
rows_empty cells (suc n) k m e =
    let a : get_or cells (5 * k + 1) 0 ≡ 0 = at_row cells (replicate m 0) (5 * k + 1) 0 (5 * k + 1) e (omega arith) ∙ no_number m 0 in
    let b : drop (5 * (k + 1) + 1) cells ≡ replicate (m - 5) 0 =
    ap (λ (i : ℕ). drop i cells) (next k) ∙ sym (drop-drop 5 (5 * k + 1) cells) ∙ ap (drop 5) e ∙ zeros-past m in
    rw (eq-eqb _ _ a) (rows_empty cells n (k + 1) (m - 5) b)
  where
    next : (k : ℕ) → 5 * (k + 1) + 1 ≡ 5 * k + 1 + 5
    next k = omega arith

    zeros-past : (m : ℕ) → drop {A = ℕ} 5 (replicate m 0) ≡ replicate (m - 5) 0
    zeros-past zero = refl
    zeros-past (suc zero) = refl
    zeros-past (suc (suc zero)) = refl
    zeros-past (suc (suc (suc zero))) = refl
    zeros-past (suc (suc (suc (suc zero)))) = refl
    zeros-past (suc (suc (suc (suc (suc m))))) = let e : suc (suc (suc (suc (suc m)))) - 5 ≡ m = omega arith in rw e

kept-none : kept_of [] ≡ []
unfolding kept_of
kept-none = refl

rows-laid : (cells : List ℕ) (rs : List Revision) (n k m : ℕ) → drop (5 * k + 1) cells ≡ cells_of rs ++ replicate m 0 → length rs ≤ n
    → kept_of (rows_at cells n k) ≡ kept_of rs
unfolding rows_at cells_of
rows-laid cells [] n k m e h = rows_empty cells n k m e ∙ sym kept-none
rows-laid cells (r ∷ rs) zero k m e h = absurd (omega arith)
rows-laid cells (r ∷ rs) (suc n) k m e h =
    let a = row_laid cells (cells_of rs ++ replicate m 0) k r e in
    let p : 5 * (k + 1) + 1 ≡ 5 * k + 1 + 5 = omega arith in
    let b : drop (5 * (k + 1) + 1) cells ≡ cells_of rs ++ replicate m 0 =
    ap (λ (i : ℕ). drop i cells) p ∙ sym (drop-drop 5 (5 * k + 1) cells) ∙ ap (drop 5) e in
    kept_cons (row_at cells k) (rows_at cells n (k + 1)) ∙ rw (a, rows-laid cells rs n (k + 1) m b (omega arith)) (sym (kept_cons r rs))

pub box-laid : (b : Box) → kept_of b.revisions ≡ b.revisions → length b.revisions ≤ 8 → box_of (laid b) ≡ b
box-laid b e h =
    rw (rows-laid (laid b) b.revisions 8 0 (40 - 5 * length b.revisions) refl h, e)

-- eight of eight and one more
eight-more : (l : List Revision) (r : Revision) → last_eight (last_eight l ++ (r ∷ [])) ≡ last_eight (l ++ (r ∷ []))
eight-more l r =
    let m = length l - 8 in
    let a : drop m l ++ (r ∷ []) ≡ drop m (l ++ (r ∷ [])) = sym (drop-append-le m l (r ∷ []) (omega arith)) in
    let n = length-append l (r ∷ []) in
    let d = length-drop m (l ++ (r ∷ [])) in
    let s : m + (length (drop m (l ++ (r ∷ []))) - 8) ≡ length (l ++ (r ∷ [])) - 8 = omega arith in
    ap last_eight a ∙ drop-drop (length (drop m (l ++ (r ∷ []))) - 8) m (l ++ (r ∷ [])) ∙ ap (λ (k : ℕ). drop k (l ++ (r ∷ []))) s

eight-few : (l : List Revision) → length (last_eight l) ≤ 8
eight-few l = omega (arith, length-drop (length l - 8) l)

-- what holds after any calls
pub record KeptTrue (s : Seen) : Type 0 where
  pub cells : s.cells ≡ laid (record { last = length s.all; revisions = last_eight s.since })
  pub numbers : Counted 1 s.all
  pub before : List Revision
  pub part : s.all ≡ before ++ s.since

-- SPENT exactly when the number would pass 4,294,967,295; else the values are added
pub spent-is : (b : Box) (v : Settings) → ltb most_number (b.last + 1) ≡ true → add_to b v ≡ refused Spent
unfolding add_to
spent-is b v e = rw e

pub done-is : (b : Box) (v : Settings) → ltb most_number (b.last + 1) ≡ false → add_to b v ≡ done (added b v)
unfolding add_to
done-is b v e = rw e

module _ {s : Seen} (t : KeptTrue s) where
  abbrev at : ℕ
  at = 1 + length t.before + (length s.since - 8)

  -- the last eight of those since the last wipe are counted on
  kept-counted : Counted at (last_eight s.since)
  kept-counted =
      let c = counted-drop t.numbers (length t.before) in
      let d : drop (length t.before) s.all ≡ s.since =
      ap (drop (length t.before)) t.part ∙ drop_at t.before s.since (length t.before) refl in
      counted-drop (rw d at c) (length s.since - 8)

  -- so the box is what the numbers say
  box-true : box_of s.cells ≡ record { last = length s.all; revisions = last_eight s.since }
  box-true =
      ap box_of t.cells
      ∙ box-laid (record { last = length s.all; revisions = last_eight s.since }) (counted-kept (omega arith) kept-counted)
      (eight-few s.since)

  -- values are added
  abbrev new : Settings → Revision
  new v = record { number = length s.all + 1; values = v }

  adds-true : (v : Settings) (x : Seen) → x.cells ≡ laid (added (box_of s.cells) v) → x.all ≡ s.all ++ (new v ∷ [])
      → x.since ≡ s.since ++ (new v ∷ []) → KeptTrue x
  unfolding added
  adds-true v x c a n =
      let l : length x.all ≡ length s.all + 1 = ap length a ∙ length-append s.all (new v ∷ []) in
      let h : length s.all + 1 ≡ 1 + length s.all = omega arith in
      let g : laid (record { last = length s.all + 1; revisions = last_eight (s.since ++ (new v ∷ [])) })
      ≡ laid (record { last = length x.all; revisions = last_eight x.since }) = rw (l, n) in
      record {
        cells =
            c ∙ ap (λ (b : Box). laid (added b v)) box-true
            ∙ ap (λ (r : List Revision). laid (record { last = length s.all + 1; revisions = r })) (eight-more s.since (new v))
            ∙ g;
        numbers = rw (a, h) (counted-snoc t.numbers v);
        before = t.before;
        part =
            a ∙ ap (λ (r : List Revision). r ++ (new v ∷ [])) t.part ∙ append_assoc t.before s.since (new v ∷ [])
            ∙ ap (λ (r : List Revision). t.before ++ r) (sym n);
      }

  -- a call that adds nothing changes nothing
  same_true : (x : Seen) → x.cells ≡ s.cells → x.all ≡ s.all ++ [] → x.since ≡ s.since ++ [] → KeptTrue x
  same_true x c a n =
      let a' = a ∙ append-nil s.all in
      let n' = n ∙ append-nil s.since in
      record {
        cells = c ∙ t.cells ∙ rw (a', n');
        numbers = rw a' t.numbers;
        before = t.before;
        part = a' ∙ t.part ∙ ap (λ (r : List Revision). t.before ++ r) (sym n');
      }

  -- values that are wanted are added, or the number is spent
  added_true : (k : Option Settings) (x : Seen) → x.cells ≡ cells_after (back_to (box_of s.cells) k) s.cells
      → x.all ≡ s.all ++ new_of (box_of s.cells) k → x.since ≡ s.since ++ new_of (box_of s.cells) k → KeptTrue x
  added_true None x c a n = same_true x c a n
  added_true (Some v) x c a n = go (ltb most_number ((box_of s.cells).last + 1)) refl c a n
    where
      go : (z : Bool) → ltb most_number ((box_of s.cells).last + 1) ≡ z → x.cells ≡ cells_after (add_to (box_of s.cells) v) s.cells
          → x.all ≡ s.all ++ cond z [] (record { number = (box_of s.cells).last + 1; values = v } ∷ [])
          → x.since ≡ s.since ++ cond z [] (record { number = (box_of s.cells).last + 1; values = v } ∷ []) → KeptTrue x
      go true e c a n = same_true x (c ∙ ap (λ (o : Outcome). cells_after o s.cells) (spent-is (box_of s.cells) v e)) a n
      go false e c a n =
          adds-true v x (c ∙ ap (λ (o : Outcome). cells_after o s.cells) (done-is (box_of s.cells) v e))
          (a ∙ ap (λ (l : ℕ). s.all ++ (record { number = l + 1; values = v } ∷ [])) (ap last box-true))
          (n ∙ ap (λ (l : ℕ). s.since ++ (record { number = l + 1; values = v } ∷ [])) (ap last box-true))

  -- what is added is found under its number
  found-true : (v : Settings) → look_up (length s.all + 1) (last_eight (last_eight s.since ++ (new v ∷ []))) ≡ Some v
  found-true v =
      let e = last_eight s.since in
      let l = length-append e (new v ∷ []) in
      let f = eight-few s.since in
      let m = length (e ++ (new v ∷ [])) - 8 in
      let d = length-drop m e in
      let i = length-drop (length s.since - 8) s.since in
      let p : length s.all ≡ length t.before + length s.since = ap length t.part ∙ length-append t.before s.since in
      let n : at + m + length (drop m e) ≡ length s.all + 1 = omega arith in
      let a : drop m (e ++ (new v ∷ [])) ≡ drop m e ++ (new v ∷ []) = drop-append-le m e (new v ∷ []) (omega arith) in
      ap (look_up (length s.all + 1)) a ∙ rw n at (counted-found (counted-drop kept-counted m) v)

-- each call keeps it so
call-true : {s : Seen} → KeptTrue s → (c : Call) → KeptTrue (see c s)
call-true {s} t (saving text) = go (settings_in text) refl
  where
    go : (g : Option Settings) → settings_in text ≡ g → KeptTrue (see (saving text) s)
    go (Some v) e = added_true t (Some v) _ (rw e) (rw e) (rw e)
    go None e = added_true t None _ (rw e) (rw e) (rw e)
call-true {s} t (going_back n) = added_true t (look_up n (box_of s.cells).revisions) _ refl refl refl
call-true {s} t wiping =
    let n = append-nil s.all in
    record {
      cells = ap (λ (l : ℕ). laid (record { last = l; revisions = [] })) (ap last (box-true t) ∙ sym (ap length n));
      numbers = rw n t.numbers;
      before = s.all;
      part = refl;
    }

calls-true : (cs : List Call) {s : Seen} → KeptTrue s → KeptTrue (see_all cs s)
unfolding see_all
calls-true [] t = t
calls-true (c ∷ cs) t = calls-true cs (call-true t c)

fresh-true : KeptTrue fresh
unfolding cells_of
fresh-true = record { cells = refl; numbers = none; before = []; part = refl }

pub kept-true : (cs : List Call) → KeptTrue (see_all cs fresh)
kept-true cs = calls-true cs fresh-true

-- At most eight are kept, and they are the newest: the last eight of those saved since the last wipe.
pub newest-kept : (cs : List Call) → (box_of (see_all cs fresh).cells).revisions ≡ last_eight (see_all cs fresh).since
newest-kept cs = ap revisions (box-true (kept-true cs))

pub eight-kept : (cs : List Call) → length (box_of (see_all cs fresh).cells).revisions ≤ 8
eight-kept cs = rw (newest-kept cs) (eight-few (see_all cs fresh).since)

-- What is saved next is read under its new number.
pub saved-reads : (cs : List Call) (v : Settings)
    → look_up ((box_of (see_all cs fresh).cells).last + 1) (added (box_of (see_all cs fresh).cells) v).revisions ≡ Some v
unfolding added
saved-reads cs v =
    ap (λ (b : Box). look_up (b.last + 1) (added b v).revisions) (box-true (kept-true cs)) ∙ found-true (kept-true cs) v

-- The text that is saved is the text that is read.
pub text-back : (text : List ℕ) (v : Settings) → settings_in text ≡ Some v → settings_text v ≡ text
text-back text v e = sym (settings-only text v e).1

-- After a wipe nothing of the last tenant is left: every number of the revisions is 0.
pub wipe-empties : (cells : List ℕ) → laid (wiped (box_of cells)) ≡ get_or cells 0 0 ∷ replicate 40 0
unfolding cells_of
wipe-empties cells = refl
