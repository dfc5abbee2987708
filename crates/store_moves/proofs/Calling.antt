-- The calls' steps over a table: the next move as a loop finds it (`Looking`), the octets moved (`Summing`),
-- one cell of a row told anew (`start-told`, `number-told`), the refusals in their order, and what a put would tell (`tried-put`).
use Prim.Native.Nat.{ℕ, ◌+◌, ◌*◌, ◌-◌, ◌≤◌, ◌<◌}
use mathlib.Core.Path.{◌≡◌, refl, sym, ap, ◌∙◌}
use mathlib.Core.List.{List, [], ◌∷◌, ◌++◌, append_assoc}
use mathlib.Core.Bool.{Bool, true, false, cond, not}
use native.Mathlib.Omega.{arith}
use lib.ListN.{length, take, drop, get_or, set, length-append, take-append-drop}
use lib.Seq.{drop-drop, set_at, length-take-le}
use lib.Dec.{leb, ltb}
use borrow.Author.Tests.{lt-ltb, le-ltb, le-leb, lt-leb, eq-eqb, ne_eqb}
use Rattle.rules.specs.Tools.{is_law, most_law}
use Rattle.store_rows.specs.declared.rows.Row.{Row}
use Rattle.std.proofs.Common.{Option, Some, None, Ok, Err}
use Rattle.store_rows.specs.Limits.{most_number, is_number, size_of}
use Rattle.store_rows.specs.Rows.{held}
use Rattle.store_rows.specs.Finding.{absent, find_from, place_of, lowest_gap}
use Rattle.store_rows.specs.Cells.{row_at, rows_at, rows_of, cells_of, laid}
use Rattle.store_rows.specs.Changed.{nth, row_laid}
use Rattle.store_rows.specs.Closing.{moved_to, moved_one, moved_from}
use Rattle.store_rows.specs.Sane.{Ordered}
use Rattle.store_rows.proofs.Cells.{length-rows, take-rows, drop-rows, nth-rows, cells-append, cells-cons, cells-rows}
use Rattle.store_rows.proofs.Cells.{drop-three, set-second}
use Rattle.store_rows.proofs.Changing.{front}
use Rattle.store_rows.proofs.Left.{left, left-all, left_step}
use Rattle.std.specs.Option.{is_some}
use Rattle.std.proofs.lemmas.Bool.{not-true, not-false}
use Rattle.store_rows.proofs.Finding.{place-there, held-turn}
use Rattle.store_rows.proofs.Closed.{moved-few}
use Rattle.store_rows.proofs.Rising.{rising-within}
use Rattle.store_greeting.specs.Bad.{is_bad}
use Rattle.store_greeting.specs.Marks.{Note}
use Rattle.store_notes.specs.Cells.{notes_of}
use Rattle.store_notes.specs.Sane.{sane_store}
use Rattle.store.specs.declared.Refusal.{Refusal}
use Rattle.store.specs.declared.Refusal.TheVariants.{Law, Number, Absent, Taken, Bad, Full, NoRoom, Table}
use Rattle.store.specs.Store.{leaves, refused as declined, put_at, fitted, put_in}
use Rattle.store.specs.Calls.{Answer, answer_of, put_of}
use Rattle.store_moves.specs.declared.calls.Hop.{Hop}
use Rattle.store_moves.specs.declared.calls.Unmoved.TheVariants.{NotNext, Of}
use Rattle.store_moves.specs.Next.{Due, next_from, next_of, hop_of, replace_at, moved_at, renumbered_to, renumbered_at, Changed, changes}
use Rattle.store_moves.specs.Next.{not-next}
use Rattle.store_moves.specs.Next.{refused, moved_in, renumber_in}
use Rattle.store_moves.specs.Calls.{Change, next_told, on_table, Changes}
use Rattle.store_moves.specs.Steps.{Within, gap_tells, tried_in}

-- ---- numbers

pub number_is : (x : ℕ) → 1 ≤ x → x ≤ most_number → true ≡ is_number x
number_is x h g = rw (le-leb 1 x h, le-leb x most_number g)

-- ---- the next move, and the octets moved, row by row

-- none of the i greetings seen is to be moved, and they end at `at`
pub record Looking (t : List ℕ) (n i at : ℕ) (rest : List Row) : Type 0 where
  pub next : next_from 0 0 (rows_at t n 1) ≡ next_from i at rest
  pub left_is : left t n i ≡ rest
  pub ends : at ≡ held (rows_at t i 1)

pub looking-start : (t : List ℕ) (n : ℕ) {rest : List Row} {i : ℕ} → i ≡ 0 → rest ≡ rows_at t n 1 → Looking t n i 0 rest
unfolding held rows_at
looking-start t n z e = rw (z, e) (record { next = refl; left_is = sym (left-all t n); ends = refl })

module _ {t : List ℕ} {n i at : ℕ} {rest : List Row} (k : Looking t n i at rest) where
  pub looking-end : rest ≡ [] → None ≡ next_from 0 0 (rows_at t n 1)
  unfolding next_from
  looking-end e = sym (rw e at k.next)

  module _ {r : Row} {rs : List Row} (e : rest ≡ r ∷ rs) where
    pub looking-few : i < n
    looking-few = omega (arith, ap length (k.left_is ∙ e), length-rows t (n - i) (1 + 3 * i))

    looking-step : row_at t (1 + 3 * i) ∷ left t n (i + 1) ≡ r ∷ rs
    looking-step = sym (left_step t n i refl looking-few) ∙ k.left_is ∙ e

    pub looking-row : r ≡ row_at t (1 + 3 * i)
    looking-row = let z = looking-step in cc

    looking-rest : left t n (i + 1) ≡ rs
    looking-rest = let z = looking-step in cc

    pub looking_here : (r.start ≡ at → ⊥) → (Some (i, at) ≡ next_from 0 0 (rows_at t n 1)) × Within t n (Some (i, at))
    unfolding next_from Within
    looking_here f = (sym (rw (e, ne_eqb r.start at f) at k.next), (looking-few, k.ends))

    pub looking-turn : {j : ℕ} → j ≡ i + 1 → r.start ≡ at → Looking t n j (r.start + r.octets) rs
    unfolding next_from
    looking-turn h f =
        let g = rw (e, eq-eqb r.start at f) at k.next in
        rw (h, f) (record { next = g; left_is = looking-rest; ends = held-turn t i looking-row k.ends })

-- the octets moved so far, and the rows that are left
pub record Summing (rows : List Row) (size to moved : ℕ) (rest : List Row) : Type 0 where
  pub all : moved + moved_from to rest ≡ moved_from 0 rows
  pub few : moved ≤ to
  pub inside : to + held rest ≤ size

module _ (t : List ℕ) (n size : ℕ) where
  pub summing-start : {rest : List Row} → n ≡ get_or t 0 0 → Ordered size t → rest ≡ rows_at t n 1 → Summing (rows_of t) size 0 0 rest
  summing-start c o e =
      let all = e ∙ ap (λ (k : ℕ). rows_at t k 1) c in
      record {
        all = omega (arith, ap (λ (r : List Row). moved_from 0 r) all);
        few = omega arith;
        inside = omega (arith, ap held all, rising-within 1 size (rows_of t) o.rises);
      }

module _ {rows : List Row} {size to moved : ℕ} {rest : List Row} (s : Summing rows size to moved rest) where
  module _ {r : Row} {rs : List Row} (e : rest ≡ r ∷ rs) where
    pub summing-room : to + r.octets ≤ size
    unfolding held
    summing-room = let i = rw e at s.inside in omega (arith, i)

    -- wherever it goes
    pub summing-few : {m : ℕ} (at : ℕ) → m ≡ moved_one r.start at r.octets → moved + m ≤ to + r.octets
    summing-few at q = omega (arith, q, moved-few r.start at r.octets, s.few)

    pub summing-turn : {m : ℕ} → m ≡ moved_one r.start to r.octets → Summing rows size (to + r.octets) (moved + m) rs
    unfolding moved_from held
    summing-turn q =
        let a = rw e at s.all in
        let i = rw e at s.inside in
        record { all = omega (arith, q, a); few = summing-few to q; inside = omega (arith, i) }

  pub summing-end : rest ≡ [] → moved ≡ moved_from 0 rows
  unfolding moved_from
  summing-end e = let a = rw e at s.all in omega (arith, a)

-- ---- one cell of a row told anew

pub start-set : (t : List ℕ) (k v : ℕ) → k + 3 ≤ length t → set t (k + 1) v ≡ row_laid t k (moved_to v (row_at t k))
unfolding row_laid
start-set t k v h =
    let e : t ≡ take k t ++ (get_or t k 0 ∷ get_or t (k + 1) 0 ∷ get_or t (k + 2) 0 ∷ drop (k + 3) t) =
    sym (take-append-drop k t) ∙ ap (λ (x : List ℕ). take k t ++ x) (drop-three t k h) in
    ap (λ (x : List ℕ). set x (k + 1) v) e
    ∙ set-second (take k t) (drop (k + 3) t) (get_or t k 0) (get_or t (k + 1) 0) (get_or t (k + 2) 0) v k (length-take-le k t (omega arith))

pub number-set : (t : List ℕ) (k v : ℕ) → k + 3 ≤ length t → set t k v ≡ row_laid t k (renumbered_to v (row_at t k))
unfolding row_laid
number-set t k v h =
    let e : t ≡ take k t ++ (get_or t k 0 ∷ get_or t (k + 1) 0 ∷ get_or t (k + 2) 0 ∷ drop (k + 3) t) =
    sym (take-append-drop k t) ∙ ap (λ (x : List ℕ). take k t ++ x) (drop-three t k h) in
    ap (λ (x : List ℕ). set x k v) e
    ∙ set_at (take k t) (get_or t k 0) (get_or t (k + 1) 0 ∷ get_or t (k + 2) 0 ∷ drop (k + 3) t) v k (length-take-le k t (omega arith))

-- the rows with another in the place of one
pub replaced-rows : (t : List ℕ) (n i : ℕ) (r : Row) → n ≡ get_or t 0 0 → i < n
    → replace_at i r (rows_of t) ≡ rows_at t i 1 ++ (r ∷ rows_at t (n - (i + 1)) (1 + 3 * i + 3))
replaced-rows t n i r c g =
    let k3 : 1 + 3 * (i + 1) ≡ 1 + 3 * i + 3 = omega arith in
    ap (λ (x : ℕ). replace_at i r (rows_at t x 1)) (sym c)
    ∙ ap (λ (x : List Row). x ++ (r ∷ drop (i + 1) (rows_at t n 1))) (take-rows t n 1 i (omega arith))
    ∙ ap (λ (x : List Row). rows_at t i 1 ++ (r ∷ x)) (drop-rows t n 1 (i + 1) (omega arith) ∙ ap (λ (x : ℕ). rows_at t (n - (i + 1)) x) k3)

-- and so they lie in the cells
pub row-replaced : (t : List ℕ) (n i : ℕ) (r : Row) → n ≡ get_or t 0 0 → 1 + 3 * n ≤ length t → i < n
    → row_laid t (1 + 3 * i) r ≡ laid (replace_at i r (rows_of t)) t
unfolding row_laid laid
row-replaced t n i r c h g =
    let k = 1 + 3 * i in
    let m = n - (i + 1) in
    let a = rows_at t i 1 in
    let z = rows_at t m (k + 3) in
    let end = drop (1 + 3 * n) t in
    let len : length (a ++ (r ∷ z)) ≡ n = omega (arith, length-append a (r ∷ z), length-rows t i 1, length-rows t m (k + 3)) in
    let far : k + 3 + 3 * m ≡ 1 + 3 * n = omega arith in
    let d : drop (k + 3) t ≡ cells_of z ++ end =
    sym (take-append-drop (3 * m) (drop (k + 3) t))
    ∙ ap (λ (x : List ℕ). x ++ drop (3 * m) (drop (k + 3) t)) (sym (cells-rows t m (k + 3) (omega arith)))
    ∙ ap (λ (x : List ℕ). cells_of z ++ x) (drop-drop (3 * m) (k + 3) t ∙ ap (λ (x : ℕ). drop x t) far) in
    let joined = append_assoc (cells_of a) (cells_of (r ∷ z)) end ∙ ap (λ (x : List ℕ). cells_of a ++ (x ++ end)) (cells-cons r z) in
    rw (replaced-rows t n i r c g, len, cells-append a (r ∷ z), front t i (omega arith), d, ← c) (ap (λ (x : List ℕ). n ∷ x) (sym joined))

-- ---- the table with one greeting's start, or its number, told anew

module _ (t : List ℕ) (n i : ℕ) (c : n ≡ get_or t 0 0) (h : 1 + 3 * n ≤ length t) (g : i < n) where
  abbrev row : Row
  row = row_at t (1 + 3 * i)

  pub nth-row : nth i (rows_of t) ≡ row
  nth-row = rw (← c) (nth-rows t n 1 i g)

  pub start-told : (v : ℕ) → set t (1 + 3 * i + 1) v ≡ laid (moved_at i v (rows_of t)) t
  start-told v =
      start-set t (1 + 3 * i) v (omega arith) ∙ row-replaced t n i (moved_to v row) c h g
      ∙ ap (λ (x : Row). laid (replace_at i (moved_to v x) (rows_of t)) t) (sym nth-row)

  pub number-told : (v : ℕ) → set t (1 + 3 * i) v ≡ laid (renumbered_at i v (rows_of t)) t
  number-told v =
      number-set t (1 + 3 * i) v (omega arith) ∙ row-replaced t n i (renumbered_to v row) c h g
      ∙ ap (λ (x : Row). laid (replace_at i (renumbered_to v x) (rows_of t)) t) (sym nth-row)

-- ---- a call that changes the table

pub denied : {o : Changed} {w : Refusal} (t : List ℕ) → o ≡ refused w → Changes o t t (Err (Of w))
denied t e = rw e (record { answer = refl; table = refl })

pub is-not-next : {o : Changed} (t : List ℕ) → o ≡ not-next → Changes o t t (Err NotNext)
is-not-next t e = rw e (record { answer = refl; table = refl })

pub made : {o : Changed} {rows : List Row} {t' : List ℕ} (t : List ℕ) → o ≡ changes rows → t' ≡ laid rows t → Changes o t t' (Ok tt)
made t e f = rw e (record { answer = refl; table = f })

module _ (rows : List Row) (x to : ℕ) where
  pub moved-number : is_number x ≡ false → moved_in rows x to ≡ refused Number
  unfolding moved_in
  moved-number e = rw e

  module _ (e : is_number x ≡ true) where
    pub moved-absent : absent x rows ≡ true → moved_in rows x to ≡ refused Absent
    unfolding moved_in
    moved-absent f = rw (e, f)

    module _ (f : absent x rows ≡ false) where
      pub moved-closed : next_of rows ≡ None → moved_in rows x to ≡ not-next
      unfolding moved_in
      moved-closed g = rw (e, f, g)

      module _ {i at : ℕ} (g : next_of rows ≡ Some (i, at)) where
        pub moved_other : ((nth i rows).number ≡ x → ⊥) → moved_in rows x to ≡ not-next
        unfolding moved_in
        moved_other n = rw (e, f, g, ne_eqb (nth i rows).number x n)

        pub moved-elsewhere : (nth i rows).number ≡ x → (at ≡ to → ⊥) → moved_in rows x to ≡ not-next
        unfolding moved_in
        moved-elsewhere n p = rw (e, f, g, eq-eqb (nth i rows).number x n, ne_eqb at to p)

        pub moved-there : (nth i rows).number ≡ x → at ≡ to → moved_in rows x to ≡ changes (moved_at i at rows)
        unfolding moved_in
        moved-there n p = rw (e, f, g, eq-eqb (nth i rows).number x n, eq-eqb at to p)

  pub renumber-first : is_number x ≡ false → renumber_in rows x to ≡ refused Number
  unfolding renumber_in
  renumber-first e = rw e

  module _ (e : is_number x ≡ true) where
    pub renumber-second : is_number to ≡ false → renumber_in rows x to ≡ refused Number
    unfolding renumber_in
    renumber-second f = rw (e, f)

    module _ (f : is_number to ≡ true) where
      pub renumber-absent : absent x rows ≡ true → renumber_in rows x to ≡ refused Absent
      unfolding renumber_in
      renumber-absent g = rw (e, f, g)

      module _ (g : absent x rows ≡ false) where
        pub renumber-taken : absent to rows ≡ false → renumber_in rows x to ≡ refused Taken
        unfolding renumber_in
        renumber-taken h = rw (e, f, g, h)

        pub renumber-made : absent to rows ≡ true → renumber_in rows x to ≡ changes (renumbered_at (find_from x 0 rows) to rows)
        unfolding renumber_in
        renumber-made h = rw (e, f, g, h)

-- ---- what a put would tell

fitted-tells : (b : List ℕ) (rows : List Row) (notes : List Note) (law x : ℕ) (xs : List ℕ) (p : Option (ℕ × ℕ))
    → answer_of (leaves (put_at b rows notes law x xs p)) ≡ gap_tells rows p
fitted-tells b rows notes law x xs (Some (i, at)) = refl
fitted-tells b rows notes law x xs None = refl

-- put's tests in their order: what it would answer
pub tried-put : (b : List ℕ) (size : ℕ) (rows : List Row) (notes : List Note) (law x : ℕ) (xs : List ℕ)
    → answer_of (put_in b size rows notes law x xs) ≡ tried_in size rows law x xs
unfolding put_in tried_in
tried-put b size rows notes law x xs =
    go (is_law law) (is_number x) (absent x rows) (is_bad law xs) (leb 32 (length rows)) (ltb size (held rows + length xs))
  where
    fits : answer_of (leaves (fitted b rows notes size law x xs)) ≡ gap_tells rows (lowest_gap (length xs) size rows)
    fits = fitted-tells b rows notes law x xs (lowest_gap (length xs) size rows)

    go : (l n f g q r : Bool) → answer_of (cond (not l) (declined Law)
        (cond (not n) (declined Number) (cond (not f) (declined Taken) (cond g (declined Bad) (cond q (declined Full)
        (cond r (declined NoRoom) (leaves (fitted b rows notes size law x xs))))))))
        ≡ cond (not l) (Err Law)
        (cond (not n) (Err Number) (cond (not f) (Err Taken) (cond g (Err Bad) (cond q (Err Full)
        (cond r (Err NoRoom) (gap_tells rows (lowest_gap (length xs) size rows)))))))
    go false n f g q r = refl
    go true false f g q r = refl
    go true true false g q r = refl
    go true true true true q r = refl
    go true true true false true r = refl
    go true true true false false true = refl
    go true true true false false false = fits

module _ (size : ℕ) (rows : List Row) (law x : ℕ) (xs : List ℕ) where
  pub tried-law : most_law < law → Err Law ≡ tried_in size rows law x xs
  unfolding tried_in
  tried-law h = rw (lt-leb law most_law h)

  module _ (l : law ≤ most_law) where
    pub tried-number : is_number x ≡ false → Err Number ≡ tried_in size rows law x xs
    unfolding tried_in
    tried-number n = rw (le-leb law most_law l, n)

    module _ (n : is_number x ≡ true) where
      pub tried-taken : absent x rows ≡ false → Err Taken ≡ tried_in size rows law x xs
      unfolding tried_in
      tried-taken f = rw (le-leb law most_law l, n, f)

      module _ (f : absent x rows ≡ true) where
        pub tried-bad : is_bad law xs ≡ true → Err Bad ≡ tried_in size rows law x xs
        unfolding tried_in
        tried-bad g = rw (le-leb law most_law l, n, f, g)

        module _ (g : is_bad law xs ≡ false) where
          pub tried-full : 32 ≤ length rows → Err Full ≡ tried_in size rows law x xs
          unfolding tried_in
          tried-full q = rw (le-leb law most_law l, n, f, g, le-leb 32 (length rows) q)

          module _ (q : length rows < 32) where
            pub tried-no-room : size < held rows + length xs → Err NoRoom ≡ tried_in size rows law x xs
            unfolding tried_in
            tried-no-room r = rw (le-leb law most_law l, n, f, g, lt-leb 32 (length rows) q, lt-ltb size (held rows + length xs) r)

            pub tried-fits : {a : Answer} → held rows + length xs ≤ size → a ≡ gap_tells rows (lowest_gap (length xs) size rows)
                → a ≡ tried_in size rows law x xs
            unfolding tried_in
            tried-fits r e = rw (le-leb law most_law l, n, f, g, lt-leb 32 (length rows) q, le-ltb size (held rows + length xs) r) e

-- ---- a number looked for

same-not : (a b : Bool) → not a ≡ not b → a ≡ b
same-not true true e = refl
same-not true false e = sym e
same-not false true e = sym e
same-not false false e = refl

module _ (t : List ℕ) (x : ℕ) {o : Option ℕ} {b : Bool} (e : o ≡ place_of x (rows_of t)) where
  pub find-held : b ≡ is_some o → b ≡ true → absent x (rows_of t) ≡ false
  find-held f g = not-true _ (sym (place-there x (rows_of t)) ∙ ap is_some (sym e) ∙ sym f ∙ g)

  pub find-free : b ≡ is_some o → b ≡ false → absent x (rows_of t) ≡ true
  find-free f g = not-false _ (sym (place-there x (rows_of t)) ∙ ap is_some (sym e) ∙ sym f ∙ g)

  pub find-is : {a : Bool} → is_some o ≡ not b → b ≡ a → absent x (rows_of t) ≡ a
  find-is f g = same-not _ _ (sym (place-there x (rows_of t)) ∙ ap is_some (sym e) ∙ f) ∙ g

-- ---- TABLE first

module _ {size : ℕ} {s : Bool} (b t : List ℕ) (e : size ≡ size_of b) (f : s ≡ sane_store size t) where
  judged : sane_store (size_of b) t ≡ s
  judged = ap (λ (x : ℕ). sane_store x t) (sym e) ∙ sym f

  pub table-off : s ≡ false → (o : Changed) → on_table (size_of b) t o ≡ refused Table
  table-off g o = rw (judged ∙ g)

  pub table_on : s ≡ true → (o : Changed) → on_table (size_of b) t o ≡ o
  table_on g o = rw (judged ∙ g)

  pub next-off : s ≡ false → Err Table ≡ next_told b t
  next-off g = rw (judged ∙ g)

  pub next-on : {h : Hop} → s ≡ true → h ≡ hop_of (rows_of t) (next_of (rows_of t)) → Ok h ≡ next_told b t
  next-on g h = rw (judged ∙ g, h)

  module _ (law x : ℕ) (xs : List ℕ) where
    pub try-off : s ≡ false → Err Table ≡ answer_of (put_of b t law x xs)
    try-off g = rw (judged ∙ g)

    pub try-on : {r : Answer} → s ≡ true → r ≡ tried_in size (rows_of t) law x xs → r ≡ answer_of (put_of b t law x xs)
    try-on g h =
        rw (judged ∙ g) (h ∙ ap (λ (y : ℕ). tried_in y (rows_of t) law x xs) e ∙ sym (tried-put b (size_of b) (rows_of t) (notes_of t) law x xs))

-- ---- what the next move was found to be

abbrev hop_as : Row → ℕ → Hop
hop_as r at = record { number = r.number; from = r.start; to = at; octets = r.octets }

pub within-goes : (t : List ℕ) (n : ℕ) {d : Due} {i at : ℕ} → d ≡ Some (i, at) → Within t n d → (i < n) × (at ≡ held (rows_at t i 1))
unfolding Within
within-goes t n e w = rw e at w

module _ (t : List ℕ) {n : ℕ} {d : Due} (c : n ≡ get_or t 0 0) where
  pub next-is : {x : Due} → d ≡ x → d ≡ next_from 0 0 (rows_at t n 1) → next_of (rows_of t) ≡ x
  next-is e f = ap (λ (k : ℕ). next_from 0 0 (rows_at t k 1)) (sym c) ∙ sym f ∙ e

  pub hop-none : d ≡ None → d ≡ next_from 0 0 (rows_at t n 1)
      → ◌≡◌ {A = Hop} (record { number = 0; from = 0; to = 0; octets = 0 }) (hop_of (rows_of t) (next_of (rows_of t)))
  hop-none e f = ap (λ (x : Due). hop_of (rows_of t) x) (sym (next-is e f))

  pub hop-next : {i at : ℕ} {r : Row} → d ≡ Some (i, at) → d ≡ next_from 0 0 (rows_at t n 1) → Within t n d → r ≡ row_at t (1 + 3 * i)
      → ◌≡◌ {A = Hop} (record { number = r.number; from = r.start; to = at; octets = r.octets }) (hop_of (rows_of t) (next_of (rows_of t)))
  hop-next {i} {at} {r} e f w g =
      let q : r ≡ nth i (rows_of t) =
      g ∙ sym (ap (λ (k : ℕ). nth i (rows_at t k 1)) (sym c) ∙ nth-rows t n 1 i (within-goes t n e w).0) in
      ap (λ (y : Row). hop_as y at) q ∙ ap (λ (x : Due). hop_of (rows_of t) x) (sym (next-is e f))

-- ---- what a put tells, by the gap

pub tells-gap : {p : Option (ℕ × ℕ)} {i at : ℕ} (rows : List Row) → Some (i, at) ≡ p → Ok (at, 0) ≡ gap_tells rows p
tells-gap rows e = ap (λ (q : Option (ℕ × ℕ)). gap_tells rows q) e

pub tells-behind : {p : Option (ℕ × ℕ)} {h m : ℕ} (rows : List Row) → None ≡ p → h ≡ held rows → m ≡ moved_from 0 rows → Ok (h, m) ≡ gap_tells rows p
tells-behind rows e f g = rw (f, g) (ap (λ (q : Option (ℕ × ℕ)). gap_tells rows q) e)

pub same-changes : {o q : Changed} {t t' : List ℕ} {r : Change} → o ≡ q → Changes q t t' r → Changes o t t' r
same-changes e c = rw e c
