-- Each call, from what its steps do: `put-taken`, `put-long`, `put-bad`, `put_full`, `put-no-room`, `put-fits`; `put-table`, `put-law`,
-- `put-stop`, `put-goes-on`; `get-table`, `get-stop`, `get_absent`, `get-found`; `delete-table`, `delete-stop`, `delete-absent`,
-- `delete-found`.
use Prim.Native.Nat.{ℕ, ◌+◌, ◌*◌, ◌≤◌, ◌<◌}
use mathlib.Core.Path.{◌≡◌, refl, sym, ap, subst, ◌∙◌}
use mathlib.Core.List.{List, [], ◌∷◌}
use mathlib.Core.Bool.{Bool, true, false}
use native.Mathlib.Omega.{arith}
use lib.ListN.{length, get_or}
use lib.Dec.{leb}
use borrow.Author.Tests.{lt-ltb, le-ltb, le-leb, lt-leb}
use Rattle.rules.specs.Judged.{bar}
use Rattle.rules.proofs.Judged.{judged-ap}
use Rattle.store_rows.specs.declared.rows.Row.{Row}
use Rattle.store_rows.specs.Limits.{most_greetings, size_of}
use Rattle.store_rows.specs.Rows.{held}
use Rattle.store_rows.specs.Cells.{row_at, rows_of, laid}
use Rattle.store_notes.specs.Notes.{remove_note}
use Rattle.store_notes.specs.Cells.{notes_of, notes_laid}
use Rattle.store_notes.specs.Sane.{sane_store}
use Rattle.store_rows.specs.Changed.{nth, remove_at}
use Rattle.store_greeting.specs.Bad.{is_bad}
use Rattle.store.specs.declared.Refusal.{Refusal}
use Rattle.store.specs.declared.Refusal.TheVariants.{Law, Taken, Absent, Bad, Full, NoRoom, Table}
use Rattle.std.proofs.Common.{Ok, Err}
use Rattle.store.specs.Store.{Outcome, leaves, refused, fitted, put_in, gotten, get_in, without, delete_in}
use Rattle.store.specs.Calls.{Answer, on_table, put_of, get_of, delete_of, Says, Put, Get, Delete}
use Rattle.store.specs.Looking.{look_of, Looked, long_of}
use Rattle.store_rows.proofs.Cells.{nth-rows}
use Rattle.store.proofs.Looks.{look-stops, many, taken, free, on-table, off-table}
use Rattle.store.proofs.Fitted.{rows-less}
use Rattle.store_notes.proofs.Stored.{stored-less}

pub says-refused : {o : Outcome} {w : Refusal} (b t : List ℕ) → o ≡ refused w → Says o b t b t (Err w)
says-refused b t e = rw e (record { answer = refl; block = refl; table = refl })

-- the same, in the code's order
module _ (n law : ℕ) (xs : List ℕ) where
  pub long-bad : is_bad law xs ≡ true → long_of n law xs ≡ Bad
  unfolding long_of
  long-bad e = rw e

  pub long-full : is_bad law xs ≡ false → 32 ≤ n → long_of n law xs ≡ Full
  unfolding long_of
  long-full e h = rw (e, le-leb 32 n h)

  pub long-room : is_bad law xs ≡ false → n < 32 → long_of n law xs ≡ NoRoom
  unfolding long_of
  long-room e h = rw (e, lt-leb 32 n h)

-- put, once the table, the law and the number were judged
module _ (b t : List ℕ) (size law x : ℕ) (xs : List ℕ) {n i : ℕ} (k : Looked size t x n i) (l : law ≤ 1) where
  abbrev put_is : Outcome
  put_is = put_in b size (rows_of t) (notes_of t) law x xs

  pub put-taken : i < n → Says put_is b t b t (Err Taken)
  unfolding put_in
  put-taken h = says-refused b t (rw (le-leb law 1 l, k.allowed, taken size t x k h))

  module _ (h : n ≤ i) where
    pub put-long : {w : Refusal} → w ≡ long_of n law xs → size < length xs → Says put_is b t b t (Err w)
    unfolding put_in long_of
    put-long {w} e g =
        let over = lt-ltb size (held (rows_of t) + length xs) (omega arith) in
        says-refused b t
        (rw (le-leb law 1 l, k.allowed, free size t x k h, many size t x k, over, e)
        (sym (judged-ap refused (λ w. w) NoRoom (bar Bad (is_bad law xs) ∷ bar Full (leb most_greetings n) ∷ []))))

    pub put-bad : is_bad law xs ≡ true → Says put_is b t b t (Err Bad)
    unfolding put_in
    put-bad g = says-refused b t (rw (le-leb law 1 l, k.allowed, free size t x k h, g))

    module _ (g : is_bad law xs ≡ false) where
      pub put_full : 32 ≤ n → Says put_is b t b t (Err Full)
      unfolding put_in
      put_full f = says-refused b t (rw (le-leb law 1 l, k.allowed, free size t x k h, g, many size t x k, le-leb 32 n f))

      module _ (f : n < 32) {behind : ℕ} (p : behind ≡ held (rows_of t)) where
        pub put-no-room : size < behind + length xs → Says put_is b t b t (Err NoRoom)
        unfolding put_in
        put-no-room m =
            says-refused b t
            (rw (le-leb law 1 l, k.allowed, free size t x k h, g, many size t x k, lt-leb 32 n f, ← p, lt-ltb size (behind + length xs) m))

        pub put-fits : {b' t' : List ℕ} {r : Answer} → behind + length xs ≤ size
            → Says (leaves (fitted b (rows_of t) (notes_of t) size law x xs)) b t b' t' r → Says put_is b t b' t' r
        unfolding put_in
        put-fits {b'} {t'} {r} m s =
            let fits : put_is ≡ leaves (fitted b (rows_of t) (notes_of t) size law x xs) =
            rw (le-leb law 1 l, k.allowed, free size t x k h, g, many size t x k, lt-leb 32 n f, ← p, le-ltb size (behind + length xs) m)
            in
            subst (λ (o : Outcome). Says o b t b' t' r) (sym fits) s

module _ (b t : List ℕ) {size : ℕ} (z : size ≡ size_of b) {sane : Bool} (e : sane ≡ sane_store size t) where
  judged : sane ≡ sane_store (size_of b) t
  judged = e ∙ ap (λ (y : ℕ). sane_store y t) z

  -- TABLE
  module _ (f : sane ≡ false) where
    pub put-table : (law x : ℕ) (xs : List ℕ) → Put law x xs b t b t (Err Table)
    put-table law x xs = says-refused b t (off-table (size_of b) t judged f _)

    pub get-table : (x : ℕ) → Get x b t (Err Table)
    get-table x = rw (off-table (size_of b) t judged f (get_in b (rows_of t) (notes_of t) x))

    pub delete-table : (x : ℕ) → Delete x b t t (Err Table)
    delete-table x =
        let o = off-table (size_of b) t judged f (delete_in b (rows_of t) (notes_of t) x) in
        record { answer = rw o; table = rw o }

  module _ (f : sane ≡ true) where
    on : (o : Outcome) → on_table (size_of b) t o ≡ o
    on o = on-table (size_of b) t judged f o

    pub put-law : (law x : ℕ) (xs : List ℕ) → 1 < law → Put law x xs b t b t (Err Law)
    unfolding put_in
    put-law law x xs h = says-refused b t (on _ ∙ rw (lt-leb law 1 h))

    pub put-stop : (law x : ℕ) (xs : List ℕ) {w : Refusal} → law ≤ 1 → Err w ≡ look_of t x → Put law x xs b t b t (Err w)
    unfolding put_in
    put-stop law x xs l g = says-refused b t (on _ ∙ rw (le-leb law 1 l) (look-stops t x _ g))

    pub put-goes-on : (law x : ℕ) (xs : List ℕ) {b' t' : List ℕ} {r : Answer}
        → Says (put_in b size (rows_of t) (notes_of t) law x xs) b t b' t' r → Put law x xs b t b' t' r
    put-goes-on law x xs {b'} {t'} {r} s =
        let whole : put_of b t law x xs ≡ put_in b size (rows_of t) (notes_of t) law x xs =
        on (put_in b (size_of b) (rows_of t) (notes_of t) law x xs) ∙ ap (λ (y : ℕ). put_in b y (rows_of t) (notes_of t) law x xs) (sym z)
        in
        subst (λ (o : Outcome). Says o b t b' t' r) (sym whole) s

    module _ (x : ℕ) where
      get_refused : {w : Refusal} → get_of b t x ≡ refused w → Get x b t (Err w)
      get_refused g = rw g

      pub get-stop : {w : Refusal} → Err w ≡ look_of t x → Get x b t (Err w)
      unfolding get_in
      get-stop g = get_refused (on _ ∙ look-stops t x _ g)

      delete-refused : {w : Refusal} → delete_of b t x ≡ refused w → Delete x b t t (Err w)
      delete-refused g = record { answer = rw g; table = rw g }

      pub delete-stop : {w : Refusal} → Err w ≡ look_of t x → Delete x b t t (Err w)
      unfolding delete_in
      delete-stop g = delete-refused (on _ ∙ look-stops t x _ g)

      module _ {n i : ℕ} (k : Looked size t x n i) where
        pub get_absent : n ≤ i → Get x b t (Err Absent)
        unfolding get_in
        get_absent h = get_refused (on _ ∙ rw (k.allowed, free size t x k h))

        get-is : i < n → get_of b t x ≡ leaves (gotten b (rows_of t) (notes_of t) (nth i (rows_of t)))
        unfolding get_in
        get-is h = on _ ∙ rw (k.allowed, taken size t x k h, ← k.place)

        pub get-found : {r : Row} → i < n → r ≡ row_at t (1 + 3 * i) → Get x b t (Ok (r.start, r.octets))
        get-found h g =
            let c = k.count in
            let row = nth-rows t (get_or t 0 0) 1 i (omega arith) in
            rw (get-is h, row, g)

        pub delete-absent : n ≤ i → Delete x b t t (Err Absent)
        unfolding delete_in
        delete-absent h = delete-refused (on _ ∙ rw (k.allowed, free size t x k h))

        delete-is : i < n → delete_of b t x ≡ leaves (without b (rows_of t) (notes_of t) i)
        unfolding delete_in
        delete-is h = on _ ∙ rw (k.allowed, taken size t x k h, ← k.place)

        pub delete-found : {t₁ t' : List ℕ} → i < n → t₁ ≡ laid (remove_at i (rows_of t)) t → t' ≡ notes_laid (remove_note i (notes_of t₁)) t₁
            → Delete x b t t' (Ok (0, 0))
        delete-found h g v =
            let s = stored-less (remove_at i (rows_of t)) t (rows-less t i k.noted.order.few) g i v in
            record { answer = rw (delete-is h); table = rw (delete-is h) s }
