-- R-6: "Every other greeting reads the same after each call", over any list of calls: a greeting that is there reads the same until it is
-- deleted or a table is loaded (`reads-stays`). So one that was put reads as it was put (`put-reads-stays`), and a get tells where
-- (`get-stays`).
use Prim.Native.Nat.{ℕ}
use mathlib.Core.Path.{◌≡◌, refl, sym, subst, ◌∙◌}
use mathlib.Core.List.{List, [], ◌∷◌}
use native.Mathlib.Decide.{ℕ_discrete}
use Rattle.store_rows.specs.Rows.{contents}
use Rattle.store_rows.specs.Cells.{rows_of}
use Rattle.store_notes.specs.Cells.{stored}
use Rattle.store.specs.Store.{Outcome, leaves, refused, After}
use Rattle.store.specs.Calls.{put_of, delete_of, block_after, table_after}
use Rattle.store_promises.specs.Told.{Call, putting, getting, deleting, saving, loading, Store, rows_in, see, see_all, Leaves}
use Rattle.store_promises.specs.Kept.{here, look_up}
use Rattle.store_promises.proofs.Numbers.{Fresh}
use Rattle.store_promises.proofs.Looked.{fresh-missing}
use Rattle.store_promises.proofs.Granted.{put-granted, put-fresh, put_back, delete-back, delete-block}
use Rattle.store_promises.proofs.Promises.{put-reads-new, put-reads-others, delete-reads-others, not-missing, GotBack, got-there}
use Rattle.store_promises.proofs.Promises.{Keeps, call_kept, calls-kept}

module _ (x : ℕ) (xs : List ℕ) where
  abbrev Has : List ℕ → List ℕ → Type 0
  Has b t = look_up x (contents b (rows_of t)) ≡ here xs

  after-put : (b t : List ℕ) (law y : ℕ) (ys : List ℕ) → Has b t → (o : Outcome) → put_of b t law y ys ≡ o
      → Has (block_after o b) (table_after o t)
  after-put b t law y ys h (refused w) e = h
  after-put b t law y ys h (leaves a) e = rw (put_back b t law y ys e).rows_are (go (ℕ_discrete y x))
    where
      go : Dec (y ≡ x) → look_up x (contents a.block a.rows) ≡ here xs
      go (no d) = put-reads-others b t law y ys e x d ∙ h
      go (yes q) =
          let f = subst (λ (k : ℕ). Fresh k (rows_of t)) q (put-fresh b t law y ys e) in
          not-missing (sym (fresh-missing x b (rows_of t) f) ∙ h)

  after-delete : (b t : List ℕ) (y : ℕ) → (y ≡ x → ⊥) → Has b t → (o : Outcome) → delete_of b t y ≡ o → Has b (table_after o t)
  after-delete b t y d h (refused w) e = h
  after-delete b t y d h (leaves a) e =
      let w = delete-reads-others b t y e x d ∙ h in
      rw (delete-back b t y e).rows_are (rw (delete-block b t y e) at w)

  pub reads-stays : (cs : List Call) (s : Store) → Leaves x cs → Has s.block s.table → Has (see_all cs s).block (see_all cs s).table
  unfolding see_all Leaves
  reads-stays [] s l h = h
  reads-stays (putting law y ys ∷ cs) s l h =
      reads-stays cs (see (putting law y ys) s) l (after-put s.block s.table law y ys h (put_of s.block s.table law y ys) refl)
  reads-stays (getting y ∷ cs) s l h = reads-stays cs (see (getting y) s) l h
  reads-stays (deleting y ∷ cs) s l h =
      reads-stays cs (see (deleting y) s) l.1 (after-delete s.block s.table y l.0 h (delete_of s.block s.table y) refl)
  reads-stays (saving room ∷ cs) s l h = reads-stays cs (see (saving room) s) l h
  reads-stays (loading text ∷ cs) s l h = absurd l

module _ (s : Store) (law x : ℕ) (xs : List ℕ) (a : After) (e : put_of s.block s.table law x xs ≡ leaves a) (cs : List Call)
    (l : Leaves x cs) where
  abbrev after : Store
  after = see_all cs (see (putting law x xs) s)

  pub put-reads-stays : look_up x (contents after.block (rows_in after)) ≡ here xs
  put-reads-stays =
      let b : block_after (put_of s.block s.table law x xs) s.block ≡ a.block = rw e in
      let t : table_after (put_of s.block s.table law x xs) s.table ≡ stored a.rows a.notes s.table = rw e in
      reads-stays x xs cs (see (putting law x xs) s) l
      (rw (b, t, (put_back s.block s.table law x xs e).rows_are) (put-reads-new s.block s.table law x xs e))

  pub get-stays : {size : ℕ} → Keeps size s → GotBack after.block after.table x xs
  get-stays {size} k =
      let q = calls-kept size cs (see (putting law x xs) s) (call_kept size (putting law x xs) s k) in
      got-there after.block after.table x xs q.sane (put-granted s.block s.table law x xs a e).number put-reads-stays
