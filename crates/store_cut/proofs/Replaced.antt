-- A replace: a put under a number that is not in use, and then the swap of the two. `replace-whole`: wherever either is cut, the old
-- greeting reads as it did until the new one reads under its number.
use Prim.Native.Nat.{ℕ, ◌≤◌, min}
use mathlib.Core.Path.{◌≡◌, refl, sym, ap, subst, ◌∙◌}
use mathlib.Core.List.{List, ◌∷◌, ◌++◌}
use native.Mathlib.Omega.{arith}
use lib.ListN.{length}
use Rattle.store_rows.specs.declared.rows.Row.{Row}
use Rattle.store_rows.specs.Limits.{largest_block, size_of}
use Rattle.store_rows.specs.Rows.{greeting, Kept, contents}
use Rattle.store_rows.specs.Cells.{rows_of}
use Rattle.store_rows.proofs.Cells.{rows-laid}
use Rattle.store_notes.specs.Sane.{store_cells}
use Rattle.store.specs.Store.{Outcome, leaves, refused}
use Rattle.store.specs.Calls.{put_of, delete_of, table_after}
use Rattle.store_promises.specs.Told.{putting, deleting, Store, rows_in, see}
use Rattle.store_promises.specs.Kept.{Octets, here, missing, look_up}
use Rattle.store_promises.proofs.Contents.{kept, contents-append, contents-cons}
use Rattle.store_promises.proofs.Numbers.{Fresh, Distinct, fresh-of, fresh-append, distinct-behind}
use Rattle.store_promises.proofs.Looked.{fresh-missing, look-put}
use Rattle.store_promises.proofs.Granted.{sane-distinct, delete-back, delete-block}
use Rattle.store_promises.proofs.Promises.{put-reads-new, put-reads-others, delete-reads-others, call_kept}
use Rattle.store_moves.specs.Next.{renumbered_to, Changed, changes, not-next, refused as declined}
use Rattle.store_cut.specs.Lasting.{Lasting}
use Rattle.store_cut.specs.Runs.{Asks, put, swap, swap_of, swapped, asked, found, cut_in, Goes, contents_of, Holds, as_before, as-after}
use Rattle.store_cut.proofs.Cut.{Either, before, after}
use Rattle.store_cut.proofs.Calls.{next-block, next-rows}
use Rattle.store_cut.proofs.Tables.{unchanged, renumber-only}
use Rattle.store_cut.proofs.Puts.{put_refused}
use Rattle.store_cut.proofs.Runs.{Ready, gone, swap-deleted, entry-holds}

no-octets : {A : Type 0} {o : List ℕ} → missing ≡ here o → A
no-octets e = let z : ◌≡◌ {A = ℕ} 0 1 = cc in absurd (omega arith)

not-fresh : (x : ℕ) (r : Row) (post : List Row) → Fresh x (r ∷ post) → r.number ≡ x → ⊥
unfolding Fresh
not-fresh x r post g q = g.0 q

-- what is there is what was put
as-put : {u v : Octets} {o xs : List ℕ} → Either (u ≡ missing) (u ≡ here xs) → u ≡ here o → v ≡ here o → v ≡ here xs
as-put (before e) p q = no-octets (sym e ∙ p)
as-put (after e) p q = q ∙ sym p ∙ e

-- what one greeting among others reads
row_reads : (b : List ℕ) (x : ℕ) (rows pre : List Row) (r : Row) (post : List Row) → rows ≡ pre ++ (r ∷ post) → r.number ≡ x → Fresh x pre
    → look_up x (contents b rows) ≡ here (greeting b r)
row_reads b x rows pre r post e n f =
    ap (λ (rs : List Row). look_up x (contents b rs)) e
    ∙ ap (look_up x) (contents-append b pre (r ∷ post) ∙ ap (λ (ks : List Kept). contents b pre ++ ks) (contents-cons b r post)
    ∙ ap (λ (k : ℕ). contents b pre ++ (kept k (greeting b r) ∷ contents b post)) n)
    ∙ look-put x (greeting b r) (contents b pre) (contents b post) (fresh-missing x b pre f)

module _ {size : ℕ} {t : List ℕ} {l : Lasting} (z : Ready size t l) (old new : ℕ) where
  abbrev s : Store
  s = found t l

  -- a swap that is made: what read under the one number reads under the other
  pub record Took (s' : Store) : Type 0 where
    pub octets : List ℕ
    pub there : look_up new (contents_of s) ≡ here octets
    pub now : look_up old (contents_of s') ≡ here octets

  took : {rows : List Row} (o : Outcome) → delete_of s.block s.table old ≡ o → swap_of s.block s.table old new o ≡ changes rows
      → Took (swapped s (gone z old) (changes rows))
  took (refused w) e h = unchanged h
  took {rows} (leaves a) e h =
      let n = renumber-only (rows_in (gone z old)) new old (swap-deleted z old new (leaves a) e h) in
      let f = n.found in
      let b = s.block in
      let k = call_kept size (deleting old) s z.keeps in
      let fresh = subst (Fresh old) f.is (fresh-of old (rows_in (gone z old)) n.free) in
      let apart = fresh-append old f.before (f.row ∷ f.behind) fresh in
      let d = distinct-behind f.before f.row f.behind
      (subst Distinct f.is (sane-distinct (size_of b) (gone z old).table k.sane)) in
      let other : old ≡ new → ⊥ = λ q. not-fresh old f.row f.behind apart.1 (f.number ∙ sym q) in
      let w = delete-back b s.table old e in
      let rows_are : rows_in (gone z old) ≡ a.rows = ap (λ (o : Outcome). rows_of (table_after o s.table)) e ∙ w.rows_are in
      let left_there : look_up new (contents_of (gone z old)) ≡ look_up new (contents_of s) =
      ap (λ (rs : List Row). look_up new (contents b rs)) rows_are
      ∙ ap (λ (y : List ℕ). look_up new (contents y a.rows)) (sym (delete-block b s.table old e))
      ∙ delete-reads-others b s.table old e new other in
      record {
        octets = greeting b f.row;
        there =
            sym left_there ∙ row_reads b new (rows_in (gone z old)) f.before f.row f.behind f.is f.number
            (subst (λ (x : ℕ). Fresh x f.before) f.number d.0);
        now =
            ap (λ (rs : List Row). look_up old (contents b rs)) (rows-laid rows (gone z old).table)
            ∙ row_reads b old rows f.before (renumbered_to old f.row) f.behind n.is refl apart.0;
      }

  swap-took : (c : Changed) → swap_of s.block s.table old new (delete_of s.block s.table old) ≡ c
      → Either (contents_of (swapped s (gone z old) c) ≡ contents_of s) (Took (swapped s (gone z old) c))
  swap-took (changes rows) e = after (took (delete_of s.block s.table old) refl e)
  swap-took not-next e = before refl
  swap-took (declined w) e = before refl

  -- a put under a number that is not in use
  pub record Put (xs : List ℕ) (s' : Store) : Type 0 where
    pub stays : look_up old (contents_of s') ≡ look_up old (contents_of s)
    pub new-one : Either (look_up new (contents_of s') ≡ missing) (look_up new (contents_of s') ≡ here xs)

  put-so : (law : ℕ) (xs : List ℕ) → (old ≡ new → ⊥) → look_up new (contents_of s) ≡ missing → (o : Outcome)
      → put_of s.block s.table law new xs ≡ o → Put xs (see (putting law new xs) s)
  put-so law xs other none (refused w) e =
      let a = put_refused s law new xs e in
      let c : contents_of (see (putting law new xs) s) ≡ contents_of s =
      ap (λ (y : List ℕ). contents y (rows_in (see (putting law new xs) s))) a.block ∙ ap (contents s.block) a.rows in
      record { stays = ap (look_up old) c; new-one = before (ap (look_up new) c ∙ none) }
  put-so law xs other none (leaves a) e =
      let c : contents_of (see (putting law new xs) s) ≡ contents a.block a.rows =
      ap (λ (y : List ℕ). contents y (rows_in (see (putting law new xs) s))) (next-block s law new xs e)
      ∙ ap (contents a.block) (next-rows s law new xs e) in
      record {
        stays = ap (look_up old) c ∙ put-reads-others s.block s.table law new xs e old (λ q. other (sym q));
        new-one = after (ap (look_up new) c ∙ put-reads-new s.block s.table law new xs e);
      }

-- wherever it is cut
either-reads : {t : List ℕ} {l m : Lasting} {a : Asks} → Holds t l (cut_in a) m
    → Either (contents_of (found t m) ≡ contents_of (found t l)) (contents_of (found t m) ≡ contents_of (asked a (found t l)))
either-reads (as_before y e) = before e.greetings
either-reads (as-after y e) = after e.greetings

pub record Replaced (old : ℕ) (xs : List ℕ) (s m₁ m₂ : Store) : Type 0 where
  pub put_first : look_up old (contents_of m₁) ≡ look_up old (contents_of s)
  pub old-or-new : Either (look_up old (contents_of m₂) ≡ look_up old (contents_of s)) (look_up old (contents_of m₂) ≡ here xs)

pub replace-whole : {size : ℕ} {t : List ℕ} {l m₁ m₂ : Lasting} (law old new : ℕ) (xs : List ℕ)
    → store_cells (min size largest_block) ≤ length t
    → Ready size t l → (old ≡ new → ⊥) → look_up new (contents_of (found t l)) ≡ missing → Goes t l (cut_in (put law new xs)) m₁
    → Goes t m₁ (cut_in (swap old new)) m₂ → Replaced old xs (found t l) (found t m₁) (found t m₂)
replace-whole {size} {t} {l} {m₁} {m₂} law old new xs c z other none g₁ g₂ =
    let h₁ = entry-holds z c g₁ in
    let h₂ = entry-holds h₁.0 c g₂ in
    let p = after-put (either-reads h₁.1) in
    record { put_first = p.stays; old-or-new = go h₁.0 p (either-reads h₂.1) }
  where
    after-put : Either (contents_of (found t m₁) ≡ contents_of (found t l))
        (contents_of (found t m₁) ≡ contents_of (asked (put law new xs) (found t l)))
        → Put z old new xs (found t m₁)
    after-put (before e) = record { stays = ap (look_up old) e; new-one = before (ap (look_up new) e ∙ none) }
    after-put (after e) =
        let p = put-so z old new law xs other none (put_of (found t l).block (found t l).table law new xs) refl in
        record {
          stays = ap (look_up old) e ∙ p.stays;
          new-one = subst (λ (ks : List Kept). Either (look_up new ks ≡ missing) (look_up new ks ≡ here xs)) (sym e) p.new-one;
        }

    go : (k : Ready size t m₁) → Put z old new xs (found t m₁)
        → Either (contents_of (found t m₂) ≡ contents_of (found t m₁))
        (contents_of (found t m₂) ≡ contents_of (asked (swap old new) (found t m₁)))
        → Either (look_up old (contents_of (found t m₂)) ≡ look_up old (contents_of (found t l)))
        (look_up old (contents_of (found t m₂)) ≡ here xs)
    go k p (before e) = before (ap (look_up old) e ∙ p.stays)
    go k p (after e) =
        pick (swap-took k old new (swap_of (found t m₁).block (found t m₁).table old new
        (delete_of (found t m₁).block (found t m₁).table old)) refl)
      where
        pick : Either (contents_of (asked (swap old new) (found t m₁)) ≡ contents_of (found t m₁))
            (Took k old new (asked (swap old new) (found t m₁)))
            → Either (look_up old (contents_of (found t m₂)) ≡ look_up old (contents_of (found t l)))
            (look_up old (contents_of (found t m₂)) ≡ here xs)
        pick (before q) = before (ap (look_up old) (e ∙ q) ∙ p.stays)
        pick (after w) = after (ap (look_up old) e ∙ as-put p.new-one w.there w.now)
