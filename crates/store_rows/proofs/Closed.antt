-- Closing up, row by row: one `-snoc` law for each definition, then `close-none`, `close-turn`, `close-all`.
use Prim.Native.Nat.{ℕ, suc, ◌+◌, ◌*◌, ◌≤◌, ◌<◌}
use mathlib.Core.Path.{◌≡◌, refl, sym, ap, ◌∙◌}
use mathlib.Core.List.{List, [], ◌∷◌, ◌++◌, append_assoc, append-nil}
use mathlib.Core.Bool.{Bool, true, false, cond}
use native.Mathlib.Omega.{arith}
use native.Mathlib.Nat.{zero-add}
use lib.ListN.{length, take, drop, get_or, set, length-append, length-take, length-drop, length-set}
use lib.Seq.{paste, paste-zero, length-paste, take_at, drop_at, drop-cons}
use lib.Dec.{eqb}
use Rattle.store_rows.specs.declared.rows.Row.{Row}
use Rattle.store_rows.specs.Rows.{held, greeting}
use Rattle.store_rows.specs.Cells.{row_at, rows_at, rows_of, cells_of, laid}
use Rattle.store_rows.specs.Sane.{Ordered}
use Rattle.store_rows.specs.Closing.{moved_to, closed_rows, bodies, closed_block, moved_one, moved_from, Closes}
use Rattle.std.proofs.lemmas.Bool.{eqb-true}
use Rattle.store_rows.proofs.Lists.{same_drop}
use Rattle.store_rows.proofs.Shifting.{shift_same}
use Rattle.store_rows.proofs.Cells.{row_same, rows_snoc, length-rows, held-snoc, cells-snoc, length-cells, drop-three, set-second}
use Rattle.store_rows.proofs.Rising.{Next, rising-next}

pub bodies-snoc : (b : List ℕ) (rs : List Row) (r : Row) → bodies b (rs ++ (r ∷ [])) ≡ bodies b rs ++ greeting b r
unfolding bodies
bodies-snoc b [] r = append-nil (greeting b r)
bodies-snoc b (a ∷ rs) r =
    ap (λ (x : List ℕ). greeting b a ++ x) (bodies-snoc b rs r) ∙ sym (append_assoc (greeting b a) (bodies b rs) (greeting b r))

pub closed-snoc : (at : ℕ) (rs : List Row) (r : Row) → closed_rows at (rs ++ (r ∷ [])) ≡ closed_rows at rs ++ (moved_to (at + held rs) r ∷ [])
unfolding closed_rows held
closed-snoc at [] r = ap (λ (x : ℕ). moved_to x r ∷ []) (omega arith)
closed-snoc at (a ∷ rs) r =
    let next = at + a.octets in
    ap (λ (x : List Row). moved_to at a ∷ x) (closed-snoc next rs r ∙ ap (λ (x : ℕ). closed_rows next rs ++ (moved_to x r ∷ [])) (omega arith))

pub moved-snoc : (at : ℕ) (rs : List Row) (r : Row)
    → moved_from at (rs ++ (r ∷ [])) ≡ moved_from at rs + moved_one r.start (at + held rs) r.octets
unfolding moved_from held
moved-snoc at [] r = let e : at + 0 ≡ at = omega arith in rw e (omega arith)
moved-snoc at (a ∷ rs) r =
    let e : at + a.octets + held rs ≡ at + (a.octets + held rs) = omega arith in
    let f = rw e at (moved-snoc (at + a.octets) rs r) in
    omega (arith, f)

pub length-closed : (at : ℕ) (rs : List Row) → length (closed_rows at rs) ≡ length rs
unfolding closed_rows
length-closed at [] = refl
length-closed at (r ∷ rs) = ap suc (length-closed (at + r.octets) rs)

pub moved-few : (start to octets : ℕ) → moved_one start to octets ≤ octets
moved-few start to octets = go (eqb start to)
  where
    go : (b : Bool) → cond b 0 octets ≤ octets
    go true = omega arith
    go false = omega arith

-- octets that stay where they are, not moved
pub settled : {m : ℕ} (b : List ℕ) (start to octets : ℕ) → m ≡ moved_one start to octets → to + octets ≤ length b
    → paste b to (drop start b) m ≡ paste b to (drop start b) octets
settled b start to octets e h = ap (λ (x : ℕ). paste b to (drop start b) x) e ∙ go (eqb start to) refl
  where
    go : (x : Bool) → eqb start to ≡ x → paste b to (drop start b) (cond x 0 octets) ≡ paste b to (drop start b) octets
    go true f =
        let g = eqb-true start to f in
        rw g (sym (paste-zero b to (drop to b)) ∙ shift_same b to octets h)
    go false f = refl

-- i rows closed up
pub record Closing (size : ℕ) (b₀ t₀ : List ℕ) (i : ℕ) (b t : List ℕ) (to m : ℕ) : Type 0 where
  pub block : b ≡ bodies b₀ (rows_at t₀ i 1) ++ drop to b₀
  pub long : length (bodies b₀ (rows_at t₀ i 1)) ≡ to
  pub table : t ≡ (get_or t₀ 0 0 ∷ cells_of (closed_rows 0 (rows_at t₀ i 1))) ++ drop (1 + 3 * i) t₀
  pub to_is : to ≡ held (rows_at t₀ i 1)
  pub moved : m ≡ moved_from 0 (rows_at t₀ i 1)
  pub few : m ≤ to
  pub inside : to ≤ size
  pub within : i ≤ get_or t₀ 0 0
  pub block_size : length b ≡ length b₀
  pub table-size : length t ≡ length t₀

module _ {size : ℕ} {b₀ t₀ : List ℕ} (o : Ordered size t₀) (fits : size ≤ length b₀) where
  pub close-none : Closing size b₀ t₀ 0 b₀ t₀ 0 0
  unfolding rows_at bodies closed_rows cells_of held moved_from
  close-none =
      record {
        block = refl;
        long = refl;
        table = drop-cons t₀ 0 0 (omega (arith, o.cells));
        to_is = refl;
        moved = refl;
        few = omega arith;
        inside = omega arith;
        within = omega arith;
        block_size = refl;
        table-size = refl;
      }

  module _ {i : ℕ} {b t : List ℕ} {to m : ℕ} (c : Closing size b₀ t₀ i b t to m) where
    pub close-all : get_or t₀ 0 0 ≤ i → Closes b₀ t₀ (rows_of t₀) b t m
    unfolding laid
    close-all h =
        let e : i ≡ get_or t₀ 0 0 = omega (arith, c.within) in
        let l = length-closed 0 (rows_of t₀) ∙ length-rows t₀ (get_or t₀ 0 0) 1 in
        record {
          block =
              c.block ∙ ap (λ (x : ℕ). bodies b₀ (rows_at t₀ i 1) ++ drop x b₀) c.to_is
              ∙ ap (λ (x : ℕ). closed_block b₀ (rows_at t₀ x 1)) e;
          table = rw l (c.table ∙ ap (λ (x : ℕ). (get_or t₀ 0 0 ∷ cells_of (closed_rows 0 (rows_at t₀ x 1))) ++ drop (1 + 3 * x) t₀) e);
          moved = c.moved ∙ ap (λ (x : ℕ). moved_from 0 (rows_at t₀ x 1)) e;
        }

    module _ (h : i < get_or t₀ 0 0) where
      pub close-next : Next 1 to size (row_at t₀ (1 + 3 * i))
      close-next = rw c.to_is (rw zero-add at (rising-next t₀ 1 size 0 (get_or t₀ 0 0) 1 i h o.rises))

      cells-length : length (get_or t₀ 0 0 ∷ cells_of (closed_rows 0 (rows_at t₀ i 1))) ≡ 1 + 3 * i
      cells-length = omega (arith, length-cells (closed_rows 0 (rows_at t₀ i 1)), length-closed 0 (rows_at t₀ i 1), length-rows t₀ i 1)

      pub row_here : row_at t (1 + 3 * i) ≡ row_at t₀ (1 + 3 * i)
      row_here =
          row_same t t₀ (1 + 3 * i) (ap (λ (x : List ℕ). drop (1 + 3 * i) x) c.table
          ∙ drop_at (get_or t₀ 0 0 ∷ cells_of (closed_rows 0 (rows_at t₀ i 1))) (drop (1 + 3 * i) t₀) (1 + 3 * i) cells-length)

      table-turn : set t (1 + 3 * i + 1) to ≡ (get_or t₀ 0 0 ∷ cells_of (closed_rows 0 (rows_at t₀ (i + 1) 1))) ++ drop (1 + 3 * (i + 1)) t₀
      table-turn =
          let k = 1 + 3 * i in
          let done = rows_at t₀ i 1 in
          let p = get_or t₀ 0 0 ∷ cells_of (closed_rows 0 done) in
          let f = o.few in
          let g = o.cells in
          let z : 1 + 3 * i + 3 ≡ 1 + 3 * (i + 1) = omega arith in
          let x : 0 + held done ≡ to = omega (arith, c.to_is) in
          ap (λ (x : List ℕ). set x (k + 1) to) (c.table ∙ ap (λ (x : List ℕ). p ++ x) (drop-three t₀ k (omega arith)))
          ∙ set-second p (drop (k + 3) t₀) (get_or t₀ k 0) (get_or t₀ (k + 1) 0) (get_or t₀ (k + 2) 0) to k cells-length
          ∙ rw (rows_snoc t₀ i 1, closed-snoc 0 done (row_at t₀ k), x, cells-snoc, ← z)
          (sym (append_assoc p (get_or t₀ k 0 ∷ to ∷ get_or t₀ (k + 2) 0 ∷ []) (drop (k + 3) t₀)))

      block-turn : paste b to (drop (get_or t₀ (1 + 3 * i + 1) 0) b) (get_or t₀ (1 + 3 * i + 2) 0)
          ≡ bodies b₀ (rows_at t₀ (i + 1) 1) ++ drop (to + get_or t₀ (1 + 3 * i + 2) 0) b₀
      block-turn =
          let k = 1 + 3 * i in
          let s = get_or t₀ (k + 1) 0 in
          let n = get_or t₀ (k + 2) 0 in
          let x = close-next in
          let body = bodies b₀ (rows_at t₀ i 1) in
          let u : take to b ≡ body = ap (λ (x : List ℕ). take to x) c.block ∙ take_at body (drop to b₀) to c.long in
          let d : drop to b ≡ drop to b₀ = ap (λ (x : List ℕ). drop to x) c.block ∙ drop_at body (drop to b₀) to c.long in
          rw (
            u,
            same_drop to s b b₀ d x.above,
            same_drop to (to + n) b b₀ d (omega arith),
            rows_snoc t₀ i 1,
            bodies-snoc b₀ (rows_at t₀ i 1) (row_at t₀ k),
          )

      close-turn₀ : Closing size b₀ t₀ (i + 1) (paste b to (drop (get_or t₀ (1 + 3 * i + 1) 0) b) (get_or t₀ (1 + 3 * i + 2) 0))
          (set t (1 + 3 * i + 1) to) (to + get_or t₀ (1 + 3 * i + 2) 0)
          (m + moved_one (get_or t₀ (1 + 3 * i + 1) 0) to (get_or t₀ (1 + 3 * i + 2) 0))
      close-turn₀ =
          let k = 1 + 3 * i in
          let done = rows_at t₀ i 1 in
          let s = get_or t₀ (k + 1) 0 in
          let n = get_or t₀ (k + 2) 0 in
          let x = close-next in
          let e = rows_snoc t₀ i 1 in
          let z : 0 + held done ≡ to = omega (arith, c.to_is) in
          let l = length-drop s b in
          record {
            block = block-turn;
            long = rw (e, bodies-snoc b₀ done (row_at t₀ k), length-append, c.long, length-take, length-drop) (omega (arith, x.inside));
            table = table-turn;
            to_is = rw (e, held-snoc done (row_at t₀ k), ← c.to_is);
            moved = rw (e, moved-snoc 0 done (row_at t₀ k), z, ← c.moved);
            few = omega (arith, c.few, moved-few s to n);
            inside = omega (arith, x.above, x.inside);
            within = omega arith;
            block_size =
                length-paste b to (drop s b) n (omega (arith, x.above, x.inside, c.block_size)) (omega (arith, x.inside, c.block_size))
                ∙ c.block_size;
            table-size = length-set t (k + 1) to ∙ c.table-size;
          }

      pub close-turn : {b' : List ℕ} {r : Row} {d : ℕ} → r ≡ row_at t (1 + 3 * i) → b' ≡ paste b to (drop r.start b) r.octets
          → d ≡ moved_one r.start to r.octets → Closing size b₀ t₀ (i + 1) b' (set t (1 + 3 * i + 1) to) (to + r.octets) (m + d)
      close-turn e f g = rw (f, g, e ∙ row_here) close-turn₀
