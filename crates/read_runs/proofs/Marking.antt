-- Laws of cells that are marked up to a place (specs/Reached).
use Prim.Native.Nat.{ℕ, suc, ◌+◌, ◌-◌, ◌≤◌, ◌<◌}
use mathlib.Core.Path.{◌≡◌, sym, ap, ◌∙◌}
use mathlib.Core.List.{List, [], ◌∷◌, ◌++◌, append_assoc}
use native.Mathlib.Omega.{arith}
use native.Mathlib.Nat.{sub-zero}
use lib.Dec.{lit<}
use lib.ListN.{length, drop, set, replicate, length-append, length-drop, length-replicate, replicate-append-replicate}
use lib.Seq.{set_at, drop_at}
use Rattle.rules.specs.Reading.{Read, whole, refuse}
use Rattle.rules.proofs.Octets.{none, more, below_at, below_all, below-append, below-replicate}
use Rattle.read_bits.specs.Outcomes.{Outcome, got}
use Rattle.read_runs.specs.Flagged.{marked, kinds, Put, Marks, MarksCells}
pub use Rattle.read_runs.specs.Reached.{Marking}
use Rattle.read_runs.proofs.Ones.{marked-none, count-append}
use Rattle.read_runs.proofs.Puts.{put_first, put-length, length-kinds, kinds-append, kinds-common}
use Rattle.read_runs.proofs.Answer.{marks-got}

-- d common cells: what was past them still is
filled-rest : (d common : ℕ) {old new : List ℕ} → Put old 0 (replicate d common) new → drop d new ≡ drop d old
filled-rest d common {old} p =
    let l = length-replicate d common in
    ap (λ (t : List ℕ). drop d t) (put_first p l) ∙ drop_at (replicate d common) (drop d old) d l

-- only what is past the d cells matters of those lent
pub marks-filled : {found : Read (List ℕ)} {d far common other : ℕ} {old mid new : List ℕ} {r : Outcome}
    → MarksCells found d far common other mid new r
    → Put old 0 (replicate d common) mid → MarksCells found d far common other old new r
marks-filled {found} {d} {far} {common} {other} {old} {mid} {new} {r} t p =
    record { end = t.end; next = t.next; cells = go found t.cells; room = t.room }
  where
    go : (f : Read (List ℕ)) → Marks d common other f mid new → Marks d common other f old new
    go (whole flags next) (l, b, m) = (l, b, m ∙ ap (λ (k : List ℕ). kinds common other flags ++ k) (filled-rest d common p))
    go (refuse w at) u = tt

pub marking-none : {d common : ℕ} {old new : List ℕ} (other : ℕ) → Put old 0 (replicate d common) new → d ≤ 320
    → length old ≡ 320 → Marking d common other new new []
marking-none {d} {common} other p f b =
    let l = length-replicate d common in
    record {
      made = rw (sub-zero d, filled-rest d common p) (put_first p l);
      below = λ i. lit< tt;
      within = omega arith;
      fits = f;
      before = put-length p (omega arith) ∙ b;
    }

module _ {d common other : ℕ} {old new done : List ℕ} (g : Marking d common other old new done) where
  pub marking-room : length new ≡ 320
  marking-room =
      let s = length-kinds common other done in
      let w = g.within in
      let f = g.fits in
      let b = g.before in
      ap length g.made ∙ simp (length-append, length-replicate, length-drop) (omega arith)

  -- v more places of the common kind, and one of the other
  pub marking-mark : (v : ℕ) → length done + v < d → Marking d common other old (set new (length done + v) other)
      (done ++ (replicate v 0 ++ (1 ∷ [])))
  marking-mark v h =
      let s = length-kinds common other done in
      let m = d - (length done + v + 1) in
      let l : length (done ++ (replicate v 0 ++ (1 ∷ []))) ≡ length done + v + 1 = simp (length-append, length-replicate) (omega arith) in
      let k : length (kinds common other done ++ replicate v common) ≡ length done + v =
      simp (length-append, length-replicate) (omega arith) in
      let f : replicate (d - length done) common ≡ replicate v common ++ replicate (suc m) common =
      let e : d - length done ≡ v + suc m = omega arith in rw e (sym (replicate-append-replicate v (suc m) common))
      in
      let r : kinds common other (done ++ (replicate v 0 ++ (1 ∷ []))) ≡ kinds common other done ++ (replicate v common ++ (other ∷ [])) =
      rw (
        kinds-append common other done (replicate v 0 ++ (1 ∷ [])),
        kinds-append common other (replicate v 0) (1 ∷ []),
        kinds-common common other v,
      )
      in
      record {
        made =
            rw (
              g.made,
              f,
              l,
              r,
              append_assoc (replicate v common) (replicate (suc m) common) (drop d old),
              ← append_assoc (kinds common other done) (replicate v common) (replicate (suc m) common ++ drop d old),
              set_at (kinds common other done ++ replicate v common) common (replicate m common ++ drop d old) other (length done + v) k,
            )
            (simp append_assoc);
        below = below_at (below-append (below_all done g.below)
            (below-append (below-replicate v {x = 0} (lit< tt)) (more (lit< tt) none))) (lit< tt);
        within = omega arith;
        fits = g.fits;
        before = g.before;
      }

  -- the others are v common places, and were read as such
  pub marking-all : {found : Read (List ℕ)} {far count next : ℕ} (v : ℕ) → length done + v ≡ d
      → found ≡ whole (done ++ replicate v 0) next → marked done ≡ count → next ≤ far
      → MarksCells found d far common other old new (got count next)
  marking-all {count = count} v h e c n =
      let k : d - length done ≡ v = omega arith in
      let o : marked (done ++ replicate v 0) ≡ count = let z = marked-none v in simp count-append (omega arith) in
      let r : kinds common other (done ++ replicate v 0) ≡ kinds common other done ++ replicate v common =
      kinds-append common other done (replicate v 0) ∙ ap (λ (t : List ℕ). kinds common other done ++ t) (kinds-common common other v)
      in
      marks-got e o (simp (length-append, length-replicate) (omega arith))
      (below-append (below_all done g.below) (below-replicate v {x = 0} (lit< tt)))
      (g.made ∙ rw (k, r) (sym (append_assoc (kinds common other done) (replicate v common) (drop d old)))) g.fits g.before n
