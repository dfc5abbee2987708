-- A start over the record's words, after any cuts of a move: the move as a whole, and the other page in use (`start-whole-move`).
use Prim.Native.Nat.{ℕ, zero, suc, ◌+◌, ◌-◌, ◌≤◌, ◌<◌}
use mathlib.Core.Path.{◌≡◌, refl, ap, ◌∙◌}
use mathlib.Core.List.{List, [], ◌∷◌}
use lib.ListN.{drop}
use lib.Seq.{paste}
use Rattle.store_rows.specs.Limits.{size_of}
use Rattle.store_moves.specs.declared.steps.State.{State}
use Rattle.store_moves.specs.declared.steps.State.TheVariants.{Still, Moving, Lifted}
use Rattle.store_moves.specs.Moves.{Lasts, lasts, stepped, step, finish, ahead, Sane, sane-moving, Reached}
use Rattle.store_moves.specs.Record.{words_of, next_of, Kept, kept, step_kept, start_of}
use Rattle.store_moves.proofs.Moved.{sane-step, finish-whole, start-whole}
use Rattle.store_moves.proofs.Resumed.{reached-same}
use Rattle.store_moves.proofs.Worded.{told-words}

-- what lasts of a state, its page told by the words
abbrev keeps : ℕ → Lasts → Kept
keeps page l = kept l.block l.spare (words_of page l.state)

keeps-step : (page : ℕ) (b s : List ℕ) (st : State) → step_kept (kept b s (words_of page st)) st ≡ keeps page (stepped b s st)
unfolding next_of words_of stepped
keeps-step page b s Still = refl
keeps-step page b s (Moving m) = refl
keeps-step page b s (Lifted m) = refl

pub start-finish : (n page : ℕ) (l : Lasts) → page ≤ 1 → Sane l.block l.spare l.state
    → start_of n (keeps page l) ≡ keeps page (finish n l)
unfolding start_of finish
start-finish zero page l p h = refl
start-finish (suc n) page l p h =
    let b = l.block in
    let s = l.spare in
    let st = l.state in
    ap (λ (x : State). start_of n (step_kept (keeps page l) x)) (told-words b s page st p h)
    ∙ ap (λ (x : Kept). start_of n x) (keeps-step page b s st) ∙ start-finish n page (step l) p (sane-step b s st h)

pub record Started (page : ℕ) (goal : List ℕ) (k : Kept) : Type 0 where
  pub block : k.block ≡ goal
  pub words : k.words ≡ (1 - page) ∷ 0 ∷ 0 ∷ 0 ∷ 0 ∷ 0 ∷ 0 ∷ 0 ∷ []

-- any steps and cuts of a move, then a start
pub start-whole-move : (n page : ℕ) (b s : List ℕ) (from to octets : ℕ) {k : Lasts} → page ≤ 1 → to < from → from + octets ≤ size_of b
    → 0 < octets → Reached (lasts b s (Moving (record { from = from; to = to; octets = octets; done = 0 }))) k → ahead k.state ≤ n
    → Started page (paste b to (drop from b) octets) (start_of n (keeps page k))
unfolding words_of
start-whole-move n page b s from to octets {k} p h f g r e =
    let i = reached-same (sane-moving (record { down = h; inside = f; some = g })) r in
    let w = finish-whole n k i.sane e in
    let z = start-finish n page k p i.sane in
    record {
      block = ap (λ (x : Kept). x.block) z ∙ w.block ∙ i.end ∙ start-whole b s from to octets;
      words = ap (λ (x : Kept). x.words) z ∙ ap (λ (x : State). words_of page x) w.ended;
    }
