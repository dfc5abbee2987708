-- What an answer of R-10 promises, of the definitions alone.
-- Main statements: `winner-written`, `fits-when`, `fits-only`, `out-when`, `out-only`, `no-only`, `alone-writes`, `tie-when`, `tie-only`,
-- `empty-fails`, `as-writer`.
use Prim.Native.Nat.{ℕ, suc, ◌+◌, ◌^◌, ◌/◌, ◌%◌, ◌≤◌}
use native.Mathlib.Omega.{arith}
use mathlib.Core.Path.{◌≡◌, refl, sym, ap, ◌∙◌}
use mathlib.Core.List.{List, [], ◌∷◌, ◌++◌}
use mathlib.Core.Bool.{Bool, true, false, cond, not, ◌&&◌, ◌||◌}
use lib.ListN.{length, take, replicate}
use lib.Dec.{eqb, leb}
use lib.IntN.{pos, negsuc}
use borrow.Author.Tests.{eq-eqb, ne_eqb, eqb-true, eqb-false, le-ltb}
use Rattle.rules.specs.declared.Refusal.TheVariants.{Length, Set, Law}
use Rattle.rules.specs.Tools.{is_tool, slot_of, holds, is_writer_set, is_law, is_length}
use Rattle.rules.specs.Bits.{octets_for}
use Rattle.rules.specs.Samples.{mask_of}
use Rattle.rules.specs.Chooses.{applies, has_row, row_of, zero_leads, form_of, octets_of_form, chosen_tool}
use Rattle.rules.specs.Chooses.{Written, chosen, Write, wrote, declined, write_one}
use Rattle.rules.proofs.Tests.{and_left, and_right, by-tool}
use Rattle.rules.proofs.Each.{or_right}
use Rattle.rules.proofs.Chosen.{chosen-usable}
use Rattle.reasons.specs.declared.State.{State}
use Rattle.reasons.specs.declared.State.TheVariants.{Out, No, Fits}
use Rattle.reasons.specs.declared.Reasons.{Reasons}
use Rattle.std.proofs.Common.{Ok, Err}
use Rattle.std.specs.declared.result.Result.{Result}
use Rattle.rules.specs.declared.Refusal.{Refusal}
use Rattle.reasons.specs.Why.{located_conditions, conditions, first_failing, failing, state_of, winner_of, needs}
use Rattle.reasons.specs.Why.{octets_written, also_needs, any_of, tools, reasons_of, why_one}

-- no condition fails exactly where the tool applies
all-five : (a b c d e : Bool) → eqb (first_failing 1 (a ∷ b ∷ (c && d && e) ∷ [])) 0 ≡ (a && b && c && d && e)
unfolding first_failing
all-five false b c d e = refl
all-five true false c d e = refl
all-five true true false d e = refl
all-five true true true false e = refl
all-five true true true true false = refl
all-five true true true true true = refl

just-one : (a : Bool) → eqb (first_failing 1 (a ∷ [])) 0 ≡ a
unfolding first_failing
just-one false = refl
just-one true = refl

seven : (mask : ℕ) (s : List ℕ) → eqb (first_failing 1 (located_conditions mask s)) 0 ≡ applies mask 7 s
unfolding applies
seven mask s = all-five (leb 80 (length s)) (has_row (row_of mask s)) (zero_leads mask s (pos 1)) (zero_leads mask s (negsuc 0))
    (zero_leads mask s (negsuc 1))

by-seven : (mask : ℕ) (s : List ℕ) (t : ℕ) (b : Bool) → 1 ≤ length s → eqb t 7 ≡ b
    → eqb (first_failing 1 (cond b (located_conditions mask s) ((not (eqb (length s) 0) && applies mask t s) ∷ []))) 0 ≡ applies mask t s
by-seven mask s t true h e = rw (eqb-true t 7 e) (seven mask s)
by-seven mask s t false h e = rw (ne_eqb (length s) 0 (λ z. omega arith)) (just-one (applies mask t s))

pub failing-applies : (mask : ℕ) (s : List ℕ) (t : ℕ) → 1 ≤ length s → eqb (failing mask s t) 0 ≡ applies mask t s
unfolding conditions
failing-applies mask s t h = by-seven mask s t (eqb t 7) h refl

-- "A frame of no samples fails condition 1 of every tool in the set"
pub empty-fails : (mask : ℕ) (t : ℕ) → failing mask [] t ≡ 1
unfolding conditions first_failing
empty-fails mask t = go (eqb t 7)
  where
    go : (b : Bool) → first_failing 1 (cond b (located_conditions mask []) (false ∷ [])) ≡ 1
    go true = refl
    go false = refl

-- what a state says of a tool that the set holds or not, whose first failing condition is f and whose form has o octets
abbrev state_by : Bool → ℕ → ℕ → State
state_by held f o = cond (not held) Out (cond (eqb f 0) (Fits o) (No f))

record FitsBy (held : Bool) (f o octets : ℕ) : Type 0 where
  holding : held ≡ true
  none : eqb f 0 ≡ true
  same : o ≡ octets

fits_by : (held : Bool) (f o octets : ℕ) → state_by held f o ≡ Fits octets → FitsBy held f o octets
fits_by false f o octets e = let z : ◌≡◌ {A = ℕ} 0 1 = cc in absurd (omega arith)
fits_by true f o octets e = go (eqb f 0) refl e
  where
    go : (b : Bool) → eqb f 0 ≡ b → cond b (Fits o) (No f) ≡ Fits octets → FitsBy true f o octets
    go true q e = record { holding = refl; none = q; same = cc }
    go false q e = let z : ◌≡◌ {A = ℕ} 0 1 = cc in absurd (omega arith)

module _ (mask set : ℕ) (s : List ℕ) (t : ℕ) where
  -- `fits` exactly when it applies and is held
  pub fits-when : 1 ≤ length s → holds set t ≡ true → applies mask t s ≡ true → state_of mask set s t ≡ Fits (octets_of_form mask s t)
  unfolding state_of
  fits-when some held fit = rw (held, failing-applies mask s t some ∙ fit)

  pub record FitsIs (octets : ℕ) : Type 0 where
    pub some : 1 ≤ length s
    pub held : holds set t ≡ true
    pub fit : applies mask t s ≡ true
    pub says : octets_of_form mask s t ≡ octets

  not-empty : (s' : List ℕ) → eqb (failing mask s' t) 0 ≡ true → 1 ≤ length s'
  not-empty [] e = absurd (omega (arith, eqb-true (failing mask [] t) 0 e, empty-fails mask t))
  not-empty (x ∷ s') e = omega arith

  pub fits-only : (octets : ℕ) → state_of mask set s t ≡ Fits octets → FitsIs octets
  unfolding state_of
  fits-only octets e =
      let f = fits_by (holds set t) (failing mask s t) (octets_of_form mask s t) octets e in
      let some = not-empty s f.none in
      record { some = some; held = f.holding; fit = sym (failing-applies mask s t some) ∙ f.none; says = f.same }

  -- `out` exactly when the set lacks it
  pub out-when : holds set t ≡ false → state_of mask set s t ≡ Out
  unfolding state_of
  out-when e = rw e

  pub out-only : state_of mask set s t ≡ Out → holds set t ≡ false
  unfolding state_of
  out-only e = go (holds set t) (eqb (failing mask s t) 0) e
    where
      go : (h b : Bool) → cond (not h) Out (cond b (Fits (octets_of_form mask s t)) (No (failing mask s t))) ≡ Out → h ≡ false
      go false b e = refl
      go true true e = let z : ◌≡◌ {A = ℕ} 0 1 = cc in absurd (omega arith)
      go true false e = let z : ◌≡◌ {A = ℕ} 0 1 = cc in absurd (omega arith)

-- `no`: of the conditions, counted from k, the one numbered m fails, and all before it hold
pub record FirstFalse (k : ℕ) (cs : List Bool) (m : ℕ) : Type 0 where
  pub before : ℕ
  pub after : List Bool
  pub stands : cs ≡ replicate before true ++ (false ∷ after)
  pub place : m ≡ k + before

first-false : (k m : ℕ) (cs : List Bool) → first_failing k cs ≡ m → 1 ≤ m → FirstFalse k cs m
unfolding first_failing
first-false k m [] e q = absurd (omega (arith, e))
first-false k m (true ∷ cs) e q =
    let f = first-false (k + 1) m cs e q in
    record {
      before = suc f.before;
      after = f.after;
      stands = ap (λ (l : List Bool). true ∷ l) f.stands;
      place = omega (arith, f.place);
    }
first-false k m (false ∷ cs) e q = record { before = 0; after = cs; stands = refl; place = omega (arith, e) }

pub no-only : (mask set : ℕ) (s : List ℕ) (t m : ℕ) → state_of mask set s t ≡ No m
    → (holds set t ≡ true) × (FirstFalse 1 (conditions mask s t) m)
unfolding state_of
no-only mask set s t m e = go (holds set t) (eqb (failing mask s t) 0) refl e
  where
    go : (h b : Bool) → eqb (failing mask s t) 0 ≡ b
        → cond (not h) Out (cond b (Fits (octets_of_form mask s t)) (No (failing mask s t))) ≡ No m
        → (h ≡ true) × (FirstFalse 1 (conditions mask s t) m)
    go false b q e = let z : ◌≡◌ {A = ℕ} 0 1 = cc in absurd (omega arith)
    go true true q e = let z : ◌≡◌ {A = ℕ} 0 1 = cc in absurd (omega arith)
    go true false q e =
        let same : failing mask s t ≡ m = cc in
        let some = eqb-false (failing mask s t) 0 q in
        (refl, first-false 1 m (conditions mask s t) same (omega arith))

-- what is written of a frame that has samples
pub chosen-some : (mask set : ℕ) (s : List ℕ) → 1 ≤ length s
    → chosen mask set s ≡ record { tool = chosen_tool mask set s; bits = form_of mask (chosen_tool mask set s) s }
unfolding chosen
chosen-some mask set s some = rw (ne_eqb (length s) 0 (λ z. omega arith))

-- The winner is the tool that the writer reports, and its octets are the writer's
pub winner-written : (mask set : ℕ) (s : List ℕ) → is_writer_set set ≡ true → 1 ≤ length s
    → state_of mask set s (winner_of mask set s) ≡ Fits (octets_written mask set s)
winner-written mask set s odd some =
    let u = chosen-usable mask set s odd in
    let is = chosen-some mask set s some in
    ap (λ (w : Written). state_of mask set s w.tool) is ∙ fits-when mask set s (chosen_tool mask set s) some u.held u.fits
    ∙ sym (ap (λ (w : Written). Fits (octets_for (length w.bits))) is)

-- a tool's octets are those of the form that any set writes in which it wins: so the set of it and tool 1 alone
pub alone-writes : (mask set : ℕ) (s : List ℕ) (t octets : ℕ) → state_of mask set s t ≡ Fits octets
    → (other : ℕ) → (chosen mask other s).tool ≡ t → octets_written mask other s ≡ octets
alone-writes mask set s t octets e other wins =
    let f = fits-only mask set s t octets e in
    let is = chosen-some mask other s f.some in
    let won : chosen_tool mask other s ≡ t = rw is at wins in
    rw is (ap (octets_of_form mask s) won ∙ f.says)

-- "by=tie exactly when another tool in the set needs as few"
pub record Another (mask set : ℕ) (s : List ℕ) : Type 0 where
  pub tool : ℕ
  pub other : tool ≡ winner_of mask set s → ⊥
  pub fits : state_of mask set s tool ≡ Fits (octets_written mask set s)

record One (p : ℕ → Bool) : Type 0 where
  tool : ℕ
  passes : p tool ≡ true

any-one : (p : ℕ → Bool) (ts : List ℕ) → any_of p ts ≡ true → One p
unfolding any_of
any-one p [] e = let z : ◌≡◌ {A = ℕ} 0 1 = cc in absurd (omega arith)
any-one p (t ∷ ts) e = go (p t) refl e (any-one p ts)
  where
    go : (b : Bool) → p t ≡ b → (b || any_of p ts) ≡ true → (any_of p ts ≡ true → One p) → One p
    go true q e later = record { tool = t; passes = q }
    go false q e later = later e

any-in : (p : ℕ → Bool) (t : ℕ) (ts : List ℕ) → any_of (λ u. eqb u t) ts ≡ true → p t ≡ true → any_of p ts ≡ true
unfolding any_of
any-in p t [] m e = let z : ◌≡◌ {A = ℕ} 0 1 = cc in absurd (omega arith)
any-in p t (u ∷ ts) m e = go (eqb u t) refl m (λ m. any-in p t ts m e)
  where
    go : (b : Bool) → eqb u t ≡ b → (b || any_of (λ u. eqb u t) ts) ≡ true → (any_of (λ u. eqb u t) ts ≡ true → any_of p ts ≡ true)
        → (p u || any_of p ts) ≡ true
    go true q m later = rw (eqb-true u t q, e)
    go false q m later = or_right (p u) (any_of p ts) (later m)

-- the tools are all that a set may hold
among-tools : (set t : ℕ) → holds set t ≡ true → any_of (λ u. eqb u t) tools ≡ true
unfolding holds any_of
among-tools set t e =
    by-tool (λ t. any_of (λ u. eqb u t) tools ≡ true) refl refl refl refl refl refl refl refl t
    (and_left (is_tool t) (eqb (set / 2 ^ slot_of t % 2) 1) e)

needs-fits : (state : State) (n : ℕ) → needs state n ≡ true → state ≡ Fits n
needs-fits Out n e = let z : ◌≡◌ {A = ℕ} 0 1 = cc in absurd (omega arith)
needs-fits (No why) n e = let z : ◌≡◌ {A = ℕ} 0 1 = cc in absurd (omega arith)
needs-fits (Fits octets) n e = ap Fits (eqb-true octets n e)

not_eqb : (a b : ℕ) → not (eqb a b) ≡ true → a ≡ b → ⊥
not_eqb a b e q = let z : ◌≡◌ {A = Bool} false true = sym (rw (eq-eqb a b q)) ∙ e in let y : ◌≡◌ {A = ℕ} 0 1 = cc in omega arith

pub tie-only : (mask set : ℕ) (s : List ℕ) → (reasons_of mask set s).tie ≡ true → Another mask set s
unfolding reasons_of also_needs
tie-only mask set s e =
    let o = any-one (also_needs mask set s) tools e in
    let t = o.tool in
    let other = not (eqb t (winner_of mask set s)) in
    let few = needs (state_of mask set s t) (octets_written mask set s) in
    record {
      tool = t;
      other = not_eqb t (winner_of mask set s) (and_left other few o.passes);
      fits = needs-fits (state_of mask set s t) (octets_written mask set s) (and_right other few o.passes);
    }

pub tie-when : (mask set : ℕ) (s : List ℕ) → Another mask set s → (reasons_of mask set s).tie ≡ true
unfolding reasons_of also_needs
tie-when mask set s a =
    let f = fits-only mask set s a.tool (octets_written mask set s) a.fits in
    any-in (also_needs mask set s) a.tool tools (among-tools set a.tool f.held)
    (rw (ne_eqb a.tool (winner_of mask set s) a.other, a.fits) (eq-eqb (octets_written mask set s) (octets_written mask set s) refl))

-- "Refusals as for the writer, ROOM left out": with room enough the writer refuses what is refused here, and writes else
abbrev pub writer_of : Result Reasons Refusal → Written → Write
writer_of (Ok r) w = wrote w
writer_of (Err why) w = declined why

same-order : (a b c : Bool) (w : Written) (r : Reasons)
    → cond a (declined Law) (cond b (declined Set) (cond c (declined Length) (wrote w)))
    ≡ writer_of (cond a (Err Law) (cond b (Err Set) (cond c (Err Length) (Ok r)))) w
same-order true b c w r = refl
same-order false true c w r = refl
same-order false false true w r = refl
same-order false false false w r = refl

pub as-writer : (n : ℕ) (samples : List ℕ) (law set room : ℕ) → octets_written (mask_of law) set (take n samples) ≤ room
    → write_one n samples law set room ≡ writer_of (why_one n samples law set) (chosen (mask_of law) set (take n samples))
unfolding write_one why_one
as-writer n samples law set room h =
    rw (le-ltb room (octets_written (mask_of law) set (take n samples)) h)
    (same-order (not (is_law law)) (not (is_writer_set set)) (not (eqb n 0 || is_length n)) _ (reasons_of (mask_of law) set (take n samples)))
