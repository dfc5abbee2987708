-- The answers of the readers of flags, made, and taken apart by a caller.
use Prim.Native.Nat.{ℕ, ◌≤◌, zero-le}
use mathlib.Core.Path.{◌≡◌, refl, sym, ap, ◌∙◌}
use mathlib.Core.List.{List, ◌++◌}
use native.Mathlib.Omega.{arith}
use lib.Dec.{lit<}
use lib.ListN.{length, drop, length-append, length-drop}
use Rattle.rules.specs.declared.Refusal.{Refusal}
use Rattle.rules.specs.Reading.{Read, whole, refuse}
use Rattle.rules.proofs.Octets.{Below, below_at, below_all}
use Rattle.std.proofs.Common.{Ok, Err}
use Rattle.read_bits.specs.declared.Stop.{Stop}
use Rattle.read_bits.specs.Outcomes.{Outcome, got, stop, next_of}
use Rattle.read_runs.specs.Flagged.{marked, kinds, MarksCells}
use Rattle.read_runs.proofs.Puts.{length-kinds}

module _ {found : Read (List ℕ)} {d far common other : ℕ} {old new : List ℕ} where
  pub marks-refused : {w : Refusal} {at : ℕ} → length new ≡ 320
      → found ≡ refuse w at → MarksCells found d far common other old new (stop w at)
  marks-refused room e = rw e (record { end = refl; next = zero-le; cells = tt; room = room })

  pub marks-got : {flags : List ℕ} {count next : ℕ} → found ≡ whole flags next → marked flags ≡ count → length flags ≡ d → Below 2 flags
      → new ≡ kinds common other flags ++ drop d old → d ≤ 320 → length old ≡ 320 → next ≤ far
      → MarksCells found d far common other old new (got count next)
  marks-got {flags} {count} {next} e c l b m k o n =
      let s = length-kinds common other flags in
      rw e
      (record {
        end = ap (λ (x : ℕ). got x next) (sym c);
        next = n;
        cells = (l, (λ i. below_at b (lit< tt) i), m);
        room = ap length m ∙ rw (length-append (kinds common other flags) (drop d old), length-drop) (omega arith);
      })

-- what an answer that was not refused tells
pub record MarksAs (found : Read (List ℕ)) (d far common other : ℕ) (old new : List ℕ) (count j : ℕ) : Type 0 where
  pub flags : List ℕ
  pub says : found ≡ whole flags j
  pub ones : marked flags ≡ count
  pub size : length flags ≡ d
  pub below : Below 2 flags
  pub made : new ≡ kinds common other flags ++ drop d old
  pub next : j ≤ far
  pub room : length new ≡ 320

module _ {d far common other : ℕ} {old new : List ℕ} {r : Outcome} where
  told-by : (found : Read (List ℕ)) → MarksCells found d far common other old new r → {p : ℕ × ℕ}
      → r ≡ Ok p → MarksAs found d far common other old new p.0 p.1
  told-by (whole flags at) t {p} e =
      let g : ◌≡◌ {A = Outcome} (got (marked flags) at) (Ok p) = sym t.end ∙ e in
      let h : (marked flags, at) ≡ p = cc in
      let n : at ≡ p.1 = ap (λ (x : ℕ × ℕ). x.1) h in
      record {
        flags = flags;
        says = ap (λ (x : ℕ). whole flags x) n;
        ones = ap (λ (x : ℕ × ℕ). x.0) h;
        size = t.cells.0;
        below = below_all flags t.cells.1;
        made = t.cells.2;
        next = rw (ap next_of e) at t.next;
        room = t.room;
      }
  told-by (refuse w at) t {p} e =
      let g : ◌≡◌ {A = Outcome} (stop w at) (Ok p) = sym t.end ∙ e in
      let z : ◌≡◌ {A = ℕ} 0 1 = cc in
      absurd (omega arith)

  told-refused : (found : Read (List ℕ)) → MarksCells found d far common other old new r → {s : Stop}
      → r ≡ Err s → found ≡ refuse s.why s.bit
  told-refused (whole flags at) t {s} e =
      let g : ◌≡◌ {A = Outcome} (got (marked flags) at) (Err s) = sym t.end ∙ e in
      let z : ◌≡◌ {A = ℕ} 0 1 = cc in
      absurd (omega arith)
  told-refused (refuse w at) t {s} e =
      let g : ◌≡◌ {A = Outcome} (Err (record { why = w; bit = at })) (Err s) = sym t.end ∙ e in
      let h : ◌≡◌ {A = Stop} (record { why = w; bit = at }) s = cc in
      ap (λ (x : Stop). refuse x.why x.bit) h

  pub marks-told : {found : Read (List ℕ)} → MarksCells found d far common other old new r → {p : ℕ × ℕ}
      → r ≡ Ok p → MarksAs found d far common other old new p.0 p.1
  marks-told {found} t e = told-by found t e

  pub marks-told-refused : {found : Read (List ℕ)} → MarksCells found d far common other old new r
      → {s : Stop} → r ≡ Err s → found ≡ refuse s.why s.bit
  marks-told-refused {found} t e = told-refused found t e
