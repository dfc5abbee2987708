-- What a body's answer tells, once it is known how it ended.
use Prim.Native.Nat.{ℕ}
use mathlib.Core.Path.{◌≡◌, sym, ap, ◌∙◌}
use mathlib.Core.List.{List}
use native.Mathlib.Omega.{arith}
use lib.ListN.{length, take, drop, length-append, length-drop}
use lib.Seq.{take-append_seam}
use Rattle.rules.specs.Reading.{Read, whole, refuse}
use Rattle.std.proofs.Common.{Ok, Err}
use Rattle.read_bits.specs.declared.Stop.{Stop}
use Rattle.read_bits.specs.Outcomes.{Outcome}
use Rattle.read_bodies.specs.Bodied.{end_of, Leaves, FillsBody}

pub record Whole (found : Read (List ℕ)) (len next : ℕ) (new : List ℕ) : Type 0 where
  pub s : List ℕ
  pub says : found ≡ whole s next
  pub size : len ≡ length s
  pub samples : take (length s) new ≡ s

no_end : {X : Type 0} {s : Stop} {p : ℕ × ℕ} → ◌≡◌ {A = Outcome} (Err s) (Ok p) → X
no_end e = let z : ◌≡◌ {A = ℕ} 0 1 = cc in absurd (omega arith)

module _ {found : Read (List ℕ)} {far : ℕ} {old new : List ℕ} {r : Outcome} (b : FillsBody found far old new r) where
  pub body-whole : {p : ℕ × ℕ} → r ≡ Ok p → Whole found p.0 p.1 new
  body-whole {p} e = go found (sym b.end ∙ e) b.samples
    where
      go : (m : Read (List ℕ)) → ◌≡◌ {A = Outcome} (end_of m) (Ok p) → Leaves m old new → Whole m p.0 p.1 new
      go (whole s j) q f =
          let h : (length s, j) ≡ p = cc in
          record {
            s = s;
            says = ap (λ (x : ℕ × ℕ). whole s x.1) h;
            size = sym (ap (λ (x : ℕ × ℕ). x.0) h);
            samples = rw (f.0, take-append_seam);
          }
      go (refuse w at) q f = no_end q

  pub body-length : length old ≡ 320 → length new ≡ 320
  body-length l = go found b.samples
    where
      go : (m : Read (List ℕ)) → Leaves m old new → length new ≡ 320
      go (whole s j) f = ap length f.0 ∙ length-append s (drop (length s) old) ∙ omega (arith, l, f.1, length-drop (length s) old)
      go (refuse w at) f = f

  pub body_refused : {s : Stop} → r ≡ Err s → found ≡ refuse s.why s.bit
  body_refused {s} e = go found (sym b.end ∙ e)
    where
      go : (m : Read (List ℕ)) → ◌≡◌ {A = Outcome} (end_of m) (Err s) → m ≡ refuse s.why s.bit
      go (whole l j) q = no_end (sym q)
      go (refuse v k) q =
          let h : ◌≡◌ {A = Stop} (record { why = v; bit = k }) s = cc in
          ap (λ (x : Stop). refuse x.why x.bit) h
