-- A report is the definition's, number by number (`then`): of a frame or a file written (`write-reported`, `file-write-reported`), of
-- an item (`piece-reported`), of a store that a greeting is put into (`put-reported`), of why a tool wins (`why-refused`, `why-told`).
use Prim.Native.Nat.{ℕ}
use mathlib.Core.Path.{◌≡◌, refl, ap, ◌∙◌}
use mathlib.Core.List.{List, [], ◌∷◌}
use Rattle.rules.specs.declared.Refusal.{Refusal}
use Rattle.rules.specs.declared.WriteAnswer.{WriteAnswer}
use Rattle.rules.specs.Refusals.{refusal_number, number_of}
use Rattle.rules.specs.Chooses.{Write}
use Rattle.rules.specs.Calls.{Writes}
use Rattle.recording_next.specs.declared.Told.{Told as ToldItem}
use Rattle.recording_next.specs.Next.{Piece, Tells}
use Rattle.recording.specs.declared.FileWritten.{FileWritten}
use Rattle.recording.specs.Files.{Filed}
use Rattle.recording.specs.Calls as recording
use Rattle.store.specs.Store.{Outcome}
use Rattle.store.specs.Calls as store
use Rattle.reasons.specs.declared.Reasons.{Reasons}
use Rattle.std.proofs.Common.{Result, Ok, Err}
use Rattle.reasons.specs.Calls.{Prints}
use Rattle.g7110.specs.Boundary.{WriteReported, WhyReported}
use Rattle.g7110.specs.Telling.{PieceReported}
use Rattle.g7110.specs.Recordings.{FileWriteReported}
use Rattle.g7110.specs.Store.{ChangeReported}

pub then : {x y : ℕ} {xs ys : List ℕ} → x ≡ y → xs ≡ ys → ◌≡◌ {A = List ℕ} (x ∷ xs) (y ∷ ys)
then {x} {y} {xs} {ys} e f = ap (λ (n : ℕ). n ∷ xs) e ∙ ap (λ (l : List ℕ). y ∷ l) f

-- a frame, or a file, as it was written
pub write-reported : (written : Write) {a : WriteAnswer} {out out' : List ℕ} {r : ℕ} → Writes written a out out' → r ≡ number_of a.end
    → WriteReported written out out' (a.octets ∷ a.bits ∷ a.tool ∷ []) r
write-reported written t e =
    record {
      number = e ∙ ap number_of t.end;
      report = then t.octets (then t.bits (then t.tool refl));
      lent = t.lent;
    }

-- an item of a recording
pub piece-reported : (p : Piece) (at : ℕ) {a : ToldItem} {out out' : List ℕ} {r : ℕ} → Tells p at a out out' → r ≡ recording.number_of a.end
    → PieceReported p at out out' (a.kind ∷ a.samples ∷ a.octets ∷ a.tool ∷ a.bit ∷ a.place ∷ []) r
piece-reported p at t e =
    record {
      number = e ∙ ap recording.number_of t.end;
      report = then t.kind (then t.samples (then t.octets (then t.tool (then t.bit (then t.place refl)))));
      lent = t.lent;
    }

pub file-write-reported : (f : Filed) {a : FileWritten} {out out' : List ℕ} {r : ℕ} → recording.Writes f a out out'
    → r ≡ recording.number_of a.end → FileWriteReported f out out' (a.octets ∷ []) r
file-write-reported f t e =
    record { number = e ∙ ap recording.number_of t.end; report = then t.octets refl; lent = t.lent }

-- a store, as a call that changes it says
pub put-reported : (o : Outcome) {a : store.Answer} {b t b' t' : List ℕ} {first second r : ℕ} → store.Says o b t b' t' a → first ≡ store.first_of a
    → second ≡ store.second_of a → r ≡ store.number_of a → ChangeReported o b t b' t' (first ∷ second ∷ []) r
put-reported o t x y e =
    record {
      number = e ∙ ap store.number_of t.answer;
      report = then (x ∙ ap store.first_of t.answer) (then (y ∙ ap store.second_of t.answer) refl);
      block = t.block;
      table = t.table;
    }

-- why a tool wins: refused, or told
pub why-refused : {why : Result Reasons Refusal} {w : Refusal} {text : List ℕ} {r : ℕ} → why ≡ Err w → r ≡ refusal_number w
    → WhyReported why text text (0 ∷ []) r
why-refused e n = record { number = rw e n; report = rw e; lent = rw e }

pub why-told : {why : Result Reasons Refusal} (r : Reasons) {text text' : List ℕ} {n : ℕ} → why ≡ Ok r → Prints r text text' n
    → WhyReported why text text' (n ∷ []) 0
why-told r e p = record { number = rw e; report = rw e (ap (λ (k : ℕ). k ∷ []) p.octets); lent = rw e p.lent }
