-- Laws of a whole form.
use Prim.Native.Nat.{ℕ, ◌+◌, ◌*◌, ◌/◌, ◌≤◌, ◌<◌}
use mathlib.Core.Path.{◌≡◌, refl, sym, ap, ◌∙◌}
use mathlib.Core.List.{List, [], ◌++◌, map, append_assoc}
use mathlib.Core.Bool.{Bool, true, false, cond}
use native.Mathlib.Omega.{arith}
use lib.ListN.{length, take, drop}
use lib.Dec.{ltb}
use Rattle.rules.specs.Bits.{low_bits, bits_of}
use Rattle.rules.specs.First.{rice_code}
use Rattle.rules.specs.Runs.{rice_forms}
use Rattle.rules.specs.Zeros.{prefix, code_of, flag_of}
use Rattle.rules.specs.Chooses.{mark_of, best_s, rice_choice, row_number, row_of, located_flag, located_form, form_of}
use Rattle.rules.specs.Samples.{plus_zero, minus_zero}
use Rattle.write_scan.specs.Looks.{count_is}
use Rattle.write_located.specs.declared.Located.{Located}
use Rattle.write_zeros.specs.declared.Zeros.{Zeros}
use Rattle.write_zeros.specs.Rice.{RiceIs}
use Rattle.write_located.specs.Rows.{LocatedIs}
use Rattle.write_bits.specs.declared.pen.Pen.{Pen}
use Rattle.write_bits.specs.Puts.{pen_bits, Able, Puts, Packed}
use Rattle.write_scan.specs.declared.row.Row.{Row}
use Rattle.write_scan.specs.Rows.{RowIs}
use Rattle.rules.proofs.Words.{low_bits-join}
use Rattle.rules.proofs.Lent.{drop-further}
use Rattle.write_forms.specs.Forms.{RiceReady, rice_form_of, values_form_of, located_form_of, binary_form}
use Rattle.write_forms.proofs.Turns.{located-values}

pub row-flag : (row flag : ℕ) (l : List ℕ) → flag < 2 → low_bits 3 (row * 2 + flag) ++ l ≡ low_bits 2 row ++ (low_bits 1 flag ++ l)
row-flag row flag l h = rw (low_bits-join 2 1 row flag h, append_assoc)

pub bit-of : (b : Bool) → cond b 1 0 < 2
bit-of true = omega arith
bit-of false = omega arith

-- Rice as planned
pub rice-ready : {mask : ℕ} {frame runs : List ℕ} {r : Zeros} → RiceIs mask frame r runs → RiceReady (length frame) r runs
rice-ready {mask} {frame} i =
    record {
      mark = rw i.mark (bit-of (ltb (count_is (plus_zero mask) frame) (count_is (minus_zero mask) frame)));
      from = i.from;
      to = i.most;
      most = i.to;
      few = i.found.few;
      size = i.found.size;
    }

-- Rice as planned, and binary from the row
module _ (n : ℕ) (s : List ℕ) where
  pub rice-form : {mask : ℕ} {r : Zeros} {runs : List ℕ} → length s ≡ n → RiceIs mask s r runs → rice_form_of n r runs ≡ form_of mask 6 s
  unfolding form_of rice_choice
  rice-form {mask} {r} {runs} size i =
      let form : ℕ → ℕ → ℕ → List ℕ → List ℕ = λ n mark S runs. rice_code n mark ++ (code_of n S ++ rice_forms S runs) in
      let rs = take r.count runs in
      ap (λ (k : ℕ). form k r.mark r.s rs) (sym size) ∙ ap (λ (m : ℕ). form (length s) m r.s rs) i.mark
      ∙ ap (λ (S : ℕ). form (length s) (mark_of mask s) S rs) i.best
      ∙ ap (form (length s) (mark_of mask s) (best_s mask (mark_of mask s) s)) i.found.says

  pub binary-form : (mask : ℕ) {row : Row} → length s ≡ n → RowIs (map (flag_of mask 0) s) (n / 40) row
      → binary_form n row ≡ form_of mask 5 s
  unfolding form_of
  binary-form mask size words =
      ap (λ (l : List ℕ). prefix 5 n ++ l) words.says ∙ ap (λ (k : ℕ). prefix 5 k ++ map (flag_of mask 0) s) (sym size)

-- what is planned for a frame that has a 1 or a -2
pub located-seven : (mask : ℕ) (s : List ℕ) → located_form mask s ≡ form_of mask 7 s
unfolding form_of
located-seven mask s = refl

module _ (n : ℕ) (s : List ℕ) (r : Located) (a b c : List ℕ) where
  pub located-form : {mask : ℕ} → length s ≡ n → LocatedIs mask s r a b c → prefix 7 n ++ located_form_of r a b c ≡ located_form mask s
  unfolding located_form
  located-form {mask} size p =
      let form : ℕ → ℕ → ℕ → List ℕ → List ℕ = λ k row flag v. prefix 7 k ++ (low_bits 2 row ++ (low_bits 1 flag ++ v)) in
      ap (λ (k : ℕ). form k r.row r.flag (values_form_of r a b c)) (sym size)
      ∙ ap (λ (k : ℕ). form (length s) k r.flag (values_form_of r a b c)) p.row
      ∙ ap (λ (k : ℕ). form (length s) (row_number (row_of mask s)) k (values_form_of r a b c)) p.flag
      ∙ ap (form (length s) (row_number (row_of mask s)) (located_flag mask s)) (located-values p)

-- a pen that has put nothing
pub record Fresh (p : Pen) : Type 0 where
  pub word : p.word ≡ 0
  pub held : p.held ≡ 0
  pub at : p.at ≡ 0

pub fresh-is : {p : Pen} → (p.word ≡ 0) × ((p.held ≡ 0) × (p.at ≡ 0)) → Fresh p
fresh-is f = record { word = f.0; held = f.1.0; at = f.1.1 }

none-put : (o : List ℕ) (p : Pen) → Fresh p → pen_bits o p ≡ []
unfolding pen_bits bits_of low_bits
none-put o p f = rw (f.held, f.at)

pub fresh-able : {o : List ℕ} {p : Pen} {n : ℕ} → Fresh p → n ≤ 8 * length o → Able o p n
fresh-able f h = record { room = omega (arith, f.held, f.at) }

pub packed : {o form o' o'' : List ℕ} {p p' : Pen} {n : ℕ} → Fresh p → Puts o p form o' p' → Packed (pen_bits o' p') o' o'' n
    → Packed form o o'' n
packed {o} {form} {o'} {o''} {p} {p'} {n} f put pack' =
    let e : pen_bits o' p' ≡ form = put.says ∙ ap (λ (l : List ℕ). l ++ form) (none-put o p f) in
    let size = rw e at pack'.size in
    let rest : drop n o' ≡ drop n o = drop-further o' o p'.at n (omega (arith, put.place, f.held, f.at, size)) put.rest in
    record { size = size; lent = pack'.lent ∙ rw (e, rest) }
