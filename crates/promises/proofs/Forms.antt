-- The round trip of each tool's form, a law of its own, for every frame that the tool applies to; and that every form is bits.
use Prim.Native.Nat.{ℕ, ◌+◌, ◌-◌, ◌^◌, ◌/◌, ◌≤◌, ◌<◌}
use native.Mathlib.Omega.{arith}
use mathlib.Core.Path.{◌≡◌, refl}
use mathlib.Core.List.{List, [], ◌∷◌, ◌++◌, map, append-nil}
use mathlib.Core.Bool.{Bool, true, false, cond}
use lib.ListN.{length, get_or}
use lib.Dec.{eqb, leb, ltb}
use borrow.Author.Tests.{le-leb}
use Rattle.rules.specs.Tools.{is_tool, holds, is_length}
use Rattle.rules.specs.Bits.{low_bits, bits_of}
use Rattle.rules.specs.First.{octet_for}
use Rattle.rules.specs.Samples.{plus_zero, minus_zero, sample_of}
use Rattle.rules.specs.Runs.{rice_form, rice_forms, runs_of, runs_form}
use Rattle.rules.specs.Zeros.{prefix, uncompressed_form, plus_form, minus_form, constant_form}
use Rattle.rules.specs.Zeros.{binary_form, plus_minus_form, flag_of, codes_of, most_s}
use Rattle.rules.specs.Located.{values_of, width_of}
use Rattle.rules.specs.Fractional.{first_code, fractional_body}
use Rattle.rules.specs.Frame.{body, frame}
use Rattle.rules.specs.Chooses.{count_of, mark_of, best_s, rice_bits, rice_choice, flags_for}
use Rattle.rules.specs.Chooses.{without, places_of, numbers_form, method_of, method_form}
use Rattle.rules.specs.Chooses.{value_form, values_form, row_number, row_of, located_flag, located_form}
use Rattle.rules.specs.Chooses.{frame_row, fractional_applies, fractional_form, applies, form_of}
use Rattle.rules.proofs.Octets.{Below, none, more, below-append, below-replicate, below_at, low_bits-below, bits_of-below}
use Rattle.rules.proofs.Signed.{LawMask}
use Rattle.rules.proofs.Firsts.{has_own}
use Rattle.rules.proofs.Tests.{by_length, by-tool}
use Rattle.rules.proofs.FrameRow.{the_row}
use Rattle.rules.proofs.Each.{pick-below, Each, each_of}
use Rattle.promises.proofs.Back.{Back}
use Rattle.promises.proofs.Zeros.{is_zero, flags-below, back-uncompressed, back-constantly}
use Rattle.promises.proofs.Zeros.{back-constant, back-binary, back-plus_minus}
use Rattle.promises.proofs.Methods.{least_s-range}
use Rattle.promises.proofs.Located.{value-flags-below}
use Rattle.promises.proofs.Rows.{Locates, locates, back-located}
use Rattle.promises.proofs.Fractional.{back-fractional, fractional_body-below}
use Rattle.promises.proofs.Frame.{filled_bits, found_at, read-own, read-row, read-six, code_below, code_of-below}

-- every form is bits
rice_forms-below : (s : ℕ) (vs : List ℕ) → Below 2 (rice_forms s vs)
unfolding rice_forms rice_form
rice_forms-below s [] = none
rice_forms-below s (v ∷ vs) =
    below-append (below-append (below-replicate (v / 2 ^ s) {x = 0} (omega arith)) (more {x = 1} (omega arith) (low_bits-below s v)))
    (rice_forms-below s vs)

numbers_form-below : (w : ℕ) (ps : List ℕ) → Below 2 (numbers_form w ps)
unfolding numbers_form
numbers_form-below w [] = none
numbers_form-below w (p ∷ ps) = below-append (low_bits-below w p) (numbers_form-below w ps)

below-cond : {m : ℕ} (b : Bool) {x y : List ℕ} → Below m x → Below m y → Below m (cond b x y)
below-cond true h k = h
below-cond false h k = k

value_form-below : (flags : List ℕ) → Below 2 flags → Below 2 (value_form flags)
unfolding value_form method_form
value_form-below flags b =
    below-append (low_bits-below 3 (method_of flags)) (below-cond (eqb (method_of flags) 0) b
    (below-cond (leb (method_of flags) 4) (rice_forms-below (method_of flags) (runs_of 0 flags))
    (below-cond (eqb (method_of flags) 5) none
    (below-append (low_bits-below 2 (count_of (λ f. eqb f 1) flags - 1)) (numbers_form-below (width_of (length flags)) (places_of 0 flags))))))

values_form-below : (xs left : List ℕ) → Below 2 (values_form xs left)
unfolding values_form
values_form-below [] left = none
values_form-below (x ∷ xs) left = below-append (value_form-below (flags_for x left) (value-flags-below x left))
    (values_form-below xs (without x left))

pub plus_minus_form-below : (mask mark r : ℕ) (s : List ℕ) → is_length (length s) ≡ true → mark < 2 → 1 ≤ r → r ≤ most_s (length s)
    → Below 2 (plus_minus_form mask mark r s)
plus_minus_form-below mask mark r s l m h k =
    below-append (code_below (length s) mark l m)
    (below-append (code_of-below (length s) r l h k) (rice_forms-below r (runs_of 0 (map (flag_of mask mark) s))))

-- the mark and the S that a writer chooses
mark-small : (mask : ℕ) (s : List ℕ) → mark_of mask s < 2
mark-small mask s =
    pick-below (ltb (count_of (λ x. eqb x (plus_zero mask)) s) (count_of (λ x. eqb x (minus_zero mask)) s)) 1 0 (omega arith) (omega arith)

most_s-some : (n : ℕ) → is_length n ≡ true → 1 ≤ most_s n
unfolding codes_of
most_s-some n l = by_length (λ n. 1 ≤ most_s n) (omega arith) (omega arith) (omega arith) (omega arith) (omega arith) n l

best_s-range : (mask : ℕ) (s : List ℕ) → is_length (length s) ≡ true
    → (1 ≤ best_s mask (mark_of mask s) s) × (best_s mask (mark_of mask s) s ≤ most_s (length s))
best_s-range mask s l = least_s-range (rice_bits mask (mark_of mask s) s) (most_s (length s)) (most_s-some (length s) l)

pub form-below : (mask t : ℕ) (s : List ℕ) → is_length (length s) ≡ true → Below 2 (form_of mask t s)
unfolding form_of rice_choice located_form fractional_form
form-below mask t s l =
    let r = best_s-range mask s l in
    below-cond (eqb t 1) (below-append (low_bits-below 8 (octet_for 1 (length s))) (bits_of-below s))
    (below-cond (eqb t 2) (low_bits-below 8 (octet_for 2 (length s)))
    (below-cond (eqb t 3) (low_bits-below 8 (octet_for 3 (length s)))
    (below-cond (eqb t 4) (below-append (low_bits-below 8 (octet_for 4 (length s))) (low_bits-below 8 (get_or s 0 0)))
    (below-cond (eqb t 5) (below-append (low_bits-below 8 (octet_for 5 (length s))) (flags-below mask 0 s))
    (below-cond (eqb t 6) (plus_minus_form-below mask (mark_of mask s) (best_s mask (mark_of mask s) s) s l (mark-small mask s) r.0 r.1)
    (below-cond (eqb t 11)
    (below-append (low_bits-below 8 (first_code (length s) + row_number (frame_row mask s))) (fractional_body-below mask (row_number (frame_row mask s)) s))
    (below-append (low_bits-below 8 (octet_for 7 (length s)))
    (below-append (low_bits-below 2 (row_number (row_of mask s))) (below-append (low_bits-below 1 (located_flag mask s))
    (values_form-below (map (sample_of mask) (values_of (length s) (row_number (row_of mask s)) (located_flag mask s))) s))))))))))

-- the form of a frame, with its filling bits, is read as that frame by every reader that holds the tool and has the room, whatever follows
pub record Restores (mask t : ℕ) (s form : List ℕ) : Type 0 where
  pub reads : (set room : ℕ) (post : List ℕ) → holds set t ≡ true → length s ≤ room
      → frame mask set room (filled_bits form ++ post) 0 ≡ found_at t s (length form)

pub uncompressed-restores : (mask : ℕ) (s : List ℕ) → is_length (length s) ≡ true → Below 256 s → Restores mask 1 s (uncompressed_form s)
unfolding body
uncompressed-restores mask s l b =
    record { reads = λ set room post h r. read-own mask set room 1 (length s) (bits_of s) post s l refl h r (back-uncompressed s b) }

-- a form that is a first octet alone
alone : (mask t : ℕ) (s : List ℕ) → is_length (length s) ≡ true → has_own (length s) t ≡ true → Back (body mask t (length s)) [] s
    → Restores mask t s (prefix t (length s))
alone mask t s l o back =
    record {
      reads = λ set room post g r.
          rw (append-nil (prefix t (length s))) at (read-own mask set room t (length s) [] post s l o g r back);
    }

pub plus-restores : (mask : ℕ) (s : List ℕ) → is_length (length s) ≡ true → Each (λ x. eqb x (plus_zero mask)) s
    → Restores mask 2 s (plus_form s)
unfolding body
plus-restores mask s l e = alone mask 2 s l refl (back-constantly (plus_zero mask) s e)

pub minus-restores : (mask : ℕ) (s : List ℕ) → is_length (length s) ≡ true → Each (λ x. eqb x (minus_zero mask)) s
    → Restores mask 3 s (minus_form s)
unfolding body
minus-restores mask s l e = alone mask 3 s l refl (back-constantly (minus_zero mask) s e)

pub constant-restores : (mask : ℕ) (s : List ℕ) → is_length (length s) ≡ true → Below 256 s → Each (λ x. eqb x (get_or s 0 0)) s
    → Restores mask 4 s (constant_form s)
unfolding body
constant-restores mask s l b e =
    record {
      reads = λ set room post h r.
          read-own mask set room 4 (length s) (low_bits 8 (get_or s 0 0)) post s l refl h r
          (back-constant (get_or s 0 0) s e (below_at b (omega arith) 0));
    }

pub binary-restores : (mask : ℕ) (s : List ℕ) → is_length (length s) ≡ true → Each (is_zero mask) s → Restores mask 5 s (binary_form mask s)
unfolding body
binary-restores mask s l e =
    record {
      reads = λ set room post h r. read-own mask set room 5 (length s) (map (flag_of mask 0) s) post s l refl h r
          (back-binary mask s e);
    }

-- of either mark and every S of the length
pub rice-restores : (mask mark r : ℕ) (s : List ℕ) → is_length (length s) ≡ true → mark < 2 → 1 ≤ r → r ≤ most_s (length s)
    → Each (is_zero mask) s → Restores mask 6 s (plus_minus_form mask mark r s)
unfolding body
rice-restores mask mark r s l m p q e =
    let runs = runs_form r (map (flag_of mask mark) s) in
    record {
      reads = λ set room post h k.
          read-six mask set room (length s) mark r runs post s l m p q
          (below-append (code_of-below (length s) r l p q) (rice_forms-below r (runs_of 0 (map (flag_of mask mark) s)))) h k
          (back-plus_minus mask mark r s l m e p q);
    }

pub located-restores : {mask : ℕ} → LawMask mask → (s : List ℕ) → is_length (length s) ≡ true → Below 256 s → Locates mask s
    → Restores mask 7 s (located_form mask s)
unfolding body located_form
located-restores {mask} law s l b a =
    record {
      reads = λ set room post h r.
          read-own mask set room 7 (length s)
          (low_bits 2 (row_number (row_of mask s))
          ++ (low_bits 1 (located_flag mask s) ++ values_form
          (map (sample_of mask) (values_of (length s) (row_number (row_of mask s)) (located_flag mask s))) s))
          post s l (le-leb 80 (length s) a.long) h r (back-located law s b a);
    }

pub fractional-restores : {mask : ℕ} → LawMask mask → (s : List ℕ) → is_length (length s) ≡ true → Below 256 s
    → fractional_applies mask s ≡ true → Restores mask 11 s (fractional_form mask s)
unfolding body fractional_form
fractional-restores {mask} law s l b a =
    record {
      reads = λ set room post h r.
          read-row mask set room (row_number (frame_row mask s)) (length s) (fractional_body mask (row_number (frame_row mask s)) s) post s l
          (the_row mask s a).own h r (back-fractional law s l b a);
    }

-- every tool's form of every frame that it applies to
pub form-restores : {mask : ℕ} → LawMask mask → (t : ℕ) (s : List ℕ) → is_length (length s) ≡ true → Below 256 s
    → is_tool t ≡ true → applies mask t s ≡ true → Restores mask t s (form_of mask t s)
unfolding form_of applies rice_choice
form-restores {mask} law t s l b h =
    by-tool (λ t. applies mask t s ≡ true → Restores mask t s (form_of mask t s))
    (λ a. uncompressed-restores mask s l b)
    (λ a. plus-restores mask s l (each_of (λ x. eqb x (plus_zero mask)) s a))
    (λ a. minus-restores mask s l (each_of (λ x. eqb x (minus_zero mask)) s a))
    (λ a. constant-restores mask s l b (each_of (λ x. eqb x (get_or s 0 0)) s a))
    (λ a. binary-restores mask s l (each_of (is_zero mask) s a))
    (λ a. let r = best_s-range mask s l in
    rice-restores mask (mark_of mask s) (best_s mask (mark_of mask s) s) s l (mark-small mask s) r.0 r.1 (each_of (is_zero mask) s a))
    (λ a. located-restores law s l b (locates mask s a))
    (λ a. fractional-restores law s l b a)
    t h
