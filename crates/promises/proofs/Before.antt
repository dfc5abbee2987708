-- Document 02, R-14: a set without 128 reads and writes exactly as before tool 11 was carried (`reads-as-before`, `writes-as-before`).
-- What was there before stands here in full: the tool sets, the bodies, what applies, the forms, the order.
use Prim.Native.Nat.{ℕ, ◌+◌, ◌-◌, ◌^◌, ◌/◌, ◌%◌, ◌≤◌}
use native.Mathlib.Omega.{arith}
use mathlib.Core.Path.{◌≡◌, refl, ap, ◌∙◌}
use mathlib.Core.List.{List, [], ◌∷◌, ◌++◌}
use mathlib.Core.Bool.{Bool, true, false, cond, not, ◌&&◌, ◌||◌}
use lib.ListN.{length, get_or, take}
use lib.Dec.{eqb, leb, ltb}
use lib.IntN.{pos, negsuc}
use borrow.Author.Tests.{eqb-true, leb-true, le-leb, ne_eqb}
use Rattle.rules.specs.declared.Refusal.{Refusal}
use Rattle.rules.specs.declared.Refusal.TheVariants.{Prefix, Tool, Room, Law, Set, Length}
use Rattle.rules.specs.Tools.{holds, is_law, is_length}
use Rattle.rules.specs.Bits.{low_bits, bits_of, octets_for, fill_for}
use Rattle.rules.specs.Reading.{Read, Reader, and_then, ◌>>=◌, give, fail, here, from, bit, number, filled, whole, refuse}
use Rattle.rules.specs.First.{First, unassigned, pad, tool, fractional_row, six_or_eight, first_octet, mark_at, six_not_eight}
use Rattle.rules.specs.Samples.{mask_of, plus_zero, minus_zero}
use Rattle.rules.specs.Zeros.{uncompressed, constantly, constant, binary, plus_minus}
use Rattle.rules.specs.Zeros.{uncompressed_form, plus_form, minus_form, constant_form, binary_form}
use Rattle.rules.specs.Located.{located}
use Rattle.rules.specs.Fractional.{fractional}
use Rattle.rules.specs.Frame.{Found, body, with_tool, after_first, frame, read_one}
use Rattle.rules.specs.Chooses.{every, rice_choice, has_row, row_of, zero_leads, located_form, applies, form_of, choose}
use Rattle.rules.specs.Chooses.{chosen_tool, Written, chosen, Write, wrote, declined, write_one}

-- "Tool t (1 to 7) adds 2^(t-1)"; "A tool set is a number from 0 to 127"
abbrev held_before : ℕ → ℕ → Bool
held_before set t = leb 1 t && leb t 7 && eqb (set / 2 ^ (t - 1) % 2) 1

abbrev pub set_before : ℕ → Bool
set_before set = leb set 127

unfoldable pub body_before : ℕ → ℕ → ℕ → Reader (List ℕ)
body_before mask t n =
    cond (eqb t 1) (uncompressed n)
    (cond (eqb t 2) (constantly n (plus_zero mask))
    (cond (eqb t 3) (constantly n (minus_zero mask))
    (cond (eqb t 4) (constant n)
    (cond (eqb t 5) (binary mask n)
    (located mask n)))))

unfoldable pub tool_before : ℕ → ℕ → ℕ → ℕ → Reader (List ℕ) → Reader Found
tool_before set room t n r =
    cond (not (held_before set t)) (fail (Tool t) 0)
    (cond (ltb room n) (fail Room 0) (do
      samples ← r
      bits ← here
      filled (record { tool = t; samples = samples; bits = bits }) (fill_for bits)))

unfoldable pub after_before : ℕ → ℕ → ℕ → First → Reader Found
after_before mask set room unassigned = fail Prefix 0
after_before mask set room pad = give (record { tool = 0; samples = []; bits = 8 })
after_before mask set room (tool t n) = tool_before set room t n (body_before mask t n)
after_before mask set room (fractional_row k n) = fail (Tool 11) 0
after_before mask set room (six_or_eight n) =
    from (mark_at n) (do
      mark ← bit
      t ← six_not_eight
      from (mark_at n + 1) (tool_before set room t n (plus_minus mask n mark)))

unfoldable pub read_before : List ℕ → ℕ → ℕ → ℕ → Read Found
read_before octets law set room =
    cond (not (is_law law)) (fail Law 0)
    (cond (not (set_before set)) (fail Set 0)
    (number 8 >>= (λ o. after_before (mask_of law) set room (first_octet o)))) (bits_of octets) 0

-- what the sets say of each tool
pub eleven-out : (set : ℕ) → set ≤ 127 → holds set 11 ≡ false
unfolding holds
eleven-out set h = ne_eqb (set / 128 % 2) 1 (λ e. omega arith)

or-none : (b : Bool) → b || false ≡ b
or-none true = refl
or-none false = refl

same-held : (set t : ℕ) → set ≤ 127 → holds set t ≡ held_before set t
unfolding holds
same-held set t h = go (eqb t 11) refl
  where
    in-low : Bool
    in-low = leb 1 t && leb t 7

    go : (b : Bool) → eqb t 11 ≡ b
        → (leb 1 t && leb t 7 || b) && eqb (set / 2 ^ cond b 7 (t - 1) % 2) 1 ≡ leb 1 t && leb t 7 && eqb (set / 2 ^ (t - 1) % 2) 1
    go true e =
        let eleven : t ≡ 11 = eqb-true t 11 e in
        rw (eleven, ne_eqb (set / 128 % 2) 1 (λ q. omega arith)) refl
    go false e = ap (λ (b : Bool). b && eqb (set / 2 ^ (t - 1) % 2) 1) (or-none in-low)

same_body : (mask t n : ℕ) → body mask t n ≡ body_before mask t n
unfolding body body_before
same_body mask t n = refl

same-tool : (set room t n : ℕ) (r : Reader (List ℕ)) → set ≤ 127 → with_tool set room t n r ≡ tool_before set room t n r
unfolding with_tool tool_before
same-tool set room t n r h = rw (same-held set t h) refl

no-eleven : (set room n : ℕ) (r : Reader (List ℕ)) → set ≤ 127 → (b : List ℕ) (i : ℕ)
    → with_tool set room 11 n r b i ≡ fail {A = Found} (Tool 11) 0 b i
unfolding with_tool
no-eleven set room n r h b i = rw (eleven-out set h)

then_same : {A B : Type 0} (m : Read A) (f g : A → ℕ → Read B) → ((a : A) (j : ℕ) → f a j ≡ g a j) → and_then m f ≡ and_then m g
then_same (whole a j) f g h = h a j
then_same (refuse w at) f g h = refl

same_after : (mask set room : ℕ) (first : First) → set ≤ 127 → (b : List ℕ) (i : ℕ)
    → after_first mask set room first b i ≡ after_before mask set room first b i
unfolding after_first after_before
same_after mask set room unassigned h b i = refl
same_after mask set room pad h b i = refl
same_after mask set room (tool t n) h b i =
    ap (λ (r : Reader Found). r b i)
    (same-tool set room t n (body mask t n) h ∙ ap (tool_before set room t n) (same_body mask t n))
same_after mask set room (fractional_row k n) h b i = no-eleven set room n (fractional mask k n) h b i
same_after mask set room (six_or_eight n) h b i =
    then_same (bit b (mark_at n)) _ _ (λ mark j. then_same (six_not_eight b j) _ _ (λ t k.
    ap (λ (r : Reader Found). r b (mark_at n + 1)) (same-tool set room t n (plus_minus mask n mark) h)))

test-same : (t : Bool) (w : Refusal) (p q : Reader Found) (b : List ℕ) → p b 0 ≡ q b 0 → cond t (fail w 0) p b 0 ≡ cond t (fail w 0) q b 0
test-same true w p q b e = refl
test-same false w p q b e = e

-- Reading: for all octets and laws, and every set that the old reader took
pub reads-as-before : (octets : List ℕ) (law set room : ℕ) → set_before set ≡ true
    → read_one octets law set room ≡ read_before octets law set room
unfolding read_one read_before frame
reads-as-before octets law set room s =
    let h = leb-true set 127 s in
    let b = bits_of octets in
    rw (s, le-leb set 255 (omega arith))
    (test-same (not (is_law law)) Law _ _ b (then_same (number 8 b 0) _ _ (λ o j. same_after (mask_of law) set room (first_octet o) h b j)))

-- the writer
unfoldable pub applies_before : ℕ → ℕ → List ℕ → Bool
applies_before mask t s =
    cond (eqb t 1) true
    (cond (eqb t 2) (every (λ x. eqb x (plus_zero mask)) s)
    (cond (eqb t 3) (every (λ x. eqb x (minus_zero mask)) s)
    (cond (eqb t 4) (every (λ x. eqb x (get_or s 0 0)) s)
    (cond (leb t 6) (every (λ x. eqb x (plus_zero mask) || eqb x (minus_zero mask)) s)
    (leb 80 (length s)
    && has_row (row_of mask s)
    && zero_leads mask s (pos 1) && zero_leads mask s (negsuc 0) && zero_leads mask s (negsuc 1))))))

unfoldable pub form_before : ℕ → ℕ → List ℕ → List ℕ
form_before mask t s =
    cond (eqb t 1) (uncompressed_form s)
    (cond (eqb t 2) (plus_form s)
    (cond (eqb t 3) (minus_form s)
    (cond (eqb t 4) (constant_form s)
    (cond (eqb t 5) (binary_form mask s)
    (cond (eqb t 6) (rice_choice mask s)
    (located_form mask s))))))

abbrev octets_before : ℕ → List ℕ → ℕ → ℕ
octets_before mask s t = octets_for (length (form_before mask t s))

unfoldable pub choose_before : ℕ → ℕ → List ℕ → List ℕ → ℕ
choose_before mask set s [] = 1
choose_before mask set s (t ∷ ts) =
    let best = choose_before mask set s ts in
    cond (held_before set t && applies_before mask t s && leb (octets_before mask s t) (octets_before mask s best)) t best

abbrev order_before : List ℕ
order_before = 2 ∷ 3 ∷ 4 ∷ 5 ∷ 6 ∷ 7 ∷ []

unfoldable pub chosen_before : ℕ → ℕ → List ℕ → Written
chosen_before mask set s =
    let t = choose_before mask set s order_before in
    cond (eqb (length s) 0) (record { tool = 0; bits = low_bits 8 0 }) (record { tool = t; bits = form_before mask t s })

unfoldable pub write_before : ℕ → List ℕ → ℕ → ℕ → ℕ → Write
write_before n samples law set room =
    cond (not (is_law law)) (declined Law)
    (cond (not (set_before set && eqb (set % 2) 1)) (declined Set)
    (cond (not (eqb n 0 || is_length n)) (declined Length)
    (cond (ltb room (octets_for (length (chosen_before (mask_of law) set (take n samples)).bits))) (declined Room)
    (wrote (chosen_before (mask_of law) set (take n samples))))))

same-applies : (mask t : ℕ) (s : List ℕ) → eqb t 11 ≡ false → applies mask t s ≡ applies_before mask t s
unfolding applies applies_before
same-applies mask t s e = rw e refl

same-form : (mask t : ℕ) (s : List ℕ) → eqb t 11 ≡ false → form_of mask t s ≡ form_before mask t s
unfolding form_of form_before
same-form mask t s e = rw e refl

-- tools of an order that has no 11
data NoEleven : List ℕ → Type 0 where
  done : NoEleven []
  and : {t : ℕ} {ts : List ℕ} → eqb t 11 ≡ false → NoEleven ts → NoEleven (t ∷ ts)

picked : (b : Bool) (t u : ℕ) → eqb t 11 ≡ false → eqb u 11 ≡ false → eqb (cond b t u) 11 ≡ false
picked true t u e f = e
picked false t u e f = f

not-eleven : (mask set : ℕ) (s : List ℕ) {ts : List ℕ} → NoEleven ts → eqb (choose_before mask set s ts) 11 ≡ false
unfolding choose_before
not-eleven mask set s done = refl
not-eleven mask set s (and {t = t} {ts = ts} e n) =
    let best = choose_before mask set s ts in
    picked (held_before set t && applies_before mask t s && leb (octets_before mask s t) (octets_before mask s best)) t best
    e (not-eleven mask set s n)

same-choice : (mask set : ℕ) (s : List ℕ) → set ≤ 127 → {ts : List ℕ} → NoEleven ts → choose mask set s ts ≡ choose_before mask set s ts
unfolding choose choose_before
same-choice mask set s h done = refl
same-choice mask set s h (and {t = t} {ts = ts} e n) =
    rw (
      same-choice mask set s h n,
      same-held set t h,
      same-applies mask t s e,
      same-form mask t s e,
      same-form mask
          (choose_before mask set s ts) s (not-eleven mask set s n),
    ) refl

-- tool 11 stands last of those before uncompressed, and is not held
none_last : (mask set : ℕ) (s : List ℕ) → holds set 11 ≡ false → (ts : List ℕ) → choose mask set s (ts ++ (11 ∷ [])) ≡ choose mask set s ts
unfolding choose
none_last mask set s h [] = rw h refl
none_last mask set s h (t ∷ ts) = rw (none_last mask set s h ts) refl

same_chosen : (mask set : ℕ) (s : List ℕ) → set ≤ 127 → chosen mask set s ≡ chosen_before mask set s
unfolding chosen chosen_before
same_chosen mask set s h =
    let plain : NoEleven order_before = and refl (and refl (and refl (and refl (and refl (and refl done))))) in
    let t : chosen_tool mask set s ≡ choose_before mask set s order_before
    = none_last mask set s (eleven-out set h) order_before ∙ same-choice mask set s h plain in
    rw (t, same-form mask (choose_before mask set s order_before) s (not-eleven mask set s plain)) refl

-- Writing: for all frames and laws, and every set that the old writer took
pub writes-as-before : (n : ℕ) (samples : List ℕ) (law set room : ℕ) → set_before set ≡ true
    → write_one n samples law set room ≡ write_before n samples law set room
unfolding write_one write_before
writes-as-before n samples law set room s =
    let h = leb-true set 127 s in
    rw (s, le-leb set 255 (omega arith), same_chosen (mask_of law) set (take n samples) h) refl
