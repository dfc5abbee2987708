-- Laws of value-location: its rows, where it applies, its values, and their bits.
use Prim.Native.Nat.{ℕ, zero, suc, ◌+◌, ◌≤◌, ◌<◌}
use mathlib.Core.Path.{◌≡◌, refl, sym, ap, ◌∙◌}
use mathlib.Core.List.{List, [], ◌∷◌, map}
use mathlib.Core.Bool.{Bool, true, false, cond, ◌&&◌}
use native.Mathlib.Omega.{arith}
use borrow.Author.Tests.{eqb-true, leb-true, leb-false, le-leb, lt-leb}
use Rattle.std.proofs.Common.{Option, Some, None, is_some}
use lib.ListN.{length, take, length-append}
use lib.Dec.{eqb, leb}
use lib.IntN.{pos, negsuc}
use Rattle.rules.specs.Samples.{sample_of, plus_zero, minus_zero, on_line}
use Rattle.rules.specs.Located.{case_of, values_of}
use Rattle.rules.specs.Chooses.{Row, none as no_row, row as the_row, has_row, row_number, is_row, row_of, located_flag, located_form}
use Rattle.rules.specs.Chooses.{applies, values_form, least_of, greatest_of}
use Rattle.rules.proofs.Octets.{length-low_bits}
use Rattle.rules.proofs.FrameRow.{where-row, located-row, located-low}
use Rattle.rules.proofs.Signed.{LawMask}
use Rattle.rules.proofs.Tests.{and_left, and_right}
use Rattle.write_located.specs.declared.Tally.{Tally}
use Rattle.write_located.specs.declared.Value.{Value}
use Rattle.write_located.specs.declared.Values.{Values}
use Rattle.write_located.specs.declared.Ways.{Ways}
use Rattle.write_located.specs.Ways.{ValueIs, InTurn, WaysAre}
use Rattle.write_located.specs.Rows.{least_by, greatest_by, row_by, row_for, Tallied, samples_of, only_of, two, three}
use Rattle.write_located.specs.Rows.{values_by, one_in, minus_in, twos_in, values_for, values_in, LocatedIs}
use Rattle.write_located.proofs.Near.{apart}

-- a row that was found fits the length
rows_fit : (mask : ℕ) (s : List ℕ) → has_row (row_of mask s) ≡ true → leb (case_of (row_number (row_of mask s))).from (length s) ≡ true
rows_fit mask s h =
    let fits : ℕ → Type 0 = λ c. leb (case_of c).from (length s) ≡ true in
    where-row fits (row_of mask s) (located-row fits mask s (λ c l e.
    and_right (eqb (least_of mask s) (on_line (case_of c).least) && eqb (greatest_of mask s) (on_line (case_of c).greatest))
    (leb (case_of c).from (length s)) e)) h

-- the row, if there is one
abbrev found_row : Row → Option ℕ
found_row no_row = None
found_row (the_row k) = Some k

as_found : (a b c d : Bool)
    → cond a (Some 0) (cond b (Some 1) (cond c (Some 2) (cond d (Some 3) None))) ≡ found_row
    (cond a (the_row 0) (cond b (the_row 1) (cond c (the_row 2) (cond d (the_row 3) no_row))))
as_found true b c d = refl
as_found false true c d = refl
as_found false false true d = refl
as_found false false false true = refl
as_found false false false false = refl

has_found : (r : Row) → is_some (found_row r) ≡ has_row r
has_found no_row = refl
has_found (the_row k) = refl

number_found : (r : Row) (k : ℕ) → Some k ≡ found_row r → k ≡ row_number r
number_found no_row k e = cc
number_found (the_row j) k e = cc

some_apart : (j k : ℕ) → (j ≡ k → ⊥) → Some j ≡ Some k → ⊥
some_apart j k n e = n cc

none_apart : (k : ℕ) → ◌≡◌ {A = Option ℕ} None (Some k) → ⊥
none_apart k e = cc

-- row 2 has no 1 and some -2; row 3 has nothing below 0
row-two : (least greatest n : ℕ) → row_by least greatest n ≡ Some 2 → (least ≡ 126) × (greatest ≡ 128)
unfolding row_by
row-two l g n h =
    let e = go (eqb l 126 && eqb g 129 && leb 240 n) (eqb l 127 && eqb g 129 && leb 80 n) (eqb l 126 && eqb g 128 && leb 80 n)
    (eqb l 128 && eqb g 129 && leb 80 n) h in
    let f = and_left (eqb l 126 && eqb g 128) (leb 80 n) e in
    (eqb-true l 126 (and_left (eqb l 126) (eqb g 128) f), eqb-true g 128 (and_right (eqb l 126) (eqb g 128) f))
  where
    go : (a b c d : Bool) → ◌≡◌ {A = Option ℕ} (cond a (Some 0) (cond b (Some 1) (cond c (Some 2) (cond d (Some 3) None)))) (Some 2) → c ≡ true
    go true b c d h = absurd (some_apart 0 _ (λ z. omega arith) h)
    go false true c d h = absurd (some_apart 1 _ (λ z. omega arith) h)
    go false false true d h = refl
    go false false false true h = absurd (some_apart 3 _ (λ z. omega arith) h)
    go false false false false h = absurd (none_apart _ h)

row-three : (least greatest n : ℕ) → row_by least greatest n ≡ Some 3 → least ≡ 128
unfolding row_by
row-three l g n h =
    let e = go (eqb l 126 && eqb g 129 && leb 240 n) (eqb l 127 && eqb g 129 && leb 80 n) (eqb l 126 && eqb g 128 && leb 80 n)
    (eqb l 128 && eqb g 129 && leb 80 n) h in
    eqb-true l 128 (and_left (eqb l 128) (eqb g 129) (and_left (eqb l 128 && eqb g 129) (leb 80 n) e))
  where
    go : (a b c d : Bool) → ◌≡◌ {A = Option ℕ} (cond a (Some 0) (cond b (Some 1) (cond c (Some 2) (cond d (Some 3) None)))) (Some 3) → d ≡ true
    go true b c d h = absurd (some_apart 0 _ (λ z. omega arith) h)
    go false true c d h = absurd (some_apart 1 _ (λ z. omega arith) h)
    go false false true d h = absurd (some_apart 2 _ (λ z. omega arith) h)
    go false false false true h = refl
    go false false false false h = absurd (none_apart _ h)

least-two : (twos minus plus : ℕ) → least_by twos minus plus ≡ 126 → twos ≡ 0 → ⊥
unfolding least_by
least-two twos minus plus h z = go (eqb minus 0) (eqb plus 0) (rw z at h)
  where
    go : (a b : Bool) → ◌≡◌ {A = ℕ} (cond a (cond b 129 128) 127) 126 → ⊥
    go true true h = omega arith
    go true false h = omega arith
    go false b h = omega arith

least_zero : (twos minus plus : ℕ) → least_by twos minus plus ≡ 128 → (twos ≡ 0) × (minus ≡ 0)
unfolding least_by
least_zero twos minus plus h = go (eqb twos 0) refl (eqb minus 0) refl h
  where
    go : (a : Bool) → eqb twos 0 ≡ a → (b : Bool) → eqb minus 0 ≡ b → ◌≡◌ {A = ℕ} (cond a (cond b (cond (eqb plus 0) 129 128) 127) 126) 128
        → (twos ≡ 0) × (minus ≡ 0)
    go true e true f h = (eqb-true twos 0 e, eqb-true minus 0 f)
    go true e false f h = absurd (omega arith)
    go false e b f h = absurd (omega arith)

greatest-zero : (one plus minus : ℕ) → greatest_by one plus minus ≡ 128 → one ≡ 0
unfolding greatest_by
greatest-zero one plus minus h = go (eqb one 0) refl h
  where
    go : (a : Bool) → eqb one 0 ≡ a → ◌≡◌ {A = ℕ} (cond a (cond (eqb plus 0) (cond (eqb minus 0) 126 127) 128) 129) 128 → one ≡ 0
    go true e h = eqb-true one 0 e
    go false e h = absurd (omega arith)

-- values in turn, by how many they are
module _ {plus : ℕ} {s : List ℕ} where
  only-turn : {x : Value} → ValueIs plus s x → x.times ≤ length s → InTurn plus s (only_of x)
  only-turn i h =
      record {
        some = omega arith;
        few = omega arith;
        first = i;
        second = λ g. absurd (omega arith);
        third = λ g. absurd (omega arith);
        second-new = λ g. absurd (omega arith);
        third-new = λ g. absurd (omega arith);
        third_last = λ g. absurd (omega arith);
        second-other = i.other;
        third-other = i.other;
        room = omega arith;
      }

  two-turn : {x y : Value} → ValueIs plus s x → ValueIs plus s y → (y.sample ≡ x.sample → ⊥) → x.times + y.times ≤ length s
      → InTurn plus s (two x y)
  two-turn i j ne h =
      record {
        some = omega arith;
        few = omega arith;
        first = i;
        second = λ g. j;
        third = λ g. absurd (omega arith);
        second-new = λ g. ne;
        third-new = λ g. absurd (omega arith);
        third_last = λ g. absurd (omega arith);
        second-other = j.other;
        third-other = i.other;
        room = h;
      }

  three-turn : {x y z : Value} → ValueIs plus s x → ValueIs plus s y → ValueIs plus s z → (y.sample ≡ x.sample → ⊥)
      → (z.sample ≡ x.sample → ⊥) → (z.sample ≡ y.sample → ⊥) → x.times + y.times ≤ length s → InTurn plus s (three x y z)
  three-turn i j k n₁ n₂ n₃ h =
      record {
        some = omega arith;
        few = omega arith;
        first = i;
        second = λ g. j;
        third = λ g. k;
        second-new = λ g. n₁;
        third-new = λ g. n₂;
        third_last = λ g. n₃;
        second-other = j.other;
        third-other = k.other;
        room = h;
      }

-- the bits of values in turn
pub ways-sum : {s a b c : List ℕ} {v : Values} {w : Ways} → 1 ≤ v.count → v.count ≤ 3 → WaysAre s v w a b c
    → w.first.bits + w.second.bits + w.third.bits ≡ length (values_form (samples_of v) s)
unfolding values_form
ways-sum {s} {v = v} {w = w} some few i = go v.count refl
  where
    go : (k : ℕ) → v.count ≡ k → w.first.bits + w.second.bits + w.third.bits ≡ length
        (values_form (take k (v.first.sample ∷ v.second.sample ∷ v.third.sample ∷ [])) s)
    go zero e = absurd (omega arith)
    go (suc zero) e = rw length-append (omega (arith, i.first.way.bits, i.no_second (omega arith), i.no_third (omega arith)))
    go (suc (suc zero)) e =
        rw (length-append, length-append)
        (omega (arith, i.first.way.bits, (i.second (omega arith)).way.bits, i.no_third (omega arith)))
    go (suc (suc (suc zero))) e =
        rw (length-append, length-append, length-append)
        (omega (arith, i.first.way.bits, (i.second (omega arith)).way.bits, (i.third (omega arith)).way.bits))
    go (suc (suc (suc (suc k)))) e = absurd (omega arith)

pub ways-small : {s a b c : List ℕ} {v : Values} {w : Ways} → WaysAre s v w a b c
    → (w.first.bits ≤ 200000000) × ((w.second.bits ≤ 200000000) × (w.third.bits ≤ 200000000))
ways-small {v = v} {w = w} i = (i.first.way.small, (second (leb 2 v.count) refl, third (leb 3 v.count) refl))
  where
    second : (b : Bool) → leb 2 v.count ≡ b → w.second.bits ≤ 200000000
    second true e = (i.second (leb-true 2 v.count e)).way.small
    second false e = omega (arith, i.no_second (leb-false 2 v.count e))

    third : (b : Bool) → leb 3 v.count ≡ b → w.third.bits ≤ 200000000
    third true e = (i.third (leb-true 3 v.count e)).way.small
    third false e = omega (arith, i.no_third (leb-false 3 v.count e))

-- and of all that value-location writes
located-length : (mask : ℕ) {s a b c : List ℕ} {v : Values} {w : Ways} → 1 ≤ v.count → v.count ≤ 3 → samples_of v ≡ values_in mask s
    → WaysAre s v w a b c → 11 + (w.first.bits + w.second.bits + w.third.bits) ≡ length (located_form mask s)
unfolding located_form
located-length mask some few says ways =
    let e = ways-sum some few ways in
    rw (length-append, length-low_bits, length-append, length-low_bits, length-append, length-low_bits, ← says) (omega (arith, e))

-- a row's values for a flag that it has
said : (mask : ℕ) (t : Tally) (row flag : ℕ) → row < 4 → (row ≡ 2 → flag ≡ 0) → (row ≡ 3 → flag ≡ 1)
    → samples_of (values_for mask t row flag) ≡ map (sample_of mask) (cond (eqb flag 1) (case_of row).flag1 (case_of row).flag0)
unfolding values_by case_of
said mask t zero flag h f g = go (eqb flag 1)
  where
    go : (b : Bool)
        → samples_of (cond b (three (one_in mask t) (minus_in mask t) (twos_in mask t)) (three (minus_in mask t) (one_in mask t) (twos_in mask t)))
        ≡ map (sample_of mask) (cond b (pos 1 ∷ negsuc 0 ∷ negsuc 1 ∷ []) (negsuc 0 ∷ pos 1 ∷ negsuc 1 ∷ []))
    go true = refl
    go false = refl
said mask t (suc zero) flag h f g = go (eqb flag 1)
  where
    go : (b : Bool) → samples_of (cond b (two (one_in mask t) (minus_in mask t)) (two (minus_in mask t) (one_in mask t)))
        ≡ map (sample_of mask) (cond b (pos 1 ∷ negsuc 0 ∷ []) (negsuc 0 ∷ pos 1 ∷ []))
    go true = refl
    go false = refl
said mask t (suc (suc zero)) flag h f g = rw (f refl)
said mask t (suc (suc (suc zero))) flag h f g = rw (g refl)
said mask t (suc (suc (suc (suc row)))) flag h f g = absurd (omega arith)

-- values that were ordered are those of the tally
pub values-told : {x y z : ℕ} {r : Values} (mask row flag : ℕ) (t : Tally)
    → r ≡ values_by row flag (record { sample = x; times = t.one }) (record { sample = y; times = t.minus })
    (record { sample = z; times = t.twos })
    → x ≡ sample_of mask (pos 1) → y ≡ minus_zero mask → z ≡ sample_of mask (negsuc 1) → r ≡ values_for mask t row flag
values-told mask row flag t e f g h = e ∙ rw (f, g, h)

module _ {mask : ℕ} {s : List ℕ} {t : Tally} (tally : Tallied mask s t) where
  pub flag_is : cond (leb (t.minus + t.twos) t.one) 1 0 ≡ located_flag mask s
  flag_is = rw (tally.below, tally.above)

  module _ (law : LawMask mask) where
    one-is : ValueIs (plus_zero mask) s (one_in mask t)
    one-is = record { times = tally.one; other = apart law (pos 1) (pos 0) (omega arith) (omega arith) (λ z. omega arith) }

    minus_is : ValueIs (plus_zero mask) s (minus_in mask t)
    minus_is = record { times = tally.minus; other = apart law (negsuc 0) (pos 0) (omega arith) (omega arith) (λ z. omega arith) }

    twos-are : ValueIs (plus_zero mask) s (twos_in mask t)
    twos-are = record { times = tally.twos; other = apart law (negsuc 1) (pos 0) (omega arith) (omega arith) (λ z. omega arith) }

    pub in-turn : (row flag : ℕ) → InTurn (plus_zero mask) s (values_for mask t row flag)
    unfolding values_by
    in-turn row flag = go (eqb row 3) (eqb row 2) (eqb row 1) (eqb flag 1)
      where
        minus_one : minus_zero mask ≡ sample_of mask (pos 1) → ⊥
        minus_one = apart law (negsuc 0) (pos 1) (omega arith) (omega arith) (λ z. omega arith)

        twos-one : sample_of mask (negsuc 1) ≡ sample_of mask (pos 1) → ⊥
        twos-one = apart law (negsuc 1) (pos 1) (omega arith) (omega arith) (λ z. omega arith)

        twos-minus : sample_of mask (negsuc 1) ≡ minus_zero mask → ⊥
        twos-minus = apart law (negsuc 1) (negsuc 0) (omega arith) (omega arith) (λ z. omega arith)

        go : (a b c d : Bool) → InTurn (plus_zero mask) s
            (cond a (only_of (one_in mask t))
            (cond b (two (minus_in mask t) (twos_in mask t))
            (cond c (cond d (two (one_in mask t) (minus_in mask t)) (two (minus_in mask t) (one_in mask t)))
            (cond d (three (one_in mask t) (minus_in mask t) (twos_in mask t)) (three (minus_in mask t) (one_in mask t) (twos_in mask t))))))
        go true b c d = only-turn one-is (omega (arith, tally.all))
        go false true c d = two-turn minus_is twos-are twos-minus (omega (arith, tally.all))
        go false false true true = two-turn one-is minus_is minus_one (omega (arith, tally.all))
        go false false true false = two-turn minus_is one-is (λ e. minus_one (sym e)) (omega (arith, tally.all))
        go false false false true = three-turn one-is minus_is twos-are minus_one twos-one twos-minus (omega (arith, tally.all))
        go false false false false = three-turn minus_is one-is twos-are (λ e. minus_one (sym e)) twos-minus twos-one
            (omega (arith, tally.all))

    pub turn-of : {plus : ℕ} {v : Values} (row flag : ℕ) → plus ≡ plus_zero mask → v ≡ values_for mask t row flag → InTurn plus s v
    turn-of row flag e f = rw (e, f) (in-turn row flag)

  row-found : {n : ℕ} → length s ≡ n → row_for t n ≡ found_row (row_of mask s)
  unfolding row_by row_of case_of
  row-found size =
      rw (tally.least, tally.greatest, ← size)
      (as_found (is_row mask s 0) (is_row mask s 1) (is_row mask s 2) (is_row mask s 3))

  -- no row, or one
  pub row-none : {n : ℕ} → length s ≡ n → row_for t n ≡ None → has_row (row_of mask s) ≡ false
  row-none size e = sym (has_found (row_of mask s)) ∙ ap is_some (sym (row-found size) ∙ e)

  module _ {n : ℕ} (size : length s ≡ n) {at : ℕ}
      (found : Some at ≡ row_for t n) where
    row_is : Some at ≡ found_row (row_of mask s)
    row_is = found ∙ row-found size

    has_it : has_row (row_of mask s) ≡ true
    has_it = sym (ap is_some row_is ∙ has_found (row_of mask s))

    number_is : at ≡ row_number (row_of mask s)
    number_is = number_found (row_of mask s) at row_is

    low : at < 4
    low = rw number_is (where-row (λ k. k < 4) (row_of mask s) (located-low mask s) has_it)

    -- rows 2 and 3 have values for one flag only, and that is the one
    flag-two : at ≡ 2 → ◌≡◌ {A = ℕ} (cond (leb (t.minus + t.twos) t.one) 1 0) 0
    flag-two e =
        let i = row-two _ _ n (sym found ∙ ap Some e) in
        let some : t.twos ≡ 0 → ⊥ = least-two _ _ _ i.0 in
        let none : t.one ≡ 0 = greatest-zero _ _ _ i.1 in
        let more : 1 ≤ t.twos = positive t.twos some in
        ap (λ (b : Bool). cond {A = ℕ} b 1 0) (lt-leb (t.minus + t.twos) t.one (omega arith))
      where
        positive : (k : ℕ) → (k ≡ 0 → ⊥) → 1 ≤ k
        positive zero h = absurd (h refl)
        positive (suc k) h = omega arith

    flag-three : at ≡ 3 → ◌≡◌ {A = ℕ} (cond (leb (t.minus + t.twos) t.one) 1 0) 1
    flag-three e =
        let i = least_zero _ _ _ (row-three _ _ n (sym found ∙ ap Some e)) in
        ap (λ (b : Bool). cond {A = ℕ} b 1 0) (le-leb (t.minus + t.twos) t.one (omega (arith, i.0, i.1)))

    pub row-has : has_row (row_of mask s) ≡ true
    row-has = has_it

    pub applied-is : {a : Bool} → a ≡ (leb t.one t.plus && leb t.minus t.plus && leb t.twos t.plus) → 80 ≤ n → a ≡ applies mask 7 s
    unfolding applies
    applied-is tested h =
        tested ∙ rw (le-leb 80 (length s) (omega (arith, size)), has_it, tally.one, tally.plus, tally.minus, tally.twos)

    -- the values, in the flag's order
    pub values-say : {flag : ℕ} → flag ≡ cond (leb (t.minus + t.twos) t.one) 1 0
        → samples_of (values_for mask t at flag) ≡ values_in mask s
    unfolding values_by values_of case_of
    values-say {flag} f =
        let fit = rows_fit mask s has_it in
        said mask t at flag low (λ z. f ∙ flag-two z) (λ z. f ∙ flag-three z) ∙ rw (number_is, f ∙ flag_is, fit)

    -- and all that is written
    pub located-is : {flag bits plus : ℕ} {x y z : List ℕ} {v : Values} {w : Ways}
        → flag ≡ cond (leb (t.minus + t.twos) t.one) 1 0 → flag < 2
        → v ≡ values_for mask t at flag → InTurn plus s v → WaysAre s v w x y z
        → bits ≡ 11 + (w.first.bits + w.second.bits + w.third.bits) → LocatedIs mask s (record {
          bits = bits;
          row = at;
          flag = flag;
          count = v.count;
          first = w.first;
          second = w.second;
          third = w.third;
        }) x y z
    located-is {v = v} f mark told turn ways sum =
        let says : samples_of v ≡ values_in mask s = ap samples_of told ∙ values-say f in
        let k = ways-small ways in
        record {
          x = v.first.sample;
          y = v.second.sample;
          z = v.third.sample;
          row = number_is;
          low = low;
          flag = f ∙ flag_is;
          mark = mark;
          some = turn.some;
          few = turn.few;
          values = sym says;
          first = ways.first;
          second = ways.second;
          third = ways.third;
          bits = sum ∙ located-length mask turn.some turn.few says ways;
          small = omega (arith, sum, k.0, k.1.0, k.1.1);
        }
