-- The loops on their way, item by item.
--   Judging: whether entries are given.     Measuring: their octets, counted.     Writing: their octets, written.
--   Counting: the most that they may be.     measured-settles, most-settles: what LONG and ROOM are judged by.
use Prim.Native.Nat.{ℕ, suc, ◌+◌, ◌-◌, ◌≤◌, ◌<◌}
use native.Mathlib.Omega.{arith}
use mathlib.Core.Path.{◌≡◌, refl, sym, ap, ◌∙◌}
use mathlib.Core.List.{List, [], ◌∷◌, ◌++◌, append_assoc, append-nil}
use mathlib.Core.Bool.{Bool, true, false}
use lib.ListN.{length, take, drop, get_or, length-append, length-drop, drop_of_length-le}
use lib.Seq.{drop-drop}
use lib.Dec.{eqb}
use borrow.Author.Tests.{eq-eqb, ne_eqb, eqb-true, eqb-false}
use Rattle.text_keyvalue.proofs.Numbers.{drop-next}
use Rattle.rules.specs.Walk.{longest}
use Rattle.rules.specs.Samples.{mask_of}
use Rattle.rules.specs.Tools.{is_writer_set}
use Rattle.rules.proofs.Octets.{Below, below-drop}
use Rattle.text_lines.specs.Puts.{Puts}
use Rattle.text_lines.proofs.Putting.{puts_then, puts-as}
use Rattle.recording.specs.Remembered.{heading_length}
use Rattle.recording.specs.Files.{entry_octets, six_lengths, given_by}
use Rattle.recording_write.specs.Cells.{length_in, taken, entry_by, most_for, is_given, octets_given}
use Rattle.recording_write.specs.Steps.{ItemIn, Measures, Settles}
use Rattle.recording_write.proofs.Forms.{item-most}
use Rattle.recording_write.proofs.Cells.{no_item, no-samples, given-on, Next, next-given, none_left, octets-next, octets-none}

-- nothing is left
all-used : (a b : ℕ) → b ≤ a → eqb a b ≡ eqb (a - b) 0
all-used a b h = go (eqb a b) refl
  where
    go : (t : Bool) → eqb a b ≡ t → eqb a b ≡ eqb (a - b) 0
    go true e = e ∙ sym (eq-eqb (a - b) 0 (omega (arith, eqb-true a b e)))
    go false e = let n = eqb-false a b e in e ∙ sym (ne_eqb (a - b) 0 (λ z. n (omega arith)))

module _ (cells samples : List ℕ) where
  -- entries are given by all where they are by the rest
  pub record Judging (i from : ℕ) : Type 0 where
    pub most : i ≤ length cells
    pub inside : from ≤ length samples
    pub same : is_given (given_by cells samples) ≡ is_given (given_by (drop i cells) (drop from samples))

  pub judge-start : Judging 0 0
  judge-start = record { most = omega arith; inside = omega arith; same = refl }

  module _ {i from : ℕ} (j : Judging i from) where
    -- no number is left
    pub judge-done : length cells ≤ i → eqb (length samples) from ≡ is_given (given_by cells samples)
    judge-done h =
        rw (j.same, drop_of_length-le cells h, none_left (drop from samples), length-drop from samples)
        (all-used (length samples) from j.inside)

    module _ (h : i < length cells) where
      abbrev c : ℕ
      c = get_or cells i 0

      pub judge-no-item : six_lengths (length_in c) ≡ false → false ≡ is_given (given_by cells samples)
      judge-no-item e = rw (j.same, drop-next cells i h) (no_item c (drop (i + 1) cells) (drop from samples) e)

      module _ (e : six_lengths (length_in c) ≡ true) where
        pub judge-no-samples : length samples - from < taken c → false ≡ is_given (given_by cells samples)
        judge-no-samples k =
            rw (j.same, drop-next cells i h)
            (no-samples c (drop (i + 1) cells) (drop from samples) e (omega (arith, length-drop from samples)))

        pub judge-turn : taken c ≤ length samples - from → Judging (i + 1) (from + taken c)
        judge-turn k =
            let on = given-on c (drop (i + 1) cells) (drop from samples) e (omega (arith, length-drop from samples)) in
            record {
              most = omega arith;
              inside = omega (arith, j.inside);
              same = j.same ∙ rw (drop-next cells i h)
                  (on ∙ ap (λ s. is_given (given_by (drop (i + 1) cells) s)) (drop-drop (taken c) from samples));
            }

  -- entries are given by what is left
  pub record Going (i from : ℕ) : Type 0 where
    pub most : i ≤ length cells
    pub inside : from ≤ length samples
    pub on : is_given (given_by (drop i cells) (drop from samples)) ≡ true

  pub going_start : is_given (given_by cells samples) ≡ true → Going 0 0
  going_start g = record { most = omega arith; inside = omega arith; on = g }

  module _ {i from : ℕ} (g : Going i from) (h : i < length cells) where
    next : Next (get_or cells i 0) (drop (i + 1) cells) (drop from samples)
    next = next-given (get_or cells i 0) (drop (i + 1) cells) (drop from samples) (rw (drop-next cells i h) at g.on)

    pub going-item : ItemIn (drop from samples) (get_or cells i 0)
    going-item = next.item

    pub going_on : Going (i + 1) (from + taken (get_or cells i 0))
    going_on = record {
      most = omega arith;
      inside = omega (arith, next.item.inside, length-drop from samples, g.inside);
      on = rw (drop-drop (taken (get_or cells i 0)) from samples) at next.on;
    }

  module _ (mask set : ℕ) where
    -- the octets of what is left, and of the next item
    abbrev left : ℕ → ℕ → List ℕ
    left i from = octets_given mask set (drop i cells) (drop from samples)

    abbrev item : ℕ → ℕ → List ℕ
    item i from = entry_octets mask set (entry_by (get_or cells i 0) (drop from samples))

    left-next : {i from : ℕ} → Going i from → i < length cells → left i from ≡ item i from ++ left (i + 1) (from + taken (get_or cells i 0))
    left-next {i} {from} g h =
        let n = next g h in
        rw (drop-next cells i h, ← (drop-drop (taken (get_or cells i 0)) from samples))
        (octets-next mask set (get_or cells i 0) (drop (i + 1) cells) (drop from samples) n)

    left-none : {i : ℕ} (from : ℕ) → length cells ≤ i → left i from ≡ []
    left-none from h = rw (drop_of_length-le cells h) (octets-none mask set (drop from samples))

    -- the octets of the items so far
    pub record Measuring (i from sum : ℕ) : Type 0 where
      pub going : Going i from
      pub few : sum ≤ longest + 200000000
      pub total : sum + length (left i from) ≡ length (octets_given mask set cells samples)

    pub measure-start : is_given (given_by cells samples) ≡ true → Measuring 0 0 0
    measure-start g = record { going = going_start g; few = omega arith; total = omega arith }

    module _ {i from sum : ℕ} (m : Measuring i from sum) where
      pub measure-turn : i < length cells → sum ≤ longest → {n : ℕ} → n ≡ length (item i from) → n ≤ 200000000
          → Measuring (i + 1) (from + taken (get_or cells i 0)) (sum + n)
      measure-turn h k e s =
          record {
            going = going_on m.going h;
            few = omega arith;
            total = omega (
              arith,
              m.total,
              ap length (left-next m.going h) ∙ length-append (item i from) (left (i + 1) (from + taken (get_or cells i 0))),
            );
          }

      -- all are measured, or so many that they are LONG
      pub measure-done : length cells ≤ i → Measures (length (octets_given mask set cells samples)) sum
      measure-done h =
          let t = m.total in
          let e = ap length (left-none from h) in
          record { exact = λ k. omega arith; long = λ k. omega arith }

      pub measure-long : longest < sum → Measures (length (octets_given mask set cells samples)) sum
      measure-long h = let t = m.total in record { exact = λ k. omega arith; long = λ k. omega arith }

    -- the items so far stand in the output
    module _ (out₀ : List ℕ) (at : ℕ) where
      pub record Writing (out : List ℕ) (i from to : ℕ) : Type 0 where
        pub going : Going i from
        pub done : List ℕ
        pub puts : Puts out₀ at done out to
        pub all : done ++ left i from ≡ octets_given mask set cells samples

      pub write-start : is_given (given_by cells samples) ≡ true → Writing out₀ 0 0 at
      write-start g =
          record {
            going = going_start g;
            done = [];
            puts = record { says = sym (append-nil (take at out₀)); rest = refl; place = omega arith; size = refl };
            all = refl;
          }

      module _ {out : List ℕ} {i from to : ℕ} (w : Writing out i from to) where
        pub write-room : at + length (octets_given mask set cells samples) ≤ length out₀ → i < length cells
            → to + length (item i from) ≤ length out
        write-room h k =
            let rest = left (i + 1) (from + taken (get_or cells i 0)) in
            omega (
              arith,
              w.puts.place,
              w.puts.size,
              sym (length-append w.done (left i from)) ∙ ap length w.all,
              ap length (left-next w.going k) ∙ length-append (item i from) rest,
            )

        pub write-turn : i < length cells → {out' : List ℕ} {next : ℕ} → Puts out to (item i from) out' next
            → Writing out' (i + 1) (from + taken (get_or cells i 0)) next
        write-turn h p =
            record {
              going = going_on w.going h;
              done = w.done ++ item i from;
              puts = puts_then w.puts p;
              all =
                  append_assoc w.done (item i from) (left (i + 1) (from + taken (get_or cells i 0)))
                  ∙ ap (λ x. w.done ++ x) (sym (left-next w.going h)) ∙ w.all;
            }

        pub write_done : length cells ≤ i → Puts out₀ at (octets_given mask set cells samples) out to
        write_done h = puts-as (sym (append-nil w.done) ∙ ap (λ x. w.done ++ x) (sym (left-none from h)) ∙ w.all) w.puts

-- the most that items may have
octets-most : (law set : ℕ) → is_writer_set set ≡ true → (cells samples : List ℕ) → Below 256 samples → is_given (given_by cells samples) ≡ true
    → length (octets_given (mask_of law) set cells samples) ≤ most_for cells
unfolding most_for
octets-most law set o [] samples b g = omega (arith, ap length (octets-none (mask_of law) set samples))
octets-most law set o (c ∷ cells) samples b g =
    let n = next-given c cells samples g in
    let first = entry_octets (mask_of law) set (entry_by c samples) in
    let rest = octets_given (mask_of law) set cells (drop (taken c) samples) in
    omega (
      arith,
      ap length (octets-next (mask_of law) set c cells samples n) ∙ length-append first rest,
      item-most law set c samples o b n.item,
      octets-most law set o cells (drop (taken c) samples) (below-drop (taken c) b) n.on,
    )

most-next : (cells : List ℕ) (i : ℕ) → i < length cells → most_for (drop i cells) ≡ suc (length_in (get_or cells i 0)) + most_for
    (drop (i + 1) cells)
unfolding most_for
most-next cells i h = rw (drop-next cells i h) refl

most-none : (cells : List ℕ) {i : ℕ} → length cells ≤ i → most_for (drop i cells) ≡ 0
unfolding most_for
most-none cells h = rw (drop_of_length-le cells h) refl

-- these counted so far
pub record Counting (cells : List ℕ) (i sum : ℕ) : Type 0 where
  pub most : i ≤ length cells
  pub few : sum ≤ longest + 65536
  pub total : sum + most_for (drop i cells) ≡ most_for cells

pub count-start : (cells : List ℕ) → Counting cells 0 0
count-start cells = record { most = omega arith; few = omega arith; total = omega arith }

module _ (cells : List ℕ) {i sum : ℕ} (k : Counting cells i sum) where
  pub count_turn : i < length cells → sum ≤ longest → {n : ℕ} → n ≡ suc (length_in (get_or cells i 0)) → n ≤ 65536
      → Counting cells (i + 1) (sum + n)
  count_turn h l e s = record { most = omega arith; few = omega arith; total = omega (arith, k.total, most-next cells i h) }

  pub count-done : length cells ≤ i → Measures (most_for cells) sum
  count-done h = let t = k.total in let e = most-none cells h in record { exact = λ k. omega arith; long = λ k. omega arith }

  pub count_long : longest < sum → Measures (most_for cells) sum
  count_long h = let t = k.total in record { exact = λ k. omega arith; long = λ k. omega arith }

-- what is measured, and the most where it fits, settle LONG and ROOM
pub measured-settles : {total r : ℕ} (room : ℕ) → Measures total r → Settles total room r
measured-settles room m =
    record {
      long = m.long;
      short = λ h. omega (arith, m.exact h);
      no_room = λ h k. omega (arith, m.exact h);
      room_for = λ h k. omega (arith, m.exact h);
    }

pub most-settles : (law set : ℕ) (cells samples : List ℕ) {r room : ℕ} → is_writer_set set ≡ true → Below 256 samples
    → is_given (given_by cells samples) ≡ true → Measures (most_for cells) r → r ≤ longest → heading_length + r ≤ room
    → Settles (length (octets_given (mask_of law) set cells samples)) room r
most-settles law set cells samples o b g m s f =
    let e = m.exact s in
    let t = octets-most law set o cells samples b g in
    record { long = λ h. omega arith; short = λ h. omega arith; no_room = λ h k. omega arith; room_for = λ h k. omega arith }
