-- How the listing opens: by a refusal, or by the law's line.
use Prim.Native.Nat.{ℕ, ◌+◌, ◌*◌, ◌≤◌, ◌<◌}
use mathlib.Core.Path.{◌≡◌, refl, sym, ◌∙◌}
use mathlib.Core.List.{List, [], ◌∷◌, ◌++◌, append-nil}
use mathlib.Core.Bool.{cond}
use native.Mathlib.Omega.{arith}
use native.Mathlib.Nat.{zero-add}
use lib.ListN.{length, get_or, take, drop, length-drop}
use lib.Seq.{take_all}
use lib.Dec.{eqb}
use borrow.Author.Tests.{ne_eqb, lt-leb, le-leb}
use Rattle.std.proofs.Common.{Ok, Some, None}
use Rattle.std.specs.List.{slice_get}
use Rattle.rules.specs.Refusals.{verdict}
use Rattle.rules.specs.Tools.{most_law}
use Rattle.rules.specs.Walk.{longest, walk_asks}
use Rattle.rules.specs.Listing.{stop_line, law_line, list_stream, listing, most_listed, listed_tools}
use Rattle.rules.proofs.Guards.{walk-allowed}
use Rattle.text_lines.specs.Puts.{Puts}
use Rattle.listing_pages.specs.declared.Stand.{Stand}
use Rattle.listing_pages.specs.declared.Page.{Page}
use Rattle.listing_pages.specs.Pages.{lines_of, walk_left, lines_left, Opens, Stops, OpensInput}

-- a refusal is all of the listing
pub opens_stopped : (stream : List ℕ) {whole : List ℕ} {number : ℕ} {out out' : List ℕ} {r : Page} → Stops number out r out'
    → whole ≡ stop_line number 0 0 0 → Opens whole stream out r out'
unfolding lines_left
opens_stopped stream {whole} {number} t e =
    record {
      text = stop_line number 0 0 0;
      puts = t.puts;
      says = rw (t.ended, append-nil) e;
      stands = rw t.ended tt;
      most = t.most;
    }

-- "a longer stream prints that line with 13"
pub too_long : (law : ℕ) (stream : List ℕ) → most_listed < length stream → list_stream law stream ≡ stop_line 13 0 0 0
unfolding list_stream
too_long law stream h = rw (lt-leb (length stream) most_listed h)

-- else it prints the law's line, and the lines of the walk from the stream's start on
stream-listed : (law : ℕ) (stream : List ℕ) → law ≤ most_law → length stream ≤ most_listed
    → list_stream law stream ≡ law_line law ++ lines_of 0 0 (walk_left stream law 0)
unfolding list_stream
stream-listed law stream h l =
    let met : verdict (walk_asks law listed_tools (length stream)) ≡ Ok tt =
    rw (le-leb law most_law h, le-leb (length stream) longest (omega arith)) in
    rw (le-leb (length stream) most_listed l, walk-allowed stream law listed_tools (320 * length stream) met, zero-add)

-- the stream's first place
abbrev pub start : ℕ → Stand
start law = record { law = law; frames = 0; at = 0; samples = 0 }

-- the law's line, and the stream's first place
pub opens-stream : (stream : List ℕ) (law : ℕ) {out out' : List ℕ} {r : Page} → r.next ≡ Some (start law) → law ≤ most_law
    → length stream ≤ most_listed → Puts out 0 (law_line law) out' r.to → r.to ≤ 160 → Opens (list_stream law stream) stream out r out'
unfolding lines_left
opens-stream stream law {r = r} b h l p m =
    record {
      text = law_line law;
      puts = p;
      says = stream-listed law stream h l ∙ rw b;
      stands = rw b (record { short = l; inside = omega arith; frames = omega arith; samples = omega arith });
      most = m;
    }

-- an input by its first octet
by-letter : (input : List ℕ) → 0 < length input → listing input
    ≡ cond (eqb (get_or input 0 0) 0x41) (list_stream 0 (drop 1 input))
    (cond (eqb (get_or input 0 0) 0x4D) (list_stream 1 (drop 1 input)) (stop_line 12 0 0 0))
unfolding listing
by-letter [] h = absurd (omega arith)
by-letter (x ∷ l) h = refl

pub input_none : (input : List ℕ) → length input ≡ 0 → listing input ≡ stop_line 12 0 0 0
unfolding listing
input_none [] e = refl
input_none (x ∷ l) e = absurd (omega arith)

-- the first octet, if there is one
pub first_some : (input : List ℕ) {x : ℕ} → Some x ≡ slice_get input 0 → (0 < length input) × (get_or input 0 0 ≡ x)
first_some [] e = let z : ◌≡◌ {A = ℕ} 0 1 = cc in absurd (omega arith)
first_some (y ∷ l) e = (omega arith, cc)

pub first_none : (input : List ℕ) → None ≡ slice_get input 0 → length input ≡ 0
first_none [] e = refl
first_none (y ∷ l) e = let z : ◌≡◌ {A = ℕ} 0 1 = cc in absurd (omega arith)

module _ (input : List ℕ) (h : 0 < length input) where
  pub input-a : get_or input 0 0 ≡ 0x41 → listing input ≡ list_stream 0 (drop 1 input)
  input-a e = by-letter input h ∙ rw e

  pub input-m : get_or input 0 0 ≡ 0x4D → listing input ≡ list_stream 1 (drop 1 input)
  input-m e = by-letter input h ∙ rw e

  pub input-other : (get_or input 0 0 ≡ 0x41 → ⊥) → (get_or input 0 0 ≡ 0x4D → ⊥) → listing input ≡ stop_line 12 0 0 0
  input-other a m = by-letter input h ∙ rw (ne_eqb _ _ a, ne_eqb _ _ m)

  -- the stream is what follows the first octet
  pub opens-input : (law n : ℕ) {out out' : List ℕ} {r : Page} → length input ≤ n + 1 → listing input ≡ list_stream law (drop 1 input)
      → Opens (list_stream law (take n (drop 1 input))) (take n (drop 1 input)) out r out' → OpensInput input out r out'
  opens-input law n l e t =
      let k : length (drop 1 input) ≤ n = rw length-drop (omega arith) in
      record { opens = rw e (rw (take_all n (drop 1 input) k) at t); some = λ s g. h }

-- no law's letter
pub stops-input : (input : List ℕ) {out out' : List ℕ} {r : Page} → listing input ≡ stop_line 12 0 0 0 → Stops 12 out r out'
    → OpensInput input out r out'
stops-input input e t = record { opens = opens_stopped (drop 1 input) t e; some = λ s g. not-ended (sym g ∙ t.ended) }
  where
    not-ended : {s : Stand} {A : Type 0} → Some s ≡ None → A
    not-ended e = let z : ◌≡◌ {A = ℕ} 0 1 = cc in absurd (omega arith)
