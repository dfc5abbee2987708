-- The first line, and one page after another until the end, are the whole listing and nothing else.
use Prim.Native.Nat.{ℕ}
use mathlib.Core.Path.{◌≡◌, refl, sym, ap, ◌∙◌}
use mathlib.Core.List.{List, [], ◌++◌}
use Rattle.std.proofs.Common.{Option, Some, None}
use lib.ListN.{take, drop}
use Rattle.rules.specs.Listing.{listing}
use Rattle.listing_pages.specs.declared.Stand.{Stand}
use Rattle.listing_pages.specs.declared.Page.{Page}
use Rattle.listing_pages.specs.Pages.{lines_left, Lists, OpensInput}

-- what is written from a place on: pages, each put at the start of a lent output, and the end
pub data Written (stream : List ℕ) : Option Stand → List ℕ → Type 0 where
  end : Written stream None []
  page : {s : Stand} {next : Option Stand} {out out' rest : List ℕ} {to : ℕ} → Lists stream s out 0 next out' to → Written stream next rest
      → Written stream (Some s) (take to out' ++ rest)

pub written-left : {stream : List ℕ} {next : Option Stand} {text : List ℕ} → Written stream next text → lines_left stream next ≡ text
unfolding lines_left
written-left end = refl
written-left {stream} (page {next = next} {out' = out'} {to = to} p w) =
    p.says ∙ ap (λ (t : List ℕ). t ++ lines_left stream next) (sym p.puts.says)
    ∙ ap (λ (t : List ℕ). take to out' ++ t) (written-left w)

pub written-whole : {input out out' text : List ℕ} {r : Page} → OpensInput input out r out'
    → Written (drop 1 input) r.next text → listing input ≡ take r.to out' ++ text
written-whole {input} {text = text} {r} o w =
    o.opens.says ∙ ap (λ (t : List ℕ). o.opens.text ++ t) (written-left w)
    ∙ ap (λ (t : List ℕ). t ++ text) (sym o.opens.puts.says)
