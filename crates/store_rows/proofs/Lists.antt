-- Lists that agree from a place on (`same-get_d`, `same_drop`), tests in a chain (`passed`, `both`).
use Prim.Native.Nat.{ℕ, ◌+◌, ◌-◌, ◌≤◌}
use mathlib.Core.Path.{◌≡◌, refl, sym, ap, ◌∙◌}
use mathlib.Core.List.{List}
use mathlib.Core.Bool.{Bool, true, false, cond}
use native.Mathlib.Omega.{arith}
use lib.ListN.{drop, get_or}
use lib.Seq.{get_or-drop, drop-drop}

pub same-get_d : (k j : ℕ) (l m : List ℕ) → drop k l ≡ drop k m → k ≤ j → get_or l j 0 ≡ get_or m j 0
same-get_d k j l m e h =
    let f : k + (j - k) ≡ j = omega arith in
    ap (λ (x : ℕ). get_or l x 0) (sym f) ∙ sym (get_or-drop k l (j - k) 0) ∙ ap (λ (x : List ℕ). get_or x (j - k) 0) e
    ∙ get_or-drop k m (j - k) 0 ∙ ap (λ (x : ℕ). get_or m x 0) f

pub same_drop : (k j : ℕ) (l m : List ℕ) → drop k l ≡ drop k m → k ≤ j → drop j l ≡ drop j m
same_drop k j l m e h =
    let f : k + (j - k) ≡ j = omega arith in
    ap (λ (x : ℕ). drop x l) (sym f) ∙ sym (drop-drop (j - k) k l) ∙ ap (λ (x : List ℕ). drop (j - k) x) e
    ∙ drop-drop (j - k) k m ∙ ap (λ (x : ℕ). drop x m) f

-- a test that did not refuse
pub passed : (b r : Bool) → cond b false r ≡ true → (b ≡ false) × (r ≡ true)
passed true r e = (cc, cc)
passed false r e = (refl, e)

pub both : (b r : Bool) → cond b r false ≡ true → (b ≡ true) × (r ≡ true)
both true r e = (refl, e)
both false r e = (cc, cc)
