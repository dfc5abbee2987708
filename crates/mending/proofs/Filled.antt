-- The filling, walked: constant plus zero frames, each of one octet, that hold exactly what was left (`filling-walks`).
use Prim.Native.Nat.{ℕ, zero, suc, ◌+◌, ◌*◌, ◌-◌, ◌/◌, ◌%◌, ◌≤◌}
use native.Mathlib.Omega.{arith}
use native.Mathlib.Nat.{mul-suc}
use mathlib.Core.Path.{◌≡◌, refl, sym, ap, subst, ◌∙◌}
use mathlib.Core.List.{List, [], ◌∷◌, ◌++◌, append_assoc, append-nil}
use mathlib.Core.Bool.{true}
use lib.ListN.{length, drop, replicate, length-append, length-replicate, replicate-append-replicate}
use lib.Seq.{drop-append_seam}
use lib.Dec.{lit<}
use lib.IntN.{pos}
use borrow.Author.Tests.{eq-eqb}
use Rattle.std.proofs.Common.{Ok}
use Rattle.rules.proofs.Counts.{count-replicate}
use Rattle.rules.specs.Tools.{all_tools, holds, is_law, is_length}
use Rattle.rules.specs.Bits.{low_bits, octets_from, value_from, pack}
use Rattle.rules.specs.First.{base_of, octet_for}
use Rattle.rules.specs.Samples.{mask_of, plus_zero}
use Rattle.rules.specs.Reading.{whole}
use Rattle.rules.specs.Frame.{Found, read_one}
use Rattle.rules.specs.Chooses.{applies, form_of}
use Rattle.rules.specs.Walk.{Delivered, samples_kept}
use Rattle.rules.proofs.Octets.{below-replicate, length-low_bits}
use Rattle.rules.proofs.Signed.{law-mask}
use Rattle.rules.proofs.Tests.{by_length}
use Rattle.promises.proofs.Written.{form-back}
use Rattle.promises.proofs.Walks.{WalkOf, ended, delivers}
use Rattle.mending.specs.Mend.{fill_by, filling}

-- a constant plus zero frame
abbrev pub plus_frame : ℕ → ℕ → Found
plus_frame law n = record { tool = 2; samples = replicate n (plus_zero (mask_of law)); bits = 8 }

applies-plus : (mask n : ℕ) → applies mask 2 (replicate n (plus_zero mask)) ≡ true
unfolding applies
applies-plus mask n = eq-eqb _ _ (count-replicate (plus_zero mask) n ∙ sym (length-replicate n (plus_zero mask)))

plus-octet : (n : ℕ) → is_length n ≡ true → pack (low_bits 8 (octet_for 2 n)) ≡ octet_for 2 n ∷ []
unfolding low_bits octets_from value_from pack base_of
plus-octet n l = by_length (λ n. pack (low_bits 8 (octet_for 2 n)) ≡ octet_for 2 n ∷ []) refl refl refl refl refl n l

plus-held : holds all_tools 2 ≡ true
unfolding holds
plus-held = refl

pub plus-read : (law n room : ℕ) (more : List ℕ) → is_law law ≡ true → is_length n ≡ true → n ≤ room
    → read_one (octet_for 2 n ∷ more) law all_tools room ≡ whole (plus_frame law n) 8
unfolding form_of
plus-read law n room more i l r =
    let mask = mask_of law in
    let s = replicate n (plus_zero mask) in
    let size : length s ≡ n = length-replicate n (plus_zero mask) in
    let bits : length (low_bits 8 (octet_for 2 n)) ≡ 8 = length-low_bits 8 (octet_for 2 n) in
    let b = below-replicate n ((law-mask law).octet (pos 0) (lit< tt)) in
    let f = form-back law 2 s i (rw size l) b refl (applies-plus mask n) all_tools room more refl plus-held (omega (arith, size)) in
    rw (size, bits, plus-octet n l) at f

-- octets of such frames, and how many samples they hold
pub data PlusFrames : List ℕ → ℕ → Type 0 where
  none : PlusFrames [] 0
  one : (n : ℕ) {left : ℕ} {octets : List ℕ} → is_length n ≡ true → PlusFrames octets left → PlusFrames (octet_for 2 n ∷ octets) (n + left)

many : (k n : ℕ) {left : ℕ} {octets : List ℕ} → is_length n ≡ true → PlusFrames octets left
    → PlusFrames (replicate k (octet_for 2 n) ++ octets) (n * k + left)
many zero n {left} l p = let e : n * 0 + left ≡ left = omega arith in rw e p
many (suc k) n {left} l p = let e : n * suc k + left ≡ n + (n * k + left) = mul-step in rw e (one n l (many k n l p))
  where
    mul-step : n * suc k + left ≡ n + (n * k + left)
    mul-step = omega (arith, mul-suc n k)

-- each next length fills what the longer ones leave
next : (n left : ℕ) {octets : List ℕ} → is_length n ≡ true → PlusFrames octets (left % n) → n * (left / n) + left % n ≡ left
    → PlusFrames (replicate (left / n) (octet_for 2 n) ++ octets) left
next n left {octets} l p e = subst (λ (x : ℕ). PlusFrames (replicate (left / n) (octet_for 2 n) ++ octets) x) e (many (left / n) n l p)

pub filling-plus : (left : ℕ) → left % 40 ≡ 0 → PlusFrames (filling left) left
unfolding fill_by
filling-plus left h =
    let a = left % 320 in
    let b = a % 240 in
    let c = b % 160 in
    let d = c % 80 in
    let a40 : a % 40 ≡ 0 = omega arith in
    let b40 : b % 40 ≡ 0 = omega (arith, a40) in
    let c40 : c % 40 ≡ 0 = omega (arith, b40) in
    let e : d % 40 ≡ 0 = omega (arith, c40) in
    next 320 left refl (next 240 a refl
    (next 160 b refl (next 80 c refl (next 40 d refl (rw e none) (omega arith)) (omega arith)) (omega arith))
    (omega arith)) (omega arith)

-- walked behind what stands before them
pub record FilledUp (before octets : List ℕ) (law room left : ℕ) : Type 0 where
  pub frames : List Delivered
  pub walks : WalkOf (before ++ octets) law all_tools (length before) room
      (record { frames = frames; end = Ok tt; place = length (before ++ octets); bit = 0 })
  pub samples : samples_kept frames ≡ replicate left (plus_zero (mask_of law))
  pub count : length frames ≡ length octets

pub plus-walks : (law : ℕ) → is_law law ≡ true → {octets : List ℕ} {left : ℕ} → PlusFrames octets left → (before : List ℕ) (room : ℕ)
    → left ≤ room → FilledUp before octets law room left
unfolding samples_kept
plus-walks law i none before room r =
    record {
      frames = [];
      walks = rw append-nil (ended {at = length before} (omega arith));
      samples = refl;
      count = refl;
    }
plus-walks law i (one n {left = left} {octets = octets} l p) before room r =
    let o = octet_for 2 n in
    let f = plus_frame law n in
    let size : length f.samples ≡ n = length-replicate n (plus_zero (mask_of law)) in
    let rest = plus-walks law i p (before ++ (o ∷ [])) (room - n) (omega arith) in
    let here : drop (length before) (before ++ (o ∷ octets)) ≡ o ∷ octets = drop-append_seam before (o ∷ octets) in
    let read : read_one (drop (length before) (before ++ (o ∷ octets))) law all_tools room ≡ whole f 8 =
    rw here (plus-read law n room octets i l
    (omega arith)) in
    let on : length (before ++ (o ∷ [])) ≡ length before + 1 = length-append before (o ∷ []) in
    let walk : WalkOf (before ++ (o ∷ octets)) law all_tools (length before + 1) (room - length f.samples)
    (record { frames = rest.frames; end = Ok tt; place = length (before ++ (o ∷ octets)); bit = 0 })
    = subst (λ (k : ℕ). WalkOf (before ++ (o ∷ octets)) law all_tools (length before + 1) (room - k)
    (record { frames = rest.frames; end = Ok tt; place = length (before ++ (o ∷ octets)); bit = 0 }))
    (sym size) (rw (append_assoc before (o ∷ []) octets, on) at rest.walks) in
    record {
      frames = record { place = length before; found = f } ∷ rest.frames;
      walks = delivers {at = length before} (omega (arith, length-append before (o ∷ octets))) read walk;
      samples = rw rest.samples (replicate-append-replicate n left (plus_zero (mask_of law)));
      count = ap suc rest.count;
    }

pub filling-walks : (law left : ℕ) → is_law law ≡ true → left % 40 ≡ 0 → (before : List ℕ) (room : ℕ) → left ≤ room
    → FilledUp before (filling left) law room left
filling-walks law left i h before room r = plus-walks law i (filling-plus left h) before room r
