use Prim.Native.Nat.{◌+◌, ◌-◌, ◌*◌, min}
use mathlib.Core.Path.{◌≡◌, sym, ap, ◌∙◌}
use mathlib.Core.Bool.{true, false}
use native.Mathlib.Omega.{arith}
use lib.ListN.{length, get_or}
use borrow.Author.Tests.{ltb-true, ltb-false}
use Rattle.std.proofs.lemmas.List.{get_or_read}
use Rattle.text_keyvalue.specs.Reading.{as_read, is_digit, most}
use Rattle.text_keyvalue.proofs.Numbers.{digits-end, digits-stop, digits_step, octet_on, octets_on}
use Rattle.text_keyvalue.proofs.Numbers.{number_past, number-zero, number-not, number-start}
use Rattle.text_keyvalue.proofs.number_at.Goals as goal

pub returns-in_err-first : goal.returns-in_err-first
returns-in_err-first c =
    let a = c.args in
    ap as_read c.from_residual.ensures ∙ sym (number_past a.text.now a.at (ltb-false _ _ (sym (c.in_err-first.ensures).lookup.0)))

pub returns-then-first-eq48 : goal.returns-then-first-eq48
returns-then-first-eq48 c =
    let a = c.args in
    let f = (c.in_ok-first.ensures).lookup in
    let h = ltb-true a.at (length a.text.now) (sym f.0) in
    sym (number-zero a.text.now a.at h (sym (get_or_read a.text.now a.at _ h f.1 0) ∙ c.if-first-eq48.true))

pub returns-then-not-is_ascii_digit : goal.returns-then-not-is_ascii_digit
returns-then-not-is_ascii_digit c =
    let a = c.args in
    let f = (c.in_ok-first.ensures).lookup in
    let h = ltb-true a.at (length a.text.now) (sym f.0) in
    let x = get_or_read a.text.now a.at _ h f.1 0 in
    let d : is_digit (get_or a.text.now a.at 0) ≡ false = ap is_digit (sym x) ∙ sym c.is_ascii_digit.ensures.value ∙ c.if-not-is_ascii_digit.true in
    sym (number-not a.text.now a.at h (λ e. c.if-first-eq48.false (x ∙ e)) d)

pub loop-i-init : goal.loop-i-init
loop-i-init c =
    let a = c.args in
    let f = (c.in_ok-first.ensures).lookup in
    let h = ltb-true a.at (length a.text.now) (sym f.0) in
    let x = get_or_read a.text.now a.at _ h f.1 0 in
    let d : is_digit (get_or a.text.now a.at 0) ≡ true = ap is_digit (sym x) ∙ sym c.is_ascii_digit.ensures.value ∙ c.if-not-is_ascii_digit.false in
    let z : a.at + 0 ≡ a.at = omega arith in
    (omega arith, rw z (number-start a.text.now a.at h (λ e. c.if-first-eq48.false (x ∙ e)) d ∙ sym (digits_step a.text.now 0 a.at h d)))

pub returns-then-not-is_ascii_digit-2 : goal.returns-then-not-is_ascii_digit-2
returns-then-not-is_ascii_digit-2 c =
    let a = c.args in
    let i = c.loop-i.i in
    let x = octet_on a.text.now a.at i in
    let d : is_digit (get_or a.text.now (a.at + i) 0) ≡ false =
    ap is_digit (sym x) ∙ sym c.is_ascii_digit-in-loop-i.ensures.value ∙ c.if-not-is_ascii_digit-2.true in
    sym (c.loop-i.invariant.1 ∙ digits-stop a.text.now c.loop-i.v (a.at + i) (omega arith) c.loop-i.invariant.0 d)

pub loop-i-preserved : goal.loop-i-preserved
loop-i-preserved c =
    let a = c.args in
    let i = c.loop-i.i in
    let x = octet_on a.text.now a.at i in
    let d : is_digit (get_or a.text.now (a.at + i) 0) ≡ true =
    ap is_digit (sym x) ∙ sym c.is_ascii_digit-in-loop-i.ensures.value ∙ c.if-not-is_ascii_digit-2.false in
    let v : c.more-v.result ≡ min (10 * c.loop-i.v + (get_or a.text.now (a.at + i) 0 - 48)) most =
    c.more-v.ensures ∙ ap (λ x. min (10 * c.loop-i.v + (x - 48)) most) x in
    let z : a.at + (i + 1) ≡ a.at + i + 1 = omega arith in
    (omega (arith, v), rw (z, v) (c.loop-i.invariant.1 ∙ digits_step a.text.now c.loop-i.v (a.at + i) (omega arith) d))

pub returns : goal.returns
returns c =
    let a = c.args in
    let f = (c.in_ok-first.ensures).lookup in
    let h = ltb-true a.at (length a.text.now) (sym f.0) in
    let l = octets_on a.text.now a.at in
    let e : length a.text.now ≡ a.at + c.loop-i.i = omega arith in
    rw e (sym (c.loop-i.invariant.1 ∙ digits-end a.text.now c.loop-i.v (a.at + c.loop-i.i) (omega arith) c.loop-i.invariant.0))
