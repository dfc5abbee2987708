-- The name by each number is that of the list; past it there is none.
use Rattle.std.proofs.Common.{arith, ℕ, [], zero, suc, ◌≤◌, ◌<◌, ◌≡◌, refl}
use lib.ListN.{get_or-eq_default}
use Rattle.tool_words.specs.Refusals.{refusal_names, refusal_name}
use Rattle.tool_words.proofs.refusals.refusal_name.Goals as goal

pub returns-in-1 : goal.returns-in-1
unfolding refusal_names refusal_name
returns-in-1 c = rw c.in-1.is

pub returns-in-2 : goal.returns-in-2
unfolding refusal_names refusal_name
returns-in-2 c = rw c.in-2.is

pub returns-in-3 : goal.returns-in-3
unfolding refusal_names refusal_name
returns-in-3 c = rw c.in-3.is

pub returns-in-4 : goal.returns-in-4
unfolding refusal_names refusal_name
returns-in-4 c = rw c.in-4.is

pub returns-in-5 : goal.returns-in-5
unfolding refusal_names refusal_name
returns-in-5 c = rw c.in-5.is

pub returns-in-6 : goal.returns-in-6
unfolding refusal_names refusal_name
returns-in-6 c = rw c.in-6.is

pub returns-in-7 : goal.returns-in-7
unfolding refusal_names refusal_name
returns-in-7 c = rw c.in-7.is

pub returns-in-8 : goal.returns-in-8
unfolding refusal_names refusal_name
returns-in-8 c = rw c.in-8.is

pub returns-in-9 : goal.returns-in-9
unfolding refusal_names refusal_name
returns-in-9 c = rw c.in-9.is

pub returns-in-10 : goal.returns-in-10
unfolding refusal_names refusal_name
returns-in-10 c = rw c.in-10.is

pub returns-in-11 : goal.returns-in-11
unfolding refusal_names refusal_name
returns-in-11 c = rw c.in-11.is

pub returns-in-12 : goal.returns-in-12
unfolding refusal_names refusal_name
returns-in-12 c = rw c.in-12.is

pub returns-in-13 : goal.returns-in-13
unfolding refusal_names refusal_name
returns-in-13 c = rw c.in-13.is

pub returns-in-14 : goal.returns-in-14
unfolding refusal_names refusal_name
returns-in-14 c = rw c.in-14.is

beyond : (n : ℕ) → (suc n ≤ 14 → suc n ≡ 0) → 14 < suc n
beyond n h = grind arith

-- any other number is 0, or past them
other : (n : ℕ) → (n ≤ 14 → n ≡ 0) → [] ≡ refusal_name n
unfolding refusal_names refusal_name
other zero h = refl
other (suc n) h = let past : 14 < suc n = beyond n h in rw (get_or-eq_default refusal_names [] past)

pub returns-in_default : goal.returns-in_default
returns-in_default c = other _ (λ h. omega arith)
