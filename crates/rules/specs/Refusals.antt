-- Document 01, "Numbered refusals": for each case of the answers' enums the paper's number, and the tool that it gives; and what it is to
-- ask in order.
use Rattle.std.specs.Prelude.{◌≡◌, ℕ, List}
use Rattle.rules.specs.declared.Refusal.{Refusal}
use Rattle.rules.specs.declared.Refusal.TheVariants.{Short, Prefix, Tool, Room, Case, Method, Run}
use Rattle.rules.specs.declared.Refusal.TheVariants.{Place, Align, Length, Set, Law, Long}
use Rattle.std.specs.declared.result.Result.{Result}
use Rattle.std.specs.Prelude.{Ok, Err}
use Rattle.rules.specs.Judged as judging
pub use Rattle.rules.specs.Judged.{ask, judged}

abbrev pub refusal_number : Refusal → ℕ
refusal_number Short = 1
refusal_number Prefix = 2
refusal_number (Tool t) = 3
refusal_number Room = 4
refusal_number Case = 5
refusal_number Method = 6
refusal_number Run = 7
refusal_number Place = 8
refusal_number Align = 9
refusal_number Length = 10
refusal_number Set = 11
refusal_number Law = 12
refusal_number Long = 13

-- no refusal has the number 0
pub refusal-not-zero : (w : Refusal) → refusal_number w ≡ 0 → ⊥
refusal-not-zero Short e = cc
refusal-not-zero Prefix e = cc
refusal-not-zero (Tool t) e = cc
refusal-not-zero Room e = cc
refusal-not-zero Case e = cc
refusal-not-zero Method e = cc
refusal-not-zero Run e = cc
refusal-not-zero Place e = cc
refusal-not-zero Align e = cc
refusal-not-zero Length e = cc
refusal-not-zero Set e = cc
refusal-not-zero Law e = cc
refusal-not-zero Long e = cc

-- "tool 0, save that TOOL gives the tool"
abbrev pub refusal_tool : Refusal → ℕ
refusal_tool Short = 0
refusal_tool Prefix = 0
refusal_tool (Tool t) = t
refusal_tool Room = 0
refusal_tool Case = 0
refusal_tool Method = 0
refusal_tool Run = 0
refusal_tool Place = 0
refusal_tool Align = 0
refusal_tool Length = 0
refusal_tool Set = 0
refusal_tool Law = 0
refusal_tool Long = 0

-- how a call ended: accepted, or refused
abbrev pub Ending : Type 0
Ending = Result (Unit {0}) Refusal

-- an accepted call has the number 0, a refused one its refusal's
abbrev pub numbered : {A W : Type 0} → (W → ℕ) → Result A W → ℕ
numbered number (Ok _) = 0
numbered number (Err w) = number w

abbrev pub number_of : Ending → ℕ
number_of = numbered refusal_number

abbrev pub tool_named : Ending → ℕ
tool_named (Ok _) = 0
tool_named (Err w) = refusal_tool w

-- "Order: LAW, SET, then LENGTH or LONG": what a call asks before all else, each with the refusal where it is not so, in their order
abbrev pub Asked : Type 0
Asked = judging.Asked Refusal

-- how a call ends that asks nothing else
abbrev pub verdict : List Asked → Ending
verdict asked = judged asked Err (Ok tt)
