-- The winner and by what it won, from the states alone: what the steps of the code give. proofs/Winning holds them against reasons,
-- specs/Why.
use Rattle.std.specs.Prelude.{ℕ, ◌+◌, List, Bool, false, cond, not, ◌&&◌, ◌||◌, eqb, leb, Result, Ok, Err}
use Rattle.rules.specs.declared.Refusal.TheVariants.{Length}
use Rattle.rules.specs.Tools.{holds, is_length}
use Rattle.reasons.specs.declared.State.{State}
use Rattle.reasons.specs.declared.State.TheVariants.{Out, No, Fits}
use Rattle.reasons.specs.declared.States.{States}
use Rattle.reasons.specs.declared.Reasons.{Reasons}
use Rattle.rules.specs.declared.Refusal.{Refusal}
use Rattle.reasons.specs.Why.{needs, reasons_of}
use Rattle.reasoning.specs.declared.Best.{Best}

-- the tool, if it fits and its octets are not more; else what was best
abbrev pub best_by : Best → ℕ → State → Best
best_by best t Out = best
best_by best t (No why) = best
best_by best t (Fits octets) = cond (leb octets best.octets) (record { tool = t; octets = octets }) best

-- from uncompressed on, back through the tie order
abbrev pub best_in : States → ℕ → Best
best_in s n =
    best_by (best_by (best_by (best_by (best_by (best_by (best_by (record { tool = 1; octets = n + 1 })
    11 s.fractional) 7 s.located) 6 s.rice) 5 s.binary) 4 s.constant) 3 s.minus) 2 s.plus

-- another tool that needs as few
abbrev pub also_by : Best → ℕ → State → Bool
also_by best t state = not (eqb t best.tool) && needs state best.octets

abbrev pub tie_in : States → Best → Bool
tie_in s best =
    also_by best 1 s.uncompressed
    || (also_by best 2 s.plus
    || (also_by best 3 s.minus
    || (also_by best 4 s.constant
    || (also_by best 5 s.binary
    || (also_by best 6 s.rice
    || (also_by best 7 s.located
    || (also_by best 11 s.fractional || false)))))))

-- "A frame of no samples fails condition 1 of every tool in the set, and its winner is tool 0 by octets."
abbrev pub empty_state : ℕ → ℕ → State
empty_state set t = cond (not (holds set t)) Out (No 1)

abbrev pub empty_reasons : ℕ → Reasons
empty_reasons set =
    record {
      states = record {
        uncompressed = empty_state set 1;
        plus = empty_state set 2;
        minus = empty_state set 3;
        constant = empty_state set 4;
        binary = empty_state set 5;
        rice = empty_state set 6;
        located = empty_state set 7;
        fractional = empty_state set 11;
      };
      winner = 0;
      tie = false;
    }

-- once LAW and SET are met
abbrev pub why_allowed : ℕ → List ℕ → ℕ → ℕ → Result Reasons Refusal
why_allowed n s mask set = cond (not (eqb n 0 || is_length n)) (Err Length) (Ok (reasons_of mask set s))
