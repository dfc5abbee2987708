-- Document 02, R-10: "For a frame, law and set, list tools 1 to 7 in order: not in the set, doesn't apply with the first failing condition
-- of document 01, or its octets. Then name the winner, which is what the writer writes, and whether it won by octets or by the tie order."
-- R-14: "R-10 with an eighth line", that of tool 11, after tool 7; it has one condition.
-- Document 01's own words, what applies, the forms and the choice, stand in rules, specs/Chooses.
use Rattle.std.specs.Prelude.{ℕ, ◌+◌, List, [], ◌∷◌, Bool, false, cond, not, ◌&&◌, ◌||◌, length, take, eqb, leb, pos, negsuc}
use Rattle.std.specs.Prelude.{Ok, Err}
use Rattle.std.specs.declared.result.Result.{Result}
use Rattle.rules.specs.declared.Refusal.{Refusal}
use Rattle.rules.specs.declared.Refusal.TheVariants.{Length}
use Rattle.rules.specs.Refusals.{judged}
use Rattle.rules.specs.Tools.{holds, is_length, writer_asks}
use Rattle.rules.specs.Bits.{octets_for}
use Rattle.rules.specs.Samples.{mask_of}
use Rattle.rules.specs.Chooses.{applies, has_row, row_of, zero_leads, octets_of_form, chosen}
use Rattle.reasons.specs.declared.State.{State}
use Rattle.reasons.specs.declared.State.TheVariants.{Out, No, Fits}
use Rattle.reasons.specs.declared.States.{States}
use Rattle.reasons.specs.declared.Reasons.{Reasons}

-- "Value-location's conditions are 1 the length, 2 the row, 3 the frequency of 0; other tools have one, numbered 1."
-- "A frame of no samples fails condition 1 of every tool": that of value-location asks 80 samples or more.
abbrev pub zero_leads_all : ℕ → List ℕ → Bool
zero_leads_all mask s = zero_leads mask s (pos 1) && zero_leads mask s (negsuc 0) && zero_leads mask s (negsuc 1)

abbrev pub located_conditions : ℕ → List ℕ → List Bool
located_conditions mask s = leb 80 (length s) ∷ has_row (row_of mask s) ∷ zero_leads_all mask s ∷ []

unfoldable pub conditions : ℕ → List ℕ → ℕ → List Bool
conditions mask s t = cond (eqb t 7) (located_conditions mask s) ((not (eqb (length s) 0) && applies mask t s) ∷ [])

-- "the first failing condition", counted from k; 0 where none fails
unfoldable pub first_failing : ℕ → List Bool → ℕ
first_failing k [] = 0
first_failing k (c ∷ cs) = cond c (first_failing (k + 1) cs) k

abbrev pub failing : ℕ → List ℕ → ℕ → ℕ
failing mask s t = first_failing 1 (conditions mask s t)

-- "not in the set, doesn't apply with the first failing condition .., or its octets"
unfoldable pub state_of : ℕ → ℕ → List ℕ → ℕ → State
state_of mask set s t = cond (not (holds set t)) Out (cond (eqb (failing mask s t) 0) (Fits (octets_of_form mask s t)) (No (failing mask s t)))

-- "the winner, which is what the writer writes"
abbrev pub winner_of : ℕ → ℕ → List ℕ → ℕ
winner_of mask set s = (chosen mask set s).tool

-- "by=tie exactly when another tool in the set needs as few"
abbrev pub needs : State → ℕ → Bool
needs Out n = false
needs (No why) n = false
needs (Fits octets) n = eqb octets n

abbrev pub octets_written : ℕ → ℕ → List ℕ → ℕ
octets_written mask set s = octets_for (length (chosen mask set s).bits)

unfoldable pub also_needs : ℕ → ℕ → List ℕ → ℕ → Bool
also_needs mask set s t = not (eqb t (winner_of mask set s)) && needs (state_of mask set s t) (octets_written mask set s)

unfoldable pub any_of : (ℕ → Bool) → List ℕ → Bool
any_of p [] = false
any_of p (t ∷ ts) = p t || any_of p ts

abbrev pub tools : List ℕ
tools = 1 ∷ 2 ∷ 3 ∷ 4 ∷ 5 ∷ 6 ∷ 7 ∷ 11 ∷ []

unfoldable pub states_of : ℕ → ℕ → List ℕ → States
states_of mask set s =
    record {
      uncompressed = state_of mask set s 1;
      plus = state_of mask set s 2;
      minus = state_of mask set s 3;
      constant = state_of mask set s 4;
      binary = state_of mask set s 5;
      rice = state_of mask set s 6;
      located = state_of mask set s 7;
      fractional = state_of mask set s 11;
    }

unfoldable pub reasons_of : ℕ → ℕ → List ℕ → Reasons
reasons_of mask set s = record { states = states_of mask set s; winner = winner_of mask set s; tie = any_of (also_needs mask set s) tools }

-- n samples, the first of those given. "Refusals as for the writer, ROOM left out."
unfoldable pub why_one : ℕ → List ℕ → ℕ → ℕ → Result Reasons Refusal
why_one n samples law set =
    judged (writer_asks law set) Err
    (cond (not (eqb n 0 || is_length n)) (Err Length)
    (Ok (reasons_of (mask_of law) set (take n samples))))
