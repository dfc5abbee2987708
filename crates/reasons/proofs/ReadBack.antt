-- The lines read back as the answer: `lines-back`; so no two answers have the same lines: `lines-one`.
use Prim.Native.Nat.{ℕ, ◌+◌, ◌^◌, ◌<◌}
use native.Mathlib.Omega.{arith}
use mathlib.Core.Path.{◌≡◌, refl, sym, ◌∙◌}
use mathlib.Core.List.{List, [], ◌++◌, append_assoc}
use mathlib.Core.Bool.{Bool, true, false, cond}
use lib.ListN.{length, drop}
use Rattle.rules.specs.Listing.{field, line_end, octets_word}
use Rattle.text_keyvalue.specs.Reading.{Reader, ◌>>=◌, give, begins, after, number}
use Rattle.text_keyvalue.proofs.Exact.{Back, back-give, back-bind, back-after, back-number, passed, got-value}
use Rattle.reasons.specs.declared.State.{State}
use Rattle.reasons.specs.declared.State.TheVariants.{Out, No, Fits}
use Rattle.reasons.specs.declared.Reasons.{Reasons}
use Rattle.reasons.specs.Lines.{tool_key, state_key, why_key, winner_key, by_key, out_word, no_word}
use Rattle.reasons.specs.Lines.{fits_word, by_octets, by_tie, fields_line, tool_line, winner_line, lines_of}

-- a word and then p, or else q
abbrev pub word_or : {A : Type 0} → List ℕ → Reader A → Reader A → Reader A
word_or word p q = λ text i. cond (begins word (drop i text)) (p text (i + length word)) (q text i)

back-word : {A : Type 0} (word : List ℕ) (p q : Reader A) {w : List ℕ} {v : A} → Back p w v → Back (word_or word p q) (word ++ w) v
back-word word p q {w} {v} b = record {
  reads = λ text i rest e.
      let k = passed (begins word (drop i text)) (p text (i + length word)) ((back-after word p b).reads text i rest e) in
      rw k.0 k.1;
}

back-else : {A : Type 0} (word : List ℕ) (p q : Reader A) {w : List ℕ} {v : A} → ((rest : List ℕ) → begins word (w ++ rest) ≡ false)
    → Back q w v → Back (word_or word p q) w v
back-else word p q {w} {v} not-word b = record { reads = λ text i rest e. rw (e, not-word rest) (b.reads text i rest e) }

-- the end of a tool's line: its condition and its octets
abbrev pub tail_in : (ℕ → ℕ → State) → Reader State
tail_in f = after why_key (number >>= λ why. after octets_word (number >>= λ octets. after line_end (give (f why octets))))

tail-back : (f : ℕ → ℕ → State) (why octets : ℕ) → why < 10 ^ 20 → octets < 10 ^ 20
    → Back (tail_in f) (field why_key why ++ (field octets_word octets ++ line_end)) (f why octets)
tail-back f why octets h k =
    back-after why_key _ (back-number _ why 32 h refl
    (back-after octets_word _ (back-number _ octets 10 k refl (back-after line_end _ (back-give (f why octets))))))

-- "state out, no or fits"
abbrev out_in : Reader State
out_in = tail_in (λ why octets. Out)

abbrev no_in : Reader State
no_in = tail_in (λ why octets. No why)

abbrev fits_in : Reader State
fits_in = tail_in (λ why octets. Fits octets)

abbrev pub state_in : Reader State
state_in = word_or out_word out_in (word_or no_word no_in (after fits_word fits_in))

-- numbers that the struct's types hold
abbrev pub Short : State → Type 0
Short Out = Unit {0}
Short (No why) = why < 4294967296
Short (Fits octets) = octets < 4294967296

abbrev rest : State → List ℕ
rest Out = out_word ++ (field why_key 0 ++ (field octets_word 0 ++ line_end))
rest (No why) = no_word ++ (field why_key why ++ (field octets_word 0 ++ line_end))
rest (Fits octets) = fits_word ++ (field why_key 0 ++ (field octets_word octets ++ line_end))

state-back : (state : State) → Short state → Back state_in (rest state) state
unfolding begins
state-back Out h = back-word out_word out_in (word_or no_word no_in (after fits_word fits_in))
    (tail-back (λ why octets. Out) 0 0 (omega arith) (omega arith))
state-back (No why) h =
    back-else out_word out_in (word_or no_word no_in (after fits_word fits_in)) (λ rest. refl)
    (back-word no_word no_in (after fits_word fits_in) (tail-back (λ why octets. No why) why 0 (omega arith) (omega arith)))
state-back (Fits octets) h =
    back-else out_word out_in (word_or no_word no_in (after fits_word fits_in)) (λ rest. refl)
    (back-else no_word no_in (after fits_word fits_in) (λ rest. refl)
    (back-after fits_word fits_in (tail-back (λ why octets. Fits octets) 0 octets (omega arith) (omega arith))))

-- a tool's line
abbrev pub tool_in : ℕ → Reader State
tool_in t = after (field tool_key t) (after state_key state_in)

tool-back : (t : ℕ) (state : State) → Short state → Back (tool_in t) (tool_line t state) state
unfolding fields_line
tool-back t Out h = back-after (field tool_key t) _ (back-after state_key _ (state-back Out h))
tool-back t (No why) h = back-after (field tool_key t) _ (back-after state_key _ (state-back (No why) h))
tool-back t (Fits octets) h = back-after (field tool_key t) _ (back-after state_key _ (state-back (Fits octets) h))

-- the last line
abbrev pub winner_in : {A : Type 0} → (ℕ → Bool → A) → Reader A
winner_in f = after winner_key (number >>= λ winner.
    after by_key (word_or (by_tie ++ line_end) (give (f winner true)) (after (by_octets ++ line_end) (give (f winner false)))))

winner-back : {A : Type 0} (f : ℕ → Bool → A) (winner : ℕ) (tie : Bool) → winner < 10 ^ 20
    → Back (winner_in f) (winner_line winner tie) (f winner tie)
unfolding winner_line begins
winner-back f winner true h =
    back-after winner_key _
    (back-number _ winner 32 h refl
    (back-after by_key _ (back-word (by_tie ++ line_end) (give (f winner true)) (after (by_octets ++ line_end) (give (f winner false)))
    (back-give (f winner true)))))
winner-back f winner false h =
    back-after winner_key _ (back-number _ winner 32 h refl (back-after by_key _
    (back-else (by_tie ++ line_end) (give (f winner true)) (after (by_octets ++ line_end) (give (f winner false))) (λ rest. refl)
    (back-after (by_octets ++ line_end) _ (back-give (f winner false))))))

abbrev pub reasons_by : State → State → State → State → State → State → State → State → ℕ → Bool → Reasons
reasons_by uncompressed plus minus constant binary rice located fractional winner tie =
    record {
      states = record {
        uncompressed = uncompressed;
        plus = plus;
        minus = minus;
        constant = constant;
        binary = binary;
        rice = rice;
        located = located;
        fractional = fractional;
      };
      winner = winner;
      tie = tie;
    }

unfoldable pub lines_in : Reader Reasons
lines_in = do
  uncompressed ← tool_in 1
  plus ← tool_in 2
  minus ← tool_in 3
  constant ← tool_in 4
  binary ← tool_in 5
  rice ← tool_in 6
  located ← tool_in 7
  fractional ← tool_in 11
  winner_in (reasons_by uncompressed plus minus constant binary rice located fractional)

pub record AllShort (r : Reasons) : Type 0 where
  pub uncompressed : Short r.states.uncompressed
  pub plus : Short r.states.plus
  pub minus : Short r.states.minus
  pub constant : Short r.states.constant
  pub binary : Short r.states.binary
  pub rice : Short r.states.rice
  pub located : Short r.states.located
  pub fractional : Short r.states.fractional
  pub winner : r.winner < 4294967296

pub lines-back : (r : Reasons) → AllShort r → Back lines_in (lines_of r) r
unfolding lines_in lines_of
lines-back r h =
    simp append_assoc
    (back-bind (tool_in 1) _ (tool-back 1 r.states.uncompressed h.uncompressed)
    (back-bind (tool_in 2) _ (tool-back 2 r.states.plus h.plus)
    (back-bind (tool_in 3) _ (tool-back 3 r.states.minus h.minus)
    (back-bind (tool_in 4) _ (tool-back 4 r.states.constant h.constant)
    (back-bind (tool_in 5) _ (tool-back 5 r.states.binary h.binary)
    (back-bind (tool_in 6) _ (tool-back 6 r.states.rice h.rice)
    (back-bind (tool_in 7) _ (tool-back 7 r.states.located h.located)
    (back-bind (tool_in 11) _ (tool-back 11 r.states.fractional h.fractional)
    (winner-back (reasons_by r.states.uncompressed r.states.plus r.states.minus r.states.constant
    r.states.binary r.states.rice r.states.located
    r.states.fractional) r.winner r.tie (omega (arith, h.winner)))))))))))

-- no two answers have the same lines
pub lines-one : (r q : Reasons) → AllShort r → AllShort q → lines_of r ≡ lines_of q → r ≡ q
lines-one r q h k e =
    let a = (lines-back r h).reads (lines_of r ++ []) 0 [] refl in
    let b = (lines-back q k).reads (lines_of q ++ []) 0 [] refl in
    got-value (sym (rw e at a) ∙ b)
