-- SET, HEAD, LONG, and then the items (Whole).
use mathlib.Core.Path.{◌≡◌, sym, ap, ◌∙◌}
use Rattle.recording.specs.Remembered.{headed}
use Rattle.std.proofs.Common.{ℕ}
use Rattle.std.specs.declared.option.Option.{Option}
use Rattle.recording_read.specs.Plays.{as_headed}
use Rattle.recording_read.proofs.Whole.{headed-long, file-set, file-head, file-long, file-whole, reads_none}
use Rattle.recording_read.proofs.read_file.Goals.{After-law_in}
use Rattle.recording_read.proofs.read_file.Goals as goal

-- what the heading says
is-headed : (c : After-law_in) {h : Option ℕ} → c.law_in.result ≡ h
    → headed c.args.octets.now ≡ as_headed h
is-headed c e = sym c.law_in.ensures ∙ ap as_headed e

pub returns-then-set-gt-ALL_TOOLS : goal.returns-then-set-gt-ALL_TOOLS
returns-then-set-gt-ALL_TOOLS c = rw (c.unread.ensures, file-set _ _ _ _ c.if-set-gt-ALL_TOOLS.true) (reads_none _ _ _ _)

pub overflow_sub-after : goal.overflow_sub-after
overflow_sub-after c = headed-long _ (is-headed (goal.at.overflow_sub-after c).After-law_in c.in-Some.is)

pub returns-then-after-gt-LONGEST : goal.returns-then-after-gt-LONGEST
returns-then-after-gt-LONGEST c =
    let h = is-headed (goal.at.returns-then-after-gt-LONGEST c).After-law_in c.in-Some.is in
    let s = c.if-set-gt-ALL_TOOLS.false in
    rw (c.unread-then-after-gt-LONGEST.ensures, file-long _ _ _ _ s _ h c.if-after-gt-LONGEST.true) (reads_none _ _ _ _)

pub read_items-requires : goal.read_items-requires
read_items-requires c =
    let h = is-headed (goal.at.read_items-requires c).After-law_in c.in-Some.is in
    (headed-long _ h, c.if-after-gt-LONGEST.false)

pub returns-in_default : goal.returns-in_default
returns-in_default c =
    let h = is-headed (goal.at.returns-in_default c).After-law_in c.in_default.is in
    rw (c.unread-in_default.ensures, file-head _ _ _ _ c.if-set-gt-ALL_TOOLS.false h) (reads_none _ _ _ _)

pub returns : goal.returns
returns c =
    rw (file-whole _ _ _ _ c.if-set-gt-ALL_TOOLS.false _ (is-headed (goal.at.returns c).After-law_in c.in-Some.is)
    c.if-after-gt-LONGEST.false) c.read_items.ensures
