-- What the heading says.
use mathlib.Core.Path.{◌≡◌, refl, sym, ap, ◌∙◌}
use Rattle.recording.specs.Remembered.{headed}
use Rattle.std.proofs.Common.{ℕ}
use Rattle.std.specs.declared.option.Option.{Option}
use Rattle.recording_read.specs.Plays.{as_headed}
use Rattle.recording_next.proofs.file_head.Goals.{After-law_in}
use Rattle.recording_next.proofs.file_head.Goals as goal

is-headed : (c : After-law_in) {h : Option ℕ} → c.law_in.result ≡ h → headed c.args.octets.now ≡ as_headed h
is-headed c e = sym c.law_in.ensures ∙ ap as_headed e

pub returns-in-None : goal.returns-in-None
returns-in-None c = rw (is-headed (goal.at.returns-in-None c).After-law_in c.in-None.is) (record { end = refl; law = refl; octets = refl })

pub returns-in-Some : goal.returns-in-Some
returns-in-Some c = rw (is-headed (goal.at.returns-in-Some c).After-law_in c.in-Some.is) (record { end = refl; law = refl; octets = refl })
