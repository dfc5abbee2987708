use Prim.Native.Nat.{◌-◌}
use Rattle.store_text.specs.Noted.{listed_at}
use Rattle.store_save.specs.Saved.{all_true}
use Rattle.store_save.specs.Steps.{greetings_of}
use Rattle.store_save.proofs.Compared.{Comparing}
use Rattle.store_save.proofs.all_true.Given as goal

-- Greeting by greeting (Compared, Comparing).
abbrev pub invariant-loop : goal.invariant-loop
invariant-loop l =
    Comparing l.form.most l.text l.block l.size (l.n - l.counter) l.at
    (all_true l.block (greetings_of (listed_at l.form.most l.form.from l.text)))
