-- What the program may write, walked, is the sound: by the same law, with any set that holds the writer's, given room.
use Prim.Native.Nat.{ℕ, ◌≤◌}
use native.Mathlib.Omega.{arith}
use mathlib.Core.Path.{◌≡◌, sym, ◌∙◌}
use mathlib.Core.Bool.{true}
use lib.ListN.{length}
use Rattle.rules.specs.Tools.{Within, is_set}
use Rattle.rules.specs.Walk.{longest, walk_all}
use Rattle.rules.proofs.Octets.{Below}
use Rattle.pack.specs.declared.Job.{Job}
use Rattle.tool_packing.proofs.Whole.{pack-bounds}
use Rattle.tool_packing.proofs.Parts.{file-is}
use Rattle.tool_packing.proofs.Identity.{GivesBack, pack-walk}
use Rattle.pack.specs.declared.Run.{Run}
use Rattle.pack.specs.Runs.{WholeSound}

pub written-walks-back : (s : Job) (run : Run) (w : WholeSound s run) → Below 256 w.one.sound
    → (reader into : ℕ) → is_set reader ≡ true → Within s.set reader → length w.one.sound ≤ into
    → GivesBack w.one.sound run.packed.frames w.kept (walk_all w.kept s.law reader into)
written-walks-back s run w b reader into i h r =
    let o = w.one in
    let most = (pack-bounds o.sound s.law s.set s.length longest).octets-most in
    rw (file-is o.is, o.is.frames)
    (pack-walk o.sound s.law s.set s.length longest b (sym o.is.end ∙ w.well) reader into i h (omega (arith, most)) r)
