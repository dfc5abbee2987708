use Rattle.std.proofs.Common.{refl}
use Rattle.write_bits.proofs.Putting.{put-held, put-stored}
use Rattle.write_bits.proofs.pen.Pen.put.Goals as goal

pub returns-then-held-lt32 : goal.returns-then-held-lt32
returns-then-held-lt32 c = put-held _ _ _ _ c.requires.able c.requires.n_bound.0 c.requires.n_bound.1 refl refl refl

pub returns-else-held-lt32 : goal.returns-else-held-lt32
returns-else-held-lt32 c =
    put-stored _ _ _ _ c.requires.able c.requires.n_bound.0 c.requires.n_bound.1 refl _ c.if-held-lt32.false refl refl c.store.ensures
