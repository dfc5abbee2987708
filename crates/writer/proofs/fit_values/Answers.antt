-- Room, and value-location put (Writing).
use Rattle.write_forms.specs.Forms.{plan_form}
use Rattle.writer.proofs.Writing.{form-left, form-fits, form-put}
use Rattle.writer.proofs.fit_values.Goals as goal

pub put_located-requires : goal.put_located-requires
put_located-requires c =
    record {
      located_ready = c.requires.located_ready.0;
      c_len_bound = form-fits (plan_form c.args.n c.args.plan c.args.a.now c.args.b.now c.args.c.now) c.requires.bits_value
          c.octets_for.ensures c.if-octets_for-out.true;
    }

pub returns-then-octets_for-out : goal.returns-then-octets_for-out
returns-then-octets_for-out c =
    form-put (plan_form c.args.n c.args.plan c.args.a.now c.args.b.now c.args.c.now) c.requires.bits_value c.octets_for.ensures
    c.if-octets_for-out.true c.put_located.ensures

pub returns-else-octets_for-out : goal.returns-else-octets_for-out
returns-else-octets_for-out c =
    form-left (plan_form c.args.n c.args.plan c.args.a.now c.args.b.now c.args.c.now) c.requires.bits_value c.octets_for.ensures
    c.if-octets_for-out.false
