-- Room, and Rice put, from its runs (Writing).
use Rattle.write_forms.specs.Forms.{rice_form_of}
use Rattle.writer.proofs.Writing.{form-left, form-fits, form-put}
use Rattle.writer.proofs.fit_rice.Goals as goal

pub put_rice-requires : goal.put_rice-requires
put_rice-requires c =
    record {
      rice_ready = c.requires.rice_ready.0;
      runs_len_bound = form-fits (rice_form_of c.args.n c.args.plan c.args.runs.now) c.requires.bits_value c.octets_for.ensures
          c.if-octets_for-out.true;
    }

pub returns-then-octets_for-out : goal.returns-then-octets_for-out
returns-then-octets_for-out c =
    form-put (rice_form_of c.args.n c.args.plan c.args.runs.now) c.requires.bits_value c.octets_for.ensures c.if-octets_for-out.true c.put_rice.ensures

pub returns-else-octets_for-out : goal.returns-else-octets_for-out
returns-else-octets_for-out c =
    form-left (rice_form_of c.args.n c.args.plan c.args.runs.now) c.requires.bits_value c.octets_for.ensures c.if-octets_for-out.false
