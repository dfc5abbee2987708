-- Room, and binary put (Writing).
use Rattle.write_forms.specs.Forms.{binary_form}
use Rattle.writer.proofs.Writing.{form-left, form-fits, form-put}
use Rattle.writer.proofs.fit_binary.Goals as goal

pub put_binary-requires : goal.put_binary-requires
put_binary-requires c =
    record { row_len_bound = form-fits (binary_form c.args.n c.args.row.now) c.requires.0 c.octets_for.ensures c.if-octets_for-out.true }

pub returns-then-octets_for-out : goal.returns-then-octets_for-out
returns-then-octets_for-out c =
    form-put (binary_form c.args.n c.args.row.now) c.requires.0 c.octets_for.ensures c.if-octets_for-out.true c.put_binary.ensures

pub returns-else-octets_for-out : goal.returns-else-octets_for-out
returns-else-octets_for-out c =
    form-left (binary_form c.args.n c.args.row.now) c.requires.0 c.octets_for.ensures c.if-octets_for-out.false
