use Rattle.netlink_core.proofs.CodecLaws.{returned_form_is_shared}
use Rattle.netlink_core.proofs.canonical_form.canonical.Goals as goal

pub returns-clause-same : goal.returns-clause-same
returns-clause-same g c = returned_form_is_shared g.T.HasCodec.codec g.met.T.HasCodec.laws _
    c.rewrite.result c.args.bytes.now c.args.param c.rewrite.ensures.in_range
    c.rewrite.ensures.written
