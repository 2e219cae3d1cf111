use Rattle.std.proofs.Common.{ap, sym, ◌∙◌}
use Rattle.netlink_core.specs.NetlinkMessage.{netlink_codec}
use Rattle.netlink_core.proofs.CodecLaws.{equal_by_bytes}
use Rattle.netlink_core.proofs.Equivalence.{messages_equal_by_bytes, messages_equal_iff_equivalent}
use Rattle.netlink_core.proofs.laws.same_message_bytes_iff_equivalent.Goals as goal

pub returns : goal.returns
returns g c = λ b d form other tb td (v, r, fv, is) (w, s, fw, also).
    let own = g.met.I.HasCodec in
    let same = messages_equal_iff_equivalent g.I.HasCodec.codec own.laws.equal_iff_equivalent b d v
    w tb td r
    s in (
      λ e. same.0 (messages_equal_by_bytes g.I.HasCodec.codec
          (λ x y t m n tx ty rm rn.
          let left = own.laws.parsed_is_normal x t m tx rm in
          let right = own.laws.parsed_is_normal y t n ty rn in
          λ fits also_fits. equal_by_bytes g.I.HasCodec.codec own.laws t m n left.0 left.1 fits
          right.0 right.1 also_fits) b d v w tb td r s fv.0 fw.0
          (sym is ∙ e ∙ also)),
      λ i. is ∙ ap (netlink_codec g.I.HasCodec.codec).serialized (same.1 i) ∙ sym also,
    )
