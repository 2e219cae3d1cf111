use Rattle.std.proofs.Common.{ap}
use Rattle.netlink_core.proofs.CodecLaws.{one_result, equal_by_bytes, round_trips_iff_normal}
use Rattle.netlink_core.proofs.CodecLaws.{same_form_iff_equivalent, canonical_form}
use Rattle.netlink_core.proofs.laws.main_theorem.Goals as goal

pub returns : goal.returns
returns g c =
    let codec = g.T.HasCodec.codec in
    let laws = g.met.T.HasCodec.laws in
    record {
      one_result = one_result codec laws;
      equal_iff_equivalent = laws.equal_iff_equivalent;
      parsed_is_normal = laws.parsed_is_normal;
      equal_iff_equal_bytes = λ p v w v_in_range v_normal v_writable w_in_range w_normal
          w_writable. (
            ap codec.serialized,
            equal_by_bytes codec laws p v w v_in_range v_normal v_writable w_in_range w_normal
                w_writable,
          );
      serialized_is_bytes = laws.serialized_in_range;
      round_trips_iff_normal = round_trips_iff_normal codec laws;
      same_form_iff_equivalent = same_form_iff_equivalent codec laws;
      canonical_form = canonical_form codec laws;
    }
