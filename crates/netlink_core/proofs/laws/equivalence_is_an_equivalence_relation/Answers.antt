use Rattle.std.proofs.Common.{sym, ◌∙◌}
use Rattle.netlink_core.proofs.CodecLaws.{reflexive}
use Rattle.netlink_core.proofs.laws.equivalence_is_an_equivalence_relation.Goals as goal

pub returns : goal.returns
returns g c =
    let laws = g.met.T.HasCodec.laws in
    let equal_iff = laws.equal_iff_equivalent in
    record {
      reflexive = reflexive g.T.HasCodec.codec laws;
      symmetric = λ b c p v w b_bytes c_bytes b_parsed c_parsed b_like_c.
          (equal_iff c b p w v c_bytes b_bytes c_parsed b_parsed).0
          (sym ((equal_iff b c p v w b_bytes c_bytes b_parsed c_parsed).1 b_like_c));
      transitive = λ b c d p v w x b_bytes c_bytes d_bytes b_parsed c_parsed d_parsed b_like_c
          c_like_d. (equal_iff b d p v x b_bytes d_bytes b_parsed d_parsed).0
          ((equal_iff b c p v w b_bytes c_bytes b_parsed c_parsed).1 b_like_c
          ∙ (equal_iff c d p w x c_bytes d_bytes c_parsed d_parsed).1 c_like_d);
    }
