use Rattle.std.proofs.Common.{◌≡◌, ℕ, ◌+◌, ◌≤◌, length, ap, ◌∙◌, arith}
use Rattle.std.proofs.lemmas.Grind.{common_steps}
use Rattle.std.proofs.lemmas.List.{length-append}
use Rattle.netlink_core.specs.Attribute.{attribute_bytes}
use Rattle.netlink_core.proofs.Writing.{bytes_from, one_more_attribute_written}
use Rattle.netlink_core.proofs.Writing.{unchanged_after_one_more, bytes_from_next}
use Rattle.netlink_core.proofs.nla.emit_nlas.Goals as goal

pub loop-nla-preserved : goal.loop-nla-preserved
loop-nla-preserved g c =
    let end : ℕ = c.loop-nla.at + c.nla_len.result in
    let end-is : end ≡ c.loop-nla.at
    + length (attribute_bytes (g.T.Nla.attribute c.nla-item.result)) =
    ap (λ (n : ℕ). c.loop-nla.at + n) c.nla_len.ensures in
    let next = bytes_from_next g.T.Nla.attribute c.args.nlas.now c.nla-item.result
    c.loop-nla.nla-index c.loop-nla-test.true c.nla-item.is in
    let in_buffer : end ≤ length c.loop-nla.buffer =
    omega (
      arith,
      ap length next ∙ length-append (attribute_bytes (g.T.Nla.attribute c.nla-item.result))
          (bytes_from g.T.Nla.attribute c.args.nlas.now (c.loop-nla.nla-index + 1)),
    ) in
    record {
      fits = grind (arith, common_steps);
      len = grind (arith, common_steps);
      done = one_more_attribute_written (g.T.Nla.attribute c.nla-item.result) _ _ c.loop-nla.buffer
          c.emit_nla.new.buffer _ c.loop-nla.at end next c.emit_nla.ensures.written end-is
          in_buffer c.loop-nla.invariant.done;
      left = unchanged_after_one_more (g.T.Nla.attribute c.nla-item.result) c.loop-nla.buffer
          c.args.buffer.now c.emit_nla.new.buffer c.loop-nla.at end c.emit_nla.ensures.written
          end-is in_buffer c.loop-nla.invariant.left;
      in_range = grind (arith, common_steps);
    }
