use Rattle.std.proofs.Common.{◌≡◌, ◌∙◌, ℕ, ◌+◌, ◌-◌, take, drop, inl, inr, refl, subst, arith}
use Rattle.netlink_core.specs.NetlinkMessage.{IsInnerMessageType}
use Rattle.netlink_core.specs.declared.message.NetlinkPayload.TheVariants.{InnerMessage}
use Rattle.netlink_packet_sock_diag.specs.Message.{message_codec}
use Rattle.netlink_packet_sock_diag.specs.MessageViewModel.{message_view_model}
use Rattle.sockdiag_c.specs.Walks.{payload_in}
use Rattle.sockdiag_c.proofs.Steps.{control_payload_is_accepted, message_stored}
use Rattle.sockdiag_c.proofs.walks.sockdiag_next_message.Goals as goal

pub returns-in-1 : goal.returns-in-1
returns-in-1 c =
    let step = c.sockdiag_next_any_message-answer in
    let m = step.new.message in
    inr (inl (
      message_stored _ _ _ _ _ _ step.ensures c.if-answer-ne-ITEM.false,
      control_payload_is_accepted (payload_in c.args.datagram.now m) m.message_type (omega arith)
          (omega arith),
    ))

pub returns-in-Ok : goal.returns-in-Ok
returns-in-Ok c =
    let step = c.sockdiag_next_any_message-answer in
    let m = step.new.message in
    let v = message_view_model c.in-Ok.field-0 in
    let len : m.offset + m.length - m.offset ≡ m.length = omega arith in
    let other : IsInnerMessageType m.message_type = grind arith in
    inr (inl (
      message_stored _ _ _ _ _ _ step.ensures c.if-answer-ne-ITEM.false,
      inl (
        refl,
        (
          InnerMessage v,
          (
            other,
            subst (λ (n : ℕ). message_codec.parses (take n (drop m.offset c.args.datagram.now))
                m.message_type
                v) len c.in-Ok.ensures.value,
          ),
        ),
      ),
    ))

pub returns-in-Err : goal.returns-in-Err
returns-in-Err c =
    let step = c.sockdiag_next_any_message-answer in
    let m = step.new.message in
    let e = c.in-Err.error in
    let len : m.offset + m.length - m.offset ≡ m.length = omega arith in
    let other : IsInnerMessageType m.message_type = grind arith in
    inr (inl (
      message_stored _ _ _ _ _ _ step.ensures c.if-answer-ne-ITEM.false,
      inr (
        e,
        other,
        subst (λ (n : ℕ). message_codec.rejects (take n (drop m.offset c.args.datagram.now))
            m.message_type
            e) len c.in-Err.ensures.error,
        c.from.ensures ∙ c.number.ensures,
      ),
    ))
