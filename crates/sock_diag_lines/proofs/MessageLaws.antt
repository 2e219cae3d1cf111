-- The text of a netlink message shows the whole message.
use Rattle.std.proofs.Common.{◌≡◌, ℕ, ◌<◌, ◌^◌, List, decimal, sym, subst, arith}
use Rattle.std.proofs.lemmas.Fmt.{decimal_injective}
use Rattle.netlink_core.specs.Bytes.{IsBytes}
use Rattle.netlink_core.specs.NetlinkMessage.{Payload, ParsesAsPayload, payload_bytes}
use Rattle.netlink_core.specs.declared.message.NetlinkPayload.TheVariants.{Done, Error, Noop}
use Rattle.netlink_core.specs.declared.message.NetlinkPayload.TheVariants.{Overrun, InnerMessage}
use Rattle.netlink_core.proofs.Framing.{message_or_error, message_or_error_apart}
use Rattle.netlink_core.proofs.Framing.{one_message_error, payload_in_range}
use Rattle.netlink_core.proofs.Equivalence.{messages_equal_iff_equivalent, payloads_equal_by_bytes}
use Rattle.netlink_packet_sock_diag.specs.Message.{message_codec, Message}
use Rattle.netlink_packet_sock_diag.specs.laws.Message.{message_laws}
use Rattle.sock_diag_lines.proofs.CanonicalLaws.{equal_by_serialized}
use Rattle.sock_diag_lines.proofs.Deciding.{netlink_message_fits_or_not}
use Rattle.sock_diag_lines.specs.private.Text.{number_then_text}
use Rattle.sock_diag_lines.proofs.FieldLaws.{decimal_digits, hex_field_of-same, word_and_rest}
use Rattle.sock_diag_lines.specs.Answer.{name_entry}
use Rattle.sock_diag_lines.specs.declared.answers.Name.TheVariants.{NetlinkMessage}
use Rattle.sock_diag_lines.proofs.SubjectLaws.{AnswerLawsOf, HasFullText}

-- ---- numbers

word-same : (m n : ℕ) (rest other : List ℕ) → m < 2 ^ 32 → n < 2 ^ 32
    → number_then_text m rest ≡ number_then_text n other
    → (m ≡ n) × (rest ≡ other)
word-same m n rest other hm hn e =
    let both = word_and_rest (decimal m) (decimal n) rest other (decimal_digits m (omega arith))
    (decimal_digits n (omega arith)) e in
    (decimal_injective m n (omega arith) (omega arith) both.0, both.1)

-- ---- payloads

-- a parsed payload serializes to bytes
payload_written : (t : ℕ) (x : List ℕ) (p : Payload Message) → IsBytes x
    → ParsesAsPayload message_codec.parses x t p
    → IsBytes (payload_bytes message_codec.serialized p)
payload_written t x Noop hx r = λ i. omega arith
payload_written t x (Error given) hx r = subst IsBytes (sym r.1) hx
payload_written t x (Done given) hx r = subst IsBytes (sym r.1) hx
payload_written t x (Overrun given) hx r = subst IsBytes (sym r.1) hx
payload_written t x (InnerMessage m) hx r =
    message_laws.serialized_in_range m (message_laws.parsed_is_normal x t m hx r.1).0

-- ---- messages

-- the header fields and the serialized payload show the whole message
pub netlink_message_has_full_text : HasFullText (name_entry NetlinkMessage).1
netlink_message_has_full_text b c v w hb hc r s f g e =
    let h = r.0.1 in
    let k = s.0.1 in
    let of_v = v.header in
    let of_w = w.header in
    let lengths = word-same of_v.length of_w.length _ _ h.0 k.0 e in
    let types = word-same of_v.message_type of_w.message_type _ _ (omega arith) (omega arith)
    lengths.1 in
    let flags = word-same of_v.flags of_w.flags _ _ (omega arith) (omega arith) types.1 in
    let sequences = word-same of_v.sequence_number of_w.sequence_number _ _ h.1.1.1.0 k.1.1.1.0
    flags.1 in
    let ports = word-same of_v.port_number of_w.port_number _ _ h.1.1.1.1.0 k.1.1.1.1.0
    sequences.1 in
    let hx = payload_in_range of_v.length b hb in
    let hy = payload_in_range of_w.length c hc in
    let t = of_v.message_type in
    let written = hex_field_of-same _ _ (payload_written _ _ v.payload hx r.1)
    (payload_written _ _ w.payload hy s.1) ports.1 in
    let payloads = payloads_equal_by_bytes message_codec.parses message_codec.serialized
    message_codec.is_writable t _ _
    (λ m n. equal_by_serialized message_codec message_laws t _ _ m n hx hy) v.payload w.payload r.1
    (rw (← types.0) at s.1) f.0 g.0 written in
    λ i. record {
      header = record {
        length = lengths.0 i;
        message_type = types.0 i;
        flags = flags.0 i;
        sequence_number = sequences.0 i;
        port_number = ports.0 i;
      };
      payload = payloads i;
    }

pub netlink_message_answer_laws : AnswerLawsOf (name_entry NetlinkMessage).1
netlink_message_answer_laws = record {
  is_total = λ b h. message_or_error message_codec b h message_laws.is_total;
  is_exclusive = λ b v e. message_or_error_apart message_codec b v e
      (λ x t m. message_laws.is_exclusive x t m e);
  error_is_unique = λ b e f. one_message_error message_codec b e f
      (λ x t. message_laws.error_is_unique x t e f);
  equal_iff_equivalent =
      messages_equal_iff_equivalent message_codec message_laws.equal_iff_equivalent;
  fits_or_not = netlink_message_fits_or_not;
}
