-- The subject laws of each name.
use Rattle.std.proofs.Common.{◌≢◌, ◌⊎◌, inl, refl}
use Rattle.std.specs.Prelude.{⊤}
use Rattle.sock_diag_records.specs.UnixRequest.{unix_request}
use Rattle.sock_diag_records.specs.laws.UnixRequest.{unix_request_sound}
use Rattle.sock_diag_records.specs.InetRequest.{inet_request}
use Rattle.sock_diag_records.specs.laws.InetRequest.{inet_request_sound}
use Rattle.sock_diag_records.specs.SocketId.{socket_id}
use Rattle.sock_diag_records.specs.laws.SocketId.{socket_id_sound}
use Rattle.sock_diag_replies.specs.UnixResponseSpec.{unix_response_spec}
use Rattle.sock_diag_replies.specs.laws.UnixResponseSpec.{unix_response_laws}
use Rattle.sock_diag_replies.specs.InetResponseSpec.{inet_response_spec}
use Rattle.sock_diag_replies.specs.laws.InetResponseSpec.{inet_response_laws}
use Rattle.netlink_packet_sock_diag.specs.Message.{message_codec}
use Rattle.netlink_packet_sock_diag.specs.laws.Message.{message_laws}
use Rattle.netlink_core.specs.Codec.{Codec, KeepsCodecLaws, record_codec}
use Rattle.netlink_core.specs.Response.{response_codec}
use Rattle.netlink_core.proofs.LayoutLaws.{layout_codec_laws}
use Rattle.netlink_core.proofs.Responses.{reply_codec_laws}
use Rattle.sock_diag_lines.specs.Answer.{name_entry}
use Rattle.sock_diag_lines.specs.declared.answers.Name.{Name}
use Rattle.sock_diag_lines.specs.declared.answers.Name.TheVariants as names
use Rattle.sock_diag_lines.specs.AnswerText.{answer_codec}
use Rattle.sock_diag_lines.proofs.CanonicalLaws.{canonical_has_full_text, subject_laws_of_codec}
use Rattle.sock_diag_lines.proofs.Deciding.{message_fits_or_not, reply_fits_or_not}
use Rattle.sock_diag_lines.proofs.MessageLaws.{netlink_message_answer_laws}
use Rattle.sock_diag_lines.proofs.MessageLaws.{netlink_message_has_full_text}
use Rattle.sock_diag_lines.proofs.SubjectLaws.{AnswerLawsOf, HasFullText}

-- the laws of a subject that shows the canonical form
codec_answer_laws : {Param P : Type 0} (C : Codec Param) → KeepsCodecLaws C → (param : Param)
    → ((v : C.Value) → C.is_writable v ⊎ ¬ C.is_writable v)
    → AnswerLawsOf (answer_codec C param) × (P → HasFullText (answer_codec C param))
codec_answer_laws C laws param fits_or_not = (
  subject_laws_of_codec C laws param C.is_writable fits_or_not,
  λ p. canonical_has_full_text C laws param,
)

-- the laws of each name; every name except `unixview` shows the whole value
pub name_answer_laws : (name : Name)
    → AnswerLawsOf (name_entry name).1 × (name ≢ names.UnixView → HasFullText (name_entry name).1)
name_answer_laws names.UnixRequest = codec_answer_laws (record_codec unix_request)
    (layout_codec_laws unix_request unix_request_sound) tt (λ v. inl tt)
name_answer_laws names.UnixResponse = codec_answer_laws (response_codec unix_response_spec)
    (reply_codec_laws unix_response_spec unix_response_laws) tt
    (reply_fits_or_not unix_response_spec)
name_answer_laws names.InetRequest = codec_answer_laws (record_codec inet_request)
    (layout_codec_laws inet_request inet_request_sound) tt (λ v. inl tt)
name_answer_laws names.InetResponse = codec_answer_laws (response_codec inet_response_spec)
    (reply_codec_laws inet_response_spec inet_response_laws) tt
    (reply_fits_or_not inet_response_spec)
name_answer_laws names.SocketId4 = codec_answer_laws (record_codec socket_id)
    (layout_codec_laws socket_id socket_id_sound) 2
    (λ v. inl tt)
name_answer_laws names.SocketId6 = codec_answer_laws (record_codec socket_id)
    (layout_codec_laws socket_id socket_id_sound) 10
    (λ v. inl tt)
name_answer_laws names.Message = codec_answer_laws message_codec message_laws 20 message_fits_or_not
name_answer_laws names.NetlinkMessage =
    (netlink_message_answer_laws, λ h. netlink_message_has_full_text)
name_answer_laws names.UnixView = (
  subject_laws_of_codec (response_codec unix_response_spec)
      (reply_codec_laws unix_response_spec unix_response_laws) tt (λ v. ⊤) (λ v. inl tt),
  λ h. absurd (h refl),
)
