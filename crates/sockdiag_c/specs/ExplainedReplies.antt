-- Which error of a reply is explained, by its family.
use Rattle.std.specs.Prelude.{◌≡◌, ◌≢◌, ◌<◌, ℕ, List}
use Rattle.netlink_core.specs.Header.{HasHeader, IsMessageError}
use Rattle.netlink_core.specs.Response.{ResponseSpec, response_codec}
use Rattle.netlink_core.specs.declared.error.DecodeError.TheVariants.{UnknownFamily}
use Rattle.netlink_core.specs.Errors.{error_code}
use Rattle.netlink_packet_sock_diag.specs.Message.{message_codec}
use Rattle.sock_diag_attributes.specs.InetAttributes.{inet_attribute_set}
use Rattle.sock_diag_attributes.specs.UnixAttributes.{unix_attribute_set}
use Rattle.sock_diag_records.specs.SignificantBits.{IsInetFamily}
use Rattle.sock_diag_records.specs.declared.constants.TheConstants as c
use Rattle.sock_diag_replies.specs.InetResponseSpec.{inet_response_spec}
use Rattle.sock_diag_replies.specs.UnixResponseSpec.{unix_response_spec}
use Rattle.sock_diag_families.specs.declared.vsock.TheConstants.{AF_VSOCK}
use Rattle.sock_diag_families.specs.declared.xdp.TheConstants.{AF_XDP}
use Rattle.sockdiag_c.specs.Answers.{Call}
use Rattle.sockdiag_c.specs.ErrorDetails.{IsExplained, IsItemExplained, error_details_of}
use Rattle.sockdiag_c.specs.Family.{AreDetailsOf, Family, IsFirstError}
use Rattle.sockdiag_c.specs.NetlinkDetails.{netlink_family}
use Rattle.sockdiag_c.specs.PacketDetails.{packet_family}
use Rattle.sockdiag_c.specs.VsockDetails.{vsock_family}
use Rattle.sockdiag_c.specs.XdpDetails.{xdp_family}
use Rattle.sockdiag_c.specs.declared.error_details.ErrorDetails.{ErrorDetails}
use Rattle.sockdiag_c.specs.declared.error_details.TheConstants.{EXPLAIN_DATAGRAM}
use Rattle.sockdiag_c.specs.declared.error_details.TheConstants.{EXPLAIN_INET_ATTRIBUTE}
use Rattle.sockdiag_c.specs.declared.error_details.TheConstants.{EXPLAIN_MESSAGE}
use Rattle.sockdiag_c.specs.declared.error_details.TheConstants.{EXPLAIN_UNIX_ATTRIBUTE}
use Rattle.sockdiag_c.specs.declared.results.TheConstants.{INVALID_ARGUMENT}

-- `IsCodecExplained R payload call`: the first error of the payload as a reply of `R` is stored, if
-- it has one (`IsExplained`)
abbrev pub IsCodecExplained : ResponseSpec → List ℕ → Call ErrorDetails → Type 0
IsCodecExplained R payload call =
    IsExplained ((response_codec R).parses payload tt) ((response_codec R).rejects payload tt) call

-- `AreDetailsExplained family payload call`: the error with which the strict call for the family
-- rejects the payload is stored, if it does
abbrev pub AreDetailsExplained : {D : Type 0} → Family D → List ℕ → Call ErrorDetails → Type 0
AreDetailsExplained family payload call =
    IsExplained (AreDetailsOf family payload) (IsFirstError family payload) call

-- `IsReplyExplained family payload call`: the first error of the payload as a reply about a socket
-- of this family is stored, if it has one. For another family the error is UnknownFamily.
pub record IsReplyExplained (family : ℕ) (payload : List ℕ) (call : Call ErrorDetails)
    : Type 0 where
  pub unix : family ≡ c.AF_UNIX → IsCodecExplained unix_response_spec payload call
  pub inet : IsInetFamily family → IsCodecExplained inet_response_spec payload call
  pub netlink : family ≡ c.AF_NETLINK → AreDetailsExplained netlink_family payload call
  pub packet : family ≡ c.AF_PACKET → AreDetailsExplained packet_family payload call
  pub vsock : family ≡ AF_VSOCK → AreDetailsExplained vsock_family payload call
  pub xdp : family ≡ AF_XDP → AreDetailsExplained xdp_family payload call
  pub other : family ≢ c.AF_UNIX → ¬ IsInetFamily family → family ≢ c.AF_NETLINK
      → family ≢ c.AF_PACKET → family ≢ AF_VSOCK → family ≢ AF_XDP
      → (call.returned ≡ error_code (UnknownFamily family))
      × (call.new ≡ error_details_of (UnknownFamily family))

-- `IsErrorExplained what bytes call`: the first error of the bytes is stored, if they have one.
-- `what` says what they are: a reply about a socket of this family, or one of EXPLAIN_MESSAGE to
-- EXPLAIN_INET_ATTRIBUTE. For a greater number the return value is INVALID_ARGUMENT.
pub record IsErrorExplained (what : ℕ) (bytes : List ℕ) (call : Call ErrorDetails) : Type 0 where
  pub reply : what < EXPLAIN_MESSAGE → IsReplyExplained what bytes call
  pub message : what ≡ EXPLAIN_MESSAGE
      → IsExplained (message_codec.parses bytes c.SOCK_DIAG_BY_FAMILY)
      (message_codec.rejects bytes c.SOCK_DIAG_BY_FAMILY) call
  pub datagram : what ≡ EXPLAIN_DATAGRAM
      → IsExplained (HasHeader bytes) (IsMessageError bytes) call
  pub unix_attribute : what ≡ EXPLAIN_UNIX_ATTRIBUTE → IsItemExplained unix_attribute_set bytes call
  pub inet_attribute : what ≡ EXPLAIN_INET_ATTRIBUTE → IsItemExplained inet_attribute_set bytes call
  pub unknown : EXPLAIN_INET_ATTRIBUTE < what
      → (call.returned ≡ INVALID_ARGUMENT) × (call.new ≡ call.old)
