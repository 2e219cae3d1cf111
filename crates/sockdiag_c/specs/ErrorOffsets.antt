-- Where the first error of a reply is: the field `offset` of `struct sockdiag_error_details`.
use Rattle.std.specs.Prelude.{◌≡◌, ◌≢◌, ◌⊎◌, ◌+◌, ◌<◌, ℕ, List, [], drop, length, slice_get}
use Rattle.std.specs.Prelude.{MatchOption, Some, None, Ok}
use Rattle.netlink_core.specs.Attribute.{Attribute, IsFramingError, SplitsIntoAttributes}
use Rattle.netlink_core.specs.Attribute.{StartsWithAttribute}
use Rattle.netlink_core.specs.declared.error.DecodeError.{DecodeError}
use Rattle.sock_diag_records.specs.SignificantBits.{IsInetFamily}
use Rattle.sock_diag_records.specs.declared.constants.TheConstants as c
use Rattle.sock_diag_replies.specs.UnixGetters.{first_content_of}
use Rattle.sock_diag_families.specs.declared.vsock.TheConstants.{AF_VSOCK}
use Rattle.sock_diag_families.specs.declared.xdp.TheConstants.{AF_XDP}
use Rattle.sockdiag_c.specs.Answers.{Call}
use Rattle.sockdiag_c.specs.Family.{Family, IsHeaderError, value_error}
use Rattle.sockdiag_c.specs.InetDetails.{inet_family}
use Rattle.sockdiag_c.specs.NetlinkDetails.{netlink_family}
use Rattle.sockdiag_c.specs.PacketDetails.{packet_family}
use Rattle.sockdiag_c.specs.UnixDetails.{unix_family}
use Rattle.sockdiag_c.specs.VsockDetails.{vsock_family}
use Rattle.sockdiag_c.specs.XdpDetails.{xdp_family}
use Rattle.sockdiag_c.specs.declared.error_details.ErrorDetails.{ErrorDetails}
use Rattle.sockdiag_c.specs.declared.error_details.TheConstants.{EXPLAIN_MESSAGE}
use Rattle.sockdiag_c.specs.declared.results.TheConstants.{INVALID_ARGUMENT}

module _ {D : Type 0} (family : Family D) where
  -- `BeginsWithError family bytes`: one of:
  -- - There are no bytes (`[]`).
  -- - The bytes begin with an attribute that is rejected. `later` are the bytes after it.
  -- - The bytes do not begin with an attribute.
  abbrev pub BeginsWithError : List ℕ → Type 0
  BeginsWithError bytes =
      (bytes ≡ [])
      ⊎ (((a : Attribute) × (later : List ℕ) × (e : DecodeError)
      × StartsWithAttribute bytes a later × (value_error family a ≡ Some e))
      ⊎ ((e : DecodeError) × (bytes ≢ []) × IsFramingError bytes e))

  -- `IsFirstErrorBefore family bytes left`: the bytes are attributes without an error, and then
  -- `left` bytes, which begin with an error (`BeginsWithError`)
  pub record IsFirstErrorBefore (bytes : List ℕ) (left : ℕ) : Type 0 where
    pub before : List Attribute
    pub rest : List ℕ
    pub split : SplitsIntoAttributes bytes before rest
    pub accepted : first_content_of (value_error family) before ≡ None
    pub error : BeginsWithError rest
    pub size : length rest ≡ left

  -- `IsOffsetIn family payload offset`: the header of the reply in the payload is rejected, and the
  -- offset is 0. Or it is accepted, and the first error of the bytes after it is at the offset:
  -- `left` bytes are left there. If these are none, the reply has no error.
  abbrev pub IsOffsetIn : List ℕ → ℕ → Type 0
  IsOffsetIn payload offset =
      ((e : DecodeError) × IsHeaderError family payload e × (offset ≡ 0))
      ⊎ ((header : family.Header) × (left : ℕ) × (family.parse_header payload ≡ Ok header)
      × (offset + left ≡ length payload)
      × IsFirstErrorBefore (drop family.header_size payload) left)

-- `IsCheckedOffset family payload offset`: of a reply about a UNIX, IPv4 or IPv6 socket, the offset
-- of the first error; for another family 0
pub record IsCheckedOffset (family : ℕ) (payload : List ℕ) (offset : ℕ) : Type 0 where
  pub unix : family ≡ c.AF_UNIX → IsOffsetIn unix_family payload offset
  pub inet : IsInetFamily family → IsOffsetIn inet_family payload offset
  pub other : family ≢ c.AF_UNIX → ¬ IsInetFamily family → offset ≡ 0

-- `IsReplyOffset family payload offset`: of a reply about a socket of this family, the offset of
-- the first error; for another family 0
pub record IsReplyOffset (family : ℕ) (payload : List ℕ) (offset : ℕ) : Type 0 where
  pub netlink : family ≡ c.AF_NETLINK → IsOffsetIn netlink_family payload offset
  pub packet : family ≡ c.AF_PACKET → IsOffsetIn packet_family payload offset
  pub vsock : family ≡ AF_VSOCK → IsOffsetIn vsock_family payload offset
  pub xdp : family ≡ AF_XDP → IsOffsetIn xdp_family payload offset
  pub other : family ≢ c.AF_NETLINK → family ≢ c.AF_PACKET → family ≢ AF_VSOCK → family ≢ AF_XDP
      → IsCheckedOffset family payload offset

-- `IsMessageOffset payload offset`: the offset of the first error of the payload of a message, by
-- its first byte, the family; 0 if there are no bytes
abbrev pub IsMessageOffset : List ℕ → ℕ → Type 0
IsMessageOffset payload offset =
    MatchOption (slice_get payload 0) (offset ≡ 0) (λ family. IsCheckedOffset family payload offset)

-- `IsErrorOffset what bytes offset`: the offset of the first error of bytes that have one. `what`
-- says what they are, as for IsErrorExplained. A datagram and a single attribute have it at 0.
pub record IsErrorOffset (what : ℕ) (bytes : List ℕ) (offset : ℕ) : Type 0 where
  pub reply : what < EXPLAIN_MESSAGE → IsReplyOffset what bytes offset
  pub message : what ≡ EXPLAIN_MESSAGE → IsMessageOffset bytes offset
  pub other : EXPLAIN_MESSAGE < what → offset ≡ 0

-- `HasOffset what bytes call`: the offset is stored in the struct if the return value is the code
-- of an error of the bytes, and the struct is else as it was
abbrev pub HasOffset : ℕ → List ℕ → Call ErrorDetails → Type 0
HasOffset what bytes call =
    (call.returned ≢ 0 → call.returned ≢ INVALID_ARGUMENT
    → IsErrorOffset what bytes call.new.offset
    × (call.new ≡ record call.old { offset = call.new.offset }))
    × ((call.returned ≡ 0) ⊎ (call.returned ≡ INVALID_ARGUMENT) → call.new ≡ call.old)
