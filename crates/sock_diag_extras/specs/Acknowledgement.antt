-- The payload of an error, of an acknowledgement or of the end of a dump, by netlink(7) and
-- linux/netlink.h. An NLMSG_ERROR contains a `struct nlmsgerr`: the error number `error` in the
-- first four bytes, and the request, starting with its header `msg`. Attributes NLMSGERR_ATTR_..
-- may follow. An NLMSG_DONE contains the error number, and attributes may follow. In this file
-- `flags` are the flags of the header of the NLMSG_ERROR or NLMSG_DONE.
use Rattle.std.specs.Prelude.{◌≤◌, ℕ, ◌+◌, ◌==◌, ◌&&◌, if◌then◌else◌, List, [], length, take, drop}
use Rattle.std.specs.Prelude.{bit_and, not}
use Rattle.byteorder.specs.Endian.{little_number}
use Rattle.netlink_core.specs.Attribute.{padding_length}
use Rattle.netlink_core.specs.declared.header.TheConstants.{NETLINK_HEADER_LEN}
use Rattle.netlink_core.specs.declared.message.TheConstants.{NLM_F_ACK_TLVS, NLM_F_CAPPED}

-- `acked_request_length flags payload`: the length in bytes of the request in the payload of an
-- NLMSG_ERROR. If the error number is not 0 and the flags lack NLM_F_CAPPED, the request is
-- complete: its length is its length field `nlmsg_len`, the u32 at offset 4 of the payload.
-- Otherwise only its header of 16 bytes is present.
abbrev pub acked_request_length : ℕ → List ℕ → ℕ
acked_request_length flags payload =
    if (bit_and flags NLM_F_CAPPED == 0) && not (little_number 4 payload == 0)
    then little_number 4 (drop 4 payload) else NETLINK_HEADER_LEN

-- `HasCompleteRequest flags payload`: the payload of an NLMSG_ERROR has at least 20 bytes, those of
-- the error number and of the request's header; and the length of the request
-- (`acked_request_length`) is at least 16 bytes, and ends within the payload.
abbrev pub HasCompleteRequest : ℕ → List ℕ → Type 0
HasCompleteRequest flags payload =
    (4 + NETLINK_HEADER_LEN ≤ length payload)
    × (NETLINK_HEADER_LEN ≤ acked_request_length flags payload)
    × (4 + acked_request_length flags payload ≤ length payload)

-- `acked_request_bytes flags payload`: the bytes of the request in the payload of an NLMSG_ERROR,
-- after the four bytes of the error number
abbrev pub acked_request_bytes : ℕ → List ℕ → List ℕ
acked_request_bytes flags payload = take (acked_request_length flags payload) (drop 4 payload)

-- `ack_attribute_bytes_from flags offset payload`: the bytes of the attributes NLMSGERR_ATTR_..:
-- all bytes of the payload from the offset on; none if the flags lack NLM_F_ACK_TLVS
abbrev pub ack_attribute_bytes_from : ℕ → ℕ → List ℕ → List ℕ
ack_attribute_bytes_from flags offset payload =
    if bit_and flags NLM_F_ACK_TLVS == 0 then [] else drop offset payload

-- `error_attribute_bytes flags payload`: the bytes of the attributes in the payload of an
-- NLMSG_ERROR. They follow the error number and the request, which is padded to a multiple of 4
-- bytes. `padding_length n` is the number of padding bytes after `n` bytes.
abbrev pub error_attribute_bytes : ℕ → List ℕ → List ℕ
error_attribute_bytes flags payload =
    let request_length = acked_request_length flags payload in
    ack_attribute_bytes_from flags (4 + (request_length + padding_length request_length)) payload
