-- What the kernel explains about an error: the request in an NLMSG_ERROR, and the attributes of an
-- extended acknowledgement (netlink(7)) that follow an NLMSG_ERROR or NLMSG_DONE. `t`, `flags` and
-- `payload` are the type, the flags and the payload of the message. Texts are lists of ASCII codes:
-- 32 is a space, 41 a closing parenthesis.
use Rattle.std.specs.Prelude.{ℕ, ◌+◌, ◌==◌, ◌&&◌, ◌||◌, nat_le, if◌then◌else◌, List, [], ◌∷◌, ◌++◌}
use Rattle.std.specs.Prelude.{Bool, codes, decimal, flat_map, length, Option, None, Some}
use Rattle.netlink_core.specs.Parse.{without_terminating_nul}
use Rattle.netlink_core.specs.declared.message.TheConstants.{NLMSG_DONE, NLMSG_ERROR}
use Rattle.sock_diag_extras.specs.Acknowledgement.{ack_attribute_bytes_from}
use Rattle.sock_diag_extras.specs.Acknowledgement.{acked_request_bytes, acked_request_length}
use Rattle.sock_diag_extras.specs.Acknowledgement.{error_attribute_bytes}
use Rattle.sock_diag_extras.specs.declared.constants.TheConstants.{NLMSGERR_ATTR_MSG}
use Rattle.sock_diag_extras.specs.declared.constants.TheConstants.{NLMSGERR_ATTR_OFFS}
use Rattle.sslist_texts.specs.Escapes.{escaped_byte}
use Rattle.sslist_lister.specs.Messages.{MessageParts, request_in}
use Rattle.sslist_lister.specs.RequestLine.{request_note}
use Rattle.sslist_lister.specs.Pieces.{nested_number, nested_value}

-- `has_acked_request flags payload`: the payload of an NLMSG_ERROR contains the request that it
-- answers. The request follows the four bytes of the error number. It has at least the 16 bytes of
-- its header, so the payload has at least 20.
abbrev pub has_acked_request : ℕ → List ℕ → Bool
has_acked_request flags payload =
    let request_length = acked_request_length flags payload in
    nat_le 20 (length payload)
    && (nat_le 16 request_length && nat_le (4 + request_length) (length payload))

-- `error_attributes flags payload`: the bytes of the attributes in the payload of an NLMSG_ERROR;
-- no bytes if the payload does not contain the request, which precedes them
abbrev pub error_attributes : ℕ → List ℕ → List ℕ
error_attributes flags payload =
    if has_acked_request flags payload then error_attribute_bytes flags payload else []

-- `error_request flags payload`: the bytes of the request in the payload of an NLMSG_ERROR; no
-- bytes if the payload does not contain it
abbrev pub error_request : ℕ → List ℕ → List ℕ
error_request flags payload =
    if has_acked_request flags payload then acked_request_bytes flags payload else []

-- `answered_request t flags payload`: the bytes of the request in the payload of a message of any
-- type; no bytes if it is not an NLMSG_ERROR
abbrev pub answered_request : ℕ → ℕ → List ℕ → List ℕ
answered_request t flags payload = if t == NLMSG_ERROR then error_request flags payload else []

-- `done_attributes flags payload`: the bytes of the attributes in the payload of an NLMSG_DONE,
-- after the four bytes of the error number
abbrev pub done_attributes : ℕ → List ℕ → List ℕ
done_attributes flags payload =
    if nat_le 4 (length payload) then ack_attribute_bytes_from flags 4 payload else []

-- `attributes_by_type t flags payload`: the bytes of the attributes in the payload of a message of
-- any type; no bytes if it is neither an NLMSG_ERROR nor an NLMSG_DONE
abbrev pub attributes_by_type : ℕ → ℕ → List ℕ → List ℕ
attributes_by_type t flags payload =
    if t == NLMSG_ERROR then error_attributes flags payload
    else if t == NLMSG_DONE then done_attributes flags payload else []

-- a byte of the kernel's text, escaped as in names, except for a space
abbrev pub kernel_text_byte : ℕ → List ℕ
kernel_text_byte byte = if byte == 32 then 32 ∷ [] else escaped_byte byte

-- a colon, a space and the kernel's text, without one terminating NUL; nothing for None
abbrev pub kernel_text : Option (List ℕ) → List ℕ
kernel_text None = []
kernel_text (Some value) =
    codes ": " ++ flat_map kernel_text_byte (without_terminating_nul value)

-- the offset of the invalid attribute in the request, in bytes; nothing for None
abbrev pub offset_text : Option ℕ → List ℕ
offset_text None = []
offset_text (Some n) = codes " (offset " ++ decimal n ++ 41 ∷ []

-- `text_and_offset_in bytes`: what is written of the attributes in the bytes: the kernel's text
-- (NLMSGERR_ATTR_MSG) and ` (offset N)` (NLMSGERR_ATTR_OFFS, four bytes), each only if it is
-- present
abbrev pub text_and_offset_in : List ℕ → List ℕ
text_and_offset_in bytes =
    kernel_text (nested_value NLMSGERR_ATTR_MSG bytes)
    ++ offset_text (nested_number (NLMSGERR_ATTR_OFFS, 4) bytes)

-- `unknown_request t`: the text about the request that a message with the type `t` answers, if the
-- message does not contain it, or if it is not known what it requests. Nothing if the message is
-- neither an NLMSG_ERROR nor an NLMSG_DONE.
abbrev pub unknown_request : ℕ → List ℕ
unknown_request t =
    if (t == NLMSG_ERROR) || (t == NLMSG_DONE) then codes " (request: in an earlier packet)" else []

-- what follows the diagnostic of the message `m`: a note of the request that it answers, and then
-- the kernel's text and the offset in its attributes
abbrev pub explanation : MessageParts → List ℕ
explanation m =
    let h = m.header in
    request_note (unknown_request h.message_type)
    (request_in (answered_request h.message_type h.flags m.payload))
    ++ text_and_offset_in (attributes_by_type h.message_type h.flags m.payload)
