-- The header of a netlink message, and the first error of bytes that do not begin with a message.
use Rattle.std.specs.Prelude.{◌≡◌, ℕ, ◌-◌, ◌<◌, ◌≤◌, List, [], ◌∷◌, length, take, drop}
use Rattle.std.specs.Prelude.{slice_index}
use Rattle.byteorder.specs.Endian.{little_number}
use Rattle.netlink_core.specs.Table.{Field, values_of, bytes_of, FitFields}
use Rattle.netlink_core.specs.Rows.{Row, u16, u32, fields_of, numbers_of}
use Rattle.netlink_core.specs.declared.error.DecodeError.{DecodeError}
use Rattle.netlink_core.specs.declared.error.DecodeError.TheVariants as errors
use Rattle.netlink_core.specs.declared.header.NetlinkHeader.{NetlinkHeader}

-- `struct nlmsghdr` (linux/netlink.h), in the order of the rows: `nlmsg_len`, `nlmsg_type`,
-- `nlmsg_flags`, `nlmsg_seq`, `nlmsg_pid`. The number in each row is the offset of the field. All
-- fields are little-endian.
abbrev pub header_rows : List (Row NetlinkHeader)
header_rows =
    u32 0 NetlinkHeader.length ∷
    u16 4 NetlinkHeader.message_type ∷
    u16 6 NetlinkHeader.flags ∷
    u32 8 NetlinkHeader.sequence_number ∷
    u32 12 NetlinkHeader.port_number ∷ []

-- the five fields of the header, from the rows
abbrev pub header_fields : List Field
header_fields = fields_of header_rows

-- `header_values h`: the five numbers of the header `h`, in the order of the rows
abbrev pub header_values : NetlinkHeader → List ℕ
header_values = numbers_of header_rows

-- `header_of_numbers numbers`: the header with these five numbers, in the order of the rows
abbrev pub header_of_numbers : List ℕ → NetlinkHeader
header_of_numbers numbers = record {
  length = slice_index numbers 0;
  message_type = slice_index numbers 1;
  flags = slice_index numbers 2;
  sequence_number = slice_index numbers 3;
  port_number = slice_index numbers 4;
}

-- `header_bytes h`: the 16 bytes that the header `h` serializes to
abbrev pub header_bytes : NetlinkHeader → List ℕ
header_bytes h = bytes_of header_fields (header_values h)

-- `HasHeader bytes h`: the bytes begin with the header `h`. Each number of `h` fits its field. The
-- message is complete: `nlmsg_len` is at least 16, the length of the header, and at most the number
-- of bytes. What follows the header is not considered.
abbrev pub HasHeader : List ℕ → NetlinkHeader → Type 0
HasHeader bytes h = (values_of header_fields bytes ≡ header_values h)
    × FitFields header_fields (header_values h) × (16 ≤ h.length) × (h.length ≤ length bytes)

-- `message_length_in bytes`: `nlmsg_len` of the header at the start of the bytes: four bytes,
-- little-endian, at offset 0
abbrev pub message_length_in : List ℕ → ℕ
message_length_in bytes = little_number 4 bytes

-- `message_type_in bytes`: `nlmsg_type` of the header at the start of the bytes: two bytes,
-- little-endian, at offset 4
abbrev pub message_type_in : List ℕ → ℕ
message_type_in bytes = little_number 2 (drop 4 bytes)

-- `message_payload bytes h`: the payload of the message at the start of the bytes, whose header is
-- `h`: the bytes from offset 16, the end of the header, to offset `nlmsg_len`
abbrev pub message_payload : List ℕ → NetlinkHeader → List ℕ
message_payload bytes h = take (h.length - 16) (drop 16 bytes)

-- `IsMessageError bytes e`: the bytes do not begin with a complete message, and `e` is their first
-- error: fewer than 16 bytes, the length of the header; else `nlmsg_len` is below 16; else
-- `nlmsg_len` is above the number of bytes. No other `DecodeError` is such an error (`⊥`).
abbrev pub IsMessageError : List ℕ → DecodeError → Type 0
IsMessageError bytes (errors.EnvelopeCut got) = (got ≡ length bytes) × (length bytes < 16)
IsMessageError bytes (errors.EnvelopeLengthUnder16 nlmsg_len) =
    (nlmsg_len ≡ message_length_in bytes) × (16 ≤ length bytes) × (nlmsg_len < 16)
IsMessageError bytes (errors.EnvelopeLengthPast nlmsg_len got) =
    (nlmsg_len ≡ message_length_in bytes) × (got ≡ length bytes)
    × (16 ≤ length bytes) × (16 ≤ nlmsg_len) × (length bytes < nlmsg_len)
IsMessageError bytes _ = ⊥
