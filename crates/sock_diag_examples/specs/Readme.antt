-- What the short examples about UNIX sockets return.
use Rattle.std.specs.Prelude.{◌≡◌, ◌==◌, Bool, false, ℕ, List, [], ◌∷◌, ◌++◌, count_by, Option}
use Rattle.std.specs.Prelude.{Some, None, Result, Ok, Err}
use Rattle.std.specs.Borrow.{Bor}
use Rattle.std.specs.Bool.{then_some}
use Rattle.std.specs.List.{AllByRecursion, starts_with}
use Rattle.std.specs.Option.{option_and_then}
use Rattle.netlink_core.specs.declared.error.DecodeError.{DecodeError}
use Rattle.netlink_core.specs.declared.message.NetlinkPayload.TheVariants.{Done, Error}
use Rattle.netlink_core.specs.declared.message.NetlinkPayload.TheVariants.{Overrun, InnerMessage}
use Rattle.netlink_core.specs.AttributeSet.{value_of_kind}
use Rattle.netlink_core.specs.Response.{ReplyValue, response_codec}
use Rattle.sock_diag_records.specs.declared.constants.TheConstants.{TCP_LISTEN, UNIX_DIAG_NAME}
use Rattle.netlink_core.specs.Items.{Item, IsItemOf, AreItemsOf}
use Rattle.sock_diag_attributes.specs.declared.unix.name.SocketName.{SocketName}
use Rattle.sock_diag_attributes.specs.declared.unix.name.SocketName.TheVariants.{Pathname, Abstract}
use Rattle.sock_diag_attributes.specs.UnixAttributes.{unix_attribute_set}
use Rattle.netlink_packet_sock_diag.specs.Dump.{dump_end_at}
use Rattle.netlink_packet_sock_diag.specs.Message.{Message, message_of, message_codec}
use Rattle.sock_diag_records.specs.ResponseKind.{inet_request, inet_response, unix_request}
use Rattle.sock_diag_records.specs.ResponseKind.{unix_response}
use Rattle.sock_diag_replies.specs.UnixGetters.{first_content_of}
use Rattle.sock_diag_replies.specs.UnixResponseSpec.{unix_response_spec}

-- `IsUnixReply bytes`: the bytes parse as a reply about a UNIX socket, as some value `v`.
abbrev pub IsUnixReply : List ℕ → Type 0
IsUnixReply bytes =
    (v : ReplyValue unix_response_spec) × (response_codec unix_response_spec).parses bytes tt v

-- `path_bytes path`: the bytes of the borrowed path, if there is one
abbrev pub path_bytes : Option (Bor (List ℕ)) → Option (List ℕ)
path_bytes None = None
path_bytes (Some path) = Some path.now

-- `path_in name`: the path, if the name is a pathname; None if it is abstract
abbrev pub path_in : SocketName (List ℕ) → Option (List ℕ)
path_in (Pathname path) = Some path
path_in (Abstract address) = None

-- `path_of message`: the path in the first UNIX_DIAG_NAME of the message, if the message is a reply
-- about a UNIX socket. None if the message is another one, if it has no such attribute, or if the
-- name is abstract.
abbrev pub path_of : Message → Option (List ℕ)
path_of (message_of inet_request v) = None
path_of (message_of inet_response v) = None
path_of (message_of unix_request v) = None
path_of (message_of unix_response v) =
    option_and_then path_in (first_content_of (value_of_kind unix_attribute_set UNIX_DIAG_NAME)
    v.nlas)

-- `is_listening_reply item`: whether the item is a reply about a UNIX socket in the state
-- TCP_LISTEN (10); `false` for all other items
abbrev pub is_listening_reply : Item Message → Bool
is_listening_reply (Ok (InnerMessage (message_of unix_response v))) = v.header.state == TCP_LISTEN
is_listening_reply _ = false

-- `IsCountAtEnd count items answer`: what `listening` returns, if `count` replies about listening
-- sockets precede these items. The items are empty, or their first one ends the dump:
-- - No items: `Ok (Some count)`.
-- - NLMSG_DONE: `Ok (Some count)` if its payload starts with four zero bytes, error number 0; else
--   `Ok None`.
-- - NLMSG_ERROR or NLMSG_OVERRUN: `Ok None`.
-- - A decode error: this error.
-- - Any other item does not end the dump, so it is not the first one (`⊥`).
abbrev pub IsCountAtEnd : ℕ → List (Item Message) → Result (Option ℕ) DecodeError → Type 0
IsCountAtEnd count [] answer = answer ≡ Ok (Some count)
IsCountAtEnd count (Ok (Done status) ∷ later) answer =
    answer ≡ Ok (then_some (starts_with ◌==◌ status (0 ∷ 0 ∷ 0 ∷ 0 ∷ [])) count)
IsCountAtEnd count (Ok (Error status) ∷ later) answer = answer ≡ Ok None
IsCountAtEnd count (Ok (Overrun status) ∷ later) answer = answer ≡ Ok None
IsCountAtEnd count (Err e ∷ later) answer = answer ≡ Err e
IsCountAtEnd count (_ ∷ later) answer = ⊥

-- `IsCounted datagram answer`: the answer for the number of replies about listening sockets before
-- the first item of the datagram that ends the dump
pub record IsCounted (datagram : List ℕ) (answer : Result (Option ℕ) DecodeError) : Type 0 where
  -- the items before the first one that ends the dump
  pub passed : List (Item Message)
  -- the item that ends the dump, if any, and all items after it
  pub later : List (Item Message)
  -- both lists together are the items of the datagram, in order
  pub are_items : AreItemsOf (IsItemOf message_codec) datagram (passed ++ later)
  -- each item of `passed` is an inner message or NLMSG_NOOP
  pub no_end_before : AllByRecursion (λ item. dump_end_at item ≡ None) passed
  -- the answer, given the number of replies about listening sockets in `passed`
  pub is_count : IsCountAtEnd (count_by is_listening_reply passed) later answer
