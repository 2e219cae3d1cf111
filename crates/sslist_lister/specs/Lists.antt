-- Lists of sockets. A capture has several if its first request was repeated.
use Rattle.std.specs.Prelude.{ℕ, ◌==◌, ◌&&◌, Bool, false, List, Option, None, Some, bytes_eq}
use Rattle.std.specs.Prelude.{option_map}
use Rattle.sslist_lister.specs.Messages.{MessageParts}
use Rattle.sslist_lister.specs.declared.lists.FirstRequest.{FirstRequest}

-- What is compared of two requests. Their flags, sequence numbers and port numbers are ignored.
pub record ComparedContent : Type 0 where
  -- `nlmsg_type`
  pub message_type : ℕ
  -- the bytes after the header
  pub payload : List ℕ

-- the content of the first request of a capture; None if there was no request
abbrev pub first_request : FirstRequest → Option ComparedContent
first_request first = option_map (λ message_type. record {
  message_type = message_type;
  payload = first.payload.items;
}) first.message_type

-- `is_repetition first request`: the request is the same as the first one, which precedes it
abbrev pub is_repetition : Option ComparedContent → MessageParts → Bool
is_repetition None request = false
is_repetition (Some first) request = (first.message_type == request.header.message_type)
    && bytes_eq first.payload request.payload

-- `first_with request first`: the first request of a capture after `request` was captured too: it
-- stays `first`, or is `request` if there was none before (None)
abbrev pub first_with : MessageParts → Option ComparedContent → Option ComparedContent
first_with request None = Some (record {
  message_type = request.header.message_type;
  payload = request.payload;
})
first_with request (Some first) = Some first
