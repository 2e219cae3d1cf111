-- When a message has no canonical form.
use Rattle.std.proofs.Common.{◌≡◌, ℕ, List, Ok, inr}
use Rattle.netlink_core.specs.declared.canonical_form.CanonError.{CanonError}
use Rattle.netlink_core.specs.declared.canonical_form.CanonError.TheVariants as errors
use Rattle.netlink_core.specs.Canonical.{CanonicalFails}
use Rattle.netlink_packet_sock_diag.specs.Message.{codec_of_message_kind, message_of, message_codec}
use Rattle.sock_diag_records.specs.ResponseKind.{MessageKind, response_kind}

-- the reason is the reason for the reply of its kind
pub kind_gives_up : (kind : MessageKind) (b : List ℕ) (t : ℕ) → response_kind b t ≡ Ok kind
    → (e : CanonError)
    → CanonicalFails ((codec_of_message_kind kind).parses b tt)
    ((codec_of_message_kind kind).rejects b tt) (codec_of_message_kind kind).is_writable e
    → CanonicalFails (message_codec.parses b t)
    (message_codec.rejects b t) message_codec.is_writable e
kind_gives_up kind b t found (errors.Refused error) (refused, named) =
    (inr (kind, found, refused), named)
kind_gives_up kind b t found errors.Unwritable (v, parses, long) =
    (message_of kind v, (found, parses), long)
kind_gives_up kind b t found errors.Memory (v, parses, fits) =
    (message_of kind v, (found, parses), fits)
