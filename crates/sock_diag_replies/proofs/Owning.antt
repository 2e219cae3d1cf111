-- An owned reply that is parsed through the view of its bytes.
use Rattle.std.proofs.Common.{◌≡◌, ◌≢◌, ℕ, List, [], Bool, true, false, Result, IsOk, IfErr, OnOk}
use Rattle.std.specs.Prelude.{IsErrAnd}
use Rattle.std.specs.Result.{is_err}
use Rattle.std.proofs.lemmas.Result.{err_from_is_err_and}
use Rattle.netlink_core.specs.declared.error.DecodeError.{DecodeError}
use Rattle.netlink_core.specs.declared.error.DecodeError.TheVariants.{Memory}
use Rattle.netlink_core.specs.Attribute.{HasAttributeError}
use Rattle.netlink_core.specs.AttributeSet.{AttributeSet, AttributeValue, decode_attribute}
use Rattle.netlink_core.specs.Bytes.{IsBytes}
use Rattle.netlink_core.specs.Codec.{Codec}
use Rattle.netlink_core.specs.Response.{ResponseSpec, response_codec}
use Rattle.attribute_lists.specs.AttributesIn.{HasNoAttributeError, decoded_in}
use Rattle.attribute_lists.proofs.SecondAttributeSet.{parsed_with_second_set, error_with_second_set}
use Rattle.sock_diag_replies.specs.declared.view.ReplyHeader.{Ghosts}
use Rattle.sock_diag_replies.specs.declared.view.ReplyView.{ReplyView}
use Rattle.sock_diag_replies.specs.ViewModel.{bytes_after_header, view_bytes}
use Rattle.sock_diag_replies.proofs.ErrorTest.{on_no_error, error_is_no_value}

-- the codec of the same replies with attributes of another set
abbrev owned_codec : ResponseSpec → AttributeSet → Codec (Unit {0})
owned_codec R F = response_codec (record R { attribute_set = F })

-- the error of the view is the error of the reply
pub owned_error : {T : Type 0} (R : ResponseSpec) (F : AttributeSet)
    → ((b : List ℕ) (e : DecodeError) → HasAttributeError (decode_attribute R.attribute_set) b e
    → HasAttributeError (decode_attribute F) b e)
    → (b : List ℕ) (error : DecodeError) → (response_codec R).rejects b tt error
    → (result : Result T DecodeError) → IsErrAnd result (λ e. e ≡ error)
    → IfErr result (λ e. e ≢ Memory → (owned_codec R F).rejects b tt e)
owned_error R F same_errors b error refused result is =
    let p = err_from_is_err_and result is in
    rw (p.1, p.2) (λ named. error_with_second_set R F same_errors b error refused)

module _ {H : Type 0} {of : Ghosts H} (F : AttributeSet) (view : ReplyView H of)
    (clean : (b : List ℕ) → HasNoAttributeError (decode_attribute of.reply.attribute_set) b
    → HasNoAttributeError (decode_attribute F) b) (b : List ℕ) (kept : view_bytes view ≡ b)
    (in_range : IsBytes b) where
  -- the header of a view without attributes, and an empty list, are the reply
  pub empty_value : (header : of.reply.header.Value) (nlas : List (AttributeValue F))
      → header ≡ view.head.0 → nlas ≡ []
      → decoded_in (decode_attribute F) (bytes_after_header view) ≡ []
      → (owned_codec of.reply F).parses b tt (record { header = header; nlas = nlas })
  empty_value header nlas same is_empty none =
      rw (same, is_empty) (rw none at (parsed_with_second_set of.reply F clean _ _
      view.head view.clean kept in_range))

module _ {H : Type 0} {of : Ghosts H} (F : AttributeSet) (view : ReplyView H of)
    (clean : (b : List ℕ) → HasNoAttributeError (decode_attribute of.reply.attribute_set) b
    → HasNoAttributeError (decode_attribute F) b) (b : List ℕ) (kept : view_bytes view ≡ b)
    (in_range : IsBytes b)
    {T E : Type 0} (owned : Result T E) (is_error : Bool) where
  -- the header of the view and its owned attributes are the reply
  pub owned_value : is_error ≡ false → is_error ≡ is_err owned
      → (header : of.reply.header.Value) (nlas : List (AttributeValue F)) → header ≡ view.head.0
      → OnOk owned (nlas ≡ decoded_in (decode_attribute F) (bytes_after_header view))
      → (owned_codec of.reply F).parses b tt (record { header = header; nlas = nlas })
  owned_value good test header nlas same owned_values =
      rw (same, on_no_error owned is_error good test owned_values)
      (parsed_with_second_set of.reply F clean _ _
      view.head view.clean kept in_range)

  -- if an allocation fails, the bytes have a reply, which needs to allocate
  pub owned_memory_needed : is_error ≡ true → is_error ≡ is_err owned
      → ((owned_codec of.reply F).needs_no_memory (record {
        header = view.head.0;
        nlas = decoded_in (decode_attribute F) (bytes_after_header view);
      })
      → IsOk owned)
      → (v : (owned_codec of.reply F).Value) × (owned_codec of.reply F).parses b tt v
      × ¬ (owned_codec of.reply F).needs_no_memory v
  owned_memory_needed bad test succeeds_without_memory = (
    _,
    parsed_with_second_set of.reply F clean _ _ view.head view.clean kept in_range,
    λ no_memory. error_is_no_value owned is_error bad test (succeeds_without_memory no_memory),
  )
