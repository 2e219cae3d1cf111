-- The items of a reply agree with the port.
use Rattle.std.proofs.Common.{◌≡◌, ◌∙◌, ℕ, List, [], ◌∷◌, inl, inr, refl, sym, ap, Bool}
use Rattle.std.proofs.Common.{true, false, Option, Some, None, Result, Ok, Err, IsOk, length, arith}
use Rattle.std.proofs.lemmas.Bool.{le-ltb}
use Rattle.std.specs.Prelude.{map}
use Rattle.std.specs.Result.{result_err}
use Rattle.netlink_core.specs.Attribute.{Attribute}
use Rattle.netlink_core.specs.AttributeSet.{AttributeSet, AttributeValue, decode_attribute}
use Rattle.netlink_core.specs.Bytes.{IsBytes}
use Rattle.netlink_core.specs.Errors.{map_ok}
use Rattle.netlink_core.specs.Layout.{parse_record}
use Rattle.netlink_core.specs.declared.error.DecodeError.{DecodeError}
use Rattle.netlink_core.proofs.LayoutLaws.{parsed_by_fields}
use Rattle.sock_diag_values.specs.MemInfo.{mem_info}
use Rattle.sock_diag_values.specs.UnixMemInfo.{unix_mem_info}
use Rattle.sock_diag_values.specs.declared.unix.mem_info.MemInfo.{MemInfo as UnixMemInfo}
use Rattle.sock_diag_attributes.specs.InetAttributes.{inet_attribute_set}
use Rattle.sock_diag_attributes.specs.UnixAttributes.{unix_attribute_set}
use Rattle.sock_diag_any.specs.AnyNla.{AnyValue, inet_list_rows, inet_record_rows, memory}
use Rattle.sock_diag_any.specs.AnyNla.{read_any, read_by, read_port_inet, read_port_unix}
use Rattle.sock_diag_any.specs.AnyNla.{unix_rows}
use Rattle.sock_diag_any.specs.AnyAgreement.{AgreesWithPort, first_port_error, has_kind}
use Rattle.sock_diag_any.specs.AnyAgreement.{port_error}
use Rattle.sock_diag_any.specs.AnyItems.{Item, item_by, items_in}
use Rattle.sock_diag_any.specs.Pieces.{AttributeOrError}
use Rattle.sock_diag_any.specs.declared.nla.InfoFormat.TheVariants.{Unknown}
use Rattle.sock_diag_any.specs.declared.nla.Sockets.{Sockets}
use Rattle.sock_diag_any.specs.declared.nla.Sockets.TheVariants.{Inet, Unix}
use Rattle.sock_diag_any.proofs.FirstErrors.{EndsWith, error_is_first_error, first_and_others}
use Rattle.sock_diag_any.proofs.FirstErrors.{first_error, first_error_is_error}
use Rattle.sock_diag_any.proofs.FirstErrors.{no_error_of_decoded, split_of_bytes}
use Rattle.sock_diag_any.proofs.FirstErrors.{values_without_error}
use Rattle.sock_diag_any.proofs.PieceWalk.{error_is_alone, first_attribute_and_rest}
use Rattle.sock_diag_any.proofs.PieceWalk.{no_attributes_of_no_bytes}
use Rattle.sock_diag_any.proofs.PortKinds.{decoded_is_parsed, read_of_kind}
use Rattle.sock_diag_any.proofs.PortKinds.{rejected_is_of_kind}

module _ (F : AttributeSet) (s : Sockets)
    (errors : (a : Attribute) (e : DecodeError) → decode_attribute F a ≡ Err e
    → (has_kind F a ≡ true) × (read_any s a ≡ Err e))
    (values : (a : Attribute) (v : AttributeValue F) → decode_attribute F a ≡ Ok v
    → has_kind F a ≡ true → IsOk (read_any s a)) where
  -- The port's error of the item of an attribute is its error of the attribute.
  error_of_item : (a : Attribute) (decoded : Result (AttributeValue F) DecodeError)
      (read : Result AnyValue DecodeError) (known : Bool)
      → decode_attribute F a ≡ decoded → read_any s a ≡ read → has_kind F a ≡ known
      → port_error F (item_by (read_any s) (Ok a)) ≡ result_err (decode_attribute F a)
  error_of_item a (Err e) read known h r k =
      let found = errors a e h in rw (found.1, h, found.0) refl
  error_of_item a (Ok v) (Ok value) known h r k = rw (r, h) refl
  error_of_item a (Ok v) (Err e) false h r k = rw (r, h, k) refl
  error_of_item a (Ok v) (Err e) true h r k =
      let good = values a v h k in absurd (cc (good, r))

  -- The first errors of more items agree, if those of the later ones do.
  first_errors_of_more : (a : Attribute) (others : List Attribute) (end : Option DecodeError)
      (items : List Item)
      → first_port_error F items ≡ first_error F others end
      → (decoded : Result (AttributeValue F) DecodeError) → decode_attribute F a ≡ decoded
      → first_port_error F (item_by (read_any s) (Ok a) ∷ items)
      ≡ first_error F (a ∷ others) end
  first_errors_of_more a others end items same (Ok v) h =
      rw (error_of_item a (Ok v) (read_any s a) (has_kind F a) h refl refl, h) same
  first_errors_of_more a others end items same (Err e) h =
      rw (error_of_item a (Err e) (read_any s a) (has_kind F a) h refl refl, h) refl

  -- The first error of the port among the items of bytes is the first error of their attributes.
  first_errors_agree : (bytes : List ℕ) (attributes : List Attribute) (end : Option DecodeError)
      → EndsWith bytes attributes end
      → first_port_error F (items_in s bytes) ≡ first_error F attributes end
  first_errors_agree bytes [] None ends = rw (ends, no_attributes_of_no_bytes) refl
  first_errors_agree bytes [] (Some e) (rest, same, some, error) =
      rw (same, error_is_alone rest e some error) refl
  first_errors_agree bytes (a ∷ others) end ends =
      let first = first_and_others bytes a others end ends in
      let later = first_errors_agree first.0 others end first.2 in
      ap (λ (pieces : List AttributeOrError).
      first_port_error F (map (item_by (read_any s)) pieces))
      (first_attribute_and_rest bytes first.0 a first.1)
      ∙ first_errors_of_more a others end (items_in s first.0) later (decode_attribute F a) refl

  -- The attributes in bytes, their end, and the first error, which is that of the items.
  first_error_of_bytes : (bytes : List ℕ) → IsBytes bytes
      → (attributes : List Attribute) × (end : Option DecodeError) × EndsWith bytes attributes end
      × (first_port_error F (items_in s bytes) ≡ first_error F attributes end)
  first_error_of_bytes bytes is_bytes =
      let (attributes, end, ends) = split_of_bytes bytes is_bytes in
      (attributes, end, ends, first_errors_agree bytes attributes end ends)

  pub agrees_with_port : AgreesWithPort F s
  agrees_with_port = record {
    accepted = λ bytes is_bytes.
        let (attributes, end, ends, same) = first_error_of_bytes bytes is_bytes in (
          λ (values, decoded). same ∙ no_error_of_decoded F bytes attributes end
              (first_error F attributes end) values ends refl decoded,
          λ none. values_without_error F bytes attributes end ends (sym same ∙ none),
        );
    rejected = λ bytes e is_bytes.
        let (attributes, end, ends, same) = first_error_of_bytes bytes is_bytes in (
          λ error. same ∙ error_is_first_error F bytes attributes end
              (first_error F attributes end) e ends refl error,
          λ is. first_error_is_error F bytes attributes end e ends (sym same ∙ is),
        );
  }

-- ---- the port's families

-- The reader of UNIX sockets reads an attribute of a kind of the port as the port does.
pub unix_read_of_kind : (a : Attribute) → has_kind unix_attribute_set a ≡ true
    → read_any Unix a ≡ read_port_unix a
unix_read_of_kind a known = read_of_kind unix_attribute_set unix_rows read_port_unix a refl known

-- So does that of IPv4 and IPv6 sockets, if the protocol is not known.
pub inet_read_of_kind : (a : Attribute) → has_kind inet_attribute_set a ≡ true
    → read_any (Inet Unknown) a ≡ read_port_inet a
inet_read_of_kind a known =
    read_of_kind inet_attribute_set inet_record_rows (read_by inet_list_rows read_port_inet) a refl
    known
    ∙ read_of_kind inet_attribute_set inet_list_rows read_port_inet a refl known

-- An error of the port is an error of the reader.
pub unix_errors : (a : Attribute) (e : DecodeError) → decode_attribute unix_attribute_set a ≡ Err e
    → (has_kind unix_attribute_set a ≡ true) × (read_any Unix a ≡ Err e)
unix_errors a e h =
    let known = rejected_is_of_kind unix_attribute_set a e h in
    (known, unix_read_of_kind a known ∙ rw h refl)

pub inet_errors : (a : Attribute) (e : DecodeError) → decode_attribute inet_attribute_set a ≡ Err e
    → (has_kind inet_attribute_set a ≡ true) × (read_any (Inet Unknown) a ≡ Err e)
inet_errors a e h =
    let known = rejected_is_of_kind inet_attribute_set a e h in
    (known, inet_read_of_kind a known ∙ rw h refl)

-- A value of the port is no error of the reader.
pub inet_values : (a : Attribute) (v : AttributeValue inet_attribute_set)
    → decode_attribute inet_attribute_set a ≡ Ok v → has_kind inet_attribute_set a ≡ true
    → IsOk (read_any (Inet Unknown) a)
inet_values a v h known = rw (inet_read_of_kind a known, h) refl

-- The memory of a UNIX socket that the port parses has the words of any memory.
unix_memory : (bytes : List ℕ) (m : UnixMemInfo) → parse_record unix_mem_info tt bytes ≡ Ok m
    → IsOk (map_ok memory (parse_record mem_info tt bytes))
unix_memory bytes m h =
    let long = (parsed_by_fields unix_mem_info tt bytes m h).long in
    rw (le-ltb (length bytes) 28 (omega (arith, long))) refl

pub unix_values : (a : Attribute) (v : AttributeValue unix_attribute_set)
    → decode_attribute unix_attribute_set a ≡ Ok v → has_kind unix_attribute_set a ≡ true
    → IsOk (read_any Unix a)
unix_values a (inl v) h known = rw (unix_read_of_kind a known, h) refl
unix_values a (inr (inl v)) h known = rw (unix_read_of_kind a known, h) refl
unix_values a (inr (inr (inl v))) h known = rw (unix_read_of_kind a known, h) refl
unix_values a (inr (inr (inr (inl v)))) h known = rw (unix_read_of_kind a known, h) refl
unix_values a (inr (inr (inr (inr (inl v))))) h known = rw (unix_read_of_kind a known, h) refl
unix_values a (inr (inr (inr (inr (inr (inl m)))))) h known =
    rw (unix_read_of_kind a known, h) (unix_memory a.value m (decoded_is_parsed unix_attribute_set
    a (inr (inr (inr (inr (inr (inl m)))))) h))
unix_values a (inr (inr (inr (inr (inr (inr (inl v))))))) h known =
    rw (unix_read_of_kind a known, h) refl
unix_values a (inr (inr (inr (inr (inr (inr (inr v))))))) h known =
    rw (unix_read_of_kind a known, h) refl
