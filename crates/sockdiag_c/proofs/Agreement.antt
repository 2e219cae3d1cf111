-- Lenient calls agree with strict calls, and strict calls with checks.
use Rattle.std.proofs.Common.{◌≡◌, ◌≢◌, ◌∙◌, ℕ, List, [], ◌∷◌, inl, inr, refl, sym, ap, subst}
use Rattle.std.proofs.Common.{Result, Ok, Err, None, Some, Option, drop, slice_get}
use Rattle.std.specs.List.{AllZip, cons_option, filter_map}
use Rattle.std.specs.Result.{result_err}
use Rattle.std.specs.Option.{option_or}
use Rattle.netlink_core.specs.Attribute.{Attribute, HasAttributeError, IsFramingError}
use Rattle.netlink_core.specs.Attribute.{SplitsIntoAttributes, StartsWithAttribute}
use Rattle.netlink_core.specs.AttributeSet.{decode_attribute}
use Rattle.netlink_core.specs.Errors.{map_ok}
use Rattle.netlink_core.specs.Response.{ResponseSpec, response_codec}
use Rattle.netlink_core.specs.declared.error.DecodeError.{DecodeError}
use Rattle.netlink_core.proofs.Iterating.{StartsWithAttribute-nonempty, attribute_prefix_of_start}
use Rattle.netlink_core.proofs.Iterating.{error_of_first_attribute, error_of_rest}
use Rattle.sock_diag_replies.specs.UnixGetters.{first_content_of}
use Rattle.sockdiag_c.specs.Family.{AgreesWithCodec, ArePartsOf, CallsAgree, HasHeaderAndValuesOf}
use Rattle.sockdiag_c.specs.Family.{AreDetailsOf}
use Rattle.sockdiag_c.specs.Family.{SplitsWithError, Family, IsCodeOf, IsFirstError, ReplyParts}
use Rattle.sockdiag_c.specs.Family.{first_error}
use Rattle.sockdiag_c.specs.Family.{optional_code, value_error}
use Rattle.sockdiag_c.specs.declared.lenient.Rejections.{Rejections}
use Rattle.sockdiag_c.proofs.Rows.{code_is_not_zero, first_attribute}

some_injective : {A : Type 0} {x y : A} → Some x ≡ Some y → x ≡ y
some_injective is = cc

module _ {D : Type 0} (family : Family D) where
  agrees_by_error : (payload : List ℕ) (d : D) (r : Rejections) (parts : ReplyParts family.Header)
      (o : Option DecodeError)
      → ArePartsOf family payload parts → HasHeaderAndValuesOf family d parts
      → first_error family parts ≡ o → r.first ≡ optional_code o
      → (r.first ≡ 0 → AreDetailsOf family payload d)
      × (r.first ≢ 0 → IsCodeOf (IsFirstError family payload) r.first)
  agrees_by_error payload d r parts None are describes is code =
      (λ zero. (parts, are, is, describes), λ some. absurd (some code))
  agrees_by_error payload d r parts (Some e) are describes is code = (
    λ zero. absurd (code_is_not_zero e (sym code ∙ zero)),
    λ some. (e, inr (parts, are, is), code),
  )

  pub calls_agree : CallsAgree family
  calls_agree payload d r (parts, are, describes, rejections) =
      agrees_by_error payload d r parts (first_error family parts) are describes refl rejections.0

-- ---- what the rows reject, if they reject what `decode` does

some_and_none_apart : {A : Type 0} (o : Option A) (x : A) → o ≡ Some x → o ≡ None → ⊥
some_and_none_apart o x some none = cc (some, none)

module _ {V : Type 0} (decode : Attribute → Result V DecodeError)
    (error_of : Attribute → Option DecodeError)
    (same : (a : Attribute) → error_of a ≡ result_err (decode a)) where
  first_of_more : (a : Attribute) (others : List Attribute) (r : Result V DecodeError)
      → decode a ≡ r
      → first_content_of error_of (a ∷ others)
      ≡ option_or (result_err r) (first_content_of error_of others)
  first_of_more a others (Ok v) is =
      ap (λ (o : Option DecodeError). slice_get (cons_option o (filter_map error_of others)) 0)
      (same a ∙ ap result_err is)
  first_of_more a others (Err e) is =
      ap (λ (o : Option DecodeError). slice_get (cons_option o (filter_map error_of others)) 0)
      (same a ∙ ap result_err is)

  decoded_more : (a : Attribute) (others : List Attribute) (r : Result V DecodeError)
      → (first_content_of error_of others ≡ None
      → (values : List V) × AllZip (λ a v. decode a ≡ Ok v) others values)
      → decode a ≡ r → first_content_of error_of (a ∷ others) ≡ None
      → (values : List V) × AllZip (λ a v. decode a ≡ Ok v) (a ∷ others) values
  decoded_more a others (Ok v) more is none =
      let later = more (sym (first_of_more a others (Ok v) is) ∙ none) in
      (v ∷ later.0, (is, later.1))
  decoded_more a others (Err e) more is none =
      absurd (some_and_none_apart _ e (first_of_more a others (Err e) is) none)

  -- attributes without an error decode
  pub decoded : (attributes : List Attribute) → first_content_of error_of attributes ≡ None
      → (values : List V) × AllZip (λ a v. decode a ≡ Ok v) attributes values
  decoded [] none = ([], tt)
  decoded (a ∷ others) none = decoded_more a others (decode a) (decoded others) refl none

  error_of_more : (bytes left : List ℕ) (a : Attribute) (others : List Attribute)
      (end : Option DecodeError) (e : DecodeError) (r : Result V DecodeError)
      → StartsWithAttribute bytes a left
      → (option_or (first_content_of error_of others) end ≡ Some e
      → HasAttributeError decode left e)
      → decode a ≡ r → option_or (first_content_of error_of (a ∷ others)) end ≡ Some e
      → HasAttributeError decode bytes e
  error_of_more bytes left a others end e (Ok v) start more of is =
      error_of_rest decode bytes left a v e start of
      (more (sym (ap (λ (o : Option DecodeError). option_or o end)
      (first_of_more a others (Ok v) of)) ∙ is))
  error_of_more bytes left a others end e (Err f) start more of is =
      error_of_first_attribute decode bytes e (StartsWithAttribute-nonempty bytes left a start)
      (inr (
        a,
        attribute_prefix_of_start bytes left a start,
        of ∙ ap Err (some_injective
            (sym (ap (λ (o : Option DecodeError). option_or o end)
            (first_of_more a others (Err f) of)) ∙ is)),
      ))

  -- the first error is the error of the bytes
  pub error_of_bytes : (bytes : List ℕ) (attributes : List Attribute) (end : Option DecodeError)
      (e : DecodeError)
      → SplitsWithError attributes end bytes
      → option_or (first_content_of error_of attributes) end ≡ Some e
      → HasAttributeError decode bytes e
  error_of_bytes bytes [] None e ends is = absurd cc
  error_of_bytes bytes [] (Some f) e (rest, split, some, error) is = (
    [],
    (
      rest,
      split,
      some,
      inl (subst (λ (g : DecodeError). IsFramingError rest g)
          (some_injective is) error),
    ),
    tt,
  )
  error_of_bytes bytes (a ∷ others) end e ends is =
      let first = first_attribute bytes a others end ends in
      error_of_more bytes first.0 a others end e (decode a) first.1
      (error_of_bytes first.0 others end e first.2) refl is

value_of_mapped : {A B : Type 0} (f : A → B) (r : Result A DecodeError) (y : B)
    → map_ok f r ≡ Ok y → (x : A) × (r ≡ Ok x)
value_of_mapped f (Ok x) y is = (x, refl)
value_of_mapped f (Err e) y is = absurd cc

error_of_mapped : {A B : Type 0} (f : A → B) (r : Result A DecodeError) (e : DecodeError)
    → map_ok f r ≡ Err e → r ≡ Err e
error_of_mapped f (Ok x) e is = absurd cc
error_of_mapped f (Err g) e is = cc

both_none : {A : Type 0} (o p : Option A) → option_or o p ≡ None → (o ≡ None) × (p ≡ None)
both_none None p none = (refl, none)
both_none (Some x) p none = absurd cc

module _ {D : Type 0} (family : Family D) (R : ResponseSpec)
    (convert : List ℕ → R.header.Value → family.Header)
    (header : (payload : List ℕ) → family.parse_header payload
    ≡ map_ok (convert payload) (R.header.parses tt payload))
    (size : family.header_size ≡ R.size)
    (same : (a : Attribute) → value_error family a
    ≡ result_err (decode_attribute R.attribute_set a)) where
  pub agrees_with_codec : AgreesWithCodec family R
  agrees_with_codec = (
    λ payload d found.
        let parts = found.0 in
        let h = value_of_mapped (convert payload) (R.header.parses tt payload) parts.header
        (sym (header payload) ∙ found.1.0) in
        let none = both_none _ _ found.2 in
        let more = decoded (decode_attribute R.attribute_set) (value_error family) same
        parts.attributes none.0 in (
          record { header = h.0; nlas = more.0 },
          (
            h.1,
            (
              parts.attributes,
              subst (λ (n : ℕ). SplitsIntoAttributes (drop n payload) parts.attributes []) size
                  (subst (λ (o : Option DecodeError). SplitsWithError parts.attributes o
                  (drop family.header_size payload)) none.1 found.1.1),
              more.1,
            ),
          ),
        ),
    λ payload e error. rejects payload e error,
  )
    where
      rejects : (payload : List ℕ) (e : DecodeError) → IsFirstError family payload e
          → (response_codec R).rejects payload tt e
      rejects payload e (inl error) =
          inl (error_of_mapped (convert payload) (R.header.parses tt payload) e
          (sym (header payload) ∙ error))
      rejects payload e (inr (parts, (head, ends), is)) =
          let h = value_of_mapped (convert payload) (R.header.parses tt payload) parts.header
          (sym (header payload) ∙ head) in
          inr (
            h.0,
            h.1,
            subst (λ (n : ℕ). HasAttributeError (decode_attribute R.attribute_set)
                (drop n payload) e) size
                (error_of_bytes (decode_attribute R.attribute_set) (value_error family) same
                (drop family.header_size payload) parts.attributes parts.framing_error e ends is),
          )
