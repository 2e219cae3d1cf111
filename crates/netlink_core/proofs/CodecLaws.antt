-- What follows from the codec laws, for any codec.
use Rattle.std.proofs.Common.{◌≡◌, ◌↔◌, ◌⊎◌, ℕ, List, inl, inr, refl, sym, ap, ◌∙◌, subst}
use Rattle.std.specs.Prelude.{Result, Ok, Err, IfOk}
use Rattle.netlink_core.specs.Bytes.{IsBytes}
use Rattle.netlink_core.specs.Canonical.{HasCanonicalForm}
use Rattle.netlink_core.specs.Codec.{Codec, KeepsCodecLaws, HasOneResult}
use Rattle.netlink_core.specs.declared.error.DecodeError.{DecodeError}
use Rattle.netlink_core.specs.declared.error.DecodeError.TheVariants.{Memory}

module _ {Param : Type 0} (C : Codec Param) (b : List ℕ) (p : Param) where
  -- a value or an error of bytes is the only one if there is at most one value, at most one error,
  -- not both, and no `Memory`
  pub only_result : ((v w : C.Value) → C.parses b p v → C.parses b p w → v ≡ w)
      → ((v : C.Value) (e : DecodeError) → C.parses b p v → C.rejects b p e → ⊥)
      → ((e f : DecodeError) → C.rejects b p e → C.rejects b p f → e ≡ f)
      → (C.rejects b p Memory → ⊥)
      → ((v : C.Value) × C.parses b p v) ⊎ ((e : DecodeError) × C.rejects b p e)
      → HasOneResult C b p
  only_result one_value exclusive one_error not_memory (inl (v, parsed)) =
      inl (v, (parsed, λ w also. one_value w v also parsed), λ e. exclusive v e parsed)
  only_result one_value exclusive one_error not_memory (inr (e, rejected)) =
      inr (
        e,
        (rejected, λ f also. one_error f e also rejected),
        λ is_memory. not_memory (subst (λ (f : DecodeError). C.rejects b p f) is_memory rejected),
        λ v parsed. exclusive v e parsed rejected,
      )

  -- of one result: the values are equal
  pub equal_values : HasOneResult C b p → (v w : C.Value) → C.parses b p v → C.parses b p w → v ≡ w
  equal_values (inl (u, (parsed, only), none)) v w v_parsed w_parsed =
      only v v_parsed ∙ sym (only w w_parsed)
  equal_values (inr (e, only, named, none)) v w v_parsed w_parsed = absurd (none v v_parsed)

  -- of one result: the errors are equal
  pub equal_errors : HasOneResult C b p → (e f : DecodeError) → C.rejects b p e → C.rejects b p f
      → e ≡ f
  equal_errors (inl (v, only, none)) e f e_rejects f_rejects = absurd (none e e_rejects)
  equal_errors (inr (d, (rejected, only), named, none)) e f e_rejects f_rejects =
      only e e_rejects ∙ sym (only f f_rejects)

  -- of one result: there is no error of a value
  pub value_or_error : HasOneResult C b p → (v : C.Value) (e : DecodeError) → C.parses b p v
      → C.rejects b p e → ⊥
  value_or_error (inl (v, only, none)) w e parsed rejected = none e rejected
  value_or_error (inr (d, only, named, none)) w e parsed rejected = none w parsed

module _ {Param : Type 0} (C : Codec Param) (laws : KeepsCodecLaws C) where
  -- accepted bytes are equivalent to themselves
  pub reflexive : (b : List ℕ) (p : Param) (v : C.Value) → IsBytes b → C.parses b p v
      → C.equivalent p b b
  reflexive b p v is_bytes parsed =
      (laws.equal_iff_equivalent b b p v v is_bytes is_bytes parsed parsed).0 refl

  -- bytes parse as at most one value
  pub one_value : (b : List ℕ) (p : Param) (v w : C.Value) → IsBytes b → C.parses b p v
      → C.parses b p w → v ≡ w
  one_value b p v w is_bytes parsed_v parsed_w =
      (laws.equal_iff_equivalent b b p v w is_bytes is_bytes parsed_v parsed_w).1
      (reflexive b p v is_bytes parsed_v)

  -- bytes have exactly one value or exactly one error
  pub one_result : (b : List ℕ) (p : Param) → IsBytes b → HasOneResult C b p
  one_result b p is_bytes = only_result C b p (λ v w. one_value b p v w is_bytes)
      (laws.is_exclusive b p) (laws.error_is_unique b p) (laws.error_is_not_memory b p)
      (laws.is_total b p is_bytes)

  -- writable values in normal form are equal if they serialize to equal bytes
  pub equal_by_bytes : (p : Param) (v w : C.Value) → C.is_in_range v → C.is_normal p v
      → C.is_writable v → C.is_in_range w → C.is_normal p w → C.is_writable w
      → C.serialized v ≡ C.serialized w → v ≡ w
  equal_by_bytes p v w v_in_range v_normal v_writable w_in_range w_normal w_writable same =
      one_value (C.serialized w) p v w (laws.serialized_in_range w w_in_range)
      (subst (λ (b : List ℕ). C.parses b p v) same
      (laws.round_trips p v v_in_range v_normal v_writable))
      (laws.round_trips p w w_in_range w_normal w_writable)

  -- writable values round-trip if and only if they are in normal form
  pub round_trips_iff_normal : (p : Param) (v : C.Value) → C.is_in_range v → C.is_writable v
      → (C.parses (C.serialized v) p v ↔ C.is_normal p v)
  round_trips_iff_normal p v in_range writable = (
    λ parsed. (laws.parsed_is_normal (C.serialized v) p v (laws.serialized_in_range v in_range)
        parsed).1,
    λ normal. laws.round_trips p v in_range normal writable,
  )

  -- bytes have the same canonical form if and only if they are equivalent
  pub same_form_iff_equivalent : (b c form other : List ℕ) (p : Param) → IsBytes b → IsBytes c
      → HasCanonicalForm C p b form → HasCanonicalForm C p c other
      → ((form ≡ other) ↔ C.equivalent p b c)
  same_form_iff_equivalent b c form other p b_bytes c_bytes (v, v_parsed, v_writable, is)
      (w, w_parsed, w_writable, also) =
      let equal_iff = laws.equal_iff_equivalent b c p v w b_bytes c_bytes v_parsed w_parsed in
      let (v_in_range, v_normal) = laws.parsed_is_normal b p v b_bytes v_parsed in
      let (w_in_range, w_normal) = laws.parsed_is_normal c p w c_bytes w_parsed in (
        λ same. equal_iff.0 (equal_by_bytes p v w v_in_range v_normal v_writable w_in_range
            w_normal w_writable (sym is ∙ same ∙ also)),
        λ b_like_c. is ∙ ap C.serialized (equal_iff.1 b_like_c) ∙ sym also,
      )

  -- a canonical form is equivalent to the bytes, and is its own canonical form
  pub canonical_form : (b form : List ℕ) (p : Param) → IsBytes b → HasCanonicalForm C p b form
      → IsBytes form × C.equivalent p b form × HasCanonicalForm C p form form
  canonical_form b form p b_bytes (v, parsed, writable, is) =
      let (in_range, normal) = laws.parsed_is_normal b p v b_bytes parsed in
      let form_bytes = subst IsBytes (sym is) (laws.serialized_in_range v in_range) in
      let form_parsed = subst (λ (c : List ℕ). C.parses c p v) (sym is)
      (laws.round_trips p v in_range normal writable) in (
        form_bytes,
        (laws.equal_iff_equivalent b form p v v b_bytes form_bytes parsed form_parsed).0 refl,
        (v, form_parsed, writable, is),
      )

  -- if a canonical form is returned, other bytes with a canonical form have the same one if and
  -- only if they are equivalent
  pub returned_form_is_shared : {W E : Type 0} (items : W → List ℕ) (returned : Result W E)
      (b : List ℕ) (p : Param) → IsBytes b
      → IfOk returned (λ form. HasCanonicalForm C p b (items form))
      → IfOk returned (λ form. (c other : List ℕ) → IsBytes c → HasCanonicalForm C p c other
      → ((other ≡ items form) ↔ C.equivalent p b c))
  returned_form_is_shared items (Ok form) b p b_bytes has = λ c other c_bytes other_has.
      let same = same_form_iff_equivalent b c (items form) other p b_bytes c_bytes has other_has in
      (λ equal. same.0 (sym equal), λ equivalent. sym (same.1 equivalent))
  returned_form_is_shared items (Err e) b p b_bytes has = tt
