-- The first value of a kind among the attributes that bytes are split into.
use Rattle.std.proofs.lemmas.Grind.{common_steps}
use Rattle.std.proofs.Common.{◌≡◌, ◌≢◌, ◌∙◌, ℕ, List, [], ◌∷◌, refl, sym, ap, subst, unwrap_or}
use Rattle.std.proofs.Common.{Option, None, Some, rules}
use Rattle.std.proofs.Common.{◌+◌, ◌++◌, length, take, replicate, min, arith}
use Rattle.std.proofs.lemmas.Bool.{cases_lt, ne_eqb}
use Rattle.std.proofs.lemmas.List.{take_all}
use Rattle.netlink_core.specs.Attribute.{Attribute, IsFramingError, StartsWithAttribute}
use Rattle.netlink_core.specs.Attribute.{attribute_kind}
use Rattle.netlink_core.specs.declared.error.DecodeError.{DecodeError}
use Rattle.netlink_core.specs.laws.Prefix.{prefix_or_error_apart}
use Rattle.netlink_core.proofs.Splitting.{one_first_attribute}
use Rattle.netlink_core.proofs.Iterating.{StartsWithAttribute-nonempty, attribute_prefix_of_start}
use Rattle.sock_diag_replies.specs.UnixGetters.{first_content_of}
use Rattle.sockdiag_c.specs.Answers.{padded_or_truncated}
use Rattle.sockdiag_c.specs.TcpInfo.{AreAttributesIn, first_bytes_of_kind}
use Rattle.sockdiag_c.specs.TcpInfo.{bytes_of_kind}
use Rattle.sockdiag_c.proofs.Rows.{first_attribute}

-- the value, truncated to n bytes or followed by zeros
pub padded_or_truncated_is : (n : ℕ) (value : List ℕ) (found left : ℕ)
    → found ≡ min (length value) n
    → left + found ≡ n → take found value ++ replicate left 0 ≡ padded_or_truncated n value
padded_or_truncated_is n value found left is all =
    grind (arith, cases_lt n (length value), take_all found value, take_all n value)

-- ---- the attributes in bytes

-- the first attribute is at the start of the bytes, and the others follow it
first_attribute_is_at_start : (bytes : List ℕ) (a : Attribute) (more : List Attribute)
    → AreAttributesIn bytes (a ∷ more)
    → (rest : List ℕ) × StartsWithAttribute bytes a rest × AreAttributesIn rest more
first_attribute_is_at_start bytes a more (end, ends) =
    let first = first_attribute bytes a more end ends in
    (first.0, first.1, (end, first.2))

-- an attribute at the start of the bytes is the first of them
attribute_at_start_is_first : (bytes rest : List ℕ) (a : Attribute)
    → StartsWithAttribute bytes a rest
    → (attributes : List Attribute) → AreAttributesIn bytes attributes
    → (more : List Attribute) × (attributes ≡ a ∷ more) × AreAttributesIn rest more
attribute_at_start_is_first bytes rest a start [] (None, none) =
    absurd (StartsWithAttribute-nonempty bytes rest a start none)
attribute_at_start_is_first bytes rest a start [] (Some e, off) =
    grind (
      arith,
      prefix_or_error_apart bytes a e (attribute_prefix_of_start bytes rest a start),
      attribute_prefix_of_start bytes rest a start,
    )
attribute_at_start_is_first bytes rest a start (b ∷ more) stand =
    let first = first_attribute_is_at_start bytes b more stand in
    let same = one_first_attribute bytes first.0 rest b a first.1 start in
    (more, λ i. same.0 i ∷ more, subst (λ (t : List ℕ). AreAttributesIn t more) same.1 first.2)

-- ---- the iteration

-- the first value of type k is in the attributes that are left
pub record FoundAfter (k : ℕ) (bytes rest : List ℕ) : Type 0 where
  pub behind : (attributes : List Attribute) → AreAttributesIn bytes attributes
      → (later : List Attribute)
      × AreAttributesIn rest later × (first_content_of (bytes_of_kind k) attributes
      ≡ first_content_of (bytes_of_kind k) later)

skipped : (k : ℕ) (a : Attribute) (more : List Attribute) → attribute_kind a ≢ k
    → first_content_of (bytes_of_kind k) (a ∷ more) ≡ first_content_of (bytes_of_kind k) more
skipped k a more other = rw (ne_eqb (attribute_kind a) k other) refl

-- an attribute of another type is skipped
pub found_after_skipped : (k : ℕ) (bytes rest after : List ℕ) (a : Attribute)
    → StartsWithAttribute rest a after
    → FoundAfter k bytes rest → attribute_kind a ≢ k → FoundAfter k bytes after
found_after_skipped k bytes rest after a start found other = record {
  behind = λ attributes stand.
      let f = found.behind attributes stand in
      let first = attribute_at_start_is_first rest after a start f.0 f.1 in (
        first.0,
        first.2,
        f.2 ∙ ap (first_content_of (bytes_of_kind k)) first.1 ∙ skipped k a first.0 other,
      );
}

-- the first attribute has the type, and its value is found
first_value_is : (k : ℕ) (a : Attribute) (more : List Attribute) → attribute_kind a ≡ k
    → a.value ≡ first_bytes_of_kind k (a ∷ more)
first_value_is k a more is = rw is (search rules)

pub found_here : (k : ℕ) (bytes rest after : List ℕ) (a : Attribute)
    → StartsWithAttribute rest a after
    → FoundAfter k bytes rest → attribute_kind a ≡ k
    → (attributes : List Attribute) → AreAttributesIn bytes attributes
    → a.value ≡ first_bytes_of_kind k attributes
found_here k bytes rest after a start found is attributes stand =
    let f = found.behind attributes stand in
    let first = attribute_at_start_is_first rest after a start f.0 f.1 in
    first_value_is k a first.0 is ∙ ap (first_bytes_of_kind k) (sym first.1)
    ∙ ap (λ (o : Option (List ℕ)). unwrap_or o []) (sym f.2)

-- if no attribute is left, no value is found
no_value_is_found : (k : ℕ) (bytes rest : List ℕ) → FoundAfter k bytes rest
    → ((a : Attribute) (after : List ℕ) → StartsWithAttribute rest a after → ⊥)
    → (attributes : List Attribute) → AreAttributesIn bytes attributes
    → [] ≡ first_bytes_of_kind k attributes
no_value_is_found k bytes rest found alone attributes stand =
    let f = found.behind attributes stand in
    none f.0 f.1 ∙ ap (λ (o : Option (List ℕ)). unwrap_or o []) (sym f.2)
  where
    none : (later : List Attribute) → AreAttributesIn rest later → [] ≡ first_bytes_of_kind k later
    none [] left = refl
    none (a ∷ more) left =
        let first = first_attribute_is_at_start rest a more left in
        absurd (alone a first.0 first.1)

pub found_nowhere : (k : ℕ) (bytes rest : List ℕ) → FoundAfter k bytes rest → rest ≡ []
    → (attributes : List Attribute) → AreAttributesIn bytes attributes
    → [] ≡ first_bytes_of_kind k attributes
found_nowhere k bytes rest found none =
    grind (arith, no_value_is_found k bytes rest found)

pub framing_error_is_found : (k : ℕ) (bytes rest : List ℕ) (e : DecodeError)
    → FoundAfter k bytes rest
    → IsFramingError rest e
    → (attributes : List Attribute) → AreAttributesIn bytes attributes
    → [] ≡ first_bytes_of_kind k attributes
framing_error_is_found k bytes rest e found error =
    grind (arith, common_steps, no_value_is_found, prefix_or_error_apart, attribute_prefix_of_start)
