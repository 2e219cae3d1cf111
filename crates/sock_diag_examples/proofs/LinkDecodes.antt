-- The attributes of a message about an interface, decoded in order.
use Rattle.std.proofs.Common.{◌≡◌, ◌≢◌, ◌==◌, ℕ, List, [], ◌∷◌, ◌++◌, Bool, true, false, length}
use Rattle.std.proofs.Common.{Option, Some, None, Result, Ok, Err, if◌then◌else◌, refl, subst, ap}
use Rattle.std.proofs.Common.{◌∙◌}
use Rattle.std.specs.Prelude.{IsOk}
use Rattle.std.specs.List.{filter_map, last_or}
use Rattle.std.proofs.lemmas.Bool.{ne_eqb}
use Rattle.netlink_core.specs.declared.error.DecodeError.{DecodeError}
use Rattle.netlink_core.specs.declared.error.DecodeError.TheVariants.{Memory, WrongLength}
use Rattle.netlink_core.specs.Attribute.{Attribute, IsFramingError, StartsWithAttribute}
use Rattle.netlink_core.specs.Attribute.{attribute_kind}
use Rattle.netlink_core.specs.Parse.{number_of_width, parse_text}
use Rattle.netlink_core.proofs.Iterating.{StartsWithAttribute-nonempty, error_after_attribute}
use Rattle.netlink_core.proofs.Iterating.{attribute_prefix_of_start}
use Rattle.sock_diag_examples.proofs.Pushing.{nothing_is_appended, value_is_appended}
use Rattle.sock_diag_examples.specs.Link.{HasName, IsNamePrefix, LinkAttribute, name_attribute}
use Rattle.sock_diag_examples.specs.Link.{mtu_attribute, other_attribute}
use Rattle.sock_diag_examples.specs.Link.{decodes_link}

-- ---- the last of a list

last_pushed : {A : Type 0} (o : Option A) (xs : List A) (y : A) → last_or o (xs ++ y ∷ []) ≡ Some y
last_pushed o [] y = refl
last_pushed o (x ∷ xs) y = last_pushed (Some x) xs y

-- the last value counts
pub last_found : {A B : Type 0} (found : A → Option B) (xs : List A) (x : A) (y : B)
    → found x ≡ Some y
    → last_or None (filter_map found (xs ++ x ∷ [])) ≡ Some y
last_found found xs x y e = ap (last_or None) (value_is_appended found xs x y e)
    ∙ last_pushed None (filter_map found xs) y

-- an element without a value leaves the last value unchanged
pub none_found : {A B : Type 0} (found : A → Option B) (xs : List A) (x : A) → found x ≡ None
    → last_or None (filter_map found (xs ++ x ∷ [])) ≡ last_or None (filter_map found xs)
none_found found xs x e = ap (last_or None) (nothing_is_appended found xs x e)

-- ---- an attribute

pub decodes_name : (a : Attribute) (name : List ℕ) → attribute_kind a ≡ 3
    → parse_text a.value ≡ Ok name
    → decodes_link a ≡ Ok (name_attribute name)
decodes_name a name kind text = rw (kind, text) refl

pub rejects_name : (a : Attribute) (e : DecodeError) → attribute_kind a ≡ 3
    → parse_text a.value ≡ Err e
    → decodes_link a ≡ Err e
rejects_name a e kind text = rw (kind, text) refl

pub decodes_mtu : (a : Attribute) (mtu : ℕ) → attribute_kind a ≡ 4
    → number_of_width None 4 a.value ≡ Ok mtu
    → decodes_link a ≡ Ok (mtu_attribute mtu)
decodes_mtu a mtu kind number = rw (kind, number) refl

pub rejects_mtu : (a : Attribute) (e : DecodeError) → attribute_kind a ≡ 4
    → number_of_width None 4 a.value
    ≡ Err e → decodes_link a ≡ Err e
rejects_mtu a e kind number = rw (kind, number) refl

pub decodes_other : (a : Attribute) → attribute_kind a ≢ 3 → attribute_kind a ≢ 4
    → decodes_link a ≡ Ok other_attribute
decodes_other a not_name not_mtu = rw (
  ne_eqb (attribute_kind a) 3 not_name,
  ne_eqb
      (attribute_kind a) 4 not_mtu,
)
    refl

-- ---- allocation failures

-- a name after an attribute that decodes
pub later_name : (bytes rest : List ℕ) (a : Attribute) (t : LinkAttribute)
    → StartsWithAttribute bytes a rest
    → decodes_link a ≡ Ok t → HasName rest → HasName bytes
later_name bytes rest a t s tells w = (
  a ∷ w.0,
  error_after_attribute (λ left _. IsNamePrefix left) bytes rest a w.0 Memory s w.1,
  (rw tells refl, w.2),
)

ok_result_has_name : {E : Type 0} (r : Result (List ℕ) E) → IsOk r → (name : List ℕ) × (r ≡ Ok name)
ok_result_has_name (Ok name) ok = (name, refl)
ok_result_has_name (Err e) ok = absurd cc

-- a name at the start
pub name_here : (rest after : List ℕ) (a : Attribute) → StartsWithAttribute rest a after
    → attribute_kind a ≡ 3
    → IsOk (parse_text a.value) → HasName rest
name_here rest after a s kind ok =
    let name = ok_result_has_name (parse_text a.value) ok in (
      [],
      (
        rest,
        refl,
        StartsWithAttribute-nonempty rest after a s,
        (a, attribute_prefix_of_start rest after a s, name.0, decodes_name a name.0 kind name.1),
      ),
      tt,
    )

-- neither a framing error nor the error of a number is `Memory`
pub framing_error_is_not_memory : (rest : List ℕ) (e : DecodeError) → IsFramingError rest e
    → e ≢ Memory
framing_error_is_not_memory rest e error memory = subst (IsFramingError rest) memory error

chosen_error : (is : Bool) (n : ℕ) (e f : DecodeError) → (if is then Ok n else Err f) ≡ Err e
    → e ≡ f
chosen_error true n e f h = absurd cc
chosen_error false n e f h = cc

pub number_error_is_not_memory : (bytes : List ℕ) (e : DecodeError)
    → number_of_width None 4 bytes ≡ Err e
    → e ≢ Memory
number_error_is_not_memory bytes e h memory =
    let same = chosen_error (length bytes == 4) _ e (WrongLength None (length bytes) 4) h in cc
