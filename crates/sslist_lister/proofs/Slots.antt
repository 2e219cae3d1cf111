-- Collected attributes.
use Rattle.std.proofs.Common.{◌≡◌, ℕ, List, [], ◌∷◌, ◌++◌, ◌∙◌, ◌<◌, map, flat_map, length, refl}
use Rattle.std.proofs.Common.{Bool, Err, None, Ok, Option, Result, Some, codes, slice_index_or, sym}
use Rattle.std.specs.List.{range_with_len}
use Rattle.std.specs.Option.{option_map_or, option_or}
use Rattle.std.specs.Result.{result_map_both}
use Rattle.std.proofs.lemmas.List.{append-nil, get_or-map, length-map}
use Rattle.std.proofs.lemmas.List.Folds.{flat_map-map}
use Rattle.std.proofs.lemmas.List.FromFn.{fill_by_all}
use Rattle.json.specs.Json.{Json}
use Rattle.json.specs.Tree.{json_tokens}
use Rattle.netlink_core.specs.Attribute.{Attribute, attribute_kind}
use Rattle.netlink_core.specs.declared.error.DecodeError.{DecodeError}
use Rattle.sslist_lister.specs.Collected.{first_valid, other_in_item, slot_value}
use Rattle.sslist_lister.specs.Collected.{Summary, summary_of}
use Rattle.sock_diag_any.specs.AnyItems.{Item, item_by, items_in}
use Rattle.sock_diag_any.specs.AnyNla.{AnyValue, read_any}
use Rattle.sock_diag_any.specs.Pieces.{AttributeOrError, framing_error_of, pieces_in}
use Rattle.sock_diag_any.specs.declared.nla.AnyNla.{AnyNla}
use Rattle.sock_diag_any.specs.declared.nla.Sockets.{Sockets}
use Rattle.sslist_lister.specs.JsonAttributes.{attributes_members, other_item, valid_members}
use Rattle.sslist_lister.specs.JsonAttributes.{attribute_members, item_members}
use Rattle.sslist_texts.proofs.Adding.{appended_texts_concatenate}
use Rattle.sslist_texts.proofs.JsonWriting.{items_of_map, json_rules, tokens_of_each}
use Rattle.sslist_texts.specs.JsonData.{JsonMember, array_member, digits_member, number_members}
use Rattle.sslist_texts.specs.JsonData.{text_member}
use Rattle.sslist_lister.specs.Details.{error_reason}
use Rattle.sslist_texts.specs.JsonWriting.{items_tokens, members_tokens}

-- The elements that are each the first valid attribute are all of them.
slots_are_first : (slots : List (Option (ℕ × AnyNla))) (f : ℕ → Option (ℕ × AnyValue))
    → length slots ≡ 23
    → ((k : ℕ) → k < 23 → slot_value (slice_index_or slots k None) ≡ f k)
    → map slot_value slots ≡ map f (range_with_len 0 23)
slots_are_first slots f long each =
    fill_by_all f (map slot_value slots) 23 None (length-map slots slot_value ∙ long)
    (λ k below. get_or-map slot_value slots k None None (rw long below) ∙ each k below)

no_other : {X : Type 0} (o : Option X) → option_or o None ≡ o
no_other None = refl
no_other (Some x) = refl

-- the first framing error among items
abbrev pub framing_in : List Item → Option DecodeError
framing_in [] = None
framing_in (Ok read ∷ later) = framing_in later
framing_in (Err rejected ∷ later) =
    option_map_or (λ a. framing_in later) rejected.attribute (Some rejected.error)

-- An attribute is no framing error.
attribute_is_no_framing : (a : Attribute) (later : List Item) (read : Result AnyValue DecodeError)
    → framing_in (result_map_both (λ (value : AnyValue). (a, value))
    (λ (e : DecodeError). record { attribute = Some a; error = e }) read ∷ later)
    ≡ framing_in later
attribute_is_no_framing a later (Ok value) = refl
attribute_is_no_framing a later (Err e) = refl

-- The framing error among items is that of the pieces.
framing_of_items : (read : Attribute → Result AnyValue DecodeError)
    (pieces : List AttributeOrError)
    → framing_in (map (item_by read) pieces) ≡ framing_error_of pieces
framing_of_items read [] = refl
framing_of_items read (Ok a ∷ later) =
    attribute_is_no_framing a (map (item_by read) later) (read a) ∙ framing_of_items read later
framing_of_items read (Err e ∷ later) = refl

-- What was found in all items is what they have.
pub all_is_found : (sockets : Sockets) (bytes : List ℕ) (left : List Item)
    (slots : List (Option (ℕ × AnyNla))) (end : Option DecodeError)
    (others : List (Attribute × Result Bool DecodeError)) → left ≡ []
    → (length slots ≡ 23) × ((k : ℕ) → k < 23
    → option_or (slot_value (slice_index_or slots k None)) (first_valid left k)
    ≡ first_valid (items_in sockets bytes) k)
    × (others ++ flat_map other_in_item left ≡ flat_map other_in_item (items_in sockets bytes))
    × (option_or end (framing_in left) ≡ framing_in (items_in sockets bytes))
    → record {
      sockets = sockets;
      first = map slot_value slots;
      others = others;
      end = end;
    } ≡ summary_of sockets bytes
unfolding summary_of
all_is_found sockets bytes left slots end others none (long, each, later, error) =
    rw (
      slots_are_first slots (first_valid (items_in sockets bytes)) long
          (λ k below. sym (no_other _) ∙ (rw none at each k below)),
      sym (append-nil others) ∙ (rw none at later),
      sym (no_other end) ∙ (rw none at error)
          ∙ framing_of_items (read_any sockets) (pieces_in bytes),
    ) refl

-- The error that was found in all items is the framing error.
pub error_is_found : (sockets : Sockets) (bytes : List ℕ) (left : List Item)
    (end : Option DecodeError) → left ≡ []
    → option_or end (framing_in left) ≡ framing_in (items_in sockets bytes)
    → end ≡ framing_error_of (pieces_in bytes)
error_is_found sockets bytes left end none error =
    sym (no_other end) ∙ (rw none at error)
    ∙ framing_of_items (read_any sockets) (pieces_in bytes)

-- The tokens of the members of mapped elements.
pub tokens_of_slots : {X Y : Type 0} (f : Y → List JsonMember) (g : X → Y) (xs : List X)
    → members_tokens (flat_map f (map g xs)) ≡ flat_map (λ x. members_tokens (f (g x))) xs
tokens_of_slots f g xs =
    tokens_of_each f (map g xs) ∙ flat_map-map (λ y. members_tokens (f y)) g xs

-- The tokens of the items of mapped elements.
pub tokens_of_others : {X Y : Type 0} (f : Y → Json) (g : X → Y) (xs : List X)
    → items_tokens (map f (map g xs)) ≡ flat_map (λ x. json_tokens (f (g x))) xs
tokens_of_others f g xs = items_of_map f (map g xs) ∙ flat_map-map (λ y. json_tokens (f y)) g xs

-- The texts of mapped elements.
pub mapped_texts : {X Y : Type 0} (f : Y → List ℕ) (g : X → Y) (xs : List X)
    → flat_map f (map g xs) ≡ flat_map (λ x. f (g x)) xs
mapped_texts f g xs = flat_map-map f g xs

-- what is appended for the attributes of a socket
pub ruleset detail_rules = (appended_texts_concatenate, mapped_texts)

-- The members of all attributes are those of the valid ones, and of the others.
pub attributes_are_valid_and_other : (s : Summary)
    → attributes_members s ≡ flat_map (valid_members s.sockets) s.first
    ++ array_member (codes "other_attributes") (map other_item s.others)
unfolding attributes_members
attributes_are_valid_and_other s = refl

-- the rules by which the members of all attributes are put together
pub ruleset attributes_rules = (json_rules, attributes_are_valid_and_other)

-- The members of an attribute are its type, its length and its bytes.
pub attribute_members_are : (a : Attribute) → attribute_members a
    ≡ number_members ((codes "kind", attribute_kind a) ∷ (codes "length", length a.value) ∷ [])
    ++ digits_member (codes "hex") a.value
unfolding attribute_members
attribute_members_are a = refl

-- the rules by which the members of an attribute are put together
pub ruleset attribute_rules = (json_rules, attribute_members_are)

-- The members of an unknown attribute are its type and its value.
pub unknown_item_members : (a : Attribute) (has_facts : Bool)
    → item_members a (Ok has_facts) ≡ attribute_members a
unfolding item_members
unknown_item_members a has_facts = refl

-- Those of an invalid one are also the reason.
pub invalid_item_members : (a : Attribute) (e : DecodeError)
    → item_members a (Err e) ≡ attribute_members a ++ text_member (codes "error") (error_reason e)
unfolding item_members
invalid_item_members a e = refl

-- the rules by which the members of an unknown or invalid attribute are put together
pub ruleset item_rules = (json_rules, unknown_item_members, invalid_item_members)

-- the rules by which the items of unknown and invalid attributes are put together
pub ruleset other_rules = (json_rules, tokens_of_others)
