-- Tokens of members of JSON objects.
use Rattle.std.proofs.Common.{◌≡◌, ℕ, List, [], ◌∷◌, ◌++◌, ◌∙◌}
use Rattle.std.proofs.Common.{refl, sym, ap, append_assoc}
use Rattle.std.proofs.Common.{append-nil}
use Rattle.std.proofs.lemmas.Grind.{flat_map-append}
use Rattle.json.specs.Token.{Token, begin_object, end_object, key}
use Rattle.json.specs.Tree as tree
use Rattle.sslist_texts.specs.JsonData.{JsonMember, members_of}
use Rattle.sslist_texts.specs.JsonData.{object_member}
use Rattle.sslist_texts.specs.JsonWriting.{members_tokens}

-- Tokens of a concatenation of members are concatenated.
pub tokens_append : (xs ys : List JsonMember)
    → members_tokens (xs ++ ys) ≡ members_tokens xs ++ members_tokens ys
unfolding members_tokens
tokens_append xs ys =
    flat_map-append (λ (m : JsonMember). key m.0 ∷ tree.json_tokens m.1) xs ys

-- the tokens of an object, after its beginning
pub object_end : (members : List JsonMember)
    → tree.members_tokens (members_of members) ≡ members_tokens members ++ end_object ∷ []
unfolding members_tokens
object_end [] = refl
object_end (m ∷ later) =
    ap (λ (t : List Token). key m.0 ∷ (tree.json_tokens m.1 ++ t)) (object_end later)
    ∙ ap (λ (t : List Token). key m.0 ∷ t) (sym (append_assoc (tree.json_tokens m.1) _ _))

-- the tokens of a member whose value is an object
pub object_member_tokens : (name : List ℕ) (members : List JsonMember)
    → members_tokens (object_member name members)
    ≡ key name ∷ begin_object ∷ (members_tokens members ++ end_object ∷ [])
unfolding members_tokens object_member
object_member_tokens name members =
    ap (λ (t : List Token). key name ∷ begin_object ∷ t)
    (append-nil (tree.members_tokens (members_of members)) ∙ object_end members)
