-- The tokens of facts in JSON.
use Rattle.std.specs.Prelude.{◌≡◌, ℕ, List, [], ◌∷◌, ◌++◌, refl}
use Rattle.json.specs.Token.{begin_object, end_object, key}
use Rattle.sslist_texts.specs.laws.MemberTokens.{object_member_tokens}
use Rattle.sslist_texts.specs.JsonData.{JsonMember, object_member}
use Rattle.sslist_texts.specs.JsonWriting.{members_tokens}

-- No members have no tokens.
pub no_tokens : members_tokens [] ≡ []
unfolding members_tokens
no_tokens = refl

-- the tokens of a group
pub group_tokens : (name : List ℕ) (members : List JsonMember)
    → members_tokens (object_member name members)
    ≡ (key name ∷ begin_object ∷ []) ++ (members_tokens members ++ end_object ∷ [])
group_tokens name members = object_member_tokens name members
