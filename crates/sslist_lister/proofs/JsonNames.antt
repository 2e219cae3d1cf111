-- Two names of UNIX sockets never have the same JSON text.
use Rattle.std.proofs.Common.{arith, ◌≡◌, ℕ, List, ◌∙◌, Bool, true, false, cond, codes}
use Rattle.std.proofs.Common.{refl, sym, ap, Some, length, slice_index}
use Rattle.std.specs.Str.{is_utf8}
use Rattle.hex.specs.Hex.{IsBytes, decode_of, encode_lower}
use Rattle.hex.proofs.HexLemmas.{decode_of-encode_lower, decode_of-same}
use Rattle.json.specs.Json as json
use Rattle.json.proofs.Printed.Trees.{document-print}
use Rattle.sock_diag_attributes.specs.declared.unix.name.SocketName.{SocketName}
use Rattle.sock_diag_attributes.specs.declared.unix.name.SocketName.TheVariants.{Abstract, Pathname}
use Rattle.sslist_texts.specs.JsonData.{bytes_member, json_text}
use Rattle.sslist_texts.specs.JsonData.{text_member}
use Rattle.sslist_facts.specs.Facts.{bytes_facts}
use Rattle.sslist_lister.specs.AttributeFacts.{name_bytes_facts}
use Rattle.sslist_lister.specs.private.JsonNames.{HaveSameText, bytes_of_name}

-- the object with one member, a string
abbrev object_of_text : List ℕ → List ℕ → json.Json
object_of_text name text = json.object (json.member name (json.string text) json.no_members)

parsed : (name text : List ℕ)
    → json.document (json_text (object_of_text name text)) ≡ Some (object_of_text name text)
parsed name text = document-print (object_of_text name text) (tt, tt) (omega arith)

same_object : (k s l t : List ℕ) → Some (object_of_text k s) ≡ Some (object_of_text l t)
    → (k ≡ l) × (s ≡ t)
same_object k s l t e = (cc, cc)

one_member : (k s l t : List ℕ) → HaveSameText (text_member k s) (text_member l t)
    → (k ≡ l) × (s ≡ t)
unfolding text_member
one_member k s l t e = same_object k s l t (sym (parsed k s) ∙ ap json.document e ∙ parsed l t)

same_digits : (b c : List ℕ) → IsBytes b → IsBytes c → encode_lower b ≡ encode_lower c → b ≡ c
same_digits b c low_b low_c e =
    decode_of-same (encode_lower b) b c (decode_of-encode_lower b low_b)
    (ap decode_of e ∙ decode_of-encode_lower c low_c)

same_kind : (k h b c : List ℕ) → (k ≡ h → ⊥) → IsBytes b → IsBytes c → (q r : Bool)
    → HaveSameText (cond q (text_member k b) (text_member h (encode_lower b)))
    (cond r (text_member k c) (text_member h (encode_lower c)))
    → b ≡ c
same_kind k h b c apart low_b low_c true true e = (one_member k b k c e).1
same_kind k h b c apart low_b low_c true false e =
    absurd (apart (one_member k b h (encode_lower c) e).0)
same_kind k h b c apart low_b low_c false true e =
    absurd (apart (sym (one_member h (encode_lower b) k c e).0))
same_kind k h b c apart low_b low_c false false e =
    same_digits b c low_b low_c (one_member h (encode_lower b) h (encode_lower c) e).1

other_kind : (k h l i b c : List ℕ) → (k ≡ l → ⊥) → (k ≡ i → ⊥) → (h ≡ l → ⊥) → (h ≡ i → ⊥)
    → (q r : Bool)
    → HaveSameText (cond q (text_member k b) (text_member h (encode_lower b)))
    (cond r (text_member l c) (text_member i (encode_lower c)))
    → ⊥
other_kind k h l i b c kl ki hl hi true true e = kl (one_member k b l c e).0
other_kind k h l i b c kl ki hl hi true false e = ki (one_member k b i (encode_lower c) e).0
other_kind k h l i b c kl ki hl hi false true e = hl (one_member h (encode_lower b) l c e).0
other_kind k h l i b c kl ki hl hi false false e =
    hi (one_member h (encode_lower b) i (encode_lower c) e).0

other_length : (s t : List ℕ) → (length s ≡ length t → ⊥) → s ≡ t → ⊥
other_length s t apart same = apart (ap length same)

other_first : (s t : List ℕ) → (slice_index s 0 ≡ slice_index t 0 → ⊥) → s ≡ t → ⊥
other_first s t apart same = apart (ap (λ (u : List ℕ). slice_index u 0) same)

path_is_not_hex : codes "path" ≡ codes "path_hex" → ⊥
path_is_not_hex = other_length _ _ (λ same. omega (arith, same))

abstract_is_not_hex : codes "abstract" ≡ codes "abstract_hex" → ⊥
abstract_is_not_hex = other_length _ _ (λ same. omega (arith, same))

path_is_not_abstract : (p a : List ℕ) → slice_index p 0 ≡ 112 → slice_index a 0 ≡ 97 → p ≡ a → ⊥
path_is_not_abstract p a first other = other_first p a (λ same. omega (arith, first, other, same))

names_differ : (b c : List ℕ)
    → HaveSameText (name_bytes_facts (Pathname b)).members (name_bytes_facts (Abstract c)).members
    → ⊥
unfolding bytes_member bytes_facts
names_differ b c =
    other_kind (codes "path") (codes "path_hex") (codes "abstract") (codes "abstract_hex") b c
    (path_is_not_abstract _ _ refl refl) (path_is_not_abstract _ _ refl refl)
    (path_is_not_abstract _ _ refl refl) (path_is_not_abstract _ _ refl refl)
    (is_utf8 b) (is_utf8 c)

-- Names with the same text are equal.
pub names_with_same_text : (n m : SocketName (List ℕ)) → IsBytes (bytes_of_name n)
    → IsBytes (bytes_of_name m)
    → HaveSameText (name_bytes_facts n).members (name_bytes_facts m).members → n ≡ m
unfolding bytes_member bytes_facts
names_with_same_text (Pathname b) (Pathname c) low_b low_c e =
    ap Pathname (same_kind (codes "path") (codes "path_hex") b c path_is_not_hex low_b low_c
    (is_utf8 b) (is_utf8 c) e)
names_with_same_text (Abstract b) (Abstract c) low_b low_c e =
    ap Abstract (same_kind (codes "abstract") (codes "abstract_hex") b c abstract_is_not_hex low_b
    low_c (is_utf8 b) (is_utf8 c) e)
names_with_same_text (Pathname b) (Abstract c) low_b low_c e = absurd (names_differ b c e)
names_with_same_text (Abstract b) (Pathname c) low_b low_c e = absurd (names_differ c b (sym e))
