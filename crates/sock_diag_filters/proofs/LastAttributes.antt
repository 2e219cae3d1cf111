-- The last program and the last protocol, updated by one attribute after another.
use Rattle.std.proofs.Common.{arith, ◌≡◌, List, [], ◌∷◌, ◌++◌, Option, Some, None, refl}
use Rattle.std.specs.List.{filter_map, last_or}
use Rattle.std.proofs.lemmas.List.Elements.{filter_map-append}
use Rattle.sock_diag_filters.specs.declared.request.RequestAttribute.{RequestAttribute}
use Rattle.sock_diag_filters.specs.declared.view.Found.{Found}
use Rattle.sock_diag_filters.specs.InetRequests.{HasLastContents, RequestContent, other_content}
use Rattle.sock_diag_filters.specs.InetRequests.{program_in, protocol_in}
use Rattle.sock_diag_filters.specs.private.AttributeSearch.{found_attributes_after}
use Rattle.sock_diag_filters.specs.private.AttributeSearch.{optional_request_content}

last_or-append : {A : Type 0} (o : Option A) (xs ys : List A)
    → last_or o (xs ++ ys) ≡ last_or (last_or o xs) ys
last_or-append o [] ys = refl
last_or-append o (x ∷ xs) ys = last_or-append (Some x) xs ys

-- The last value in a longer list is the value of the added element, if it has one.
last_more : {A B : Type 0} (f : A → Option B) (xs : List A) (x : A)
    → last_or None (filter_map f (xs ++ x ∷ []))
    ≡ last_or (last_or None (filter_map f xs)) (filter_map f (x ∷ []))
last_more f xs x =
    grind (arith, filter_map-append f xs (x ∷ []), last_or-append)

pub has_last_contents_after : (found : Found) (decoded : List RequestContent)
    (o : Option RequestAttribute)
    → HasLastContents found decoded
    → HasLastContents (found_attributes_after found o) (decoded ++ optional_request_content o ∷ [])
has_last_contents_after found decoded o keeps =
    grind (
      arith,
      last_more program_in decoded other_content,
      last_more protocol_in decoded other_content,
      last_more program_in decoded,
      last_more protocol_in decoded,
    )
