-- The first attribute that is found in bytes.
use Rattle.std.proofs.Common.{◌≡◌, ℕ, zero, suc, ◌+◌, ◌-◌, List, [], ◌∷◌, ◌++◌, take, drop, length}
use Rattle.std.proofs.Common.{inl, inr, refl, ap, append_assoc, arith}
use Rattle.std.proofs.lemmas.List.{take_at, drop_at, drop_all, length-append}
use Rattle.netlink_core.specs.Attribute.{Attribute, StartsWithAttribute, padding_length}
use Rattle.netlink_core.specs.Attribute.{header_and_value}
use Rattle.attribute_lists.specs.AttributesIn.{attributes_after}
use Rattle.byteorder.specs.Endian.{little_number}

-- the attributes after the first `n` bytes are the attributes at the start of the remaining bytes
attributes_after_drop : (n : ℕ) (bytes rest : List ℕ) → drop n bytes ≡ rest
    → attributes_after n bytes ≡ attributes_after 0 rest
unfolding attributes_after
attributes_after_drop zero bytes rest e = ap (attributes_after 0) e
attributes_after_drop (suc n) [] rest e = ap (attributes_after 0) e
attributes_after_drop (suc n) (b ∷ bs) rest e = attributes_after_drop n bs rest e

-- the attribute that bytes begin with is found first, by its length field
pub first_attribute_is_found : (bytes rest : List ℕ) (a : Attribute)
    → StartsWithAttribute bytes a rest
    → attributes_after 0 bytes ≡ a ∷ attributes_after 0 rest
unfolding attributes_after
first_attribute_is_found bytes rest a s =
    let all : List ℕ = header_and_value a ++ (s.padding ++ rest) in
    let long : little_number 2 all ≡ 4 + length a.value = omega (arith, s.fits) in
    let types : little_number 2 (drop 2 all) ≡ a.type_word = omega (arith, s.fits) in
    let value : take (little_number 2 all - 4) (drop 4 all) ≡ a.value =
    take_at a.value (s.padding ++ rest) _ (omega arith) in
    let reach : ℕ = little_number 2 all + padding_length (little_number 2 all) - 1 in
    let behind : drop reach (drop 1 (header_and_value a) ++ (s.padding ++ rest)) ≡ rest =
    elim s.filled [
      | inl full ↦ rw (← append_assoc) (drop_at (drop 1 (header_and_value a) ++ s.padding) rest _
          (omega (arith, full, length-append a.value s.padding)))
      | inr short ↦ rw short.1 (drop_all reach (drop 1 (header_and_value a) ++ (s.padding ++ []))
          (omega (arith, short.0, length-append a.value, length-append s.padding [])))
    ] in
    rw s.parts (λ i. record { type_word = types i; value = value i }
    ∷ attributes_after_drop reach (drop 1 all) rest behind i)

pub no_attribute_is_found : attributes_after 0 [] ≡ []
unfolding attributes_after
no_attribute_is_found = refl
