-- The numbers of the constants that definitions name.
use Rattle.std.proofs.Common.{◌≡◌, ◌^◌, [], ◌∷◌, refl}
use Rattle.sslist_facts.specs.declared.family_facts.TheConstants.{GROUP_BITS, MAX_MASK_LENGTH}
use Rattle.sslist_facts.specs.declared.number_names.TheConstants.{RCV_SHUTDOWN, SEND_SHUTDOWN}

-- the bits of `sk_shutdown` of the kernel
pub shutdown_bits : (RCV_SHUTDOWN ≡ 1) × (SEND_SHUTDOWN ≡ 2)
shutdown_bits = (refl, refl)

-- the bits of a byte, each with its index
pub group_bits : GROUP_BITS ≡ (1, 0) ∷ (2, 1) ∷ (4, 2) ∷ (8, 3) ∷ (16, 4) ∷ (32, 5) ∷ (64, 6)
    ∷ (128, 7) ∷ []
group_bits = refl

-- a number of bytes that no attribute has
pub longest_mask : MAX_MASK_LENGTH ≡ 2 ^ 16
longest_mask = refl
