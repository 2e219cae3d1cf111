-- Each decoded value is the model of its variant.
use Rattle.std.proofs.Common.{◌≡◌, inl, inr, refl}
use Rattle.netlink_core.specs.AttributeSet.{AttributeValue}
use Rattle.sock_diag_attributes.specs.InetAttributes.{inet_attribute_set}
use Rattle.sock_diag_attributes.specs.InetModel.{inet_variant, inet_variant_value}
use Rattle.sock_diag_attributes.specs.UnixAttributes.{unix_attribute_set}
use Rattle.sock_diag_attributes.specs.UnixModel.{unix_variant, unix_variant_value}

pub same_unix_variant : (v : AttributeValue unix_attribute_set)
    → unix_variant_value (unix_variant v) ≡ v
same_unix_variant (inl name) = refl
same_unix_variant (inr (inl file)) = refl
same_unix_variant (inr (inr (inl inode))) = refl
same_unix_variant (inr (inr (inr (inl inodes)))) = refl
same_unix_variant (inr (inr (inr (inr (inl queues))))) = refl
same_unix_variant (inr (inr (inr (inr (inr (inl memory)))))) = refl
same_unix_variant (inr (inr (inr (inr (inr (inr (inl state))))))) = refl
same_unix_variant (inr (inr (inr (inr (inr (inr (inr other))))))) = refl

pub same_inet_variant : (v : AttributeValue inet_attribute_set)
    → inet_variant_value (inet_variant v) ≡ v
same_inet_variant (inl memory) = refl
same_inet_variant (inr (inl info)) = refl
same_inet_variant (inr (inr (inl name))) = refl
same_inet_variant (inr (inr (inr (inl tos)))) = refl
same_inet_variant (inr (inr (inr (inr (inl class))))) = refl
same_inet_variant (inr (inr (inr (inr (inr (inl memory)))))) = refl
same_inet_variant (inr (inr (inr (inr (inr (inr (inl state))))))) = refl
same_inet_variant (inr (inr (inr (inr (inr (inr (inr (inl protocol)))))))) = refl
same_inet_variant (inr (inr (inr (inr (inr (inr (inr (inr (inl only))))))))) = refl
same_inet_variant (inr (inr (inr (inr (inr (inr (inr (inr (inr (inl mark)))))))))) = refl
same_inet_variant (inr (inr (inr (inr (inr (inr (inr (inr (inr (inr (inl class))))))))))) = refl
same_inet_variant (inr (inr (inr (inr (inr (inr (inr (inr (inr (inr (inr other))))))))))) = refl
