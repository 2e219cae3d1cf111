use Rattle.std.proofs.Common.{ℕ, List, Bor, refl, arith}
use Rattle.netlink_core.proofs.ValueTests.{value_test}
use Rattle.netlink_core.specs.Walk.{buffered_attribute}
use Rattle.sock_diag_attributes.specs.laws.EqualName.{same_names}
use Rattle.sock_diag_attributes.specs.laws.EqualUnix.{unix_tests, unix_test_is_model_test}
use Rattle.sock_diag_attributes.specs.laws.EqualUnix.{list_views_model}
use Rattle.sock_diag_attributes.specs.laws.AttributeParts.{buffer_type, name_view_type}
use Rattle.sock_diag_attributes.specs.laws.AttributeParts.{numbers_type}
use Rattle.sock_diag_attributes.specs.laws.AttributeParts.{text_view_type}
use Rattle.sock_diag_attributes.specs.NameModel.{socket_name_model}
use Rattle.sock_diag_attributes.specs.NumbersModel.{numbers_view_model}
use Rattle.sock_diag_attributes.specs.UnixAttributes.{unix_attribute_set}
use Rattle.sock_diag_replies.specs.laws.EqualResponse.{attribute_test_decides_rest}
use Rattle.sock_diag_replies.proofs.unix.reply.UnixResponseHeaderReplyHeader.is_same.Goals as goal

pub returns-then-eq : goal.returns-then-eq
returns-then-eq c =
    let held = λ (b : Bor (List ℕ)). b.now in
    let attributes = c.same_views.ensures (value_test unix_attribute_set unix_tests)
    (unix_test_is_model_test name_view_type numbers_type buffer_type _ _ _
    (socket_name_model held) numbers_view_model
    buffered_attribute (same_names text_view_type _ held (λ _ _. refl)) list_views_model
    (λ _ _. refl)) in
    grind (arith, attribute_test_decides_rest, value_test, c.eq.ensures, attributes)
